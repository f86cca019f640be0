use Rattle.pliron_theory.proofs.WholeChanges.{whole_refl}
use Rattle.pliron_opt_rotate.proofs.Whole.{rotated_whole}
use Rattle.pliron_opt_rotate.proofs.rotate_so.Goals as goal

pub returns-in_err-may-clause-change : goal.returns-in_err-may-clause-change
returns-in_err-may-clause-change g c = whole_refl g.D.HasMeaning.meaning c.args.ctx.now.tree c.args.op c.requires.live c.requires.linked

pub returns-then-not-may-clause-change : goal.returns-then-not-may-clause-change
returns-then-not-may-clause-change g c = whole_refl g.D.HasMeaning.meaning c.args.ctx.now.tree c.args.op c.requires.live c.requires.linked

pub rotate_loop-rotated-requires : goal.rotate_loop-rotated-requires
rotate_loop-rotated-requires g c = c.in_ok-may.ensures.may c.if-not-may.false

pub returns-in_err-copy-clause-change : goal.returns-in_err-copy-clause-change
returns-in_err-copy-clause-change g c = rotated_whole g.D.HasMeaning.meaning c.args.ctx.now.tree c.rotate_loop-rotated.new.ctx.tree c.args.op c.args.rotation.now.header c.well_formed-2.ensures.tree c.requires.live c.requires.linked (c.in_ok-may.ensures.held c.if-not-may.false) c.in_err-copy.ensures.holders c.in_err-copy.ensures.runs

pub returns-in_err-noted-clause-change : goal.returns-in_err-noted-clause-change
returns-in_err-noted-clause-change g c = rotated_whole g.D.HasMeaning.meaning c.args.ctx.now.tree c.rotate_loop-rotated.new.ctx.tree c.args.op c.args.rotation.now.header c.well_formed-2.ensures.tree c.requires.live c.requires.linked (c.in_ok-may.ensures.held c.if-not-may.false) c.in_ok-copy.ensures.holders c.in_ok-copy.ensures.runs

pub returns-clause-change : goal.returns-clause-change
returns-clause-change g c = rotated_whole g.D.HasMeaning.meaning c.args.ctx.now.tree c.rotate_loop-rotated.new.ctx.tree c.args.op c.args.rotation.now.header c.well_formed-2.ensures.tree c.requires.live c.requires.linked (c.in_ok-may.ensures.held c.if-not-may.false) c.in_ok-copy.ensures.holders c.in_ok-copy.ensures.runs
