use Rattle.pliron_theory.proofs.WholeChanges.{whole_refl, whole_trans}
use Rattle.pliron_opt_rotate.proofs.Whole.{rotating_start, rotating_on}
use Rattle.pliron_opt_rotate.proofs.rotate_all.Goals as goal

pub headers_inside-requires-clause-edges : goal.headers_inside-requires-clause-edges
headers_inside-requires-clause-edges g c = c.requires.linked.edges

pub returns-in_err-headers-clause-change : goal.returns-in_err-headers-clause-change
returns-in_err-headers-clause-change g c = whole_refl g.D.HasMeaning.meaning c.args.ctx.now.tree c.args.op c.requires.live c.requires.linked

pub loop-i-init : goal.loop-i-init
loop-i-init g c = record { rotating = rotating_start g.D.HasMeaning.meaning c.args.ctx.now.tree c.args.op c.requires.live c.requires.linked; younger = c.requires.younger }

pub rotate_at-rotated-requires-clause-live : goal.rotate_at-rotated-requires-clause-live
rotate_at-rotated-requires-clause-live g c = c.loop-i.invariant.rotating.change.liveness

pub rotate_at-rotated-requires-clause-linked : goal.rotate_at-rotated-requires-clause-linked
rotate_at-rotated-requires-clause-linked g c = c.loop-i.invariant.rotating.change.linked

pub returns-in_err-rotated-clause-change : goal.returns-in_err-rotated-clause-change
returns-in_err-rotated-clause-change g c = whole_trans g.D.HasMeaning.meaning c.args.ctx.now.tree c.loop-i.ctx.tree c.rotate_at-rotated.new.ctx.tree c.args.op c.loop-i.invariant.rotating.change c.in_err-rotated.ensures.change

pub loop-i-preserved : goal.loop-i-preserved
loop-i-preserved g c = record {
  rotating = rotating_on g.D.HasMeaning.meaning c.args.ctx.now.tree c.loop-i.ctx.tree c.rotate_at-rotated.new.ctx.tree c.args.op c.loop-i.status c.in_ok-rotated.field-0 _ c.loop-i.invariant.rotating c.in_ok-rotated.ensures.change c.in_ok-rotated.ensures.accurate c.bitor_assign.ensures.after;
  younger = c.in_ok-rotated.ensures.younger;
}

pub returns-clause-change : goal.returns-clause-change
returns-clause-change g c = c.loop-i.invariant.rotating.change

pub returns-clause-accurate : goal.returns-clause-accurate
returns-clause-accurate g c = c.loop-i.invariant.rotating.accurate

pub rotate_at-rotated-requires-clause-younger : goal.rotate_at-rotated-requires-clause-younger
rotate_at-rotated-requires-clause-younger g c = c.loop-i.invariant.younger

pub returns-clause-younger : goal.returns-clause-younger
returns-clause-younger g c = c.loop-i.invariant.younger
