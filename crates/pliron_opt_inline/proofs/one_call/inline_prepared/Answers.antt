use Rattle.pliron_opt_inline.proofs.InTurnLemmas.{in_turn_laws}
use Rattle.pliron_opt_inline.proofs.OneCallLemmas.{unchanged, inlined_heads}
use Rattle.pliron_opt_inline.proofs.one_call.inline_prepared.Goals as goal

pub returns-then-not-may_be_inlined-clause-keeps : goal.returns-then-not-may_be_inlined-clause-keeps
returns-then-not-may_be_inlined-clause-keeps g c = unchanged g.D.HasMeaning.meaning c.args.ctx.now.tree

pub returns-clause-keeps : goal.returns-clause-keeps
returns-clause-keeps g c = in_turn_laws.one g.D.HasMeaning.meaning g.D.InliningDialect.convention c.args.ctx.now.tree c.inline_call.new.ctx.tree c.args.call c.args.callee g.symbol c.well_formed-2.ensures.tree c.well_formed-3.ensures.tree c.requires.1.1.1.1.1 c.in_ok-copies.ensures.inlined

pub returns-clause-heads : goal.returns-clause-heads
returns-clause-heads g c = inlined_heads g.D.HasMeaning.meaning g.D.InliningDialect.convention c.args.ctx.now.tree c.inline_call.new.ctx.tree c.args.call c.args.callee g.symbol c.in_ok-copies.ensures.inlined c.requires.1.1.1.1.0
