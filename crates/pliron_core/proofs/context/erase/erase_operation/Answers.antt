use Rattle.std.proofs.Common.{◌≡◌, nat_eq, sym, ap, ◌∙◌, subst}
use Rattle.pliron_core.specs.Tree.{View, IsLive}
use Rattle.pliron_core.specs.Writes.{taken_out}
use Rattle.pliron_core.specs.Erased.{names_dropped}
use Rattle.pliron_core.proofs.ErasedLemmas.{erase_live, erase_free, erase_unused, erase_done, taken-live}
use Rattle.pliron_core.proofs.context.erase.erase_operation.Goals as goal
use Rattle.pliron_core.proofs.context.erase.erase_operation.Goals.{After-drop_names_within}

dropped : (c : After-drop_names_within) → c.drop_names_within.new.ctx.tree ≡ names_dropped (taken_out c.args.ctx.now.tree c.args.op) (nat_eq c.args.op)
dropped c = c.drop_names_within.ensures ∙ ap (λ (v : View). names_dropped v.tree (nat_eq c.args.op)) c.take_out.ensures

pub drop_names_within-requires : goal.drop_names_within-requires
drop_names_within-requires c = subst (λ (v : View). IsLive v.tree c.args.op) (sym c.take_out.ensures) (taken-live c.args.ctx.now.tree c.args.op c.requires.live)

pub dismantle-requires-clause-live : goal.dismantle-requires-clause-live
dismantle-requires-clause-live c = erase_live c.args.ctx.now.tree c.args.op c.drop_names_within.new.ctx.tree c.well_formed-2.ensures.tree c.requires.live (dropped (goal.at.dismantle-requires-clause-live c).After-drop_names_within)

pub dismantle-requires-clause-free : goal.dismantle-requires-clause-free
dismantle-requires-clause-free c = erase_free c.args.ctx.now.tree c.args.op c.drop_names_within.new.ctx.tree c.well_formed-2.ensures.tree c.requires.live (dropped (goal.at.dismantle-requires-clause-free c).After-drop_names_within)

pub dismantle-requires-clause-unused : goal.dismantle-requires-clause-unused
dismantle-requires-clause-unused c = erase_unused c.args.ctx.now.tree c.args.op c.drop_names_within.new.ctx.tree c.well_formed-2.ensures.tree c.requires.live c.requires.contained c.well_formed-3.ensures.tree (dropped (goal.at.dismantle-requires-clause-unused c).After-drop_names_within)

pub returns : goal.returns
returns c = c.dismantle.ensures ∙ erase_done c.args.ctx.now.tree c.args.op c.drop_names_within.new.ctx.tree (dropped (goal.at.returns c).After-drop_names_within)
