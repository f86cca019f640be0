use Rattle.std.proofs.Common.{List, IfOk, IsTrue, ◌↔◌, sym, subst}
use Rattle.pliron_theory.specs.Edges.{KeepsEdges}
use Rattle.pliron_opt_dce.specs.Dead.{Item}
use Rattle.pliron_opt_dce.specs.Erasing.{IsSweptSoFar, LeavesNoDead, SomeHasRegions, ReportsErased}
use Rattle.pliron_opt_dce.proofs.sweep.sweep.Goals as goal

pub returns-clause-deleted : goal.returns-clause-deleted
returns-clause-deleted g c =
    let m = g.D.HasMeaning.meaning in
    let effects = g.D.SideEffects.side_effects in
    let removable = g.D.BlockArgRemoval.removable in
    let t = c.args.ctx.now.tree in
    subst (λ z. (deleted : List Item) × IsSweptSoFar m g.D.Dialect.shortened effects removable t z.tree c.args.root deleted × IfOk c.erase_all_dead-swept.result (λ a. LeavesNoDead m effects removable t z.tree c.args.root × ReportsErased deleted a.0 × (IsTrue a.1 ↔ SomeHasRegions t deleted)))
    (sym c.settle.ensures) c.erase_all_dead-swept.ensures.deleted

pub returns-clause-edges : goal.returns-clause-edges
returns-clause-edges g c = subst (λ z. IfOk c.erase_all_dead-swept.result (λ a. (IsTrue a.1 → ⊥) → KeepsEdges c.args.ctx.now.tree z.tree)) (sym c.settle.ensures) c.erase_all_dead-swept.ensures.edges
