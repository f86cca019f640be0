use Rattle.std.proofs.Common.{◌≡◌, ◌⊎◌, ◌≤◌, length, Some, slice_get, refl, sym, ap, ◌∙◌, inl, inr, arith}
use Rattle.std.proofs.lemmas.Bool.{false≢true}
use Rattle.pliron_core.specs.Tree.{successors_of, uses_of}
use Rattle.pliron_core.proofs.EdgeLemmas.{same_key, first-whole}
use Rattle.pliron_core.proofs.context.edge_reads.is_first_edge.Goals as goal
use Rattle.pliron_core.proofs.context.edge_reads.is_first_edge.Goals.{then-place-uses, else-place-uses}

pub returns-then-before-place : goal.returns-then-before-place
returns-then-before-place c =
    let same : c.get_use-other.result.0 ≡ c.args.user = same_key _ _ c.if-eq-2.ensures in
    let there : slice_get (successors_of c.args.ctx.now.tree c.args.user) c.get_use-other.result.1 ≡ Some c.args.block = ap (λ z. slice_get (successors_of c.args.ctx.now.tree z) c.get_use-other.result.1) (sym same) ∙ c.well_formed-2.ensures.uses.block_uses.listed _ _ _ c.get_use-other.ensures.listed in
    (λ e. absurd (false≢true e), λ first. absurd (first c.get_use-other.result.1 c.if-before-place.true there))

pub returns : goal.returns
returns c =
    let whole : (c.args.place ≤ c.loop-k.k) ⊎ (length (uses_of c.args.ctx.now.block_uses c.args.block) ≤ c.loop-k.k) =
    elim c.if-place-uses.branch [ then-place-uses w ↦ inl (omega arith) | else-place-uses w ↦ inr (omega arith) ] in
    (λ e. first-whole c.args.ctx.now c.well_formed-2.ensures.uses c.args.block c.args.user c.args.place c.loop-k.k c.loop-k.invariant.back c.loop-k.invariant.forth whole, λ first. refl)
