use Rattle.std.proofs.Common.{ℕ, ◌+◌, ◌≤◌, length, Option, sym, subst, ◌∙◌, arith}
use Rattle.std.proofs.lemmas.Bool.{false≢true}
use Rattle.std.proofs.lemmas.Option.{MatchOption-at_none}
use Rattle.pliron_core.specs.Tree.{uses_of}
use Rattle.pliron_core.specs.EdgeUses.{IsSource, IsEdge}
use Rattle.pliron_core.proofs.EdgeLemmas.{IsSeen, is-edge, not-edge, seen-same, seen-first, seen-again, seen-all, seen-some, seen-two, other_key, not_other}
use Rattle.pliron_core.proofs.context.edge_reads.Ptr+BasicBlock.has_single_predecessor.Goals as goal
use Rattle.pliron_core.proofs.context.edge_reads.Ptr+BasicBlock.has_single_predecessor.Goals.{in_default-None, in-None-Some, in-Some-Some+else-ne}

pub returns-then-ne : goal.returns-then-ne
returns-then-ne c =
    let seen = subst (λ o. IsSeen c.args.ctx.now c.args.self c.loop-i.i o) c.in-Some-Some.is-0 c.loop-i.invariant in
    let here = is-edge c.args.ctx.now c.args.self c.loop-i.i c.get_use.result.0 c.get_use.result.1 c.in-Some-Some.source c.get_use.ensures.listed c.in-Some-Some.ensures in (
      λ e. absurd (false≢true e),
      λ one.
          absurd (
          seen-two c.args.ctx.now c.well_formed-2.ensures.tree c.well_formed-2.ensures.uses c.args.self c.loop-i.i c.in-Some-Some.first c.in-Some-Some.source c.requires seen here (other_key _ _ c.if-ne.ensures) one
          ),
    )

pub loop-i-preserved : goal.loop-i-preserved
loop-i-preserved c =
    let P = λ (i : ℕ) (o : Option ℕ). IsSeen c.args.ctx.now c.args.self i o in
    elim c.match-edge_source.branch [
      | in_default-None w ↦
          let out = MatchOption-at_none ((a : ℕ) → IsSource c.args.ctx.now.tree c.args.self c.get_use.result.0 a → ⊥) (λ a. IsSource c.args.ctx.now.tree c.args.self c.get_use.result.0 a) w.in_default-None.is-1 c.edge_source.ensures in
          subst (P (c.loop-i.i + 1)) (sym w.found-is) (seen-same c.args.ctx.now c.args.self c.loop-i.i c.loop-i.found c.loop-i.invariant (not-edge c.args.ctx.now c.args.self c.loop-i.i c.get_use.result.0 c.get_use.result.1 c.get_use.ensures.listed out))
      | in-None-Some w ↦
          let here = is-edge c.args.ctx.now c.args.self c.loop-i.i c.get_use.result.0 c.get_use.result.1 w.in-None-Some.source c.get_use.ensures.listed w.in-None-Some.ensures in
          subst (P (c.loop-i.i + 1)) (sym w.found-is) (seen-first c.args.ctx.now c.args.self c.loop-i.i w.in-None-Some.source (subst (P c.loop-i.i) w.in-None-Some.is-0 c.loop-i.invariant) here)
      | in-Some-Some+else-ne w ↦
          let here = is-edge c.args.ctx.now c.args.self c.loop-i.i c.get_use.result.0 c.get_use.result.1 w.in-Some-Some.source c.get_use.ensures.listed w.in-Some-Some.ensures in
          let same = not_other w.in-Some-Some.first w.in-Some-Some.source w.if-ne.ensures in
          let again = seen-again c.args.ctx.now c.args.self c.loop-i.i w.in-Some-Some.first (subst (P c.loop-i.i) w.in-Some-Some.is-0 c.loop-i.invariant) (subst (λ a. IsEdge c.args.ctx.now c.args.self c.loop-i.i a) (sym same) here) in
          subst (P (c.loop-i.i + 1)) (sym w.found-is) (subst (P (c.loop-i.i + 1)) (sym w.in-Some-Some.is-0) again)
    ]

pub returns : goal.returns
returns c =
    let whole : length (uses_of c.args.ctx.now.block_uses c.args.self) ≤ c.loop-i.i = omega arith in (
      λ e. seen-all c.args.ctx.now c.well_formed-2.ensures.tree c.well_formed-2.ensures.uses c.args.self c.loop-i.i c.loop-i.found c.requires whole c.loop-i.invariant (sym c.is_some.ensures ∙ e),
      λ one. c.is_some.ensures ∙ seen-some c.args.ctx.now c.well_formed-2.ensures.tree c.well_formed-2.ensures.uses c.args.self c.loop-i.i c.loop-i.found whole c.loop-i.invariant one,
    )
