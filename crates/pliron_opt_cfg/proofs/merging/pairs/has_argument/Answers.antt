use Rattle.std.proofs.Common.{sym, ap, ◌∙◌, subst, arith, refl, Some}
use Rattle.std.proofs.lemmas.Option.{slice_get-get_or}
use Rattle.std.proofs.lemmas.Bool.{false≢true}
use Rattle.pliron_core.proofs.HoldingLemmas.{in_slice}
use Rattle.pliron_core.proofs.EdgeLemmas.{same_key}
use Rattle.pliron_core.proofs.NextLemmas.{keys_differ}
use Rattle.pliron_core.proofs.ContainedLemmas.{passed-more, passed-all}
use Rattle.pliron_core.specs.Tree.{In, arguments_of}
use Rattle.pliron_opt_cfg.proofs.PairLemmas.{argument_told, other_argument, another_maker}
use Rattle.pliron_opt_cfg.proofs.merging.pairs.has_argument.Goals as goal
use Rattle.pliron_opt_cfg.proofs.merging.pairs.has_argument.Goals.{in-Argument+else-eq, in_default}

pub def-requires : goal.def-requires
def-requires c =
    let at = slice_get-get_or c.args.values.now c.loop-value.value-index _ c.loop-value-test.true ∙ ap Some (sym c.value-item.is) in
    c.requires c.value-item.result (in_slice c.args.values.now c.loop-value.value-index c.value-item.result at)

pub returns-then-eq : goal.returns-then-eq
returns-then-eq c =
    let t = c.args.ctx.now.tree in
    let at = slice_get-get_or c.args.values.now c.loop-value.value-index _ c.loop-value-test.true ∙ ap Some (sym c.value-item.is) in
    let i = in_slice c.args.values.now c.loop-value.value-index c.value-item.result at in
    let own = same_key c.in-Argument.owner c.args.block (sym c.if-eq.true ∙ c.eq.ensures) in
    (λ _. (c.value-item.result, i, subst (λ z. In c.value-item.result (arguments_of t z)) own (argument_told t c.well_formed-2.ensures.tree c.in-Argument.owner c.in-Argument.field-1 c.value-item.result (c.requires c.value-item.result i) c.in-Argument.ensures.definition)), λ _. refl)

pub loop-value-preserved : goal.loop-value-preserved
loop-value-preserved c =
    let t = c.args.ctx.now.tree in
    let w = c.well_formed-2.ensures.tree in
    let at = slice_get-get_or c.args.values.now c.loop-value.value-index _ c.loop-value-test.true ∙ ap Some (sym c.value-item.is) in
    passed-more (λ v. In v (arguments_of t c.args.block) → ⊥) c.args.values.now c.loop-value.value-index c.value-item.result c.loop-value.invariant at
    (elim c.match-def.branch [
      | in-Argument+else-eq k ↦ other_argument t w c.args.block k.in-Argument.owner k.in-Argument.field-1 c.value-item.result k.in-Argument.ensures.definition (keys_differ k.in-Argument.owner c.args.block (sym k.if-eq.false ∙ k.eq.ensures))
      | in_default k ↦ λ i. another_maker t w c.args.block c.value-item.result c.def.result c.def.ensures.definition k.in_default.not-Argument i
    ])

pub returns : goal.returns
returns c =
    let all = passed-all (λ v. In v (arguments_of c.args.ctx.now.tree c.args.block) → ⊥) c.args.values.now c.loop-value.value-index c.loop-value.invariant (omega arith) in
    (λ e. absurd (false≢true e), λ x. absurd (all x.0 x.1 x.2))
