use Rattle.std.proofs.Common.{◌≡◌, ℕ, Option, Some, None, IfNone, slice_get, sym, ap, ◌∙◌, subst}
use Rattle.std.proofs.lemmas.Option.{slice_get_within}
use Rattle.std.proofs.lemmas.Result.{IfOk-weaker}
use Rattle.pliron_core.specs.declared.uses.Use.{Use}
use Rattle.pliron_core.specs.Tree.{uses_of, successors_of}
use Rattle.pliron_core.proofs.HoldingLemmas.{some_is}
use Rattle.pliron_laws.specs.Answers.{HeadPasses, IsForwardedAt}
use Rattle.pliron_rewrite_arguments.specs.Finding.{EdgeForwards}
use Rattle.pliron_rewrite_arguments.proofs.FindingLemmas.{no_branch, edges_to, none_forwarded}
use Rattle.pliron_rewrite_arguments.proofs.finding.forwarded_along.Goals as goal

pub returns-then-not-is_branch-clause-none : goal.returns-then-not-is_branch-clause-none
returns-then-not-is_branch-clause-none g c = λ e v at f.
    let same : c.get_use-branch.result.0 ≡ e.user = ap (λ z. z.user) (some_is (sym c.get_use-branch.ensures.listed ∙ at)) in
    no_branch g.D.HasMeaning.meaning c.args.ctx.now.tree c.get_use-branch.result.0 c.is_branch.result c.get_use-branch.ensures.liveness c.is_branch.ensures c.if-not-is_branch.true
    (subst (HeadPasses g.D.HasMeaning.meaning.is_branch c.args.ctx.now.tree) (sym same) f.0)

pub successor_operand-requires-clause-edge : goal.successor_operand-requires-clause-edge
successor_operand-requires-clause-edge g c =
    slice_get_within (successors_of c.args.ctx.now.tree c.get_use-branch.result.0) c.get_use-branch.result.1 c.args.block
    (c.well_formed-2.ensures.uses.block_uses.listed c.args.block c.args.i (record { user = c.get_use-branch.result.0; place = c.get_use-branch.result.1 }) c.get_use-branch.ensures.listed)

pub returns-clause-none : goal.returns-clause-none
returns-clause-none g c = IfOk-weaker c.successor_operand.result _ _ (λ o is. go o is) c.successor_operand.ensures.ok
  where
    go : (o : Option ℕ) → IsForwardedAt g.D.HasMeaning.meaning c.args.ctx.now.tree c.get_use-branch.result.0 c.get_use-branch.result.1 c.args.index o → IfNone o ((e : Use) → (v : ℕ) → slice_get (uses_of c.args.ctx.now.block_uses c.args.block) c.args.i ≡ Some e → EdgeForwards g.D.HasMeaning.meaning c.args.ctx.now.tree e c.args.index v → ⊥)
    go None is = λ e v at f.
        let same = some_is (sym c.get_use-branch.ensures.listed ∙ at) in
        none_forwarded g.D.HasMeaning.meaning c.args.ctx.now.tree c.well_formed-2.ensures.tree c.args.block c.args.index 0 (uses_of c.args.ctx.now.block_uses c.args.block) (edges_to c.args.ctx.now c.well_formed-2.ensures.uses c.args.block) c.args.i e v at (subst (λ z. IsForwardedAt g.D.HasMeaning.meaning c.args.ctx.now.tree z.user z.place c.args.index None) same is) f
    go (Some x) is = tt
