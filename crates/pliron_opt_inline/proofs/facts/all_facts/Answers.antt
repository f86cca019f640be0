use Rattle.std.proofs.Common.{◌≡◌, Some, true, length, ⊎_elim, refl, sym, ap, ◌∙◌, subst, arith, rules}
use Rattle.std.specs.List.{slice_get}
use Rattle.std.proofs.lemmas.Option.{slice_get_read}
use Rattle.pliron_core.proofs.HoldingLemmas.{some_is}
use Rattle.pliron_theory.specs.Keeps.{IsFit}
use Rattle.pliron_opt_inline.specs.declared.facts.FunctionFacts.{FunctionFacts}
use Rattle.pliron_opt_inline.proofs.RowLemmas.{last_or}
use Rattle.pliron_opt_inline.proofs.facts.all_facts.Goals as goal

pub loop-i-preserved : goal.loop-i-preserved
loop-i-preserved g c =
    let m = g.D.HasMeaning.meaning in
    let t = c.args.ctx.now.tree in
    let fs = c.args.functions.now in
    let i = c.loop-i.i in
    let before = c.loop-i.facts.items in
    let known = c.in_ok-known.known in
    let function = c.index-functions-i.result in
    let at = slice_get_read fs (length fs) i function refl c.loop-i-test.true c.index-functions-i.is in
    let long = c.loop-i.invariant.long in
    let ok = c.loop-i.facts.ok.0 in
    record {
      long = search rules;
      fit = λ n f x at_f at_x admitted.
          ⊎_elim
          (λ a. c.loop-i.invariant.fit n f x at_f a admitted)
          (λ b.
          let same : n ≡ i = let e = b.0 in omega (arith, e, long, ok) in
          let is_it = some_is (sym at ∙ ap (slice_get fs) (sym same) ∙ at_f) in
          subst (λ z. IsFit m t z) is_it (c.in_ok-known.ensures.fit (subst (λ (z : FunctionFacts). z.is_admitted ≡ true) b.1 admitted)))
          (last_or before known x n (subst (λ xs. slice_get xs n ≡ Some x) c.in_ok-push.ensures.items at_x));
    }
