use Rattle.std.proofs.Common.{◌≡◌, ◌++◌, ◌∷◌, [], ◌≤◌, length, take, ⊎_elim, arith, sym, ap, ◌∙◌, subst, true, refl}
use Rattle.std.proofs.lemmas.Bool.{false≢true}
use Rattle.std.proofs.lemmas.List.{take_more, take_all}
use Rattle.std.proofs.lemmas.Option.{slice_get_read}
use Rattle.pliron_core.specs.Tree.{In, IsWithin}
use Rattle.pliron_core.proofs.ListLemmas.{In-cases}
use Rattle.pliron_core.proofs.ReadLemmas.{In-at}
use Rattle.pliron_opt_symbols.proofs.traced.are_traced.Goals as goal

pub returns-then-not-branch-clause-traced : goal.returns-then-not-branch-clause-traced
returns-then-not-branch-clause-traced g c =
    let ks = c.args.functions.now in
    let x = c.function-item.result in
    let i = c.loop-function.function-index in
    let listed : In x ks = In-at ks i x (slice_get_read ks (length ks) i x refl c.loop-function-test.true c.function-item.is) in (
      λ e. absurd (false≢true e),
      λ all. absurd (false≢true (sym c.if-not-branch.true ∙ c.in_ok-is_traced_within.ensures.traced.1 (λ k within. all x k listed within))),
    )

pub loop-function-preserved : goal.loop-function-preserved
loop-function-preserved g c = λ f k j within.
    let ks = c.args.functions.now in
    let i = c.loop-function.function-index in
    let x = c.function-item.result in
    let more = take_more ks i x c.loop-function-test.true ∙ ap (λ z. take i ks ++ z ∷ []) (sym c.function-item.is) in
    ⊎_elim
    (λ old. c.loop-function.invariant f k old within)
    (λ new. ⊎_elim (λ same. c.in_ok-is_traced_within.ensures.traced.0 c.if-not-branch.false k (subst (λ z. IsWithin c.args.ctx.now.tree z k) same within)) (λ z. absurd z) new)
    (In-cases f (take i ks) (x ∷ []) (subst (In f) more j))

pub returns-clause-traced : goal.returns-clause-traced
returns-clause-traced g c =
    let ks = c.args.functions.now in
    let all : length ks ≤ c.loop-function.function-index = omega (arith, c.loop-function-test.false) in (
      λ e f k j within. c.loop-function.invariant f k (subst (In f) (sym (take_all c.loop-function.function-index ks all)) j) within,
      λ any. refl,
    )
