use Rattle.std.proofs.Common.{◌≡◌, ◌++◌, ◌∷◌, [], ◌≤◌, length, take, ⊎_elim, arith, sym, ap, ◌∙◌, subst, true, refl}
use Rattle.std.proofs.lemmas.Bool.{false≢true}
use Rattle.std.proofs.lemmas.List.{take_more, take_all}
use Rattle.std.proofs.lemmas.Option.{slice_get_read}
use Rattle.pliron_core.specs.Tree.{In, head_of}
use Rattle.pliron_laws.specs.Answers.{HeadPasses}
use Rattle.pliron_core.proofs.ListLemmas.{In-cases}
use Rattle.pliron_core.proofs.HoldingLemmas.{some_of}
use Rattle.pliron_core.proofs.ReadLemmas.{In-at}
use Rattle.pliron_opt_symbols.proofs.WithinLemmas.{live_in}
use Rattle.pliron_opt_symbols.proofs.traced.is_traced_within.Goals as goal

pub returns-then-not-is_traced-clause-traced : goal.returns-then-not-is_traced-clause-traced
returns-then-not-is_traced-clause-traced g c =
    let ks = c.deref-inner-items.result.now in
    let x = c.inner-item.result in
    let i = c.loop-inner.inner-index in
    let t = c.args.ctx.now.tree in
    let listed : In x c.in_ok-ops.ops.items = subst (In x) c.deref-inner-items.ensures.value (In-at ks i x (slice_get_read ks (length ks) i x refl c.loop-inner-test.true c.inner-item.is)) in
    let within = (c.in_ok-ops.ensures.within x).0 listed in
    let h = some_of (head_of t x) (live_in t c.in_ok-ops.ops.items c.in_ok-ops.ensures.live x listed) in (
      λ e. absurd (false≢true e),
      λ all. absurd (false≢true (sym c.if-not-is_traced.true ∙ c.is_traced.ensures h.0 h.1 ∙ all x within h.0 h.1)),
    )

pub loop-inner-preserved : goal.loop-inner-preserved
loop-inner-preserved g c = λ k j h e.
    let ks = c.deref-inner-items.result.now in
    let i = c.loop-inner.inner-index in
    let x = c.inner-item.result in
    let more = take_more ks i x c.loop-inner-test.true ∙ ap (λ z. take i ks ++ z ∷ []) (sym c.inner-item.is) in
    ⊎_elim
    (λ old. c.loop-inner.invariant k old h e)
    (λ new. ⊎_elim (λ same. sym (c.is_traced.ensures h (ap (head_of c.args.ctx.now.tree) (sym same) ∙ e)) ∙ c.if-not-is_traced.false) (λ z. absurd z) new)
    (In-cases k (take i ks) (x ∷ []) (subst (In k) more j))

pub returns-clause-traced : goal.returns-clause-traced
returns-clause-traced g c =
    let ks = c.deref-inner-items.result.now in
    let all : length ks ≤ c.loop-inner.inner-index = omega (arith, c.loop-inner-test.false) in (
      λ e k within. c.loop-inner.invariant k (subst (In k) (sym (take_all c.loop-inner.inner-index ks all ∙ c.deref-inner-items.ensures.value)) ((c.in_ok-ops.ensures.within k).1 within)),
      λ any. refl,
    )
