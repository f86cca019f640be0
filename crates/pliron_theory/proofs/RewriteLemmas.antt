-- Whole rewrites keep what roots do.
use Rattle.std.proofs.Common.{◌≡◌, ◌≢◌, ℕ, ◌≤◌, Bool, true, false, inr, length, Option, Some, None, IsSome, IsTrue, slice_get, refl, sym, ap, ◌∙◌, subst, arith}
use Rattle.pliron_core.specs.declared.attrs.AttrObj.{AttrObj}
use Rattle.pliron_core.specs.declared.attrs.IRStatus.{IRStatus}
use Rattle.pliron_core.specs.declared.rewriter.OpInsertionPoint.{OpInsertionPoint}
use Rattle.pliron_core.specs.declared.rewriter.OpInsertionPoint.TheVariants.{Unset, BeforeOperation, AtBlockStart}
use Rattle.pliron_core.specs.Tree.{Tree, IsLive, IsBlock, head_of, results_of, arguments_of, parent_of}
use Rattle.pliron_core.specs.Invariant.{IsTree}
use Rattle.pliron_core.specs.Changes.{IsSameTree}
use Rattle.pliron_core.specs.Erased.{IsSelfContained, after_erasing}
use Rattle.pliron_core.specs.Insertion.{IsPointFor, after_inserting}
use Rattle.pliron_core.specs.Writes.{after_creating, after_replacing, put_next_to}
use Rattle.pliron_core.proofs.BesideLemmas.{created_beside}
use Rattle.pliron_core.proofs.GrownLemmas.{get_grown}
use Rattle.pliron_core.proofs.HoldingLemmas.{some_of, some_is}
use Rattle.pliron_laws.specs.Datum.{Head, Shape, Meaning}
use Rattle.pliron_laws.specs.Answers.{ReadsHead}
use Rattle.pliron_laws.specs.Folding.{constant_shape, MakesConstants}
use Rattle.pliron_laws.specs.Laws.{KeepsCounts, GivesAtOnce, ForwardsOperands}
use Rattle.pliron_laws.specs.Outcomes.{after_materialising, materialised_at}
use Rattle.pliron_theory.specs.Keeps.{KeepsRuns}
use Rattle.pliron_theory.specs.Rewrites.{HasNoSideEffects, IsConstant, BecomesIfAccepted, ReplacesResult, ReplacesArgument, IsPoint, PutKeepsRuns, materialised_first}
use Rattle.pliron_laws.proofs.ConstantLemmas.{made_point, made_point_first, put_before_is}
use Rattle.pliron_laws.proofs.LinkedLemmas.{tree_created}
use Rattle.pliron_theory.proofs.MaterialisedKeeps.{result_keeps, argument_keeps}
use Rattle.pliron_laws.proofs.Records.{op_shows}
use Rattle.pliron_theory.proofs.SweptKeeps.{same_keeps, gives_now}
use Rattle.pliron_theory.proofs.ErasedKeeps.{erased_keeps}

-- erasing

pub may_have_effects : (side_effects : Head → Option Bool) (t : Tree) (op : ℕ) (answer : Option Bool) → IsLive t op → ReadsHead side_effects t op answer → answer ≢ Some false → HasNoSideEffects side_effects t op → ⊥
may_have_effects side_effects t op answer live reads other none =
    let h = some_of (head_of t op) live in other (reads h.0 h.1 ∙ none h.0 h.1)

pub erasing_keeps : (m : Meaning) (side_effects : Head → Option Bool) (t u : Tree) (op : ℕ) (answer : Option Bool) → KeepsCounts m → GivesAtOnce m side_effects → IsTree t → IsTree u → IsLive t op → IsSelfContained t op → ReadsHead side_effects t op answer → answer ≡ Some false → u ≡ after_erasing t op → KeepsRuns m t u
erasing_keeps m side_effects t u op answer counts free w w' live contained reads none is =
    subst (KeepsRuns m t) (sym is) (erased_keeps t op w live contained m (subst IsTree is w')
    (λ root f i. gives_now m side_effects counts free t op (f.linked.admitted op (inr i)) (λ o e. sym (reads o.head (op_shows t op o e).head) ∙ none)))

-- putting a constant for a value

pub point_for : (t made : Tree) (c : ℕ) (head : Head) (p q : OpInsertionPoint) → IsTree t → made ≡ after_creating t head 1 0 → c ≡ length t.operations → q ≡ p → IsPoint t p → IsPointFor made q c
point_for t made c head p q w e k same is = subst (λ z. IsPointFor made z c) (sym same) (go p is)
  where
    tree : IsTree made
    tree = subst IsTree (sym e) (tree_created t head w)

    go : (p : OpInsertionPoint) → IsPoint t p → IsPointFor made p c
    go Unset is = absurd is
    go (BeforeOperation at) is = made_point t made at c head (BeforeOperation at) tree e k refl is.0 is.1
    go (AtBlockStart block) is = made_point_first t made block c head (AtBlockStart block) tree e k refl is

pub refused_keeps : (m : Meaning) (t made u : Tree) (head : Head) → IsTree t → IsTree u → made ≡ after_creating t head 1 0 → IsSameTree t u → length made.operations ≤ length u.operations → KeepsRuns m t u
refused_keeps m t made u head w w' e same longer =
    let key = (created_beside t head 1 0 w).key in
    let long = ap (λ z. length z.operations) e in
    same_keeps m t u w w' same (omega (arith, key, long, longer))

-- what has a result is no branch
no_branch : (b : Bool) → (IsTrue b → ◌≡◌ {A = ℕ} 1 0) → b ≡ false
no_branch true f = let e = f refl in absurd (omega (arith, e))
no_branch false f = refl

module _ (m : Meaning) (can_fold : Head → Bool) (SameTests : Head → Head → Type 0) (shortened : Shape → ℕ → ℕ → Head) (accepts : AttrObj → Bool) (head : AttrObj → Head) (forwards : ForwardsOperands m can_fold SameTests shortened) (makes : MakesConstants m accepts head) (attr : AttrObj) (t : Tree) (old : ℕ) (p : OpInsertionPoint) (accepted : IsTrue (accepts attr)) where
  is_plain : m.is_branch (head attr) ≡ false
  is_plain = no_branch (m.is_branch (head attr)) (λ b. (forwards.alone (constant_shape (head attr)) (makes attr accepted).admitted b).0)

  pub result_put : (op i : ℕ) → p ≡ BeforeOperation op → IsSome (parent_of t op) → slice_get (results_of t op) i ≡ Some old → IsConstant m t old attr → PutKeepsRuns m t p old (head attr)
  result_put op i at placed listed reads w = subst (λ q. IsTree (after_inserting (after_creating t (head attr) 1 0) q (length t.operations)) → IsTree (materialised_at t q old (head attr)) → KeepsRuns m t (materialised_at t q old (head attr))) (sym at) (go (parent_of t op) refl placed)
    where
      go : (o : Option ℕ) → parent_of t op ≡ o → IsSome o → IsTree (put_next_to (after_creating t (head attr) 1 0) (length t.operations) op (parent_of (after_creating t (head attr) 1 0) op)) → IsTree (after_replacing (put_next_to (after_creating t (head attr) 1 0) (length t.operations) op (parent_of (after_creating t (head attr) 1 0) op)) old (length t.definitions)) → KeepsRuns m t (after_replacing (put_next_to (after_creating t (head attr) 1 0) (length t.operations) op (parent_of (after_creating t (head attr) 1 0) op)) old (length t.definitions))
      go None e is = grind arith
      go (Some block) e is =
          subst (λ o. IsTree (put_next_to (after_creating t (head attr) 1 0) (length t.operations) op o) → IsTree (after_replacing (put_next_to (after_creating t (head attr) 1 0) (length t.operations) op o) old (length t.definitions)) → KeepsRuns m t (after_replacing (put_next_to (after_creating t (head attr) 1 0) (length t.operations) op o) old (length t.definitions))) (sym (get_grown t.parents None op ∙ e))
          (λ wu wv. result_keeps m t (head attr) attr w (makes attr accepted) is_plain op block old i e (w.joined.results op i old listed) reads wu wv)

  pub argument_put : (block i : ℕ) → p ≡ AtBlockStart block → IsBlock t block → slice_get (arguments_of t block) i ≡ Some old → IsConstant m t old attr → PutKeepsRuns m t p old (head attr)
  argument_put block i at all_in_place listed reads w = subst (λ q. IsTree (after_inserting (after_creating t (head attr) 1 0) q (length t.operations)) → IsTree (materialised_at t q old (head attr)) → KeepsRuns m t (materialised_at t q old (head attr))) (sym at)
      (λ wu wv. argument_keeps m t (head attr) attr w (makes attr accepted) is_plain block old i all_in_place (w.joined.arguments block i old listed) reads wu wv)

-- what was done

pub result_becomes : (accepts : AttrObj → Bool) (head : AttrObj → Head) (attr : AttrObj) (op i old : ℕ) (t t' : Tree) (p : OpInsertionPoint) (status : IRStatus) → p ≡ BeforeOperation op → slice_get (results_of t op) i ≡ Some old → BecomesIfAccepted accepts attr (materialised_at t p old (head attr)) t t' status → ReplacesResult accepts head attr op i t t' status
result_becomes accepts head attr op i old t t' p status at said is v e =
    subst (λ z. BecomesIfAccepted accepts attr z t t' status) (put_before_is t op old (head attr) p at ∙ ap (λ z. after_materialising t op z (head attr)) (some_is (sym said ∙ e))) is

pub argument_becomes : (accepts : AttrObj → Bool) (head : AttrObj → Head) (attr : AttrObj) (block i old : ℕ) (t t' : Tree) (p : OpInsertionPoint) (status : IRStatus) → p ≡ AtBlockStart block → slice_get (arguments_of t block) i ≡ Some old → BecomesIfAccepted accepts attr (materialised_at t p old (head attr)) t t' status → ReplacesArgument accepts head attr block i t t' status
argument_becomes accepts head attr block i old t t' p status at said is v e =
    subst (λ z. BecomesIfAccepted accepts attr z t t' status) (ap (λ q. materialised_at t q old (head attr)) at ∙ ap (λ z. materialised_first t block z (head attr)) (some_is (sym said ∙ e))) is
