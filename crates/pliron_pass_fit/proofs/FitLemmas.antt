-- What the checks come to together: a root is fit, or something is wrong there.
use Rattle.std.proofs.Common.{◌≡◌, ◌↔◌, ◌⊎◌, ℕ, List, [], ◌∷◌, ◌++◌, Ok, Err, Some, sym, ap, ◌∙◌, subst, inl, inr, slice_get}
use Rattle.std.specs.Prelude.{Result as ResultOf}
use Rattle.std.specs.Result.{IsErrAnd}
use Rattle.pliron_core.specs.Tree.{Tree, In, IsLive, IsInside, operands_of, results_of, parent_of, block_parent_of, region_parent_of, parent_operation_of, definition_of, up_from}
use Rattle.pliron_core.specs.Changes.{IsDefinedInside}
use Rattle.pliron_core.specs.Invariant.{IsTree}
use Rattle.pliron_core.proofs.FlatLemmas.{In-slice_get}
use Rattle.pliron_core.proofs.WalkLemmas.{inside_from, inside_trans}
use Rattle.pliron_laws.specs.Datum.{Meaning}
use Rattle.pliron_laws.specs.Root.{IsDominated}
use Rattle.pliron_laws.proofs.EdgeLastLemmas.{around_holder}
use Rattle.pliron_theory.specs.Keeps.{IsFit}
use Rattle.pliron_pass_fit.specs.declared.violation.Violation.{Violation}
use Rattle.pliron_pass_fit.specs.declared.violation.Violation.TheVariants.{NotRoot, HasSuccessors, NotAdmitted, EdgeNotLast, ForeignValue, NoDominance, UnequalEdge, TerminatorNotLast, ResultUsed, UsedOutside, NotDominated}
use Rattle.pliron_pass_fit.specs.Chosen.{AreChosen}
use Rattle.pliron_pass_fit.specs.Chosen.AreChosen.{NoMore, Chosen, PassedOver}
use Rattle.pliron_pass_fit.specs.Violation.{IsViolation}
use Rattle.pliron_pass_fit.specs.Plain.{IsPlainlyFit}
use Rattle.pliron_pass_fit.specs.Uses.{AreDominated}
use Rattle.pliron_pass_fit.proofs.UseLemmas.{region_holder}

module _ (t : Tree) (w : IsTree t) (root : ℕ) where
  -- who uses by right what is defined inside the root stands inside it
  pub user_inside : (k v : ℕ) → IsDefinedInside t root v → IsDominated t k v → IsInside t root k
  user_inside k v made d =
      let h = region_holder t w root (definition_of t v) d.region made d.defined in
      let up : parent_operation_of t d.around ≡ Some h.0 = around_holder t (parent_of t d.around) ∙ ap (λ o. up_from (up_from o (λ b. block_parent_of t b)) (λ r. region_parent_of t r)) d.in_block ∙ ap (λ o. up_from o (λ r. region_parent_of t r)) d.in_region ∙ h.1 in
      let i = inside_from t root d.around h.0 up h.2 in
      elim d.holds [ inl s ↦ subst (IsInside t root) (sym s) i | inr j ↦ inside_trans t root d.around k i j ]

  -- what is wrong keeps the root from being fit
  pub refutes : (m : Meaning) (violation : Violation) → IsViolation m t root violation → IsFit m t root → ⊥
  refutes m NotRoot h fit = h fit.chosen
  refutes m HasSuccessors h fit = h fit.defined.no_successors
  refutes m (NotAdmitted k) h fit = h.1 (fit.linked.admitted k h.0)
  refutes m (EdgeNotLast k) h fit = h.3 (fit.linked.edges k h.0 h.1 h.2)
  refutes m (ForeignValue k i) h fit = h.1.2 (fit.defined.own_values k h.1.0 h.0 (In-slice_get (operands_of t k) i h.1.0 h.1.1))
  refutes m (NoDominance r) h fit = h.3 (fit.defined.dominance h.0 r h.1 h.2)
  refutes m (UnequalEdge k i) h fit = h.1 (λ b o at branch e. fit.defined.forwards k i b o h.0 at branch e)
  refutes m (TerminatorNotLast k) h fit = h.1 (λ b head e is p. fit.defined.terminators k b head h.0 e is p)
  refutes m (ResultUsed k i) h fit = fit.defined.unused k h.2.0 h.2.1 h.0 h.1 (In-slice_get (results_of t k) i h.2.0 h.2.2) h.2.3
  refutes m (UsedOutside k i) h fit = h.0 (user_inside k h.1.0 h.1.2 (fit.defined.dominated k h.1.0 (In-slice_get (operands_of t k) i h.1.0 h.1.1) h.1.2))
  refutes m (NotDominated k i) h fit = h.1.2.1 (fit.defined.dominated k h.1.0 (In-slice_get (operands_of t k) i h.1.0 h.1.1) h.1.2.0)

-- what is plainly fit, and in which definitions dominate uses, is fit
pub fit : (m : Meaning) (t : Tree) (root : ℕ) → IsLive t root → IsPlainlyFit m t root → ((k : ℕ) → IsInside t root k → AreDominated t k) → IsFit m t root
fit m t root live plainly dominated = record {
  live = live;
  chosen = plainly.chosen;
  linked = plainly.linked;
  defined = record {
    no_successors = plainly.no_successors;
    own_values = plainly.own_values;
    dominance = plainly.dominance;
    forwards = λ k i b o u at branch e. plainly.forwards k i u b o at branch e;
    terminators = λ k b h u e is p. plainly.terminators k u b h e is p;
    unused = plainly.unused;
    dominated = λ user v i made. dominated user (plainly.own_users user v i made) v i;
  };
}

in_more : (xs : List ℕ) (y k : ℕ) → In k (xs ++ y ∷ []) ↔ (In k xs ⊎ (k ≡ y))
in_more [] y k = (λ i. elim i [ inl e ↦ inr e | inr none ↦ absurd none ], λ i. elim i [ inl none ↦ absurd none | inr e ↦ inl e ])
in_more (x ∷ xs) y k =
    let rest = in_more xs y k in (
      λ i. elim i [ inl e ↦ inl (inl e) | inr j ↦ elim (rest.0 j) [ inl l ↦ inl (inr l) | inr r ↦ inr r ] ],
      λ i. elim i [ inl j ↦ elim j [ inl e ↦ inl e | inr l ↦ inr (rest.1 (inl l)) ] | inr r ↦ inr (rest.1 (inr r)) ],
    )

-- one more of the first list, which is so and goes to the end of the second
pub put_last : (P : ℕ → Type 0) (xs ys new : List ℕ) (y : ℕ) → new ≡ ys ++ y ∷ [] → P y → AreChosen P xs ys → AreChosen P (xs ++ y ∷ []) new
put_last P xs ys new y e p c = subst (AreChosen P (xs ++ y ∷ [])) (sym e) (go xs ys c)
  where
    go : (xs ys : List ℕ) → AreChosen P xs ys → AreChosen P (xs ++ y ∷ []) (ys ++ y ∷ [])
    go xs ys NoMore = Chosen p NoMore
    go (x ∷ xs) (z ∷ ys) (Chosen q c) = Chosen q (go xs ys c)
    go (x ∷ xs) ys (PassedOver q c) = PassedOver q (go xs ys c)

-- and one that is not
pub left_out : (P : ℕ → Type 0) (xs ys : List ℕ) (y : ℕ) → (P y → ⊥) → AreChosen P xs ys → AreChosen P (xs ++ y ∷ []) ys
left_out P xs ys y out NoMore = PassedOver out NoMore
left_out P (x ∷ xs) (z ∷ ys) y out (Chosen q c) = Chosen q (left_out P xs ys y out c)
left_out P (x ∷ xs) ys y out (PassedOver q c) = PassedOver q (left_out P xs ys y out c)

-- of each in the second list it is so
pub chosen_is : (P : ℕ → Type 0) (xs ys : List ℕ) → AreChosen P xs ys → (k : ℕ) → In k ys → P k
chosen_is P xs ys NoMore k i = absurd i
chosen_is P (x ∷ xs) (z ∷ ys) (Chosen q c) k (inl e) = subst P (sym e) q
chosen_is P (x ∷ xs) (z ∷ ys) (Chosen q c) k (inr i) = chosen_is P xs ys c k i
chosen_is P (x ∷ xs) ys (PassedOver q c) k i = chosen_is P xs ys c k i

-- an error that was handed on
pub handed_on : {A E : Type 0} (r : ResultOf A E) (e : E) → IsErrAnd r (λ y. y ≡ e) → r ≡ Err e
handed_on (Ok a) e h = absurd h
handed_on (Err y) e h = ap Err h
