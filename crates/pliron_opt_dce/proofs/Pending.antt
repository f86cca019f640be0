-- What is ready after a whole rewrite was ready before it, or is visited.
use Rattle.std.proofs.Common.{◌≡◌, ◌≢◌, ◌⊎◌, inl, inr, ⊎_elim, ℕ, Bool, List, [], ◌∷◌, Option, Some, sym, ap, subst}
use Rattle.std.proofs.lemmas.Bool.{cases_eq}
use Rattle.pliron_core.specs.declared.context.Def.TheVariants.{Argument}
use Rattle.pliron_core.specs.Tree.{Tree, In, IsLive, IsMadeBy, operands_of, results_of, definition_of}
use Rattle.pliron_core.specs.Invariant.{IsTree}
use Rattle.pliron_core.proofs.HoldingLemmas.{in_slice, slice_in}
use Rattle.pliron_laws.specs.Datum.{Head, Meaning}
use Rattle.pliron_opt_dce.specs.Dead.{Item, Op, Arg, Use, KeepsAlive, OfResult, OfInside}
use Rattle.pliron_opt_dce.specs.Readiness.{IsReady, IsReadyOperation, IsReadyArgument, Among, AreRecorded, AreRevisited}
use Rattle.pliron_opt_dce.proofs.Thinned.{IsThinned}

same_item : (x y : Item) → (x ≡ y) ⊎ (x ≢ y)
same_item (Op a) (Op b) = ⊎_elim (λ e. inl (ap Op e)) (λ n. inr (λ e. n (key e))) (cases_eq a b)
  where
    number : Item → ℕ
    number (Op k) = k
    number (Arg v) = v
    number (Use a b) = a

    key : Op a ≡ Op b → a ≡ b
    key e = ap number e
same_item (Arg a) (Arg b) = ⊎_elim (λ e. inl (ap Arg e)) (λ n. inr (λ e. n (key e))) (cases_eq a b)
  where
    number : Item → ℕ
    number (Op k) = k
    number (Arg v) = v
    number (Use a b) = a

    key : Arg a ≡ Arg b → a ≡ b
    key e = ap number e
same_item (Op a) (Arg b) = inr (λ e. cc)
same_item (Op a) (Use b c) = inr (λ e. cc)
same_item (Arg a) (Op b) = inr (λ e. cc)
same_item (Arg a) (Use b c) = inr (λ e. cc)
same_item (Use a d) (Op b) = inr (λ e. cc)
same_item (Use a d) (Arg b) = inr (λ e. cc)
same_item (Use a d) (Use b c) = ⊎_elim (λ e. ⊎_elim (λ f. inl (cc)) (λ n. inr (λ q. n (place q))) (cases_eq d c)) (λ n. inr (λ q. n (user q))) (cases_eq a b)
  where
    first : Item → ℕ
    first (Op k) = k
    first (Arg v) = v
    first (Use a b) = a

    second : Item → ℕ
    second (Op k) = k
    second (Arg v) = v
    second (Use a b) = b

    user : Use a d ≡ Use b c → a ≡ b
    user q = ap first q

    place : Use a d ≡ Use b c → d ≡ c
    place q = ap second q

pub decide_among : (x : Item) (items : List Item) → Among x items ⊎ (Among x items → ⊥)
decide_among x [] = inr (λ i. i)
decide_among x (y ∷ ys) = ⊎_elim (λ e. inl (inl e)) (λ n. ⊎_elim (λ i. inl (inr i)) (λ m. inr (λ z. ⊎_elim n m z)) (decide_among x ys)) (same_item x y)

module _ (m : Meaning) (side_effects : Head → Option Bool) (removable : Head → ℕ → Bool → Option Bool) (t t' : Tree) (root : ℕ) (w : IsTree t) (w' : IsTree t') (h : IsThinned m side_effects removable t t' root) (used : List ℕ) (noted : AreRecorded t t' used) (items : List Item) (revisited : AreRevisited t' used items) where
  operation_before : (k : ℕ) → IsReadyOperation m side_effects t' root k → (Among (Op k) items → ⊥) → IsReadyOperation m side_effects t root k
  operation_before k r never = record { may = h.may_back k r.may; none = none }
    where
      live : IsLive t' k
      live = h.live k r.may.inside

      none : (user place : ℕ) → KeepsAlive t k user place → ⊥
      none user place (OfResult v e i) =
          let there : In v (results_of t' k) = subst (In v) (sym (h.results_same k live)) i in
          let y = slice_in (results_of t' k) v there in
          let made = w'.joined.results k y.0 v y.1 in
          ⊎_elim
          (λ x. never (revisited.makers v k y.0 x (subst (IsMadeBy t' v) (sym made) y.1) made))
          (λ j. let p = slice_in (operands_of t' user) v j in r.none user p.0 (OfResult v p.1 there))
          (noted user v (in_slice (operands_of t user) place v e))
      none user place (OfInside v e i out) =
          let j = in_slice (operands_of t user) place v e in
          let made = h.made_forth k v user live j i out in
          ⊎_elim
          (λ x. never (revisited.around v k x made.0 made.1))
          (λ y. let p = slice_in (operands_of t' user) v y in let q = h.operand_back user p.0 v p.1 in r.none user p.0 (OfInside v p.1 made.1 (λ z. out (h.within_back k user z))))
          (noted user v j)

  argument_before : (v : ℕ) → IsReadyArgument m removable t' root v → (Among (Arg v) items → ⊥) → IsReadyArgument m removable t root v
  argument_before v r never = record { may = h.argument_back v r.may; none = none }
    where
      made : definition_of t' v ≡ Some (Argument r.may.block r.may.index)
      made = w'.joined.arguments r.may.block r.may.index v r.may.argument

      none : (user : ℕ) → In v (operands_of t user) → ⊥
      none user i = ⊎_elim (λ x. never (revisited.arguments v r.may.block r.may.index x (subst (IsMadeBy t' v) (sym made) r.may.argument) made)) (λ j. r.none user j) (noted user v i)

  pub ready_before : (x : Item) → IsReady m side_effects removable t' root x → IsReady m side_effects removable t root x ⊎ Among x items
  ready_before (Op k) r = ⊎_elim (λ i. inr i) (λ n. inl (operation_before k r n)) (decide_among (Op k) items)
  ready_before (Arg v) r = ⊎_elim (λ i. inr i) (λ n. inl (argument_before v r n)) (decide_among (Arg v) items)
  ready_before (Use user place) r = absurd r
