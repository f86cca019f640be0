-- What stands after an operation in its block.
use Rattle.std.proofs.Common.{◌≡◌, ◌≢◌, ℕ, zero, suc, ◌<◌, List, [], ◌∷◌, length, Option, Some, None, refl, sym, ap, ◌∙◌, subst, inl, inr, arith}
use Rattle.std.specs.List.{slice_get}
use Rattle.std.proofs.lemmas.Bool.{cases_eq, ne_eqb, eq-eqb}
use Rattle.std.proofs.lemmas.Option.{none-some, same_Some}
use Rattle.pliron_core.specs.Tree.{Tree, In, IsLive, IsDistinct, up_from, next_in, parent_of, body_of}
use Rattle.pliron_core.specs.Reads.{next_of}
use Rattle.pliron_core.specs.Invariant.{IsTree}
use Rattle.pliron_core.specs.WalkSteps.{rest_after, rest_from}
use Rattle.pliron_core.proofs.ReadLemmas.{In-next, In-live}
use Rattle.pliron_core.proofs.MemberLemmas.{in_slice, in_at}
use Rattle.pliron_core.proofs.NextLemmas.{rest_from-next, rest_from-step}
use Rattle.pliron_graph_components.specs.Ancestors.{StrictlyPrecedes}

-- by indices
behind_index : (xs : List ℕ) (i j a b : ℕ) → IsDistinct xs → i < j → slice_get xs i ≡ Some a → slice_get xs j ≡ Some b → In b (rest_after a xs)
behind_index [] i j a b d lt e f = absurd (none-some a e)
behind_index (y ∷ ys) zero zero a b d lt e f = absurd (omega arith)
behind_index (y ∷ ys) zero (suc j) a b d lt e f = rw (eq-eqb a y (sym (same_Some y a e))) (in_slice ys j b f)
behind_index (y ∷ ys) (suc i) zero a b d lt e f = absurd (omega arith)
behind_index (y ∷ ys) (suc i) (suc j) a b d lt e f =
    let ne : a ≢ y = λ s. d.0 (subst (λ z. In z ys) s (in_slice ys i a e)) in
    rw (ne_eqb a y ne) (behind_index ys i j a b d.1 (omega arith) e f)

index_behind : (xs : List ℕ) (a b : ℕ) → In a xs → In b (rest_after a xs) → (i : ℕ) × (j : ℕ) × (i < j) × (slice_get xs i ≡ Some a) × (slice_get xs j ≡ Some b)
index_behind [] a b i k = absurd i
index_behind (y ∷ ys) a b i k =
    elim (cases_eq a y) [
      | inl e ↦ let at = in_at ys b (rw (eq-eqb a y e) at k) in (0, suc at.0, omega arith, ap Some (sym e), at.1)
      | inr ne ↦
          let there : In a ys = elim i [ inl e ↦ absurd (ne e) | inr j ↦ j ] in
          let r = index_behind ys a b there (rw (ne_eqb a y ne) at k) in
          (suc r.0, suc r.1, omega (arith, r.2), r.3, r.4)
    ]

-- the operations of the block, if there is one
abbrev pub row_in : Tree → Option ℕ → List ℕ
row_in t None = []
row_in t (Some block) = body_of t block

-- those that stand beside an operation, with it
abbrev pub row_around : Tree → ℕ → List ℕ
row_around t a = row_in t (parent_of t a)

-- b stands after a exactly if it stands from here on
pub record IsPassing (t : Tree) (a b : ℕ) (at : Option ℕ) : Type 0 where
  pub member : (x : ℕ) → at ≡ Some x → In x (row_around t a)
  pub ahead : In b (rest_after a (row_around t a)) → In b (rest_from at (row_around t a))
  pub back : In b (rest_from at (row_around t a)) → In b (rest_after a (row_around t a))

module _ (t : Tree) (w : IsTree t) where
  row_distinct : (o : Option ℕ) → IsDistinct (row_in t o)
  row_distinct None = tt
  row_distinct (Some b) = w.bodies.distinct b

  row_owned : (o : Option ℕ) (x : ℕ) → In x (row_in t o) → parent_of t x ≡ o
  row_owned None x i = absurd i
  row_owned (Some b) x i = w.bodies.owned x b i

  row_live : (o : Option ℕ) (x : ℕ) → In x (row_in t o) → IsLive t x
  row_live None x i = absurd i
  row_live (Some b) x i = In-live t w b x i

  row_next : (o : Option ℕ) (x : ℕ) → up_from o (λ b. next_in x (body_of t b)) ≡ next_in x (row_in t o)
  row_next None x = refl
  row_next (Some b) x = refl

  row_rest : (o : Option ℕ) (a : ℕ) → parent_of t a ≡ o → rest_from (next_in a (row_in t o)) (row_in t o) ≡ rest_after a (row_in t o)
  row_rest None a e = refl
  row_rest (Some b) a e = rest_from-next a (body_of t b) (w.bodies.distinct b) (w.bodies.listed a b e)

  next_around : (a x : ℕ) → In x (row_around t a) → next_of t x ≡ next_in x (row_around t a)
  next_around a x i = ap (λ o. up_from o (λ b. next_in x (body_of t b))) (row_owned (parent_of t a) x i) ∙ row_next (parent_of t a) x

  pub passing_first : (a b : ℕ) (o : Option ℕ) → o ≡ next_of t a → IsPassing t a b o
  passing_first a b o e =
      let is : o ≡ next_in a (row_around t a) = e ∙ row_next (parent_of t a) a in
      let rest : rest_from o (row_around t a) ≡ rest_after a (row_around t a) = ap (λ z. rest_from z (row_around t a)) is ∙ row_rest (parent_of t a) a refl in
      record {
        member = λ x f. In-next a (row_around t a) x (sym is ∙ f);
        ahead = λ i. subst (λ xs. In b xs) (sym rest) i;
        back = λ i. subst (λ xs. In b xs) rest i;
      }

  module _ (a b : ℕ) (at : Option ℕ) (x : ℕ) (o : Option ℕ) (is : at ≡ Some x) (e : o ≡ next_of t x) (p : IsPassing t a b at) where
    pub passing_live : IsLive t x
    passing_live = row_live (parent_of t a) x (p.member x is)

    next_is : o ≡ next_in x (row_around t a)
    next_is = e ∙ next_around a x (p.member x is)

    step : rest_from at (row_around t a) ≡ x ∷ rest_from o (row_around t a)
    step =
        ap (λ z. rest_from z (row_around t a)) is ∙ rest_from-step (row_around t a) x o (row_distinct (parent_of t a)) (p.member x is) next_is

    pub passing_smaller : length (rest_from o (row_around t a)) < length (rest_from at (row_around t a))
    passing_smaller = omega (arith, ap length step)

    pub passing_next : x ≢ b → IsPassing t a b o
    passing_next ne = record {
      member = λ z f. In-next x (row_around t a) z (sym next_is ∙ f);
      ahead = λ i. elim (subst (λ xs. In b xs) step (p.ahead i)) [ inl s ↦ absurd (ne (sym s)) | inr j ↦ j ];
      back = λ i. p.back (subst (λ xs. In b xs) (sym step) (inr i));
    }

  behind_of : (a b : ℕ) → StrictlyPrecedes t a b → In b (rest_after a (row_around t a))
  behind_of a b s =
      let own : parent_of t a ≡ Some s.block = w.bodies.owned a s.block (in_slice (body_of t s.block) s.first a s.at_first) in
      subst (λ o. In b (rest_after a (row_in t o))) (sym own) (behind_index (body_of t s.block) s.first s.second a b (w.bodies.distinct s.block) s.before s.at_first s.at_second)

  of_behind : (a b : ℕ) → In b (rest_after a (row_around t a)) → StrictlyPrecedes t a b
  of_behind a b i = go (parent_of t a) refl i
    where
      go : (o : Option ℕ) → parent_of t a ≡ o → In b (rest_after a (row_in t o)) → StrictlyPrecedes t a b
      go None e i = absurd i
      go (Some block) e i =
          let r = index_behind (body_of t block) a b (w.bodies.listed a block e) i in
          record { block = block; first = r.0; second = r.1; before = r.2; at_first = r.3; at_second = r.4 }

  -- b is met, or the end
  pub passing_met : (a b : ℕ) (at : Option ℕ) (x : ℕ) → at ≡ Some x → x ≡ b → IsPassing t a b at → StrictlyPrecedes t a b
  passing_met a b at x is e p = of_behind a b (p.back (subst (λ z. In b (rest_from z (row_around t a))) (sym is) (inl (sym e))))

  pub passing_over : (a b : ℕ) (at : Option ℕ) → at ≡ None → IsPassing t a b at → StrictlyPrecedes t a b → ⊥
  passing_over a b at is p s = subst (λ z. In b (rest_from z (row_around t a))) is (p.ahead (behind_of a b s))

  -- both have one parent
  pub one_parent : (a b : ℕ) → StrictlyPrecedes t a b → parent_of t a ≡ parent_of t b
  one_parent a b s =
      w.bodies.owned a s.block (in_slice (body_of t s.block) s.first a s.at_first) ∙ sym (w.bodies.owned b s.block (in_slice (body_of t s.block) s.second b s.at_second))
