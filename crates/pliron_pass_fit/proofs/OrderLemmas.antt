-- The order of a block is that of the walk over the root.
use Rattle.std.proofs.Common.{◌≡◌, ◌↔◌, ◌⊎◌, ℕ, suc, ◌+◌, ◌<◌, true, nat_eq, ◌&&◌, List, [], ◌∷◌, ◌++◌, Some, length, length-append, nat_lt, IsTrue, refl, sym, ap, ◌∙◌, subst, inl, inr, arith, append_assoc, drop}
use Rattle.std.specs.List.{flat_map}
use Rattle.std.proofs.lemmas.List.Concat.{flat_map-append}
use Rattle.std.proofs.lemmas.Bool.{cases_Bool, eq-eqb, ltb-true, lt-ltb}
use Rattle.std.proofs.lemmas.Option.{same_Some}
use Rattle.pliron_core.specs.Tree.{Tree, In, IsDistinct, IsInside, IsWithin, body_of, layout_of, regions_of, parent_of, block_parent_of, parent_operation_of, block_parent_operation_of, up_from}
use Rattle.pliron_core.specs.Invariant.{IsTree}
use Rattle.pliron_core.specs.Walks.{children, children_of_region, contents, preorder}
use Rattle.pliron_core.proofs.ListLemmas.{split_at, distinct-apart}
use Rattle.pliron_core.proofs.FlatLemmas.{slice_get-In, flat_map-drop}
use Rattle.pliron_core.proofs.WalkLemmas.{place_of, place_listed, contents-children, distinct-preorder, inside_step}
use Rattle.pliron_core.proofs.WalkStepLemmas.{continues}
use Rattle.pliron_graph_traversal.specs.Search.{number_in}

same_key : (x y : ℕ) → nat_eq x y && true ≡ true → x ≡ y
same_key x y e = grind arith

-- where a list has what it has once
number_at : (f r : List ℕ) (k : ℕ) → (In k f → ⊥) → number_in (λ x y. nat_eq x y && true) (f ++ k ∷ r) k ≡ length f
number_at [] r k out = rw (eq-eqb k k refl) refl
number_at (x ∷ f) r k out = elim (cases_Bool (nat_eq k x && true)) [
  | inl h ↦ absurd (out (inl (same_key k x h)))
  | inr h ↦ let rest = number_at f r k (λ i. out (inr i)) in rw h (omega (arith, rest))
]

-- what stands before another has the lower number
lower : (whole f m r : List ℕ) (k a : ℕ) → IsDistinct whole → whole ≡ f ++ k ∷ (m ++ a ∷ r) → number_in (λ x y. nat_eq x y && true) whole k < number_in (λ x y. nat_eq x y && true) whole a
lower whole f m r k a d e =
    let d1 : IsDistinct (f ++ k ∷ (m ++ a ∷ r)) = subst IsDistinct e d in
    let e2 : whole ≡ (f ++ k ∷ m) ++ a ∷ r = e ∙ sym (append_assoc f (k ∷ m) (a ∷ r)) in
    let d2 : IsDistinct ((f ++ k ∷ m) ++ a ∷ r) = subst IsDistinct e2 d in
    let first : number_in (λ x y. nat_eq x y && true) whole k ≡ length f = ap (λ z. number_in (λ x y. nat_eq x y && true) z k) e ∙ number_at f (m ++ a ∷ r) k (λ i. distinct-apart f (k ∷ (m ++ a ∷ r)) d1 k i (inl refl)) in
    let second : number_in (λ x y. nat_eq x y && true) whole a ≡ length (f ++ k ∷ m) = ap (λ z. number_in (λ x y. nat_eq x y && true) z a) e2 ∙ number_at (f ++ k ∷ m) r a (λ i. distinct-apart (f ++ k ∷ m) (a ∷ r) d2 a i (inl refl)) in
    let long : length (f ++ k ∷ m) ≡ length f + suc (length m) = length-append f (k ∷ m) in
    omega (arith, first, second, long)

-- the parts of a list around two places
parted : (g p q s u v x : List ℕ) (h k a : ℕ) → g ++ ((h ∷ (p ++ ((k ∷ q) ++ (s ++ ((a ∷ u) ++ v))))) ++ x) ≡ (g ++ h ∷ p) ++ k ∷ ((q ++ s) ++ a ∷ ((u ++ v) ++ x))
parted g p q s u v x h k a = simp append_assoc

nested : (a b c d e : List ℕ) → a ++ ((b ++ (c ++ d)) ++ e) ≡ (a ++ b) ++ (c ++ (d ++ e))
nested a b c d e = simp append_assoc

moved : (f u m z b : List ℕ) (k a : ℕ) → f ++ ((u ++ k ∷ (m ++ a ∷ z)) ++ b) ≡ (f ++ u) ++ k ∷ (m ++ a ∷ (z ++ b))
moved f u m z b k a = simp append_assoc

in_either : (x : ℕ) (xs ys : List ℕ) → In x (xs ++ ys) → In x xs ⊎ In x ys
in_either x [] ys i = inr i
in_either x (y ∷ xs) ys (inl e) = inl (inl e)
in_either x (y ∷ xs) ys (inr i) = elim (in_either x xs ys i) [ inl j ↦ inl (inr j) | inr j ↦ inr j ]

module _ (t : Tree) (w : IsTree t) where
  -- the body of a block among what its holder has
  body_among : (x h b : ℕ) → parent_operation_of t x ≡ Some h → parent_of t x ≡ Some b → (front : List ℕ) × (back : List ℕ) × (children t h ≡ front ++ (body_of t b ++ back))
  body_among x h b up p =
      let place = place_of t x h up in
      let same : place.block ≡ b = same_Some place.block b (sym place.parent ∙ p) in
      let at = slice_get-In b (layout_of t place.region) (w.layouts.listed b place.region (subst (λ z. block_parent_of t z ≡ Some place.region) same place.in_region)) in
      let outer = flat_map-drop (λ r. children_of_region t r) (regions_of t h) place.index place.region (place_listed t w x h place) in
      let inner = flat_map-drop (λ c. body_of t c) (layout_of t place.region) at.0 b at.1 in
      let later = flat_map (λ c. body_of t c) (drop (suc at.0) (layout_of t place.region)) in
      let last = flat_map (λ r. children_of_region t r) (drop (suc place.index) (regions_of t h)) in
      (outer.0 ++ inner.0, later ++ last, outer.1 ∙ ap (λ z. outer.0 ++ (z ++ last)) inner.1 ∙ nested outer.0 inner.0 (body_of t b) later last)

  pieces : List ℕ → List ℕ
  pieces xs = flat_map (λ c. preorder t c) xs

  -- of two operations of a block, the first comes first on the walk
  pub comes_first : (root h b k a : ℕ) (u m z : List ℕ) → IsWithin t root h → parent_operation_of t k ≡ Some h → parent_of t k ≡ Some b → body_of t b ≡ u ++ k ∷ (m ++ a ∷ z)
      → number_in (λ x y. nat_eq x y && true) (preorder t root) k < number_in (λ x y. nat_eq x y && true) (preorder t root) a
  unfolding pieces
  comes_first root h b k a u m z within up p e =
      let among = body_among k h b up p in
      let all : children t h ≡ (among.0 ++ u) ++ k ∷ (m ++ a ∷ (z ++ among.1)) = among.2 ∙ ap (λ y. among.0 ++ (y ++ among.1)) e ∙ moved among.0 u m z among.1 k a in
      let split : pieces ((among.0 ++ u) ++ k ∷ (m ++ a ∷ (z ++ among.1))) ≡ pieces (among.0 ++ u) ++ ((k ∷ contents t k) ++ (pieces m ++ ((a ∷ contents t a) ++ pieces (z ++ among.1)))) =
      flat_map-append (λ c. preorder t c) (among.0 ++ u) (k ∷ (m ++ a ∷ (z ++ among.1))) ∙ ap (λ y. pieces (among.0 ++ u) ++ ((k ∷ contents t k) ++ y)) (flat_map-append (λ c. preorder t c) m (a ∷ (z ++ among.1))) in
      let inside : contents t h ≡ pieces (among.0 ++ u) ++ ((k ∷ contents t k) ++ (pieces m ++ ((a ∷ contents t a) ++ pieces (z ++ among.1)))) = contents-children t w h ∙ ap pieces all ∙ split in
      let on = continues t w root h within in
      let whole : preorder t root ≡ (on.1.0 ++ h ∷ pieces (among.0 ++ u)) ++ k ∷ ((contents t k ++ pieces m) ++ a ∷ ((contents t a ++ pieces (z ++ among.1)) ++ on.1.1)) =
      on.1.2 ∙ ap (λ y. on.1.0 ++ ((h ∷ y) ++ on.1.1)) inside ∙ parted on.1.0 (pieces (among.0 ++ u)) (contents t k) (pieces m) (contents t a) (pieces (z ++ among.1)) on.1.1 h k a in
      lower (preorder t root) (on.1.0 ++ h ∷ pieces (among.0 ++ u)) (contents t k ++ pieces m) ((contents t a ++ pieces (z ++ among.1)) ++ on.1.1) k a (distinct-preorder t w root) whole

  -- which of two operations of a block comes first, by their numbers
  pub before_iff : (root h b k a : ℕ) (done rest : List ℕ) → IsWithin t root h → parent_operation_of t k ≡ Some h → parent_of t k ≡ Some b → parent_operation_of t a ≡ Some h → parent_of t a ≡ Some b → body_of t b ≡ done ++ a ∷ rest
      → (number_in (λ x y. nat_eq x y && true) (preorder t root) k < number_in (λ x y. nat_eq x y && true) (preorder t root) a) ↔ In k done
  before_iff root h b k a done rest within up p up2 p2 e = (forth, back)
    where
      back : In k done → number_in (λ x y. nat_eq x y && true) (preorder t root) k < number_in (λ x y. nat_eq x y && true) (preorder t root) a
      back i =
          let s = split_at k done i in
          comes_first root h b k a s.0 s.1 rest within up p (e ∙ ap (λ y. y ++ a ∷ rest) s.2 ∙ append_assoc s.0 (k ∷ s.1) (a ∷ rest))

      forth : number_in (λ x y. nat_eq x y && true) (preorder t root) k < number_in (λ x y. nat_eq x y && true) (preorder t root) a → In k done
      forth lt = elim (in_either k done (a ∷ rest) (subst (In k) e (w.bodies.listed k b p))) [
        | inl i ↦ i
        | inr j ↦ elim j [
          | inl same ↦ let n = ap (λ y. number_in (λ x y. nat_eq x y && true) (preorder t root) y) same in absurd (omega (arith, lt, n))
          | inr later ↦
              let s = split_at k rest later in
              let gt = comes_first root h b a k done s.0 s.1 within up2 p2 (e ∙ ap (λ y. done ++ a ∷ y) s.2) in
              absurd (omega (arith, lt, gt))
        ]
      ]

  -- whether an operation stands before another of its block, by their numbers
  pub made_before_iff : (root : ℕ) (keys : List ℕ) (k a b : ℕ) → keys ≡ preorder t root → IsInside t root a → parent_of t a ≡ Some b → parent_of t k ≡ Some b
      → (number_in (λ x y. nat_eq x y && true) keys k < number_in (λ x y. nat_eq x y && true) keys a) ↔ ((done rest : List ℕ) → body_of t b ≡ done ++ a ∷ rest → In k done)
  made_before_iff root keys k a b all u p q =
      let up = inside_step t root a u in
      let beside : parent_operation_of t k ≡ Some up.0 = ap (λ o. up_from o (λ x. block_parent_operation_of t x)) (q ∙ sym p) ∙ up.1 in
      let law = λ (done rest : List ℕ) (s : body_of t b ≡ done ++ a ∷ rest). before_iff root up.0 b k a done rest up.2 beside q up.1 p s in
      let same = λ (x : ℕ). ap (λ z. number_in (λ x y. nat_eq x y && true) z x) all in (
        λ lt done rest s. (law done rest s).0 (subst (λ n. n < number_in (λ x y. nat_eq x y && true) (preorder t root) a) (same k) (subst (λ n. number_in (λ x y. nat_eq x y && true) keys k < n) (same a) lt)),
        λ each. let s = split_at a (body_of t b) (w.bodies.listed a b p) in
            subst (λ n. n < number_in (λ x y. nat_eq x y && true) keys a) (sym (same k)) (subst (λ n. number_in (λ x y. nat_eq x y && true) (preorder t root) k < n) (sym (same a)) ((law s.0 s.1 s.2).1 (each s.0 s.1 s.2))),
      )

-- a test of two numbers, by what their order says
pub less_answer : (a b x y : ℕ) (P : Type 0) → a ≡ x → b ≡ y → (x < y) ↔ P → IsTrue (nat_lt a b) ↔ P
less_answer a b x y P e f law = (λ h. let lt = ltb-true a b h in law.0 (omega (arith, lt, e, f)), λ p. let lt = law.1 p in lt-ltb a b (omega (arith, lt, e, f)))
