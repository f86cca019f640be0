-- The edges to a block in another order.
use Rattle.std.proofs.Common.{◌≡◌, ◌⊎◌, inl, inr, ⊎_elim, ℕ, zero, suc, ◌+◌, ◌-◌, ◌^◌, get_or, ◌<◌, ◌≤◌, Bool, true, false, true≢false, nat_eq, ◌&&◌, cond, List, [], ◌∷◌, ◌++◌, length, take, Option, Some, None, slice_get, remove, refl, sym, ap, ap₂, ◌∙◌, subst, arith}
use Rattle.std.specs.List.{IsDistinct, AllByRecursion}
use Rattle.std.specs.List.Sorted.{IsPermutation}
use Rattle.std.proofs.lemmas.Option.{slice_get_within, slice_get_past, slice_get-map, slice_get-get_or, get_or_from_slice_get}
use Rattle.std.proofs.lemmas.List.Sorted.{IsPermutation-sym, IsPermutation-map, Contains-permutation}
use Rattle.std.proofs.lemmas.List.Edits.{length-remove}
use Rattle.std.proofs.lemmas.Map.Keys.{IsDistinct-IsPermutation}
use Rattle.std.proofs.lemmas.Bool.{cases_Bool}
use Rattle.std.specs.Option.{option_map}
use Rattle.std.proofs.lemmas.List.{take_more, map-append}
use Rattle.pliron_core.specs.declared.uses.Use.{Use as Edge}
use Rattle.pliron_core.specs.Tree.{Tree, IsLive, head_of}
use Rattle.pliron_core.proofs.HoldingLemmas.{some_is, some_of}
use Rattle.pliron_core.proofs.TreeLemmas.{cases_lt}
use Rattle.pliron_laws.specs.Datum.{Meaning}
use Rattle.pliron_laws.specs.Tree.{shape_of, is_one_key}
use Rattle.pliron_laws.specs.Answers.{AreForwarded}
use Rattle.pliron_laws.proofs.Records.{operation_of, make_op}
use Rattle.pliron_theory.proofs.ShortenedBranches.{length_picked}
use Rattle.pliron_theory.specs.Dropping.{AreEdgesTo}
use Rattle.pliron_opt_dce.specs.declared.incoming.IncomingEdge.{IncomingEdge}
use Rattle.pliron_opt_dce.specs.Incoming.{edge_of_incoming, edges_of, count_along, width, BranchesLead, AreCounted, AreFalling, AreIncoming, AreKnown}
use Rattle.pliron_opt_dce.proofs.PlaceLists.{remove_none}

-- an item of a list of edges
pub edge_at : (es : List IncomingEdge) (i : ℕ) (e : Edge) → slice_get (edges_of es) i ≡ Some e → (x : IncomingEdge) × (slice_get es i ≡ Some x) × (edge_of_incoming x ≡ e)
edge_at es i e q = go (slice_get es i) refl
  where
    go : (o : Option IncomingEdge) → slice_get es i ≡ o → (x : IncomingEdge) × (slice_get es i ≡ Some x) × (edge_of_incoming x ≡ e)
    go None n = let f : None ≡ Some e = sym (slice_get-map edge_of_incoming es i ∙ ap (option_map edge_of_incoming) n) ∙ q in absurd (cc)
    go (Some x) n = (x, n, some_is (sym (slice_get-map edge_of_incoming es i ∙ ap (option_map edge_of_incoming) n) ∙ q))

pub at_edge : (es : List IncomingEdge) (i : ℕ) (x : IncomingEdge) → slice_get es i ≡ Some x → slice_get (edges_of es) i ≡ Some (edge_of_incoming x)
at_edge es i x q = slice_get-map edge_of_incoming es i ∙ ap (option_map edge_of_incoming) q

-- items are found in another order
module _ {A : Type 0} (xs ys : List A) (p : IsPermutation xs ys) where
  pub found : (i : ℕ) (x : A) → slice_get xs i ≡ Some x → (j : ℕ) × (slice_get ys j ≡ Some x)
  found i x q =
      let c = Contains-permutation xs ys x p (i, slice_get_within xs i x q, get_or_from_slice_get xs i x x q) in
      (c.0, slice_get-get_or ys c.0 x c.1 ∙ ap Some c.2)

abbrev same_edge : Edge → Edge → Bool
same_edge e f = nat_eq e.user f.user && nat_eq e.place f.place

same_is : (a b c d : ℕ) → nat_eq a c && nat_eq b d ≡ true → (a ≡ c) × (b ≡ d)
same_is a b c d q = grind arith

same_flips : (a b c d : ℕ) → nat_eq a c && nat_eq b d ≡ nat_eq c a && nat_eq d b
same_flips a b c d = grind arith

same_refl : (a b : ℕ) → nat_eq a a && nat_eq b b ≡ true
same_refl a b = grind arith

abbrev AreOnce : List Edge → Type 0
AreOnce edges = (n l : ℕ) (e : Edge) → slice_get edges n ≡ Some e → slice_get edges l ≡ Some e → n ≡ l

all_by : {A : Type 0} (P : A → Type 0) (xs : List A) → ((n : ℕ) (x : A) → slice_get xs n ≡ Some x → P x) → AllByRecursion P xs
all_by P [] h = tt
all_by P (x ∷ xs) h = (h 0 x refl, all_by P xs (λ n. h (suc n)))

at_all : {A : Type 0} (P : A → Type 0) (xs : List A) → AllByRecursion P xs → (n : ℕ) (x : A) → slice_get xs n ≡ Some x → P x
at_all P [] h n x q = absurd (cc)
at_all P (y ∷ ys) h zero x q = subst P (some_is q) h.0
at_all P (y ∷ ys) h (suc n) x q = at_all P ys h.1 n x q

apart : (n l : ℕ) → suc n ≡ suc l → n ≡ l
apart n l q = omega (arith, q)

reported : (b : Bool) → (b ≡ true → ⊥) → b ≡ false
reported true n = absurd (n refl)
reported false n = refl

distinct_of : (xs : List Edge) → AreOnce xs → IsDistinct same_edge xs
unfolding IsDistinct
distinct_of [] h = tt
distinct_of (e ∷ xs) h = (
  all_by (λ f. same_edge e f ≡ false) xs (λ n f q. reported (same_edge e f) (λ s.
      let y = same_is e.user e.place f.user f.place s in
      let one : f ≡ e = ap₂ (λ a b. record { user = a; place = b }) (sym y.0) (sym y.1) in
      never n (h 0 (suc n) e refl (q ∙ ap Some one)))),
  distinct_of xs (λ n l f a b. apart n l (h (suc n) (suc l) f a b)),
)
  where
    never : (n : ℕ) → 0 ≡ suc n → ⊥
    never n q = omega (arith, q)

once_of : (xs : List Edge) → IsDistinct same_edge xs → AreOnce xs
unfolding IsDistinct
once_of [] h n l e a b = absurd (cc)
once_of (x ∷ xs) h zero zero e a b = refl
once_of (x ∷ xs) h zero (suc l) e a b = absurd (true≢false (sym (same_refl e.user e.place) ∙ subst (λ z. same_edge z e ≡ false) (some_is a) (at_all (λ f. same_edge x f ≡ false) xs h.0 l e b)))
once_of (x ∷ xs) h (suc n) zero e a b = absurd (true≢false (sym (same_refl e.user e.place) ∙ subst (λ z. same_edge z e ≡ false) (some_is b) (at_all (λ f. same_edge x f ≡ false) xs h.0 n e a)))
once_of (x ∷ xs) h (suc n) (suc l) e a b = ap suc (once_of xs h.1 n l e a b)

-- the edges to a block are these in any order
pub edges_permuted : (t : Tree) (block : ℕ) (xs ys : List Edge) → IsPermutation xs ys → AreEdgesTo t block xs → AreEdgesTo t block ys
edges_permuted t block xs ys p to = record {
  listed = λ n e q. let b = found ys xs (IsPermutation-sym xs ys p) n e q in to.listed b.0 e b.1;
  once = once_of ys (IsDistinct-IsPermutation same_edge (λ e f. same_flips e.user e.place f.user f.place) xs ys p (distinct_of xs to.once));
  complete = λ k i s. let b = to.complete k i s in found xs ys p b.0 (record { user = k; place = i }) b.1;
}

-- edges sorted by their counts
pub sorted_incoming : (m : Meaning) (t : Tree) (block : ℕ) (es fs : List IncomingEdge) → BranchesLead m t block → AreEdgesTo t block (edges_of es) → AreCounted m t es → IsPermutation es fs → AreFalling fs → AreIncoming m t block (edges_of fs)
sorted_incoming m t block es fs branches to counted p falling = record {
  complete = edges_permuted t block (edges_of es) (edges_of fs) (IsPermutation-map edge_of_incoming es fs p) to;
  branches = branches;
  falling = λ i j e f l a b. at i j e f l (edge_at fs i e a) (edge_at fs j f b);
}
  where
    counted_too : (i : ℕ) (x : IncomingEdge) → slice_get fs i ≡ Some x → (width m t (edge_of_incoming x) ≡ x.count) × (x.count < 2 ^ 64)
    counted_too i x q = let b = found fs es (IsPermutation-sym es fs p) i x q in counted b.0 x b.1

    less : (a b : ℕ) → a < 2 ^ 64 → b < 2 ^ 64 → 2 ^ 64 - 1 - a ≤ 2 ^ 64 - 1 - b → b ≤ a
    less a b la lb q = omega (arith, la, lb, q)

    at : (i j : ℕ) (e f : Edge) → i < j → (x : IncomingEdge) × (slice_get fs i ≡ Some x) × (edge_of_incoming x ≡ e) → (y : IncomingEdge) × (slice_get fs j ≡ Some y) × (edge_of_incoming y ≡ f) → width m t f ≤ width m t e
    at i j e f l (x, xi, xe) (y, yj, yf) =
        let cx = counted_too i x xi in
        let cy = counted_too j y yj in
        let le : i ≤ j = omega (arith, l) in
        let rises : 2 ^ 64 - 1 - x.count ≤ 2 ^ 64 - 1 - y.count = subst (λ z. 2 ^ 64 - 1 - z.count ≤ 2 ^ 64 - 1 - y.count) (get_or_from_slice_get fs i x x xi) (subst (λ z. 2 ^ 64 - 1 - (get_or fs i x).count ≤ 2 ^ 64 - 1 - z.count) (get_or_from_slice_get fs j y x yj) (falling i j x le (slice_get_within fs j y yj))) in
        subst (λ z. width m t z ≤ width m t e) yf (subst (λ z. width m t (edge_of_incoming y) ≤ width m t z) xe
        (subst (λ n. n ≤ width m t (edge_of_incoming x)) (sym cy.0) (subst (λ n. y.count ≤ n) (sym cx.0) (less x.count y.count cx.1 cy.1 rises))))

-- one item less, where there is one at this place
abbrev pub Loses : (place before after : ℕ) → Type 0
Loses i n k = ((i < n) × (k + 1 ≡ n)) ⊎ ((n ≤ i) × (k ≡ n))

pub length_loses : {A : Type 0} (xs : List A) (i : ℕ) → Loses i (length xs) (length (remove xs i))
length_loses xs i = ⊎_elim (λ l. inl (l, length-remove xs i l)) (λ l. inr (l, ap length (remove_none xs i (slice_get_past xs i l)))) (cases_lt i (length xs))

pub loses_alike : (i n k n' k' : ℕ) → Loses i n k → Loses i n' k' → n ≤ n' → k ≤ k'
loses_alike i n k n' k' (inl a) (inl b) l = omega (arith, a.0, a.1, b.0, b.1, l)
loses_alike i n k n' k' (inl a) (inr b) l = omega (arith, a.0, a.1, b.0, b.1, l)
loses_alike i n k n' k' (inr a) (inl b) l = omega (arith, a.0, a.1, b.0, b.1, l)
loses_alike i n k n' k' (inr a) (inr b) l = omega (arith, a.0, a.1, b.0, b.1, l)

-- one edge more
pub edges_more : (es : List IncomingEdge) (x : IncomingEdge) (uses : List Edge) (i : ℕ) → edges_of es ≡ take i uses → slice_get uses i ≡ Some (edge_of_incoming x) → edges_of (es ++ x ∷ []) ≡ take (i + 1) uses
edges_more es x uses i e q = map-append edge_of_incoming es (x ∷ []) ∙ ap (λ z. z ++ edge_of_incoming x ∷ []) e ∙ ap (λ z. take i uses ++ z ∷ []) (sym (get_or_from_slice_get uses i (edge_of_incoming x) (edge_of_incoming x) q)) ∙ sym (take_more uses i (edge_of_incoming x) (slice_get_within uses i (edge_of_incoming x) q))

at_end : {A : Type 0} (xs : List A) (x y : A) (i : ℕ) → slice_get (xs ++ x ∷ []) i ≡ Some y → slice_get xs i ≡ Some y ⊎ (x ≡ y)
at_end [] x y zero e = inr (some_is e)
at_end [] x y (suc i) e = absurd (cc)
at_end (z ∷ xs) x y zero e = inl e
at_end (z ∷ xs) x y (suc i) e = at_end xs x y i e

pub counted_more : (m : Meaning) (t : Tree) (es : List IncomingEdge) (x : IncomingEdge) → AreCounted m t es → width m t (edge_of_incoming x) ≡ x.count → x.count < 2 ^ 64 → AreCounted m t (es ++ x ∷ [])
counted_more m t es x old e l i y q = ⊎_elim (λ a. old i y a) (λ same. subst (λ z. (width m t (edge_of_incoming z) ≡ z.count) × (z.count < 2 ^ 64)) same (e, l)) (at_end es x y i q)

-- how much an edge forwards
pub width_counted : (m : Meaning) (t : Tree) (e : Edge) (values : List ℕ) → IsLive t e.user → AreForwarded m t e.user e.place values → width m t e ≡ length values
width_counted m t e values l fw =
    let h = some_of (head_of t e.user) l in
    let o = operation_of t e.user h.0 in
    let oe = make_op t e.user h.0 h.1 in
    ap (count_along m t e.place) oe ∙ sym (length_picked values (m.forwarded (shape_of m t o) e.place) o.operands (fw o oe))

-- one list more
pub known_more : {V : Type 0} (items : V → List IncomingEdge) (m : Meaning) (t : Tree) (root : ℕ) (find more : ℕ → Option V) (block : ℕ) (list : V) → ((q : ℕ) → more q ≡ cond (is_one_key block q) (Some list) (find q)) → AreIncoming m t block (edges_of (items list)) → AreKnown m t root (λ b. option_map items (find b)) → AreKnown m t root (λ b. option_map items (more b))
known_more items m t root find more block list at new old b es e held = elim (cases_Bool (is_one_key block b)) [
  | inl same ↦
      let one : items list ≡ es = some_is (sym (ap (option_map items) (at b ∙ ap (λ z. cond z (Some list) (find b)) same)) ∙ e) in
      subst (λ z. AreIncoming m t z (edges_of es)) (one_key block b same) (subst (λ z. AreIncoming m t block (edges_of z)) one new)
  | inr other ↦ old b es (sym (ap (option_map items) (at b ∙ ap (λ z. cond z (Some list) (find b)) other)) ∙ e) held
]
  where
    one_key : (x y : ℕ) → is_one_key x y ≡ true → x ≡ y
    one_key x y q = grind arith

pub none_known : (m : Meaning) (t : Tree) (root : ℕ) (find : ℕ → Option (List IncomingEdge)) → ((b : ℕ) → find b ≡ None) → AreKnown m t root find
none_known m t root find none b es e held = let f : None ≡ Some es = sym (none b) ∙ e in absurd (cc)
