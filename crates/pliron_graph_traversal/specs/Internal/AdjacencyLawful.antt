-- A graph by adjacency lists is lawful.
use Rattle.std.proofs.Common.{◌≡◌, ℕ, zero, suc, ◌+◌, ◌<◌, ◌≤◌, Bool, true, false, List, [], ◌∷◌, Some, slice_get, map, ap, length, sym, ◌∙◌, arith, inl, inr, ◌⊎◌, Contains, true≢false, IfSome, nat_eq, refl, subst}
use Rattle.std.specs.List.{All, slice_index_or, IsDistinct, AllByRecursion}
use Rattle.std.proofs.lemmas.List.Elements.{All-get_or, All-contains}
use Rattle.std.proofs.lemmas.Bool.{eqb-true, eq-eqb}
use Rattle.std.proofs.lemmas.Bool.Decides.{eqb_tells}
use Rattle.std.proofs.lemmas.Option.{slice_get_within, same_Some}
use Rattle.pliron_graph_traversal.specs.Digraph.{IsLawful}
use Rattle.pliron_graph_traversal.specs.Adjacency.{Adjacency, graph_of, count_from, first_listed, row, AreInverse}
use Rattle.pliron_graph_traversal.specs.ByNumber.{IsByNumber}
use Rattle.pliron_graph_traversal.specs.Internal.Membership.{HasMember, in_from, contains_from, in_from_any, any_from_in}

pub same_number : (x y : ℕ) → nat_eq x y ≡ true → x ≡ y
same_number x y h = eqb-true x y h

pub reflexive : (x : ℕ) → nat_eq x x ≡ true
reflexive x = eq-eqb x x refl

pub counted : (i n v : ℕ) → HasMember (count_from i n) v → (i ≤ v) × (v < i + n)
counted i zero v h = absurd h
counted i (suc n) v (inl e) = (omega (arith, e), omega (arith, e))
counted i (suc n) v (inr h) = let r = counted (i + 1) n v h in (omega (arith, r.0), omega (arith, r.1))

count_has : (i n v : ℕ) → i ≤ v → v < i + n → HasMember (count_from i n) v
count_has i zero v l h = absurd (omega arith)
count_has i (suc n) v l h = by (nat_eq i v) refl (λ m. count_has (i + 1) n v m (omega arith))
  where
    by : (b : Bool) → nat_eq i v ≡ b → (i + 1 ≤ v → HasMember (count_from (i + 1) n) v) → (i ≡ v) ⊎ HasMember (count_from (i + 1) n) v
    by true e rest = inl (same_number i v e)
    by false e rest = inr (rest (elim (eqb_tells i v) [ inl t ↦ absurd (true≢false (sym t.0 ∙ e)) | inr t ↦ omega (arith, l, t.1) ]))

apart : (i j n : ℕ) → i < j → AllByRecursion (λ y. nat_eq i y ≡ false) (count_from j n)
apart i j zero l = tt
apart i j (suc n) l = ((elim (eqb_tells i j) [ inl t ↦ absurd (omega (arith, l, t.1)) | inr t ↦ t.0 ]), apart i (j + 1) n (omega arith))

distinct : (i n : ℕ) → IsDistinct nat_eq (count_from i n)
unfolding IsDistinct
distinct i zero = tt
distinct i (suc n) = (apart i (i + 1) n (omega arith), distinct (i + 1) n)

entry : (n : ℕ) → IfSome (first_listed (count_from 0 n)) (λ v. Contains (count_from 0 n) v)
entry zero = tt
entry (suc n) = contains_from (count_from 0 (suc n)) 0 (inl refl)

pub node_below : (n v : ℕ) → Contains (count_from 0 n) v → v < n
node_below n v h = let r = counted 0 n v (in_from (count_from 0 n) v h) in omega (arith, r.1)

pub below_node : (n v : ℕ) → v < n → Contains (count_from 0 n) v
below_node n v l = contains_from (count_from 0 n) v (count_has 0 n v (omega arith) (omega arith))

in_row : (n : ℕ) (rows : List (List ℕ)) (u v : ℕ) → u < length rows → All (λ r. All (λ x. x < n) r) rows → Contains (row rows u) v → v < n
in_row n rows u v l h c = All-contains (λ x. x < n) (slice_index_or rows u []) v (All-get_or (λ r. All (λ x. x < n) r) rows u [] l h) c

pub adjacency_lawful : (g : Adjacency) → AreInverse g → IsLawful nat_eq (graph_of g)
adjacency_lawful g h = record {
  same = same_number;
  distinct = distinct 0 (length g.succ);
  entry_in = entry (length g.succ);
  succ_in = λ u v hu hv. below_node (length g.succ) v (in_row (length g.succ) g.succ u v (node_below (length g.succ) u hu) h.succ_below hv);
  pred_in = λ u v hv hu. below_node (length g.succ) u (in_row (length g.succ) g.pred v u (let l = node_below (length g.succ) v hv in omega (arith, l, h.paired)) h.pred_below hu);
  inverse = λ u v hu hv.
      let both = h.inverse u v (node_below (length g.succ) u hu) (node_below (length g.succ) v hv) in (
        λ c. contains_from (row g.succ u) v (in_from_any nat_eq same_number reflexive (row g.succ u) v (sym both ∙ any_from_in nat_eq same_number reflexive (row g.pred v) u (in_from (row g.pred v) u c))),
        λ c. contains_from (row g.pred v) u (in_from_any nat_eq same_number reflexive (row g.pred v) u (both ∙ any_from_in nat_eq same_number reflexive (row g.succ u) v (in_from (row g.succ u) v c))),
      );
}

-- the nodes are in the order of their numbers
pub count_length : (i n : ℕ) → length (count_from i n) ≡ n
count_length i zero = refl
count_length i (suc n) = omega (arith, count_length (i + 1) n)

pub counted_at : (i n k : ℕ) → k < n → slice_get (count_from i n) k ≡ Some (i + k)
counted_at i zero k l = absurd (omega (arith, l))
counted_at i (suc n) zero l = ap Some (omega arith)
counted_at i (suc n) (suc k) l = counted_at (i + 1) n k (omega (arith, l)) ∙ ap Some (omega arith)

named_row : (n : ℕ) (xs : List ℕ) → ((v : ℕ) → HasMember xs v → v < n) → map Some xs ≡ map (λ j. slice_get (count_from 0 n) j) xs
named_row n [] h = refl
named_row n (x ∷ xs) h =
    let here : Some x ≡ slice_get (count_from 0 n) x = sym (counted_at 0 n x (h x (inl refl)) ∙ ap Some (omega arith)) in
    ap (λ o. o ∷ map Some xs) here ∙ ap (λ zs. slice_get (count_from 0 n) x ∷ zs) (named_row n xs (λ v i. h v (inr i)))

first_counted : (n : ℕ) → first_listed (count_from 0 n) ≡ slice_get (count_from 0 n) 0
first_counted zero = refl
first_counted (suc n) = refl

pub by_own_number : (g : Adjacency) → AreInverse g → IsByNumber (graph_of g) g
by_own_number g h = record {
  inverse = h;
  same_count = sym (count_length 0 (length g.succ));
  entry = first_counted (length g.succ);
  edges = λ k v at.
      let within : k < length g.succ = omega (arith, slice_get_within (count_from 0 (length g.succ)) k v at, count_length 0 (length g.succ)) in
      let plain : k ≡ 0 + k = omega arith in
      let here : k ≡ v = same_Some k v (ap Some plain ∙ sym (counted_at 0 (length g.succ) k within) ∙ at) in
      subst (λ z. map Some (row g.succ z) ≡ map (λ j. slice_get (count_from 0 (length g.succ)) j) (row g.succ k)) here
      (named_row (length g.succ) (row g.succ k) (λ x i. in_row (length g.succ) g.succ k x within h.succ_below (contains_from (row g.succ k) x i)));
}
