-- The count of what was taken is kept by each step of the search for facts.
use Rattle.std.proofs.Common.{◌≡◌, ◌≢◌, ◌⊎◌, ◌↔◌, inl, inr, ⊎_elim, ℕ, ◌+◌, ◌*◌, ◌≤◌, Bool, true, false, true≢false, nat_eq, if◌then◌else◌, List, [], ◌∷◌, length, refl, sym, ap, ◌∙◌, subst, arith, IsTrue}
use Rattle.std.specs.List.{flat_map}
use Rattle.std.proofs.lemmas.Bool.{eqb-true, eq-eqb}
use Rattle.pliron_core.specs.Lists.{In, IsDistinct}
use Rattle.pliron_core.specs.Tree.{Tree}
use Rattle.pliron_core.specs.Invariant.{IsTree}
use Rattle.pliron_core.proofs.ListLemmas.{decide_in}
use Rattle.pliron_theory.specs.LatticeValues.{LatticeValue, Undetermined, Constant, NotAConstant, AtMost}
use Rattle.pliron_theory.proofs.PutFacts.{instead, instead_it, instead_other}
use Rattle.pliron_opt_sccp.specs.declared.lattice_tables.Tables.{Tables}
use Rattle.pliron_opt_sccp.specs.LatticeTables.{lattice_value_in, is_executable, is_block_on_worklist, is_value_on_worklist, lattice_values_of, PopsBlock}
use Rattle.pliron_opt_sccp.specs.Chain.{blocks_inside, reached_blocks}
use Rattle.pliron_opt_sccp.specs.Inside.{block_values, values_inside}
use Rattle.pliron_opt_sccp.specs.Lowering.{ValuesAreLowered}
use Rattle.pliron_opt_sccp.specs.OperationVisits.{PopsValues}
use Rattle.pliron_opt_sccp.specs.Propagated.{CountsPops}
use Rattle.pliron_opt_sccp.specs.WorklistCounts.{IsAccounted, AreWorklistsInside, IsUnsearched, AreWorklistsEmpty, AreKnownThere}
use Rattle.pliron_opt_sccp.proofs.Counting.{sum_of, sum_same, sum_changed, least, most, one_if, counted_filter, sum_least, sum_most, sum_reached}
use Rattle.pliron_opt_sccp.proofs.DistinctLists.{distinct-blocks, distinct-values}
use Rattle.pliron_opt_sccp.proofs.Settled.{varies_still}

-- sums item by item
pub sum_both : (a b c d : ℕ → ℕ) (xs : List ℕ) → ((x : ℕ) → In x xs → a x + b x ≤ c x + d x) → sum_of a xs + sum_of b xs ≤ sum_of c xs + sum_of d xs
sum_both a b c d [] h = omega arith
sum_both a b c d (x ∷ xs) h = let p = h x (inl refl) in let r = sum_both a b c d xs (λ y i. h y (inr i)) in omega (arith, p, r)

pub sum_none : (a : ℕ → ℕ) (xs : List ℕ) → ((x : ℕ) → In x xs → a x ≡ 0) → sum_of a xs ≡ 0
sum_none a [] h = refl
sum_none a (x ∷ xs) h = let p = h x (inl refl) in let r = sum_none a xs (λ y i. h y (inr i)) in omega (arith, p, r)

pub sum_bound : (a : ℕ → ℕ) (n : ℕ) (xs : List ℕ) → ((x : ℕ) → In x xs → a x ≤ n) → sum_of a xs ≤ n * length xs
sum_bound a n [] h = omega arith
sum_bound a n (x ∷ xs) h = let p = h x (inl refl) in let r = sum_bound a n xs (λ y i. h y (inr i)) in omega (arith, p, r)

-- weights of facts that fall
least_one : (f : LatticeValue) → least f ≤ 1
least_one Undetermined = omega arith
least_one (Constant c) = omega arith
least_one NotAConstant = omega arith

most_two : (f : LatticeValue) → most f ≤ 2
most_two Undetermined = omega arith
most_two (Constant c) = omega arith
most_two NotAConstant = omega arith

least_known : (f : LatticeValue) → f ≢ Undetermined → least f ≡ 1
least_known Undetermined some = absurd (some refl)
least_known (Constant c) some = refl
least_known NotAConstant some = refl

one_less : (b c : Bool) → (b ≡ true → c ≡ true) → one_if b ≤ one_if c
one_less true c h = let e = ap one_if (h refl) in omega (arith, e)
one_less false c h = omega arith

pub below_undetermined : (f g : LatticeValue) → AtMost g f → f ≢ Undetermined → g ≢ Undetermined
below_undetermined f g (inl u) some e = some u
below_undetermined f g (inr (inl n)) some e = let x : Undetermined ≡ NotAConstant = sym e ∙ n in absurd (grind arith)
below_undetermined f g (inr (inr s)) some e = some (sym s ∙ e)

most_falls : (f g : LatticeValue) → AtMost g f → g ≢ f → most f + 1 ≤ most g
most_falls f Undetermined (inl u) other = absurd (other (sym u))
most_falls f (Constant c) (inl u) other = let e = ap most u in omega (arith, e)
most_falls f NotAConstant (inl u) other = let e = ap most u in omega (arith, e)
most_falls Undetermined g (inr (inl n)) other = let e = ap most n in omega (arith, e)
most_falls (Constant c) g (inr (inl n)) other = let e = ap most n in omega (arith, e)
most_falls NotAConstant g (inr (inl n)) other = absurd (other n)
most_falls f g (inr (inr s)) other = absurd (other s)

most_less : (f g : LatticeValue) → AtMost g f → most f ≤ most g
most_less f g (inl u) = let e = ap most u in omega (arith, e)
most_less f g (inr (inl n)) = let e = ap most n in let l = most_two f in omega (arith, e, l)
most_less f g (inr (inr s)) = let e = ap most s in omega (arith, e)

-- one value, whose fact falls from f to g, and which waited w before and waits v after
value_least : (f g : LatticeValue) (w v : Bool) → (w ≡ true → f ≢ Undetermined) → (w ≡ true → v ≡ true) → (g ≡ f) ⊎ (v ≡ true) → least g + one_if w ≤ least f + one_if v
value_least f g w v known still (inl same) = let e = ap least same in let l = one_less w v still in omega (arith, e, l)
value_least f g true v known still (inr reported) = let e = ap one_if reported in let k = least_known f (known refl) in let l = least_one g in omega (arith, e, k, l)
value_least f g false v known still (inr reported) = let e = ap one_if reported in let l = least_one g in omega (arith, e, l)

value_most : (f g : LatticeValue) (w v : Bool) → AtMost g f → (v ≡ true → (w ≡ true) ⊎ (g ≢ f)) → one_if v + most f ≤ one_if w + most g
value_most f g w false below lowered_stamps = let l = most_less f g below in omega (arith, l)
value_most f g w true below lowered_stamps = ⊎_elim
    (λ e. let one = ap one_if e in let l = most_less f g below in omega (arith, one, l))
    (λ other. let l = most_falls f g below other in omega (arith, l))
    (lowered_stamps refl)

-- one block, which was reached r and waited w before, and is reached q and waits v after
block_least : (r q w v : Bool) → (w ≡ true → r ≡ true) → (w ≡ true → v ≡ true) → (q ≡ true → (r ≡ true) ⊎ (v ≡ true)) → one_if q + one_if w ≤ one_if r + one_if v
block_least r false w v known still reported = let l = one_less w v still in omega (arith, l)
block_least true true w v known still reported = let l = one_less w v still in omega (arith, l)
block_least false true true v known still reported = absurd (true≢false (sym (known refl)))
block_least false true false v known still reported = let e = ap one_if (⊎_elim (λ r. absurd (true≢false (sym r))) (λ t. t) (reported refl)) in omega (arith, e)

block_most : (r q w v : Bool) → (r ≡ true → q ≡ true) → (v ≡ true → (w ≡ true) ⊎ ((r ≡ false) × (q ≡ true))) → one_if v + one_if r ≤ one_if w + one_if q
block_most r q w false still came = let l = one_less r q still in omega (arith, l)
block_most r q w true still came = ⊎_elim
    (λ e. let one = ap one_if e in let l = one_less r q still in omega (arith, one, l))
    (λ e. let none = ap one_if e.0 in let one = ap one_if e.1 in omega (arith, none, one))
    (came refl)

-- what is so of some items of a distinct list, and of no others
pub sum_members : (taken xs : List ℕ) (p : ℕ → Bool) → IsDistinct xs → IsDistinct taken → ((x : ℕ) → In x taken → In x xs) → ((x : ℕ) → p x ≡ true ↔ In x taken) → sum_of (λ x. one_if (p x)) xs ≡ length taken
sum_members [] xs p d e within so = sum_none (λ x. one_if (p x)) xs (λ x i. by (p x) (λ y. (so x).0 y))
  where
    by : (b : Bool) → (b ≡ true → ⊥) → one_if b ≡ 0
    by true none = absurd (none refl)
    by false none = refl
sum_members (y ∷ taken) xs p d e within so =
    let q : ℕ → Bool = instead y false p in
    let rest = sum_members taken xs q d e.1 (λ x i. within x (inr i)) fewer in
    let change = sum_changed one_if p y false xs d (within y (inl refl)) in
    let one : one_if (p y) ≡ 1 = ap one_if ((so y).1 (inl refl)) in
    omega (arith, rest, change, one)
  where
    same_or : (x : ℕ) → (x ≡ y) ⊎ (x ≢ y)
    same_or x = by (nat_eq x y) refl
      where
        by : (b : Bool) → nat_eq x y ≡ b → (x ≡ y) ⊎ (x ≢ y)
        by true f = inl (eqb-true x y f)
        by false f = inr (λ s. true≢false (sym (eq-eqb x y s) ∙ f))

    fewer : (x : ℕ) → instead y false p x ≡ true ↔ In x taken
    fewer x = ⊎_elim
        (λ s. (λ t. absurd (true≢false (sym t ∙ ap (instead y false p) s ∙ instead_it y false p)), λ i. absurd (e.0 (subst (λ z. In z taken) s i))))
        (λ n. let o = instead_other y false p x n in (λ t. ⊎_elim (λ s. absurd (n s)) (λ i. i) ((so x).0 (sym o ∙ t)), λ i. o ∙ (so x).1 (inr i)))
        (same_or x)

-- the account as sums over the two lists
pub record HasSums (blocks values : List ℕ) (s : Tables) (pops : ℕ) : Type 0 where
  pub least : sum_of (λ b. one_if (is_executable s b)) blocks + sum_of (λ v. least (lattice_value_in s v)) values ≤ pops + (sum_of (λ b. one_if (is_block_on_worklist s b)) blocks + sum_of (λ v. one_if (is_value_on_worklist s v)) values)
  pub most : pops + (sum_of (λ b. one_if (is_block_on_worklist s b)) blocks + sum_of (λ v. one_if (is_value_on_worklist s v)) values) ≤ sum_of (λ b. one_if (is_executable s b)) blocks + sum_of (λ v. most (lattice_value_in s v)) values

module _ (t : Tree) (root : ℕ) where
  to_sums : (s : Tables) (pops : ℕ) → IsAccounted t root s pops → HasSums (blocks_inside t root) (values_inside t root) s pops
  to_sums s pops a =
      let r = counted_filter (λ b. is_executable s b) (blocks_inside t root) in
      let b = counted_filter (λ b. is_block_on_worklist s b) (blocks_inside t root) in
      let w = counted_filter (λ v. is_value_on_worklist s v) (values_inside t root) in
      let k = sum_least (λ v. lattice_value_in s v) (values_inside t root) in
      let m = sum_most (λ v. lattice_value_in s v) (values_inside t root) in
      record { least = omega (arith, a.least, r, b, w, k); most = omega (arith, a.most, r, b, w, m) }

  from_sums : (s : Tables) (pops : ℕ) → HasSums (blocks_inside t root) (values_inside t root) s pops → IsAccounted t root s pops
  from_sums s pops a =
      let r = counted_filter (λ b. is_executable s b) (blocks_inside t root) in
      let b = counted_filter (λ b. is_block_on_worklist s b) (blocks_inside t root) in
      let w = counted_filter (λ v. is_value_on_worklist s v) (values_inside t root) in
      let k = sum_least (λ v. lattice_value_in s v) (values_inside t root) in
      let m = sum_most (λ v. lattice_value_in s v) (values_inside t root) in
      record { least = omega (arith, a.least, r, b, w, k); most = omega (arith, a.most, r, b, w, m) }

  -- before the search nothing is reached, known and taken
  pub unsearched_accounted : (s : Tables) → IsUnsearched t root s → IsAccounted t root s 0
  unsearched_accounted s u =
      let r = sum_none (λ b. one_if (is_executable s b)) (blocks_inside t root) (λ b i. ap one_if (u.reached b)) in
      let b = sum_none (λ b. one_if (is_block_on_worklist s b)) (blocks_inside t root) (λ b i. ap one_if (u.blocks b)) in
      let w = sum_none (λ v. one_if (is_value_on_worklist s v)) (values_inside t root) (λ v i. ap one_if (u.values v)) in
      let k = sum_none (λ v. least (lattice_value_in s v)) (values_inside t root) (λ v i. ap least (u.inside v i)) in
      let m = sum_none (λ v. most (lattice_value_in s v)) (values_inside t root) (λ v i. ap most (u.inside v i)) in
      from_sums s 0 (record { least = omega (arith, r, b, w, k); most = omega (arith, r, b, w, m) })

  pub unsearched_inside : (s : Tables) → IsUnsearched t root s → AreWorklistsInside t root s
  unsearched_inside s u = record {
    blocks = λ b w. absurd (true≢false (sym w ∙ u.blocks b));
    values = λ v w. absurd (true≢false (sym w ∙ u.values v));
    outside = u.outside;
  }

  -- facts that fall keep the account
  pub falls_accounted : (s s' : Tables) (pops : ℕ) → AreWorklistsInside t root s → ValuesAreLowered s s' → IsAccounted t root s pops → IsAccounted t root s' pops
  falls_accounted s s' pops w f a =
      let o = to_sums s pops a in
      let bl = sum_both (λ b. one_if (is_executable s' b)) (λ b. one_if (is_block_on_worklist s b)) (λ b. one_if (is_executable s b)) (λ b. one_if (is_block_on_worklist s' b)) (blocks_inside t root) (λ b i. block_least (is_executable s b) (is_executable s' b) (is_block_on_worklist s b) (is_block_on_worklist s' b) (λ y. (w.blocks b y).1) (f.blocks b) (f.entered b)) in
      let bm = sum_both (λ b. one_if (is_block_on_worklist s' b)) (λ b. one_if (is_executable s b)) (λ b. one_if (is_block_on_worklist s b)) (λ b. one_if (is_executable s' b)) (blocks_inside t root) (λ b i. block_most (is_executable s b) (is_executable s' b) (is_block_on_worklist s b) (is_block_on_worklist s' b) (f.below.is_executable b) (f.came b)) in
      let vl = sum_both (λ v. least (lattice_value_in s' v)) (λ v. one_if (is_value_on_worklist s v)) (λ v. least (lattice_value_in s v)) (λ v. one_if (is_value_on_worklist s' v)) (values_inside t root) (λ v i. value_least (lattice_value_in s v) (lattice_value_in s' v) (is_value_on_worklist s v) (is_value_on_worklist s' v) (λ y. (w.values v y).1) (f.values v) (f.waits_if_lowered v)) in
      let vm = sum_both (λ v. one_if (is_value_on_worklist s' v)) (λ v. most (lattice_value_in s v)) (λ v. one_if (is_value_on_worklist s v)) (λ v. most (lattice_value_in s' v)) (values_inside t root) (λ v i. value_most (lattice_value_in s v) (lattice_value_in s' v) (is_value_on_worklist s v) (is_value_on_worklist s' v) (f.below.lattice_value v) (f.lowered_stamps v)) in
      from_sums s' pops (record { least = omega (arith, o.least, bl, vl); most = omega (arith, o.most, bm, vm) })

  pub falls_inside : (s s' : Tables) → AreWorklistsInside t root s → ValuesAreLowered s s' → ((b : ℕ) → IsTrue (is_executable s' b) → In b (blocks_inside t root)) → AreWorklistsInside t root s'
  falls_inside s s' w f inside = record {
    blocks = λ b y. ⊎_elim (λ old. let z = w.blocks b old in (z.0, f.below.is_executable b z.1)) (λ new. (inside b new.1, new.1)) (f.came b y);
    values = λ v y. ⊎_elim
        (λ old. let z = w.values v old in (z.0, below_undetermined (lattice_value_in s v) (lattice_value_in s' v) (f.below.lattice_value v) z.1))
        (λ new. (⊎_elim (λ i. i) (λ out. absurd (new (still v out ∙ sym (w.outside v out)))) (decide_in v (values_inside t root)), queued (lattice_value_in s v) (lattice_value_in s' v) (f.below.lattice_value v) new))
        (f.lowered_stamps v y);
    outside = still;
  }
    where
      still : (v : ℕ) → (In v (values_inside t root) → ⊥) → lattice_value_in s' v ≡ NotAConstant
      still v out = varies_still (lattice_value_in s v) (lattice_value_in s' v) (f.below.lattice_value v) (w.outside v out)

      queued : (f g : LatticeValue) → AtMost g f → g ≢ f → g ≢ Undetermined
      queued f g (inl u) other e = other (e ∙ sym u)
      queued f g (inr (inl n)) other e = let x : Undetermined ≡ NotAConstant = sym e ∙ n in absurd (grind arith)
      queued f g (inr (inr same)) other e = other same

  module _ (w : IsTree t) where
    -- one block was taken
    pub block_accounted : (b : ℕ) (s s' : Tables) (pops : ℕ) → AreWorklistsInside t root s → PopsBlock b s s' → IsAccounted t root s pops → IsAccounted t root s' (pops + 1)
    block_accounted b s s' pops inside k a =
        let o = to_sums s pops a in
        let r = sum_same (λ c. one_if (is_executable s' c)) (λ c. one_if (is_executable s c)) (blocks_inside t root) (λ c i. ap one_if (k.reached c)) in
        let l = sum_same (λ v. least (lattice_value_in s' v)) (λ v. least (lattice_value_in s v)) (values_inside t root) (λ v i. ap least (k.facts v)) in
        let m = sum_same (λ v. most (lattice_value_in s' v)) (λ v. most (lattice_value_in s v)) (values_inside t root) (λ v i. ap most (k.facts v)) in
        let v = sum_same (λ v. one_if (is_value_on_worklist s' v)) (λ v. one_if (is_value_on_worklist s v)) (values_inside t root) (λ v i. ap one_if (k.values v)) in
        let c = sum_changed one_if (λ c. is_block_on_worklist s c) b false (blocks_inside t root) (distinct-blocks t w root) (inside.blocks b k.waited).0 in
        let e = sum_same (λ c. one_if (is_block_on_worklist s' c)) (λ c. one_if (instead b false (λ c. is_block_on_worklist s c) c)) (blocks_inside t root) (λ c i. ap one_if (now c)) in
        let one = ap one_if k.waited in
        from_sums s' (pops + 1) (record { least = omega (arith, o.least, r, l, v, c, e, one); most = omega (arith, o.most, r, m, v, c, e, one) })
      where
        turned : (x y : ℕ) → nat_eq x y ≡ nat_eq y x
        turned x y = by (nat_eq x y) (nat_eq y x) refl refl
          where
            by : (p q : Bool) → nat_eq x y ≡ p → nat_eq y x ≡ q → p ≡ q
            by true q e f = sym (sym f ∙ eq-eqb y x (sym (eqb-true x y e)))
            by false true e f = absurd (true≢false (sym (eq-eqb x y (sym (eqb-true y x f))) ∙ e))
            by false false e f = refl

        now : (c : ℕ) → is_block_on_worklist s' c ≡ instead b false (λ c. is_block_on_worklist s c) c
        now c = k.blocks c ∙ ap (λ z. if z then false else is_block_on_worklist s c) (turned b c)

    -- all values that waited were taken
    pub values_accounted : (taken : List ℕ) (s s' : Tables) (pops : ℕ) → AreWorklistsInside t root s → PopsValues taken s s' → IsAccounted t root s pops → IsAccounted t root s' (pops + length taken)
    values_accounted taken s s' pops inside k a =
        let o = to_sums s pops a in
        let r = sum_same (λ c. one_if (is_executable s' c)) (λ c. one_if (is_executable s c)) (blocks_inside t root) (λ c i. ap one_if (k.reached c)) in
        let l = sum_same (λ v. least (lattice_value_in s' v)) (λ v. least (lattice_value_in s v)) (values_inside t root) (λ v i. ap least (k.facts v)) in
        let m = sum_same (λ v. most (lattice_value_in s' v)) (λ v. most (lattice_value_in s v)) (values_inside t root) (λ v i. ap most (k.facts v)) in
        let b = sum_same (λ c. one_if (is_block_on_worklist s' c)) (λ c. one_if (is_block_on_worklist s c)) (blocks_inside t root) (λ c i. ap one_if (k.blocks c)) in
        let none = sum_none (λ v. one_if (is_value_on_worklist s' v)) (values_inside t root) (λ v i. ap one_if (k.values v)) in
        let all = sum_members taken (values_inside t root) (λ v. is_value_on_worklist s v) (distinct-values t w root) k.distinct (λ v i. (inside.values v ((k.waited v).1 i)).0) k.waited in
        from_sums s' (pops + length taken) (record { least = omega (arith, o.least, r, l, b, none, all); most = omega (arith, o.most, r, m, b, none, all) })

  pub block_inside : (b : ℕ) (s s' : Tables) → AreWorklistsInside t root s → PopsBlock b s s' → AreWorklistsInside t root s'
  block_inside b s s' w k = record {
    blocks = λ c y. let z = w.blocks c (before (nat_eq b c) c (sym (k.blocks c) ∙ y)) in (z.0, k.reached c ∙ z.1);
    values = λ v y. let z = w.values v (sym (k.values v) ∙ y) in (z.0, λ e. z.1 (sym (k.facts v) ∙ e));
    outside = λ v out. k.facts v ∙ w.outside v out;
  }
    where
      before : (p : Bool) (c : ℕ) → (if p then false else is_block_on_worklist s c) ≡ true → is_block_on_worklist s c ≡ true
      before true c e = absurd (true≢false (sym e))
      before false c e = e

  pub values_kept_inside : (taken : List ℕ) (s s' : Tables) → AreWorklistsInside t root s → PopsValues taken s s' → AreWorklistsInside t root s'
  values_kept_inside taken s s' w k = record {
    blocks = λ c y. let z = w.blocks c (sym (k.blocks c) ∙ y) in (z.0, k.reached c ∙ z.1);
    values = λ v y. absurd (true≢false (sym y ∙ k.values v));
    outside = λ v out. k.facts v ∙ w.outside v out;
  }

  -- the count is bounded by the tree alone, and where something waits there is room for one more
  pub accounted_bound : (s : Tables) (pops : ℕ) → IsAccounted t root s pops → pops ≤ length (blocks_inside t root) + 2 * length (values_inside t root)
  accounted_bound s pops a =
      let o = to_sums s pops a in
      let r = sum_bound (λ b. one_if (is_executable s b)) 1 (blocks_inside t root) (λ b i. one_one (is_executable s b)) in
      let m = sum_bound (λ v. most (lattice_value_in s v)) 2 (values_inside t root) (λ v i. most_two (lattice_value_in s v)) in
      omega (arith, o.most, r, m)
    where
      one_one : (b : Bool) → one_if b ≤ 1
      one_one true = omega arith
      one_one false = omega arith

  -- where nothing waits any more the account is the count that is owed
  pub accounted_counts : (s : Tables) (pops : ℕ) → AreWorklistsEmpty s → AreKnownThere t root s → IsAccounted t root s pops → CountsPops t root (lattice_values_of s) pops
  accounted_counts s pops done there a =
      let o = to_sums s pops a in
      let b = sum_none (λ b. one_if (is_block_on_worklist s b)) (blocks_inside t root) (λ b i. ap one_if (done.blocks b)) in
      let v = sum_none (λ v. one_if (is_value_on_worklist s v)) (values_inside t root) (λ v i. ap one_if (done.values v)) in
      let r = counted_filter (λ b. is_executable s b) (blocks_inside t root) in
      let known = flat_map (λ b. block_values t b) (reached_blocks t root (lattice_values_of s)) in
      let k = sum_least (λ v. lattice_value_in s v) known in
      let m = sum_most (λ v. lattice_value_in s v) known in
      let kl = sum_reached (λ v. least (lattice_value_in s v)) (λ b. is_executable s b) (λ b. block_values t b) (blocks_inside t root) (λ c v i e j. ap least (there c v i j e)) in
      let ml = sum_reached (λ v. most (lattice_value_in s v)) (λ b. is_executable s b) (λ b. block_values t b) (blocks_inside t root) (λ c v i e j. ap most (there c v i j e)) in
      record { least = omega (arith, o.least, b, v, r, k, kl); most = omega (arith, o.most, b, v, r, m, ml) }
