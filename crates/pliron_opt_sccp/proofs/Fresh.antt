-- New tables: every number reads the same, and keys have their places as numbers.
use Rattle.std.proofs.Common.{◌≡◌, ℕ, zero, suc, ◌<◌, ◌≤◌, Bool, true, false, true≢false, nat_eq, cond, if◌then◌else◌, List, [], ◌∷◌, length, slice_get, get_or, nat_lt, replicate, Option, Some, None, refl, sym, ap, ◌∙◌, subst, arith}
use Rattle.std.specs.List.{list_any, position, position_or_len, slice_index_or}
use Rattle.std.proofs.lemmas.Bool.{eqb-true, eq-eqb, lt-ltb}
use Rattle.std.proofs.lemmas.List.{get_or-replicate}
use Rattle.std.proofs.lemmas.List.Quantifiers.{position-Some}
use Rattle.std.proofs.lemmas.List.Sums.{position_or_len_is}
use Rattle.std.proofs.lemmas.Option.{slice_get_within, slice_get-get_or}
use Rattle.pliron_core.specs.declared.attrs.AttrObj.{AttrObj}
use Rattle.pliron_core.specs.Lists.{In, IsDistinct}
use Rattle.pliron_core.proofs.HoldingLemmas.{some_is, in_slice, slice_in}
use Rattle.pliron_theory.specs.LatticeValues.{Undetermined, NotAConstant}
use Rattle.pliron_opt_sccp.specs.declared.lattice_tables.LatticeCell.{LatticeCell}
use Rattle.pliron_opt_sccp.specs.declared.lattice_tables.LatticeCell.TheVariants.{Undetermined as Unknown, Constant as Known, NotAConstant as Varying}
use Rattle.pliron_opt_sccp.specs.LatticeCells.{cell_at, is_unknown, value_of_cell, table_at, unknown_count}
use Rattle.pliron_opt_sccp.proofs.Worklists.{any_in, in_any, once_from}

-- a key's place is its number
pub numbered_at : (xs : List ℕ) → IsDistinct xs → (n b : ℕ) → slice_get xs n ≡ Some b → position (nat_eq b) xs ≡ Some n
numbered_at xs d n b e = ap (λ z. cond (nat_lt z (length xs)) (Some z) None) place ∙ ap (λ c. cond c (Some n) None) (lt-ltb n (length xs) lt)
  where
    lt : n < length xs
    lt = slice_get_within xs n b e

    here : get_or xs n 0 ≡ b
    here = some_is (sym (slice_get-get_or xs n 0 lt) ∙ e)

    before : (k : ℕ) → k < n → nat_eq b (get_or xs k 0) ≡ false
    before k l = by (nat_eq b (get_or xs k 0)) refl
      where
        inside : k < length xs
        inside = omega (arith, l, lt)

        by : (q : Bool) → nat_eq b (get_or xs k 0) ≡ q → nat_eq b (get_or xs k 0) ≡ false
        by true is = let same : k ≡ n = once_from xs d k n b (slice_get-get_or xs k 0 inside ∙ ap (λ z. Some z) (sym (eqb-true b (get_or xs k 0) is))) e in absurd (omega (arith, same, l))
        by false is = is

    place : position_or_len (nat_eq b) xs ≡ n
    place = position_or_len_is (nat_eq b) xs n 0 (omega (arith, lt)) before (λ l. eq-eqb b (get_or xs n 0) (sym here))

-- a table of one thing
pub fresh_at : {A : Type 0} (a : A) (n : ℕ) (xs : List A) → xs ≡ replicate n a → length xs ≡ n → (k : ℕ) → slice_index_or xs k a ≡ a
fresh_at {A} a n xs e l k = all xs (λ i lt. ap (λ z. slice_index_or z i a) e ∙ get_or-replicate n i a a (subst (λ z. i < z) l lt)) k
  where
    all : (ys : List A) → ((i : ℕ) → i < length ys → slice_index_or ys i a ≡ a) → (q : ℕ) → slice_index_or ys q a ≡ a
    all [] h q = refl
    all (y ∷ ys) h zero = h 0 (omega arith)
    all (y ∷ ys) h (suc q) = all ys (λ i lt. h (suc i) (omega (arith, lt))) q

pub fresh_read : {A : Type 0} (a : A) (n : ℕ) (xs : List A) → xs ≡ replicate n a → length xs ≡ n → (o : Option ℕ) → table_at a xs o ≡ a
fresh_read a n xs e l None = refl
fresh_read a n xs e l (Some k) = fresh_at a n xs e l k

pub count_most : (cells : List LatticeCell) → unknown_count cells ≤ length cells
count_most [] = omega arith
count_most (Unknown ∷ cells) = let l = count_most cells in omega (arith, l)
count_most (Known k ∷ cells) = let l = count_most cells in omega (arith, l)
count_most (Varying ∷ cells) = let l = count_most cells in omega (arith, l)

pub none_known : (cells : List LatticeCell) → ((i : ℕ) → slice_index_or cells i Unknown ≡ Unknown) → (n k : ℕ) → slice_get cells n ≡ Some (Known k) → ⊥
none_known cells h n k e = go cells n h e
  where
    is_none : Option LatticeCell → Bool
    is_none None = true
    is_none (Some c) = false

    or_varying : Option LatticeCell → LatticeCell
    or_varying None = Varying
    or_varying (Some c) = c

    go : (ys : List LatticeCell) (m : ℕ) → ((i : ℕ) → slice_index_or ys i Unknown ≡ Unknown) → slice_get ys m ≡ Some (Known k) → ⊥
    go [] m h e = true≢false (ap is_none e)
    go (y ∷ ys) zero h e = true≢false (sym (ap is_unknown (h 0)) ∙ ap is_unknown (ap or_varying e))
    go (y ∷ ys) (suc m) h e = go ys m (λ i. h (suc i)) e

-- values with a number are not known yet, others are no constants
pub fresh_fact : (constants : List AttrObj) (keys : List ℕ) (cells : List LatticeCell) → IsDistinct keys → ((i : ℕ) → slice_index_or cells i Unknown ≡ Unknown) → length cells ≡ length keys → (v : ℕ) → value_of_cell constants (cell_at cells (position (nat_eq v) keys)) ≡ (if list_any (nat_eq v) keys then Undetermined else NotAConstant)
fresh_fact constants keys cells d h l v = by (list_any (nat_eq v) keys) refl
  where
    read : (ys : List LatticeCell) (n : ℕ) → n < length ys → ((i : ℕ) → slice_index_or ys i Unknown ≡ Unknown) → slice_index_or ys n Varying ≡ Unknown
    read [] n lt g = absurd (omega (arith, lt))
    read (y ∷ ys) zero lt g = g 0
    read (y ∷ ys) (suc n) lt g = read ys n (omega (arith, lt)) (λ i. g (suc i))

    without : (o : Option ℕ) → position (nat_eq v) keys ≡ o → list_any (nat_eq v) keys ≡ false → value_of_cell constants (cell_at cells o) ≡ NotAConstant
    without None at none = refl
    without (Some m) at none =
        let p = position-Some (nat_eq v) keys m 0 at in
        let there : In v keys = in_slice keys m v (slice_get-get_or keys m 0 p.0 ∙ ap (λ z. Some z) (sym (eqb-true v (get_or keys m 0) p.1))) in
        absurd (true≢false (sym (in_any v keys there) ∙ none))

    by : (q : Bool) → list_any (nat_eq v) keys ≡ q → value_of_cell constants (cell_at cells (position (nat_eq v) keys)) ≡ (if list_any (nat_eq v) keys then Undetermined else NotAConstant)
    by true there =
        let s = slice_in keys v (any_in v keys there) in
        let lt = slice_get_within keys s.0 v s.1 in
        ap (λ o. value_of_cell constants (cell_at cells o)) (numbered_at keys d s.0 v s.1) ∙ ap (value_of_cell constants) (read cells s.0 (omega (arith, lt, l)) h) ∙ ap (λ c. if c then Undetermined else NotAConstant) (sym there)
    by false none = without (position (nat_eq v) keys) refl none ∙ ap (λ c. if c then Undetermined else NotAConstant) (sym none)
