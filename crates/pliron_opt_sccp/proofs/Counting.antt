-- The counts of blocks and facts, as sums over two lists that do not change.
use Rattle.std.proofs.Common.{◌≡◌, inl, inr, ℕ, ◌+◌, ◌*◌, Bool, true, false, List, [], ◌∷◌, ◌++◌, length, filter, refl, sym, ap, ap₂, ◌∙◌, subst, arith}
use Rattle.std.specs.List.{flat_map}
use Rattle.pliron_core.specs.Lists.{In, IsDistinct}
use Rattle.pliron_theory.specs.LatticeValues.{LatticeValue, Undetermined, Constant, NotAConstant}
use Rattle.pliron_opt_sccp.specs.Chain.{is_constant_value, varies}
use Rattle.pliron_theory.proofs.PutFacts.{instead, instead_it, instead_other}

-- the sum of the weights of a list's items
abbrev pub sum_of : (ℕ → ℕ) → List ℕ → ℕ
sum_of w [] = 0
sum_of w (x ∷ xs) = w x + sum_of w xs

pub sum_same : (v w : ℕ → ℕ) (xs : List ℕ) → ((x : ℕ) → In x xs → v x ≡ w x) → sum_of v xs ≡ sum_of w xs
sum_same v w [] e = refl
sum_same v w (x ∷ xs) e = ap₂ (λ p q. p + q) (e x (inl refl)) (sum_same v w xs (λ y i. e y (inr i)))

pub sum_append : (w : ℕ → ℕ) (xs ys : List ℕ) → sum_of w (xs ++ ys) ≡ sum_of w xs + sum_of w ys
sum_append w [] ys = omega arith
sum_append w (x ∷ xs) ys = let e = sum_append w xs ys in omega (arith, e)

-- what changes at one item of a distinct list changes the sum by its weight
pub sum_changed : {A : Type 0} (w : A → ℕ) (f : ℕ → A) (v : ℕ) (a : A) (xs : List ℕ) → IsDistinct xs → In v xs → sum_of (λ x. w (instead v a f x)) xs + w (f v) ≡ sum_of (λ x. w (f x)) xs + w a
sum_changed w f v a [] d i = absurd i
sum_changed w f v a (x ∷ xs) d (inl e) =
    let here : w (instead v a f x) ≡ w a = ap (λ z. w (instead v a f z)) (sym e) ∙ ap w (instead_it v a f) in
    let old : w (f x) ≡ w (f v) = ap (λ z. w (f z)) (sym e) in
    let rest : sum_of (λ x. w (instead v a f x)) xs ≡ sum_of (λ x. w (f x)) xs = sum_same (λ x. w (instead v a f x)) (λ x. w (f x)) xs (λ y j. ap w (instead_other v a f y (λ s. d.0 (subst (λ z. In z xs) (s ∙ e) j)))) in
    omega (arith, here, old, rest)
sum_changed w f v a (x ∷ xs) d (inr i) =
    let other : w (instead v a f x) ≡ w (f x) = ap w (instead_other v a f x (λ s. d.0 (subst (λ z. In z xs) (sym s) i))) in
    let rest = sum_changed w f v a xs d.1 i in
    omega (arith, other, rest)

-- the weights of the two bounds
abbrev pub least : LatticeValue → ℕ
least Undetermined = 0
least (Constant c) = 1
least NotAConstant = 1

abbrev pub most : LatticeValue → ℕ
most Undetermined = 0
most (Constant c) = 1
most NotAConstant = 2

abbrev pub one_if : Bool → ℕ
one_if true = 1
one_if false = 0

length_kept : (p : ℕ → Bool) (x : ℕ) (xs : List ℕ) → length (filter p (x ∷ xs)) ≡ one_if (p x) + length (filter p xs)
length_kept p x xs = by (p x) refl
  where
    by : (b : Bool) → p x ≡ b → length (filter p (x ∷ xs)) ≡ one_if (p x) + length (filter p xs)
    by true e = grind (arith, e)
    by false e = grind (arith, e)

pub counted_filter : (p : ℕ → Bool) (xs : List ℕ) → length (filter p xs) ≡ sum_of (λ x. one_if (p x)) xs
counted_filter p [] = refl
counted_filter p (x ∷ xs) = length_kept p x xs ∙ ap (λ n. one_if (p x) + n) (counted_filter p xs)

split_least : (f : LatticeValue) → one_if (is_constant_value f) + one_if (varies f) ≡ least f
split_least Undetermined = refl
split_least (Constant c) = refl
split_least NotAConstant = refl

split_most : (f : LatticeValue) → one_if (is_constant_value f) + 2 * one_if (varies f) ≡ most f
split_most Undetermined = refl
split_most (Constant c) = refl
split_most NotAConstant = refl

pub sum_least : (f : ℕ → LatticeValue) (xs : List ℕ) → length (filter (λ v. is_constant_value (f v)) xs) + length (filter (λ v. varies (f v)) xs) ≡ sum_of (λ v. least (f v)) xs
sum_least f xs = ap₂ (λ a b. a + b) (counted_filter (λ v. is_constant_value (f v)) xs) (counted_filter (λ v. varies (f v)) xs) ∙ go xs
  where
    go : (xs : List ℕ) → sum_of (λ v. one_if (is_constant_value (f v))) xs + sum_of (λ v. one_if (varies (f v))) xs ≡ sum_of (λ v. least (f v)) xs
    go [] = refl
    go (x ∷ xs) = let e = go xs in let s = split_least (f x) in omega (arith, e, s)

pub sum_most : (f : ℕ → LatticeValue) (xs : List ℕ) → length (filter (λ v. is_constant_value (f v)) xs) + 2 * length (filter (λ v. varies (f v)) xs) ≡ sum_of (λ v. most (f v)) xs
sum_most f xs = ap₂ (λ a b. a + 2 * b) (counted_filter (λ v. is_constant_value (f v)) xs) (counted_filter (λ v. varies (f v)) xs) ∙ go xs
  where
    go : (xs : List ℕ) → sum_of (λ v. one_if (is_constant_value (f v))) xs + 2 * sum_of (λ v. one_if (varies (f v))) xs ≡ sum_of (λ v. most (f v)) xs
    go [] = refl
    go (x ∷ xs) = let e = go xs in let s = split_most (f x) in omega (arith, e, s)

-- values of blocks that are not reached weigh nothing
pub sum_reached : (w : ℕ → ℕ) (is_executable : ℕ → Bool) (values : ℕ → List ℕ) (bs : List ℕ) → ((b v : ℕ) → In b bs → is_executable b ≡ false → In v (values b) → w v ≡ 0) → sum_of w (flat_map values (filter is_executable bs)) ≡ sum_of w (flat_map values bs)
sum_reached w is_executable values [] none = refl
sum_reached w is_executable values (b ∷ bs) none = by (is_executable b) refl (sum_reached w is_executable values bs (λ c v i. none c v (inr i)))
  where
    zero_sum : (xs : List ℕ) → ((v : ℕ) → In v xs → w v ≡ 0) → sum_of w xs ≡ 0
    zero_sum [] z = refl
    zero_sum (x ∷ xs) z = let e = z x (inl refl) in let r = zero_sum xs (λ v i. z v (inr i)) in omega (arith, e, r)

    kept : is_executable b ≡ true → filter is_executable (b ∷ bs) ≡ b ∷ filter is_executable bs
    kept e = grind (arith, e)

    deleted : is_executable b ≡ false → filter is_executable (b ∷ bs) ≡ filter is_executable bs
    deleted e = grind (arith, e)

    by : (c : Bool) → is_executable b ≡ c → sum_of w (flat_map values (filter is_executable bs)) ≡ sum_of w (flat_map values bs) → sum_of w (flat_map values (filter is_executable (b ∷ bs))) ≡ sum_of w (flat_map values (b ∷ bs))
    by true e rest =
        ap (λ l. sum_of w (flat_map values l)) (kept e) ∙ sum_append w (values b) (flat_map values (filter is_executable bs)) ∙ ap (λ n. sum_of w (values b) + n) rest ∙ sym (sum_append w (values b) (flat_map values bs))
    by false e rest =
        let empty = zero_sum (values b) (λ v i. none b v (inl refl) e i) in
        let whole = sum_append w (values b) (flat_map values bs) in
        let more : sum_of w (flat_map values bs) ≡ sum_of w (flat_map values (b ∷ bs)) = omega (arith, empty, whole) in
        ap (λ l. sum_of w (flat_map values l)) (deleted e) ∙ rest ∙ more
