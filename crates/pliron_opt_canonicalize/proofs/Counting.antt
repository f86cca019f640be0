-- How many numbers pass a test, and which values are used.
use Rattle.std.proofs.Common.{◌≡◌, ◌≢◌, ◌⊎◌, ◌||◌, ◌<◌, ◌≤◌, ℕ, zero, suc, Bool, true, false, true≢false, nat_eq, List, [], ◌∷◌, get_or, if◌then◌else◌, inl, inr, ⊎_elim, refl, sym, ap, ◌∙◌, arith}
use Rattle.std.specs.List.{list_any}
use Rattle.std.proofs.lemmas.Bool.{eq-eqb}
use Rattle.pliron_core.specs.Tree.{Tree, In}
use Rattle.pliron_opt_canonicalize.specs.Counts.{count_below, is_used}
use Rattle.pliron_graph_order.specs.Seen.{IsUsed}

either_way : (b : Bool) → (b ≡ true) ⊎ (b ≡ false)
either_way true = inl refl
either_way false = inr refl

abbrev one_if : Bool → ℕ
one_if b = if b then 1 else 0

number : (b : Bool) → (b ≡ true) → one_if b ≡ 1
number true e = refl
number false e = absurd (true≢false (sym e))

no_number : (b : Bool) → (b ≡ false) → one_if b ≡ 0
no_number true e = absurd (true≢false e)
no_number false e = refl

pub count_fewer : (p q : ℕ → Bool) (n : ℕ) → ((v : ℕ) → v < n → q v ≡ true → p v ≡ true) → count_below q n ≤ count_below p n
count_fewer p q zero h = omega arith
count_fewer p q (suc n) h =
    let rest = count_fewer p q n (λ v lt e. h v (omega (arith, lt)) e) in
    ⊎_elim
    (λ e. let a = number (q n) e in let b = number (p n) (h n (omega arith) e) in omega (arith, a, b, rest))
    (λ e. let a = no_number (q n) e in omega (arith, a, rest))
    (either_way (q n))

pub count_less : (p q : ℕ → Bool) (n v : ℕ) → v < n → p v ≡ true → q v ≡ false → ((x : ℕ) → x < n → q x ≡ true → p x ≡ true) → count_below q n < count_below p n
count_less p q zero v lt met unmet h = absurd (omega (arith, lt))
count_less p q (suc n) v lt met unmet h = ⊎_elim here (λ ne. there (λ l. count_less p q n v l met unmet fewer) (omega (arith, lt, ne))) (cases v n)
  where
    cases : (x y : ℕ) → (x ≡ y) ⊎ (x ≢ y)
    cases x y = grind arith

    fewer : (x : ℕ) → x < n → q x ≡ true → p x ≡ true
    fewer x l e = h x (omega (arith, l)) e

    here : v ≡ n → count_below q (suc n) < count_below p (suc n)
    here e =
        let rest = count_fewer p q n fewer in
        let a = no_number (q n) (ap q (sym e) ∙ unmet) in
        let b = number (p n) (ap p (sym e) ∙ met) in
        omega (arith, a, b, rest)

    there : (v < n → count_below q n < count_below p n) → v < n → count_below q (suc n) < count_below p (suc n)
    there before l =
        let rest = before l in
        ⊎_elim
        (λ e. let a = number (q n) e in let b = number (p n) (h n (omega arith) e) in omega (arith, a, b, rest))
        (λ e. let a = no_number (q n) e in omega (arith, a, rest))
        (either_way (q n))

or_true : (a b : Bool) → (a || b) ≡ true → (a ≡ true) ⊎ (b ≡ true)
or_true true b e = inl refl
or_true false b e = inr e

or_left : (a b : Bool) → a ≡ true → (a || b) ≡ true
or_left true b e = refl
or_left false b e = absurd (true≢false (sym e))

or_right : (a b : Bool) → b ≡ true → (a || b) ≡ true
or_right true b e = refl
or_right false b e = e

equal : (x y : ℕ) → nat_eq x y ≡ true → x ≡ y
equal x y e = grind (arith, e)

row_has : (row : List ℕ) (v : ℕ) → In v row → list_any (λ w. nat_eq w v) row ≡ true
row_has [] v i = absurd i
row_has (x ∷ row) v (inl e) = or_left (nat_eq x v) _ (eq-eqb x v (sym e))
row_has (x ∷ row) v (inr i) = or_right (nat_eq x v) _ (row_has row v i)

has_row : (row : List ℕ) (v : ℕ) → list_any (λ w. nat_eq w v) row ≡ true → In v row
has_row [] v e = absurd (true≢false (sym e))
has_row (x ∷ row) v e = ⊎_elim (λ y. inl (sym (equal x v y))) (λ y. inr (has_row row v y)) (or_true (nat_eq x v) (list_any (λ w. nat_eq w v) row) e)

rows_have : (rows : List (List ℕ)) (k v : ℕ) → In v (get_or rows k []) → list_any (λ row. list_any (λ w. nat_eq w v) row) rows ≡ true
rows_have [] k v i = absurd i
rows_have (row ∷ rows) zero v i = or_left _ _ (row_has row v i)
rows_have (row ∷ rows) (suc k) v i = or_right (list_any (λ w. nat_eq w v) row) _ (rows_have rows k v i)

have_rows : (rows : List (List ℕ)) (v : ℕ) → list_any (λ row. list_any (λ w. nat_eq w v) row) rows ≡ true → (k : ℕ) × In v (get_or rows k [])
have_rows [] v e = absurd (true≢false (sym e))
have_rows (row ∷ rows) v e = ⊎_elim
    (λ y. (zero, has_row row v y))
    (λ y. let r = have_rows rows v y in (suc r.0, r.1))
    (or_true (list_any (λ w. nat_eq w v) row) (list_any (λ row. list_any (λ w. nat_eq w v) row) rows) e)

pub used_told : (t : Tree) (v : ℕ) → IsUsed t v → is_used t v ≡ true
used_told t v u = rows_have t.operands u.0 v u.1

pub told_used : (t : Tree) (v : ℕ) → is_used t v ≡ true → IsUsed t v
told_used t v e = have_rows t.operands v e
