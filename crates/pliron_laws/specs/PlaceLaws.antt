-- Places among operands, in order.
use Rattle.std.proofs.Common.{◌≡◌, ℕ, zero, suc, ◌+◌, ◌<◌, ◌≤◌, List, [], ◌∷◌, length, map, Some, refl, sym, ap, ◌∙◌, arith, add-one, tests}
use Rattle.std.specs.List.{range_with_len, slice_get, remove}
use Rattle.pliron_core.proofs.GrownLemmas.{range_at}
use Rattle.pliron_core.proofs.FlatLemmas.{slice_get-In}
use Rattle.pliron_core.specs.Tree.{In}
use Rattle.pliron_laws.specs.Acting.{pick}
use Rattle.pliron_laws.specs.Laws.{moved_up}

picked_behind : {A : Type 0} (x : A) (xs : List A) (a n : ℕ) → pick (range_with_len (a + 1) n) (x ∷ xs) ≡ pick (range_with_len a n) xs
picked_behind x xs a zero = refl
picked_behind x xs a (suc n) =
    let here : slice_get (x ∷ xs) (a + 1) ≡ slice_get xs a = ap (slice_get (x ∷ xs)) (add-one a) in
    let there = picked_behind x xs (a + 1) n in cc

-- all items in order
pub pick_all : {A : Type 0} (xs : List A) (n : ℕ) → length xs ≡ n → pick (range_with_len 0 n) xs ≡ map Some xs
pick_all [] zero e = refl
pick_all [] (suc n) e = grind arith
pick_all (x ∷ xs) zero e = grind arith
pick_all (x ∷ xs) (suc n) e = ap (λ z. Some x ∷ z) (picked_behind x xs 0 n ∙ pick_all xs n (omega (arith, e)))

pub in_places : (n p : ℕ) → In p (range_with_len 0 n) → p < n
in_places n p i = let at = slice_get-In p (range_with_len 0 n) i in let r = range_at 0 n at.0 p at.1 in omega (arith, r.0, r.1)

up : (a b : ℕ) → a ≤ b → moved_up a (b + 1) ≡ b
up a b l = grind (arith, tests)

pub stays : (a b : ℕ) → b ≤ a → moved_up a b ≡ b
stays a b l = grind (arith, tests)

-- places behind that one
pub shifted : (a b n : ℕ) → a ≤ b → map (moved_up a) (range_with_len (b + 1) n) ≡ range_with_len b n
shifted a b zero l = refl
shifted a b (suc n) l = let here = up a b l in let there = shifted a (b + 1) n (omega (arith, l)) in cc

-- the places but for one, each later one moved up
pub moved_places : (a n j : ℕ) → j ≤ n → map (moved_up (a + j)) (remove (range_with_len a (suc n)) j) ≡ range_with_len a n
moved_places a n zero l = shifted (a + 0) a n (omega arith)
moved_places a zero (suc j) l = absurd (omega (arith, l))
moved_places a (suc n) (suc j) l =
    let here = stays (a + suc j) a (omega arith) in
    let same : a + 1 + j ≡ a + suc j = omega arith in
    let there = ap (λ z. map (moved_up z) (remove (range_with_len (a + 1) (suc n)) j)) (sym same) ∙ moved_places (a + 1) n j (omega (arith, l)) in cc
