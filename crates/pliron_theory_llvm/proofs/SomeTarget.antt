-- A target: aggregates are lists of parts, where 0 is poison, and nothing is given of other operations than those on
-- integers.
use Rattle.std.proofs.Common.{◌≡◌, ◌⊎◌, inl, inr, ℕ, ◌&&◌, ◌||◌, nat_eq, Bool, true, false, true≢false, List, [], ◌∷◌, IsTrue, refl, sym, ap, subst, arith, tests}
use Rattle.std.specs.Prelude.{pos}
use Rattle.pliron_core.specs.declared.attrs.AttrObj.TheVariants.{Int}
use Rattle.pliron_laws.specs.Datum.{Datum, Empty, Number, Text, Join}
use Rattle.pliron_dialect.specs.Identities.{same_datum}
use Rattle.pliron_dialect.specs.Roles.{fit_data}
use Rattle.pliron_theory_refinement.specs.Refinement.{Relation}
use Rattle.pliron_theory_llvm.specs.Llvm.{Llvm, is_whole, IsFlatOnIntegers, IsMonotone}
use Rattle.pliron_theory_llvm.specs.LlvmLaws.{SomeTarget}
use Rattle.pliron_theory_llvm.proofs.SameData.{both, parts, itself, same_is}
use Rattle.pliron_theory_llvm.proofs.LlvmOrder.{all_itself}

abbrev part_may : ℕ → ℕ → Bool
part_may m n = nat_eq m 0 || nat_eq m n

abbrev parts_may : List ℕ → List ℕ → Bool
parts_may [] [] = true
parts_may [] (n ∷ t) = false
parts_may (m ∷ s) [] = false
parts_may (m ∷ s) (n ∷ t) = part_may m n && parts_may s t

abbrev by_parts : Relation
by_parts Empty e = true
by_parts (Text s) (Text t) = parts_may s t
by_parts d e = same_datum d e

part_itself : (m : ℕ) → IsTrue (part_may m m)
part_itself m = grind (arith, tests)

part_transitive : (m n x : ℕ) → IsTrue (part_may m n) → IsTrue (part_may n x) → IsTrue (part_may m x)
part_transitive m n x h k = grind (arith, tests)

parts_itself : (s : List ℕ) → IsTrue (parts_may s s)
parts_itself [] = refl
parts_itself (m ∷ s) = both (part_may m m) (parts_may s s) (part_itself m) (parts_itself s)

parts_transitive : (s t u : List ℕ) → IsTrue (parts_may s t) → IsTrue (parts_may t u) → IsTrue (parts_may s u)
parts_transitive [] [] u h k = k
parts_transitive [] (n ∷ t) u h k = absurd (true≢false (sym h))
parts_transitive (m ∷ s) [] u h k = absurd (true≢false (sym h))
parts_transitive (m ∷ s) (n ∷ t) [] h k = k
parts_transitive (m ∷ s) (n ∷ t) (x ∷ u) h k =
    let p = parts (part_may m n) (parts_may s t) h in
    let q = parts (part_may n x) (parts_may t u) k in
    both (part_may m x) (parts_may s u) (part_transitive m n x p.0 q.0) (parts_transitive s t u p.1 q.1)

reflexive : (d : Datum) → IsTrue (by_parts d d)
reflexive Empty = refl
reflexive (Number n) = itself (Number n)
reflexive (Text s) = parts_itself s
reflexive (Join a b) = itself (Join a b)

transitive : (a b c : Datum) → IsTrue (by_parts a b) → IsTrue (by_parts b c) → IsTrue (by_parts a c)
transitive Empty b c h k = refl
transitive (Number n) b c h k = subst (λ z. IsTrue (by_parts z c)) (sym (same_is (Number n) b h)) k
transitive (Join x y) b c h k = subst (λ z. IsTrue (by_parts z c)) (sym (same_is (Join x y) b h)) k
transitive (Text s) Empty c h k = absurd (true≢false (sym h))
transitive (Text s) (Number n) c h k = absurd (true≢false (sym h))
transitive (Text s) (Join x y) c h k = absurd (true≢false (sym h))
transitive (Text s) (Text t) Empty h k = k
transitive (Text s) (Text t) (Number n) h k = k
transitive (Text s) (Text t) (Join x y) h k = k
transitive (Text s) (Text t) (Text u) h k = parts_transitive s t u h k

to_poison : (d : Datum) → IsTrue (by_parts d Empty) → d ≡ Empty
to_poison Empty h = refl
to_poison (Number n) h = absurd (true≢false (sym h))
to_poison (Text s) h = absurd (true≢false (sym h))
to_poison (Join a b) h = absurd (true≢false (sym h))

from_whole : (d e : Datum) → IsTrue (is_whole d) → IsTrue (by_parts d e) → d ≡ e
from_whole Empty e w h = absurd (true≢false (sym w))
from_whole (Number n) e w h = same_is (Number n) e h
from_whole (Text s) e w h = absurd (true≢false (sym w))
from_whole (Join a b) e w h = same_is (Join a b) e h

to_whole : (d e : Datum) → IsTrue (is_whole e) → IsTrue (by_parts d e) → (d ≡ Empty) ⊎ (d ≡ e)
to_whole Empty e w h = inl refl
to_whole (Number n) e w h = inr (same_is (Number n) e h)
to_whole (Join a b) e w h = inr (same_is (Join a b) e h)
to_whole (Text s) Empty w h = absurd (true≢false (sym w))
to_whole (Text s) (Number n) w h = absurd (true≢false (sym h))
to_whole (Text s) (Text t) w h = absurd (true≢false (sym w))
to_whole (Text s) (Join a b) w h = absurd (true≢false (sym h))

flat_by_parts : IsFlatOnIntegers by_parts
flat_by_parts = record { preorder = record { reflexive = reflexive; transitive = transitive }; from_poison = λ d. refl; to_poison = to_poison; from_whole = from_whole; to_whole = to_whole }

abbrev target : Llvm
target = record { order = by_parts; constant = λ form. Int (pos 0); value = λ h input. []; undefined = λ h input. false }

monotone_target : IsMonotone target
monotone_target = record { flat = flat_by_parts; value = λ h n input later a. all_itself target flat_by_parts (fit_data n []); undefined = λ h input later a e. refl }

abbrev begins_zero : List ℕ → Bool
begins_zero [] = false
begins_zero (m ∷ s) = nat_eq m 0

zero_apart : ◌≡◌ {A = List ℕ} (0 ∷ []) (1 ∷ []) → ⊥
zero_apart e = true≢false (ap begins_zero e)

pub some_target : SomeTarget
some_target = (target, monotone_target, 0 ∷ [], 1 ∷ [], refl, zero_apart)
