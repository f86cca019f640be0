-- When two data are one.
use Rattle.std.proofs.Common.{◌≡◌, ℕ, Bool, true, false, nat_eq, ◌&&◌, List, refl, ap, ap₂, sym, ◌∙◌, subst, arith, tests, ℤ}
use Rattle.std.specs.Bool.{Decides}
use Rattle.std.specs.Ordering.{int_eq}
use Rattle.std.specs.Cmp.Lexicographic.{pointwise}
use Rattle.std.proofs.lemmas.Bool.Decides.{Decides-eqb, Decides-int_eq, Decides-and, Decides-like}
use Rattle.std.proofs.lemmas.Slice.Eq.{slice_eq-Decides}
use Rattle.pliron_laws.specs.Datum.{Datum, Empty, Number, Text, Join}
use Rattle.pliron_dialect.specs.Identities.{same_datum}
use Rattle.pliron_mlir_rules.specs.WidthMoves.{false_true}

abbrev sort : Datum → ℕ
sort Empty = 0
sort (Number n) = 1
sort (Text s) = 2
sort (Join a b) = 3

abbrev number_or : ℤ → Datum → ℤ
number_or z (Number n) = n
number_or z Empty = z
number_or z (Text s) = z
number_or z (Join a b) = z

abbrev text_or : List ℕ → Datum → List ℕ
text_or s (Text t) = t
text_or s Empty = s
text_or s (Number n) = s
text_or s (Join a b) = s

abbrev first_or : Datum → Datum → Datum
first_or d (Join a b) = a
first_or d Empty = d
first_or d (Number n) = d
first_or d (Text s) = d

abbrev second_or : Datum → Datum → Datum
second_or d (Join a b) = b
second_or d Empty = d
second_or d (Number n) = d
second_or d (Text s) = d

never : {P : Type 0} → (P → ⊥) → Decides false P
never n = (λ e. false_true false refl e, λ p. absurd (n p))

other_sorts : (d e : Datum) → nat_eq (sort d) (sort e) ≡ false → d ≡ e → ⊥
other_sorts d e apart same = false_true (nat_eq (sort d) (sort e)) apart ((Decides-eqb (sort d) (sort e)).1 (ap sort same))

pub same_decides : (d e : Datum) → Decides (same_datum d e) (d ≡ e)
same_decides Empty Empty = (λ h. refl, λ h. refl)
same_decides Empty (Number n) = never (other_sorts Empty (Number n) refl)
same_decides Empty (Text s) = never (other_sorts Empty (Text s) refl)
same_decides Empty (Join a b) = never (other_sorts Empty (Join a b) refl)
same_decides (Number m) Empty = never (other_sorts (Number m) Empty refl)
same_decides (Number m) (Number n) = Decides-like (int_eq m n) (ap Number) (ap (number_or m)) (Decides-int_eq m n)
same_decides (Number m) (Text s) = never (other_sorts (Number m) (Text s) refl)
same_decides (Number m) (Join a b) = never (other_sorts (Number m) (Join a b) refl)
same_decides (Text s) Empty = never (other_sorts (Text s) Empty refl)
same_decides (Text s) (Number n) = never (other_sorts (Text s) (Number n) refl)
same_decides (Text s) (Text t) = Decides-like (pointwise nat_eq s t) (ap Text) (ap (text_or s)) (slice_eq-Decides Decides-eqb s t (pointwise nat_eq s t) refl)
same_decides (Text s) (Join a b) = never (other_sorts (Text s) (Join a b) refl)
same_decides (Join a b) Empty = never (other_sorts (Join a b) Empty refl)
same_decides (Join a b) (Number n) = never (other_sorts (Join a b) (Number n) refl)
same_decides (Join a b) (Text s) = never (other_sorts (Join a b) (Text s) refl)
same_decides (Join a b) (Join c d) =
    Decides-like (same_datum a c && same_datum b d) (λ p. ap₂ Join p.0 p.1) (λ p. (ap (first_or a) p, ap (second_or b) p))
    (Decides-and (same_datum a c) (same_datum b d) (same_decides a c) (same_decides b d))
