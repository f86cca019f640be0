-- The entries of a list one after the other, and sums that are too large.
use Rattle.std.proofs.Common.{◌≡◌, ℕ, zero, suc, ◌+◌, ◌^◌, ◌<◌, ◌≤◌, Bool, true, false, ◌&&◌, nat_eq, List, [], ◌∷◌, length, map, get_or, take, drop, sum, if◌then◌else◌, Some, None, Result, Ok, Err, IfOk, refl, ap, add-one, drop-cons, arith, codes, bytes_eq}
use Rattle.std.specs.List.{starts_with}
use Rattle.std.proofs.lemmas.Bool.Decides.{nat_tests}
use Rattle.std.proofs.lemmas.List.Sums.{sum_by_more, sum_by-take-le}
use Rattle.pliron_text_mlir_syntax.specs.declared.cursor.TextCursor.{TextCursor}
use Rattle.pliron_text_mlir_syntax.specs.Spans.{bytes_in}
use Rattle.pliron_text_mlir_reader.specs.declared.reader.Entry.{Entry}
use Rattle.pliron_text_mlir_reader.specs.declared.owned.OwnedProperty.{OwnedProperty}
use Rattle.pliron_text_mlir_reader.specs.declared.owned.OwnedProperty.TheVariants.{Predicate as OwnsPredicate, LlvmOverflow, ArithOverflow, Exact, Disjoint, NonNegative}
use Rattle.pliron_text_mlir_reader.specs.declared.taken.Entries.{Entries}
use Rattle.pliron_text_mlir_reader.specs.Taken.{flags_owned}
use Rattle.pliron_core.specs.declared.attrs.Head.{Head}
use Rattle.pliron_dialect_mlir.specs.Heads.{plain_class_head}
use Rattle.pliron_dialect_mlir.specs.declared.kind.Class.TheVariants.{Fork}
use Rattle.pliron_text_mlir_syntax.specs.declared.fault.Fault.{Fault}
use Rattle.pliron_text_mlir_reader.specs.declared.taken.OperationShape.{OperationShape}
use Rattle.pliron_text_mlir_reader.specs.Said.{Said, without_quotes, counts_edges, value_in, predicate_in, overflow_said, overflow_listed, counts_said, fit_shape, fitting}
use Rattle.pliron_text_mlir_syntax.specs.declared.sheet.Sheet.{Sheet}
use Rattle.pliron_text_mlir_reader.specs.TakenHeads.{Forms, SaysForm, IsBranchHead, IsSwitchHead}
use Rattle.pliron_text_mlir_reader.specs.SaidOf.{value_text, entry_text, entry_behind, without_counts}

pub named_here : (name : List ℕ) (cursor : TextCursor) (entries : List Entry) (i : ℕ) (d : Entry) → i < length entries
    → bytes_eq (without_quotes (bytes_in cursor (get_or entries i d).name)) name ≡ true → value_in name (map (entry_text cursor) (drop i entries)) ≡ Some (value_text cursor (get_or entries i d).value)
named_here name cursor entries i d h is = rw (drop-cons entries i d h, is)

pub named_later : (name : List ℕ) (cursor : TextCursor) (entries : List Entry) (i : ℕ) (d : Entry) → i < length entries
    → bytes_eq (without_quotes (bytes_in cursor (get_or entries i d).name)) name ≡ false → value_in name (map (entry_text cursor) (drop i entries)) ≡ value_in name (map (entry_text cursor) (drop (i + 1) entries))
named_later name cursor entries i d h is = rw (add-one, drop-cons entries i d h, is)

drop_all : {A : Type 0} (xs : List A) (i : ℕ) → length xs ≤ i → drop i xs ≡ []
drop_all [] zero h = refl
drop_all [] (suc i) h = refl
drop_all (x ∷ xs) zero h = absurd (omega arith)
drop_all (x ∷ xs) (suc i) h = drop_all xs i (omega arith)

pub named_never : (name : List ℕ) (cursor : TextCursor) (entries : List Entry) (i : ℕ) → length entries ≤ i → value_in name (map (entry_text cursor) (drop i entries)) ≡ None
named_never name cursor entries i h = rw (drop_all entries i h)

pub sum_over : (xs : List ℕ) (i : ℕ) → i < length xs → 2 ^ 64 ≤ sum (take i xs) + get_or xs i 0 → 2 ^ 64 ≤ sum xs
sum_over xs i h over = omega (arith, sum_by_more (λ x. x) xs i 0 h, sum_by-take-le (λ x. x) xs (i + 1))

pub flags_unowned : (owned : OwnedProperty) (p a q b : Entries) → (owned ≡ LlvmOverflow → ⊥) → (owned ≡ ArithOverflow → ⊥) → (owned ≡ Exact → ⊥) → (owned ≡ Disjoint → ⊥) → (owned ≡ NonNegative → ⊥)
    → flags_owned owned p a ≡ flags_owned owned q b
flags_unowned LlvmOverflow p a q b l r e d n = absurd (l refl)
flags_unowned ArithOverflow p a q b l r e d n = absurd (r refl)
flags_unowned Exact p a q b l r e d n = absurd (e refl)
flags_unowned Disjoint p a q b l r e d n = absurd (d refl)
flags_unowned NonNegative p a q b l r e d n = absurd (n refl)
flags_unowned _ p a q b l r e d n = refl

pub predicate_unowned : (owned : OwnedProperty) (said : Said) → (owned ≡ OwnsPredicate → ⊥) → predicate_in owned said ≡ None
predicate_unowned OwnsPredicate said h = absurd (h refl)
predicate_unowned _ said h = refl

and_false : (x y : Bool) → (x && (y && false)) ≡ false
and_false true true = refl
and_false true false = refl
and_false false y = refl

differ : (m n : ℕ) → n < m → nat_eq m n ≡ false
differ m n h = grind (arith, nat_tests)

pub fits_never : (s : OperationShape) (counts : List ℕ) → s.operands < 18446744073709551616 → 18446744073709551616 ≤ sum counts → fit_shape s counts ≡ false
fits_never s counts few many =
    let e : nat_eq (1 + sum counts) s.operands ≡ false = differ (1 + sum counts) s.operands (omega arith) in
    rw e (and_false _ _)

-- where the edges take no counts that fit, a branch is a fork
pub branch_forks : (sheet : Sheet) (s : OperationShape) (said : Said) (forms : Forms) (r : Result Head Fault) → fitting s (counts_said false said) ≡ None → IfOk r (λ head. SaysForm sheet forms.form (plain_class_head Fork) head)
    → IfOk r (λ head. IsBranchHead sheet s said forms head)
branch_forks sheet s said forms (Ok head) none is = rw none is
branch_forks sheet s said forms (Err fault) none is = is

pub switch_forks : (sheet : Sheet) (s : OperationShape) (said : Said) (forms : Forms) (r : Result Head Fault) → fitting s (counts_said true said) ≡ None → IfOk r (λ head. SaysForm sheet forms.form (plain_class_head Fork) head)
    → IfOk r (λ head. IsSwitchHead sheet s said forms head)
switch_forks sheet s said forms (Ok head) none is = rw none is
switch_forks sheet s said forms (Err fault) none is = is

-- the entries that are kept, one after the other
first_left_out : (cursor : TextCursor) (text : List ℕ) (entry : Entry) (entries : List Entry) → counts_edges (without_quotes (bytes_in cursor entry.name)) ≡ true
    → without_counts cursor text (entry ∷ entries) ≡ without_counts cursor text entries
first_left_out cursor text entry entries is = ap (λ b. without_counts cursor (if b then text else entry_behind cursor text entry) entries) is

first_kept : (cursor : TextCursor) (text : List ℕ) (entry : Entry) (entries : List Entry) → counts_edges (without_quotes (bytes_in cursor entry.name)) ≡ false
    → without_counts cursor text (entry ∷ entries) ≡ without_counts cursor (entry_behind cursor text entry) entries
first_kept cursor text entry entries is = ap (λ b. without_counts cursor (if b then text else entry_behind cursor text entry) entries) is

pub entry_left_out : (cursor : TextCursor) (text : List ℕ) (entries : List Entry) (i : ℕ) (d : Entry) → i < length entries → counts_edges (without_quotes (bytes_in cursor (get_or entries i d).name)) ≡ true
    → without_counts cursor text (drop i entries) ≡ without_counts cursor text (drop (i + 1) entries)
entry_left_out cursor text entries i d h is = rw (add-one, drop-cons entries i d h) (first_left_out cursor text (get_or entries i d) (drop (suc i) entries) is)

pub entry_kept : (cursor : TextCursor) (text : List ℕ) (entries : List Entry) (i : ℕ) (d : Entry) → i < length entries → counts_edges (without_quotes (bytes_in cursor (get_or entries i d).name)) ≡ false
    → without_counts cursor text (drop i entries) ≡ without_counts cursor (entry_behind cursor text (get_or entries i d)) (drop (i + 1) entries)
entry_kept cursor text entries i d h is = rw (add-one, drop-cons entries i d h) (first_kept cursor text (get_or entries i d) (drop (suc i) entries) is)

pub entries_done : (cursor : TextCursor) (text : List ℕ) (entries : List Entry) (i : ℕ) → length entries ≤ i → without_counts cursor text (drop i entries) ≡ text
entries_done cursor text entries i h = rw (drop_all entries i h)

pub listed_llvm : (text : List ℕ) → starts_with nat_eq text (codes "#llvm.overflow<") ≡ true → overflow_said text ≡ overflow_listed (codes "#llvm.overflow<") text
listed_llvm text begins = rw begins
