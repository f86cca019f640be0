-- Pure operations give their results at once, or are undefined behaviour.
use Rattle.std.proofs.Common.{◌≡◌, ◌⊎◌, inl, inr, ℕ, Bool, true, false, true≢false, ◌&&◌, nat_eq, List, [], ◌∷◌, length, Option, Some, None, IsTrue, refl, sym, ◌∙◌, subst}
use Rattle.std.specs.Option.{option_map}
use Rattle.pliron_core.specs.declared.attrs.Head.{Head}
use Rattle.pliron_core.specs.Tree.{Tree}
use Rattle.pliron_laws.specs.Datum.{Datum, Empty, Shape, Move, Give, Trap}
use Rattle.pliron_laws.specs.Tree.{shape_of}
use Rattle.pliron_laws.specs.Laws.{Admitted}
use Rattle.pliron_laws.specs.Linked.{IsAdmitted}
use Rattle.pliron_laws.specs.Answers.{HeadPasses}
use Rattle.pliron_laws.proofs.Records.{op_shows}
use Rattle.pliron_theory.proofs.SweptKeeps.{admitted_shape}
use Rattle.pliron_dialect.specs.Roles.{takes_by, by_role, meaning_by, has_some}
use Rattle.pliron_dialect.specs.Parts.{both_parts, same}
use Rattle.pliron_dialect.specs.CountLaws.{length-fitted}
use Rattle.pliron_dialect_mlir.specs.declared.kind.Class.{Class}
use Rattle.pliron_dialect_mlir.specs.declared.kind.Class.TheVariants.{Constant, Select, Opaque, Jump, Branch, Switch, Leave as LeaveClass, Unreachable, Effect, Local, Call, Regions, Root, Function, Module, Fork, Compare, Cast, Binary}
use Rattle.pliron_dialect_mlir.specs.ClassNumbers.{class_of_number}
use Rattle.pliron_dialect_mlir.specs.Classes.{role_of_class}
use Rattle.pliron_theory_refinement.specs.Refinement.{GivesOrStops}
use Rattle.pliron_theory_llvm.specs.Llvm.{Llvm, llvm, llvm_act, act_by_class, trap_if}
use Rattle.pliron_theory_llvm.specs.LlvmLaws.{is_pure_class, is_pure_head}

-- the move gives so many data, or is a trap
abbrev EndsWell : ℕ → Move → Type 0
EndsWell n move = ((r : List Datum) × (move ≡ Give r) × (length r ≡ n)) ⊎ (move ≡ Trap)

gives_one : (n : ℕ) (d : Datum) → n ≡ 1 → EndsWell n (Give (d ∷ []))
gives_one n d e = inl (d ∷ [], refl, sym e)

trapping : (b : Bool) (n : ℕ) (ds : List Datum) → length ds ≡ n → EndsWell n (trap_if b (Give ds))
trapping true n ds e = inr refl
trapping false n ds e = inl (ds, refl, e)

-- all pure operations but opaque ones have one result
one_behind : (x : Bool) (a b n : ℕ) (y : Bool) → IsTrue (x && (nat_eq b n && y)) → b ≡ n
one_behind x a b n y h = same b n (both_parts (nat_eq b n) y (both_parts x (nat_eq b n && y) h).1).0

results_one : (h : Head) (a b c d : ℕ) (class : Class) (allowed : Bool) → IsTrue (takes_by h a b c d (role_of_class class) && allowed) → is_pure_class (Some class) ≡ true → (class ≡ Opaque) ⊎ (b ≡ 1)
results_one h a b c d Constant allowed p e = let q = both_parts (takes_by h a b c d (role_of_class Constant)) allowed p in inr (one_behind (nat_eq a 0) a b 1 _ (both_parts (has_some h.attrs) _ q.0).1)
results_one h a b c d Select allowed p e = let q = both_parts (takes_by h a b c d (role_of_class Select)) allowed p in inr (one_behind (nat_eq a 3) a b 1 _ q.0)
results_one h a b c d Opaque allowed p e = inl refl
results_one h a b c d Compare allowed p e = let q = both_parts (takes_by h a b c d (role_of_class Compare)) allowed p in inr (one_behind (nat_eq a 2) a b 1 _ q.0)
results_one h a b c d (Cast cast) allowed p e = let q = both_parts (takes_by h a b c d (role_of_class (Cast cast))) allowed p in inr (one_behind (nat_eq a 1) a b 1 _ q.0)
results_one h a b c d (Binary operator) allowed p e = let q = both_parts (takes_by h a b c d (role_of_class (Binary operator))) allowed p in inr (one_behind (nat_eq a 2) a b 1 _ q.0)
results_one h a b c d Jump allowed p e = absurd (true≢false (sym e))
results_one h a b c d Branch allowed p e = absurd (true≢false (sym e))
results_one h a b c d Switch allowed p e = absurd (true≢false (sym e))
results_one h a b c d LeaveClass allowed p e = absurd (true≢false (sym e))
results_one h a b c d Unreachable allowed p e = absurd (true≢false (sym e))
results_one h a b c d Effect allowed p e = absurd (true≢false (sym e))
results_one h a b c d Local allowed p e = absurd (true≢false (sym e))
results_one h a b c d Call allowed p e = absurd (true≢false (sym e))
results_one h a b c d Regions allowed p e = absurd (true≢false (sym e))
results_one h a b c d Root allowed p e = absurd (true≢false (sym e))
results_one h a b c d Function allowed p e = absurd (true≢false (sym e))
results_one h a b c d Module allowed p e = absurd (true≢false (sym e))
results_one h a b c d Fork allowed p e = absurd (true≢false (sym e))

opaque_ends : (l : Llvm) (s : Shape) (ds : List Datum) → EndsWell s.results (llvm_act l Opaque s Empty ds)
opaque_ends l s ds = trapping (l.undefined s.head ds) s.results _ (length-fitted s.results (l.value s.head ds))

class_ends : (l : Llvm) (class : Class) (s : Shape) (ds : List Datum) → is_pure_class (Some class) ≡ true → (class ≡ Opaque) ⊎ (s.results ≡ 1) → EndsWell s.results (llvm_act l class s Empty ds)
class_ends l class s ds e (inl o) = subst (λ z. EndsWell s.results (llvm_act l z s Empty ds)) (sym o) (opaque_ends l s ds)
class_ends l Constant s ds e (inr one) = gives_one s.results _ one
class_ends l Select s ds e (inr one) = gives_one s.results _ one
class_ends l Opaque s ds e (inr one) = opaque_ends l s ds
class_ends l Compare s ds e (inr one) = gives_one s.results _ one
class_ends l (Cast cast) s ds e (inr one) = gives_one s.results _ one
class_ends l (Binary operator) s ds e (inr one) = trapping _ s.results _ (sym one)
class_ends l Jump s ds e (inr one) = absurd (true≢false (sym e))
class_ends l Branch s ds e (inr one) = absurd (true≢false (sym e))
class_ends l Switch s ds e (inr one) = absurd (true≢false (sym e))
class_ends l LeaveClass s ds e (inr one) = absurd (true≢false (sym e))
class_ends l Unreachable s ds e (inr one) = absurd (true≢false (sym e))
class_ends l Effect s ds e (inr one) = absurd (true≢false (sym e))
class_ends l Local s ds e (inr one) = absurd (true≢false (sym e))
class_ends l Call s ds e (inr one) = absurd (true≢false (sym e))
class_ends l Regions s ds e (inr one) = absurd (true≢false (sym e))
class_ends l Root s ds e (inr one) = absurd (true≢false (sym e))
class_ends l Function s ds e (inr one) = absurd (true≢false (sym e))
class_ends l Module s ds e (inr one) = absurd (true≢false (sym e))
class_ends l Fork s ds e (inr one) = absurd (true≢false (sym e))

-- by the number of the class
number_ends : (l : Llvm) (o : Option Class) (s : Shape) (ds : List Datum) (a b c d : ℕ) (allowed : Bool) → s.results ≡ b → IsTrue (by_role false (takes_by s.head a b c d) (option_map role_of_class (option_map (λ class. class) o)) && allowed) → is_pure_class o ≡ true → EndsWell s.results (act_by_class l o s Empty ds)
number_ends l None s ds a b c d allowed n p e = absurd (true≢false (sym e))
number_ends l (Some class) s ds a b c d allowed n p e = class_ends l class s ds e (elim (results_one s.head a b c d class allowed p e) as (λ x. (class ≡ Opaque) ⊎ (s.results ≡ 1)) [ inl q ↦ inl q | inr q ↦ inr (n ∙ q) ])

shape_ends : (l : Llvm) (s : Shape) (ds : List Datum) → Admitted (llvm l) s → is_pure_head s.head ≡ true → EndsWell s.results ((llvm l).act s Empty ds)
unfolding meaning_by
shape_ends l s ds p e = number_ends l (class_of_number s.head.kind) s ds s.operands s.results s.successors (length s.entry_arguments) _ refl p e

pub pure_ends : (l : Llvm) (t : Tree) (k : ℕ) → IsAdmitted (llvm l) t k → HeadPasses is_pure_head t k → GivesOrStops (llvm l) t k
unfolding shape_of
pure_ends l t k a p o e ds n = shape_ends l (shape_of (llvm l) t o) ds (admitted_shape (llvm l) t k o e a) (p o.head (op_shows t k o e).head)
