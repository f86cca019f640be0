-- Folding by constants is an outcome that the law on folding in place allows.
use Rattle.std.proofs.Common.{◌≡◌, ℕ, suc, ◌+◌, Bool, List, ◌∷◌, Option, Some, None, refl, sym, ap, ◌∙◌, arith, slice_get}
use Rattle.pliron_core.specs.declared.attrs.AttrObj.{AttrObj}
use Rattle.pliron_core.specs.declared.attrs.IRStatus.{IRStatus}
use Rattle.pliron_core.specs.Tree.{Tree}
use Rattle.pliron_core.proofs.SameTreeLemmas.{same_refl}
use Rattle.pliron_laws.specs.Datum.{Head, Meaning}
use Rattle.pliron_laws.specs.Tree.{Operation, op_at, shape_of}
use Rattle.pliron_laws.specs.Folding.{Constants}
use Rattle.pliron_laws.specs.Outcomes.{Materialises, MaterialisesSome}
use Rattle.pliron_laws.specs.Outcomes.Materialises.{Finished, Unanswered, Unknown, PassedOver, Put}
use Rattle.pliron_laws.specs.Outcomes.MaterialisesSome.{Rest, Then}
use Rattle.pliron_laws.specs.InPlace.{ReportsChange, materialising_outcome}

-- the list has the part from index n on
abbrev IsPart : {A : Type 0} → ℕ → List A → List A → Type 0
IsPart {A} n whole part = (i : ℕ) (x : A) → slice_get part i ≡ Some x → slice_get whole (n + i) ≡ Some x

part_rest : {A : Type 0} (n : ℕ) (whole part : List A) (x : A) → IsPart n whole (x ∷ part) → IsPart (n + 1) whole part
part_rest n whole part x is i y e =
    let one : n + suc i ≡ n + 1 + i = omega arith in ap (slice_get whole) (sym one) ∙ is (suc i) y e

part_first : {A : Type 0} (n : ℕ) (whole part : List A) (x : A) → IsPart n whole (x ∷ part) → slice_get whole n ≡ Some x
part_first n whole part x is = let none : n + 0 ≡ n = omega arith in ap (slice_get whole) (sym none) ∙ is 0 x refl

part_all : {A : Type 0} (whole : List A) → IsPart 0 whole whole
part_all whole i x e = let none : 0 + i ≡ i = omega arith in ap (slice_get whole) none ∙ e

module _ (accepts : AttrObj → Bool) (head : AttrObj → Head) (op : ℕ) (results : List ℕ) (answers : List (Option AttrObj)) where
  some_of : (n : ℕ) (vs : List ℕ) (more : List (Option AttrObj)) (t u : Tree) → IsPart n results vs → IsPart n answers more → Materialises accepts head op vs more t u → MaterialisesSome accepts head op results answers t u
  some_of n vs more t u at said Finished = Rest (same_refl _)
  some_of n vs more t u at said Unanswered = Rest (same_refl _)
  some_of n vs more t u at said (Unknown m) =
      some_of (n + 1) _ _ _ _ (part_rest n results _ _ at) (part_rest n answers _ _ said) m
  some_of n vs more t u at said (PassedOver over m) =
      some_of (n + 1) _ _ _ _ (part_rest n results _ _ at) (part_rest n answers _ _ said) m
  some_of n vs more t u at said (Put accepted m) =
      Then n _ _ (part_first n results _ _ at) (part_first n answers _ _ said) accepted (some_of (n + 1) _ _ _ _ (part_rest n results _ _ at) (part_rest n answers _ _ said) m)

pub folds_by_constants : (m : Meaning) (constants : Constants) (accepts : AttrObj → Bool) (head : AttrObj → Head) (t u : Tree) (op : ℕ) (known : List (Option AttrObj)) (answer : Option IRStatus) (o : Operation) → op_at t op ≡ Some o → materialising_outcome m constants accepts head t u op known answer → MaterialisesSome accepts head op o.results (constants (shape_of m t o) known) t u × ReportsChange answer t u
folds_by_constants m constants accepts head t u op known None o at same = (Rest same, tt)
folds_by_constants m constants accepts head t u op known (Some status) o at is =
    (some_of accepts head op o.results (constants (shape_of m t o) known) 0 o.results (constants (shape_of m t o) known) t u (part_all _) (part_all _) (is.0 o at), is.1)
