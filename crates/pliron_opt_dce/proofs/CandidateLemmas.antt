-- All that may be dead inside an operation, as it is listed.
use Rattle.std.proofs.Common.{IfOk, Result, Ok, Err, ◌≡◌, inl, inr, ⊎_elim, ℕ, Bool, List, Option, Some, None, subst, refl}
use Rattle.std.proofs.lemmas.Option.{same_Some}
use Rattle.pliron_core.specs.declared.context.RegionSlot.{RegionSlot}
use Rattle.pliron_core.specs.Tree.{Tree, In, IsInside, IsWithin, IsListedBy, op_of_slot, arguments_of, regions_of, block_parent_of, block_parent_operation_of, region_parent_of, slot_of, up_from}
use Rattle.pliron_core.specs.Invariant.{IsTree}
use Rattle.pliron_core.proofs.HoldingLemmas.{in_slice}
use Rattle.pliron_core.proofs.WalkLemmas.{not_inside-itself}
use Rattle.pliron_laws.proofs.PassedLemmas.{ArePassed}
use Rattle.pliron_laws.specs.Datum.{Head, Meaning}
use Rattle.pliron_opt_dce.specs.declared.worklist.DeadCandidate.{DeadCandidate}
use Rattle.pliron_opt_dce.specs.Dead.{Item, Op, Arg, Use}
use Rattle.pliron_opt_dce.specs.Readiness.{Among}
use Rattle.pliron_opt_dce.specs.Worklist.{items_of, HasReady, IsCovered, AreAllInside}

-- the arguments of the block are among these
abbrev pub HasArguments : Tree → List Item → ℕ → Type 0
HasArguments t items b = (v : ℕ) → In v (arguments_of t b) → Among (Arg v) items

-- what passed a test passed a weaker one
pub passed_weaker : (P Q : ℕ → Type 0) (xs : List ℕ) (at : Option ℕ) → ((x : ℕ) → P x → Q x) → ArePassed P xs at → ArePassed Q xs at
passed_weaker P Q xs at weaker p x i = ⊎_elim (λ j. inl j) (λ h. inr (weaker x h)) (p x i)

held_by : (t : Tree) (b h : ℕ) (o : Option ℕ) → block_parent_of t b ≡ o → up_from o (λ r. region_parent_of t r) ≡ Some h → (r : ℕ) × (block_parent_of t b ≡ Some r) × (region_parent_of t r ≡ Some h)
held_by t b h None e f = absurd (cc)
held_by t b h (Some r) e f = (r, e, f)

listed : (t : Tree) (r h : ℕ) (o : Option RegionSlot) → IsListedBy t r o → op_of_slot o ≡ Some h → In r (regions_of t h)
listed t r h None l e = elim l [ ]
listed t r h (Some slot) l e = subst (λ k. In r (regions_of t k)) (same_Some slot.op h e) (in_slice (regions_of t slot.op) slot.index r l)

-- a block that the operation holds directly is one of its regions'
pub region_of_held : (t : Tree) → IsTree t → (b k : ℕ) → block_parent_operation_of t b ≡ Some k → (r : ℕ) × (block_parent_of t b ≡ Some r) × In r (regions_of t k)
region_of_held t w b k held =
    let r = held_by t b k (block_parent_of t b) refl held in
    (r.0, r.1, listed t r.0 k (slot_of t r.0) (w.joined.placed b r.0 r.1) r.2)

pub covered_more : (t : Tree) (root k : ℕ) (old new : List Item) → ((x : Item) → Among x old → Among x new) → IsCovered t root old k → IsCovered t root new k
covered_more t root k old new kept c = record {
  operation = λ n. kept (Op k) (c.operation n);
  arguments = λ b v held i. kept (Arg v) (c.arguments b v held i);
}

pub covers_all : (t : Tree) → IsTree t → (root : ℕ) (items : List Item) → ((k : ℕ) → IsWithin t root k → IsCovered t root items k) → AreAllInside t root items
covers_all t w root items all = record {
  operations = λ k i. (all k (inr i)).operation (λ e. not_inside-itself t w root (subst (λ x. IsInside t root x) e i));
  arguments = λ b v held i. (all held.0 held.2).arguments b v held.1 i;
}

-- what is ready is inside
pub all_ready : (m : Meaning) (side_effects : Head → Option Bool) (removable : Head → ℕ → Bool → Option Bool) (t : Tree) (root : ℕ) (worklist : List DeadCandidate) → AreAllInside t root (items_of worklist) → HasReady m side_effects removable t root worklist
all_ready m side_effects removable t root worklist all (Op k) r = all.operations k r.may.inside
all_ready m side_effects removable t root worklist all (Arg v) r = all.arguments r.may.block v r.may.inside (in_slice (arguments_of t r.may.block) r.may.index v r.may.argument)
all_ready m side_effects removable t root worklist all (Use user place) r = absurd r

-- what holds of an answer
pub ok_weaker : {T E : Type 0} (r : Result T E) (P Q : T → Type 0) → ((x : T) → P x → Q x) → IfOk r P → IfOk r Q
ok_weaker (Ok x) P Q weaker p = weaker x p
ok_weaker (Err e) P Q weaker p = tt
