-- Trees stay well linked where edges to a block lose the operands that they forward, and where the argument goes.
use Rattle.std.proofs.Common.{◌≡◌, ◌≢◌, inl, inr, ℕ, suc, Bool, List, [], ◌∷◌, length, Some, None, IsTrue, slice_get, slice_index_or, refl, sym, ap, ◌∙◌, subst}
use Rattle.std.proofs.lemmas.Bool.{cases_eq}
use Rattle.pliron_core.specs.declared.uses.Use.{Use}
use Rattle.pliron_core.specs.Tree.{Tree, In, IsLive, successors_of}
use Rattle.pliron_core.specs.Invariant.{IsTree}
use Rattle.pliron_core.specs.Writes.{argument_removed}
use Rattle.pliron_core.proofs.HoldingLemmas.{some_is, in_slice}
use Rattle.pliron_laws.specs.Datum.{Head, Shape, Meaning}
use Rattle.pliron_laws.specs.Tree.{Operation, op_at, shape_of}
use Rattle.pliron_laws.specs.Laws.{Admitted, ForwardsOperands}
use Rattle.pliron_laws.specs.Answers.{HeadPasses}
use Rattle.pliron_laws.specs.Linked.{IsAdmitted}
use Rattle.pliron_laws.proofs.Records.{op_shows, operation_of}
use Rattle.pliron_theory.specs.Dropping.{EdgesLose}
use Rattle.pliron_theory.proofs.SweptKeeps.{admitted_shape}
use Rattle.pliron_theory.proofs.SweptStays.{admitted_same}
use Rattle.pliron_theory.proofs.RemovedKeeps.{shape_admitted}
use Rattle.pliron_theory.proofs.EdgesLost.{framed}
use Rattle.pliron_theory.proofs.ShortenedBranches.{lost, SameFrame, same_frame, Steps, Stays, Continues, steps, frame_step, untouched, user_live, AreListed, loses_one, branch_less, shape_less, stands_less}
use Rattle.pliron_rewrite_blocks.specs.Links.{KeepsLinks, LosingLinks}
use Rattle.pliron_rewrite_blocks.proofs.StandingLemmas.{links_in_place}

module _ (m : Meaning) (can_fold : Head → Bool) (SameTests : Head → Head → Type 0) (shortened : Shape → ℕ → ℕ → Head) (law : ForwardsOperands m can_fold SameTests shortened) (tests : (h h' : Head) → SameTests h h' → m.is_branch h' ≡ m.is_branch h) (t : Tree) (w : IsTree t) (block index : ℕ) where
  abbrev Frame : Tree → Type 0
  Frame x = SameFrame m can_fold SameTests shortened law tests t w block index x

  -- the dialect admits the operation, and if it leads to the block it is a branch
  abbrev IsFine : Tree → ℕ → Type 0
  IsFine x k = IsAdmitted m x k × (In block (successors_of t k) → HeadPasses m.is_branch x k)

  own : (e : Use) (x x' : Tree) → IsLive t e.user → Frame x → slice_get (successors_of t e.user) e.place ≡ Some block → Steps m can_fold SameTests shortened law tests t w block index e x x' → IsFine x e.user → IsFine x' e.user
  own e x x' l f here (Stays none same) a = subst (λ z. IsFine z e.user) (sym same) a
  own e x x' l f here (Continues o p oe at lt same) a = subst (λ z. IsFine z e.user) (sym same) (admitted, λ i h q. subst (λ z. IsTrue (m.is_branch z)) (some_is (sym (op_shows deleted e.user now liveness).head ∙ q)) still)
    where
      deleted : Tree
      deleted = lost x e.user p (shortened (shape_of m x o) e.place index)

      now : Operation
      now = operation_of deleted e.user (shortened (shape_of m x o) e.place index)

      ad : Admitted m (shape_of m x o)
      ad = admitted_shape m x e.user o oe a.0

      branch : IsTrue (m.is_branch o.head)
      branch = a.1 (in_slice (successors_of t e.user) e.place block here) o.head (op_shows x e.user o oe).head

      liveness : op_at deleted e.user ≡ Some now
      liveness = stands_less m can_fold SameTests shortened law tests t w block index e x l f here o p oe ad branch at lt

      admitted : IsAdmitted m deleted e.user
      admitted = shape_admitted m deleted e.user now liveness (subst (Admitted m) (sym (shape_less m can_fold SameTests shortened law tests t w block index e x l f here o p oe ad branch at lt)) (loses_one m can_fold SameTests shortened law tests t w block index e x l f here o p oe ad branch at lt).admitted)

      still : IsTrue (m.is_branch (shortened (shape_of m x o) e.place index))
      still = branch_less m can_fold SameTests shortened law tests t w block index e x l f here o p oe ad branch at lt

  other : (e : Use) (x x' : Tree) (k : ℕ) → IsLive t e.user → Frame x → k ≢ e.user → Steps m can_fold SameTests shortened law tests t w block index e x x' → IsFine x k → IsFine x' k
  other e x x' k l f ne s a =
      let u = untouched m can_fold SameTests shortened law tests t w block index e x x' k l f ne s in
      let succs : successors_of x' k ≡ successors_of x k = ap (λ z. slice_index_or z k []) ((frame_step m can_fold SameTests shortened law tests t w block index e x x' l f s).successors ∙ sym f.successors) in
      (admitted_same m x x' k (ap (λ z. z.head) u.row) (ap length u.operands) (ap (λ z. length z.results) u.row) (ap length succs) (ap (λ z. length z.regions) u.row) a.0, λ i h q. a.1 i h (sym (ap (λ z. z.head) u.row) ∙ q))

  all : (edges : List Use) (x u : Tree) → AreListed m can_fold SameTests shortened law tests t w block index edges → EdgesLose m shortened index edges x u → Frame x → (k : ℕ) → IsFine x k → IsFine u k
  all [] x u listed q f k a = subst (λ z. IsFine z k) (sym q) a
  all (e ∷ rest) x u listed q f k a =
      let here = listed 0 e refl in
      let l = user_live m can_fold SameTests shortened law tests t w block index e.user e.place here in
      let s = steps m can_fold SameTests shortened law tests t w block index e x q.0 (f.live e.user l) q.1 in
      all rest q.0 u (λ n. listed (suc n)) q.2 (frame_step m can_fold SameTests shortened law tests t w block index e x q.0 l f s) k (elim (cases_eq k e.user) [
        | inl c ↦ subst (IsFine q.0) (sym c) (own e x q.0 l f here s (subst (IsFine x) c a))
        | inr ne ↦ other e x q.0 k l f ne s a
      ])

  module _ (edges : List Use) (u : Tree) (listed : AreListed m can_fold SameTests shortened law tests t w block index edges) (branches : (k : ℕ) → In block (successors_of t k) → HeadPasses m.is_branch t k) (lose : EdgesLose m shortened index edges t u) where
    frame : Frame u
    frame = framed m can_fold SameTests shortened law tests t w block index edges t u listed lose (same_frame m can_fold SameTests shortened law tests t w block index)

    admits : (k : ℕ) → IsAdmitted m t k → IsAdmitted m u k
    admits k a = (all edges t u listed lose (same_frame m can_fold SameTests shortened law tests t w block index) k (a, branches k)).0

    pub lost_links : KeepsLinks m t u
    lost_links = links_in_place m t u (λ k. ap (λ z. slice_index_or z k []) frame.successors) (λ k. ap (λ z. slice_index_or z k None) frame.parents) (λ b. ap (λ z. slice_index_or z b []) frame.bodies) (λ b. ap (λ z. slice_index_or z b None) frame.block_parents) (λ r. ap (λ z. slice_get z r) frame.slots) admits

    pub removed_links : KeepsLinks m t (argument_removed u block index)
    removed_links = links_in_place m t (argument_removed u block index) (λ k. ap (λ z. slice_index_or z k []) frame.successors) (λ k. ap (λ z. slice_index_or z k None) frame.parents) (λ b. ap (λ z. slice_index_or z b []) frame.bodies) (λ b. ap (λ z. slice_index_or z b None) frame.block_parents) (λ r. ap (λ z. slice_get z r) frame.slots) admits

pub losing_links : (m : Meaning) (can_fold : Head → Bool) (SameTests : Head → Head → Type 0) (shortened : Shape → ℕ → ℕ → Head) → ForwardsOperands m can_fold SameTests shortened → ((h h' : Head) → SameTests h h' → m.is_branch h' ≡ m.is_branch h) → LosingLinks m shortened
losing_links m can_fold SameTests shortened law tests = record {
  lost = λ t u block index edges w listed branches lose. lost_links m can_fold SameTests shortened law tests t w block index edges u listed branches lose;
  removed = λ t u block index edges w listed branches lose. removed_links m can_fold SameTests shortened law tests t w block index edges u listed branches lose;
}
