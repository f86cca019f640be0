-- When a call may be inlined, and that it was.
use Rattle.std.specs.Prelude.{◌≡◌, ◌⊎◌, ◌<◌, ◌≤◌, ℕ, Bool, List, [], ◌∷◌, Some, None, length, IsTrue}
use Rattle.pliron_core.specs.declared.attrs.Head.{Head}
use Rattle.pliron_core.specs.Tree.{Tree, In, IsLive, first_of, head_of, operands_of, successors_of, results_of, regions_of, body_of, arguments_of, block_parent_of, layout_of}
use Rattle.pliron_laws.specs.Datum.{Datum, Meaning}
use Rattle.pliron_pass_linked.specs.Calls.{CallingConvention}
use Rattle.pliron_rewrite_inlining.specs.Inlined.{InlinedCall, Returns, RunsItsRegion, CallsByName, IsCallInlined, NeverGives}
use Rattle.pliron_rewrite_inlining.specs.InlinedBeside.{AreCopiesBeside}
use Rattle.pliron_dialect_calls.specs.Inlinable.{NeverLeaves}
use Rattle.pliron_rewrite_calls.specs.Copying.{parts_of}
use Rattle.pliron_rewrite_calls.specs.Preparing.{IsCallPrepared}

-- the operation is a return of so many values: it leaves at once with its operands, and has no results
pub record ReturnsAsMany (m : Meaning) (returns : Head → Bool) (t : Tree) (results k : ℕ) : Type 0 where
  pub is_return : (h : Head) → head_of t k ≡ Some h → IsTrue (returns h)
  pub leaves : Returns m t k
  pub gives : length (operands_of t k) ≡ results
  pub bare : results_of t k ≡ []

-- the operation is no return, and a run neither leaves there nor comes to what stands behind it
pub record StaysWithin (m : Meaning) (returns : Head → Bool) (t : Tree) (k : ℕ) : Type 0 where
  pub no_return : (h : Head) → head_of t k ≡ Some h → IsTrue (returns h) → ⊥
  pub stays : NeverLeaves m t k
  pub closes : NeverGives m t k

-- the operations of a block that may be copied: they have no regions and never leave, but the last may be a return of as many
-- values as the call has results; else it never gives
abbrev pub MayBeCopied : Meaning → (Head → Bool) → Tree → (results : ℕ) → List ℕ → Type 0
MayBeCopied m returns t results [] = ⊥
MayBeCopied m returns t results (k ∷ []) = (regions_of t k ≡ []) × (ReturnsAsMany m returns t results k ⊎ StaysWithin m returns t k)
MayBeCopied m returns t results (k ∷ j ∷ ks) = (regions_of t k ≡ []) × NeverLeaves m t k × MayBeCopied m returns t results (j ∷ ks)

-- the callee has one region, whose entry takes so many values, and whose blocks may be copied in the place of a call with so
-- many results
pub record IsInlinable (m : Meaning) (returns : Head → Bool) (t : Tree) (callee operands results : ℕ) : Type 0 where
  pub region : ℕ
  pub runs : RunsItsRegion m t callee region operands
  pub entry : ℕ
  pub first : first_of (layout_of t region) None ≡ Some entry
  pub takes : length (arguments_of t entry) ≡ operands
  -- what is in the region names values and blocks of the region alone, as in each root that is fit to run
  pub own : (b k v : ℕ) → block_parent_of t b ≡ Some region → In k (body_of t b) → In v (operands_of t k) → In v (parts_of t (layout_of t region)).values
  pub inside : (b k s : ℕ) → block_parent_of t b ≡ Some region → In k (body_of t b) → In s (successors_of t k) → block_parent_of t s ≡ Some region
  pub copied : (b : ℕ) → block_parent_of t b ≡ Some region → MayBeCopied m returns t results (body_of t b)

-- the call may become a jump to a copy of the callee's blocks
pub record MayInline (m : Meaning) (c : CallingConvention) (returns : Head → Bool) (t : Tree) (call callee : ℕ) (symbol : Datum) : Type 0 where
  pub calls : CallsByName m c t call symbol
  pub plain : regions_of t call ≡ []
  pub prepared : IsCallPrepared m t call
  pub inlinable : IsInlinable m returns t callee (length (operands_of t call)) (length (results_of t call))

-- the call is inlined, by copies beside it; what was erased does not come back: all that the laws on inlined calls ask
pub record IsInlined (m : Meaning) (c : CallingConvention) (t u : Tree) (call callee : ℕ) (symbol : Datum) : Type 0 where
  pub parts : InlinedCall
  pub of_call : parts.call ≡ call
  pub of_callee : parts.callee ≡ callee
  pub inlined : IsCallInlined m c t u parts symbol
  pub copies : AreCopiesBeside m t u parts
  pub grows : length t.operations ≤ length u.operations
  pub fewer : (k : ℕ) → k < length t.operations → IsLive u k → IsLive t k
