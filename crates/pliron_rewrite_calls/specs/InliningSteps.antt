-- The steps by which a call is inlined.
use Rattle.std.specs.Prelude.{◌≡◌, ◌≢◌, ◌⊎◌, ◌+◌, ◌<◌, ◌≤◌, ℕ, Bool, List, [], ◌∷◌, ◌++◌, Some, None, length, map, IsTrue}
use Rattle.pliron_core.specs.declared.attrs.Head.{Head}
use Rattle.pliron_core.specs.Changes.{IsSameTree}
use Rattle.pliron_core.specs.Invariant.{IsTree}
use Rattle.pliron_core.specs.Tree.{Tree, In, last_of, without, no_entry, row_of, head_of, operands_of, successors_of, results_of, regions_of, parent_of, body_of, arguments_of, block_parent_of, layout_of}
use Rattle.pliron_laws.specs.Datum.{Meaning}
use Rattle.pliron_dialect_calls.specs.Inlinable.{IsJumpHead}
use Rattle.pliron_rewrite_calls.specs.declared.copies.Copies.{Copies}
use Rattle.pliron_rewrite_calls.specs.CopyTables.{block_or_copy_in}
use Rattle.pliron_rewrite_calls.specs.Copying.{original_by, AreCopiedInto, KnowsCopies}
use Rattle.pliron_rewrite_calls.specs.CopySteps.{IsGrownIn}

-- u has the values, the blocks and the regions of t, where they were
pub record HasSamePlaces (t u : Tree) : Type 0 where
  pub slots : u.slots ≡ t.slots
  pub definitions : u.definitions ≡ t.definitions
  pub block_count : length u.bodies ≡ length t.bodies
  pub arguments : (b : ℕ) → arguments_of u b ≡ arguments_of t b
  pub block_parents : (b : ℕ) → block_parent_of u b ≡ block_parent_of t b
  pub layouts : (r : ℕ) → layout_of u r ≡ layout_of t r

-- the operation k is in u as in t
pub record IsSameAt (t u : Tree) (k : ℕ) : Type 0 where
  pub row : row_of u k ≡ row_of t k
  pub operands : operands_of u k ≡ operands_of t k
  pub successors : successors_of u k ≡ successors_of t k
  pub parent : parent_of u k ≡ parent_of t k

-- the operation has this head, these operands and these successors, and no results and no regions
pub record IsJumpRow (u : Tree) (k : ℕ) (h : Head) (values targets : List ℕ) : Type 0 where
  pub row : row_of u k ≡ record { head = Some h; results = []; regions = [] }
  pub operands : operands_of u k ≡ values
  pub successors : successors_of u k ≡ targets

-- u is t with such an operation more, in no block
pub record IsJumpMade (t u : Tree) (k : ℕ) (h : Head) (values targets : List ℕ) : Type 0 where
  pub key : k ≡ length t.operations
  pub jump : IsJumpRow u k h values targets
  pub free : parent_of u k ≡ None
  pub places : HasSamePlaces t u
  pub bodies : (b : ℕ) → body_of u b ≡ body_of t b
  pub others : (j : ℕ) → j ≢ k → IsSameAt t u j
  pub count : length u.operations ≡ length t.operations + 1

-- u is t with this operation, which was in no block, as the last of the block
pub record IsPutLast (t u : Tree) (k b : ℕ) : Type 0 where
  pub placed : parent_of u k ≡ Some b
  pub row : row_of u k ≡ row_of t k
  pub operands : operands_of u k ≡ operands_of t k
  pub successors : successors_of u k ≡ successors_of t k
  pub body : body_of u b ≡ body_of t b ++ k ∷ []
  pub places : HasSamePlaces t u
  pub bodies : (c : ℕ) → c ≢ b → body_of u c ≡ body_of t c
  pub others : (j : ℕ) → j ≢ k → IsSameAt t u j
  pub count : length u.operations ≡ length t.operations

-- u is t without this operation, which has no regions
pub record IsErasedChildless (t u : Tree) (k : ℕ) : Type 0 where
  pub gone : row_of u k ≡ no_entry
  pub no_operands : operands_of u k ≡ []
  pub no_successors : successors_of u k ≡ []
  pub no_parent : parent_of u k ≡ None
  pub places : HasSamePlaces t u
  pub bodies : (b : ℕ) → body_of u b ≡ without k (body_of t b)
  pub others : (j : ℕ) → j ≢ k → IsSameAt t u j
  pub count : length u.operations ≡ length t.operations

-- u is t but for erased handles
pub record IsTakenBack (t u : Tree) : Type 0 where
  pub same : IsSameTree t u
  pub slots : u.slots ≡ t.slots
  pub definitions : u.definitions ≡ t.definitions
  pub block_count : length u.bodies ≡ length t.bodies
  pub longer : length t.operations ≤ length u.operations

-- the last operation of the block is now a new one, with this head, the same operands and this successor
pub record IsLastReplaced (t u : Tree) (b old new : ℕ) (h : Head) (target : ℕ) : Type 0 where
  pub key : new ≡ length t.operations
  pub front : List ℕ
  pub before : body_of t b ≡ front ++ old ∷ []
  pub now : body_of u b ≡ front ++ new ∷ []
  pub jump : IsJumpRow u new h (operands_of t old) (target ∷ [])
  pub placed : parent_of u new ≡ Some b
  pub gone : row_of u old ≡ no_entry
  pub places : HasSamePlaces t u
  pub bodies : (c : ℕ) → c ≢ b → body_of u c ≡ body_of t c
  pub others : (j : ℕ) → j ≢ old → j ≢ new → IsSameAt t u j
  pub count : length u.operations ≡ length t.operations + 1

-- the call and the jump behind it, which end the block, are now the jump `new`, which was in no block
pub record IsCallReplaced (t u : Tree) (block call jump new : ℕ) : Type 0 where
  pub front : List ℕ
  pub before : body_of t block ≡ front ++ call ∷ jump ∷ []
  pub now : body_of u block ≡ front ++ new ∷ []
  pub placed : parent_of u new ≡ Some block
  pub row : row_of u new ≡ row_of t new
  pub operands : operands_of u new ≡ operands_of t new
  pub successors : successors_of u new ≡ successors_of t new
  pub gone : (row_of u call ≡ no_entry) × (row_of u jump ≡ no_entry)
  pub places : HasSamePlaces t u
  pub bodies : (c : ℕ) → c ≢ block → body_of u c ≡ body_of t c
  pub others : (j : ℕ) → j ≢ call → j ≢ jump → j ≢ new → IsSameAt t u j
  pub count : length u.operations ≡ length t.operations

-- the block doesn't end with a return
abbrev pub EndsOtherwise : (Head → Bool) → Tree → ℕ → Type 0
EndsOtherwise returns t b = (k : ℕ) (h : Head) → last_of None (body_of t b) ≡ Some k → head_of t k ≡ Some h → IsTrue (returns h) → ⊥

-- a return at the end of the block is now a jump to this one; where there is none, all is as before
abbrev pub IsReturnLed : Meaning → (Head → Bool) → (t u : Tree) → (b after : ℕ) → Type 0
IsReturnLed m returns t u b after = ((u ≡ t) × EndsOtherwise returns t b) ⊎ ((old : ℕ) × (h : Head) × IsJumpHead m (length (operands_of t old)) h × ((g : Head) → head_of t old ≡ Some g → IsTrue (returns g)) × IsLastReplaced t u b old (length t.operations) h after)

-- returns at the ends of blocks have no results and no regions
abbrev pub AreReturnsBare : (Head → Bool) → Tree → ℕ → Type 0
AreReturnsBare returns t b = (k : ℕ) (h : Head) → last_of None (body_of t b) ≡ Some k → head_of t k ≡ Some h → IsTrue (returns h) → (results_of t k ≡ []) × (regions_of t k ≡ [])

-- the jump `new` of u has the operands of `old` of t, and leads to this block
pub record IsInPlaceOf (m : Meaning) (t u : Tree) (after old new : ℕ) : Type 0 where
  pub head : Head
  pub jumps : IsJumpHead m (length (operands_of t old)) head
  pub jump : IsJumpRow u new head (operands_of t old) (after ∷ [])

-- the block ends in u with the jump in the place of the return with which it ended in t
pub record IsEndLed (returns : Head → Bool) (t u : Tree) (olds : List ℕ) (b : ℕ) : Type 0 where
  pub front : List ℕ
  pub new : ℕ
  pub old : ℕ
  pub is_old : original_by olds (length t.operations) new ≡ old
  pub is_new : length t.operations ≤ new
  pub within : new < length u.operations
  pub returned : (g : Head) → head_of t old ≡ Some g → IsTrue (returns g)
  pub before : body_of t b ≡ front ++ old ∷ []
  pub now : body_of u b ≡ front ++ new ∷ []
  pub placed : parent_of u new ≡ Some b

-- the operation is a return at the end of one of these blocks
pub record IsReturnOf (returns : Head → Bool) (t : Tree) (bs : List ℕ) (k : ℕ) : Type 0 where
  pub block : ℕ
  pub listed : In block bs
  pub holds : parent_of t k ≡ Some block
  pub last : last_of None (body_of t block) ≡ Some k
  pub returned : (h : Head) → head_of t k ≡ Some h → IsTrue (returns h)

-- the returns at the ends of these blocks, `olds`, are now jumps to this one, which have the next handles in that order
pub record AreReturnsLed (m : Meaning) (returns : Head → Bool) (t u : Tree) (after : ℕ) (bs olds : List ℕ) : Type 0 where
  pub places : HasSamePlaces t u
  pub count : length u.operations ≡ length t.operations + length olds
  pub from : (k : ℕ) → In k olds → IsReturnOf returns t bs k
  pub gone : (k : ℕ) → In k olds → row_of u k ≡ no_entry
  pub others : (k : ℕ) → k < length t.operations → (In k olds → ⊥) → IsSameAt t u k
  pub jumps : (k : ℕ) → length t.operations ≤ k → k < length u.operations → IsInPlaceOf m t u after (original_by olds (length t.operations) k) k
  pub stands : (k : ℕ) → length t.operations ≤ k → k < length u.operations → (b : ℕ) × In b bs × (parent_of u k ≡ Some b)
  pub bodies : (b : ℕ) → (In b bs → ⊥) → body_of u b ≡ body_of t b
  pub ends : (b : ℕ) → In b bs → (EndsOtherwise returns t b × (body_of u b ≡ body_of t b)) ⊎ IsEndLed returns t u olds b

-- the returns of the copies of the blocks are jumps to this one, and a jump with these operands to the copy of the first block
-- is made, in no block
pub record IsLedBack (m : Meaning) (returns : Head → Bool) (t u : Tree) (copies : Copies) (blocks : List ℕ) (after : ℕ) (values : List ℕ) (entry jump : ℕ) : Type 0 where
  pub led : Tree
  pub tree : IsTree led
  pub olds : List ℕ
  pub returns_led : AreReturnsLed m returns t led after (map (block_or_copy_in copies) blocks) olds
  pub head : Head
  pub jumps : IsJumpHead m (length values) head
  pub made : IsJumpMade led u jump head values (block_or_copy_in copies entry ∷ [])

-- the blocks were copied into the region, and the copies are led back
pub record AreCopiesLed (m : Meaning) (returns : Head → Bool) (t u : Tree) (region : ℕ) (blocks : List ℕ) (after : ℕ) (values : List ℕ) (entry jump : ℕ) : Type 0 where
  pub copied : Tree
  pub copies : Copies
  pub are_copied : AreCopiedInto t copied region blocks
  pub known : KnowsCopies t copied blocks copies
  pub tree : IsTree copied
  pub grown : IsGrownIn t copied region
  pub led_back : IsLedBack m returns copied u copies blocks after values entry jump
