-- A loop is rotated: its header is closed, and copied for the operations that enter.
--
--     before:   ^a: jump ^h           ^h: x ; branch ^b ^e             ^b: use x ; jump ^h       ^e: use x
--     after:    ^a: jump ^c           ^h: x ; branch ^b(x) ^e(x)       ^b(p): use p ; jump ^h    ^e(q): use q       ^c: y ; branch ^b(y) ^e(y)
--     nothing but ^b leads to ^h any more, so the two may be merged, and the test stands at the end of the loop
use Rattle.std.specs.Prelude.{◌≡◌, ◌⊎◌, ℕ, [], ◌∷◌, Some}
use Rattle.pliron_core.specs.Tree.{Tree, In, IsBlock, successors_of, parent_of, body_of, block_parent_of}
use Rattle.pliron_laws.specs.Datum.{Meaning}
use Rattle.pliron_rewrite_copies.specs.Copies.{Originals}
use Rattle.pliron_rewrite_calls.specs.Copying.{AreChildless}
use Rattle.pliron_rewrite_loops.specs.Passing.{MayPass}
use Rattle.pliron_rewrite_loops.specs.Closing.{IsHeaderCovered, IsClosing}
use Rattle.pliron_rewrite_rotation.specs.declared.rotating.Rotation.{Rotation}
use Rattle.pliron_rewrite_rotation.specs.Entering.{EndsBeside}
use Rattle.pliron_rewrite_rotation.specs.HeaderCopied.{IsHeaderCopied}

-- the operation stands in a block of the header's region
abbrev pub StandsBeside : Tree → (header k : ℕ) → Type 0
StandsBeside t header k = (b : ℕ) × (parent_of t k ≡ Some b) × (block_parent_of t b ≡ block_parent_of t header)

-- the loop may be rotated
pub record MayRotate (m : Meaning) (t : Tree) (x : Rotation) : Type 0 where
  -- the values may be passed to each gate that has users, and then the header is closed
  pub to_body : (k : ℕ) → In k x.body.users.items → MayPass m t x.body.block x.values.items x.body.users.items
  pub to_exit : (k : ℕ) → In k x.exit.users.items → MayPass m t x.exit.block x.values.items x.exit.users.items
  pub covered : IsHeaderCovered t x.header x.body.block x.exit.block x.values.items x.body.users.items x.exit.users.items
  -- the gates and the users stand in the header's region
  pub body_beside : block_parent_of t x.body.block ≡ block_parent_of t x.header
  pub exit_beside : block_parent_of t x.exit.block ≡ block_parent_of t x.header
  pub users_beside : (k : ℕ) → In k x.body.users.items ⊎ In k x.exit.users.items → StandsBeside t x.header k
  -- the header may be copied, once it is closed
  pub stands : IsBlock t x.header
  pub childless : AreChildless t (x.header ∷ [])
  pub no_ring : (k : ℕ) → In k (body_of t x.header) → In x.header (successors_of t k) → ⊥
  pub enter : (k : ℕ) → In k x.entering.items → EndsBeside t x.header k

-- the header was closed, and then copied for the operations that enter
pub record IsRotated (m : Meaning) (t u : Tree) (x : Rotation) (copy : ℕ) : Type 0 where
  pub closed : Tree
  pub closing : IsClosing m t closed x.body.block x.exit.block x.body.users.items x.exit.users.items
  pub originals : Originals
  pub copied : IsHeaderCopied closed u originals x.header copy x.entering.items
