-- Values of a block that is left along two edges are used in that block alone, once they are passed along both.
--
--     before:   ^h: x = .. ; branch ^b ^e          ^b: use x ; jump ^h       ^e: use x
--     after:    ^h: x = .. ; branch ^b(x) ^e(x)    ^b(p): use p ; jump ^h    ^e(q): use q
use Rattle.std.specs.Prelude.{◌≡◌, ◌≢◌, ◌⊎◌, ℕ, List, [], Some}
use Rattle.pliron_core.specs.Tree.{Tree, In, operands_of, successors_of, parent_of, definition_of}
use Rattle.pliron_core.specs.Invariant.{IsTree}
use Rattle.pliron_laws.specs.Datum.{Meaning}
use Rattle.pliron_laws.specs.Root.{defining_block}
use Rattle.pliron_rewrite_copies.specs.ClosedBlock.{IsClosedBlock}
use Rattle.pliron_rewrite_loops.specs.Passing.{KeepsPassing, KeepsBesides}

-- the operation stands in the block, or is one of these
abbrev pub StandsInOrAmong : Tree → (header : ℕ) → List ℕ → ℕ → Type 0
StandsInOrAmong t header users k = (parent_of t k ≡ Some header) ⊎ In k users

-- a value of the header that is used elsewhere is one of these values, and the user is behind the body or the exit; what
-- leads to the body stands in the header or is a user behind the body; and so does what leads to the exit, or it is a user
-- behind the exit, if there is any
pub record IsHeaderCovered (t : Tree) (header body exit : ℕ) (values body_users exit_users : List ℕ) : Type 0 where
  pub body_apart : body ≢ header
  pub exit_apart : (j : ℕ) → In j exit_users → exit ≢ header
  pub uses : (k v : ℕ) → In v (operands_of t k) → defining_block t (definition_of t v) ≡ Some header → (parent_of t k ≡ Some header) ⊎ (In v values × (In k body_users ⊎ In k exit_users))
  pub to_exit : (j k : ℕ) → In j exit_users → In exit (successors_of t k) → StandsInOrAmong t header body_users k ⊎ In k exit_users
  pub to_body : (k : ℕ) → In body (successors_of t k) → StandsInOrAmong t header body_users k

-- none of these operations uses one of the values
abbrev pub NoneUses : Tree → (values users : List ℕ) → Type 0
NoneUses t values users = (k v : ℕ) → In k users → In v values → In v (operands_of t k) → ⊥

-- the values were passed to the block, and none of the users uses one any more; without users nothing changed
pub record IsGatePassed (m : Meaning) (t u : Tree) (block : ℕ) (values users : List ℕ) : Type 0 where
  pub keeps : KeepsPassing m t u block values
  pub besides : KeepsBesides m t u block users
  pub unused : NoneUses u values users
  pub without : users ≡ [] → u ≡ t

-- where the values were passed to the exit, and then to the body, operations of the header alone use what the header defines
abbrev pub ClosingLaw : Meaning → Type 0
ClosingLaw m = (t s u : Tree) (header body exit : ℕ) (values body_users exit_users : List ℕ) → IsTree u → IsHeaderCovered t header body exit values body_users exit_users → IsGatePassed m t s exit values exit_users → IsGatePassed m s u body values body_users → IsClosedBlock u header

-- some of the values were passed to the exit, and then some to the body
pub record IsClosing (m : Meaning) (t u : Tree) (body exit : ℕ) (body_users exit_users : List ℕ) : Type 0 where
  pub middle : Tree
  pub tree : IsTree middle
  pub first : KeepsBesides m t middle exit exit_users
  pub then : KeepsBesides m middle u body body_users
