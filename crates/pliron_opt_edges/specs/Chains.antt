-- Blocks that only pass on, and where a chain of them ends.
--
--     ^a: branch ^e ^d      ^e: jump ^f      ^f: jump ^t      ^t: ..       ^e and ^f pass on, and the chain from ^e ends at ^t
use Rattle.std.specs.Prelude.{◌≡◌, ℕ, zero, suc, Bool, [], ◌∷◌}
use Rattle.pliron_core.specs.Tree.{Tree, operands_of, successors_of, body_of, arguments_of}
use Rattle.pliron_laws.specs.Datum.{Head}
use Rattle.pliron_laws.specs.Answers.{HeadPasses}

-- the block has no arguments, and its one operation is a branch without operands, to the target alone
pub record OnlyJumps (is_branch : Head → Bool) (t : Tree) (block jump target : ℕ) : Type 0 where
  pub body : body_of t block ≡ jump ∷ []
  pub no_arguments : arguments_of t block ≡ []
  pub branch : HeadPasses is_branch t jump
  pub no_operands : operands_of t jump ≡ []
  pub leads : successors_of t jump ≡ target ∷ []

-- the block only passes on, to the target
abbrev pub PassesOn : (Head → Bool) → Tree → (block target : ℕ) → Type 0
PassesOn is_branch t block target = (jump : ℕ) × OnlyJumps is_branch t block jump target

-- after n blocks that pass on, each to the next, the chain from this block comes to `end`, which does not; on a ring none does
abbrev pub EndsAt : (Head → Bool) → Tree → (n block end : ℕ) → Type 0
EndsAt is_branch t zero block end = (block ≡ end) × ((c : ℕ) → PassesOn is_branch t block c → ⊥)
EndsAt is_branch t (suc n) block end = (c : ℕ) × PassesOn is_branch t block c × EndsAt is_branch t n c end

-- the chain from this block ends nowhere
abbrev pub IsEndless : (Head → Bool) → Tree → (block : ℕ) → Type 0
IsEndless is_branch t block = (n end : ℕ) → EndsAt is_branch t n block end → ⊥

-- so many blocks pass on, from this one to that one
abbrev pub PassesOnTo : (Head → Bool) → Tree → (n from to : ℕ) → Type 0
PassesOnTo is_branch t zero from to = from ≡ to
PassesOnTo is_branch t (suc n) from to = (c : ℕ) × PassesOn is_branch t from c × PassesOnTo is_branch t n c to
