-- What a contract sees of the arguments of blocks.
use Rattle.std.specs.Prelude.{◌≡◌, ℕ, List, [], ◌∷◌, length, Some, slice_get, slice_index_or}
use Rattle.pliron_core.specs.declared.context.Def.{Def}
use Rattle.pliron_core.specs.declared.context.Def.TheVariants.{Result, Argument}
use Rattle.pliron_core.specs.declared.uses.Use.{Use}

-- the arguments of each block in order, and what makes each value
pub record Makers : Type 0 where
  pub rows : List (List ℕ)
  pub definitions : List Def

abbrev pub argument_row_of : Makers → ℕ → List ℕ
argument_row_of s block = slice_index_or s.rows block []

-- what defines a value: the place where it is an argument, or what is written of it
abbrev pub definition_now : Def → List Use → Def
definition_now d [] = d
definition_now d (u ∷ us) = Argument u.user u.place

abbrev pub definitions_now : List Def → List (List Use) → List Def
definitions_now [] uses = []
definitions_now (d ∷ ds) [] = []
definitions_now (d ∷ ds) (us ∷ uses) = definition_now d us ∷ definitions_now ds uses

-- each argument is defined by its block and index
abbrev pub AreNumbered : List (List ℕ) → List Def → Type 0
AreNumbered rows definitions = (block i v : ℕ) → slice_get (slice_index_or rows block []) i ≡ Some v → slice_get definitions v ≡ Some (Argument block i)

-- the value is an argument of no block
abbrev pub IsFree : List (List ℕ) → ℕ → Type 0
IsFree rows v = (block i : ℕ) → slice_get (slice_index_or rows block []) i ≡ Some v → ⊥

-- what is written as a result is an argument of no block
abbrev pub AreApart : List (List ℕ) → List Def → Type 0
AreApart rows written = (v op i : ℕ) → slice_get written v ≡ Some (Result op i) → IsFree rows v

pub record AreMade (rows : List (List ℕ)) (written : List Def) (uses : List (List Use)) : Type 0 where
  pub count : length written ≡ length uses
  pub numbered : AreNumbered rows (definitions_now written uses)
  pub apart : AreApart rows written
