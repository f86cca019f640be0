-- What the lines of a body define.
use Rattle.std.specs.Prelude.{◌≡◌, ◌+◌, ℕ, Bool, true, false, List, [], ◌∷◌, ◌++◌, Option, Some, None, ⊤, if◌then◌else◌}
use Rattle.pliron_text_llvm_syntax.specs.declared.tokens.ByteSpan.{ByteSpan}
use Rattle.pliron_text_llvm_reader.specs.declared.body.BodyLine.{BodyLine}
use Rattle.pliron_text_llvm_reader.specs.declared.body.BodyLine.TheVariants.{Label, Statement}
use Rattle.pliron_text_llvm_reader.specs.declared.statement.Statement.{Statement as ReadStatement}
use Rattle.pliron_text_llvm_names.specs.declared.definitions.DefinitionKind.{DefinitionKind}
use Rattle.pliron_text_llvm_names.specs.declared.definitions.DefinitionKind.TheVariants.{Block, Result}
use Rattle.pliron_text_llvm_names.specs.declared.definitions.LocalDefinition.{LocalDefinition}

abbrev pub definition : DefinitionKind → Option ByteSpan → LocalDefinition
definition what name = record { what = what; name = name }

-- a block without a label begins with a line
abbrev pub block_begun : Bool → ℕ → List LocalDefinition
block_begun begins number = if begins then definition (Block number) None ∷ [] else []

-- the value that a statement gives, if it gives one
abbrev pub result_given : ℕ → ReadStatement → List LocalDefinition
result_given number statement = if statement.gives then definition (Result number) statement.name ∷ [] else []

-- what a line of this number defines: a label its block; a statement its block, where one begins, and then its value
abbrev pub line_definitions : Bool → ℕ → BodyLine → List LocalDefinition
line_definitions begins number (Label span) = definition (Block number) (Some span) ∷ []
line_definitions begins number (Statement line) = block_begun begins number ++ result_given number line.statement

-- a block begins behind a statement that ends one
abbrev pub begins_behind : BodyLine → Bool
begins_behind (Label span) = false
begins_behind (Statement line) = line.statement.row.is_terminator

-- what lines define from the line of this number on, and whether a block begins with it
abbrev pub definitions_from : Bool → ℕ → List BodyLine → List LocalDefinition
definitions_from begins number [] = []
definitions_from begins number (line ∷ lines) =
    line_definitions begins number line ++ definitions_from (begins_behind line) (number + 1) lines

-- what the lines of a body define: a block begins with the first one
abbrev pub body_definitions : List BodyLine → List LocalDefinition
body_definitions lines = definitions_from true 0 lines

-- a statement that gives nothing has no name
abbrev pub IsGivenName : Bool → Option ByteSpan → Type 0
IsGivenName true name = ⊤
IsGivenName false name = name ≡ None

abbrev pub HasGivenName : BodyLine → Type 0
HasGivenName (Label span) = ⊤
HasGivenName (Statement line) = IsGivenName line.statement.gives line.statement.name
