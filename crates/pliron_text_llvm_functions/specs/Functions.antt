-- A function that was read.
use Rattle.std.specs.Prelude.{◌≡◌, ◌+◌, ◌-◌, ℕ, List, ◌++◌, length, map, take, max, ⊤}
use Rattle.std.specs.List.{All}
use Rattle.pliron_text_llvm_syntax.specs.declared.functions.FunctionText.{FunctionText}
use Rattle.pliron_text_llvm_syntax.specs.declared.tokens.ByteSpan.{ByteSpan}
use Rattle.pliron_text_llvm_syntax.specs.declared.tokens.LlvmToken.{LlvmToken}
use Rattle.pliron_text_llvm_syntax.specs.Lines.{AreLines, AreGaps}
use Rattle.pliron_text_llvm_reader.specs.declared.body.BodyLine.{BodyLine}
use Rattle.pliron_text_llvm_reader.specs.declared.body.BodyStop.{BodyStop}
use Rattle.pliron_text_llvm_reader.specs.declared.body.BodyStop.TheVariants.{Kept as KeptBody, Broken as BrokenBody, NoBlock, NoTerminator}
use Rattle.pliron_text_llvm_reader.specs.declared.body.FunctionBody.{FunctionBody}
use Rattle.pliron_text_llvm_reader.specs.Blocks.{AreBlocks}
use Rattle.pliron_text_llvm_reader.specs.Bodies.{line_of, role_of_line, AreRows}
use Rattle.pliron_text_llvm_reader.specs.TokenLists.{AreLexed}
use Rattle.pliron_text_llvm_names.specs.declared.definitions.LocalDefinition.{LocalDefinition}
use Rattle.pliron_text_llvm_names.specs.Definitions.{keys_of, AreRisingNumbers, AreDistinct}
use Rattle.pliron_text_llvm_names.specs.Uses.{AreTargets}
use Rattle.pliron_text_llvm_functions.specs.declared.function.FunctionReading.{FunctionReading}
use Rattle.pliron_text_llvm_functions.specs.declared.stop.FunctionStop.{FunctionStop}
use Rattle.pliron_text_llvm_functions.specs.declared.stop.FunctionStop.TheVariants.{Keep, Fault}
use Rattle.pliron_text_llvm_functions.specs.declared.stop.FunctionFault.TheVariants.{Refused, Broken}
use Rattle.pliron_text_llvm_functions.specs.declared.function.FunctionForm.{FunctionForm}
use Rattle.pliron_text_llvm_functions.specs.declared.function.FunctionForm.TheVariants.{Read, Kept}
use Rattle.pliron_text_llvm_functions.specs.declared.stop.KeptFor.TheVariants.{Statement}
use Rattle.pliron_text_llvm_functions.specs.declared.stop.Refusal.TheVariants.{Block, Terminator}
use Rattle.pliron_text_llvm_functions.specs.Bodies.{body_definitions, HasGivenName}
use Rattle.pliron_text_llvm_functions.specs.Parameters.{parameters_of}

-- ---- what stops

abbrev pub stop_of_body : BodyStop → FunctionStop
stop_of_body (KeptBody place reason) = Keep place (Statement reason)
stop_of_body (BrokenBody fault) = Fault (Broken fault)
stop_of_body (NoBlock place) = Fault (Refused place Block)
stop_of_body (NoTerminator place) = Fault (Refused place Terminator)

-- ---- what was read

-- what is between the first and the last byte of a span
abbrev pub inside_of : ByteSpan → ByteSpan
inside_of span = record { start = span.start + 1; end = max (span.start + 1) (span.end - 1) }

-- these definitions are the parameters that have the tokens between the brackets
abbrev pub AreParametersOf : List ℕ → ByteSpan → List LocalDefinition → Type 0
AreParametersOf text inside definitions =
    (tokens : List LlvmToken)
    × AreLexed (take inside.end text) inside.start (length (take inside.end text)) tokens
    × (definitions ≡ parameters_of (take inside.end text) tokens)

-- a body between the brackets: its lines, which leave blanks and comments alone out, their operands and successors, and
-- its blocks
abbrev pub IsBodyOf : List ℕ → ByteSpan → FunctionBody → Type 0
IsBodyOf text inside body =
    AreLines inside.start inside.end (map line_of body.lines.items)
    × AreGaps (take inside.end text) inside.start inside.end (map line_of body.lines.items)
    × AreRows (take inside.end text) body.lines.items body.holes.items
    × AreBlocks (map role_of_line body.lines.items) 0 (length body.lines.items) body.blocks.items

-- what a function with these lines defines: its parameters, and then its blocks and what its statements give
abbrev pub AreDefinitionsOf : List ℕ → ByteSpan → List BodyLine → List LocalDefinition → Type 0
AreDefinitionsOf text inside lines definitions =
    (parameters : List LocalDefinition)
    × AreParametersOf text inside parameters
    × (definitions ≡ parameters ++ body_definitions lines)
    × All HasGivenName lines

-- each name is that of one definition, and no number falls
abbrev pub AreWellNamed : List ℕ → List LocalDefinition → Type 0
AreWellNamed text definitions = AreDistinct (keys_of text definitions) × AreRisingNumbers text 0 definitions

-- a function of the text: its body, what it defines, and which definition each operand and each successor names
abbrev pub IsFunctionReading : List ℕ → FunctionText → FunctionReading → Type 0
IsFunctionReading text function reading =
    IsBodyOf text (inside_of function.body) reading.body
    × AreDefinitionsOf text (inside_of function.parameters) reading.body.lines.items reading.definitions.items
    × AreWellNamed text reading.definitions.items
    × AreTargets text reading.definitions.items reading.body.holes.items reading.targets.items

-- what was read of a function, where it isn't kept as it is written
abbrev pub IsFunctionForm : List ℕ → FunctionText → FunctionForm → Type 0
IsFunctionForm text function (Read reading) = IsFunctionReading text function reading
IsFunctionForm text function (Kept place reason) = ⊤
