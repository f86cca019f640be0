-- Parameters of a function.
use Rattle.std.specs.Prelude.{◌==◌, ◌&&◌, ◌≡◌, ℕ, suc, Bool, List, [], ◌∷◌, ◌++◌, length, slice_get, Some, None, if◌then◌else◌}
use Rattle.pliron_text_llvm_syntax.specs.declared.tokens.LlvmToken.{LlvmToken}
use Rattle.pliron_text_llvm_syntax.specs.Lexing.{is_byte_at}
use Rattle.pliron_text_llvm_reader.specs.Cursors.{is_mark, is_name, is_word, depth_behind}
use Rattle.pliron_text_llvm_names.specs.declared.definitions.DefinitionKind.TheVariants.{Argument}
use Rattle.pliron_text_llvm_names.specs.declared.definitions.LocalDefinition.{LocalDefinition}
use Rattle.pliron_text_llvm_functions.specs.declared.parameters.ParameterScan.{ParameterScan}
use Rattle.pliron_text_llvm_functions.specs.declared.parameters.ParameterState.{ParameterState}
use Rattle.pliron_text_llvm_functions.specs.declared.parameters.ParameterState.TheVariants.{Nothing, Unnamed, Named}

-- ---- what a token is

-- a token begins with this byte
abbrev pub has_first_byte : List ℕ → LlvmToken → ℕ → Bool
has_first_byte text token byte = is_byte_at (slice_get text token.span.start) byte

abbrev pub is_comma_token : List ℕ → LlvmToken → Bool
is_comma_token text token = is_mark (Some token.kind) && has_first_byte text token 44

abbrev pub is_local_token : List ℕ → LlvmToken → Bool
is_local_token text token = is_name (Some token.kind) && has_first_byte text token 37

-- a word that begins with `.`, as `...` does
abbrev pub is_dots_token : List ℕ → LlvmToken → Bool
is_dots_token text token = is_word (Some token.kind) && has_first_byte text token 46

-- ---- parameters

-- the parameter behind one more token: outside brackets a local name that isn't its first token names it, if it is its last
abbrev pub state_behind : List ℕ → ℕ → ParameterState → LlvmToken → ParameterState
state_behind text depth Nothing token = if is_dots_token text token then Nothing else Unnamed
state_behind text depth state token = if depth == 0 && is_local_token text token then Named token.span else Unnamed

-- the parameter of this number, if there is one
abbrev pub arguments : ℕ → ParameterState → List LocalDefinition
arguments number Nothing = []
arguments number Unnamed = record { what = Argument number; name = None } ∷ []
arguments number (Named span) = record { what = Argument number; name = Some span } ∷ []

abbrev pub number_behind : ℕ → ParameterState → ℕ
number_behind number Nothing = number
number_behind number _ = suc number

-- what is between commas outside brackets, where so many brackets are open, and so much was read of this parameter
abbrev pub parameters_from : List ℕ → ℕ → ℕ → ParameterState → List LlvmToken → List LocalDefinition
parameters_from text number depth state [] = arguments number state
parameters_from text number depth state (token ∷ tokens) =
    if depth == 0 && is_comma_token text token
    then arguments number state ++ parameters_from text (number_behind number state) 0 Nothing tokens
    else parameters_from text number (depth_behind (Some token.kind) depth) (state_behind text depth state token) tokens

-- the parameters that have these tokens
abbrev pub parameters_of : List ℕ → List LlvmToken → List LocalDefinition
parameters_of text tokens = parameters_from text 0 0 Nothing tokens

-- what follows from a token and the tokens behind it is what followed before it
abbrev pub TakesToken : List ℕ → LlvmToken → ParameterScan → List LocalDefinition → ParameterScan → List LocalDefinition → Type 0
TakesToken text token before found behind after =
    (tokens : List LlvmToken) → after ++ parameters_from text (length after) behind.depth behind.state tokens
    ≡ found ++ parameters_from text (length found) before.depth before.state (token ∷ tokens)
