-- What a function defines.
use Rattle.std.proofs.Common.{◌≡◌, ℕ, List, ◌++◌, length, take, ap, ◌∙◌, subst}
use Rattle.std.specs.List.{All}
use Rattle.pliron_text_llvm_syntax.specs.declared.tokens.ByteSpan.{ByteSpan}
use Rattle.pliron_text_llvm_syntax.specs.declared.tokens.LlvmToken.{LlvmToken}
use Rattle.pliron_text_llvm_reader.specs.declared.body.BodyLine.{BodyLine}
use Rattle.pliron_text_llvm_reader.specs.TokenLists.{AreLexed}
use Rattle.pliron_text_llvm_names.specs.declared.definitions.LocalDefinition.{LocalDefinition}
use Rattle.pliron_text_llvm_functions.specs.Bodies.{body_definitions, HasGivenName}
use Rattle.pliron_text_llvm_functions.specs.Functions.{AreParametersOf, AreDefinitionsOf}
use Rattle.pliron_text_llvm_functions.specs.Parameters.{parameters_of}

-- the parameters of the tokens of the text up to this byte
pub parameters_read : (text before : List ℕ) (inside : ByteSpan) (tokens : List LlvmToken) (found : List LocalDefinition) → before ≡ take inside.end text → AreLexed before inside.start (length before) tokens → found ≡ parameters_of before tokens
    → AreParametersOf text inside found
parameters_read text before inside tokens found e lexed found_are =
    (tokens, subst (λ t. AreLexed t inside.start (length t) tokens) e lexed, found_are ∙ ap (λ t. parameters_of t tokens) e)

-- the parameters, and then what the lines define
pub all_defined : (text : List ℕ) (inside : ByteSpan) (lines : List BodyLine) (parameters found : List LocalDefinition) → AreParametersOf text inside parameters → found ≡ parameters ++ body_definitions lines → All HasGivenName lines
    → AreDefinitionsOf text inside lines found
all_defined text inside lines parameters found h found_are given = (parameters, h, found_are, given)
