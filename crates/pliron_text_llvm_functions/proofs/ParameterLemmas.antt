-- Parameters that are read token by token.
use Rattle.std.proofs.Common.{append-nil, ◌≡◌, ℕ, suc, ◌+◌, ◌<◌, ◌≤◌, true, false, List, [], ◌∷◌, ◌++◌, length, get_or, drop, refl, sym, ap, ◌∙◌, append_assoc, if◌then◌else◌}
use Rattle.std.specs.Prelude.{Some, ◌==◌, ◌&&◌}
use Rattle.std.proofs.lemmas.List.{drop_all, drop_more}
use Rattle.pliron_text_llvm_syntax.specs.declared.tokens.LlvmToken.{LlvmToken}
use Rattle.pliron_text_llvm_reader.specs.Cursors.{depth_behind}
use Rattle.pliron_text_llvm_names.specs.declared.definitions.LocalDefinition.{LocalDefinition}
use Rattle.pliron_text_llvm_functions.specs.declared.parameters.ParameterScan.{ParameterScan}
use Rattle.pliron_text_llvm_functions.specs.declared.parameters.ParameterState.{ParameterState}
use Rattle.pliron_text_llvm_functions.specs.declared.parameters.ParameterState.TheVariants.{Nothing, Unnamed, Named}
use Rattle.pliron_text_llvm_functions.specs.Parameters.{is_comma_token, state_behind, arguments, number_behind, parameters_from, parameters_of, TakesToken}

one_more : (found : List LocalDefinition) (d : LocalDefinition) → length (found ++ d ∷ []) ≡ suc (length found)
one_more [] d = refl
one_more (first ∷ found) d = ap suc (one_more found d)

-- so many parameters are there behind one that may be none
counted : (found : List LocalDefinition) (state : ParameterState) → length (found ++ arguments (length found) state) ≡ number_behind (length found) state
counted found Nothing = ap length (append-nil found)
counted found Unnamed = one_more found _
counted found (Named span) = one_more found _

-- a comma outside brackets
pub comma_taken : (text : List ℕ) (token : LlvmToken) (before behind : ParameterScan) (found after : List LocalDefinition) → before.depth ≡ 0 → is_comma_token text token ≡ true → after ≡ found ++ arguments (length found) before.state
    → behind.depth ≡ 0 → behind.state ≡ Nothing → TakesToken text token before found behind after
comma_taken text token before behind found after depth comma grown closed nothing tokens =
    let number : length after ≡ number_behind (length found) before.state = ap length grown ∙ counted found before.state in
    let first : ((before.depth == 0) && is_comma_token text token) ≡ true = ap (λ n. (n == 0) && is_comma_token text token) depth ∙ comma in
    let next : parameters_from text (length found) before.depth before.state (token ∷ tokens) ≡ arguments (length found) before.state ++ parameters_from text (number_behind (length found) before.state) 0 Nothing tokens =
    ap (λ b. if b then arguments (length found) before.state ++ parameters_from text (number_behind (length found) before.state) 0 Nothing tokens else parameters_from text (length found) (depth_behind (Some token.kind) before.depth) (state_behind text before.depth before.state token) tokens) first in
    ap (λ n. after ++ parameters_from text n behind.depth behind.state tokens) number
    ∙ ap (λ d. after ++ parameters_from text (number_behind (length found) before.state) d behind.state tokens) closed
    ∙ ap (λ s. after ++ parameters_from text (number_behind (length found) before.state) 0 s tokens) nothing
    ∙ ap (λ ds. ds ++ parameters_from text (number_behind (length found) before.state) 0 Nothing tokens) grown
    ∙ append_assoc found (arguments (length found) before.state) (parameters_from text (number_behind (length found) before.state) 0 Nothing tokens)
    ∙ ap (λ ds. found ++ ds) (sym next)

-- any other token
pub token_taken : (text : List ℕ) (token : LlvmToken) (before behind : ParameterScan) (found : List LocalDefinition) → ((before.depth == 0) && is_comma_token text token) ≡ false
    → behind.depth ≡ depth_behind (Some token.kind) before.depth → behind.state ≡ state_behind text before.depth before.state token → TakesToken text token before found behind found
token_taken text token before behind found other depth state tokens =
    let next : parameters_from text (length found) before.depth before.state (token ∷ tokens) ≡ parameters_from text (length found) (depth_behind (Some token.kind) before.depth) (state_behind text before.depth before.state token) tokens =
    ap (λ b. if b then arguments (length found) before.state ++ parameters_from text (number_behind (length found) before.state) 0 Nothing tokens else parameters_from text (length found) (depth_behind (Some token.kind) before.depth) (state_behind text before.depth before.state token) tokens) other in
    ap (λ d. found ++ parameters_from text (length found) d behind.state tokens) depth
    ∙ ap (λ s. found ++ parameters_from text (length found) (depth_behind (Some token.kind) before.depth) s tokens) state
    ∙ ap (λ ds. found ++ ds) (sym next)

-- ---- the loop

pub parameters_none : (text : List ℕ) (tokens : List LlvmToken) (found : List LocalDefinition) → found ≡ [] → found ++ parameters_from text (length found) 0 Nothing (drop 0 tokens) ≡ parameters_of text tokens
parameters_none text tokens found e = ap (λ ds. ds ++ parameters_from text (length ds) 0 Nothing tokens) e

pub parameters_more : (text : List ℕ) (tokens : List LlvmToken) (i : ℕ) (d : LlvmToken) (before behind : ParameterScan) (found after : List LocalDefinition) → i < length tokens
    → found ++ parameters_from text (length found) before.depth before.state (drop i tokens) ≡ parameters_of text tokens → TakesToken text (get_or tokens i d) before found behind after
    → after ++ parameters_from text (length after) behind.depth behind.state (drop (i + 1) tokens) ≡ parameters_of text tokens
parameters_more text tokens i d before behind found after less e taken =
    taken (drop (i + 1) tokens) ∙ ap (λ ts. found ++ parameters_from text (length found) before.depth before.state ts) (sym (drop_more tokens i d less)) ∙ e

pub parameters_all : (text : List ℕ) (tokens : List LlvmToken) (i : ℕ) (scan : ParameterScan) (found after : List LocalDefinition) → length tokens ≤ i
    → found ++ parameters_from text (length found) scan.depth scan.state (drop i tokens) ≡ parameters_of text tokens → after ≡ found ++ arguments (length found) scan.state → after ≡ parameters_of text tokens
parameters_all text tokens i scan found after past e grown =
    grown ∙ ap (λ ts. found ++ parameters_from text (length found) scan.depth scan.state ts) (sym (drop_all i tokens past)) ∙ e
