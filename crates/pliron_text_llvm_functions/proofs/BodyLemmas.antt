-- Lines whose definitions are added one after another.
use Rattle.std.proofs.Common.{append-nil, ◌≡◌, ℕ, ◌+◌, ◌<◌, ◌≤◌, Bool, List, ◌∷◌, ◌++◌, length, get_or, take, drop, sym, ap, ◌∙◌, subst, append_assoc, arith}
use Rattle.std.specs.List.{All}
use Rattle.std.proofs.lemmas.List.{drop_all, drop_more, take_all, take_more}
use Rattle.std.proofs.lemmas.List.Elements.{All-push}
use Rattle.pliron_text_llvm_reader.specs.declared.body.BodyLine.{BodyLine}
use Rattle.pliron_text_llvm_reader.specs.declared.statement.Statement.{Statement}
use Rattle.pliron_text_llvm_names.specs.declared.definitions.LocalDefinition.{LocalDefinition}
use Rattle.pliron_text_llvm_functions.specs.Bodies.{block_begun, result_given, line_definitions, begins_behind, definitions_from, HasGivenName}

-- a statement's block, and then its value
pub line_added : (begins : Bool) (number : ℕ) (statement : Statement) (found middle after : List LocalDefinition) → middle ≡ found ++ block_begun begins number → after ≡ middle ++ result_given number statement
    → after ≡ found ++ (block_begun begins number ++ result_given number statement)
line_added begins number statement found middle after block result =
    result ∙ ap (λ ds. ds ++ result_given number statement) block ∙ append_assoc found (block_begun begins number) (result_given number statement)

-- a line more
pub body_more : (whole found after : List LocalDefinition) (lines : List BodyLine) (i : ℕ) (d : BodyLine) (begins behind : Bool) (number next : ℕ) → i < length lines → found ++ definitions_from begins number (drop i lines) ≡ whole
    → after ≡ found ++ line_definitions begins number (get_or lines i d) → behind ≡ begins_behind (get_or lines i d) → next ≡ number + 1 → after ++ definitions_from behind next (drop (i + 1) lines) ≡ whole
body_more whole found after lines i d begins behind number next less e grown behind_is next_is =
    let line : BodyLine = get_or lines i d in
    let rest : List BodyLine = drop (i + 1) lines in
    let ahead : drop i lines ≡ line ∷ rest = drop_more lines i d less in
    ap (λ b. after ++ definitions_from b next rest) behind_is
    ∙ ap (λ n. after ++ definitions_from (begins_behind line) n rest) next_is
    ∙ ap (λ ds. ds ++ definitions_from (begins_behind line) (number + 1) rest) grown
    ∙ append_assoc found (line_definitions begins number line) (definitions_from (begins_behind line) (number + 1) rest)
    ∙ ap (λ ls. found ++ definitions_from begins number ls) (sym ahead) ∙ e

-- no line is left
pub body_all : (whole found : List LocalDefinition) (lines : List BodyLine) (i : ℕ) (begins : Bool) (number : ℕ) → length lines ≤ i → found ++ definitions_from begins number (drop i lines) ≡ whole → found ≡ whole
body_all whole found lines i begins number past e =
    sym (append-nil found) ∙ ap (λ ls. found ++ definitions_from begins number ls) (sym (drop_all i lines past)) ∙ e

pub given_none : (lines : List BodyLine) → All HasGivenName (take 0 lines)
given_none lines k d less = absurd (omega (arith, less))

pub given_more : (lines : List BodyLine) (i : ℕ) (d : BodyLine) → i < length lines → All HasGivenName (take i lines) → HasGivenName (get_or lines i d) → All HasGivenName (take (i + 1) lines)
given_more lines i d less h one = subst (All HasGivenName) (sym (take_more lines i d less)) (All-push HasGivenName (take i lines) (get_or lines i d) h one)

pub given_all : (lines : List BodyLine) (i : ℕ) → length lines ≤ i → All HasGivenName (take i lines) → All HasGivenName lines
given_all lines i past h = subst (All HasGivenName) (take_all i lines past) h

pub ruleset body_steps = (body_more, body_all, given_none, given_more, given_all)
