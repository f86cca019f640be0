-- Operations that are added one after another.
use Rattle.std.proofs.Common.{◌≡◌, ℕ, Bool, true, false, List, [], ◌∷◌, ◌++◌, map, drop, sym, subst}
use Rattle.std.specs.Prelude.{slice_get, Some}
use Rattle.std.specs.List.{All}
use Rattle.std.proofs.lemmas.List.Elements.{All-push, All-nil}
use Rattle.pliron_text_llvm_reader.specs.declared.blocks.BlockLines.{BlockLines}
use Rattle.pliron_text_llvm_reader.specs.declared.body.BodyLine.TheVariants.{Statement}
use Rattle.pliron_text_llvm_reader.specs.declared.body.BodyStatement.{BodyStatement}
use Rattle.pliron_text_llvm_functions.specs.declared.function.FunctionReading.{FunctionReading}
use Rattle.pliron_text_llvm_edges.specs.Numbers.{numbers_passing, in_block, in_blocks}
use Rattle.pliron_text_llvm_edges.proofs.NumberLemmas.{one_pushed, none_pushed, blocks_begun}
use Rattle.pliron_text_llvm_trees.specs.declared.statements.TreeStatement.{TreeStatement}
use Rattle.pliron_text_llvm_trees.specs.Operands.{statement_operands}
use Rattle.pliron_text_llvm_trees.specs.Results.{HasResult}
use Rattle.pliron_text_llvm_trees.specs.Statements.{place_of_statement, IsServed, IsTreeStatement}

pub statement_is : (text : List ℕ) (reading : FunctionReading) (line : BodyStatement) (statement : TreeStatement) → slice_get reading.body.lines.items statement.line ≡ Some (Statement line) → IsServed line.statement
    → statement.operands.items ≡ statement_operands text reading line → HasResult reading.definitions.items statement.line line.statement.gives statement.result → IsTreeStatement text reading statement
statement_is text reading line statement at served operands result = record { line = line; at = at; served = served; operands = operands; result = result }

pub statement_pushed : (test : ℕ → Bool) (block line : ℕ) (statement : TreeStatement) (found after : List TreeStatement) → test line ≡ true → place_of_statement statement ≡ (block, line) → after ≡ found ++ statement ∷ []
    → map place_of_statement after ≡ map place_of_statement found ++ in_block block (numbers_passing test line 1)
statement_pushed test block line statement found after passes at grown = one_pushed place_of_statement test block line statement found after passes at grown

pub statement_unpushed : (test : ℕ → Bool) (block line : ℕ) (found : List TreeStatement) → test line ≡ false → map place_of_statement found ≡ map place_of_statement found ++ in_block block (numbers_passing test line 1)
statement_unpushed test block line found fails = none_pushed place_of_statement test block line found fails

pub statements_hold : (text : List ℕ) (reading : FunctionReading) (statement : TreeStatement) (found after : List TreeStatement) → All (IsTreeStatement text reading) found → IsTreeStatement text reading statement → after ≡ found ++ statement ∷ []
    → All (IsTreeStatement text reading) after
statements_hold text reading statement found after h one grown = subst (All (IsTreeStatement text reading)) (sym grown) (All-push (IsTreeStatement text reading) found statement h one)

pub statements_none : (text : List ℕ) (reading : FunctionReading) (found : List TreeStatement) → found ≡ [] → All (IsTreeStatement text reading) found
statements_none text reading found e = subst (All (IsTreeStatement text reading)) (sym e) (All-nil (IsTreeStatement text reading))

pub statements_begun : (numbers_of : BlockLines → List ℕ) (found : List TreeStatement) (blocks : List BlockLines) → found ≡ [] → map place_of_statement found ++ in_blocks numbers_of 0 (drop 0 blocks) ≡ in_blocks numbers_of 0 blocks
statements_begun numbers_of found blocks e = blocks_begun place_of_statement numbers_of found blocks e
