-- Functions as what a tree is built of.
use Rattle.std.specs.Prelude.{◌≡◌, ℕ, List, length, map, take_while, ⊤}
use Rattle.pliron_text_llvm_functions.specs.declared.function.FunctionReading.{FunctionReading}
use Rattle.pliron_text_llvm_edges.specs.declared.function.FunctionEdges.{FunctionEdges}
use Rattle.pliron_text_llvm_trees.specs.declared.function.FunctionTree.{FunctionTree}
use Rattle.pliron_text_llvm_trees.specs.declared.function.TreeForm.{TreeForm}
use Rattle.pliron_text_llvm_trees.specs.declared.function.TreeForm.TheVariants.{Made, Kept}
use Rattle.pliron_text_llvm_trees.specs.Results.{is_parameter}
use Rattle.pliron_text_llvm_trees.specs.Statements.{AreTreeStatements}
use Rattle.pliron_text_llvm_trees.specs.Arguments.{AreTreeArguments, ArePhisByBlock}
use Rattle.pliron_text_llvm_trees.specs.Passed.{AreTreeEdges}

-- the arguments of a function's blocks: its parameters are the first definitions, and its phis follow
abbrev pub HasArguments : FunctionReading → FunctionEdges → FunctionTree → Type 0
HasArguments reading found tree =
    (tree.parameters ≡ length (take_while is_parameter reading.definitions.items))
    × AreTreeArguments reading.definitions.items found.phis.items tree.arguments.items
    × ArePhisByBlock (length reading.body.blocks.items) found.phis.items (map (λ list. list.items) tree.by_block.items)

-- its edges, with what they pass to those arguments
abbrev pub HasEdges : FunctionEdges → FunctionTree → Type 0
HasEdges found tree =
    AreTreeEdges found.phis.items (map (λ list. list.items) tree.by_block.items) found.edges.items tree.edges.items

-- a function that was read with its edges, as what a tree is built of
abbrev pub IsTreeOf : List ℕ → FunctionReading → FunctionEdges → FunctionTree → Type 0
IsTreeOf text reading found tree =
    HasArguments reading found tree × AreTreeStatements text reading tree.statements.items × HasEdges found tree

-- what is made of a function, where it isn't kept as it is written
abbrev pub IsTreeForm : List ℕ → FunctionReading → FunctionEdges → TreeForm → Type 0
IsTreeForm text reading found (Made tree) = IsTreeOf text reading found tree
IsTreeForm text reading found (Kept place reason) = ⊤
