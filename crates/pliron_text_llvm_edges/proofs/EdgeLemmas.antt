-- Edges that are added one after another.
use Rattle.std.proofs.Common.{◌≡◌, ℕ, ◌<◌, Bool, true, false, List, [], ◌∷◌, ◌++◌, map, drop, sym, subst}
use Rattle.std.specs.List.{All}
use Rattle.std.proofs.lemmas.List.Elements.{All-push, All-nil}
use Rattle.pliron_text_llvm_reader.specs.declared.blocks.BlockLines.{BlockLines}
use Rattle.pliron_text_llvm_functions.specs.declared.function.FunctionReading.{FunctionReading}
use Rattle.pliron_text_llvm_edges.specs.declared.edges.BlockEdge.{BlockEdge}
use Rattle.pliron_text_llvm_edges.specs.Numbers.{numbers_passing, in_block, in_blocks}
use Rattle.pliron_text_llvm_edges.specs.Successors.{place_of_edge, LeadsToItsBlock}
use Rattle.pliron_text_llvm_edges.proofs.NumberLemmas.{one_pushed, none_pushed, blocks_begun}

pub edge_pushed : (test : ℕ → Bool) (from hole : ℕ) (edge : BlockEdge) (found after : List BlockEdge) → test hole ≡ true → place_of_edge edge ≡ (from, hole) → after ≡ found ++ edge ∷ []
    → map place_of_edge after ≡ map place_of_edge found ++ in_block from (numbers_passing test hole 1)
edge_pushed test from hole edge found after passes at grown = one_pushed place_of_edge test from hole edge found after passes at grown

pub edge_unpushed : (test : ℕ → Bool) (from hole : ℕ) (found : List BlockEdge) → test hole ≡ false → map place_of_edge found ≡ map place_of_edge found ++ in_block from (numbers_passing test hole 1)
edge_unpushed test from hole found fails = none_pushed place_of_edge test from hole found fails

pub edges_lead : (reading : FunctionReading) (edge : BlockEdge) (found after : List BlockEdge) → All (LeadsToItsBlock reading) found → LeadsToItsBlock reading edge → after ≡ found ++ edge ∷ [] → All (LeadsToItsBlock reading) after
edges_lead reading edge found after h one grown = subst (All (LeadsToItsBlock reading)) (sym grown) (All-push (LeadsToItsBlock reading) found edge h one)

pub edges_none : (reading : FunctionReading) (found : List BlockEdge) → found ≡ [] → All (LeadsToItsBlock reading) found
edges_none reading found e = subst (All (LeadsToItsBlock reading)) (sym e) (All-nil (LeadsToItsBlock reading))

pub edges_begun : (numbers_of : BlockLines → List ℕ) (found : List BlockEdge) (blocks : List BlockLines) → found ≡ [] → map place_of_edge found ++ in_blocks numbers_of 0 (drop 0 blocks) ≡ in_blocks numbers_of 0 blocks
edges_begun numbers_of found blocks e = blocks_begun place_of_edge numbers_of found blocks e
