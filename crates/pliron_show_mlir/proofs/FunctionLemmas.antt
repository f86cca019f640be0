-- Which functions were found.
use Rattle.std.proofs.Common.{◌≡◌, ◌∷◌, [], ◌++◌, ℕ, List, Some, map, length, get_or, ◌<◌, refl, sym, subst}
use Rattle.std.specs.List.{All}
use Rattle.std.proofs.lemmas.List.Elements.{All-push}
use Rattle.std.proofs.lemmas.List.{map-append}
use Rattle.std.proofs.lemmas.Option.{slice_get_read}
use Rattle.std.specs.Prelude.{slice_get}
use Rattle.pliron_core.specs.Tree.{Tree, body_of}
use Rattle.pliron_show_mlir.specs.Functions.{body_block, IsFunction, IsRunnableAt}

-- one more function can be run
pub function_more : (t : Tree) (root block op index : ℕ) (operations : List ℕ) {F : Type 0} (index_of : F → ℕ) (functions functions' : List F) (function : F)
    → body_block t root ≡ Some block → operations ≡ body_of t block → index < length operations → op ≡ get_or operations index op → IsFunction t op
    → index_of function ≡ index → functions' ≡ functions ++ function ∷ [] → All (IsRunnableAt t root) (map index_of functions) → All (IsRunnableAt t root) (map index_of functions')
function_more t root block op index operations index_of functions functions' function block-is operations-are inside op-is is index-is pushed before =
    let there : slice_get (body_of t block) index ≡ Some op = subst (λ os. slice_get os index ≡ Some op) operations-are (slice_get_read operations (length operations) index op refl inside op-is) in
    let here : IsRunnableAt t root (index_of function) = subst (IsRunnableAt t root) (sym index-is) (block, op, block-is, there, is) in
    subst (λ fs. All (IsRunnableAt t root) (map index_of fs)) (sym pushed)
    (subst (All (IsRunnableAt t root)) (sym (map-append index_of functions (function ∷ []))) (All-push (IsRunnableAt t root) (map index_of functions) (index_of function) before here))
