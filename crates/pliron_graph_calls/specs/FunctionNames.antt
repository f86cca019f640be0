-- The functions with a name among the operations directly inside an operation.
use Rattle.std.specs.Prelude.{◌≡◌, ℕ, List, [], ◌∷◌, Option, Some, None, option_and_then}
use Rattle.pliron_core.specs.declared.attrs.AttrObj.{AttrObj}
use Rattle.pliron_core.specs.Tree.{Tree, head_of}
use Rattle.pliron_laws.specs.Datum.{Datum}
use Rattle.pliron_graph_calls.specs.Names.{names_of}
use Rattle.pliron_graph_calls.specs.Namesakes.{HasNamesakes}
use Rattle.pliron_pass_linked.specs.Calls.{CallingConvention}

-- functions, and the name of each
pub record NamedFunctions : Type 0 where
  pub functions : List ℕ
  pub names : List AttrObj

-- the name of the function that the operation is, if it is one
abbrev pub symbol_at : CallingConvention → Tree → ℕ → Option Datum
symbol_at c t k = option_and_then c.symbol_of (head_of t k)

abbrev pub with_function : ℕ → Option Datum → List ℕ → List ℕ
with_function k None ks = ks
with_function k (Some name) ks = k ∷ ks

abbrev pub with_name : Option Datum → List Datum → List Datum
with_name None names = names
with_name (Some name) names = name ∷ names

-- those of these operations that have a name, and their names
abbrev pub functions_among : CallingConvention → Tree → List ℕ → List ℕ
functions_among c t [] = []
functions_among c t (k ∷ ks) = with_function k (symbol_at c t k) (functions_among c t ks)

abbrev pub names_among : CallingConvention → Tree → List ℕ → List Datum
names_among c t [] = []
names_among c t (k ∷ ks) = with_name (symbol_at c t k) (names_among c t ks)

-- the functions among these operations, no two of one name
pub record AreNamedFunctions (c : CallingConvention) (t : Tree) (ks : List ℕ) (found : NamedFunctions) : Type 0 where
  pub functions : found.functions ≡ functions_among c t ks
  pub names : names_of found.names ≡ names_among c t ks
  pub apart : HasNamesakes (names_of found.names) → ⊥
