-- The functions with a name among operations, and more of them behind.
use Rattle.std.proofs.Common.{◌≡◌, ◌+◌, ℕ, List, [], ◌∷◌, ◌++◌, take, drop, Option, Some, None, IsSome, refl, sym, ap, subst, ◌∙◌}
use Rattle.std.specs.Prelude.{option_and_then}
use Rattle.std.proofs.lemmas.Bool.{false≢true}
use Rattle.std.proofs.lemmas.List.{take-append-drop}
use Rattle.pliron_core.specs.declared.attrs.Head.{Head}
use Rattle.pliron_core.specs.Tree.{Tree, IsLive, head_of}
use Rattle.pliron_core.proofs.GrownLemmas.{slice_get_kept}
use Rattle.pliron_laws.specs.Datum.{Datum}
use Rattle.pliron_laws.specs.Answers.{ReadsHead}
use Rattle.pliron_pass_linked.specs.Calls.{CallingConvention}
use Rattle.pliron_graph_calls.specs.Namesakes.{HasNamesakes}
use Rattle.pliron_graph_calls.specs.Names.{names_of}
use Rattle.pliron_graph_calls.specs.FunctionNames.{NamedFunctions, AreNamedFunctions, symbol_at, with_function, with_name, functions_among, names_among}

function_before : (k : ℕ) (o : Option Datum) (xs ys : List ℕ) → with_function k o (xs ++ ys) ≡ with_function k o xs ++ ys
function_before k None xs ys = refl
function_before k (Some name) xs ys = refl

name_before : (o : Option Datum) (xs ys : List Datum) → with_name o (xs ++ ys) ≡ with_name o xs ++ ys
name_before None xs ys = refl
name_before (Some name) xs ys = refl

pub functions_behind : (c : CallingConvention) (t : Tree) (ks ls : List ℕ) → functions_among c t (ks ++ ls) ≡ functions_among c t ks ++ functions_among c t ls
functions_behind c t [] ls = refl
functions_behind c t (k ∷ ks) ls = ap (with_function k (symbol_at c t k)) (functions_behind c t ks ls) ∙ function_before k (symbol_at c t k) (functions_among c t ks) (functions_among c t ls)

pub names_behind : (c : CallingConvention) (t : Tree) (ks ls : List ℕ) → names_among c t (ks ++ ls) ≡ names_among c t ks ++ names_among c t ls
names_behind c t [] ls = refl
names_behind c t (k ∷ ks) ls = ap (with_name (symbol_at c t k)) (names_behind c t ks ls) ∙ name_before (symbol_at c t k) (names_among c t ks) (names_among c t ls)

pub namesakes_before : (names more : List Datum) → HasNamesakes names → HasNamesakes (names ++ more)
namesakes_before names more (i, j, name, before, at_i, at_j) = (i, j, name, before, slice_get_kept names more i name at_i, slice_get_kept names more j name at_j)

-- ---- what is read of a head

read_at : {A : Type 0} (f : Head → Option A) (o : Option Head) (r : Option A) → ((h : Head) → o ≡ Some h → r ≡ f h) → IsSome o → option_and_then f o ≡ r
read_at f None r reads live = absurd (false≢true live)
read_at f (Some h) r reads live = sym (reads h refl)

pub read_of : {A : Type 0} (f : Head → Option A) (t : Tree) (k : ℕ) (r : Option A) → ReadsHead f t k r → IsLive t k → option_and_then f (head_of t k) ≡ r
read_of f t k r reads live = read_at f (head_of t k) r reads live

-- ---- the list so far

pub one_added : (c : CallingConvention) (t : Tree) (ks : List ℕ) (i k : ℕ) (before after : NamedFunctions) → take (i + 1) ks ≡ take i ks ++ k ∷ [] → AreNamedFunctions c t (take i ks) before
    → after.functions ≡ before.functions ++ functions_among c t (k ∷ []) → names_of after.names ≡ names_of before.names ++ names_among c t (k ∷ []) → ((HasNamesakes (names_of before.names) → ⊥) → HasNamesakes (names_of after.names) → ⊥)
    → AreNamedFunctions c t (take (i + 1) ks) after
one_added c t ks i k before after more so_far functions names apart = record {
  functions = functions ∙ ap (λ xs. xs ++ functions_among c t (k ∷ [])) so_far.functions ∙ sym (functions_behind c t (take i ks) (k ∷ [])) ∙ ap (functions_among c t) (sym more);
  names = names ∙ ap (λ xs. xs ++ names_among c t (k ∷ [])) so_far.names ∙ sym (names_behind c t (take i ks) (k ∷ [])) ∙ ap (names_among c t) (sym more);
  apart = apart so_far.apart;
}

pub one_twice : (c : CallingConvention) (t : Tree) (ks : List ℕ) (i k : ℕ) (before : NamedFunctions) → take (i + 1) ks ≡ take i ks ++ k ∷ [] → AreNamedFunctions c t (take i ks) before
    → HasNamesakes (names_of before.names ++ names_among c t (k ∷ [])) → HasNamesakes (names_among c t ks)
one_twice c t ks i k before more so_far twice =
    let so = subst (λ ns. HasNamesakes (ns ++ names_among c t (k ∷ []))) so_far.names twice in
    let in_first = subst HasNamesakes (sym (names_behind c t (take i ks) (k ∷ [])) ∙ ap (names_among c t) (sym more)) so in
    subst HasNamesakes (sym (names_behind c t (take (i + 1) ks) (drop (i + 1) ks)) ∙ ap (names_among c t) (take-append-drop (i + 1) ks)) (namesakes_before (names_among c t (take (i + 1) ks)) (names_among c t (drop (i + 1) ks)) in_first)
