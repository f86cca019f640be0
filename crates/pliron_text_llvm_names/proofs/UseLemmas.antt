-- Holes whose names are resolved one after another.
use Rattle.std.proofs.Common.{◌≡◌, ℕ, suc, ◌+◌, ◌<◌, ◌≤◌, List, [], ◌∷◌, ◌++◌, length, get_or, take, sym, ap, ◌∙◌, subst, arith}
use Rattle.std.specs.Prelude.{true, Option, Some, None, slice_get}
use Rattle.std.proofs.lemmas.List.{take_all, take_more}
use Rattle.pliron_text_llvm_syntax.specs.declared.forms.Hole.{Hole}
use Rattle.pliron_text_llvm_names.specs.declared.definitions.LocalDefinition.{LocalDefinition}
use Rattle.pliron_text_llvm_names.specs.declared.table.LocalNameTable.{LocalNameTable}
use Rattle.pliron_text_llvm_names.specs.Definitions.{keys_of}
use Rattle.pliron_text_llvm_names.specs.Names.{NameKey, key_of_local}
use Rattle.pliron_text_llvm_names.specs.Tables.{number_named, IsIndexOf}
use Rattle.pliron_text_llvm_names.specs.Uses.{is_local_hole, fits_kind, IsTarget, AreTargets}

-- what the table has is a target
pub named : (text : List ℕ) (definitions : List LocalDefinition) (table : LocalNameTable) (hole : Hole) (number : ℕ) (key : NameKey) (found : Option LocalDefinition) → IsIndexOf table (keys_of text definitions) → is_local_hole text hole ≡ true
    → Some number ≡ number_named table key → key ≡ key_of_local text hole.span → found ≡ slice_get definitions number → fits_kind hole.kind found ≡ true → IsTarget text definitions hole (Some number)
named text definitions table hole number key found index local named_so key_is found_is fits =
    (local, ((index key number).0 (sym named_so) ∙ ap Some key_is, subst (λ f. fits_kind hole.kind f ≡ true) found_is fits))

-- no hole yet
pub targets_none : (text : List ℕ) (definitions : List LocalDefinition) (holes : List Hole) (targets : List (Option ℕ)) → targets ≡ [] → AreTargets text definitions (take 0 holes) targets
targets_none text definitions holes targets e = subst (AreTargets text definitions []) (sym e) tt

append : (text : List ℕ) (definitions : List LocalDefinition) (holes : List Hole) (targets : List (Option ℕ)) (hole : Hole) (target : Option ℕ) → AreTargets text definitions holes targets → IsTarget text definitions hole target
    → AreTargets text definitions (holes ++ hole ∷ []) (targets ++ target ∷ [])
append text definitions [] [] hole target h one = (one, tt)
append text definitions [] (first ∷ targets) hole target h one = absurd h
append text definitions (first ∷ holes) [] hole target h one = absurd h
append text definitions (first ∷ holes) (second ∷ targets) hole target h one = (h.0, append text definitions holes targets hole target h.1 one)

-- one more hole
pub targets_more : (text : List ℕ) (definitions : List LocalDefinition) (holes : List Hole) (i : ℕ) (d : Hole) (targets after : List (Option ℕ)) (target : Option ℕ) → i < length holes → AreTargets text definitions (take i holes) targets
    → IsTarget text definitions (get_or holes i d) target → after ≡ targets ++ target ∷ [] → AreTargets text definitions (take (i + 1) holes) after
targets_more text definitions holes i d targets after target less h one grown =
    subst (AreTargets text definitions (take (i + 1) holes)) (sym grown)
    (subst (λ hs. AreTargets text definitions hs (targets ++ target ∷ [])) (sym (take_more holes i d less)) (append text definitions (take i holes) targets (get_or holes i d) target h one))

-- all holes
pub targets_all : (text : List ℕ) (definitions : List LocalDefinition) (holes : List Hole) (i : ℕ) (targets : List (Option ℕ)) → length holes ≤ i → AreTargets text definitions (take i holes) targets → AreTargets text definitions holes targets
targets_all text definitions holes i targets past h = subst (λ hs. AreTargets text definitions hs targets) (take_all i holes past) h
