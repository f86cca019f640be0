-- Parts that are read one after another.
use Rattle.std.proofs.Common.{◌≡◌, ℕ, ◌+◌, ◌<◌, ◌≤◌, List, [], ◌∷◌, ◌++◌, length, map, get_or, take, sym, ap, ◌∙◌, subst}
use Rattle.std.specs.List.{All}
use Rattle.std.proofs.lemmas.List.{take_all, take_more, map-append}
use Rattle.std.proofs.lemmas.List.Elements.{All-nil, All-push}
use Rattle.pliron_text_llvm_syntax.specs.declared.parts.ModulePart.{ModulePart}
use Rattle.pliron_text_llvm_modules.specs.declared.module.ReadPart.{ReadPart}
use Rattle.pliron_text_llvm_modules.specs.Modules.{module_part_of, IsReadPart}

-- no part yet
pub parts_none : (found : List ReadPart) (parts : List ModulePart) → found ≡ [] → map module_part_of found ≡ take 0 parts
parts_none found parts e = ap (map module_part_of) e

pub readings_none : (text : List ℕ) (found : List ReadPart) → found ≡ [] → All (IsReadPart text) found
readings_none text found e = subst (All (IsReadPart text)) (sym e) (All-nil (IsReadPart text))

-- a part more
pub parts_more : (parts : List ModulePart) (i : ℕ) (d : ModulePart) (read : ReadPart) (found after : List ReadPart) → i < length parts
    → map module_part_of found ≡ take i parts → module_part_of read ≡ get_or parts i d → after ≡ found ++ read ∷ []
    → map module_part_of after ≡ take (i + 1) parts
parts_more parts i d read found after less same one grown =
    ap (map module_part_of) grown
    ∙ map-append module_part_of found (read ∷ [])
    ∙ ap (λ xs. xs ++ module_part_of read ∷ []) same
    ∙ ap (λ part. take i parts ++ part ∷ []) one
    ∙ sym (take_more parts i d less)

pub readings_more : (text : List ℕ) (read : ReadPart) (found after : List ReadPart) → All (IsReadPart text) found → IsReadPart text read → after ≡ found ++ read ∷ [] → All (IsReadPart text) after
readings_more text read found after h one grown = subst (All (IsReadPart text)) (sym grown) (All-push (IsReadPart text) found read h one)

-- all parts
pub parts_all : (parts : List ModulePart) (i : ℕ) (found : List ReadPart) → length parts ≤ i → map module_part_of found ≡ take i parts → map module_part_of found ≡ parts
parts_all parts i found past same = same ∙ take_all i parts past
