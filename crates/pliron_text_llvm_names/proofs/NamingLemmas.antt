-- Definitions that get their names one after another.
use Rattle.std.proofs.Common.{append-nil, ◌≡◌, ℕ, zero, suc, ◌+◌, ◌<◌, ◌≤◌, List, [], ◌∷◌, ◌++◌, length, get_or, take, drop, refl, sym, ap, ◌∙◌, subst, arith}
use Rattle.std.specs.Prelude.{Some, slice_get}
use Rattle.std.proofs.lemmas.List.{drop_all, drop_more, take-append-drop}
use Rattle.std.proofs.lemmas.Option.{same_Some}
use Rattle.pliron_text_llvm_names.specs.declared.definitions.LocalDefinition.{LocalDefinition}
use Rattle.pliron_text_llvm_names.specs.declared.table.LocalNameTable.{LocalNameTable}
use Rattle.pliron_text_llvm_names.specs.Definitions.{written_key, key_at, next_behind, keys_from, keys_of, AreRisingNumbers, AreDistinct}
use Rattle.pliron_text_llvm_names.specs.Names.{NameKey}
use Rattle.pliron_text_llvm_names.specs.Naming.{IsNamed}
use Rattle.pliron_text_llvm_names.specs.Tables.{number_named, IsIndexOf}
use Rattle.pliron_text_llvm_names.proofs.TableLemmas.{index_grown}

-- so many definitions have their names, and this number is next
abbrev pub AreNamedUpTo : List ℕ → List LocalDefinition → ℕ → ℕ → LocalNameTable → Type 0
AreNamedUpTo text definitions i next table =
    (drop i (keys_of text definitions) ≡ keys_from text next (drop i definitions))
    × (AreRisingNumbers text next (drop i definitions) → AreRisingNumbers text 0 definitions)
    × IsIndexOf table (take i (keys_of text definitions))

pub named_none : (text : List ℕ) (definitions : List LocalDefinition) (table : LocalNameTable) → IsIndexOf table [] → AreNamedUpTo text definitions 0 0 table
named_none text definitions table index = (refl, λ rising. rising, index)

drop_next : (keys tail : List NameKey) (i : ℕ) (key : NameKey) → drop i keys ≡ key ∷ tail → (drop (suc i) keys ≡ tail) × (take (suc i) keys ≡ take i keys ++ key ∷ []) × (length (take i keys) ≡ i)
drop_next [] tail zero key e = let q : ◌≡◌ {A = ℕ} 0 1 = cc in absurd (omega (arith, q))
drop_next [] tail (suc i) key e = let q : ◌≡◌ {A = ℕ} 0 1 = cc in absurd (omega (arith, q))
drop_next (first ∷ keys) tail zero key e =
    let same : first ≡ key = cc in
    let rest : keys ≡ tail = cc in
    (rest, ap (λ k. k ∷ []) same, refl)
drop_next (first ∷ keys) tail (suc i) key e =
    let h = drop_next keys tail i key e in
    (h.0, ap (λ ks. first ∷ ks) h.1, ap suc h.2)

-- a definition more has its name
pub named_more : (text : List ℕ) (definitions : List LocalDefinition) (i number next behind : ℕ) (d : LocalDefinition) (table after : LocalNameTable) → number ≡ i → i < length definitions → AreNamedUpTo text definitions i next table
    → IsNamed text (get_or definitions i d) number next table after behind → AreNamedUpTo text definitions (i + 1) behind after
named_more text definitions i number next behind d table after number_is less h named =
    let keys : List NameKey = keys_of text definitions in
    let key : NameKey = key_at next (written_key text (get_or definitions i d)) in
    let rest : List LocalDefinition = drop (i + 1) definitions in
    let ahead : drop i definitions ≡ get_or definitions i d ∷ rest = drop_more definitions i d less in
    let whole : drop i keys ≡ key ∷ keys_from text (next_behind next key) rest = h.0 ∙ ap (keys_from text next) ahead in
    let parts = drop_next keys (keys_from text (next_behind next key) rest) i key whole in
    let plus : suc i ≡ i + 1 = omega arith in
    let left : drop (i + 1) keys ≡ keys_from text behind rest =
    ap (λ n. drop n keys) (sym plus) ∙ parts.0 ∙ ap (λ n. keys_from text n rest) (sym named.2) in
    let grown : take (i + 1) keys ≡ take i keys ++ key ∷ [] = ap (λ n. take n keys) (sym plus) ∙ parts.1 in
    let put : number_named after key ≡ Some (length (take i keys)) = named.1.1 ∙ ap Some (number_is ∙ sym parts.2) in (
      left,
      λ rising. h.1 (subst (AreRisingNumbers text next) (sym ahead) (named.0, subst (λ n. AreRisingNumbers text n rest) named.2 rising)),
      subst (IsIndexOf after) (sym grown) (index_grown table after (take i keys) key h.2 named.1.0 put named.1.2),
    )

-- all have their names
pub named_index : (text : List ℕ) (definitions : List LocalDefinition) (i next : ℕ) (table : LocalNameTable) → length definitions ≤ i → AreNamedUpTo text definitions i next table → IsIndexOf table (keys_of text definitions)
named_index text definitions i next table past h =
    let none : drop i (keys_of text definitions) ≡ [] = h.0 ∙ ap (keys_from text next) (drop_all i definitions past) in
    let whole : take i (keys_of text definitions) ≡ keys_of text definitions =
    sym (append-nil (take i (keys_of text definitions))) ∙ ap (λ ks. take i (keys_of text definitions) ++ ks) (sym none) ∙ take-append-drop i (keys_of text definitions) in
    subst (IsIndexOf table) whole h.2

pub named_rising : (text : List ℕ) (definitions : List LocalDefinition) (i next : ℕ) (table : LocalNameTable) → length definitions ≤ i → AreNamedUpTo text definitions i next table → AreRisingNumbers text 0 definitions
named_rising text definitions i next table past h = h.1 (subst (AreRisingNumbers text next) (sym (drop_all i definitions past)) tt)

-- two places of one name are one
pub distinct : (table : LocalNameTable) (keys : List NameKey) → IsIndexOf table keys → AreDistinct keys
distinct table keys index i j key at_i at_j = same_Some i j (sym ((index key i).1 at_i) ∙ (index key j).1 at_j)

pub ruleset naming_steps = (named_none, named_more, named_index, named_rising)
