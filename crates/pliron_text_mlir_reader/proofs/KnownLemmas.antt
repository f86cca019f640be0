-- What is known of names, as their table grows.
use Rattle.std.proofs.Common.{◌≡◌, Bool, true, false, if◌then◌else◌, ℕ, zero, suc, List, [], ◌∷◌, ◌++◌, length, Option, Some, None, refl, sym, ap, subst, ◌∙◌, inl, inr, arith}
use Rattle.std.specs.Prelude.{◌⊎◌, slice_get, option_map}
use Rattle.std.proofs.lemmas.Grind.{common_steps}
use Rattle.std.proofs.lemmas.Option.{same_Some}
use Rattle.pliron_text_mlir_syntax.specs.declared.texts.Texts.{Texts}
use Rattle.pliron_text_mlir_syntax.specs.Sheets.{text_in, KeepsTexts}
use Rattle.pliron_text_mlir_reader.specs.Known.{known_in_quotes, AreKnownNames}
use Rattle.pliron_text_mlir_reader.specs.declared.known.KnownName.{KnownName}

pub none_known : (names : Texts) (entries : List KnownName) → entries ≡ [] → AreKnownNames names entries
none_known names entries none = λ number known is. grind (arith, common_steps)

known_behind : (a b : Option (List ℕ)) (known : KnownName) → ((text : List ℕ) → a ≡ Some text → b ≡ Some text) → option_map known_in_quotes a ≡ Some known
    → option_map known_in_quotes b ≡ Some known
known_behind None b known keeps is = grind (arith, common_steps)
known_behind (Some text) b known keeps is = ap (option_map known_in_quotes) (keeps text refl) ∙ is

pub known_kept : (old new : Texts) (entries : List KnownName) → KeepsTexts old new → AreKnownNames old entries → AreKnownNames new entries
known_kept old new entries keeps are = λ number known is. known_behind _ _ known (keeps number) (are number known is)

known_at : (names : Texts) (entries : List KnownName) (number : ℕ) (known : KnownName) (name : List ℕ) → AreKnownNames names entries → text_in names number ≡ Some name
    → slice_get entries number ≡ Some known → known ≡ known_in_quotes name
known_at names entries number known name are at is = same_Some _ _ (sym (are number known is) ∙ ap (option_map known_in_quotes) at)

one_more : {A : Type 0} (length : ℕ) (there : Option A) (added known : A) (number : ℕ) → (there ≡ Some known) ⊎ ((number ≡ length) × (added ≡ known)) → (there ≡ Some known) ⊎ ((suc number ≡ suc length) × (added ≡ known))
one_more length there added known number (inl is) = inl is
one_more length there added known number (inr is) = inr (ap suc is.0, is.1)

at_end : {A : Type 0} (entries : List A) (added known : A) (number : ℕ) → slice_get (entries ++ added ∷ []) number ≡ Some known
    → (slice_get entries number ≡ Some known) ⊎ ((number ≡ length entries) × (added ≡ known))
at_end [] added known zero is = inr (refl, same_Some _ _ is)
at_end [] added known (suc number) is = grind (arith, common_steps)
at_end (entry ∷ entries) added known zero is = inl is
at_end (entry ∷ entries) added known (suc number) is = one_more (length entries) (slice_get entries number) added known number (at_end entries added known number is)

known_by_place : (names : Texts) (entries : List KnownName) (added : KnownName) (name : List ℕ) (number : ℕ) (known : KnownName) → AreKnownNames names entries
    → text_in names (length entries) ≡ Some name → added ≡ known_in_quotes name
    → (slice_get entries number ≡ Some known) ⊎ ((number ≡ length entries) × (added ≡ known)) → option_map known_in_quotes (text_in names number) ≡ Some known
known_by_place names entries added name number known are at is (inl there) = are number known there
known_by_place names entries added name number known are at is (inr last) =
    ap (λ n. option_map known_in_quotes (text_in names n)) last.0 ∙ ap (option_map known_in_quotes) at ∙ ap Some (sym is ∙ last.1)

known_more : (names : Texts) (entries : List KnownName) (added : KnownName) (name : List ℕ) → AreKnownNames names entries → text_in names (length entries) ≡ Some name → added ≡ known_in_quotes name
    → AreKnownNames names (entries ++ added ∷ [])
known_more names entries added name are at is = λ number known there. known_by_place names entries added name number known are at is (at_end entries added known number there)

pub known_found : (old new : Texts) (entries : List KnownName) (number : ℕ) (known : KnownName) (name : List ℕ) → KeepsTexts old new → AreKnownNames old entries → text_in new number ≡ Some name
    → slice_get entries number ≡ Some known → known ≡ known_in_quotes name
known_found old new entries number known name keeps are at is = known_at new entries number known name (known_kept old new entries keeps are) at is

known_if : (names : Texts) (entries more : List KnownName) (pushed : Bool) → AreKnownNames names entries → AreKnownNames names more → AreKnownNames names (if pushed then more else entries)
known_if names entries more true are known = known
known_if names entries more false are known = are

pub known_pushed : (old new : Texts) (entries now : List KnownName) (added : KnownName) (name : List ℕ) (number : ℕ) (pushed : Bool) → KeepsTexts old new → AreKnownNames old entries
    → text_in new number ≡ Some name → number ≡ length entries → added ≡ known_in_quotes name → now ≡ (if pushed then entries ++ added ∷ [] else entries) → AreKnownNames new now
known_pushed old new entries now added name number pushed keeps are at last is made =
    let still = known_kept old new entries keeps are in
    let more = known_more new entries added name still (ap (text_in new) (sym last) ∙ at) is in
    subst (AreKnownNames new) (sym made) (known_if new entries (entries ++ added ∷ []) pushed still more)
