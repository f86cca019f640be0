-- Tables that get one more name.
use Rattle.std.proofs.Common.{◌≡◌, ◌≢◌, ℕ, zero, suc, ◌⊎◌, inl, inr, Bool, true, false, List, [], ◌∷◌, ◌++◌, length, refl, sym, ap, ◌∙◌, subst, arith, true≢false}
use Rattle.std.specs.Prelude.{None, Some, slice_get, nat_eq, ⊤}
use Rattle.std.specs.Cmp.{unsigned_Decides}
use Rattle.std.specs.Global.{Vec}
use Rattle.std.specs.Map.{IsKeyTest, AreApart, KeepsOthers}
use Rattle.indexmap.specs.IndexMap.{get, get_by}
use Rattle.std.specs.Cmp.Lexicographic.{pointwise, bytes_decides}
use Rattle.std.proofs.lemmas.Option.{none-some, same_Some, slice_get_past}
use Rattle.pliron_text_llvm_names.specs.declared.table.LocalNameTable.{LocalNameTable}
use Rattle.pliron_text_llvm_names.specs.Names.{NameKey}
use Rattle.pliron_text_llvm_names.specs.Names.NameKey.{Number, Text}
use Rattle.pliron_text_llvm_names.specs.Tables.{number_named, IsIndexOf}

-- no name yet
pub index_none : (table : LocalNameTable) → ((key : NameKey) → number_named table key ≡ None) → IsIndexOf table []
index_none table none key i = (λ e. absurd (none-some i (sym (none key) ∙ e)), λ e. absurd (none-some key (sym (slice_get_past [] i (omega arith)) ∙ e)))

-- ---- names that are the same

abbrev is_number_key : NameKey → Type 0
is_number_key (Number number) = ⊤
is_number_key (Text bytes) = ⊥

abbrev bytes_in_key : NameKey → List ℕ
bytes_in_key (Number number) = []
bytes_in_key (Text bytes) = bytes

abbrev number_in_key : NameKey → ℕ
number_in_key (Number number) = number
number_in_key (Text bytes) = 0

key_same : (a b : NameKey) → (a ≡ b) ⊎ (a ≢ b)
key_same (Number n) (Number m) = go (nat_eq n m) refl
  where
    go : (b : Bool) → nat_eq n m ≡ b → (Number n ≡ Number m) ⊎ (Number n ≢ Number m)
    go true e = inl (ap Number ((unsigned_Decides n m).0 e))
    go false e = inr (λ p. absurd (true≢false (sym ((unsigned_Decides n m).1 (ap number_in_key p)) ∙ e)))
key_same (Number n) (Text bytes) = inr (λ p. subst is_number_key p tt)
key_same (Text bytes) (Number n) = inr (λ p. subst is_number_key (sym p) tt)
key_same (Text xs) (Text ys) = go (pointwise nat_eq xs ys) refl
  where
    go : (b : Bool) → pointwise nat_eq xs ys ≡ b → (Text xs ≡ Text ys) ⊎ (Text xs ≢ Text ys)
    go true e = inl (ap Text ((bytes_decides xs ys).0 e))
    go false e = inr (λ p. absurd (true≢false (sym ((bytes_decides xs ys).1 (ap bytes_in_key p)) ∙ e)))

-- ---- tables that get one more name in bytes

-- the name is found
pub text_put : (table : LocalNameTable) (key : NameKey) (bytes items : List ℕ) (number : ℕ) → key ≡ Text bytes → items ≡ bytes → get_by (λ k. pointwise nat_eq items k.items) table.texts ≡ Some number → number_named table key ≡ Some number
text_put table key bytes items number key_is e found =
    ap (number_named table) key_is ∙ subst (λ bs. get_by (λ k. pointwise nat_eq bs k.items) table.texts ≡ Some number) e found

-- a look-up by bytes is one of the key that has them
is_text_test : (bytes : List ℕ) → IsKeyTest (λ (k l : Vec ℕ). pointwise nat_eq k.items l.items) (λ k. pointwise nat_eq bytes k.items)
is_text_test bytes x y found = ap (λ bs. pointwise nat_eq bs y.items) ((bytes_decides bytes x.items).0 found)

are_apart : (bytes items : List ℕ) → items ≢ bytes → AreApart (λ (k : Vec ℕ). pointwise nat_eq items k.items) (λ k. pointwise nat_eq bytes k.items)
are_apart bytes items apart k found = go (pointwise nat_eq bytes k.items) refl
  where
    go : (b : Bool) → pointwise nat_eq bytes k.items ≡ b → pointwise nat_eq bytes k.items ≡ false
    go false e = e
    go true e = absurd (apart ((bytes_decides items k.items).0 found ∙ sym ((bytes_decides bytes k.items).0 e)))

-- others are found as before
pub text_others : (before after : LocalNameTable) (key : NameKey) (bytes items : List ℕ) → key ≡ Text bytes → items ≡ bytes → after.numbers ≡ before.numbers
    → KeepsOthers (λ (k l : Vec ℕ). pointwise nat_eq k.items l.items) (λ k. pointwise nat_eq items k.items) before.texts.entries after.texts.entries
    → (other : NameKey) → other ≢ key → number_named after other ≡ number_named before other
unfolding KeepsOthers
text_others before after key bytes items key_is e numbers kept (Number n) apart = ap (λ m. get nat_eq m n) numbers
text_others before after key bytes items key_is e numbers kept (Text bs) apart =
    kept (λ k. pointwise nat_eq bs k.items) (is_text_test bs) (are_apart bs items (λ same. apart (ap Text (sym same ∙ e) ∙ sym key_is)))

-- ---- lists with one more item

get_here : (keys : List NameKey) (key : NameKey) → slice_get (keys ++ key ∷ []) (length keys) ≡ Some key
get_here [] key = refl
get_here (first ∷ keys) key = get_here keys key

get_kept : (keys : List NameKey) (last key : NameKey) (i : ℕ) → slice_get keys i ≡ Some key → slice_get (keys ++ last ∷ []) i ≡ Some key
get_kept [] last key i e = absurd (none-some key (sym (slice_get_past [] i (omega arith)) ∙ e))
get_kept (first ∷ keys) last key zero e = e
get_kept (first ∷ keys) last key (suc i) e = get_kept keys last key i e

get_last : (keys : List NameKey) (last key : NameKey) (i : ℕ) → slice_get (keys ++ last ∷ []) i ≡ Some key → (slice_get keys i ≡ Some key) ⊎ ((i ≡ length keys) × (key ≡ last))
get_last [] last key zero e = inr (refl, sym (same_Some last key e))
get_last [] last key (suc i) e = absurd (none-some key (sym (slice_get_past [] i (omega arith)) ∙ e))
get_last (first ∷ keys) last key zero e = inl e
get_last (first ∷ keys) last key (suc i) e = shift (get_last keys last key i e)
  where
    shift : (slice_get keys i ≡ Some key) ⊎ ((i ≡ length keys) × (key ≡ last)) → (slice_get keys i ≡ Some key) ⊎ ((suc i ≡ suc (length keys)) × (key ≡ last))
    shift (inl old) = inl old
    shift (inr new) = inr (ap suc new.0, new.1)

-- a name more, which had no number
pub index_grown : (before after : LocalNameTable) (keys : List NameKey) (key : NameKey) → IsIndexOf before keys → number_named before key ≡ None → number_named after key ≡ Some (length keys)
    → ((other : NameKey) → other ≢ key → number_named after other ≡ number_named before other) → IsIndexOf after (keys ++ key ∷ [])
index_grown before after keys key index fresh put others other i = (λ e. to (key_same other key) e, λ e. from (get_last keys key other i e))
  where
    to : (other ≡ key) ⊎ (other ≢ key) → number_named after other ≡ Some i → slice_get (keys ++ key ∷ []) i ≡ Some other
    to (inl same) e =
        let here : length keys ≡ i = same_Some (length keys) i (sym put ∙ ap (number_named after) (sym same) ∙ e) in
        ap (slice_get (keys ++ key ∷ [])) (sym here) ∙ get_here keys key ∙ ap Some (sym same)
    to (inr apart) e = get_kept keys key other i ((index other i).0 (sym (others other apart) ∙ e))

    from : (slice_get keys i ≡ Some other) ⊎ ((i ≡ length keys) × (other ≡ key)) → number_named after other ≡ Some i
    from (inl old) =
        let was : number_named before other ≡ Some i = (index other i).1 old in
        others other (λ same. none-some i (sym fresh ∙ ap (number_named before) (sym same) ∙ was)) ∙ was
    from (inr new) = ap (number_named after) new.1 ∙ put ∙ ap Some (sym new.0)
