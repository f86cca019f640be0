-- Functions of a table by their places.
use Rattle.std.proofs.Common.{◌≡◌, ◌<◌, ◌⊎◌, inl, inr, ⊎_elim, ℕ, zero, suc, List, [], ◌∷◌, length, Option, Some, None, refl, sym, ap, ◌∙◌, subst, arith}
use Rattle.std.specs.Prelude.{slice_get, option_and_then}
use Rattle.std.proofs.lemmas.Option.{same_Some}
use Rattle.pliron_core.specs.declared.attrs.Head.{Head}
use Rattle.pliron_core.specs.Tree.{Tree, In, head_of, parent_operation_of}
use Rattle.pliron_core.specs.Invariant.{IsTree}
use Rattle.pliron_core.specs.Walks.{children}
use Rattle.pliron_core.proofs.HoldingLemmas.{some_is, not_none}
use Rattle.pliron_core.proofs.WalkLemmas.{In-children}
use Rattle.pliron_laws.specs.Datum.{Datum}
use Rattle.pliron_pass_linked.specs.Calls.{CallingConvention}
use Rattle.pliron_graph_calls.specs.FunctionNames.{symbol_at, with_function, with_name, functions_among, names_among}
use Rattle.pliron_graph_calls.specs.Namesakes.{HasNamesakes}
use Rattle.pliron_rewrite_symbols.specs.ErasedFunctions.{IsFunctionIn}

-- a function at a place: its name stands at that place, and it is one of these
pub record IsListed (c : CallingConvention) (t : Tree) (ks : List ℕ) (i f : ℕ) : Type 0 where
  pub name : Datum
  pub symbol : symbol_at c t f ≡ Some name
  pub named : slice_get (names_among c t ks) i ≡ Some name
  pub listed : In f ks

pub listed_at : (c : CallingConvention) (t : Tree) (ks : List ℕ) (i f : ℕ) → slice_get (functions_among c t ks) i ≡ Some f → IsListed c t ks i f
listed_at c t [] i f at = absurd (not_none at)
listed_at c t (k ∷ ks) i f at = go (symbol_at c t k) refl i at (λ n h. listed_at c t ks n f h)
  where
    more : (o : Option Datum) → symbol_at c t k ≡ o → (n m : ℕ) → (x : IsListed c t ks n f) → slice_get (with_name o (names_among c t ks)) m ≡ Some x.name → IsListed c t (k ∷ ks) m f
    more o e n m x h = record { name = x.name; symbol = x.symbol; named = ap (λ z. slice_get (with_name z (names_among c t ks)) m) e ∙ h; listed = inr x.listed }

    go : (o : Option Datum) → symbol_at c t k ≡ o → (n : ℕ) → slice_get (with_function k o (functions_among c t ks)) n ≡ Some f → ((m : ℕ) → slice_get (functions_among c t ks) m ≡ Some f → IsListed c t ks m f) → IsListed c t (k ∷ ks) n f
    go None e n h later = let x = later n h in more None e n n x x.named
    go (Some name) e zero h later = record {
      name = name;
      symbol = ap (symbol_at c t) (sym (some_is h)) ∙ e;
      named = ap (λ z. slice_get (with_name z (names_among c t ks)) 0) e;
      listed = inl (sym (some_is h));
    }
    go (Some name) e (suc n) h later = let x = later n h in more (Some name) e n (suc n) x x.named

-- each that has a name stands at some place, with it
pub place_of_function : (c : CallingConvention) (t : Tree) (ks : List ℕ) (f : ℕ) (name : Datum) → In f ks → symbol_at c t f ≡ Some name → (i : ℕ) × (slice_get (functions_among c t ks) i ≡ Some f) × (slice_get (names_among c t ks) i ≡ Some name)
place_of_function c t [] f name i e = absurd i
place_of_function c t (k ∷ ks) f name i e = ⊎_elim (λ s. here s) (λ j. later (symbol_at c t k) (place_of_function c t ks f name j e)) i
  where
    here : f ≡ k → (i : ℕ) × (slice_get (functions_among c t (k ∷ ks)) i ≡ Some f) × (slice_get (names_among c t (k ∷ ks)) i ≡ Some name)
    here s =
        let at : symbol_at c t k ≡ Some name = ap (symbol_at c t) (sym s) ∙ e in
        (0, ap (λ o. slice_get (with_function k o (functions_among c t ks)) 0) at ∙ ap Some (sym s), ap (λ o. slice_get (with_name o (names_among c t ks)) 0) at)

    later : (o : Option Datum) → (i : ℕ) × (slice_get (functions_among c t ks) i ≡ Some f) × (slice_get (names_among c t ks) i ≡ Some name) → (i : ℕ) × (slice_get (with_function k o (functions_among c t ks)) i ≡ Some f) × (slice_get (with_name o (names_among c t ks)) i ≡ Some name)
    later None x = x
    later (Some own) x = (suc x.0, x.1, x.2)

-- a name at a place is that of a function there
pub function_at : (c : CallingConvention) (t : Tree) (ks : List ℕ) (i : ℕ) (name : Datum) → slice_get (names_among c t ks) i ≡ Some name → (f : ℕ) × (slice_get (functions_among c t ks) i ≡ Some f) × (symbol_at c t f ≡ Some name) × In f ks
function_at c t [] i name at = absurd (not_none at)
function_at c t (k ∷ ks) i name at = go (symbol_at c t k) refl i at (λ n h. function_at c t ks n name h)
  where
    more : (o : Option Datum) → symbol_at c t k ≡ o → (m n : ℕ) → (x : (f : ℕ) × (slice_get (functions_among c t ks) n ≡ Some f) × (symbol_at c t f ≡ Some name) × In f ks) → slice_get (with_function k o (functions_among c t ks)) m ≡ Some x.0 → (f : ℕ) × (slice_get (functions_among c t (k ∷ ks)) m ≡ Some f) × (symbol_at c t f ≡ Some name) × In f (k ∷ ks)
    more o e m n x h = (x.0, ap (λ z. slice_get (with_function k z (functions_among c t ks)) m) e ∙ h, x.2, inr x.3)

    go : (o : Option Datum) → symbol_at c t k ≡ o → (n : ℕ) → slice_get (with_name o (names_among c t ks)) n ≡ Some name → ((m : ℕ) → slice_get (names_among c t ks) m ≡ Some name → (f : ℕ) × (slice_get (functions_among c t ks) m ≡ Some f) × (symbol_at c t f ≡ Some name) × In f ks) → (f : ℕ) × (slice_get (functions_among c t (k ∷ ks)) n ≡ Some f) × (symbol_at c t f ≡ Some name) × In f (k ∷ ks)
    go None e n h later = let x = later n h in more None e n n x x.1
    go (Some own) e zero h later = (k, ap (λ z. slice_get (with_function k z (functions_among c t ks)) 0) e, e ∙ h, inl refl)
    go (Some own) e (suc n) h later = let x = later n h in more (Some own) e (suc n) n x x.1

-- a name stands at one place
pub one_place : (names : List Datum) → (HasNamesakes names → ⊥) → (i j : ℕ) (name : Datum) → slice_get names i ≡ Some name → slice_get names j ≡ Some name → i ≡ j
one_place names apart i j name at_i at_j = go (order i j)
  where
    order : (a b : ℕ) → (a < b) ⊎ ((b < a) ⊎ (a ≡ b))
    order a b = grind arith

    go : (i < j) ⊎ ((j < i) ⊎ (i ≡ j)) → i ≡ j
    go (inl lt) = absurd (apart (i, j, name, lt, at_i, at_j))
    go (inr (inl gt)) = absurd (apart (j, i, name, gt, at_j, at_i))
    go (inr (inr e)) = e

-- ---- functions directly in an operation

symbol_head : (c : CallingConvention) (t : Tree) (f : ℕ) (name : Datum) (o : Option Head) → head_of t f ≡ o → option_and_then c.symbol_of o ≡ Some name → (h : Head) × (head_of t f ≡ Some h) × (c.symbol_of h ≡ Some name)
symbol_head c t f name None at e = absurd (not_none e)
symbol_head c t f name (Some h) at e = (h, at, e)

pub is_function : (c : CallingConvention) (t : Tree) (w : IsTree t) (holder f : ℕ) (name : Datum) → In f (children t holder) → symbol_at c t f ≡ Some name → IsFunctionIn c t holder f name
is_function c t w holder f name i e =
    let x = symbol_head c t f name (head_of t f) refl e in
    record { parent = (In-children t w f holder).0 i; head = x.0; has = x.1; named = x.2 }

pub has_symbol : (c : CallingConvention) (t : Tree) (holder f : ℕ) (name : Datum) → IsFunctionIn c t holder f name → symbol_at c t f ≡ Some name
has_symbol c t holder f name h = ap (option_and_then c.symbol_of) h.has ∙ h.named

pub is_child : (c : CallingConvention) (t : Tree) (w : IsTree t) (holder f : ℕ) (name : Datum) → IsFunctionIn c t holder f name → In f (children t holder)
is_child c t w holder f name h = (In-children t w f holder).1 h.parent
