-- What is gone after an erasure.
use Rattle.std.proofs.Common.{◌≡◌, ◌⊎◌, ℕ, zero, suc, ◌<◌, Bool, true, false, nat_eq, if◌then◌else◌, List, [], ◌∷◌, length, get_or, Option, Some, None, slice_set, refl, sym, ap, ◌∙◌, inl, inr, true≢false, arith}
use Rattle.std.proofs.lemmas.Bool.{eq-eqb}
use Rattle.pliron_core.specs.Tree.{Tree, parent_operation_of, IsWithin}
use Rattle.pliron_core.specs.Erased.{is_met, is_met_above, is_in_operation, IsInOperation}
use Rattle.pliron_core.proofs.WithinLemmas.{within_is, in_block_is}

pub true_or_false : (b : Bool) → (b ≡ true) ⊎ (b ≡ false)
true_or_false true = inl refl
true_or_false false = inr refl

-- an entry that is blanked is blank
pub blank_set : {A : Type 0} (none : A) (xs : List A) (k : ℕ) → get_or (slice_set xs k none) k none ≡ none
blank_set none [] k = refl
blank_set none (x ∷ xs) zero = refl
blank_set none (x ∷ xs) (suc k) = blank_set none xs k

-- above nothing, nothing is met
nothing_met : (t : Tree) (p : ℕ → Bool) → is_met_above t p None ≡ true → ⊥
nothing_met t p e = true≢false (sym e ∙ none (length t.operations))
  where
    none : (n : ℕ) → is_met (parent_operation_of t) p n None ≡ false
    none zero = refl
    none (suc n) = refl

-- what is met stands above, or is the operation itself
pub met_above : (t : Tree) (op : ℕ) (o : Option ℕ) → is_met_above t (nat_eq op) o ≡ true → (x : ℕ) × (o ≡ Some x) × IsWithin t op x
met_above t op None e = absurd (nothing_met t (nat_eq op) e)
met_above t op (Some x) e = (x, refl, within_is t op x e)

pub met_block : (t : Tree) (block : ℕ) (o : Option ℕ) → is_met_above t (is_in_operation t block) o ≡ true → (x : ℕ) × (o ≡ Some x) × IsInOperation t block x
met_block t block None e = absurd (nothing_met t (is_in_operation t block) e)
met_block t block (Some x) e = (x, refl, in_block_is t block x e)

pub met_itself : (t : Tree) (op : ℕ) → op < length t.operations → is_met_above t (nat_eq op) (Some op) ≡ true
met_itself t op lt = go (length t.operations) lt
  where
    go : (n : ℕ) → op < n → is_met (parent_operation_of t) (nat_eq op) n (Some op) ≡ true
    go zero lt = absurd (omega arith)
    go (suc n) lt = ap (λ b. if b then true else is_met (parent_operation_of t) (nat_eq op) n (parent_operation_of t op)) (eq-eqb op op refl)
