-- Operations in a set.
use Rattle.std.proofs.Common.{◌≡◌, ◌⊎◌, ◌<◌, ◌≤◌, ◌+◌, ⊎_elim, ℕ, zero, suc, Bool, true, false, List, [], ◌∷◌, ◌++◌, length, take, Option, Some, None, if◌then◌else◌, add-one, inl, inr, get_or, slice_get, refl, sym, ap, ◌∙◌, subst, arith}
use Rattle.std.specs.List.{list_any}
use Rattle.std.proofs.lemmas.Option.{slice_get-get_or}
use Rattle.pliron_core.specs.Invariant.{IsTree}
use Rattle.pliron_core.specs.Reads.{prev_of}
use Rattle.pliron_core.specs.Tree.{Tree, In, prev_in, body_of, parent_of, up_from}
use Rattle.pliron_core.proofs.ArgumentLemmas.{take_more}
use Rattle.pliron_core.proofs.HoldingLemmas.{in_slice, not_none}
use Rattle.pliron_core.proofs.NeighbourLemmas.{prev_in-In}
use Rattle.pliron_graph_order.specs.Seen.{IsSeen}
use Rattle.pliron_opt_combine.specs.Steps.{AreSeen}
use Rattle.pliron_opt_combine.proofs.Staying.{seen_beside}
use Rattle.pliron_core.proofs.ListLemmas.{In-cases}
use Rattle.indexmap.specs.IndexSet.{insert_key}

pub inserted_more : (eq : ℕ → ℕ → Bool) (old now : List ℕ) (v : ℕ) → now ≡ insert_key eq old v → (k : ℕ) → In k now → In k old ⊎ (k ≡ v)
inserted_more eq old now v e k i = go (list_any (eq v) old) (subst (In k) e i)
  where
    only : In k (v ∷ []) → k ≡ v
    only (inl f) = f
    only (inr never) = absurd never

    go : (b : Bool) → In k (if b then old else old ++ v ∷ []) → In k old ⊎ (k ≡ v)
    go true j = inl j
    go false j = ⊎_elim (λ z. inl z) (λ z. inr (only z)) (In-cases k old (v ∷ []) j)

pub read_at : (ops : List ℕ) (n op d : ℕ) → n < length ops → op ≡ get_or ops n d → slice_get ops n ≡ Some op
read_at ops n op d lt e = slice_get-get_or ops n d lt ∙ ap Some (sym e)

pub read_in : (ops : List ℕ) (n op d : ℕ) → n < length ops → op ≡ get_or ops n d → In op ops
read_in ops n op d lt e = in_slice ops n op (read_at ops n op d lt e)

-- the operation before one is beside it
pub prev_beside : (t : Tree) → IsTree t → (op new : ℕ) → prev_of t op ≡ Some new → parent_of t new ≡ parent_of t op
prev_beside t w op new e = go (parent_of t op) refl e
  where
    go : (b : Option ℕ) → parent_of t op ≡ b → up_from b (λ b. prev_in None op (body_of t b)) ≡ Some new → parent_of t new ≡ parent_of t op
    go None at f = absurd (not_none f)
    go (Some b) at f = w.bodies.owned new b (prev_in-In new op (body_of t b) f) ∙ sym at

pub seen_more : (t : Tree) → IsTree t → (root op new : ℕ) (old now : List ℕ) → prev_of t op ≡ Some new → ((k : ℕ) → In k now → In k old ⊎ (k ≡ new)) → IsSeen t root op → AreSeen t root old → AreSeen t root now
seen_more t w root op new old now e adds seen are k i = ⊎_elim
    (λ j. are k j)
    (λ same. subst (IsSeen t root) (sym same) (seen_beside t root op new seen (prev_beside t w op new e)))
    (adds k i)

-- one more of a list was taken
pub taken_more : (ops : List ℕ) (n op : ℕ) → slice_get ops n ≡ Some op → (k : ℕ) → In k (take (n + 1) ops) → In k (take n ops) ⊎ (k ≡ op)
taken_more ops n op at k i = ⊎_elim (λ z. inl z) (λ z. inr (only z)) (In-cases k (take n ops) (op ∷ []) (subst (In k) (ap (λ m. take m ops) (add-one n) ∙ take_more ops n op at) i))
  where
    only : In k (op ∷ []) → k ≡ op
    only (inl e) = e
    only (inr never) = absurd never

pub none_taken : (ops : List ℕ) (k : ℕ) → In k (take 0 ops) → ⊥
none_taken ops k i = i

take_past : (ops : List ℕ) (n : ℕ) → length ops ≤ n → take n ops ≡ ops
take_past [] zero le = refl
take_past [] (suc n) le = refl
take_past (op ∷ ops) zero le = absurd (omega (arith, le))
take_past (op ∷ ops) (suc n) le = ap (λ z. op ∷ z) (take_past ops n (omega (arith, le)))

pub all_taken : (ops : List ℕ) (n k : ℕ) → length ops ≤ n → In k ops → In k (take n ops)
all_taken ops n k le i = subst (In k) (sym (take_past ops n le)) i

-- what is read at a place is there
pub read_place : (ops : List ℕ) (n op : ℕ) → slice_get ops n ≡ Some op → In op ops
read_place ops n op at = in_slice ops n op at
