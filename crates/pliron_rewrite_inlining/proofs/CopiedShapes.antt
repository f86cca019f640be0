-- A copied operation has the shape of its original, and leads to copies of what that leads to.
use Rattle.std.proofs.Common.{◌≡◌, ℕ, true, List, [], map, length, Option, Some, None, slice_get, refl, sym, ap, ◌∙◌, subst}
use Rattle.std.specs.Option.{option_map}
use Rattle.std.proofs.lemmas.List.{length-map}
use Rattle.std.proofs.lemmas.Option.{slice_get-map}
use Rattle.pliron_core.specs.Tree.{Tree, In, IsLive, head_of, operands_of, results_of, successors_of, regions_of, arguments_of, block_parent_of}
use Rattle.pliron_core.proofs.HoldingLemmas.{some_of, in_slice}
use Rattle.pliron_laws.specs.Datum.{Head, Shape, Meaning}
use Rattle.pliron_laws.specs.Tree.{Operation, op_at, block_at, entry_block, count_arguments, unless, shape_of}
use Rattle.pliron_laws.proofs.Records.{operation_of, block_of, make_op, make_block}
use Rattle.pliron_rewrite_copies.proofs.Maps.{map_map}
use Rattle.pliron_rewrite_inlining.specs.Inlined.{InlinedCall, IsCopy, IsBlockCopy}

pub same_shape : {a b : Head} → {c d e f g i : ℕ} → {j k : List ℕ} → {l n : Option (List ℕ)} → a ≡ b → c ≡ d → e ≡ f → g ≡ i → j ≡ k → l ≡ n
    → ◌≡◌ {A = Shape} (record { head = a; operands = c; results = e; successors = g; entry_arguments = j; target_arguments = l }) (record { head = b; operands = d; results = f; successors = i; entry_arguments = k; target_arguments = n })
same_shape p q r s t u = cc

-- the record of an operation that is live
abbrev pub live_op : (t : Tree) (k : ℕ) → IsLive t k → Operation
live_op t k live = operation_of t k (some_of (head_of t k) live).0

pub live_op_at : (t : Tree) (k : ℕ) (live : IsLive t k) → op_at t k ≡ Some (live_op t k live)
live_op_at t k live = make_op t k (some_of (head_of t k) live).0 (some_of (head_of t k) live).1

-- the block, if there is one, and its original
abbrev pub IsBlockAlike : (m : Meaning) → (t u : Tree) → InlinedCall → Option ℕ → Option ℕ → Type 0
IsBlockAlike m t u x None None = Unit {0}
IsBlockAlike m t u x (Some b) None = ⊥
IsBlockAlike m t u x None (Some a) = ⊥
IsBlockAlike m t u x (Some b) (Some a) = IsBlockCopy m t u x b × (a ≡ x.originals.block b)

-- the operation and its original
pub record HasOriginal (m : Meaning) (t u : Tree) (x : InlinedCall) (k : ℕ) : Type 0 where
  pub copy : Operation
  pub original : Operation
  pub at : op_at u k ≡ Some copy
  pub original_at : op_at t (x.originals.operation k) ≡ Some original
  pub operands : original.operands ≡ map x.originals.value copy.operands
  pub results : original.results ≡ map x.originals.value copy.results
  pub successors : original.successors ≡ map x.originals.block copy.successors
  pub childless : original.regions ≡ []
  pub childless_copy : copy.regions ≡ []
  pub own_operands : operands_of u k ≡ copy.operands
  pub own_results : results_of u k ≡ copy.results
  pub own_successors : successors_of u k ≡ copy.successors
  pub shape : shape_of m t original ≡ shape_of m u copy

module _ (m : Meaning) (t u : Tree) (x : InlinedCall) (blocks : (b : ℕ) → x.copied b ≡ true → IsBlockCopy m t u x b) where
  pub copy_at : (b : ℕ) (c : IsBlockCopy m t u x b) → block_at u b ≡ Some (block_of u b (some_of (block_parent_of u b) c.live).0)
  copy_at b c = let r = some_of (block_parent_of u b) c.live in make_block u b r.0 r.1

  pub original_block_at : (b : ℕ) (c : IsBlockCopy m t u x b) → block_at t (x.originals.block b) ≡ Some (block_of t (x.originals.block b) x.region)
  original_block_at b c = make_block t (x.originals.block b) x.region c.original

  counts : (b : ℕ) → IsBlockCopy m t u x b → count_arguments (block_at t (x.originals.block b)) ≡ count_arguments (block_at u b)
  counts b c = ap count_arguments (original_block_at b c) ∙ ap length c.arguments ∙ length-map (arguments_of u b) x.originals.value ∙ sym (ap count_arguments (copy_at b c))

  abbrev original_of : (k : ℕ) → IsCopy m t u x k → Operation
  original_of k c = operation_of t (x.originals.operation k) (some_of (head_of u k) c.live).0

  no_regions : (k : ℕ) → IsCopy m t u x k → regions_of t (x.originals.operation k) ≡ []
  no_regions k c = c.same.regions ∙ ap (map x.originals.region) c.childless

  targets : (k : ℕ) → IsCopy m t u x k → map (λ b. count_arguments (block_at t b)) (successors_of t (x.originals.operation k)) ≡ map (λ b. count_arguments (block_at u b)) (successors_of u k)
  targets k c = ap (map (λ b. count_arguments (block_at t b))) c.same.successors ∙ map_map (λ b. count_arguments (block_at t b)) (λ b. count_arguments (block_at u b)) x.originals.block (successors_of u k) (λ b i. counts b (blocks b (c.leads b i)))

  shape_of_copy : (k : ℕ) (c : IsCopy m t u x k) → shape_of m t (original_of k c) ≡ shape_of m u (live_op u k c.live)
  unfolding shape_of
  shape_of_copy k c = same_shape refl
      (ap length c.same.operands ∙ length-map (operands_of u k) x.originals.value)
      (ap length c.same.results ∙ length-map (results_of u k) x.originals.value)
      (ap length c.same.successors ∙ length-map (successors_of u k) x.originals.block)
      (ap (map (λ r. count_arguments (entry_block t r))) (no_regions k c) ∙ sym (ap (map (λ r. count_arguments (entry_block u r))) c.childless))
      (ap (unless (m.is_branch (some_of (head_of u k) c.live).0)) (targets k c))

  pub has_original : (k : ℕ) → IsCopy m t u x k → HasOriginal m t u x k
  has_original k c = record {
    copy = live_op u k c.live;
    original = original_of k c;
    at = live_op_at u k c.live;
    original_at = make_op t (x.originals.operation k) (some_of (head_of u k) c.live).0 (c.same.head ∙ (some_of (head_of u k) c.live).1);
    operands = c.same.operands;
    results = c.same.results;
    successors = c.same.successors;
    childless = no_regions k c;
    childless_copy = c.childless;
    own_operands = refl;
    own_results = refl;
    own_successors = refl;
    shape = shape_of_copy k c;
  }

  -- what its successors are
  pub targets_alike : (k : ℕ) (c : IsCopy m t u x k) (h : HasOriginal m t u x k) (i : ℕ) → IsBlockAlike m t u x (slice_get h.copy.successors i) (slice_get h.original.successors i)
  targets_alike k c h i = subst (IsBlockAlike m t u x (slice_get h.copy.successors i)) (sym (ap (λ l. slice_get l i) h.successors ∙ slice_get-map x.originals.block h.copy.successors i)) (go (slice_get h.copy.successors i) refl)
    where
      go : (z : Option ℕ) → slice_get h.copy.successors i ≡ z → IsBlockAlike m t u x z (option_map x.originals.block z)
      go None e = tt
      go (Some b) e = (blocks b (c.leads b (subst (In b) (sym h.own_successors) (in_slice h.copy.successors i b e))), refl)
