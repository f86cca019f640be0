-- What stands where it stood: same places of operations, blocks and regions, so the same insides.
use Rattle.std.proofs.Common.{◌≡◌, ℕ, Option, Some, None, refl, sym, ap, ◌∙◌}
use Rattle.pliron_core.specs.Tree.{Tree, IsInside, IsWithin, parent_of, block_parent_of, region_parent_of, slot_of, block_parent_operation_of, parent_operation_of, up_from, op_of_slot}
use Rattle.pliron_core.proofs.HoldingLemmas.{inside_alike, within_alike}

-- operations, blocks and regions stand where they stood
pub record KeepsPlaces (t t' : Tree) : Type 0 where
  pub parents : (x : ℕ) → parent_of t' x ≡ parent_of t x
  pub block_parents : (b : ℕ) → block_parent_of t' b ≡ block_parent_of t b
  pub slots : (r : ℕ) → slot_of t' r ≡ slot_of t r

module _ {t t' : Tree} (h : KeepsPlaces t t') where
  pub same_block_holder : (b : ℕ) → block_parent_operation_of t' b ≡ block_parent_operation_of t b
  same_block_holder b = ap (λ o. up_from o (λ r. region_parent_of t' r)) (h.block_parents b) ∙ go (block_parent_of t b)
    where
      go : (o : Option ℕ) → up_from o (λ r. region_parent_of t' r) ≡ up_from o (λ r. region_parent_of t r)
      go None = refl
      go (Some r) = ap op_of_slot (h.slots r)

  pub same_holder : (x : ℕ) → parent_operation_of t' x ≡ parent_operation_of t x
  same_holder x = ap (λ o. up_from o (λ b. block_parent_operation_of t' b)) (h.parents x) ∙ go (parent_of t x)
    where
      go : (o : Option ℕ) → up_from o (λ b. block_parent_operation_of t' b) ≡ up_from o (λ b. block_parent_operation_of t b)
      go None = refl
      go (Some b) = same_block_holder b

  pub inside_forth : (op x : ℕ) → IsInside t op x → IsInside t' op x
  inside_forth op x i = inside_alike t t' same_holder i

  pub inside_back : (op x : ℕ) → IsInside t' op x → IsInside t op x
  inside_back op x i = inside_alike t' t (λ y. sym (same_holder y)) i

  pub within_forth : (op x : ℕ) → IsWithin t op x → IsWithin t' op x
  within_forth op x i = within_alike t t' same_holder i

  pub within_back : (op x : ℕ) → IsWithin t' op x → IsWithin t op x
  within_back op x i = within_alike t' t (λ y. sym (same_holder y)) i
