-- A tree without the unreachable blocks of a region, by places at any depth.
use Rattle.std.proofs.Common.{◌≡◌, ◌↔◌, inl, inr, ℕ, true, false, if◌then◌else◌, List, sym, ap, ◌∙◌, subst}
use Rattle.std.proofs.lemmas.Bool.{false_from_ne_true}
use Rattle.pliron_core.specs.Tree.{Tree, In, block_parent_operation_of}
use Rattle.pliron_core.specs.Invariant.{IsTree}
use Rattle.pliron_core.specs.Erased.{is_met_above, IsBlockWithin}
use Rattle.pliron_core.proofs.HoldingLemmas.{not_none}
use Rattle.pliron_rewrite_blocks.specs.Cutting.{is_listed, is_in_one_of, cut_op, cut_block, AreCut}
use Rattle.pliron_rewrite_blocks.proofs.CutBlocks.{or_true, listed}
use Rattle.pliron_opt_cfg.specs.Visited.{IsCutOff}
use Rattle.pliron_opt_cfg.specs.Removed.{IsWithout, IsErasedWith, IsBlockErasedWith}
use Rattle.pliron_opt_cfg.proofs.CutOffLemmas.{cut_in, in_cut, block_in}

pub in_cut_block : (t : Tree) → IsTree t → (bs : List ℕ) (c b : ℕ) → In b bs → IsBlockWithin t b c → cut_block t bs c ≡ true
in_cut_block t w bs c b i (inl e) = ap (λ z. if z then true else is_met_above t (is_in_one_of t bs) (block_parent_operation_of t c)) (listed bs c (subst (λ z. In z bs) (sym e) i))
in_cut_block t w bs c b i (inr y) =
    ap (λ o. if is_listed bs c then true else is_met_above t (is_in_one_of t bs) o) y.1 ∙ ap (λ z. if is_listed bs c then true else z) (in_cut t w bs y.0 b i y.2) ∙ or_true (is_listed bs c)

module _ (t v : Tree) (w : IsTree t) (wv : IsTree v) (r : ℕ) (bs : List ℕ) (exact : (b : ℕ) → In b bs ↔ IsCutOff t r b) (cut : AreCut t v r bs) where
  stays_op : (k : ℕ) → (IsErasedWith t (IsCutOff t r) k → ⊥) → cut_op t bs k ≡ false
  stays_op k n = false_from_ne_true _ (λ e. let y = cut_in t w bs k e in n (y.0, (exact y.0).0 y.1, y.2))

  stays_block : (c : ℕ) → (IsBlockErasedWith t (IsCutOff t r) c → ⊥) → cut_block t bs c ≡ false
  stays_block c n = false_from_ne_true _ (λ e. let y = block_in t w bs c e in n (y.0, (exact y.0).0 y.1, y.2))

  goes_block : (c : ℕ) → IsBlockErasedWith t (IsCutOff t r) c → cut_block t bs c ≡ true
  goes_block c y = in_cut_block t w bs c y.0 ((exact y.0).1 y.1) y.2

  pub is_without : IsWithout t v (IsCutOff t r)
  is_without = record {
    deleted = λ k y. cut.deleted k (in_cut t w bs k y.0 ((exact y.0).1 y.1) y.2);
    detached_blocks = λ c y. cut.detached_blocks c (goes_block c y);
    rows = λ k n. cut.rows k (stays_op k n);
    operands = λ k n. cut.operands k (stays_op k n);
    successors = λ k n. cut.successors k (stays_op k n);
    parents = λ k n. cut.parents k (stays_op k n);
    bodies = λ c n. cut.bodies c (stays_block c n);
    arguments = λ c n. cut.arguments c (stays_block c n);
    block_parents = λ c n. cut.block_parents c (stays_block c n);
    layouts = λ q c. (
      λ i.
          let e = wv.layouts.owned c q i in
          let n : IsBlockErasedWith t (IsCutOff t r) c → ⊥ = λ y. not_none (sym (cut.detached_blocks c (goes_block c y)) ∙ e) in
          (w.layouts.listed c q (sym (cut.block_parents c (stays_block c n)) ∙ e), n),
      λ x. wv.layouts.listed c q (cut.block_parents c (stays_block c x.1) ∙ w.layouts.owned c q x.0),
    );
  }
