-- The blocks that the entry of a region does not reach may go.
use Rattle.std.proofs.Common.{◌≡◌, ◌↔◌, ◌⊎◌, inl, inr, ⊎_elim, ℕ, true, List, [], ◌∷◌, ◌++◌, Option, Some, None, Contains, refl, sym, subst, length}
use Rattle.pliron_core.specs.declared.context.Def.{Def}
use Rattle.pliron_core.specs.declared.context.Def.TheVariants.{Result, Argument}
use Rattle.pliron_core.specs.Tree.{Tree, In, operands_of, block_parent_of, layout_of, definition_of}
use Rattle.pliron_core.specs.Invariant.{IsTree}
use Rattle.pliron_core.specs.Edges.{succs_of}
use Rattle.pliron_core.specs.Erased.{IsInOperation, IsBlockWithin, IsDefinedInBlock}
use Rattle.pliron_core.proofs.TreeLemmas.{live-within}
use Rattle.pliron_core.proofs.WithinLemmas.{within_met, met_within}
use Rattle.pliron_theory.specs.Sweeping.{is_maker_dead}
use Rattle.pliron_graph_traversal.specs.Digraph.{IsPath, Digraph}
use Rattle.pliron_graph_traversal.specs.Regions.{graph_of_region}
use Rattle.pliron_graph_traversal.specs.Internal.RegionLawful.{keys_have}
use Rattle.pliron_rewrite_blocks.specs.Cutting.{is_in_one_of, cut_op, cut_block}
use Rattle.pliron_rewrite_blocks.specs.Leaving.{BlocksMayGo}
use Rattle.pliron_rewrite_blocks.proofs.CutBlocks.{block_cases, stands_one, one_stands}
use Rattle.pliron_opt_cfg.specs.Visited.{IsReachedIn, IsCutOff}
use Rattle.pliron_opt_cfg.specs.Removed.{HasLiveUse}
use Rattle.pliron_opt_cfg.specs.Internal.OtherUses.{HaveNoOtherUse, HaveOtherUse}

pub path_more : {N : Type 0} (g : Digraph N) (u : N) (ws : List N) (v x : N) → IsPath g u ws v → Contains (g.succ v) x → IsPath g u (ws ++ x ∷ []) x
path_more g u [] v x p s = (subst (λ z. Contains (g.succ z) x) (sym p) s, refl)
path_more g u (y ∷ ys) v x p s = (p.0, path_more g y ys v x p.1 s)

pub reached_on : (t : Tree) (r b d : ℕ) → IsReachedIn t r b → In d (succs_of t b) → IsReachedIn t r d
reached_on t r b d x s = (x.0, x.1, (x.2.0 ++ d ∷ [], path_more (graph_of_region t r) x.0 x.2.0 b d x.2.1 (keys_have (succs_of t b) d s)))

module _ (t : Tree) (w : IsTree t) (bs : List ℕ) where
  pub cut_in : (k : ℕ) → cut_op t bs k ≡ true → (b : ℕ) × In b bs × IsInOperation t b k
  cut_in k e =
      let y = met_within t (is_in_one_of t bs) (length t.operations) k e in
      let b = one_stands t bs y.0 y.1 in
      (b.0, b.1, (y.0, b.2, y.2))

  pub in_cut : (k b : ℕ) → In b bs → IsInOperation t b k → cut_op t bs k ≡ true
  in_cut k b i s = within_met t (is_in_one_of t bs) w.joined s.0 k (live-within t s.0 (w.joined.all_in_place s.0 b s.1).0) (stands_one t bs b s.0 i s.1) s.2

  pub block_in : (c : ℕ) → cut_block t bs c ≡ true → (b : ℕ) × In b bs × IsBlockWithin t b c
  block_in c e = ⊎_elim (λ i. (c, i, inl refl)) (λ y. let b = cut_in y.0 y.2 in (b.0, b.1, inr (y.0, y.1, b.2))) (block_cases t bs c e)

  made_in : (o : Option Def) → is_maker_dead (λ j. cut_op t bs j) (λ c. cut_block t bs c) o ≡ true → (b : ℕ) × In b bs × IsDefinedInBlock t b o
  made_in None e = absurd (cc)
  made_in (Some (Result k i)) e = cut_in k e
  made_in (Some (Argument c i)) e = block_in c e

  pub unused_by : HaveNoOtherUse t bs → (k x : ℕ) → In x (operands_of t k) → is_maker_dead (λ j. cut_op t bs j) (λ c. cut_block t bs c) (definition_of t x) ≡ true → cut_op t bs k ≡ true
  unused_by none k x i e = let b = made_in (definition_of t x) e in let c = none k x b.0 i b.1 b.2 in in_cut k c.0 c.1 c.2

module _ (t : Tree) (w : IsTree t) (r : ℕ) (bs keys : List ℕ) (left : (b : ℕ) → In b bs ↔ (In b (layout_of t r) × (In b keys → ⊥))) (reached : (b : ℕ) → block_parent_of t b ≡ Some r → (In b keys ↔ IsReachedIn t r b)) (decide : (b : ℕ) → In b keys ⊎ (In b keys → ⊥)) where
  pub exact : (b : ℕ) → In b bs ↔ IsCutOff t r b
  exact b = (
    λ i. let m = (left b).0 i in let p = w.layouts.owned b r m.0 in (p, λ x. m.1 ((reached b p).1 x)),
    λ c. (left b).1 (w.layouts.listed b r c.0, λ k. c.1 ((reached b c.0).0 k)),
  )

  pub may_go : HaveNoOtherUse t bs → BlocksMayGo t r bs
  may_go none = record {
    own = λ b i. ((exact b).0 i).0;
    no_entry = λ b e i. ((exact b).0 i).1 (b, e, ([], refl));
    closed = λ c d p n s i. ⊎_elim
        (λ k. ((exact d).0 i).1 (reached_on t r c d ((reached c p).0 k) s))
        (λ k. n ((left c).1 (w.layouts.listed c r p, k)))
        (decide c);
    unused = unused_by t w bs none;
  }

  pub live_use : HaveOtherUse t bs → HasLiveUse t r
  live_use h = record {
    block = h.block;
    cut_off = (exact h.block).0 h.among;
    value = h.value;
    made = h.made;
    user = h.user;
    names = h.names;
    outside = λ c k s. h.outside c ((exact c).1 k) s;
  }
