-- What a merge leaves.
use Rattle.std.proofs.Common.{◌≡◌, ◌≢◌, ℕ, ◌<◌, Bool, List, length, Some, is_some, refl, sym, ap, ◌∙◌, subst, arith}
use Rattle.pliron_core.specs.Tree.{Tree, In, without, IsLive, IsBlock, IsRegion, head_of, layout_of, arguments_of, body_of, block_parent_of, block_parent_operation_of, region_parent_of}
use Rattle.pliron_core.specs.Invariant.{IsTree}
use Rattle.pliron_core.proofs.NeighbourLemmas.{last_of-In}
use Rattle.pliron_core.proofs.HoldingLemmas.{some_is, not_none, some_of, block_held}
use Rattle.pliron_core.proofs.EditLemmas.{length-without}
use Rattle.pliron_core.proofs.InsideLemmas.{inside_trans}
use Rattle.pliron_core.specs.Changes.{IsInsideChange}
use Rattle.pliron_laws.specs.Datum.{Head, Shape, Meaning}
use Rattle.pliron_laws.specs.Laws.{ForwardsOperands}
use Rattle.pliron_laws.specs.Linked.{IsWellLinked}
use Rattle.pliron_theory.specs.Keeps.{KeepsAllRuns}
use Rattle.pliron_theory.proofs.WholeChanges.{all_trans}
use Rattle.pliron_rewrite_blocks.specs.Links.{KeepsLinks}
use Rattle.pliron_rewrite_blocks.specs.Joining.{JoinsWell}
use Rattle.pliron_rewrite_blocks.specs.Pairs.{IsMergeable, forwarded_uses, after_block_merging}
use Rattle.pliron_rewrite_blocks.proofs.StandingLemmas.{block_was}
use Rattle.pliron_rewrite_blocks.proofs.NoNewPairs.{no_new_pair}
use Rattle.pliron_rewrite_blocks.proofs.JoinedLinks.{joined_links, joined_inside}
use Rattle.pliron_opt_cfg.specs.Internal.MergeSteps.{IsReadyToJoin}
use Rattle.pliron_opt_cfg.proofs.Forwarded.{IsForwarded, forwarded_all}
use Rattle.pliron_opt_cfg.proofs.JoinLemmas.{forwarded_arguments, forwarded_shape}

-- the first block of a pair is held
pub first_held : (m : Meaning) (t : Tree) → IsTree t → (a b jump : ℕ) (values : List ℕ) → IsMergeable m t a b jump values → (r k : ℕ) × (block_parent_of t a ≡ Some r) × IsRegion t r × (region_parent_of t r ≡ Some k) × (block_parent_operation_of t a ≡ Some k) × IsLive t k
first_held m t w a b jump values h = block_held t a w.joined (w.joined.all_in_place jump a (w.bodies.owned jump a (last_of-In jump (body_of t a) h.ends))).1

-- what merging b into a leaves
pub record IsMerge (m : Meaning) (t v : Tree) (a b : ℕ) : Type 0 where
  pub tree : IsTree v
  pub runs : KeepsAllRuns m t v
  pub links : KeepsLinks m t v
  pub inside : (holder : ℕ) → block_parent_operation_of t a ≡ Some holder → IsInsideChange t v holder
  pub blocks : (c k : ℕ) → block_parent_operation_of v c ≡ Some k → block_parent_operation_of t c ≡ Some k
  pub before : (c d j : ℕ) (others : List ℕ) → c ≢ a → block_parent_of v d ≡ block_parent_of v c → IsMergeable m v c d j others → (vs : List ℕ) × IsMergeable m t c d j vs
  pub first : block_parent_of v a ≡ block_parent_of t a
  pub region : ℕ
  pub in_region : block_parent_of t a ≡ Some region
  pub shorter : length (layout_of v region) < length (layout_of t region)

module _ (m : Meaning) (can_fold : Head → Bool) (SameTests : Head → Head → Type 0) (shortened : Shape → ℕ → ℕ → Head) (law : ForwardsOperands m can_fold SameTests shortened) (a b jump : ℕ) (values : List ℕ) (t : Tree) (w : IsTree t) (h : IsMergeable m t a b jump values) (linked : (holder : ℕ) → block_parent_operation_of t a ≡ Some holder → IsWellLinked m t holder) where
  pub ready : IsReadyToJoin m (forwarded_uses t (arguments_of t b) values) a b jump
  ready =
      let x = first_held m t w a b jump values h in
      let f = forwarded_all m can_fold SameTests shortened law x.1 a b jump values t w (linked x.1 x.5) x.5 h in
      record {
        values = values;
        pair = f.pair;
        linked = λ holder e. subst (IsWellLinked m (forwarded_uses t (arguments_of t b) values)) (some_is (sym f.held ∙ e)) (f.links x.1 (linked x.1 x.5));
        unused = λ k v i j. f.unused v (subst (In v) (forwarded_arguments t (forwarded_uses t (arguments_of t b) values) (arguments_of t b) values b refl) j) k i;
      }

  -- the whole merge
  module _ (well : JoinsWell m (forwarded_uses t (arguments_of t b) values) a b jump) (wv : IsTree (after_block_merging t a b jump values)) where
    abbrev u : Tree
    u = forwarded_uses t (arguments_of t b) values

    abbrev v : Tree
    v = after_block_merging t a b jump values

    held : (r k : ℕ) × (block_parent_of t a ≡ Some r) × IsRegion t r × (region_parent_of t r ≡ Some k) × (block_parent_operation_of t a ≡ Some k) × IsLive t k
    held = first_held m t w a b jump values h

    f : IsForwarded m t (forwarded_uses t (arguments_of t b) values) held.1 a b jump values (arguments_of t b)
    f = forwarded_all m can_fold SameTests shortened law held.1 a b jump values t w (linked held.1 held.5) held.5 h

    shape : u ≡ record t { operands = u.operands }
    shape = forwarded_shape t (arguments_of t b) values

    op_left : (k : ℕ) → IsLive v k → k ≢ jump
    op_left k live e = let x = some_of (head_of v k) live in not_none (sym well.spliced.deleted ∙ ap (head_of v) (sym e) ∙ x.1)

    block_left : (c : ℕ) → IsBlock v c → c ≢ b
    block_left c is e = let x = some_of (block_parent_of v c) is in not_none (sym well.spliced.detached_block ∙ ap (block_parent_of v) (sym e) ∙ x.1)

    block_was_there : (c k : ℕ) → block_parent_operation_of v c ≡ Some k → block_parent_operation_of t c ≡ Some k
    block_was_there c k e =
        let x = block_was u v f.tree wv (λ j live. ap (λ z. z.regions) (well.spliced.rows j (op_left j live))) (λ d is. well.spliced.block_parents d (block_left d is)) c k e in
        subst (λ (z : Tree). block_parent_operation_of z c ≡ Some k) shape x

    parent_was : (c : ℕ) → c ≢ b → block_parent_of v c ≡ block_parent_of t c
    parent_was c ne = well.spliced.block_parents c ne ∙ ap (λ (z : Tree). block_parent_of z c) shape

    before : (c d j : ℕ) (others : List ℕ) → c ≢ a → block_parent_of v d ≡ block_parent_of v c → IsMergeable m v c d j others → (vs : List ℕ) × IsMergeable m t c d j vs
    before c d j others ne beside q =
        let is = (first_held m v wv c d j others q).2 in
        let c_left = block_left c (ap is_some is) in
        let d_left = block_left d (ap is_some (beside ∙ is)) in
        f.back c d j others ne (sym (parent_was d d_left) ∙ beside ∙ parent_was c c_left) (no_new_pair m u v a b jump c d j well.front others f.tree wv well.spliced ne beside q)

    second_listed : In b (layout_of t held.0)
    second_listed = w.layouts.listed b held.0 (ap (λ (z : Tree). block_parent_of z b) (sym shape) ∙ well.spliced.beside ∙ ap (λ (z : Tree). block_parent_of z a) shape ∙ held.2)

    pub merges : IsMerge m t v a b
    merges = record {
      tree = wv;
      runs = all_trans m t u v f.runs well.runs;
      links = λ root l. joined_links m u v a b jump well.front f.tree wv well.spliced root (f.links root l);
      inside = λ holder e. subst (IsInsideChange t v) (some_is (sym held.5 ∙ e)) (inside_trans t u v held.1 f.inside (joined_inside u v held.1 a b jump well.front f.tree wv f.held well.spliced));
      blocks = block_was_there;
      before = before;
      first = parent_was a (λ e. h.apart (sym e));
      region = held.0;
      in_region = held.2;
      shorter =
          let l = ap length (well.spliced.layouts held.0 ∙ ap (λ (z : Tree). without b (layout_of z held.0)) shape) in
          let n = length-without b (layout_of t held.0) second_listed in
          omega (arith, l, n);
    }
