-- A pair whose second block's arguments have no use: each step of joining may be done, and joins it.
use Rattle.std.proofs.Common.{◌≡◌, ◌≢◌, inl, inr, ⊎_elim, ℕ, Bool, true, false, List, [], ◌∷◌, length, Option, Some, None, is_some, slice_get, refl, sym, ap, ◌∙◌, subst, append-nil, arith}
use Rattle.std.proofs.lemmas.Bool.{false_from_ne_true}
use Rattle.std.proofs.lemmas.List.{length-map}
use Rattle.pliron_core.specs.declared.context.Def.{Def}
use Rattle.pliron_core.specs.declared.context.Def.TheVariants.{Argument, Result}
use Rattle.pliron_core.specs.Tree.{Tree, In, IsLive, IsBlock, IsRegion, IsMadeBy, IsDefinedWithin, IsInside.Directly, head_of, successors_of, operands_of, results_of, regions_of, parent_of, body_of, arguments_of, block_parent_of, block_parent_operation_of, region_parent_of, definition_of}
use Rattle.pliron_core.specs.Invariant.{IsTree}
use Rattle.pliron_core.specs.Erased.{after_erasing, IsSelfContained, IsSelfContainedBlock, IsInOperation, IsBlockWithin, IsDefinedInBlock}
use Rattle.pliron_core.proofs.TreeLemmas.{live-within, block-within}
use Rattle.pliron_core.proofs.NeighbourLemmas.{last_of-In}
use Rattle.pliron_core.proofs.WithinLemmas.{within_is, is_within}
use Rattle.pliron_core.proofs.EdgeLemmas.{operand-user, successor-user}
use Rattle.pliron_core.proofs.ClearedLemmas.{met_above}
use Rattle.pliron_core.proofs.HoldingLemmas.{some_is, not_none, some_of, in_slice, slice_in, holder_by, block_held}
use Rattle.pliron_laws.specs.Datum.{Head, Shape, Meaning}
use Rattle.pliron_laws.specs.Laws.{ForwardsOperands}
use Rattle.pliron_laws.specs.Tree.{shape_of, count_arguments, entry_block}
use Rattle.pliron_laws.specs.Answers.{HeadPasses}
use Rattle.pliron_laws.specs.Linked.{IsAdmitted, IsWellLinked}
use Rattle.pliron_laws.proofs.Records.{operation_of, make_op}
use Rattle.pliron_laws.proofs.ConstantLemmas.{insideless, blockless}
use Rattle.pliron_theory.specs.Sweeping.{IsSwept}
use Rattle.pliron_theory.proofs.SweptLists.{swept_all}
use Rattle.pliron_theory.proofs.ErasedKeeps.{op_erased, block_erased_with, erased_swept, erased_gone}
use Rattle.pliron_theory.proofs.SweptKeeps.{admitted_shape}
use Rattle.pliron_rewrite_blocks.specs.Forwarding.{LeadsAlone}
use Rattle.pliron_rewrite_blocks.specs.Joining.{JoinsWell}
use Rattle.pliron_rewrite_blocks.specs.Pairs.{all_moved_last, after_joining}
use Rattle.pliron_rewrite_blocks.proofs.PairEdges.{leads_alone}
use Rattle.pliron_rewrite_blocks.proofs.JoinedPairs.{joining}
use Rattle.pliron_rewrite_blocks.proofs.MovedBodies.{IsMoving, all_moved}
use Rattle.pliron_opt_cfg.specs.Internal.MergeSteps.{IsReadyToJoin}

no_items : (xs : List ℕ) → length xs ≡ 0 → xs ≡ []
no_items [] e = refl
no_items (x ∷ xs) e = grind arith

-- a branch that the dialect admits has no results and no regions
pub bare_branch : (m : Meaning) (can_fold : Head → Bool) (SameTests : Head → Head → Type 0) (shortened : Shape → ℕ → ℕ → Head) → ForwardsOperands m can_fold SameTests shortened → (t : Tree) (k : ℕ) → IsLive t k → IsAdmitted m t k → HeadPasses m.is_branch t k → (regions_of t k ≡ []) × (results_of t k ≡ [])
unfolding shape_of
bare_branch m can_fold SameTests shortened law t k live admitted branch =
    let h = some_of (head_of t k) live in
    let o = operation_of t k h.0 in
    let alone = law.alone (shape_of m t o) (admitted_shape m t k o (make_op t k h.0 h.1) admitted) (branch h.0 h.1) in
    (no_items (regions_of t k) (sym (length-map (regions_of t k) (λ r. count_arguments (entry_block t r))) ∙ ap length alone.1), no_items (results_of t k) alone.0)

module _ (m : Meaning) (can_fold : Head → Bool) (SameTests : Head → Head → Type 0) (shortened : Shape → ℕ → ℕ → Head) (law : ForwardsOperands m can_fold SameTests shortened) (t : Tree) (a b jump : ℕ) (w : IsTree t) (h : IsReadyToJoin m t a b jump) where
  abbrev t1 : Tree
  t1 = after_erasing t jump

  abbrev t2 : Tree
  t2 = all_moved_last (after_erasing t jump) (body_of t b) a

  in_a : parent_of t jump ≡ Some a
  in_a = w.bodies.owned jump a (last_of-In jump (body_of t a) h.pair.ends)

  pub live : IsLive t jump
  live = (w.joined.all_in_place jump a in_a).0

  held : (r k : ℕ) × (block_parent_of t a ≡ Some r) × IsRegion t r × (region_parent_of t r ≡ Some k) × (block_parent_operation_of t a ≡ Some k) × IsLive t k
  held = block_held t a w.joined (w.joined.all_in_place jump a in_a).1

  linked : IsWellLinked m t held.1
  linked = h.linked held.1 held.5

  leads : (front : List ℕ) × LeadsAlone t a b jump front
  leads = leads_alone m t held.1 a b jump h.values w linked.edges held.5 h.pair

  bare : (regions_of t jump ≡ []) × (results_of t jump ≡ [])
  bare = bare_branch m can_fold SameTests shortened law t jump live (linked.admitted jump (inr (Directly (holder_by t jump a held.1 in_a held.5)))) h.pair.branch

  apart : a ≢ b
  apart e = h.pair.apart (sym e)

  -- nothing stands inside the jump, and it makes nothing
  not_made : (v : ℕ) (d : Option Def) → IsMadeBy t v d → IsDefinedWithin t jump d → ⊥
  not_made v None by i = i
  not_made v (Some (Result k j)) by i = ⊎_elim (λ e. not_none (sym (ap (λ l. slice_get l j) (ap (results_of t) e ∙ bare.1)) ∙ by)) (λ z. insideless t w jump k bare.0 z) i
  not_made v (Some (Argument c j)) by i = blockless t w jump c bare.0 i

  pub contained : IsSelfContained t jump
  contained = record { values = λ x v i y. absurd (not_made v (definition_of t v) (w.joined.operands x v i) y); blocks = λ x c i y. absurd (blockless t w jump c bare.0 y) }

  sw : IsSwept t t1 (λ k. op_erased t jump k) (λ c. block_erased_with t jump c)
  sw = erased_swept t jump w live contained

  alive : (k : ℕ) → k ≢ jump → op_erased t jump k ≡ false
  alive k ne = false_from_ne_true _ (λ e. ⊎_elim (λ s. ne s) (λ i. insideless t w jump k bare.0 i) (within_is t jump k e))

  block_alive : (c : ℕ) → block_erased_with t jump c ≡ false
  block_alive c = false_from_ne_true _ (λ e. blockless t w jump c bare.0 (met_above t jump (block_parent_operation_of t c) e))

  parents1 : (c : ℕ) → block_parent_of t1 c ≡ block_parent_of t c
  parents1 c = sw.block_parents c (block_alive c)

  body1 : body_of t1 b ≡ body_of t b
  body1 = sw.bodies b (block_alive b) ∙ swept_all (λ k. op_erased t jump k) (body_of t b) (λ k i. alive k (λ e. apart (some_is (sym in_a ∙ ap (parent_of t) (sym e) ∙ w.bodies.owned k b i))))

  pub first_stands : IsBlock t1 a
  first_stands = ap is_some (parents1 a ∙ held.2)

  pub second_stands : IsBlock t1 b
  second_stands = ap is_some (parents1 b ∙ leads.1.beside ∙ held.2)

  pub still_beside : block_parent_of t1 b ≡ block_parent_of t1 a
  still_beside = parents1 b ∙ leads.1.beside ∙ sym (parents1 a)

  -- all has moved
  pub moves_from : (s u : Tree) → s ≡ after_erasing t jump → u ≡ all_moved_last s (body_of s b) a → u ≡ all_moved_last (after_erasing t jump) (body_of t b) a
  moves_from s u e f = f ∙ ap (λ (z : Tree). all_moved_last z (body_of z b) a) e ∙ ap (λ l. all_moved_last t1 l a) body1

  module _ (w1 : IsTree t1) (w2 : IsTree t2) where
    left : (x : ℕ) → IsLive t1 x → x ≢ jump
    left x l e = let s = some_of (head_of t1 x) l in not_none (sym ((erased_gone t jump w live contained).operations jump dead) ∙ ap (head_of t1) (sym e) ∙ s.1)
      where
        dead : op_erased t jump jump ≡ true
        dead = is_within t jump jump w.joined live (inl refl)

    moving : IsMoving t1 a b apart (body_of t1 a) t2 (body_of t b) []
    moving = all_moved t1 a b apart (body_of t1 a) (block-within t1 a w1.keys first_stands) (block-within t1 b w1.keys second_stands) t1 [] (body_of t b)
        (record { shape = refl; long = refl; parents_long = refl; at_a = sym (append-nil (body_of t1 a)); at_b = body1; others = λ c na nb. refl; moved = λ k i. absurd i; stays = λ k f. refl })
        (w.bodies.distinct b)
        (λ k i.
        let at = w1.bodies.owned k b (subst (In k) (sym body1) i) in
        (at, (let x = live-within t1 k (w1.joined.all_in_place k b at).0 in let y = w1.keys.parents in omega (arith, x, y)), λ z. z))

    pub second_left : IsBlock t2 b
    second_left = subst (λ (z : Tree). IsBlock z b) (sym moving.shape) second_stands

    -- nothing stands in the second block any more
    empty : (x : ℕ) → IsInOperation t2 b x → ⊥
    empty x s = subst (In s.0) moving.at_b (w2.bodies.listed s.0 b s.1)

    operand : (x v : ℕ) → In v (operands_of t2 x) → In v (operands_of t x)
    operand x v i =
        let i1 : In v (operands_of t1 x) = subst (λ (z : Tree). In v (operands_of z x)) moving.shape i in
        subst (In v) (sw.operands x (alive x (left x (user t1 w1 x v i1)))) i1
      where
        user : (u : Tree) → IsTree u → (k v : ℕ) → In v (operands_of u k) → IsLive u k
        user u wu k v i = let y = slice_in (operands_of u k) v i in operand-user u wu.joined k y.0 v y.1

    target : (x c : ℕ) → In c (successors_of t2 x) → In c (successors_of t x) × (x ≢ jump)
    target x c i =
        let i1 : In c (successors_of t1 x) = subst (λ (z : Tree). In c (successors_of z x)) moving.shape i in
        let y = slice_in (successors_of t1 x) c i1 in
        let ne = left x (successor-user t1 w1.joined x y.0 c y.1) in
        (subst (In c) (sw.successors x (alive x ne)) i1, ne)

    arguments2 : arguments_of t2 b ≡ arguments_of t b
    arguments2 = ap (λ (z : Tree). arguments_of z b) moving.shape ∙ sw.arguments b (block_alive b)

    value : (x v : ℕ) (d : Option Def) → IsMadeBy t2 v d → In v (operands_of t2 x) → IsDefinedInBlock t2 b d → ⊥
    value x v None by i z = z
    value x v (Some (Result k j)) by i z = empty k z
    value x v (Some (Argument c j)) by i (inl e) = h.unused x v (operand x v i) (subst (In v) arguments2 (in_slice (arguments_of t2 b) j v (ap (λ q. slice_get (arguments_of t2 q) j) (sym e) ∙ by)))
    value x v (Some (Argument c j)) by i (inr z) = empty z.0 z.2

    block : (x c : ℕ) → In c (successors_of t2 x) → IsBlockWithin t2 b c → ⊥
    block x c i (inl e) = let y = target x c i in y.1 (leads.1.only x (subst (λ z. In z (successors_of t x)) e y.0))
    block x c i (inr z) = empty z.0 z.2

    pub contained_block : IsSelfContainedBlock t2 b
    contained_block = record { values = λ x v i y. absurd (value x v (definition_of t2 v) (w2.joined.operands x v i) i y); blocks = λ x c i y. absurd (block x c i y) }

    pub joins : IsTree (after_joining t a b jump) → JoinsWell m t a b jump
    joins w3 = joining m can_fold SameTests shortened law t held.1 a b jump h.values w w1 w2 w3 linked.edges held.5 h.pair bare.0 bare.1 h.unused
