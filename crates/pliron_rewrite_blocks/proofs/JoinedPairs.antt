-- Joining a pair.
use Rattle.std.proofs.Common.{◌≡◌, ◌≢◌, ◌⊎◌, inl, inr, ⊎_elim, ℕ, ◌<◌, ◌≤◌, Bool, true, false, true≢false, if◌then◌else◌, List, [], ◌∷◌, length, Option, Some, None, is_some, slice_get, refl, sym, ap, ◌∙◌, subst, append-nil, arith}
use Rattle.std.proofs.lemmas.Bool.{false_from_ne_true}
use Rattle.std.proofs.lemmas.List.{get_or_past}
use Rattle.pliron_core.specs.declared.context.Def.{Def}
use Rattle.pliron_core.specs.declared.context.Def.TheVariants.{Result, Argument}
use Rattle.pliron_core.specs.Lists.{IsDistinct, without}
use Rattle.pliron_core.specs.Tree.{Tree, In, IsLive, IsInside, IsInside.Directly, IsInside.Deeper, IsWithin, IsDefinedWithin, IsMadeBy, row_of, head_of, operands_of, successors_of, results_of, regions_of, parent_of, body_of, arguments_of, block_parent_of, layout_of, block_parent_operation_of, definition_of}
use Rattle.pliron_core.specs.Invariant.{IsTree}
use Rattle.pliron_core.specs.Erased.{is_met_above, after_erasing, IsSelfContained}
use Rattle.pliron_core.proofs.TreeLemmas.{live-within}
use Rattle.pliron_core.proofs.EditLemmas.{In-without_other, In-without_exactly}
use Rattle.pliron_core.proofs.ListLemmas.{distinct-apart}
use Rattle.pliron_core.proofs.NeighbourLemmas.{last_of-In}
use Rattle.pliron_core.proofs.LastLemmas.{without_rising}
use Rattle.pliron_core.proofs.WithinLemmas.{is_within, within_is, met_within}
use Rattle.pliron_core.proofs.ClearedLemmas.{met_above}
use Rattle.pliron_core.proofs.HoldingLemmas.{some_is, not_none, some_of, slot_is, region_parent_is, block_held, held_block, holder_is}
use Rattle.pliron_laws.specs.Datum.{Head, Shape, Meaning}
use Rattle.pliron_laws.specs.Laws.{ForwardsOperands}
use Rattle.pliron_laws.specs.Linked.{EdgesLast}
use Rattle.pliron_theory.specs.Keeps.{with_roots}
use Rattle.pliron_theory.proofs.ChosenRoots.{forwards_operands as chosen_forwards}
use Rattle.pliron_theory.specs.Sweeping.{swept, IsSwept}
use Rattle.pliron_theory.specs.Splicing.{IsSpliced}
use Rattle.pliron_theory.proofs.SweptLists.{swept_all}
use Rattle.pliron_theory.proofs.ErasedKeeps.{op_erased, block_erased_with, erased_swept, erased_gone, as_many}
use Rattle.pliron_theory.proofs.JumpsNow.{jumps_now}
use Rattle.pliron_theory.proofs.SplicedStays.{spliced_keeps}
use Rattle.pliron_rewrite_blocks.specs.Forwarding.{LeadsAlone}
use Rattle.pliron_rewrite_blocks.specs.Pairs.{IsMergeable, all_moved_last, after_joining}
use Rattle.pliron_rewrite_blocks.proofs.PairEdges.{leads_alone}
use Rattle.pliron_rewrite_blocks.specs.Cutting.{is_listed, is_in_one_of, cut_op, cut_block, ErasesAll.Done, ErasesAll.Then, AreCut}
use Rattle.pliron_rewrite_blocks.proofs.CutBlocks.{nothing_met, listed, is_listed_in, one_stands, cut_all}
use Rattle.pliron_laws.proofs.RisingLemmas.{rising_same}
use Rattle.pliron_rewrite_blocks.proofs.ListLemmas.{swept_end}
use Rattle.pliron_rewrite_blocks.specs.Joining.{JoinsWell, JoiningLaw}
use Rattle.pliron_rewrite_blocks.proofs.MovedBodies.{IsMoving, all_moved}

block_in : (t : Tree) → IsTree t → (c r : ℕ) → block_parent_of t c ≡ Some r → c < length t.bodies
block_in t w c r e = go (cases c (length t.block_parents))
  where
    cases : (x n : ℕ) → (x < n) ⊎ (n ≤ x)
    cases x n = grind arith

    go : (c < length t.block_parents) ⊎ (length t.block_parents ≤ c) → c < length t.bodies
    go (inl lt) = let k = w.keys.block_parents in omega (arith, lt, k)
    go (inr le) = absurd (not_none (sym (get_or_past t.block_parents c None le) ∙ e))

module _ (m : Meaning) (can_fold : Head → Bool) (SameTests : Head → Head → Type 0) (shortened : Shape → ℕ → ℕ → Head) (law : ForwardsOperands m can_fold SameTests shortened) (t : Tree) (holder a b jump : ℕ) (values : List ℕ) (w : IsTree t) (w1 : IsTree (after_erasing t jump)) (w2 : IsTree (all_moved_last (after_erasing t jump) (body_of t b) a)) (w3 : IsTree (after_joining t a b jump)) (edges : EdgesLast t holder) (held : block_parent_operation_of t a ≡ Some holder) (h : IsMergeable m t a b jump values) (childless : regions_of t jump ≡ []) (no_results : results_of t jump ≡ []) (unused : (k v : ℕ) → In v (operands_of t k) → In v (arguments_of t b) → ⊥) where
  abbrev t1 : Tree
  t1 = after_erasing t jump

  abbrev t2 : Tree
  t2 = all_moved_last (after_erasing t jump) (body_of t b) a

  abbrev t3 : Tree
  t3 = after_joining t a b jump

  leads : (front : List ℕ) × LeadsAlone t a b jump front
  leads = leads_alone m t holder a b jump values w edges held h

  in_a : parent_of t jump ≡ Some a
  in_a = w.bodies.owned jump a (last_of-In jump (body_of t a) h.ends)

  live : IsLive t jump
  live = (w.joined.all_in_place jump a in_a).0

  apart : a ≢ b
  apart e = h.apart (sym e)

  -- nothing stands inside the jump, and it makes nothing
  no_block : (c : ℕ) → block_parent_operation_of t c ≡ Some jump → ⊥
  no_block c e =
      let x = block_held t c w.joined (held_block t c jump e) in
      let s = slot_is t x.0 x.3 in
      let same : s.0.op ≡ jump = some_is (sym (region_parent_is t x.0 s.0 s.1) ∙ x.4 ∙ sym x.5 ∙ e) in
      not_none (sym (ap (λ l. slice_get l s.0.index) (ap (regions_of t) same ∙ childless)) ∙ s.2)

  nothing_inside : (x : ℕ) → IsInside t jump x → ⊥
  nothing_inside x (Directly e) = let y = holder_is t x jump e in no_block y.0 y.2
  nothing_inside x (Deeper q e i) = nothing_inside q i

  not_held : (c : ℕ) → (k : ℕ) × (block_parent_operation_of t c ≡ Some k) × IsWithin t jump k → ⊥
  not_held c y = ⊎_elim (λ e. no_block c (y.1 ∙ ap Some e)) (λ i. nothing_inside y.0 i) y.2

  not_made : (v : ℕ) (d : Option Def) → IsMadeBy t v d → IsDefinedWithin t jump d → ⊥
  not_made v None by i = i
  not_made v (Some (Result k j)) by i = ⊎_elim (λ e. not_none (sym (ap (λ l. slice_get l j) (ap (results_of t) e ∙ no_results)) ∙ by)) (λ z. nothing_inside k z) i
  not_made v (Some (Argument c j)) by i = not_held c i

  contained : IsSelfContained t jump
  contained = record { values = λ x v i y. absurd (not_made v (definition_of t v) (w.joined.operands x v i) y); blocks = λ x c i y. absurd (not_held c y) }

  sw : IsSwept t t1 (λ k. op_erased t jump k) (λ c. block_erased_with t jump c)
  sw = erased_swept t jump w live contained

  alive : (k : ℕ) → k ≢ jump → op_erased t jump k ≡ false
  alive k ne = false_from_ne_true _ (λ e. ⊎_elim (λ s. ne s) (λ i. nothing_inside k i) (within_is t jump k e))

  block_alive : (c : ℕ) → block_erased_with t jump c ≡ false
  block_alive c = false_from_ne_true _ (λ e. not_held c (met_above t jump (block_parent_operation_of t c) e))

  jump_dead : op_erased t jump jump ≡ true
  jump_dead = is_within t jump jump w.joined live (inl refl)

  not_in : (c : ℕ) → c ≢ a → (k : ℕ) → In k (body_of t c) → k ≢ jump
  not_in c ne k i e = ne (some_is (sym (w.bodies.owned k c i) ∙ ap (parent_of t) e ∙ in_a))

  body1 : (c : ℕ) → c ≢ a → body_of t1 c ≡ body_of t c
  body1 c ne = sw.bodies c (block_alive c) ∙ swept_all (λ k. op_erased t jump k) (body_of t c) (λ k i. alive k (not_in c ne k i))

  body1_a : body_of t1 a ≡ leads.0
  body1_a = sw.bodies a (block_alive a) ∙ ap (swept (λ k. op_erased t jump k)) leads.1.split ∙ swept_end (λ k. op_erased t jump k) leads.0 jump jump_dead (λ k i. alive k (λ e. distinct-apart leads.0 (jump ∷ []) (subst IsDistinct leads.1.split (w.bodies.distinct a)) k i (inl e)))

  -- the region of the two blocks
  home : (r : ℕ) × (block_parent_of t b ≡ Some r)
  home = some_of (block_parent_of t b) (w.joined.successors jump b (subst (In b) (sym leads.1.goes) (inl refl)))

  home1 : block_parent_of t1 b ≡ Some home.0
  home1 = sw.block_parents b (block_alive b) ∙ home.1

  home1_a : block_parent_of t1 a ≡ Some home.0
  home1_a = sw.block_parents a (block_alive a) ∙ sym leads.1.beside ∙ home.1

  in_b1 : (k : ℕ) → In k (body_of t b) → parent_of t1 k ≡ Some b
  in_b1 k i = sw.parents k (alive k (not_in b (λ e. apart (sym e)) k i)) ∙ w.bodies.owned k b i

  moving : IsMoving t1 a b apart leads.0 t2 (body_of t b) []
  moving = all_moved t1 a b apart leads.0 (block_in t1 w1 a home.0 home1_a) (block_in t1 w1 b home.0 home1) t1 [] (body_of t b)
      (record { shape = refl; long = refl; parents_long = refl; at_a = body1_a ∙ sym (append-nil leads.0); at_b = body1 b (λ e. apart (sym e)); others = λ c na nb. refl; moved = λ k i. absurd i; stays = λ k f. refl })
      (w.bodies.distinct b)
      (λ k i. (in_b1 k i, (let x = live-within t1 k (w1.joined.all_in_place k b (in_b1 k i)).0 in let y = w1.keys.parents in omega (arith, x, y)), λ z. z))

  home2 : block_parent_of t2 b ≡ Some home.0
  home2 = ap (λ (z : Tree). block_parent_of z b) moving.shape ∙ home1

  cut : AreCut t2 t3 home.0 (b ∷ [])
  cut = cut_all t2 t3 home.0 (b ∷ []) w2 (λ c i. ap (block_parent_of t2) (one c i) ∙ home2) (Then b [] (ap is_some home2) w3 Done)
    where
      one : (c : ℕ) → In c (b ∷ []) → c ≡ b
      one c i = ⊎_elim (λ e. e) (λ z. absurd z) i

  -- nothing stands in b any more
  kept : (k : ℕ) → cut_op t2 (b ∷ []) k ≡ false
  kept k = false_from_ne_true _ (λ e.
      let y = met_within t2 (is_in_one_of t2 (b ∷ [])) (length t2.operations) k e in
      let c = one_stands t2 (b ∷ []) y.0 y.1 in
      let same : c.0 ≡ b = ⊎_elim (λ s. s) (λ z. absurd z) c.1 in
      subst (In y.0) moving.at_b (w2.bodies.listed y.0 b (c.2 ∙ ap Some same)))

  block_kept : (c : ℕ) → c ≢ b → cut_block t2 (b ∷ []) c ≡ false
  block_kept c ne = false_from_ne_true _ (λ e. go (is_listed (b ∷ []) c) refl (block_parent_operation_of t2 c) e)
    where
      go : (z : Bool) → is_listed (b ∷ []) c ≡ z → (o : Option ℕ) → (if z then true else is_met_above t2 (is_in_one_of t2 (b ∷ [])) o) ≡ true → ⊥
      go true l o f = ⊎_elim (λ s. ne s) (λ z. z) (is_listed_in (b ∷ []) c l)
      go false l None f = true≢false (sym f ∙ nothing_met t2 (is_in_one_of t2 (b ∷ [])))
      go false l (Some q) f = true≢false (sym f ∙ kept q)

  block_parents : (c : ℕ) → c ≢ b → block_parent_of t3 c ≡ block_parent_of t c
  block_parents c ne = cut.block_parents c (block_kept c ne) ∙ ap (λ (z : Tree). block_parent_of z c) moving.shape ∙ sw.block_parents c (block_alive c)

  detached_block : block_parent_of t3 b ≡ None
  detached_block = cut.detached_blocks b (ap (λ z. if z then true else is_met_above t2 (is_in_one_of t2 (b ∷ [])) (block_parent_operation_of t2 b)) (listed (b ∷ []) b (inl refl)))

  layouts : (r : ℕ) → layout_of t3 r ≡ without b (layout_of t r)
  layouts r = rising_same (layout_of t3 r) (without b (layout_of t r)) (w3.joined.ordered r) (without_rising b (layout_of t r) (w.joined.ordered r)) forth back
    where
      forth : (c : ℕ) → In c (layout_of t3 r) → In c (without b (layout_of t r))
      forth c i =
          let e = w3.layouts.owned c r i in
          let ne : c ≢ b = λ s. not_none (sym detached_block ∙ ap (block_parent_of t3) (sym s) ∙ e) in
          In-without_other c b (layout_of t r) (w.layouts.listed c r (sym (block_parents c ne) ∙ e)) ne

      back : (c : ℕ) → In c (without b (layout_of t r)) → In c (layout_of t3 r)
      back c i =
          let y = (In-without_exactly c b (layout_of t r) (w.layouts.distinct r)).0 i in
          w3.layouts.listed c r (block_parents c y.0 ∙ w.layouts.owned c r y.1)

  rows : (k : ℕ) → k ≢ jump → row_of t3 k ≡ row_of t k
  rows k ne = cut.rows k (kept k) ∙ ap (λ (z : Tree). row_of z k) moving.shape ∙ sw.rows k (alive k ne)

  spliced : IsSpliced t t3 a b jump leads.0
  spliced = record {
    apart = apart;
    split = leads.1.split;
    goes = leads.1.goes;
    beside = leads.1.beside;
    childless = childless;
    no_results = no_results;
    only = leads.1.only;
    no_entry = leads.1.no_entry;
    unused = unused;
    joined = cut.bodies a (block_kept a apart) ∙ moving.at_a;
    bodies = λ c na nb. cut.bodies c (block_kept c nb) ∙ moving.others c na nb ∙ body1 c na;
    arguments = λ c ne. cut.arguments c (block_kept c ne) ∙ ap (λ (z : Tree). arguments_of z c) moving.shape ∙ sw.arguments c (block_alive c);
    block_parents = block_parents;
    rows = rows;
    operands = λ k ne. cut.operands k (kept k) ∙ ap (λ (z : Tree). operands_of z k) moving.shape ∙ sw.operands k (alive k ne);
    successors = λ k ne. cut.successors k (kept k) ∙ ap (λ (z : Tree). successors_of z k) moving.shape ∙ sw.successors k (alive k ne);
    moved = λ k e. cut.parents k (kept k) ∙ moving.moved k (w.bodies.listed k b e);
    parents = λ k ne nb. cut.parents k (kept k) ∙ moving.stays k (λ i. nb (w.bodies.owned k b i)) ∙ sw.parents k (alive k ne);
    layouts = layouts;
    deleted = ap (λ z. z.head) (cut.rows jump (kept jump)) ∙ ap (λ (z : Tree). head_of z jump) moving.shape ∙ (erased_gone t jump w live contained).operations jump jump_dead;
    detached_block = detached_block;
  }

  same_length : length t3.operations ≡ length t.operations
  same_length = cut.count ∙ ap (λ (z : Tree). length z.operations) moving.shape ∙ as_many t jump w live contained (parent_of t jump) refl

  pub joins_well : JoinsWell m t a b jump
  joins_well = record {
    front = leads.0;
    spliced = spliced;
    runs = λ chosen. spliced_keeps (with_roots m chosen) t t3 a b jump leads.0 w w3 spliced (let n = same_length in omega (arith, n)) (λ root f inside. jumps_now (with_roots m chosen) can_fold SameTests shortened (chosen_forwards m chosen can_fold SameTests shortened law) t root jump b f inside h.branch leads.1.goes);
  }

pub joining : (m : Meaning) (can_fold : Head → Bool) (SameTests : Head → Head → Type 0) (shortened : Shape → ℕ → ℕ → Head) → ForwardsOperands m can_fold SameTests shortened → JoiningLaw m
joining m can_fold SameTests shortened law t holder a b jump values w w1 w2 w3 edges held h childless no_results unused = joins_well m can_fold SameTests shortened law t holder a b jump values w w1 w2 w3 edges held h childless no_results unused
