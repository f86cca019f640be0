-- While things go, the edges to a block keep their order, and what leads to it stays.
use Rattle.std.proofs.Common.{◌≡◌, ◌≢◌, inl, inr, ⊎_elim, ℕ, ◌<◌, ◌≤◌, Bool, false, List, [], length, Option, Some, None, IsTrue, slice_get, slice_index_or, remove, refl, sym, ap, ◌∙◌, subst}
use Rattle.std.proofs.lemmas.Bool.{cases_eq}
use Rattle.pliron_core.specs.declared.uses.Use.{Use as Edge}
use Rattle.pliron_core.specs.declared.context.Def.TheVariants.{Argument}
use Rattle.pliron_core.specs.Tree.{Tree, In, IsLive, IsInside, HoldsBlock, head_of, successors_of, parent_operation_of, block_parent_operation_of, op_of_slot, region_parent_of, block_parent_of, arguments_of, parent_of, up_from}
use Rattle.pliron_core.specs.Invariant.{IsTree}
use Rattle.pliron_core.specs.Writes.{argument_removed}
use Rattle.pliron_core.specs.Erased.{after_erasing}
use Rattle.pliron_core.proofs.ListLemmas.{decide_in}
use Rattle.pliron_core.proofs.HoldingLemmas.{some_is, some_of, in_slice, within_alike, inside_block}
use Rattle.pliron_laws.specs.Datum.{Head, Shape, Meaning}
use Rattle.pliron_laws.specs.Tree.{Operation, op_at, shape_of}
use Rattle.pliron_laws.specs.Laws.{KeepsCounts, GivesAtOnce, ForwardsOperands}
use Rattle.pliron_laws.specs.Linked.{IsWellLinked}
use Rattle.pliron_laws.specs.Answers.{HeadPasses}
use Rattle.pliron_laws.proofs.Records.{op_shows, operation_of, make_op}
use Rattle.pliron_laws.proofs.ShapeLemmas.{shape_head}
use Rattle.pliron_theory.specs.Dropping.{AreEdgesTo, EdgesLose}
use Rattle.pliron_theory.specs.Sweeping.{IsSwept, AreAway}
use Rattle.pliron_theory.proofs.SweptKeeps.{admitted_shape}
use Rattle.pliron_theory.proofs.ShortenedBranches.{SameFrame, childless, op_kept}
use Rattle.pliron_theory.proofs.ErasedKeeps.{op_erased, block_erased_with, erased_swept, erased_gone}
use Rattle.pliron_theory.proofs.SweptParts.{gone_away, block_place_back, within_back, jumper_lives}
use Rattle.pliron_theory.proofs.SweptRecords.{op_same, shape_swept}
use Rattle.pliron_opt_dce.specs.Dead.{Item, Op, Arg, Use, MayBeErased, KeepsAlive}
use Rattle.pliron_opt_dce.specs.Readiness.{IsReady, IsReadyArgument}
use Rattle.pliron_opt_dce.specs.Erasing.{ErasesItem}
use Rattle.pliron_opt_dce.specs.declared.incoming.IncomingEdge.{IncomingEdge}
use Rattle.pliron_opt_dce.specs.Incoming.{edges_of, count_along, width, BranchesLead, AreIncoming, AreKnown}
use Rattle.pliron_opt_dce.specs.Predecessors.{AreMarked}
use Rattle.pliron_opt_dce.proofs.Places.{IsBranchAt, PlacesStill, Placed, placed_end, all_lost, none_lost}
use Rattle.pliron_opt_dce.proofs.PlaceLists.{picked_length}
use Rattle.pliron_opt_dce.proofs.RemovedThins.{inside_live, shape_closed}
use Rattle.pliron_opt_dce.proofs.ReadySteps.{ready_contained, jumpers}
use Rattle.pliron_opt_dce.proofs.IncomingLists.{Loses, length_loses, loses_alike}

-- branches alone lead to the block of a ready argument, which stands inside the root
pub ready_branches : (m : Meaning) (removable : Head → ℕ → Bool → Option Bool) (t : Tree) (root v block index : ℕ) → IsTree t → IsReadyArgument m removable t root v → slice_get (arguments_of t block) index ≡ Some v → HoldsBlock t root block × BranchesLead m t block
ready_branches m removable t root v block index w r at = (subst (HoldsBlock t root) one r.may.inside, subst (λ z. (k : ℕ) → In z (successors_of t k) → HeadPasses m.is_branch t k) one r.may.branches)
  where
    one : r.may.block ≡ block
    one = let s : Some (Argument r.may.block r.may.index) ≡ Some (Argument block index) = sym (w.joined.arguments r.may.block r.may.index v r.may.argument) ∙ w.joined.arguments block index v at in cc

-- an argument goes
module _ (m : Meaning) (can_fold : Head → Bool) (SameTests : Head → Head → Type 0) (shortened : Shape → ℕ → ℕ → Head) (law : ForwardsOperands m can_fold SameTests shortened) (tests : (h h' : Head) → SameTests h h' → m.is_branch h' ≡ m.is_branch h) (t u : Tree) (root block index : ℕ) (edges : List Edge) (w : IsTree t) (linked : IsWellLinked m t root) (to : AreEdgesTo t block edges) (lose : EdgesLose m shortened index edges t u) (branches : BranchesLead m t block) where
  abbrev t' : Tree
  t' = argument_removed u block index

  abbrev B : ℕ → Type 0
  B k = IsBranchAt m can_fold SameTests shortened law tests t w block index k

  f : SameFrame m can_fold SameTests shortened law tests t w block index u
  f = (placed_end m can_fold SameTests shortened law tests t w block index edges to u lose 0).0

  abbrev placed : (k : ℕ) → Placed m can_fold SameTests shortened law tests t w block index u k []
  placed k = (placed_end m can_fold SameTests shortened law tests t w block index edges to u lose k).1

  same_successors : (k : ℕ) → successors_of t' k ≡ successors_of t k
  same_successors k = ap (λ z. slice_index_or z k []) f.successors

  same_block_holder : (b : ℕ) → block_parent_operation_of t' b ≡ block_parent_operation_of t b
  same_block_holder b =
      ap (λ z. up_from (slice_index_or z b None) (λ r. op_of_slot (slice_get u.slots r))) f.block_parents
      ∙ ap (λ z. up_from (block_parent_of t b) (λ r. op_of_slot (slice_get z r))) f.slots

  same_holder : (x : ℕ) → parent_operation_of t' x ≡ parent_operation_of t x
  same_holder x = ap (λ z. up_from (slice_index_or z x None) (λ b. block_parent_operation_of t' b)) f.parents ∙ go (parent_of t x)
    where
      go : (o : Option ℕ) → up_from o (λ b. block_parent_operation_of t' b) ≡ up_from o (λ b. block_parent_operation_of t b)
      go None = refl
      go (Some b) = same_block_holder b

  held_back : (b : ℕ) → HoldsBlock t' root b → HoldsBlock t root b
  held_back b x = (x.0, sym (same_block_holder b) ∙ x.1, within_alike t' t (λ y. sym (same_holder y)) x.2)

  -- what an edge forwards
  module _ (e : Edge) (b : B e.user) where
    now : (o : Operation) × PlacesStill m can_fold SameTests shortened law tests t w block index u e.user o (placed e.user).places (placed e.user).done b
    now = (placed e.user).acts b

    bare : now.0.regions ≡ []
    bare = childless m u now.0 (law.alone (shape_of m u now.0) now.1.admitted (subst (λ z. IsTrue (m.is_branch z)) (sym (shape_head m u now.0)) now.1.branch)).1

    stands_now : op_at t' e.user ≡ Some now.0
    stands_now = op_kept u t' e.user refl refl refl refl ∙ now.1.liveness

    width_now : width m t' e ≡ length (m.forwarded (shape_of m u now.0) e.place)
    width_now = ap (count_along m t' e.place) stands_now ∙ ap (λ z. length (m.forwarded z e.place)) (shape_closed m t' u now.0 bare now.1.branch)

    width_then : width m t e ≡ length (m.forwarded (shape_of m t b.operation) e.place)
    width_then = ap (count_along m t e.place) b.liveness

    pub width_less : slice_get (successors_of t e.user) e.place ≡ Some block → Loses index (width m t e) (width m t' e)
    width_less s =
        let d = all_lost m can_fold SameTests shortened law tests t w block index edges to u lose e.user e.place s in
        let same : length (m.forwarded (shape_of m u now.0) e.place) ≡ length (remove (m.forwarded (shape_of m t b.operation) e.place) index) = picked_length (m.forwarded (shape_of m u now.0) e.place) (placed e.user).places (remove (m.forwarded (shape_of m t b.operation) e.place) index) (now.1.lost e.place d) in
        subst (λ n. Loses index n (width m t' e)) (sym width_then) (subst (λ n. Loses index (length (m.forwarded (shape_of m t b.operation) e.place)) n) (sym (width_now ∙ same)) (length_loses (m.forwarded (shape_of m t b.operation) e.place) index))

    pub width_same : (slice_get (successors_of t e.user) e.place ≡ Some block → ⊥) → width m t' e ≡ width m t e
    width_same n = width_now ∙ picked_length (m.forwarded (shape_of m u now.0) e.place) (placed e.user).places (m.forwarded (shape_of m t b.operation) e.place) (now.1.same e.place (λ d. n ((placed e.user).sound e.place d))) ∙ sym width_then

    pub branch_now : HeadPasses m.is_branch t' e.user
    branch_now h q = subst (λ z. IsTrue (m.is_branch z)) (some_is (sym (op_shows t' e.user now.0 stands_now).head ∙ q)) now.1.branch

  -- what leads to a block inside the root is inside the root
  leads_inside : (k b : ℕ) → In b (successors_of t k) → HoldsBlock t root b → IsInside t root k
  leads_inside k b i h =
      let ends = linked.edges k b i (inr h) in
      let same : block_parent_operation_of t ends.block ≡ block_parent_operation_of t b = ap (λ o. up_from o (λ r. region_parent_of t r)) (sym (ends.own_region b i)) in
      inside_block ends.block ends.in_block (h.0, same ∙ h.1, h.2)

  branch_at : (k b : ℕ) → In b (successors_of t k) → HoldsBlock t root b → HeadPasses m.is_branch t k → B k
  branch_at k b i held passes =
      let s = leads_inside k b i held in
      let h = some_of (head_of t k) (inside_live t w.joined s).1 in
      record { operation = operation_of t k h.0; liveness = make_op t k h.0 h.1; admitted = admitted_shape m t k (operation_of t k h.0) (make_op t k h.0 h.1) (linked.admitted k (inr s)); branch = passes h.0 h.1 }

  -- what is a branch stays one, and what is none stays none
  led_after : (b : ℕ) → HoldsBlock t root b → BranchesLead m t b → BranchesLead m t' b
  led_after b held l k i = let j = subst (In b) (same_successors k) i in branch_now (record { user = k; place = 0 }) (branch_at k b j held (l k j))

  led_before : (b : ℕ) → BranchesLead m t' b → BranchesLead m t b
  led_before b l k i = elim (decide_in block (successors_of t k)) [
    | inl j ↦ branches k j
    | inr n ↦ λ h e. l k (subst (In b) (sym (same_successors k)) i) h (ap (λ z. z.head) ((placed k).same (none_lost m can_fold SameTests shortened law tests t w block index edges to u lose k n)).0 ∙ e)
  ]

  incoming_removed : (b : ℕ) (es : List Edge) → HoldsBlock t root b → AreIncoming m t b es → AreIncoming m t' b es
  incoming_removed b es held x = record {
    complete = record {
      listed = λ n e q. ap (λ z. slice_get z e.place) (same_successors e.user) ∙ x.complete.listed n e q;
      once = x.complete.once;
      complete = λ k i s. x.complete.complete k i (ap (λ z. slice_get z i) (sym (same_successors k)) ∙ s);
    };
    branches = led_after b held x.branches;
    falling = λ i j e g l a c. ⊎_elim (λ same. both i j e g l a c same) (λ ne. neither i j e g l a c ne) (cases_eq b block);
  }
    where
      branch_of : (i : ℕ) (e : Edge) → slice_get es i ≡ Some e → B e.user
      branch_of i e q = let j = in_slice (successors_of t e.user) e.place b (x.complete.listed i e q) in branch_at e.user b j held (x.branches e.user j)

      both : (i j : ℕ) (e g : Edge) → i < j → slice_get es i ≡ Some e → slice_get es j ≡ Some g → b ≡ block → width m t' g ≤ width m t' e
      both i j e g l a c same = loses_alike index (width m t g) (width m t' g) (width m t e) (width m t' e)
          (width_less g (branch_of j g c) (x.complete.listed j g c ∙ ap Some same))
          (width_less e (branch_of i e a) (x.complete.listed i e a ∙ ap Some same))
          (x.falling i j e g l a c)

      neither : (i j : ℕ) (e g : Edge) → i < j → slice_get es i ≡ Some e → slice_get es j ≡ Some g → b ≢ block → width m t' g ≤ width m t' e
      neither i j e g l a c ne =
          subst (λ n. n ≤ width m t' e) (sym (width_same g (branch_of j g c) (λ s. ne (some_is (sym (x.complete.listed j g c) ∙ s)))))
          (subst (λ n. width m t g ≤ n) (sym (width_same e (branch_of i e a) (λ s. ne (some_is (sym (x.complete.listed i e a) ∙ s))))) (x.falling i j e g l a c))

  pub known_removed : (find : ℕ → Option (List IncomingEdge)) → AreKnown m t root find → AreKnown m t' root find
  known_removed find known b es q held = incoming_removed b (edges_of es) (held_back b held) (known b es q (held_back b held))

  pub marked_removed : (mark : ℕ → Option Bool) → AreMarked m t root mark → AreMarked m t' root mark
  marked_removed mark marked b x q held = let h = held_back b held in let y = marked b x q h in ((λ e. led_after b h (y.0 e)), (λ l. y.1 (led_before b l)))

-- an operation goes
module _ (m : Meaning) (side_effects : Head → Option Bool) (removable : Head → ℕ → Bool → Option Bool) (counts : KeepsCounts m) (free : GivesAtOnce m side_effects) (t : Tree) (root : ℕ) (w : IsTree t) (linked : IsWellLinked m t root) (k : ℕ) (may : MayBeErased m side_effects t root k) (none : (user place : ℕ) → KeepsAlive t k user place → ⊥) (w' : IsTree (after_erasing t k)) where
  abbrev x' : Tree
  x' = after_erasing t k

  abbrev dead : ℕ → Bool
  dead q = op_erased t k q

  abbrev dead_block : ℕ → Bool
  dead_block b = block_erased_with t k b

  live : IsLive t k
  live = (inside_live t w.joined may.inside).1

  swept : IsSwept t x' dead dead_block
  swept = erased_swept t k w live (ready_contained m side_effects removable counts free t root w linked k may none)

  away : AreAway x' dead dead_block
  away = gone_away x' dead dead_block w' (erased_gone t k w live (ready_contained m side_effects removable counts free t root w linked k may none))

  held_before : (b : ℕ) → HoldsBlock x' root b → HoldsBlock t root b × (dead_block b ≡ false)
  held_before b x = let y = block_place_back t x' dead dead_block w w' swept away b x.0 x.1 in ((x.0, y.0, within_back t x' dead dead_block w w' swept away root x.0 x.2), y.1)

  -- what leads to a block that stays stays
  led_forth : (b : ℕ) → BranchesLead m t b → BranchesLead m x' b
  led_forth b l j i h e =
      let lives = jumper_lives t x' dead dead_block w w' swept away j b i in
      l j (subst (In b) (swept.successors j lives) i) h (ap (λ z. z.head) (sym (swept.rows j lives)) ∙ e)

  led_back : (b : ℕ) → HoldsBlock t root b → dead_block b ≡ false → BranchesLead m x' b → BranchesLead m t b
  led_back b held stays l j i h e =
      let lives = jumpers m side_effects removable counts free t root w linked k may none w' j b held i stays in
      l j (subst (In b) (sym (swept.successors j lives)) i) h (ap (λ z. z.head) (swept.rows j lives) ∙ e)

  incoming_erased : (b : ℕ) (es : List Edge) → HoldsBlock t root b → dead_block b ≡ false → AreIncoming m t b es → AreIncoming m x' b es
  incoming_erased b es held stays x = record {
    complete = record {
      listed = λ n e q. ap (λ z. slice_get z e.place) (swept.successors e.user (left n e q)) ∙ x.complete.listed n e q;
      once = x.complete.once;
      complete = λ j i s. x.complete.complete j i (ap (λ z. slice_get z i) (sym (swept.successors j (jumper_lives t x' dead dead_block w w' swept away j b (in_slice (successors_of x' j) i b s)))) ∙ s);
    };
    branches = led_forth b x.branches;
    falling = λ i j e g l a c.
        subst (λ n. n ≤ width m x' e) (sym (same_width g (left j g c))) (subst (λ n. width m t g ≤ n) (sym (same_width e (left i e a))) (x.falling i j e g l a c));
  }
    where
      left : (n : ℕ) (e : Edge) → slice_get es n ≡ Some e → dead e.user ≡ false
      left n e q = jumpers m side_effects removable counts free t root w linked k may none w' e.user b held (in_slice (successors_of t e.user) e.place b (x.complete.listed n e q)) stays

      same_width : (e : Edge) → dead e.user ≡ false → width m x' e ≡ width m t e
      same_width e l = ap (count_along m x' e.place) (op_same t x' dead dead_block w w' swept e.user l) ∙ go (op_at t e.user) refl
        where
          go : (o : Option Operation) → op_at t e.user ≡ o → count_along m x' e.place (op_at t e.user) ≡ count_along m t e.place (op_at t e.user)
          go None q = ap (count_along m x' e.place) q ∙ ap (count_along m t e.place) (sym q)
          go (Some o) q = ap (count_along m x' e.place) q ∙ ap (λ z. length (m.forwarded z e.place)) (sym (shape_swept t x' dead dead_block w w' swept m e.user o l q)) ∙ ap (count_along m t e.place) (sym q)

  pub known_erased : (find : ℕ → Option (List IncomingEdge)) → AreKnown m t root find → AreKnown m x' root find
  known_erased find known b es q held = let y = held_before b held in incoming_erased b (edges_of es) y.0 y.1 (known b es q y.0)

  pub marked_erased : (mark : ℕ → Option Bool) → AreMarked m t root mark → AreMarked m x' root mark
  marked_erased mark marked b x q held = let h = held_before b held in let y = marked b x q h.0 in ((λ e. led_forth b (y.0 e)), (λ l. y.1 (led_back b h.0 h.1 l)))

-- a ready thing goes
module _ (m : Meaning) (can_fold : Head → Bool) (SameTests : Head → Head → Type 0) (shortened : Shape → ℕ → ℕ → Head) (law : ForwardsOperands m can_fold SameTests shortened) (tests : (h h' : Head) → SameTests h h' → m.is_branch h' ≡ m.is_branch h) (counts : KeepsCounts m) (side_effects : Head → Option Bool) (free : GivesAtOnce m side_effects) (removable : Head → ℕ → Bool → Option Bool) where
  pub known_after : (t t' : Tree) (root : ℕ) (x : Item) (find : ℕ → Option (List IncomingEdge)) → IsTree t → IsTree t' → IsWellLinked m t root → IsReady m side_effects removable t root x → ErasesItem m shortened t t' x → AreKnown m t root find → AreKnown m t' root find
  known_after t u root (Op k) find w w' linked r g known = subst (λ z. AreKnown m z root find) (sym g.1) (known_erased m side_effects removable counts free t root w linked k r.may r.none (subst IsTree g.1 w') find known)
  known_after t u root (Arg v) find w w' linked r g known = subst (λ z. AreKnown m z root find) (sym g.removed) (known_removed m can_fold SameTests shortened law tests t g.between root g.block g.index g.edges w linked g.complete g.lose (ready_branches m removable t root v g.block g.index w r g.argument).1 find known)
  known_after t u root (Use user place) find w w' linked r g known = absurd g

  pub marked_after : (t t' : Tree) (root : ℕ) (x : Item) (mark : ℕ → Option Bool) → IsTree t → IsTree t' → IsWellLinked m t root → IsReady m side_effects removable t root x → ErasesItem m shortened t t' x → AreMarked m t root mark → AreMarked m t' root mark
  marked_after t u root (Op k) mark w w' linked r g marked = subst (λ z. AreMarked m z root mark) (sym g.1) (marked_erased m side_effects removable counts free t root w linked k r.may r.none (subst IsTree g.1 w') mark marked)
  marked_after t u root (Arg v) mark w w' linked r g marked = subst (λ z. AreMarked m z root mark) (sym g.removed) (marked_removed m can_fold SameTests shortened law tests t g.between root g.block g.index g.edges w linked g.complete g.lose (ready_branches m removable t root v g.block g.index w r g.argument).1 mark marked)
  marked_after t u root (Use user place) mark w w' linked r g marked = absurd g
