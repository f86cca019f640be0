-- Ready things go, one after the other: what holds all the way, and at the end.
use Rattle.std.proofs.Common.{◌≡◌, ◌↔◌, ◌⊎◌, inl, inr, ⊎_elim, ℕ, true, Bool, List, [], ◌∷◌, ◌++◌, Option, Some, None, IsTrue, slice_get, refl, sym, ap, ◌∙◌, subst}
use Rattle.pliron_core.specs.declared.context.Def.TheVariants.{Argument}
use Rattle.pliron_laws.specs.Answers.{HeadPasses, ReadsPlace}
use Rattle.pliron_core.specs.Changes.{IsInsideChange}
use Rattle.pliron_core.specs.Tree.{Tree, In, IsLive, head_of, HoldsBlock, successors_of, arguments_of, regions_of, block_parent_operation_of}
use Rattle.pliron_core.specs.Invariant.{IsTree}
use Rattle.pliron_core.specs.Erased.{after_erasing}
use Rattle.pliron_core.specs.Writes.{argument_removed}
use Rattle.pliron_laws.specs.Datum.{Head, Shape, Meaning}
use Rattle.pliron_laws.specs.Laws.{KeepsCounts, GivesAtOnce, ForwardsOperands, ActsWithoutArgument}
use Rattle.pliron_laws.specs.Linked.{IsWellLinked}
use Rattle.pliron_theory.specs.Keeps.{KeepsAllRuns, with_roots}
use Rattle.pliron_theory.proofs.ChosenRoots.{counts as chosen_counts, forwards_operands as chosen_forwards, edges_lose}
use Rattle.pliron_theory.specs.Edges.{KeepsEdges, has_entries}
use Rattle.pliron_theory.proofs.EdgeLemmas.{edges_alike, edges_transitive}
use Rattle.pliron_theory.proofs.Keeping.{keeps_refl, keeps_trans}
use Rattle.pliron_theory.proofs.RemovedKeeps.{removed_keeps}
use Rattle.pliron_opt_dce.specs.Dead.{Item, Op, Arg, Use, IsDead}
use Rattle.pliron_opt_dce.specs.Readiness.{IsReady, Among}
use Rattle.pliron_opt_dce.specs.Erasing.{ErasesItem, Removes, EraseInTurn, LeavesNoDead, HasDead, ReportsDead, ReportsErased, HasRegions, SomeHasRegions, IsSweptSoFar}
use Rattle.pliron_opt_dce.proofs.ReadyLemmas.{ready_dead, no_dead}
use Rattle.pliron_opt_dce.proofs.Thinned.{IsThinned, back, forth}
use Rattle.pliron_core.specs.declared.attrs.IRStatus.{IRStatus}
use Rattle.pliron_core.specs.declared.attrs.IRStatus.TheVariants.{Changed, Unchanged}
use Rattle.pliron_core.proofs.EraseInsideLemmas.{erased_inside}
use Rattle.pliron_core.proofs.InsideLemmas.{inside_refl, inside_trans}
use Rattle.pliron_opt_dce.proofs.RemovedThins.{removed_thins, removed_inside, removed_regions, removed_alike, removed_linked, removed_unused, root_stands as root_stands_removed, removed_gone, inside_live}
use Rattle.pliron_opt_dce.proofs.ReadySteps.{erased_thins, erased_linked, erased_regions, erased_edges, ready_keeps, ready_contained, root_stands as root_stands_erased}
use Rattle.pliron_core.proofs.HoldingLemmas.{some_of}
use Rattle.pliron_core.proofs.WithinLemmas.{is_within}
use Rattle.pliron_theory.proofs.ErasedKeeps.{erased_gone}

-- one ready thing went
pub record IsStep (m : Meaning) (side_effects : Head → Option Bool) (removable : Head → ℕ → Bool → Option Bool) (t t' : Tree) (root : ℕ) (x : Item) : Type 0 where
  pub keeps : KeepsAllRuns m t t'
  pub inside : IsInsideChange t t' root
  pub regions : (k : ℕ) → IsLive t' k → regions_of t' k ≡ regions_of t k
  pub edges : (HasRegions t x → ⊥) → KeepsEdges t t'
  pub linked : (r : ℕ) → IsWellLinked m t r → IsLive t' r → IsWellLinked m t' r
  pub root_stands : IsLive t root → IsLive t' root
  pub thins : IsThinned m side_effects removable t t' root

module _ (m : Meaning) (can_fold : Head → Bool) (SameTests : Head → Head → Type 0) (shortened : Shape → ℕ → ℕ → Head) (law : ForwardsOperands m can_fold SameTests shortened) (tests : (h h' : Head) → SameTests h h' → m.is_branch h' ≡ m.is_branch h) (counts : KeepsCounts m) (side_effects : Head → Option Bool) (free : GivesAtOnce m side_effects) (removable : Head → ℕ → Bool → Option Bool) (without : ActsWithoutArgument m removable) where
  abbrev D : Tree → ℕ → Item → Type 0
  D t root x = IsDead m side_effects removable t root x

  erase_step : (t t' : Tree) (root k : ℕ) → IsTree t → IsTree t' → IsWellLinked m t root → IsReady m side_effects removable t root (Op k) → t' ≡ after_erasing t k → IsStep m side_effects removable t t' root (Op k)
  erase_step t t' root k w w' linked r same = subst (λ z. IsStep m side_effects removable t z root (Op k)) (sym same) (record {
    keeps = ready_keeps m side_effects removable counts free t root w linked k r.may r.none at;
    inside = erased_inside t root k w at.joined r.may.inside;
    regions = erased_regions m side_effects removable counts free t root w linked k r.may r.none at;
    edges = λ n. erased_edges m side_effects removable counts free t root w linked k r.may r.none at (bare (regions_of t k) n);
    linked = erased_linked m side_effects removable counts free t root w linked k r.may r.none at;
    root_stands = root_stands_erased m side_effects removable counts free t root w linked k r.may r.none at;
    thins = erased_thins m side_effects removable counts free t root w linked k r.may r.none at;
  })
    where
      at : IsTree (after_erasing t k)
      at = subst IsTree same w'

      bare : (rs : List ℕ) → (IsTrue (has_entries rs) → ⊥) → rs ≡ []
      bare [] n = refl
      bare (r ∷ rs) n = absurd (n refl)

  -- the block of an argument is the one that it may be removed from
  remove_step : (t t' : Tree) (root v : ℕ) → IsTree t → IsTree t' → IsWellLinked m t root → IsReady m side_effects removable t root (Arg v) → Removes m shortened t t' v → IsStep m side_effects removable t t' root (Arg v)
  remove_step t t' root v w w' linked r g = subst (λ z. IsStep m side_effects removable t z root (Arg v)) (sym g.removed) (record {
    keeps = λ chosen. removed_keeps (with_roots m chosen) can_fold SameTests shortened (chosen_forwards m chosen can_fold SameTests shortened law) tests (chosen_counts m chosen counts) removable without t g.between g.block g.index v g.edges w at g.argument g.complete branches allowed (edges_lose m chosen shortened g.index g.edges t g.between g.lose) (removed_unused m can_fold SameTests shortened law tests counts side_effects removable t g.between root g.block g.index v g.edges w at linked g.argument held branches g.complete g.lose dead r.none);
    regions = λ k l. removed_regions m can_fold SameTests shortened law tests counts side_effects removable t g.between root g.block g.index v g.edges w at linked g.argument held branches g.complete g.lose dead k;
    edges = λ n. edges_alike t (argument_removed g.between g.block g.index) w at (removed_alike m can_fold SameTests shortened law tests counts side_effects removable t g.between root g.block g.index v g.edges w at linked g.argument held branches g.complete g.lose dead);
    inside = removed_inside m can_fold SameTests shortened law tests counts side_effects removable t g.between root g.block g.index v g.edges w at linked g.argument held branches g.complete g.lose dead;
    linked = λ q y l. removed_linked m can_fold SameTests shortened law tests counts side_effects removable t g.between root g.block g.index v g.edges w at linked g.argument held branches g.complete g.lose dead q y;
    root_stands = root_stands_removed m can_fold SameTests shortened law tests counts side_effects removable t g.between root g.block g.index v g.edges w at linked g.argument held branches g.complete g.lose dead;
    thins = removed_thins m can_fold SameTests shortened law tests counts side_effects removable t g.between root g.block g.index v g.edges w at linked g.argument held branches g.complete g.lose dead r.none;
  })
    where
      at : IsTree (argument_removed g.between g.block g.index)
      at = subst IsTree g.removed w'

      same : r.may.block ≡ g.block
      same = let s : Some (Argument r.may.block r.may.index) ≡ Some (Argument g.block g.index) = sym (w.joined.arguments r.may.block r.may.index v r.may.argument) ∙ w.joined.arguments g.block g.index v g.argument in cc

      held : HoldsBlock t root g.block
      held = subst (HoldsBlock t root) same r.may.inside

      branches : (k : ℕ) → In g.block (successors_of t k) → HeadPasses m.is_branch t k
      branches = subst (λ z. (k : ℕ) → In z (successors_of t k) → HeadPasses m.is_branch t k) same r.may.branches

      allowed : (k : ℕ) → block_parent_operation_of t g.block ≡ Some k → ReadsPlace removable t k g.block (Some true)
      allowed = subst (λ z. (k : ℕ) → block_parent_operation_of t z ≡ Some k → ReadsPlace removable t k z (Some true)) same r.may.allowed

      dead : D t root (Arg v)
      dead = ready_dead m side_effects removable t root (Arg v) r

  pub step : (t t' : Tree) (root : ℕ) (x : Item) → IsTree t → IsTree t' → IsWellLinked m t root → IsReady m side_effects removable t root x → ErasesItem m shortened t t' x → IsStep m side_effects removable t t' root x
  step t t' root (Op k) w w' linked r g = erase_step t t' root k w w' linked r g.1
  step t t' root (Arg v) w w' linked r g = remove_step t t' root v w w' linked r g
  step t t' root (Use user place) w w' linked r g = absurd g

  abbrev OnWay : Tree → Tree → ℕ → List Item → Type 0
  OnWay t0 t root deleted = IsSweptSoFar m shortened side_effects removable t0 t root deleted

  pub on_the_way : (t : Tree) (root : ℕ) → IsLive t root → OnWay t t root []
  on_the_way t root l = record {
    went = refl;
    dead = λ x i. absurd i;
    keeps = λ chosen. keeps_refl (with_roots m chosen) t;
    inside = inside_refl t root;
    linked = λ r y s. y;
    liveness = l;
    before = λ k y. (y, refl);
    operations_back = λ k d. d;
    arguments_back = λ v d. d;
    operations_forth = λ k d s. d;
    arguments_forth = λ v d s. d;
  }

  turn_more : (xs : List Item) (x : Item) (t u v : Tree) → EraseInTurn m shortened xs t u → ErasesItem m shortened u v x → EraseInTurn m shortened (xs ++ x ∷ []) t v
  turn_more [] x t u v e g = (v, subst (λ z. ErasesItem m shortened z v x) e g, refl)
  turn_more (y ∷ ys) x t u v q g = (q.0, q.1, turn_more ys x q.0 u v q.2 g)

  among_more : (xs : List Item) (x y : Item) → Among y (xs ++ x ∷ []) → Among y xs ⊎ (y ≡ x)
  among_more [] x y (inl e) = inr e
  among_more [] x y (inr i) = absurd i
  among_more (z ∷ zs) x y (inl e) = inl (inl e)
  among_more (z ∷ zs) x y (inr i) = ⊎_elim (λ j. inl (inr j)) (λ e. inr e) (among_more zs x y i)

  back_to : (t0 t : Tree) (root : ℕ) (deleted : List Item) → OnWay t0 t root deleted → (x : Item) → IsReady m side_effects removable t root x → D t0 root x
  back_to t0 t root deleted h (Op k) r = h.operations_back k (ready_dead m side_effects removable t root (Op k) r)
  back_to t0 t root deleted h (Arg v) r = h.arguments_back v (ready_dead m side_effects removable t root (Arg v) r)
  back_to t0 t root deleted h (Use user place) r = absurd r

  pub one_more : (t0 t t' : Tree) (root : ℕ) (deleted : List Item) (x : Item) → IsWellLinked m t0 root → IsTree t → IsTree t' → OnWay t0 t root deleted → IsReady m side_effects removable t root x → ErasesItem m shortened t t' x → OnWay t0 t' root (deleted ++ x ∷ [])
  one_more t0 t t' root deleted x linked w w' h r g = record {
    went = turn_more deleted x t0 t t' h.went g;
    dead = λ y i. ⊎_elim (λ j. h.dead y j) (λ e. subst (D t0 root) (sym e) (back_to t0 t root deleted h x r)) (among_more deleted x y i);
    keeps = λ chosen. keeps_trans (with_roots m chosen) t0 t t' (h.keeps chosen) (s.keeps chosen);
    inside = inside_trans t0 t t' root h.inside s.inside;
    linked = λ q y l. s.linked q (h.linked q y (s.thins.live_before q l)) l;
    liveness = s.root_stands h.liveness;
    before = λ k l. let b = h.before k (s.thins.live_before k l) in (b.0, s.regions k l ∙ b.1);
    operations_back = λ k d. h.operations_back k (back m side_effects removable t t' root s.thins d);
    arguments_back = λ v d. h.arguments_back v (back m side_effects removable t t' root s.thins d);
    operations_forth = λ k d l. forth m side_effects removable t t' root s.thins (h.operations_forth k d (s.thins.live_before k l)) l;
    arguments_forth = λ v d l. forth m side_effects removable t t' root s.thins (h.arguments_forth v d (s.thins.defined_before v l)) l;
  }
    where
      s : IsStep m side_effects removable t t' root x
      s = step t t' root x w w' (h.linked root linked h.liveness) r g

  -- nothing is ready any more
  pub at_the_end : (t0 t : Tree) (root : ℕ) (deleted : List Item) → OnWay t0 t root deleted → ((x : Item) → IsReady m side_effects removable t root x → ⊥) → LeavesNoDead m side_effects removable t0 t root
  at_the_end t0 t root deleted h never = record {
    operations = λ k d l. no_dead m side_effects removable t root never (h.operations_forth k d l);
    arguments = λ v d l. no_dead m side_effects removable t root never (h.arguments_forth v d l);
    none = λ some. ⊎_elim (λ x. no_dead m side_effects removable t root never x.1) (λ x. no_dead m side_effects removable t root never x.1) some;
  }

  -- what the answer says
  some_dead : (t0 t : Tree) (root : ℕ) (x : Item) (xs : List Item) → OnWay t0 t root (x ∷ xs) → HasDead m side_effects removable t0 root
  some_dead t0 t root (Op k) xs h = inl (k, h.dead (Op k) (inl refl))
  some_dead t0 t root (Arg v) xs h = inr (v, h.dead (Arg v) (inl refl))
  some_dead t0 t root (Use user place) xs h = absurd h.went.1

  not_both : (s : IRStatus) → s ≡ Changed → s ≡ Unchanged → ⊥
  not_both s e f = let q : Changed ≡ Unchanged = sym e ∙ f in absurd (cc)

  pub tells_dead : (t0 t : Tree) (root : ℕ) (deleted : List Item) (status : IRStatus) → OnWay t0 t root deleted → LeavesNoDead m side_effects removable t0 t root → ReportsErased deleted status → ReportsDead m side_effects removable t0 root status
  tells_dead t0 t root [] status h end reported = (λ e. absurd (not_both status e reported), λ some. absurd (end.none (subst (λ z. HasDead m side_effects removable z root) (sym h.went) some)))
  tells_dead t0 t root (x ∷ xs) status h end reported = (λ e. some_dead t0 t root x xs h, λ some. reported)

  pub tells_same : (t0 t : Tree) (root : ℕ) (deleted : List Item) (status : IRStatus) → OnWay t0 t root deleted → LeavesNoDead m side_effects removable t0 t root → ReportsErased deleted status → (status ≡ Unchanged) ↔ (t ≡ t0)
  tells_same t0 t root [] status h end reported = (λ e. h.went, λ same. reported)
  tells_same t0 t root (x ∷ xs) status h end reported = (λ e. absurd (not_both status reported e), λ same. absurd (end.none (subst (λ z. HasDead m side_effects removable z root) (sym same) (some_dead t0 t root x xs h))))

  -- edges stay until an operation with regions goes
  pub edges_more : (t0 t t' : Tree) (root : ℕ) (x : Item) → IsTree t → IsTree t' → IsWellLinked m t root → IsReady m side_effects removable t root x → ErasesItem m shortened t t' x → KeepsEdges t0 t → (HasRegions t x → ⊥) → KeepsEdges t0 t'
  edges_more t0 t t' root x w w' linked r g kept n =
      let s = step t t' root x w w' linked r g in
      edges_transitive t0 t t' (λ op l0 l. s.thins.live_before op l) kept (s.edges n)

  regions_before : (t0 t t' : Tree) (root : ℕ) (deleted : List Item) (x : Item) → OnWay t0 t root deleted → ErasesItem m shortened t t' x → HasRegions t x ↔ HasRegions t0 x
  regions_before t0 t t' root deleted (Op k) h g = let e = (h.before k g.0).1 in (λ y. subst (λ z. IsTrue (has_entries z)) e y, λ y. subst (λ z. IsTrue (has_entries z)) (sym e) y)
  regions_before t0 t t' root deleted (Arg v) h g = (λ y. y, λ y. y)
  regions_before t0 t t' root deleted (Use user place) h g = (λ y. y, λ y. y)

  pub regions_more : (t0 t t' : Tree) (root : ℕ) (deleted : List Item) (x : Item) (old had new : Bool) → OnWay t0 t root deleted → ErasesItem m shortened t t' x → IsTrue old ↔ SomeHasRegions t0 deleted → IsTrue had ↔ HasRegions t x → IsTrue new ↔ (IsTrue old ⊎ IsTrue had) → IsTrue new ↔ SomeHasRegions t0 (deleted ++ x ∷ [])
  regions_more t0 t t' root deleted x old had new h g before here either = (
    (λ n. ⊎_elim (λ o. let y = before.0 o in (y.0, front deleted x y.0 y.1, y.2)) (λ o. (x, last deleted x, (regions_before t0 t t' root deleted x h g).0 (here.0 o))) (either.0 n)),
    (λ y. either.1 (⊎_elim (λ i. inl (before.1 (y.0, i, y.2))) (λ e. inr (here.1 ((regions_before t0 t t' root deleted x h g).1 (subst (HasRegions t0) e y.2)))) (among_more deleted x y.0 y.1))),
  )
    where
      front : (xs : List Item) (x y : Item) → Among y xs → Among y (xs ++ x ∷ [])
      front [] x y i = absurd i
      front (z ∷ zs) x y (inl e) = inl e
      front (z ∷ zs) x y (inr i) = inr (front zs x y i)

      last : (xs : List Item) (x : Item) → Among x (xs ++ x ∷ [])
      last [] x = inl refl
      last (z ∷ zs) x = inr (last zs x)

  -- what went is ready no more
  pub gone_unready : (t t' : Tree) (root : ℕ) (x : Item) → IsTree t → IsTree t' → IsWellLinked m t root → IsReady m side_effects removable t root x → ErasesItem m shortened t t' x → IsReady m side_effects removable t' root x → ⊥
  gone_unready t t' root (Op k) w w' linked r g r' =
      let live = (inside_live t w.joined r.may.inside).1 in
      let deleted = (erased_gone t k w live (ready_contained m side_effects removable counts free t root w linked k r.may r.none)).operations k (is_within t k k w.joined live (inl refl)) in
      let liveness = some_of (head_of t' k) (inside_live t' w'.joined r'.may.inside).1 in
      let f : None ≡ Some liveness.0 = sym deleted ∙ ap (λ z. head_of z k) (sym g.1) ∙ liveness.1 in
      absurd (cc)
  gone_unready t t' root (Arg v) w w' linked r g r' =
      let s : Some (Argument r.may.block r.may.index) ≡ Some (Argument g.block g.index) = sym (w.joined.arguments r.may.block r.may.index v r.may.argument) ∙ w.joined.arguments g.block g.index v g.argument in
      let same : r.may.block ≡ g.block = cc in
      removed_gone m can_fold SameTests shortened law tests counts side_effects removable t g.between root g.block g.index v g.edges w (subst IsTree g.removed w') linked g.argument (subst (HoldsBlock t root) same r.may.inside) (subst (λ z. (k : ℕ) → In z (successors_of t k) → HeadPasses m.is_branch t k) same r.may.branches) g.complete g.lose (ready_dead m side_effects removable t root (Arg v) r) r'.may.block r'.may.index (ap (λ z. slice_get (arguments_of z r'.may.block) r'.may.index) (sym g.removed) ∙ r'.may.argument)
  gone_unready t t' root (Use user place) w w' linked r g r' = absurd r

pub tells_more : (xs : List Item) (x : Item) → ReportsErased (xs ++ x ∷ []) Changed
tells_more [] x = refl
tells_more (y ∷ ys) x = refl
