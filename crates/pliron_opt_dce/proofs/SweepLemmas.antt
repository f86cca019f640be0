-- What the loop knows after a thing went.
use Rattle.std.proofs.Common.{◌≡◌, ⊎_elim, inr, ℕ, Bool, List, [], ◌∷◌, ◌++◌, ◌<◌, Option, Some, slice_get, sym, subst}
use Rattle.pliron_core.specs.declared.context.Def.TheVariants.{Argument}
use Rattle.pliron_core.specs.Tree.{Tree, In, IsLive, IsMadeBy, definition_of, arguments_of}
use Rattle.pliron_opt_dce.proofs.ReadyTests.{ready_defined}
use Rattle.pliron_opt_dce.proofs.RemovedThins.{inside_live}
use Rattle.pliron_opt_dce.proofs.ReadySteps.{ready_contained}
use Rattle.pliron_opt_dce.proofs.Places.{placed_end}
use Rattle.pliron_core.specs.Invariant.{IsTree}
use Rattle.pliron_laws.specs.Datum.{Head, Shape, Meaning}
use Rattle.pliron_laws.specs.Laws.{KeepsCounts, GivesAtOnce, ForwardsOperands, ActsWithoutArgument}
use Rattle.pliron_laws.specs.Linked.{IsWellLinked}
use Rattle.pliron_opt_dce.specs.declared.worklist.DeadCandidate.{DeadCandidate}
use Rattle.pliron_opt_dce.specs.Dead.{Item, Op, Arg, Use}
use Rattle.pliron_opt_dce.specs.Erasing.{ErasesItem}
use Rattle.pliron_opt_dce.specs.Readiness.{IsReady, IsReadyArgument, Among, AreRecorded, AreRevisited}
use Rattle.pliron_opt_dce.specs.Worklist.{item_of, items_of, HasReady, AreClosedUnderNesting}
use Rattle.pliron_opt_dce.proofs.Progress.{step, gone_unready}
use Rattle.pliron_opt_dce.proofs.Pending.{ready_before}
use Rattle.pliron_opt_dce.specs.Measures.{things}
use Rattle.pliron_opt_dce.proofs.StepMeasure.{erased_less, removed_less}
use Rattle.pliron_opt_dce.proofs.WorkLemmas.{among_split}

module _ (m : Meaning) (can_fold : Head → Bool) (SameTests : Head → Head → Type 0) (shortened : Shape → ℕ → ℕ → Head) (law : ForwardsOperands m can_fold SameTests shortened) (tests : (h h' : Head) → SameTests h h' → m.is_branch h' ≡ m.is_branch h) (counts : KeepsCounts m) (side_effects : Head → Option Bool) (free : GivesAtOnce m side_effects) (removable : Head → ℕ → Bool → Option Bool) (without : ActsWithoutArgument m removable) where
  pub ready_all : (t t' : Tree) (root : ℕ) (c : DeadCandidate) (used : List ℕ) (old new : List DeadCandidate) → IsTree t → IsTree t' → IsWellLinked m t root → IsReady m side_effects removable t root (item_of c) → ErasesItem m shortened t t' (item_of c) → HasReady m side_effects removable t root (old ++ c ∷ []) → AreRecorded t t' used → AreRevisited t' used (items_of new) → ((x : Item) → Among x (items_of old) → Among x (items_of new)) → HasReady m side_effects removable t' root new
  ready_all t t' root c used old new w w' linked r g all noted revisited kept x rx =
      let s = step m can_fold SameTests shortened law tests counts side_effects free removable without t t' root (item_of c) w w' linked r g in
      ⊎_elim
      (λ before. ⊎_elim (λ i. kept x i) (λ e. absurd (gone_unready m can_fold SameTests shortened law tests counts side_effects free removable without t t' root (item_of c) w w' linked r g (subst (IsReady m side_effects removable t' root) e rx))) (among_split x old c (all x before)))
      (λ i. i)
      (ready_before m side_effects removable t t' root w w' s.thins used noted (items_of new) revisited x rx)

  -- those around an operation that stands are as before
  pub closed_after : (t t' : Tree) (root : ℕ) (x : Item) (ks : List ℕ) → IsTree t → IsTree t' → IsWellLinked m t root → IsReady m side_effects removable t root x → ErasesItem m shortened t t' x → AreClosedUnderNesting t ks → AreClosedUnderNesting t' ks
  closed_after t t' root x ks w w' linked r g closed k a i l j =
      let s = step m can_fold SameTests shortened law tests counts side_effects free removable without t t' root x w w' linked r g in
      ⊎_elim (λ e. subst (λ z. In z ks) e i) (λ q. closed k a i (s.thins.live_before k l) q) (s.thins.within_back a k (inr j))

-- the place of a ready argument
pub argument_listed : (m : Meaning) (removable : Head → ℕ → Bool → Option Bool) (t : Tree) (root v block index : ℕ) → IsTree t → IsReadyArgument m removable t root v → definition_of t v ≡ Some (Argument block index) → slice_get (arguments_of t block) index ≡ Some v
argument_listed m removable t root v block index w r e = subst (IsMadeBy t v) e (ready_defined m removable t root v w r)

-- each step leaves fewer things
module _ (m : Meaning) (can_fold : Head → Bool) (SameTests : Head → Head → Type 0) (shortened : Shape → ℕ → ℕ → Head) (law : ForwardsOperands m can_fold SameTests shortened) (tests : (h h' : Head) → SameTests h h' → m.is_branch h' ≡ m.is_branch h) (counts : KeepsCounts m) (side_effects : Head → Option Bool) (free : GivesAtOnce m side_effects) (removable : Head → ℕ → Bool → Option Bool) (without : ActsWithoutArgument m removable) where
  pub step_less : (t t' : Tree) (root : ℕ) (x : Item) → IsTree t → IsTree t' → IsWellLinked m t root → IsReady m side_effects removable t root x → ErasesItem m shortened t t' x → things t' < things t
  step_less t t' root (Op k) w w' linked r g =
      let s = step m can_fold SameTests shortened law tests counts side_effects free removable without t t' root (Op k) w w' linked r g in
      subst (λ z. things z < things t) (sym g.1) (erased_less t k w (subst IsTree g.1 w') (inside_live t w.joined r.may.inside).1 (ready_contained m side_effects removable counts free t root w linked k r.may r.none) (λ q l. s.thins.live_before q (subst (λ z. IsLive z q) (sym g.1) l)))
  step_less t t' root (Arg v) w w' linked r g =
      let s = step m can_fold SameTests shortened law tests counts side_effects free removable without t t' root (Arg v) w w' linked r g in
      let f = (placed_end m can_fold SameTests shortened law tests t w g.block g.index g.edges g.complete g.between g.lose 0).0 in
      subst (λ z. things z < things t) (sym g.removed) (removed_less t g.between g.block g.index v f.operations f.arguments g.argument (λ q l. s.thins.live_before q (subst (λ z. IsLive z q) (sym g.removed) l)))
  step_less t t' root (Use user place) w w' linked r g = absurd r
