-- Rewrites that keep runs, inside an operation: changes of a pass on that one.
use Rattle.std.proofs.Common.{◌≡◌, inl, inr, ℕ, Bool, ◌∷◌, length, Option, Some, None, Result, Ok, Err, IfOk, OnErr, IsTrue, is_some, refl, sym, ap, ◌∙◌, subst}
use Rattle.pliron_core.specs.declared.attrs.AttrObj.{AttrObj}
use Rattle.pliron_core.specs.declared.attrs.IRStatus.{IRStatus}
use Rattle.pliron_core.specs.declared.attrs.IRStatus.TheVariants.{Changed, Unchanged}
use Rattle.pliron_core.specs.declared.context.Def.{Def}
use Rattle.pliron_core.specs.declared.context.Def.TheVariants.{Result as ResultOf, Argument}
use Rattle.pliron_core.specs.declared.rewriter.OpInsertionPoint.TheVariants.{BeforeOperation}
use Rattle.pliron_core.specs.Lists.{put_before}
use Rattle.pliron_core.specs.Tree.{Tree, IsLive, IsInside, IsDefined, IsMadeBy, HoldsBlock, body_of, definition_of}
use Rattle.pliron_core.specs.Invariant.{IsTree, IsJoined}
use Rattle.pliron_core.specs.Changes.{IsSameTree, IsInsideChange, IsDefinedInside, IsDefiningOperationInside}
use Rattle.pliron_core.specs.Erased.{IsSelfContained, after_erasing}
use Rattle.pliron_core.proofs.EraseInsideLemmas.{erased_inside}
use Rattle.pliron_core.proofs.HoldingLemmas.{block_held, block_inside, held_block, holder_is, inside_up, outside_itself, some_is}
use Rattle.pliron_core.proofs.InsideLemmas.{same_change}
use Rattle.pliron_core.proofs.SameTreeLemmas.{same_live}
use Rattle.pliron_core.proofs.StandingLemmas.{inside_live}
use Rattle.pliron_laws.specs.Datum.{Head, Meaning}
use Rattle.pliron_laws.specs.declared.fault.OptError.{OptError}
use Rattle.pliron_laws.specs.Folding.{MakesConstants}
use Rattle.pliron_laws.specs.Linked.{IsWellLinked}
use Rattle.pliron_laws.specs.Outcomes.{materialised_at}
use Rattle.pliron_laws.proofs.ConstantLemmas.{put_before_is}
use Rattle.pliron_laws.proofs.LinkedLemmas.{linked_put, linked_same, put_is}
use Rattle.pliron_laws.proofs.PutLinks.{linked_first}
use Rattle.pliron_theory.specs.Change.{IsPassChange}
use Rattle.pliron_theory.specs.Keeps.{KeepsRuns}
use Rattle.pliron_theory.specs.Rewrites.{BecomesIfAccepted, ErasesUnused, IsPoint}
use Rattle.pliron_theory.proofs.ChangeLemmas.{change_refl}
use Rattle.pliron_theory.proofs.PutInside.{result_inside, argument_inside}
use Rattle.pliron_rewrite_blocks.proofs.RewriteLinks.{erased_links}
use Rattle.pliron_pass_rewrites.specs.Definitions.{definition_point}

pub err_weaker : {A E : Type 0} (r : Result A E) {P Q : Type 0} → (P → Q) → OnErr r P → OnErr r Q
err_weaker (Ok a) f h = tt
err_weaker (Err e) f h = f h

-- erasing

pub erased_same : (side_effects : Head → Option Bool) (op : ℕ) (t u : Tree) (status : IRStatus) → ErasesUnused side_effects op t u status → status ≡ Unchanged → u ≡ t
erased_same side_effects op t u Changed is e = absurd (cc)
erased_same side_effects op t u Unchanged is e = is.1

module _ (m : Meaning) (t u : Tree) (holder op : ℕ) (w : IsTree t) (wu : IsTree u) (held : IsInside t holder op) (contained : IsSelfContained t op) (linked : IsWellLinked m t holder) (runs : KeepsRuns m t u) where
  unchanged : u ≡ t → IsPassChange m t u holder
  unchanged e = subst (λ z. IsPassChange m t z holder) (sym e) (change_refl m t holder (inside_live t w.joined held).0 linked)

  deleted : u ≡ after_erasing t op → IsPassChange m t u holder
  deleted e =
      let w' : IsTree (after_erasing t op) = subst IsTree e wu in
      let live = inside_live t w.joined held in
      let inside = erased_inside t holder op w w'.joined held in
      subst (λ z. IsPassChange m t z holder) (sym e) (record {
        liveness = (inside.operations holder (outside_itself w.joined.rooted live.0)).0.0;
        linked = erased_links m t op w w' live.1 contained holder linked;
        inside = inside;
        runs = subst (KeepsRuns m t) e runs;
      })

  pub erased_passes : (side_effects : Head → Option Bool) (r : Result IRStatus OptError) → IfOk r (λ status. ErasesUnused side_effects op t u status) → OnErr r (u ≡ t) → IsPassChange m t u holder
  erased_passes side_effects (Ok Changed) is err = deleted is.1
  erased_passes side_effects (Ok Unchanged) is err = unchanged is.1
  erased_passes side_effects (Err e) is err = unchanged err

-- constants

pub put_same : (accepts : AttrObj → Bool) (head : AttrObj → Head) (attr : AttrObj) (t u : Tree) (v : ℕ) (status : IRStatus) → BecomesIfAccepted accepts attr (materialised_at t (definition_point (definition_of t v)) v (head attr)) t u status → status ≡ Unchanged → u ≡ t
put_same accepts head attr t u v Changed is e = absurd (cc)
put_same accepts head attr t u v Unchanged is e = is.1

-- what holds a block, or what a value is defined inside, is live
holds_live : (t : Tree) (holder b : ℕ) → IsJoined t → HoldsBlock t holder b → IsLive t holder
holds_live t holder b w (k, e, inl s) = let h = block_held t b w (held_block t b k e) in subst (IsLive t) (some_is (sym h.5 ∙ e) ∙ s) h.6
holds_live t holder b w (k, e, inr i) = (inside_live t w i).0

defined_live : (t : Tree) (holder : ℕ) → IsJoined t → (d : Option Def) → IsDefiningOperationInside t holder d → IsLive t holder
defined_live t holder w None inside = elim inside [ ]
defined_live t holder w (Some (ResultOf k i)) inside = (inside_live t w inside).0
defined_live t holder w (Some (Argument b i)) held = holds_live t holder b w held

-- the value is defined at a place for new operations
pub defined_point : (t : Tree) (holder : ℕ) → IsJoined t → (d : Option Def) → IsDefiningOperationInside t holder d → IsPoint t (definition_point d)
defined_point t holder w None inside = elim inside [ ]
defined_point t holder w (Some (ResultOf k i)) inside =
    let up = inside_up inside in
    ((inside_live t w inside).1, ap is_some (holder_is t k up.0 up.1).1)
defined_point t holder w (Some (Argument b i)) held = held_block t b held.0 held.1

module _ (m : Meaning) (accepts : AttrObj → Bool) (head : AttrObj → Head) (makes : MakesConstants m accepts head) (attr : AttrObj) (t u : Tree) (holder v : ℕ) (w : IsTree t) (linked : IsWellLinked m t holder) (runs : KeepsRuns m t u) where
  -- a constant is put in a block inside the holder
  put_links : (d : Option Def) → IsMadeBy t v d → IsDefiningOperationInside t holder d → IsTrue (accepts attr) → IsInsideChange t (materialised_at t (definition_point d) v (head attr)) holder × IsWellLinked m (materialised_at t (definition_point d) v (head attr)) holder
  put_links None made inside accepted = elim made [ ]
  put_links (Some (ResultOf k i)) made inside accepted =
      let up = inside_up inside in
      let at = holder_is t k up.0 up.1 in
      let is = put_before_is t k v (head attr) (BeforeOperation k) refl ∙ put_is t k v at.0 (head attr) w at.1 in
      subst (λ z. IsInsideChange t z holder × IsWellLinked m z holder) (sym is) (
        result_inside t holder at.0 v (head attr) (put_before k (length t.operations) (body_of t at.0)) w (block_inside at.0 at.1 inside) k i (inside_live t w.joined inside).1 at.1 made,
        linked_put t k v at.0 (head attr) w at.1 m attr holder (makes attr accepted) linked,
      )
  put_links (Some (Argument b i)) made held accepted = (
    argument_inside t holder b v (head attr) (length t.operations ∷ body_of t b) w held i made,
    linked_first t v b (head attr) w (held_block t b held.0 held.1) m attr holder (makes attr accepted) linked,
  )

  module _ (wu : IsTree u) (made : IsDefined t v) (inside : IsDefinedInside t holder v) where
    abbrev new : Tree
    new = materialised_at t (definition_point (definition_of t v)) v (head attr)

    live : IsLive t holder
    live = defined_live t holder w.joined (definition_of t v) inside

    put : IsTrue (accepts attr) → u ≡ new → IsPassChange m t u holder
    put accepted e =
        let h = put_links (definition_of t v) made inside accepted in
        let change : IsInsideChange t u holder = subst (λ z. IsInsideChange t z holder) (sym e) h.0 in
        record {
          liveness = (change.operations holder (outside_itself w.joined.rooted live)).0.0;
          linked = subst (λ z. IsWellLinked m z holder) (sym e) h.1;
          inside = change;
          runs = runs;
        }

    same : IsSameTree t u → IsPassChange m t u holder
    same s = record {
      liveness = (same_live t u w.joined wu.joined s holder).0 live;
      linked = linked_same m t u holder w wu s linked;
      inside = same_change t u holder w.joined wu.joined s;
      runs = runs;
    }

    pub put_passes : (r : Result IRStatus OptError) → IfOk r (λ status. BecomesIfAccepted accepts attr new t u status) → OnErr r (IsSameTree t u) → IsPassChange m t u holder
    put_passes (Ok Changed) is err = put is.0 is.1
    put_passes (Ok Unchanged) is err = subst (λ z. IsPassChange m t z holder) (sym is.1) (change_refl m t holder live linked)
    put_passes (Err e) is err = same err
