-- Leaves of a pattern, and results of what is before an operation, may be used where its result is, and just before it.
use Rattle.std.proofs.Common.{◌≡◌, ◌⊎◌, ℕ, Bool, Option, Some, IsSome, slice_get, inl, inr, ⊎_elim, refl, sym, ap, ◌∙◌, subst}
use Rattle.pliron_core.specs.declared.context.Def.TheVariants.{Result}
use Rattle.pliron_core.specs.Changes.{IsDefiningOperationInside}
use Rattle.pliron_core.specs.Tree.{Tree, In, IsInside, operands_of, successors_of, results_of, region_parent_of, definition_of}
use Rattle.pliron_core.specs.Invariant.{IsTree}
use Rattle.pliron_core.proofs.HoldingLemmas.{some_is, slice_in, holder_by, block_held, block_inside, inside_block, inside_by, within_inside}
use Rattle.pliron_laws.specs.Datum.{Head, Meaning}
use Rattle.pliron_laws.specs.Laws.{KeepsCounts, GivesAtOnce}
use Rattle.pliron_laws.specs.States.{Environment}
use Rattle.pliron_laws.specs.Tree.{shape_of}
use Rattle.pliron_theory.specs.Keeps.{IsFit, with_roots}
use Rattle.pliron_laws.specs.Root.{IsDominated}
use Rattle.pliron_theory.specs.Renaming.{MayUse}
use Rattle.pliron_theory.specs.Sweeping.{GivesNow}
use Rattle.pliron_theory.proofs.Bound.{made_within}
use Rattle.pliron_theory.proofs.PutUses.{maker_holds, holds_maker}
use Rattle.pliron_rewrite_equals.specs.OperationDominance.{DominatesOperation}
use Rattle.pliron_rewrite_equals.proofs.OperationDominance.{dominated_stands, stands_dominated, stands_trans}
use Rattle.pliron_rewrite_equals.specs.Current.{IsCurrent}
use Rattle.pliron_rewrite_equals.proofs.Passing.{dominated_behind}
use Rattle.pliron_rewrite_equals.proofs.Redundancy.{chosen_counts}
use Rattle.pliron_rewrite_rules.specs.Equations.{IsInSlice, Makes, MakesOperand, IsInPattern, AreEqual}
use Rattle.pliron_rewrite_rules.specs.Replacements.{IsLeaf, IsMadeBefore, IsAvailable, AtLeaf, MadeBefore, LeafLaw, ResultBeforeLaw}
use Rattle.pliron_rewrite_rules.proofs.Equations.{feeder_dominates, equations_keep}

module _ (m : Meaning) (t : Tree) (w : IsTree t) (root : ℕ) (f : IsFit m t root) where
  -- what uses a value that is defined inside the root is inside it
  pub user_inside : (k v : ℕ) → In v (operands_of t k) → IsDefiningOperationInside t root (definition_of t v) → IsInside t root k
  user_inside k v used made =
      let d = f.defined.dominated k v used made in
      let y = block_held t d.block w.joined (subst IsSome (sym d.in_region) refl) in
      let r : y.0 ≡ d.region = some_is (sym y.2 ∙ d.in_region) in
      within_inside (inside_by y.1 (holder_by t d.around d.block y.1 d.in_block y.5) (made_within t root d.region y.1 (definition_of t v) (ap (region_parent_of t) (sym r) ∙ y.4) d.defined made)) d.holds

  -- a value that something inside the root feeds is defined inside it
  pub fed_inside : (v k : ℕ) → IsInSlice t v k → IsInside t root k → IsDefiningOperationInside t root (definition_of t v)
  fed_inside v k (Makes i e) inside = subst (IsDefiningOperationInside t root) (sym e) inside
  fed_inside v k (MakesOperand i j x feeds used e) inside = fed_inside v j feeds (user_inside j x used (subst (IsDefiningOperationInside t root) (sym e) inside))

  module _ (old new : ℕ) where
    leaf_uses : IsLeaf t old new → (user : ℕ) → In old (operands_of t user) → MayUse t root user new
    leaf_uses leaf user uses = record {
      own = λ inside.
          let own = f.defined.own_values user old inside uses in
          let x = feeder_dominates m t w root f old leaf.reader user leaf.slice own (f.defined.dominated user old uses own) in
          f.defined.own_values leaf.reader new x.0 leaf.reads;
      no_jumper = λ k inside ne r. f.defined.unused k new leaf.reader inside ne r leaf.reads;
      dominated = λ made.
          let inside = user_inside leaf.reader new leaf.reads made in
          let own = fed_inside old leaf.reader leaf.slice inside in
          let x = feeder_dominates m t w root f old leaf.reader user leaf.slice own (f.defined.dominated user old uses own) in
          dominated_behind t w leaf.reader user new (f.defined.dominated leaf.reader new leaf.reads made) x.1;
    }

  module _ (at v : ℕ) (b : IsMadeBefore t at v) where
    before_stands : DominatesOperation t b.maker at
    before_stands =
        let home = block_held t b.block w.joined (w.joined.all_in_place at b.block b.beside).1 in
        record {
          around = at;
          holds = inl refl;
          home = b.block;
          in_home = b.in_block;
          block = b.block;
          in_block = b.beside;
          region = home.0;
          home_region = home.2;
          in_region = home.2;
          passes = λ entry before done rest fe path split. inl (b.earlier done rest split);
        }

    made_def : definition_of t v ≡ Some (Result b.maker b.place)
    made_def = w.joined.results b.maker b.place v b.makes

    inside_made : IsInside t root at → IsDefiningOperationInside t root (definition_of t v)
    inside_made inside = subst (IsDefiningOperationInside t root) (sym made_def) (holds_maker t root b.block b.maker b.place b.in_block (block_inside b.block b.beside inside))

    made_inside : IsDefiningOperationInside t root (definition_of t v) → IsInside t root at
    made_inside x = inside_block b.block b.beside (maker_holds t root b.block (Some (Result b.maker b.place)) b.in_block (subst (IsDefiningOperationInside t root) made_def x))

    only_maker : (k : ℕ) → In v (results_of t k) → k ≡ b.maker
    only_maker k r =
        let j = slice_in (results_of t k) v r in
        let e : Result k j.0 ≡ Result b.maker b.place = some_is (sym (w.joined.results k j.0 v j.1) ∙ made_def) in
        cc

    -- what is made before may be used
    before_usable : MayUse t root at v
    before_usable = record {
      own = inside_made;
      no_jumper = λ k inside ne r. ne (ap (successors_of t) (only_maker k r) ∙ b.successors);
      dominated = λ made. stands_dominated t b.maker b.place at v made_def before_stands;
    }

    -- also where a result of the operation is used
    before_uses : (old i : ℕ) → slice_get (results_of t at) i ≡ Some old → (user : ℕ) → In old (operands_of t user) → MayUse t root user v
    before_uses old i listed user uses = record {
      own = λ inside. inside_made (subst (IsDefiningOperationInside t root) (w.joined.results at i old listed) (f.defined.own_values user old inside uses));
      no_jumper = λ k inside ne r. ne (ap (successors_of t) (only_maker k r) ∙ b.successors);
      dominated = λ made.
          let e = w.joined.results at i old listed in
          let d = f.defined.dominated user old uses (subst (IsDefiningOperationInside t root) (sym e) (made_inside made)) in
          stands_dominated t b.maker b.place user v made_def (stands_trans t w b.maker at user before_stands (dominated_stands t at i user old e d));
    }

  -- an operation in the slice of a result is the one that makes it, or dominates that one
  slice_before : (at i old k : ℕ) → definition_of t old ≡ Some (Result at i) → IsInSlice t old k → IsInside t root at → (k ≡ at) ⊎ ((x : IsInside t root k) × DominatesOperation t k at)
  slice_before at i old k e (Makes j g) inside = inl (same_maker (some_is (sym g ∙ e)))
    where
      same_maker : Result k j ≡ Result at i → k ≡ at
      same_maker r = cc
  slice_before at i old k e (MakesOperand n j x slice used g) inside = ⊎_elim
      (λ same.
      let here : In x (operands_of t at) = subst (λ z. In x (operands_of t z)) same used in
      let own = f.defined.own_values at x inside here in
      inr (subst (IsDefiningOperationInside t root) g own, dominated_stands t k n at x g (f.defined.dominated at x here own)))
      (λ y.
      let own = f.defined.own_values j x y.0 used in
      inr (subst (IsDefiningOperationInside t root) g own, stands_trans t w k j at (dominated_stands t k n j x g (f.defined.dominated j x used own)) y.1))
      (slice_before at i old j e slice inside)

  -- a leaf may be used
  leaf_usable : (at i old v : ℕ) → definition_of t old ≡ Some (Result at i) → IsLeaf t old v → MayUse t root at v
  leaf_usable at i old v e leaf = record {
    own = λ inside. ⊎_elim
        (λ same. f.defined.own_values at v inside (subst (λ z. In v (operands_of t z)) same leaf.reads))
        (λ y. f.defined.own_values leaf.reader v y.0 leaf.reads)
        (slice_before at i old leaf.reader e leaf.slice inside);
    no_jumper = λ k inside ne r. f.defined.unused k v leaf.reader inside ne r leaf.reads;
    dominated = λ made.
        let there = user_inside leaf.reader v leaf.reads made in
        let inside : IsInside t root at = subst (IsDefiningOperationInside t root) e (fed_inside old leaf.reader leaf.slice there) in
        let d = f.defined.dominated leaf.reader v leaf.reads made in
        ⊎_elim
        (λ same. subst (λ z. IsDominated t z v) same d)
        (λ y. dominated_behind t w leaf.reader at v d y.1)
        (slice_before at i old leaf.reader e leaf.slice inside);
  }

  pub available_usable : (at v : ℕ) → IsAvailable t at v → MayUse t root at v
  available_usable at v (AtLeaf old i listed leaf) = leaf_usable at i old v (w.joined.results at i old listed) leaf
  available_usable at v (MadeBefore b) = before_usable at v b

-- an equation doesn't depend on which heads may be those of roots
chosen_current : (m : Meaning) (chosen : Head → Bool) (t : Tree) (env : Environment) (k : ℕ) → IsCurrent (with_roots m chosen) t env k → IsCurrent m t env k
unfolding shape_of
chosen_current m chosen t env k x = record {
  operation = x.operation;
  liveness = x.liveness;
  input = x.input;
  has = x.has;
  given = x.given;
  gives = x.gives;
  results = x.results;
}

chosen_gives : (m : Meaning) (chosen : Head → Bool) (t : Tree) (k : ℕ) → GivesNow m t k → GivesNow (with_roots m chosen) t k
unfolding shape_of
chosen_gives m chosen t k g = g

chosen_pattern : (m : Meaning) (chosen : Head → Bool) (side_effects : Head → Option Bool) (t : Tree) (old new k : ℕ) → IsInPattern m side_effects t old new k → IsInPattern (with_roots m chosen) side_effects t old new k
chosen_pattern m chosen side_effects t old new k p = record { slice = p.slice; no_successors = p.no_successors; at_once = ⊎_elim (λ a. inl a) (λ g. inr (chosen_gives m chosen t k g)) p.at_once }

chosen_equal : (m : Meaning) (chosen : Head → Bool) (side_effects : Head → Option Bool) (t : Tree) (old new : ℕ) → AreEqual m side_effects t old new → AreEqual (with_roots m chosen) side_effects t old new
chosen_equal m chosen side_effects t old new equal env current = equal env (λ k p.
    let x = current k (chosen_pattern m chosen side_effects t old new k p) in
    (x.0, chosen_current m chosen t env k x.1))

pub leaves_keep : (m : Meaning) (side_effects : Head → Option Bool) → KeepsCounts m → GivesAtOnce m side_effects → LeafLaw m side_effects
leaves_keep m side_effects counts free t old new w leaf equal = λ chosen.
    equations_keep (with_roots m chosen) side_effects (chosen_counts m chosen counts) free t old new w (chosen_equal m chosen side_effects t old new equal)
    (λ root f user uses. leaf_uses (with_roots m chosen) t w root f old new leaf user uses)

pub results_keep : (m : Meaning) (side_effects : Head → Option Bool) → KeepsCounts m → GivesAtOnce m side_effects → ResultBeforeLaw m side_effects
results_keep m side_effects counts free t at i old new w made before equal = λ chosen.
    equations_keep (with_roots m chosen) side_effects (chosen_counts m chosen counts) free t old new w (chosen_equal m chosen side_effects t old new equal)
    (λ root f user uses. before_uses (with_roots m chosen) t w root f at new before old i made user uses)
