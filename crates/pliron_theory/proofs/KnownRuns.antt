-- What is known by closed facts about values is what every run reads.
use Rattle.std.proofs.Common.{◌≡◌, ◌⊎◌, inl, inr, ℕ, Bool, true, List, [], ◌∷◌, map, Option, Some, None, slice_get, refl, sym, ap, ap₂, ◌∙◌, subst, arith}
use Rattle.pliron_core.specs.declared.attrs.AttrObj.{AttrObj}
use Rattle.pliron_core.specs.declared.attrs.Head.{Head}
use Rattle.pliron_core.specs.Tree.{Tree, In, IsInside, IsWithin, HoldsBlock, first_of, successors_of, arguments_of, regions_of, block_parent_operation_of, region_parent_of, layout_of, up_from, op_of_slot}
use Rattle.pliron_core.specs.Invariant.{IsTree}
use Rattle.pliron_core.proofs.HoldingLemmas.{some_is, in_slice, slice_in, inside_up}
use Rattle.pliron_laws.specs.Datum.{Meaning}
use Rattle.pliron_laws.specs.Tree.{Operation, op_at, shape_of}
use Rattle.pliron_laws.specs.Folding.{Constants, Feasible, AnswersTrue, AnswersJumps}
use Rattle.pliron_laws.specs.Entries.{names_none}
use Rattle.pliron_laws.specs.Linked.{EndsBlock}
use Rattle.pliron_theory.specs.Keeps.{IsFit}
use Rattle.pliron_theory.specs.Knowing.{AreClosedUnderFolding, FactsLaw}
use Rattle.pliron_theory.specs.LatticeValues.{LatticeValue, lattice_constant, value_of_answer, LatticeValues, Says, operand_constants, answers_of}
use Rattle.pliron_theory.specs.Sound.{IsRightResult}
use Rattle.pliron_laws.proofs.Records.{op_shows}
use Rattle.pliron_theory.proofs.FactLattice.{at_most_refl, unknown_below}
use Rattle.pliron_theory.proofs.SoundRuns.{PassesForwarded, none_well, MayMove, AreKept, constants_read}

-- where blocks stand that a run enters
module _ (t : Tree) (w : IsTree t) (root : ℕ) where
  first_in : (xs : List ℕ) (a : ℕ) → first_of xs None ≡ Some a → In a xs
  first_in [] a e = grind arith
  first_in (x ∷ xs) a e = inl (sym (some_is e))

  -- the entry of a region of an operation
  pub entry_held : (k r a : ℕ) → IsWithin t root k → In r (regions_of t k) → first_of (layout_of t r) None ≡ Some a → HoldsBlock t root a
  entry_held k r a within i ae =
      let at = slice_in (regions_of t k) r i in
      (k, ap (λ o. up_from o (λ r. region_parent_of t r)) (w.layouts.owned a r (first_in (layout_of t r) a ae)) ∙ ap op_of_slot (w.joined.regions k at.0 r at.1), within)

  -- a block beside the one that an operation ends
  beside_held : (k c : ℕ) → IsInside t root k → (ends : EndsBlock t k) → In c (successors_of t k) → HoldsBlock t root c
  beside_held k c inside ends i =
      let up = inside_up inside in
      (up.0, ap (λ o. up_from o (λ r. region_parent_of t r)) (ends.own_region c i) ∙ sym (ap (λ o. up_from o (λ b. block_parent_operation_of t b)) ends.in_block) ∙ up.1, up.2)

  -- and one that an operation inside leads to
  pub target_held : (m : Meaning) → IsFit m t root → (k i b : ℕ) (o : Operation) → IsInside t root k → op_at t k ≡ Some o → slice_get o.successors i ≡ Some b → HoldsBlock t root b
  target_held m f k i b o inside e at =
      let there : In b (successors_of t k) = subst (In b) (sym (op_shows t k o e).successors) (in_slice o.successors i b at) in
      beside_held k b inside (f.linked.edges k b there (inl inside)) there

-- runs may come to every block
abbrev pub Anywhere : ℕ → Type 0
Anywhere b = Unit {0}

-- constants that are known of some values, as facts
abbrev pub everywhere : (ℕ → Option AttrObj) → LatticeValues
everywhere facts = record { is_executable = λ b. true; lattice_value = λ v. value_of_answer (facts v) }

known_answered : (o : Option AttrObj) → lattice_constant (value_of_answer o) ≡ o
known_answered None = refl
known_answered (Some c) = refl

-- what folds are handed is what is known
pub handed_everywhere : (facts : ℕ → Option AttrObj) (vs : List ℕ) → operand_constants (everywhere facts) vs ≡ map facts vs
handed_everywhere facts [] = refl
handed_everywhere facts (v ∷ vs) = ap₂ (λ o os. o ∷ os) (known_answered (facts v)) (handed_everywhere facts vs)

module _ (x : Says) (t : Tree) (root : ℕ) (facts : ℕ → Option AttrObj) (w : IsTree t) (f : IsFit x.meaning t root) (closed : AreClosedUnderFolding x.meaning x.can_fold x.constants t root facts) where
  abbrev read : ℕ → LatticeValue
  read v = value_of_answer (facts v)

  results : (k i v : ℕ) (o : Operation) → MayMove t root Anywhere k → op_at t k ≡ Some o → slice_get o.results i ≡ Some v → IsRightResult x t (everywhere facts) read k i v o
  results k i v o may e at = by (facts v) refl
    where
      by : (a : Option AttrObj) → facts v ≡ a → IsRightResult x t (everywhere facts) read k i v o
      by None is = inl (ap value_of_answer is)
      by (Some c) is =
          let r = closed.results k i v c o may.0 e at is in
          let said : slice_get (answers_of x t (everywhere facts) o) i ≡ Some (Some c) = ap (λ lattice_constant. slice_get (x.constants (shape_of x.meaning t o) lattice_constant) i) (handed_everywhere facts o.operands) ∙ r.1 in
          inr (inl (r.0, λ a there. inr (inr (ap value_of_answer (is ∙ some_is (sym said ∙ there))))))

  pub kept_everywhere : AreKept x t root Anywhere (everywhere facts) read
  kept_everywhere = record {
    finer = λ v. at_most_refl (read v);
    root_visits = λ r b i e. (tt, λ v j. ap value_of_answer (closed.arguments b v (entry_held t w root root r b (inl refl) i e) j));
    visits = λ k i r b o may at there e. (tt, λ j v a. unknown_below read read o.operands (x.entry_operands (shape_of x.meaning t o) i j) v (ap value_of_answer (closed.arguments b v (entry_held t w root k r b (inr may.0) (subst (In r) (sym (op_shows t k o at).regions) (in_slice o.regions i r there)) e) (in_slice (arguments_of t b) j v a))));
    jumps = λ k i b o may e go. (tt, λ j v at. inl (ap value_of_answer (closed.arguments b v (target_held t w root x.meaning f k i b o may.0 e go.0) (in_slice (arguments_of t b) j v at))));
    results = results;
  }

pub facts_read : (m : Meaning) (can_fold can_fold_branch : Head → Bool) (constants : Constants) (feasible : Feasible) → AnswersTrue m can_fold constants → AnswersJumps m can_fold_branch feasible → PassesForwarded m → FactsLaw m can_fold constants
facts_read m can_fold can_fold_branch constants feasible answers jumps passes t root facts w f closed v c e =
    let x : Says = record { meaning = m; can_fold = can_fold; can_fold_branch = can_fold_branch; constants = constants; feasible = feasible; entry_operands = names_none } in
    constants_read x answers jumps passes (none_well m can_fold can_fold_branch constants feasible) t root Anywhere (everywhere facts) (λ v. value_of_answer (facts v)) w f (kept_everywhere x t root facts w f closed) v c (ap value_of_answer e)
