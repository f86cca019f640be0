-- A result that folding answers with no operand known is read as that constant.
use Rattle.std.proofs.Common.{◌≡◌, inl, inr, ⊎_elim, ℕ, Bool, List, [], ◌∷◌, length, Option, Some, None, slice_get, refl, sym, ap, ◌∙◌, subst, IsTrue, if◌then◌else◌, nat_eq}
use Rattle.std.specs.Prelude.{replicate}
use Rattle.std.proofs.lemmas.Bool.Decides.{eqb_tells}
use Rattle.pliron_core.specs.declared.attrs.AttrObj.{AttrObj}
use Rattle.pliron_core.specs.declared.context.Def.TheVariants.{Result, Argument}
use Rattle.pliron_core.specs.Tree.{Tree, In, results_of, arguments_of, definition_of}
use Rattle.pliron_core.specs.Invariant.{IsTree}
use Rattle.pliron_core.proofs.HoldingLemmas.{some_is, not_none, in_slice, slice_in}
use Rattle.pliron_laws.specs.Datum.{Head, Meaning}
use Rattle.pliron_laws.specs.Tree.{Operation, op_at, shape_of}
use Rattle.pliron_laws.specs.Folding.{Constants, Feasible, AnswersTrue, AnswersJumps}
use Rattle.pliron_laws.proofs.Records.{op_shows}
use Rattle.pliron_theory.specs.LatticeValues.{LatticeValue, value_of_answer as fact_of, LatticeValues, Says, operand_constants, answers_of}
use Rattle.pliron_theory.specs.Sound.{IsRightResult}
use Rattle.pliron_theory.proofs.SoundRuns.{PassesForwarded, none_well, AreKept, constants_read}
use Rattle.pliron_theory.proofs.FactLattice.{unknown_below}
use Rattle.pliron_laws.specs.Entries.{names_none}
use Rattle.pliron_theory.proofs.KnownRuns.{Anywhere, everywhere}
use Rattle.pliron_theory.specs.Answered.{IsAnswered, AnsweredLaw}

-- nothing is known but of one value
abbrev pub only_fact : ℕ → AttrObj → ℕ → Option AttrObj
only_fact v c x = if nat_eq x v then Some c else None

pub fact_here : (v : ℕ) (c : AttrObj) → only_fact v c v ≡ Some c
fact_here v c = ⊎_elim (λ y. ap (λ b. if b then Some c else None) y.0) (λ n. absurd (n.1 refl)) (eqb_tells v v)

pub fact_there : (v : ℕ) (c : AttrObj) (x : ℕ) (d : AttrObj) → only_fact v c x ≡ Some d → (x ≡ v) × (c ≡ d)
fact_there v c x d e = ⊎_elim
    (λ y. (y.1, some_is (ap (λ b. if b then Some c else None) (sym y.0) ∙ e)))
    (λ n. absurd (not_none (ap (λ b. if b then Some c else None) (sym n.0) ∙ e)))
    (eqb_tells x v)

no_fact : (v : ℕ) (c : AttrObj) (x : ℕ) → (x ≡ v → ⊥) → only_fact v c x ≡ None
no_fact v c x ne = ⊎_elim (λ y. absurd (ne y.1)) (λ n. ap (λ b. if b then Some c else None) n.0) (eqb_tells x v)

-- folds are handed nothing
abbrev nothing : LatticeValues
nothing = everywhere (λ v. None)

handed_nothing : (vs : List ℕ) → operand_constants nothing vs ≡ replicate (length vs) None
handed_nothing [] = refl
handed_nothing (v ∷ vs) = ap (λ l. None ∷ l) (handed_nothing vs)

module _ (x : Says) (t : Tree) (root v : ℕ) (c : AttrObj) (w : IsTree t) (h : IsAnswered x.meaning x.can_fold x.constants t v c) where
  abbrev read : ℕ → LatticeValue
  read y = fact_of (only_fact v c y)

  made : definition_of t v ≡ Some (Result h.maker h.index)
  made = w.joined.results h.maker h.index v (ap (λ l. slice_get l h.index) (op_shows t h.maker h.operation h.liveness).results ∙ h.result)

  -- nothing is said of an argument, since the one value is a result
  argument : (b y : ℕ) → In y (arguments_of t b) → read y ≡ fact_of None
  argument b y i = ap fact_of (no_fact v c y (λ s. apart (sym (w.joined.arguments b at.0 y at.1) ∙ ap (definition_of t) s ∙ made)))
    where
      at : (j : ℕ) × (slice_get (arguments_of t b) j ≡ Some y)
      at = slice_in (arguments_of t b) y i

      apart : Some (Argument b at.0) ≡ Some (Result h.maker h.index) → ⊥
      apart e = cc

  only_maker : (k i : ℕ) → slice_get (results_of t k) i ≡ Some v → (k ≡ h.maker) × (i ≡ h.index)
  only_maker k i at = let e : Result k i ≡ Result h.maker h.index = some_is (sym (w.joined.results k i v at) ∙ made) in (cc, cc)

  result : (k i y : ℕ) (o : Operation) → op_at t k ≡ Some o → slice_get o.results i ≡ Some y → IsRightResult x t nothing read k i y o
  result k i y o e at = by (only_fact v c y) refl
    where
      by : (a : Option AttrObj) → only_fact v c y ≡ a → IsRightResult x t nothing read k i y o
      by None is = inl (ap fact_of is)
      by (Some d) is =
          let same = fact_there v c y d is in
          let z = only_maker k i (ap (λ l. slice_get l i) (op_shows t k o e).results ∙ at ∙ ap Some same.0) in
          let one : h.operation ≡ o = some_is (sym h.liveness ∙ ap (op_at t) (sym z.0) ∙ e) in
          let none : slice_get (answers_of x t nothing h.operation) h.index ≡ Some (Some c) = ap (λ known. slice_get (x.constants (shape_of x.meaning t h.operation) known) h.index) (handed_nothing h.operation.operands) ∙ h.answers in
          let said : slice_get (answers_of x t nothing o) i ≡ Some (Some c) = subst (λ p. slice_get (answers_of x t nothing p) i ≡ Some (Some c)) one (ap (slice_get (answers_of x t nothing h.operation)) z.1 ∙ none) in
          inr (inl (subst (λ p. IsTrue (x.can_fold p.head)) one h.folds, λ a there. inr (inr (ap fact_of (is ∙ ap Some (sym same.1) ∙ some_is (sym said ∙ there))))))

  pub kept_answered : AreKept x t root Anywhere nothing read
  kept_answered = record {
    finer = λ y. inr (inl refl);
    root_visits = λ r b i e. (tt, λ y j. argument b y j);
    visits = λ k i r b o may at there e. (tt, λ j y a. unknown_below read read o.operands (x.entry_operands (shape_of x.meaning t o) i j) y (argument b y (in_slice (arguments_of t b) j y a)));
    jumps = λ k i b o may e go. (tt, λ j y at. inl (argument b y (in_slice (arguments_of t b) j y at)));
    results = λ k i y o may e at. result k i y o e at;
  }

pub answered : (m : Meaning) (can_fold can_fold_branch : Head → Bool) (constants : Constants) (feasible : Feasible) → AnswersTrue m can_fold constants → AnswersJumps m can_fold_branch feasible → PassesForwarded m → AnsweredLaw m can_fold constants
answered m can_fold can_fold_branch constants feasible answers jumps passes t root v c w f h =
    let x : Says = record { meaning = m; can_fold = can_fold; can_fold_branch = can_fold_branch; constants = constants; feasible = feasible; entry_operands = names_none } in
    constants_read x answers jumps passes (none_well m can_fold can_fold_branch constants feasible) t root Anywhere nothing (λ y. fact_of (only_fact v c y)) w f (kept_answered x t root v c w h) v c (ap fact_of (fact_here v c))
