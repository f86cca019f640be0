-- What an operation without successors and regions and with one result says of the datum of its result.
use Rattle.std.proofs.Common.{◌≡◌, ◌⊎◌, ◌&&◌, ◌<◌, ℕ, Bool, true, false, true≢false, nat_eq, List, [], ◌∷◌, length, Option, Some, None, IsTrue, slice_get, if◌then◌else◌, refl, sym, ap, ◌∙◌, subst, arith}
use Rattle.pliron_core.specs.declared.attrs.AttrObj.{AttrObj}
use Rattle.pliron_core.specs.Tree.{Tree}
use Rattle.pliron_core.proofs.HoldingLemmas.{some_is, not_none}
use Rattle.pliron_laws.specs.Acting.{Begins, AgreeWithKnown}
use Rattle.pliron_laws.specs.Datum.{Datum, Empty, datum_of, Head, Shape, Give, Meaning}
use Rattle.pliron_laws.specs.Folding.{AnswersTrue, MakesConstants}
use Rattle.pliron_laws.specs.Laws.{Admitted, KeepsCounts, GivesAtOnce}
use Rattle.pliron_laws.specs.Linked.{IsAdmitted}
use Rattle.pliron_laws.specs.States.{Environment, data_of, prepend_optional}
use Rattle.pliron_laws.specs.Tree.{Operation, op_at, shape_of}
use Rattle.pliron_theory.proofs.Alike.{data_long}
use Rattle.pliron_theory.proofs.MadeKeeps.{it_is}
use Rattle.pliron_theory.proofs.SweptKeeps.{admitted_shape}
use Rattle.pliron_rewrite_equals.specs.Current.{IsCurrent}
use Rattle.pliron_rewrite_rules.specs.Tables.{RuleTables}
use Rattle.pliron_rewrite_rules.specs.Insertions.{pure_shape}
use Rattle.pliron_rewrite_rules.proofs.Inserted.{shape_pure}
use Rattle.pliron_rewrite_rules.specs.Seen.{is_pure_operation, pure_only, constant_of}
use Rattle.pliron_rewrite_rules.specs.Views.{only_given, result_datum}
use Rattle.pliron_laws.specs.Answers.{is_harmless, answer_in}

-- what the rewrites of rules ask of a dialect
pub record IsLawful (x : RuleTables) : Type 0 where
  pub counts : KeepsCounts x.meaning
  pub at_once : GivesAtOnce x.meaning x.side_effects
  pub truly : AnswersTrue x.meaning x.can_fold x.constants
  pub makes : MakesConstants x.meaning x.accepts x.constant_head
  pub plain : (c : AttrObj) → IsTrue (x.accepts c) → x.meaning.is_branch (x.constant_head c) ≡ false
  -- a branch has no results
  pub alone : (s : Shape) → Admitted x.meaning s → IsTrue (x.meaning.is_branch s.head) → s.results ≡ 0

-- the operation has this one result, and neither successors nor regions
pub record IsSingle (t : Tree) (k : ℕ) (o : Operation) (v : ℕ) : Type 0 where
  pub liveness : op_at t k ≡ Some o
  pub results : o.results ≡ v ∷ []
  pub no_successors : o.successors ≡ []
  pub no_regions : o.regions ≡ []

and_split : (a b : Bool) → IsTrue (a && b) → IsTrue a × IsTrue b
and_split true b e = (refl, e)
and_split false b e = absurd (true≢false (sym e))

none_there : (xs : List ℕ) → IsTrue (nat_eq (length xs) 0) → xs ≡ []
none_there [] e = refl
none_there (x ∷ xs) e = let n = it_is (length (x ∷ xs)) 0 e in absurd (omega (arith, n))

one_there : (xs : List ℕ) → IsTrue (nat_eq (length xs) 1) → (v : ℕ) × (xs ≡ v ∷ [])
one_there [] e = let n = it_is 0 1 e in absurd (omega (arith, n))
one_there (x ∷ []) e = (x, refl)
one_there (x ∷ y ∷ xs) e = let n = it_is (length (x ∷ y ∷ xs)) 1 e in absurd (omega (arith, n))

harmless_is : (o : Option Bool) → IsTrue (is_harmless o) → o ≡ Some false
harmless_is None e = absurd (true≢false (sym e))
harmless_is (Some true) e = absurd (true≢false (sym e))
harmless_is (Some false) e = refl

-- what passes the test of purity
pub record PassesTest (x : RuleTables) (t : Tree) (k : ℕ) (o : Operation) : Type 0 where
  pub result : ℕ
  pub single : IsSingle t k o result
  pub harmless : x.side_effects o.head ≡ Some false

pub pure_passes : (x : RuleTables) (t : Tree) (k : ℕ) (o : Operation) → pure_only x (op_at t k) ≡ Some o → PassesTest x t k o
pure_passes x t k o e = go (op_at t k) refl e
  where
    go : (q : Option Operation) → op_at t k ≡ q → pure_only x q ≡ Some o → PassesTest x t k o
    go None at f = absurd (not_none f)
    go (Some q) at f = tested (is_pure_operation x q) refl f
      where
        tested : (b : Bool) → is_pure_operation x q ≡ b → (if b then Some q else None) ≡ Some o → PassesTest x t k o
        tested false n g = absurd (not_none g)
        tested true y g =
            let same : q ≡ o = some_is g in
            let a = and_split (nat_eq (length q.results) 1) (nat_eq (length q.successors) 0 && (nat_eq (length q.regions) 0 && is_harmless (x.side_effects q.head))) y in
            let b = and_split (nat_eq (length q.successors) 0) (nat_eq (length q.regions) 0 && is_harmless (x.side_effects q.head)) a.1 in
            let c = and_split (nat_eq (length q.regions) 0) (is_harmless (x.side_effects q.head)) b.1 in
            let r = one_there q.results a.0 in
            subst (PassesTest x t k) same (record { result = r.0; single = record { liveness = at; results = r.1; no_successors = none_there q.successors b.0; no_regions = none_there q.regions c.0 }; harmless = harmless_is (x.side_effects q.head) c.1 })

one_datum : (o : Option Datum) (ds : List Datum) → prepend_optional o (Some []) ≡ Some ds → (d : Datum) × (o ≡ Some d) × (ds ≡ d ∷ [])
one_datum None ds e = absurd (not_none e)
one_datum (Some d) ds e = (d, refl, sym (some_is e))

-- the first answer of a fold is the datum, where it answers
known_first : (answers : List (Option AttrObj)) (c : AttrObj) (d : Datum) → answer_in (slice_get answers 0) ≡ Some c → AgreeWithKnown answers (d ∷ []) → d ≡ datum_of c
known_first [] c d e is = absurd (not_none e)
known_first (None ∷ answers) c d e is = absurd (not_none e)
known_first (Some a ∷ answers) c d e is = sym is.0 ∙ ap datum_of (some_is e)

module _ (x : RuleTables) (laws : IsLawful x) (t : Tree) (env : Environment) (k v : ℕ) (o : Operation) (p : IsSingle t k o v) (a : IsAdmitted x.meaning t k) where
  plain : x.meaning.is_branch o.head ≡ false
  unfolding shape_of
  plain = go (x.meaning.is_branch o.head) refl
    where
      go : (b : Bool) → x.meaning.is_branch o.head ≡ b → x.meaning.is_branch o.head ≡ false
      go false e = e
      go true e =
          let none : length o.results ≡ 0 = laws.alone (shape_of x.meaning t o) (admitted_shape x.meaning t k o p.liveness a) e in
          let one : length o.results ≡ 1 = ap length p.results in
          absurd (omega (arith, none, one))

  -- also in another tree
  pub single_shape : (u : Tree) → shape_of x.meaning u o ≡ pure_shape o.head (length o.operands)
  single_shape u = shape_pure x.meaning u o o.head plain refl (ap length p.results) p.no_successors p.no_regions

  module _ (c : IsCurrent x.meaning t env k) where
    same : c.operation ≡ o
    same = some_is (sym c.liveness ∙ p.liveness)

    has : data_of env o.operands ≡ Some c.input
    has = subst (λ z. data_of env z.operands ≡ Some c.input) same c.has

    gives : x.meaning.act (pure_shape o.head (length o.operands)) Empty c.input ≡ Give c.given
    gives = subst (λ s. x.meaning.act s Empty c.input ≡ Give c.given) (single_shape t) (subst (λ z. x.meaning.act (shape_of x.meaning t z) Empty c.input ≡ Give c.given) same c.gives)

    result : (d : Datum) × (env v ≡ Some d) × (c.given ≡ d ∷ [])
    result = one_datum (env v) c.given (subst (λ vs. data_of env vs ≡ Some c.given) p.results (subst (λ z. data_of env z.results ≡ Some c.given) same c.results))

    -- the datum of the result is what the head gives on the data of the operands
    pub single_datum : (d : Datum) × (env v ≡ Some d) × (result_datum x.meaning o.head (data_of env o.operands) ≡ Some d)
    single_datum = (
      result.0,
      result.1,
      ap (result_datum x.meaning o.head) has
          ∙ ap (λ n. only_given (x.meaning.act (pure_shape o.head n) Empty c.input)) (data_long env o.operands c.input has)
          ∙ ap only_given gives
          ∙ ap (λ ds. only_given (Give ds)) result.2,
    )

    -- a constant that it folds to is that datum
    pub constant_datum : (u : Tree) (attr : AttrObj) → constant_of x u o ≡ Some attr → env v ≡ Some (datum_of attr)
    constant_datum u attr e = go (nat_eq (length o.operands) 0 && x.can_fold o.head) refl e
      where
        go : (b : Bool) → (nat_eq (length o.operands) 0 && x.can_fold o.head) ≡ b → (if b then answer_in (slice_get (x.constants (shape_of x.meaning u o) []) 0) else None) ≡ Some attr → env v ≡ Some (datum_of attr)
        go false n f = absurd (not_none f)
        go true y f =
            let both = and_split (nat_eq (length o.operands) 0) (x.can_fold o.head) y in
            let none = none_there o.operands both.0 in
            let empty : c.input ≡ [] = sym (some_is (sym (ap (data_of env) none) ∙ has)) in
            let s : Shape = pure_shape o.head (length o.operands) in
            let ad : Admitted x.meaning s = subst (Admitted x.meaning) (single_shape t) (admitted_shape x.meaning t k o p.liveness a) in
            let bare : 0 ≡ length o.operands = sym (ap length none) in
            let told : AgreeWithKnown (x.constants s []) c.given = laws.truly.gives s ad both.1 [] [] bare tt false Empty [] c.given Begins (ap (x.meaning.act s Empty) (sym empty) ∙ gives) in
            let first : answer_in (slice_get (x.constants s []) 0) ≡ Some attr = ap (λ z. answer_in (slice_get (x.constants z []) 0)) (sym (single_shape u)) ∙ f in
            result.1 ∙ ap Some (known_first (x.constants s []) attr result.0 first (subst (AgreeWithKnown (x.constants s [])) result.2 told))
