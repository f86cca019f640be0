-- Answers are put in the place of results.
use Rattle.std.proofs.Common.{◌≡◌, ◌↔◌, ◌<◌, ◌≤◌, ℕ, Bool, true, false, List, length, Option, Some, None, IsTrue, get_or, true≢false, inl, inr, ⊎_elim, slice_get, refl, sym, ap, ◌∙◌, subst}
use Rattle.pliron_core.specs.declared.attrs.IRStatus.{IRStatus}
use Rattle.pliron_core.specs.declared.attrs.IRStatus.TheVariants.{Changed, Unchanged}
use Rattle.std.proofs.lemmas.Option.{slice_get_past, slice_get_read}
use Rattle.pliron_core.specs.declared.attrs.AttrObj.{AttrObj}
use Rattle.pliron_core.specs.declared.context.Def.TheVariants.{Result, Argument}
use Rattle.pliron_core.specs.Invariant.{IsTree}
use Rattle.pliron_core.specs.Tree.{Tree, In, IsDefined, IsLive, IsMadeBy, head_of, operands_of, results_of, definition_of}
use Rattle.pliron_core.proofs.HoldingLemmas.{in_slice, slice_in, some_is, some_of}
use Rattle.pliron_core.specs.Writes.{after_replacing}
use Rattle.pliron_theory.specs.Rewrites.{ReplacesResult}
use Rattle.pliron_laws.specs.Linked.{IsAdmitted}
use Rattle.pliron_laws.specs.Tree.{Operation, op_at}
use Rattle.pliron_laws.proofs.Records.{make_op, operation_of}
use Rattle.pliron_laws.specs.declared.operand_folds.OpFoldResult.{OpFoldResult}
use Rattle.pliron_laws.specs.declared.operand_folds.OpFoldResult.TheVariants.{Operand, Constant}
use Rattle.pliron_rewrite_operands.specs.Answers.{Folding, IsAnsweredFold, operand_answers, constant_answers}
use Rattle.pliron_rewrite_operands.specs.Answered.{HasAnswer, IsMade, MayFold}
use Rattle.pliron_rewrite_operands.proofs.Answered.{AreLawful}
use Rattle.pliron_rewrite_operands.proofs.Whole.{answer_within}
use Rattle.pliron_opt_canonicalize.specs.Steps.{AreAnswers, FoldsResult, PutsAnswer}
use Rattle.pliron_graph_order.specs.Seen.{IsUsed}

-- whether a value is a result
module _ (t : Tree) (w : IsTree t) (v op : ℕ) where
  pub result_is : (k j : ℕ) → IsDefined t v → definition_of t v ≡ Some (Result k j) → k ≡ op → In v (results_of t op)
  result_is k j d e s = in_slice (results_of t op) j v (subst (λ z. slice_get (results_of t z) j ≡ Some v) s (subst (IsMadeBy t v) e d))

  pub is_result : (k j : ℕ) → definition_of t v ≡ Some (Result k j) → In v (results_of t op) → k ≡ op
  is_result k j e i =
      let x = slice_in (results_of t op) v i in
      let same : Result k j ≡ Result op x.0 = some_is (sym e ∙ w.joined.results op x.0 v x.1) in
      cc

  pub no_result : (b j : ℕ) → definition_of t v ≡ Some (Argument b j) → In v (results_of t op) → ⊥
  no_result b j e i =
      let x = slice_in (results_of t op) v i in
      let never : Argument b j ≡ Result op x.0 = some_is (sym e ∙ w.joined.results op x.0 v x.1) in
      absurd (cc never)

module _ (x : Folding) (laws : AreLawful x) (t : Tree) (w : IsTree t) (k i v : ℕ) (live : IsLive t k) (may : MayFold t k) (admitted : IsAdmitted x.meaning t k) (listed : slice_get (results_of t k) i ≡ Some v) where
  shown : (o : Operation) × (op_at t k ≡ Some o)
  shown = let h = some_of (head_of t k) live in (operation_of t k h.0, make_op t k h.0 h.1)

  has : (answer : OpFoldResult) → IsAnsweredFold x t shown.0 i answer → HasAnswer x t k i answer
  has answer answered = record { may = may; operation = shown.0; liveness = shown.1; value = v; listed = listed; answered = answered }

  pub operands_are : (answers : List (Option OpFoldResult)) → ((o : Operation) → op_at t k ≡ Some o → answers ≡ operand_answers x t o) → AreAnswers x t k i answers
  operands_are answers is = record {
    each = λ answer at. has answer (inl (ap (λ z. slice_get z i) (sym (is shown.0 shown.1)) ∙ at));
    within = λ p at. answer_within x laws t w k i (Operand p) (has (Operand p) (inl (ap (λ z. slice_get z i) (sym (is shown.0 shown.1)) ∙ at))) admitted;
  }

  pub constants_are : (answers : List (Option OpFoldResult)) → ((o : Operation) → op_at t k ≡ Some o → answers ≡ constant_answers x t o) → AreAnswers x t k i answers
  constants_are answers is = record {
    each = λ answer at. has answer (inr (ap (λ z. slice_get z i) (sym (is shown.0 shown.1)) ∙ at));
    within = λ p at. answer_within x laws t w k i (Operand p) (has (Operand p) (inr (ap (λ z. slice_get z i) (sym (is shown.0 shown.1)) ∙ at))) admitted;
  }

module _ (x : Folding) (t : Tree) (k i v : ℕ) (listed : slice_get (results_of t k) i ≡ Some v) where
  same_value : (answer : OpFoldResult) (h : HasAnswer x t k i answer) → h.value ≡ v
  same_value answer h = some_is (sym h.listed ∙ listed)

  -- a result without uses
  pub unused_stays : ((user : ℕ) → In v (operands_of t user) → ⊥) → FoldsResult x t t k i Unchanged
  unused_stays none = (refl, λ answer is. none is.used.0 (subst (λ z. In z (operands_of t is.used.0)) (same_value answer is.has) is.used.1))

  -- an answer is put
  pub put_operand : (t' : Tree) (answers : List (Option OpFoldResult)) (p : ℕ) → slice_get answers i ≡ Some (Some (Operand p)) → ((w : ℕ) → slice_get (results_of t k) i ≡ Some w → t' ≡ after_replacing t w (get_or (operands_of t k) p 0)) → PutsAnswer x t t' k i answers Changed
  put_operand t' answers p at made = (Operand p, at, tt, made)

  pub put_constant : (t' : Tree) (answers : List (Option OpFoldResult)) (c : AttrObj) → slice_get answers i ≡ Some (Some (Constant c)) → (status : IRStatus) → ReplacesResult x.accepts x.constant_head c k i t t' status → PutsAnswer x t t' k i answers status
  put_constant t' answers c at Changed made = (Constant c, at, (made v listed).0, λ w there. (made w there).1)
  put_constant t' answers c at Unchanged made = ((made v listed).1, λ answer there accepted. refused answer (some_is (some_is (sym there ∙ at))) accepted)
    where
      refused : (answer : OpFoldResult) → answer ≡ Constant c → IsMade x answer → ⊥
      refused answer same accepted = true≢false (sym (subst (IsMade x) same accepted) ∙ (made v listed).0)

  pub put_unchanged : (t' : Tree) (answers : List (Option OpFoldResult)) (status : IRStatus) (b : Bool) → PutsAnswer x t t' k i answers status → IsTrue b ↔ (status ≡ Changed) → b ≡ false → PutsAnswer x t t' k i answers Unchanged
  put_unchanged t' answers Unchanged b put change e = put
  put_unchanged t' answers Changed b put change e = absurd (true≢false (sym (change.1 refl) ∙ e))

  pub put_none : (answers : List (Option OpFoldResult)) → ((answer : OpFoldResult) → slice_get answers i ≡ Some (Some answer) → ⊥) → PutsAnswer x t t k i answers Unchanged
  put_none answers none = (refl, λ answer at made. none answer at)

  module _ (used : IsUsed t v) where
    pub put_folds : (t' : Tree) (answers : List (Option OpFoldResult)) → AreAnswers x t k i answers → PutsAnswer x t t' k i answers Changed → FoldsResult x t t' k i Changed
    put_folds t' answers are put =
        let h = are.each put.0 put.1 in
        let same = same_value put.0 h in
        (put.0, record { has = h; made = put.2; used = (used.0, subst (λ z. In z (operands_of t used.0)) (sym same) used.1) }, put.3 h.value h.listed)

    pub folds_now : (t' : Tree) (answers : List (Option OpFoldResult)) → AreAnswers x t k i answers → (status : IRStatus) (b : Bool) → PutsAnswer x t t' k i answers status → IsTrue b ↔ (status ≡ Changed) → b ≡ true → FoldsResult x t t' k i status
    folds_now t' answers are Changed b put change e = put_folds t' answers are put
    folds_now t' answers are Unchanged b put change e = let never = change.0 e in absurd (cc never)

    pub put_either : (t' : Tree) (answers constants : List (Option OpFoldResult)) → ((o : Operation) → op_at t k ≡ Some o → answers ≡ operand_answers x t o) → ((o : Operation) → op_at t k ≡ Some o → constants ≡ constant_answers x t o) → AreAnswers x t k i constants → ((answer : OpFoldResult) → slice_get answers i ≡ Some (Some answer) → IsMade x answer → ⊥) → (status : IRStatus) → PutsAnswer x t t' k i constants status → FoldsResult x t t' k i status
    put_either t' answers constants is_answers is_constants are none Changed put = put_folds t' constants are put
    put_either t' answers constants is_answers is_constants are none Unchanged put = (
      put.0,
      λ answer is. ⊎_elim
          (λ at. none answer (ap (λ z. slice_get z i) (is_answers is.has.operation is.has.liveness) ∙ at) is.made)
          (λ at. put.1 answer (ap (λ z. slice_get z i) (is_constants is.has.operation is.has.liveness) ∙ at) is.made)
          is.has.answered,
    )

-- answers at a place
pub read_answer : (answers : List (Option OpFoldResult)) (i : ℕ) (o : Option OpFoldResult) → i < length answers → o ≡ get_or answers i o → slice_get answers i ≡ Some o
read_answer answers i o lt e = slice_get_read answers (length answers) i o refl lt e

pub answer_there : (answers : List (Option OpFoldResult)) (i : ℕ) (o : Option OpFoldResult) (a b : OpFoldResult) → slice_get answers i ≡ Some o → o ≡ Some a → a ≡ b → slice_get answers i ≡ Some (Some b)
answer_there answers i o a b e f g = e ∙ ap Some (f ∙ ap Some g)

pub none_past : (answers : List (Option OpFoldResult)) (i : ℕ) → length answers ≤ i → (answer : OpFoldResult) → slice_get answers i ≡ Some (Some answer) → ⊥
none_past answers i le answer at = let never : None ≡ Some (Some answer) = sym (slice_get_past answers i le) ∙ at in absurd (cc never)

pub none_there : (answers : List (Option OpFoldResult)) (i : ℕ) (o : Option OpFoldResult) → slice_get answers i ≡ Some o → o ≡ None → (answer : OpFoldResult) → slice_get answers i ≡ Some (Some answer) → ⊥
none_there answers i o e none answer at = let never : Some None ≡ Some (Some answer) = ap Some (sym none) ∙ sym e ∙ at in absurd (cc never)

module _ (x : Folding) (laws : AreLawful x) (t : Tree) (w : IsTree t) (k i v : ℕ) (live : IsLive t k) (may : MayFold t k) (admitted : IsAdmitted x.meaning t k) (listed : slice_get (results_of t k) i ≡ Some v) where
  -- constants, where no operand was put
  pub constants_behind : (t1 : Tree) (answers constants : List (Option OpFoldResult)) → PutsAnswer x t t1 k i answers Unchanged → ((o : Operation) → op_at t1 k ≡ Some o → constants ≡ constant_answers x t1 o) → AreAnswers x t1 k i constants
  constants_behind t1 answers constants first is =
      let here : (o : Operation) → op_at t k ≡ Some o → constants ≡ constant_answers x t o = subst (λ z. (o : Operation) → op_at z k ≡ Some o → constants ≡ constant_answers x z o) first.0 is in
      subst (λ z. AreAnswers x z k i constants) (sym first.0) (constants_are x laws t w k i v live may admitted listed constants here)

  pub folds_behind : IsUsed t v → (t1 t2 : Tree) (answers constants : List (Option OpFoldResult)) → ((o : Operation) → op_at t k ≡ Some o → answers ≡ operand_answers x t o) → PutsAnswer x t t1 k i answers Unchanged → ((o : Operation) → op_at t1 k ≡ Some o → constants ≡ constant_answers x t1 o) → (status : IRStatus) → PutsAnswer x t1 t2 k i constants status → FoldsResult x t t2 k i status
  folds_behind used t1 t2 answers constants is_answers first is status put =
      let here : (o : Operation) → op_at t k ≡ Some o → constants ≡ constant_answers x t o = subst (λ z. (o : Operation) → op_at z k ≡ Some o → constants ≡ constant_answers x z o) first.0 is in
      put_either x t k i v listed used t2 answers constants is_answers here (constants_are x laws t w k i v live may admitted listed constants here) first.1 status (subst (λ z. PutsAnswer x z t2 k i constants status) first.0 put)
