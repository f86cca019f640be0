-- The uses of a result go to what the dialect answers that it is.
use Rattle.std.proofs.Common.{◌≡◌, ◌≢◌, ◌⊎◌, ◌&&◌, ◌<◌, ℕ, zero, suc, Bool, true, false, true≢false, List, [], ◌∷◌, length, map, Option, Some, None, IsSome, IsTrue, inl, inr, ⊎_elim, slice_get, get_or, nat_eq, if◌then◌else◌, refl, sym, ap, ◌∙◌, subst, arith}
use Rattle.std.specs.Option.{option_map}
use Rattle.pliron_core.specs.declared.attrs.AttrObj.{AttrObj}
use Rattle.pliron_core.specs.declared.context.Def.{Def}
use Rattle.pliron_core.specs.declared.context.Def.TheVariants.{Result, Argument}
use Rattle.pliron_core.specs.Changes.{IsDefiningOperationInside}
use Rattle.pliron_core.specs.Invariant.{IsTree}
use Rattle.pliron_core.specs.Tree.{Tree, In, IsDefined, IsInside, IsMadeBy, head_of, operands_of, successors_of, results_of, regions_of, definition_of, block_parent_of, region_parent_of}
use Rattle.pliron_core.specs.Writes.{after_replacing}
use Rattle.pliron_core.proofs.HoldingLemmas.{some_is, not_none, in_slice, slice_in, holder_by, block_held, inside_by, within_inside}
use Rattle.pliron_core.proofs.UsedLemmas.{length_map}
use Rattle.pliron_laws.specs.Acting.{Comes, Begins, AgreeWithKnown}
use Rattle.pliron_laws.specs.Datum.{Datum, Empty, datum_of, Head, Shape, Move, Give, Visit, Goto, Leave, Emit, Trap, Meaning}
use Rattle.pliron_laws.specs.Folding.{AnswersTrue, MakesConstants}
use Rattle.pliron_laws.specs.Laws.{Admitted, KeepsCounts, GivesAtOnce, IsGive}
use Rattle.pliron_laws.specs.Linked.{IsAdmitted}
use Rattle.pliron_laws.specs.States.{Environment, State, prepend_optional, data_of}
use Rattle.pliron_laws.specs.Tree.{Operation, op_at, shape_of}
use Rattle.pliron_laws.proofs.BindingLemmas.{data_at}
use Rattle.pliron_laws.proofs.Records.{ShowsOperation, op_shows}
use Rattle.pliron_theory.specs.Keeps.{IsFit, KeepsRuns}
use Rattle.pliron_theory.specs.Renaming.{GivesConstant, IsReadAs, MayUse, RunReaches}
use Rattle.pliron_theory.specs.Rewrites.{IsConstant}
use Rattle.pliron_theory.proofs.Alike.{data_long}
use Rattle.pliron_theory.proofs.Bound.{made_within}
use Rattle.pliron_theory.proofs.ConstantData.{constant_datum}
use Rattle.pliron_theory.proofs.KnownData.{known_data_at}
use Rattle.pliron_theory.proofs.Reading.{read_data, ready_when_reached}
use Rattle.pliron_theory.proofs.ReplacedKeeps.{replaced_keeps}
use Rattle.pliron_rewrite_equals.specs.OperationDominance.{DominatesOperation}
use Rattle.pliron_rewrite_equals.proofs.OperationDominance.{dominated_stands}
use Rattle.pliron_rewrite_equals.proofs.Given.{results_given}
use Rattle.pliron_rewrite_equals.proofs.Merging.{nothing_inside}
use Rattle.pliron_rewrite_equals.proofs.Passing.{dominated_behind}
use Rattle.pliron_laws.specs.declared.operand_folds.OpFoldResult.{OpFoldResult}
use Rattle.pliron_laws.specs.declared.operand_folds.OpFoldResult.TheVariants.{Operand, Constant}
use Rattle.pliron_laws.specs.OperandFolding.{AnswersOperands, AnswersOperand, AreSameData, datum_by}
use Rattle.pliron_rewrite_operands.specs.Answers.{Folding, is_constant_like, constant_made, known_by, known_of_operands, operand_answers, constant_answers, IsAnsweredFold}
use Rattle.pliron_laws.specs.Answers.{answer_in, is_harmless}

-- the laws of a dialect on which folding rests
pub record AreLawful (x : Folding) : Type 0 where
  pub at_once : GivesAtOnce x.meaning x.side_effects
  pub truly : AnswersTrue x.meaning x.can_fold x.constants
  pub operands : AnswersOperands x.meaning x.operand_folds
  pub makes : MakesConstants x.meaning x.accepts x.constant_head
  pub plain : (c : AttrObj) → IsTrue (x.accepts c) → x.meaning.is_branch (x.constant_head c) ≡ false

both : (a b : Bool) → IsTrue (a && b) → IsTrue a × IsTrue b
both true b e = (refl, e)
both false b e = absurd (true≢false (sym e))

is_number : (a b : ℕ) → IsTrue (nat_eq a b) → a ≡ b
is_number a b e = grind (arith, e)

none_in : {A : Type 0} (xs : List A) → length xs ≡ 0 → xs ≡ []
none_in [] e = refl
none_in (x ∷ xs) e = grind arith

one_in : (xs : List ℕ) (i v : ℕ) → length xs ≡ 1 → slice_get xs i ≡ Some v → xs ≡ v ∷ []
one_in [] i v e at = grind arith
one_in (x ∷ y ∷ xs) i v e at = grind arith
one_in (x ∷ []) zero v e at = ap (λ z. z ∷ []) (some_is at)
one_in (x ∷ []) (suc i) v e at = absurd (not_none at)

harmless_is : (o : Option Bool) → IsTrue (is_harmless o) → o ≡ Some false
harmless_is None e = absurd (true≢false (sym e))
harmless_is (Some true) e = absurd (true≢false (sym e))
harmless_is (Some false) e = refl

chosen_is : {A : Type 0} (b : Bool) (o : Option A) (a : A) → (if b then o else None) ≡ Some a → IsTrue b × (o ≡ Some a)
chosen_is true o a e = (refl, e)
chosen_is false o a e = absurd (not_none e)

given_is : (a : Move) → IsGive a → (ds : List Datum) × (a ≡ Give ds)
given_is (Give ds) g = (ds, refl)
given_is (Visit i ds memo) g = absurd g
given_is (Goto i ds) g = absurd g
given_is (Leave ds) g = absurd g
given_is (Emit e memo) g = absurd g
given_is Trap g = absurd g

answered_first : (xs : List (Option AttrObj)) (c : AttrObj) → answer_in (slice_get xs 0) ≡ Some c → slice_get xs 0 ≡ Some (Some c)
answered_first [] c e = absurd (not_none e)
answered_first (a ∷ xs) c e = ap Some e

known_long : (xs : List (Option AttrObj)) (ds : List Datum) → AgreeWithKnown xs ds → length xs ≡ length ds
known_long [] [] k = refl
known_long [] (d ∷ ds) k = absurd k
known_long (a ∷ xs) [] k = absurd k
known_long (None ∷ xs) (d ∷ ds) k = ap (λ n. suc n) (known_long xs ds k)
known_long (Some a ∷ xs) (d ∷ ds) k = ap (λ n. suc n) (known_long xs ds k.1)

-- what is known of the only datum
known_one : (xs : List (Option AttrObj)) (ds : List Datum) (c : AttrObj) → AgreeWithKnown xs ds → length ds ≡ 1 → slice_get xs 0 ≡ Some (Some c) → ds ≡ datum_of c ∷ []
known_one xs [] c k e at = grind arith
known_one xs (d ∷ f ∷ ds) c k e at = grind arith
known_one xs (d ∷ []) c k e at = ap (λ z. z ∷ []) (sym (known_data_at xs (d ∷ []) k 0 c d at refl))

suc_length : {A B : Type 0} (a : A) (b : B) (xs : List A) (ys : List B) → length (a ∷ xs) ≡ length (b ∷ ys) → length xs ≡ length ys
suc_length a b xs ys e = grind (arith, e)

-- constants that the environment has are known of what is read
known_when : (env : Environment) (known : List (Option AttrObj)) (vs : List ℕ) (ds : List Datum) → length known ≡ length vs → data_of env vs ≡ Some ds → ((p v : ℕ) (c : AttrObj) (d : Datum) → slice_get vs p ≡ Some v → slice_get known p ≡ Some (Some c) → env v ≡ Some d → datum_of c ≡ d) → AgreeWithKnown known ds
known_when env [] [] [] long e h = tt
known_when env [] [] (d ∷ ds) long e h = grind arith
known_when env [] (v ∷ vs) ds long e h = grind arith
known_when env (a ∷ known) [] ds long e h = grind arith
known_when env (a ∷ known) (v ∷ vs) ds long e h = go (env v) refl (data_of env vs) e (λ others f. known_when env known vs others (suc_length a v known vs long) f (λ p x c y i j k. h (suc p) x c y i j k))
  where
    go : (o : Option Datum) → env v ≡ o → (q : Option (List Datum)) → prepend_optional o q ≡ Some ds → ((others : List Datum) → q ≡ Some others → AgreeWithKnown known others) → AgreeWithKnown (a ∷ known) ds
    go None oe q g rest = grind arith
    go (Some d) oe None g rest = grind arith
    go (Some d) oe (Some others) g rest = subst (AgreeWithKnown (a ∷ known)) (some_is g) (first a refl)
      where
        first : (b : Option AttrObj) → a ≡ b → AgreeWithKnown (b ∷ known) (d ∷ others)
        first None ae = rest others refl
        first (Some c) ae = (h zero v c d refl (ap Some ae) oe, rest others refl)

-- what is known at a place
known_at : (f : ℕ → Option AttrObj) (vs : List ℕ) (p v : ℕ) (c : AttrObj) → slice_get vs p ≡ Some v → slice_get (map f vs) p ≡ Some (Some c) → f v ≡ Some c
known_at f [] p v c e k = absurd (not_none e)
known_at f (x ∷ vs) zero v c e k = ap f (sym (some_is e)) ∙ some_is k
known_at f (x ∷ vs) (suc p) v c e k = known_at f vs p v c e k

-- an answer that is a constant
constant_at : (xs : List (Option AttrObj)) (i : ℕ) (answer : OpFoldResult) → slice_get (map (λ c. option_map Constant c) xs) i ≡ Some (Some answer) → (c : AttrObj) × (answer ≡ Constant c) × (slice_get xs i ≡ Some (Some c))
constant_at [] i answer e = absurd (not_none e)
constant_at (None ∷ xs) zero answer e = absurd (not_none (some_is e))
constant_at (Some c ∷ xs) zero answer e = (c, sym (some_is (some_is e)), refl)
constant_at (x ∷ xs) (suc i) answer e = constant_at xs i answer e

chosen_list : {A : Type 0} (b : Bool) (xs : List A) (i : ℕ) (a : A) → slice_get (if b then xs else []) i ≡ Some a → IsTrue b × (slice_get xs i ≡ Some a)
chosen_list true xs i a e = (refl, e)
chosen_list false xs i a e = absurd (not_none e)

datum_at : (xs : List (Option AttrObj)) (ds : List Datum) (i : ℕ) (c : AttrObj) → AgreeWithKnown xs ds → slice_get xs i ≡ Some (Some c) → slice_get ds i ≡ Some (datum_of c)
datum_at [] ds i c k e = absurd (not_none e)
datum_at (a ∷ xs) [] i c k e = absurd k
datum_at (None ∷ xs) (d ∷ ds) zero c k e = absurd (not_none (some_is e))
datum_at (Some a ∷ xs) (d ∷ ds) zero c k e = ap Some (sym k.0 ∙ ap datum_of (some_is (some_is e)))
datum_at (None ∷ xs) (d ∷ ds) (suc i) c k e = datum_at xs ds i c k e
datum_at (Some a ∷ xs) (d ∷ ds) (suc i) c k e = datum_at xs ds i c k.1 e

-- the shape of an operation that the dialect admits
pub shape_admitted : (m : Meaning) (t : Tree) (k : ℕ) (o : Operation) → op_at t k ≡ Some o → IsAdmitted m t k → Admitted m (shape_of m t o)
unfolding shape_of
shape_admitted m t k o e a =
    let s = op_shows t k o e in
    let reported = a o.head s.head in
    let one = subst (λ z. IsTrue (m.admits o.head (length z) (length (results_of t k)) (length (successors_of t k)) (length (regions_of t k)))) s.operands reported in
    let two = subst (λ z. IsTrue (m.admits o.head (length o.operands) (length z) (length (successors_of t k)) (length (regions_of t k)))) s.results one in
    let three = subst (λ z. IsTrue (m.admits o.head (length o.operands) (length o.results) (length z) (length (regions_of t k)))) s.successors two in
    let four = subst (λ z. IsTrue (m.admits o.head (length o.operands) (length o.results) (length o.successors) (length z))) s.regions three in
    subst (λ z. IsTrue (m.admits o.head (length o.operands) (length o.results) (length o.successors) z)) (sym (length_map _ o.regions)) four

shape_parts : (m : Meaning) (t : Tree) (o : Operation) → ((shape_of m t o).head ≡ o.head) × ((shape_of m t o).operands ≡ length o.operands) × ((shape_of m t o).results ≡ length o.results)
unfolding shape_of
shape_parts m t o = (refl, refl, refl)

module _ (x : Folding) (laws : AreLawful x) (t : Tree) (w : IsTree t) (k i old : ℕ) (next : successors_of t k ≡ []) (at : slice_get (results_of t k) i ≡ Some old) (operation : Operation) (liveness : op_at t k ≡ Some operation) (answer : OpFoldResult) (answered : IsAnsweredFold x t operation i answer) where
  abbrev m : Meaning
  m = x.meaning

  abbrev known : List (Option AttrObj)
  known = known_of_operands x t operation.operands

  made_old : definition_of t old ≡ Some (Result k i)
  made_old = w.joined.results k i old at

  same_operands : operands_of t k ≡ operation.operands
  same_operands = (op_shows t k operation liveness).operands

  -- what the operation gives
  gives : Admitted m (shape_of m t operation) → (first : List Datum) → length first ≡ length operation.operands → AgreeWithKnown known first → AreSameData operation.operands first → (later : Bool) (memo : Datum) (input ds : List Datum) → Comes m.act (shape_of m t operation) first later memo input → m.act (shape_of m t operation) memo input ≡ Give ds → slice_get ds i ≡ datum_by answer first
  gives admitted first long knows same later memo input ds comes acts = ⊎_elim by_operands by_constants answered
    where
      parts : ((shape_of m t operation).head ≡ operation.head) × ((shape_of m t operation).operands ≡ length operation.operands) × ((shape_of m t operation).results ≡ length operation.results)
      parts = shape_parts m t operation

      counted : length known ≡ (shape_of m t operation).operands
      counted = length_map _ operation.operands ∙ sym parts.1

      by_operands : slice_get (operand_answers x t operation) i ≡ Some (Some answer) → slice_get ds i ≡ datum_by answer first
      by_operands said = (laws.operands (shape_of m t operation) admitted known operation.operands counted (sym parts.1) i answer said).gives first (long ∙ sym parts.1) knows same later memo input ds comes acts

      by_constants : slice_get (constant_answers x t operation) i ≡ Some (Some answer) → slice_get ds i ≡ datum_by answer first
      by_constants said =
          let chosen = chosen_list (x.can_fold operation.head) (map (λ c. option_map Constant c) (x.constants (shape_of m t operation) known)) i (Some answer) said in
          let c = constant_at (x.constants (shape_of m t operation) known) i answer chosen.1 in
          let reported = laws.truly.gives (shape_of m t operation) admitted (subst (λ z. IsTrue (x.can_fold z)) (sym parts.0) chosen.0) known first (long ∙ sym parts.1) knows later memo input ds comes acts in
          datum_at (x.constants (shape_of m t operation) known) ds i c.0 reported c.2 ∙ sym (ap (λ z. datum_by z first) c.1)

  -- the operand that is answered
  pub operand_is : (p : ℕ) → answer ≡ Operand p → Admitted m (shape_of m t operation) → p < length (operands_of t k)
  operand_is p e admitted = ⊎_elim by_operands by_constants answered
    where
      parts : ((shape_of m t operation).head ≡ operation.head) × ((shape_of m t operation).operands ≡ length operation.operands) × ((shape_of m t operation).results ≡ length operation.results)
      parts = shape_parts m t operation

      by_operands : slice_get (operand_answers x t operation) i ≡ Some (Some answer) → p < length (operands_of t k)
      by_operands said =
          let law = laws.operands (shape_of m t operation) admitted known operation.operands (length_map _ operation.operands ∙ sym parts.1) (sym parts.1) i (Operand p) (said ∙ ap (λ z. Some (Some z)) e) in
          let within : p < (shape_of m t operation).operands = law.within in
          subst (λ z. p < z) (parts.1 ∙ ap length (sym same_operands)) within

      by_constants : slice_get (constant_answers x t operation) i ≡ Some (Some answer) → p < length (operands_of t k)
      by_constants said =
          let chosen = chosen_list (x.can_fold operation.head) (map (λ c. option_map Constant c) (x.constants (shape_of m t operation) known)) i (Some answer) said in
          let c = constant_at (x.constants (shape_of m t operation) known) i answer chosen.1 in
          let never : Operand p ≡ Constant c.0 = sym e ∙ c.1 in
          absurd (cc never)

  module _ (root : ℕ) (f : IsFit m t root) where
    admitted_in : (n : ℕ) (o : Operation) → IsInside t root n → op_at t n ≡ Some o → Admitted m (shape_of m t o)
    admitted_in n o inside e = shape_admitted m t n o e (f.linked.admitted n (inr inside))

    -- what constant-like operations make
    known_gives : (v : ℕ) (c : AttrObj) → IsDefined t v → IsDefiningOperationInside t root (definition_of t v) → known_by x t (definition_of t v) ≡ Some c → (n : ℕ) × GivesConstant m t n v (datum_of c)
    known_gives v c defined inside is = by (definition_of t v) refl inside is
      where
        by : (d : Option Def) → definition_of t v ≡ d → IsDefiningOperationInside t root d → known_by x t d ≡ Some c → (n : ℕ) × GivesConstant m t n v (datum_of c)
        by None e inner reported = absurd (not_none reported)
        by (Some (Argument b j)) e inner reported = absurd (not_none reported)
        by (Some (Result n j)) e inner reported = made (op_at t n) refl reported
          where
            made : (o : Option Operation) → op_at t n ≡ o → constant_made x t o ≡ Some c → (n : ℕ) × GivesConstant m t n v (datum_of c)
            made None oe z = absurd (not_none z)
            made (Some o) oe z = (n, record { results = results; operands = shows.operands ∙ operands; regions = shows.regions ∙ regions; gives = gives_one })
              where
                tests : IsTrue (is_constant_like x o) × (answer_in (slice_get (x.constants (shape_of m t o) []) 0) ≡ Some c)
                tests = chosen_is (is_constant_like x o) (answer_in (slice_get (x.constants (shape_of m t o) []) 0)) c z

                first : IsTrue (nat_eq (length o.operands) 0) × IsTrue (nat_eq (length o.regions) 0 && (nat_eq (length o.results) 1 && (x.can_fold o.head && is_harmless (x.side_effects o.head))))
                first = both _ _ tests.0

                second : IsTrue (nat_eq (length o.regions) 0) × IsTrue (nat_eq (length o.results) 1 && (x.can_fold o.head && is_harmless (x.side_effects o.head)))
                second = both _ _ first.1

                third : IsTrue (nat_eq (length o.results) 1) × IsTrue (x.can_fold o.head && is_harmless (x.side_effects o.head))
                third = both _ _ second.1

                fourth : IsTrue (x.can_fold o.head) × IsTrue (is_harmless (x.side_effects o.head))
                fourth = both _ _ third.1

                operands : o.operands ≡ []
                operands = none_in o.operands (is_number (length o.operands) 0 first.0)

                regions : o.regions ≡ []
                regions = none_in o.regions (is_number (length o.regions) 0 second.0)

                shows : ShowsOperation t n o
                shows = op_shows t n o oe

                listed : slice_get (results_of t n) j ≡ Some v
                listed = subst (IsMadeBy t v) e defined

                results : results_of t n ≡ v ∷ []
                results = one_in (results_of t n) j v (ap length shows.results ∙ is_number (length o.results) 1 third.0) listed

                parts : ((shape_of m t o).head ≡ o.head) × ((shape_of m t o).operands ≡ length o.operands) × ((shape_of m t o).results ≡ length o.results)
                parts = shape_parts m t o

                admitted : Admitted m (shape_of m t o)
                admitted = admitted_in n o inner oe

                none : 0 ≡ (shape_of m t o).operands
                none = sym (parts.1 ∙ ap length operands)

                given : (ds : List Datum) × (m.act (shape_of m t o) Empty [] ≡ Give ds)
                given = given_is (m.act (shape_of m t o) Empty []) (laws.at_once (shape_of m t o) admitted (ap x.side_effects parts.0 ∙ harmless_is (x.side_effects o.head) fourth.1) [] none)

                told_true : AgreeWithKnown (x.constants (shape_of m t o) []) given.0
                told_true = laws.truly.gives (shape_of m t o) admitted (subst (λ z. IsTrue (x.can_fold z)) (sym parts.0) fourth.0) [] [] none tt false Empty [] given.0 Begins given.1

                gives_one : (o' : Operation) → op_at t n ≡ Some o' → m.act (shape_of m t o') Empty [] ≡ Give (datum_of c ∷ [])
                gives_one o' e' =
                    let same : o ≡ o' = some_is (sym oe ∙ e') in
                    let long : length given.0 ≡ 1 = sym (known_long (x.constants (shape_of m t o) []) given.0 told_true) ∙ laws.truly.counts (shape_of m t o) admitted (subst (λ z. IsTrue (x.can_fold z)) (sym parts.0) fourth.0) [] none ∙ parts.2 ∙ is_number (length o.results) 1 third.0 in
                    let one : given.0 ≡ datum_of c ∷ [] = known_one (x.constants (shape_of m t o) []) given.0 c told_true long (answered_first (x.constants (shape_of m t o) []) c tests.1) in
                    subst (λ z. m.act (shape_of m t z) Empty [] ≡ Give (datum_of c ∷ [])) same (given.1 ∙ ap Give one)

    k_of_old : IsDefiningOperationInside t root (definition_of t old) → IsInside t root k
    k_of_old made = subst (IsDefiningOperationInside t root) made_old made

    behind : (user : ℕ) → In old (operands_of t user) → IsInside t root k → DominatesOperation t k user
    behind user uses inner = dominated_stands t k i user old made_old (f.defined.dominated user old uses (subst (IsDefiningOperationInside t root) (sym made_old) inner))

    -- where the result is read it has what the answer says of the operands there
    read_as : (s : State) (u : ℕ) (rest : List ℕ) → RunReaches m t root s → s.rest ≡ u ∷ rest → s.answer ≡ None → In old (operands_of t u) → (first : List Datum) × (data_of s.environment (operands_of t k) ≡ Some first) × (s.environment old ≡ datum_by answer first)
    read_as s u rest r e quiet uses =
        let inside = (ready_when_reached m t root w f s r u rest e quiet).inside in
        let inner = k_of_old (f.defined.own_values u old inside uses) in
        let g = results_given m t root k w f inner next u rest s (behind u uses inner) r e quiet in
        let o = op_shows t k g.operation g.liveness in
        let one : g.operation ≡ operation = some_is (sym g.liveness ∙ liveness) in
        let has : data_of s.environment (operands_of t k) ≡ Some g.first = ap (data_of s.environment) o.operands ∙ g.has in
        let has_own : data_of s.environment operation.operands ≡ Some g.first = ap (data_of s.environment) (sym same_operands) ∙ has in
        let knows : AgreeWithKnown known g.first = known_when s.environment known operation.operands g.first (length_map _ operation.operands) has_own (λ p v c d a b h.
        let used : In v (operands_of t k) = subst (In v) (sym same_operands) (in_slice operation.operands p v a) in
        let n = known_gives v c (w.joined.operands k v used) (f.defined.own_values k v inner used) (known_at (λ y. known_by x t (definition_of t y)) operation.operands p v c a b) in
        sym (constant_datum m t w root n.0 v (datum_of c) n.1 (λ same. nothing_inside t root k w (ap (regions_of t) same ∙ n.1.regions) inner) s r d h)) in
        let same_data : AreSameData operation.operands g.first = λ p q v a b. data_at s.environment operation.operands g.first has_own p v a ∙ sym (data_at s.environment operation.operands g.first has_own q v b) in
        let comes : Comes m.act (shape_of m t operation) g.first g.later g.memo g.input = subst (λ z. Comes m.act (shape_of m t z) g.first g.later g.memo g.input) one g.comes in
        let acts : m.act (shape_of m t operation) g.memo g.input ≡ Give g.given = subst (λ z. m.act (shape_of m t z) g.memo g.input ≡ Give g.given) one g.gives in
        let reported : slice_get g.given i ≡ datum_by answer g.first = gives (admitted_in k operation inner liveness) g.first (data_long s.environment operation.operands g.first has_own) knows same_data g.later g.memo g.input g.given comes acts in
        (g.first, has, sym (data_at s.environment (results_of t k) g.given (ap (data_of s.environment) o.results ∙ g.results) i old at) ∙ reported)

  -- the uses may go to the operand
  module _ (p v : ℕ) (is : answer ≡ Operand p) (place : slice_get (operands_of t k) p ≡ Some v) where
    used : In v (operands_of t k)
    used = in_slice (operands_of t k) p v place

    k_of_operand : (root : ℕ) → IsFit m t root → IsDefiningOperationInside t root (definition_of t v) → IsInside t root k
    k_of_operand root f made =
        let d = f.defined.dominated k v used made in
        let y = block_held t d.block w.joined (subst IsSome (sym d.in_region) refl) in
        let r : y.0 ≡ d.region = some_is (sym y.2 ∙ d.in_region) in
        within_inside (inside_by y.1 (holder_by t d.around d.block y.1 d.in_block y.5) (made_within t root d.region y.1 (definition_of t v) (ap (region_parent_of t) (sym r) ∙ y.4) d.defined made)) d.holds

    may_use : (root : ℕ) → IsFit m t root → (user : ℕ) → In old (operands_of t user) → MayUse t root user v
    may_use root f user uses = record {
      own = λ inside. f.defined.own_values k v (k_of_old root f (f.defined.own_values user old inside uses)) used;
      no_jumper = λ j inside ne r. f.defined.unused j v k inside ne r used;
      dominated = λ made. dominated_behind t w k user v (f.defined.dominated k v used made) (behind root f user uses (k_of_operand root f made));
    }

    pub operand_keeps : KeepsRuns m t (after_replacing t old v)
    operand_keeps = replaced_keeps m t old v may_use
        (λ root f f' s s' u rest r r' same e e' none none' uses.
        let z = read_as root f s u rest r e none uses in
        z.2 ∙ ap (λ a. datum_by a z.0) is ∙ data_at s.environment (operands_of t k) z.0 z.1 p v place)

  -- and each run reads the constant
  pub constant_read : (c : AttrObj) → answer ≡ Constant c → IsConstant m t old c
  constant_read c is root f s u rest r e none uses =
      let z = read_as root f s u rest r e none uses in
      z.2 ∙ ap (λ a. datum_by a z.0) is
