-- Facts that every run of one root confirms.
use Rattle.std.proofs.Common.{◌≡◌, ◌⊎◌, inl, inr, ℕ, zero, suc, Bool, false, true, not, List, [], ◌∷◌, length, map, Option, Some, None, slice_get, refl, sym, ap, ap₂, ◌∙◌, subst, arith, IsTrue}
use Rattle.pliron_core.specs.declared.attrs.AttrObj.{AttrObj}
use Rattle.pliron_core.specs.Tree.{Tree, In, IsInside, IsWithin, arguments_of, regions_of, layout_of, first_of, parent_of}
use Rattle.pliron_core.specs.Invariant.{IsTree}
use Rattle.pliron_core.proofs.HoldingLemmas.{some_is, in_slice, not_none}
use Rattle.pliron_laws.specs.Datum.{Datum, Empty, datum_of, Head, Shape, Meaning, Move, Give, Visit, Goto, Emit}
use Rattle.pliron_laws.specs.Tree.{Operation, Block, op_at, block_at, shape_of}
use Rattle.pliron_laws.specs.States.{Environment, State, bind}
use Rattle.pliron_laws.specs.Machine.{start}
use Rattle.pliron_laws.specs.Acting.{Comes, Begins, Answered, AnsweredByWorld, AgreeWithKnown, pick}
use Rattle.pliron_laws.specs.Laws.{Admitted}
use Rattle.pliron_laws.specs.Folding.{Constants, Feasible, AnswersTrue, AnswersJumps}
use Rattle.pliron_laws.specs.Entries.{NamesOperands, RootsNameNone, names_none, none_are_named}
use Rattle.pliron_theory.specs.Keeps.{IsFit}
use Rattle.pliron_theory.specs.Renaming.{RunReaches, IsReadAs, GivesConstant}
use Rattle.pliron_theory.proofs.Frames.{LatticeValues as FrameFacts, Makes, Rules, Holding, holding_kept}
use Rattle.pliron_laws.proofs.Records.{ShowsEntry, op_shows, block_shows, entry_shows}
use Rattle.pliron_theory.proofs.Alike.{data_long}
use Rattle.pliron_theory.proofs.Bound.{IsAt, HasAnswer, has_some, places, place_rules, placed_inside}
use Rattle.pliron_theory.proofs.Reached.{reached_holds}
use Rattle.pliron_theory.proofs.Reading.{read_data}
use Rattle.pliron_theory.proofs.SweptKeeps.{admitted_shape}
use Rattle.pliron_theory.proofs.KnownData.{known_data_at, picked_at, some_at}
use Rattle.pliron_theory.specs.LatticeValues.{LatticeValue, Constant, NotAConstant, AtMost, value_of_answer, LatticeValues, Says, operand_constants, answers_of, IsFeasibleEdge, Forwards, IsBelowNamed, AreBelowNamed}
use Rattle.pliron_theory.proofs.ConstantKeeps.{no_data}
use Rattle.pliron_theory.specs.Sound.{IsRightResult}
use Rattle.pliron_theory.proofs.FactLattice.{Fits, fits_lower, fits_answered, Agrees, bind_agrees, FitEach, read_fits, read_known, same_index, picked_in}

-- branches pass what they forward
abbrev pub PassesForwarded : Meaning → Type 0
PassesForwarded m = (s : Shape) → Admitted m s → IsTrue (m.is_branch s.head) → (first : List Datum) → length first ≡ s.operands → (later : Bool) (memo : Datum) (input : List Datum) (i : ℕ) (ds : List Datum) → Comes m.act s first later memo input → m.act s memo input ≡ Goto i ds → map Some ds ≡ pick (m.forwarded s i) first

-- visits pass what is named, and what may be a root names nothing
pub record NamesWell (x : Says) : Type 0 where
  pub passes : (s : Shape) → Admitted x.meaning s → (i j k : ℕ) → x.entry_operands s i j ≡ Some k → (first : List Datum) → length first ≡ s.operands → (later : Bool) (memo : Datum) (input ds : List Datum) (next : Datum) → Comes x.meaning.act s first later memo input → x.meaning.act s memo input ≡ Visit i ds next → (d : Datum) → slice_get ds j ≡ Some d → slice_get first k ≡ Some d
  pub roots : (s : Shape) → IsTrue (x.meaning.may_be_root s.head) → (i j : ℕ) → x.entry_operands s i j ≡ None

pub names_well : (x : Says) (implements : Head → Bool) → NamesOperands x.meaning x.entry_operands implements → RootsNameNone x.meaning implements → NamesWell x
names_well x implements names roots = record {
  passes = names.passes;
  roots = λ s may i j. names.silent s i j (not_true (implements s.head) (sym (roots s.head) ∙ may));
}
  where
    not_true : (b : Bool) → not b ≡ true → b ≡ false
    not_true false e = refl
    not_true true e = grind arith

pub none_well : (m : Meaning) (can_fold can_fold_branch : Head → Bool) (constants : Constants) (feasible : Feasible) → NamesWell (record { meaning = m; can_fold = can_fold; can_fold_branch = can_fold_branch; constants = constants; feasible = feasible; entry_operands = names_none })
none_well m can_fold can_fold_branch constants feasible = record {
  passes = (none_are_named m (λ h. false)).passes;
  roots = λ s may i j. refl;
}

-- a run of the root may come to this operation
abbrev pub MayMove : Tree → ℕ → (ℕ → Type 0) → ℕ → Type 0
MayMove t root Comes_to k = IsInside t root k × ((b : ℕ) × (parent_of t k ≡ Some b) × Comes_to b)

-- what runs of one root confirm, if they come to these blocks
pub record AreKept (x : Says) (t : Tree) (root : ℕ) (Comes_to : ℕ → Type 0) (f : LatticeValues) (read : ℕ → LatticeValue) : Type 0 where
  pub finer : (v : ℕ) → AtMost (f.lattice_value v) (read v)
  pub root_visits : (r b : ℕ) → In r (regions_of t root) → first_of (layout_of t r) None ≡ Some b → Comes_to b × ((v : ℕ) → In v (arguments_of t b) → read v ≡ NotAConstant)
  pub visits : (k i r b : ℕ) (o : Operation) → MayMove t root Comes_to k → op_at t k ≡ Some o → slice_get o.regions i ≡ Some r → first_of (layout_of t r) None ≡ Some b → Comes_to b × AreBelowNamed x t read read o i b
  pub jumps : (k i b : ℕ) (o : Operation) → MayMove t root Comes_to k → op_at t k ≡ Some o → IsFeasibleEdge x t f o i b → Comes_to b × ((j v : ℕ) → slice_get (arguments_of t b) j ≡ Some v → (read v ≡ NotAConstant) ⊎ (IsTrue (x.meaning.is_branch o.head) × ((w : ℕ) → Forwards x t o i j w → AtMost (read v) (read w))))
  pub results : (k i v : ℕ) (o : Operation) → MayMove t root Comes_to k → op_at t k ≡ Some o → slice_get o.results i ≡ Some v → IsRightResult x t f read k i v o

module _ (says : Says) (answers : AnswersTrue says.meaning says.can_fold says.constants) (jumps : AnswersJumps says.meaning says.can_fold_branch says.feasible) (passes : PassesForwarded says.meaning) (names : NamesWell says) (t : Tree) (root : ℕ) (Comes_to : ℕ → Type 0) (found : LatticeValues) (read : ℕ → LatticeValue) (w : IsTree t) (f : IsFit says.meaning t root) (kept : AreKept says t root Comes_to found read) where
  abbrev m : Meaning
  m = says.meaning

  length_handed : (vs : List ℕ) → length (operand_constants found vs) ≡ length vs
  length_handed [] = refl
  length_handed (v ∷ vs) = ap (λ n. suc n) (length_handed vs)

  give_same : (a b : List Datum) → Give a ≡ Give b → a ≡ b
  give_same a b e = cc

  only_first : (xs : List ℕ) (y i v : ℕ) → xs ≡ y ∷ [] → slice_get xs i ≡ Some v → i ≡ 0
  only_first xs y i v e at = go i (ap (λ l. slice_get l i) (sym e) ∙ at)
    where
      go : (i : ℕ) → slice_get (y ∷ []) i ≡ Some v → i ≡ 0
      go zero a = refl
      go (suc i) a = absurd (not_none a)

  -- what an operation read first had what is known of its operands, and it came from there to here
  pub record Minds (o : Operation) (memo : Datum) (input : List Datum) : Type 0 where
    pub first : List Datum
    pub counted : length first ≡ length o.operands
    pub known : AgreeWithKnown (operand_constants found o.operands) first
    pub fits : FitEach read o.operands first
    pub later : Bool
    pub comes : Comes m.act (shape_of m t o) first later memo input

  abbrev pub InMind : List ℕ → Datum → Option (List Datum) → Type 0
  InMind [] memo answer = Unit {0}
  InMind (k ∷ rest) memo None = memo ≡ Empty
  InMind (k ∷ rest) memo (Some input) = (o : Operation) → op_at t k ≡ Some o → Minds o memo input

  -- the root's own place needs nothing
  abbrev pub IsMinding : Option ℕ → List ℕ → Datum → Option (List Datum) → Type 0
  IsMinding None rest memo answer = Unit {0}
  IsMinding (Some h) rest memo answer = InMind rest memo answer

  -- the operations of a place stand in a block that runs may come to
  abbrev pub IsFound : Option ℕ → List ℕ → Type 0
  IsFound None rest = Unit {0}
  IsFound (Some h) rest = (k : ℕ) → In k rest → (b : ℕ) × (parent_of t k ≡ Some b) × Comes_to b

  abbrev pub knowing : FrameFacts
  knowing = record {
    Always = Agrees read;
    Moves = λ env h rest memo answer. IsAt t root env h rest × HasAnswer h answer × IsMinding h rest memo answer × IsFound h rest;
    Waits = λ env h rest memo. IsAt t root env h rest × ((ds : List Datum) → IsMinding h rest memo (Some ds)) × IsFound h rest;
  }

  at_rest : (h : Option ℕ) (rest : List ℕ) → IsMinding h rest Empty None
  at_rest None rest = tt
  at_rest (Some h) [] = tt
  at_rest (Some h) (k ∷ rest) = refl

  now : (env : Environment) → Agrees read env → (k : ℕ) (rest : List ℕ) (memo : Datum) (answer : Option (List Datum)) → InMind (k ∷ rest) memo answer → (a : Move) (x : Makes m t env k memo answer a) → Minds x.operation memo x.input
  now env so k rest memo None mind a x = record {
    first = x.input;
    counted = data_long env x.operation.operands x.input x.reads;
    known = read_known read found.lattice_value kept.finer env so x.operation.operands x.input x.reads;
    fits = read_fits read env so x.operation.operands x.input x.reads;
    later = false;
    comes = subst (λ z. Comes m.act (shape_of m t x.operation) x.input false z x.input) (sym mind) Begins;
  }
  now env so k rest memo (Some input) mind a x = subst (Minds x.operation memo) (some_is x.reads) (mind x.operation x.liveness)

  -- what it is after a move
  onward : {o : Operation} {memo : Datum} {input : List Datum} → Minds o memo input → (next : Datum) (answer : List Datum) → ((later : Bool) (first : List Datum) → Comes m.act (shape_of m t o) first later memo input → Comes m.act (shape_of m t o) first true next answer) → Minds o next answer
  onward x next answer go = record { first = x.first; counted = x.counted; known = x.known; fits = x.fits; later = true; comes = go x.later x.first x.comes }

  admitted : (k : ℕ) (o : Operation) → IsWithin t root k → op_at t k ≡ Some o → Admitted m (shape_of m t o)
  admitted k o i e = admitted_shape m t k o e (f.linked.admitted k i)

  in_mind : (k : ℕ) (rest : List ℕ) (memo : Datum) (input : List Datum) (o : Operation) → op_at t k ≡ Some o → Minds o memo input → (h : Option ℕ) → IsMinding h (k ∷ rest) memo (Some input)
  in_mind k rest memo input o e x None = tt
  in_mind k rest memo input o e x (Some h) = λ p g. subst (λ q. Minds q memo input) (some_is (sym e ∙ g)) x

  all_stand : (b : ℕ) (x : Block) → block_at t b ≡ Some x → Comes_to b → (h : ℕ) → IsFound (Some h) x.operations
  all_stand b x e comes h k i = (b, w.bodies.owned k b (subst (In k) (sym (block_shows t b x e).operations) i), comes)

  -- what gives at once moves once
  moves_once : (s : Shape) (r : List Datum) → m.act s Empty [] ≡ Give r → (later : Bool) (memo : Datum) (input : List Datum) → Comes m.act s [] later memo input → (memo ≡ Empty) × (input ≡ [])
  moves_once s r gives later memo input Begins = (refl, refl)
  moves_once s r gives later memo input (Answered {later = l} {memo = b} {input = n} i ds next answer c e) =
      let p = moves_once s r gives l b n c in
      let q : Give r ≡ Visit i ds memo = sym gives ∙ ap₂ (λ y z. m.act s y z) (sym p.0) (sym p.1) ∙ e in
      absurd (give_visit r ds memo i q)
    where
      give_visit : (r ds : List Datum) (n : Datum) (i : ℕ) → Give r ≡ Visit i ds n → ⊥
      give_visit r ds n i e = cc
  moves_once s r gives later memo input (AnsweredByWorld {later = l} {memo = b} {input = n} effect next answer c e) =
      let p = moves_once s r gives l b n c in
      let q : Give r ≡ Emit effect memo = sym gives ∙ ap₂ (λ y z. m.act s y z) (sym p.0) (sym p.1) ∙ e in
      absurd (give_emit r effect memo q)
    where
      give_emit : (r : List Datum) (a n : Datum) → Give r ≡ Emit a n → ⊥
      give_emit r a n e = cc

  -- its results confirm what is read
  gives_found : (env env1 : Environment) → Agrees read env → (k : ℕ) (memo : Datum) (o : Operation) (input ds : List Datum) → MayMove t root Comes_to k → op_at t k ≡ Some o → Minds o memo input → m.act (shape_of m t o) memo input ≡ Give ds → bind env o.results ds ≡ Some env1 → Agrees read env1
  unfolding shape_of
  gives_found env env1 so k memo o input ds may e x acts be = bind_agrees read o.results ds env env1 reported be so
    where
      ad : Admitted m (shape_of m t o)
      ad = admitted k o (inr may.0) e

      reported : (i v : ℕ) (d : Datum) → slice_get o.results i ≡ Some v → slice_get ds i ≡ Some d → Fits (read v) d
      reported i v d at there = right (kept.results k i v o may e at)
        where
          answer : IsTrue (says.can_fold o.head) → (a : Option AttrObj) × (slice_get (answers_of says t found o) i ≡ Some a)
          answer folds = same_index o.results (answers_of says t found o) (sym (answers.counts (shape_of m t o) ad folds (operand_constants found o.operands) (length_handed o.operands))) i v at

          right : IsRightResult says t found read k i v o → Fits (read v) d
          right (inl n) = subst (λ z. Fits z d) (sym n) tt
          right (inr (inl (folds, below))) =
              let a = answer folds in
              let known = answers.gives (shape_of m t o) ad folds (operand_constants found o.operands) x.first x.counted x.known x.later memo input ds x.comes acts in
              fits_lower (read v) (value_of_answer a.0) d (below a.0 a.1) (fits_answered a.0 d (λ c g. known_data_at (answers_of says t found o) ds known i c d (a.1 ∙ ap Some g) there))
          right (inr (inr (c, g, is))) =
              let s = op_shows t k o e in
              let none : o.operands ≡ [] = sym s.operands ∙ g.operands in
              let first : x.first ≡ [] = no_data x.first (x.counted ∙ ap length none) in
              let p = moves_once (shape_of m t o) (datum_of c ∷ []) (g.gives o e) x.later memo input (subst (λ z. Comes m.act (shape_of m t o) z x.later memo input) first x.comes) in
              let q : Give (datum_of c ∷ []) ≡ Give ds = sym (g.gives o e) ∙ ap₂ (λ y z. m.act (shape_of m t o) y z) (sym p.0) (sym p.1) ∙ acts in
              let r : datum_of c ∷ [] ≡ ds = give_same (datum_of c ∷ []) ds q in
              let h : o.results ≡ v_of g ∷ [] = sym s.results ∙ g.results in
              let j : i ≡ 0 = only_first o.results (v_of g) i v h at in
              let y : datum_of c ≡ d = some_is (ap (λ z. slice_get z 0) r ∙ ap (slice_get ds) (sym j) ∙ there) in
              subst (λ z. Fits z d) (sym is) y
            where
              v_of : GivesConstant m t k v (datum_of c) → ℕ
              v_of g = v

  -- a jump comes to a block that runs may come to, and its arguments confirm what is read
  goes_found : (env env1 : Environment) → Agrees read env → (k i c : ℕ) (memo : Datum) (o : Operation) (b : Block) (input ds : List Datum) → MayMove t root Comes_to k → op_at t k ≡ Some o → Minds o memo input → m.act (shape_of m t o) memo input ≡ Goto i ds → slice_get o.successors i ≡ Some c → block_at t c ≡ Some b → bind env b.arguments ds ≡ Some env1 → Comes_to c × Agrees read env1
  unfolding shape_of
  goes_found env env1 so k i c memo o b input ds may e x acts ce be bound = (jump.0, bind_agrees read b.arguments ds env env1 reported bound so)
    where
      ad : Admitted m (shape_of m t o)
      ad = admitted k o (inr may.0) e

      jump : Comes_to c × ((j v : ℕ) → slice_get (arguments_of t c) j ≡ Some v → (read v ≡ NotAConstant) ⊎ (IsTrue (m.is_branch o.head) × ((y : ℕ) → Forwards says t o i j y → AtMost (read v) (read y))))
      jump = kept.jumps k i c o may e (ce, λ folds. jumps.goes (shape_of m t o) o.successors ad folds refl (operand_constants found o.operands) x.first (x.counted) x.known x.later memo input i c ds x.comes acts ce)

      reported : (j v : ℕ) (d : Datum) → slice_get b.arguments j ≡ Some v → slice_get ds j ≡ Some d → Fits (read v) d
      reported j v d at is = right (jump.1 j v (ap (λ l. slice_get l j) (block_shows t c b be).arguments ∙ at))
        where
          right : (read v ≡ NotAConstant) ⊎ (IsTrue (m.is_branch o.head) × ((y : ℕ) → Forwards says t o i j y → AtMost (read v) (read y))) → Fits (read v) d
          right (inl n) = subst (λ z. Fits z d) (sym n) tt
          right (inr (branch, below)) =
              let passed = passes (shape_of m t o) ad branch x.first x.counted x.later memo input i ds x.comes acts in
              let q = picked_at (m.forwarded (shape_of m t o) i) x.first j (Some d) (ap (λ l. slice_get l j) (sym passed) ∙ some_at ds j d is) in
              let y = same_index x.first o.operands x.counted q.0 d q.2 in
              fits_lower (read v) (read y.0) d (below y.0 (picked_in (m.forwarded (shape_of m t o) i) o.operands j q.0 y.0 q.1 y.1)) (x.fits q.0 y.0 d y.1 q.2)

  -- a visit comes to such a block too: of the root's regions with what nobody knows
  root_visit_found : (env env1 : Environment) → Agrees read env → (k i r : ℕ) (o : Operation) (b : Block) (ds : List Datum) → k ≡ root → op_at t k ≡ Some o → slice_get o.regions i ≡ Some r → (y : ShowsEntry t r b) → bind env b.arguments ds ≡ Some env1 → Comes_to y.key × Agrees read env1
  root_visit_found env env1 so k i r o b ds s e re y be =
      let visit = kept.root_visits r y.key (subst (λ z. In r (regions_of t z)) s (subst (In r) (sym (op_shows t k o e).regions) (in_slice o.regions i r re))) y.entry in
      (visit.0, bind_agrees read b.arguments ds env env1 (λ j v d at is. subst (λ z. Fits z d) (sym (visit.1 v (subst (In v) (sym (block_shows t y.key b y.liveness).arguments) (in_slice b.arguments j v at)))) tt) be so)

  -- of others' with what the operands were that they name
  visit_found : (env env1 : Environment) → Agrees read env → (k i r : ℕ) (memo : Datum) (o : Operation) (b : Block) (input ds : List Datum) (next : Datum) → MayMove t root Comes_to k → op_at t k ≡ Some o → Minds o memo input → m.act (shape_of m t o) memo input ≡ Visit i ds next → slice_get o.regions i ≡ Some r → (y : ShowsEntry t r b) → bind env b.arguments ds ≡ Some env1 → Comes_to y.key × Agrees read env1
  unfolding shape_of
  visit_found env env1 so k i r memo o b input ds next may e x acts re y be = (visit.0, bind_agrees read b.arguments ds env env1 reported be so)
    where
      visit : Comes_to y.key × AreBelowNamed says t read read o i y.key
      visit = kept.visits k i r y.key o may e re y.entry

      reported : (j v : ℕ) (d : Datum) → slice_get b.arguments j ≡ Some v → slice_get ds j ≡ Some d → Fits (read v) d
      reported j v d at is = by (says.entry_operands (shape_of m t o) i j) refl (visit.1 j v (ap (λ l. slice_get l j) (block_shows t y.key b y.liveness).arguments ∙ at))
        where
          by : (a : Option ℕ) → says.entry_operands (shape_of m t o) i j ≡ a → IsBelowNamed read read o.operands a v → Fits (read v) d
          by None q below = subst (λ z. Fits z d) (sym below) tt
          by (Some p) q below =
              let there = names.passes (shape_of m t o) (admitted k o (inr may.0) e) i j p q x.first x.counted x.later memo input ds next x.comes acts d is in
              let u = same_index x.first o.operands x.counted p d there in
              fits_lower (read v) (read u.0) d (below u.0 u.1) (x.fits p u.0 d u.1 there)

  -- the same of the places
  there : Rules m t (places t root)
  there = place_rules t w root m f.linked.edges f.defined

  rules : Rules m t knowing
  rules = record {
    Deeper = there.Deeper;
    deeper_trans = there.deeper_trans;
    moves_deep = λ env h k rest memo answer p. there.moves_deep env h k rest memo answer (p.0, p.1);
    waits_deep = λ env h k rest memo p. there.waits_deep env h k rest memo p.0;
    gives = λ env env1 h k rest memo answer ds so p x e.
        let q = there.gives env env1 h k rest memo answer ds tt (p.0, p.1) x e in
        (gives_found env env1 so k memo x.operation x.input ds (moves env h k rest p.0 p.3) x.liveness (now env so k rest memo answer p.2 (Give ds) x) x.acts e, (q.1.0, q.1.1, at_rest (Some h) rest, λ j i. p.3 j (inr i)), λ g j r y d z. (q.2 g j r y d z.0, z.1, z.2));
    goes = λ env env1 h k rest memo answer i ds c b so p x ce be e.
        let q = there.goes env env1 h k rest memo answer i ds c b tt (p.0, p.1) x ce be e in
        let g = goes_found env env1 so k i c memo x.operation b x.input ds (moves env h k rest p.0 p.3) x.liveness (now env so k rest memo answer p.2 (Goto i ds) x) x.acts ce be e in
        (g.1, (q.1.0, q.1.1, at_rest (Some h) b.operations, all_stand c b be g.0 h), λ g j r y d z. (q.2 g j r y d z.0, z.1, z.2));
    visits = λ env env1 h k rest memo answer i ds next r b so p x re be e.
        let q = there.visits env env1 h k rest memo answer i ds next r b tt (p.0, p.1) x re be e in
        let a = entry_shows t r b be in
        let g = comes env env1 so h k rest memo answer i r ds next b p.0 p.2 p.3 x re a e in
        (g.1, (q.1.0, q.1.1, at_rest (Some k) b.operations, all_stand a.key b a.liveness g.0 k), (q.2, (λ back. visited env so h k rest memo answer i ds next p.2 x back), p.3), λ g j s y d z. (q.3 g j s y d z.0, z.1, z.2));
    accurate = λ env h k rest memo answer e next d so p x. (p.0, has_some h (d ∷ []), reported env so h k rest memo answer e next d p.2 x, p.3);
    resumes = λ env h rest memo ds p. (p.0, has_some h ds, p.1 ds, p.2);
  }
    where
      moves : (env : Environment) (h k : ℕ) (rest : List ℕ) → IsAt t root env (Some h) (k ∷ rest) → IsFound (Some h) (k ∷ rest) → MayMove t root Comes_to k
      moves env h k rest p q = (placed_inside t w root env h k rest p, q k (inl refl))

      comes : (env env1 : Environment) → Agrees read env → (h : Option ℕ) (k : ℕ) (rest : List ℕ) (memo : Datum) (answer : Option (List Datum)) (i r : ℕ) (ds : List Datum) (next : Datum) (b : Block) → IsAt t root env h (k ∷ rest) → IsMinding h (k ∷ rest) memo answer → IsFound h (k ∷ rest) → (x : Makes m t env k memo answer (Visit i ds next)) → slice_get x.operation.regions i ≡ Some r → (y : ShowsEntry t r b) → bind env b.arguments ds ≡ Some env1 → Comes_to y.key × Agrees read env1
      comes env env1 so None k rest memo answer i r ds next b p mind q x re y e = let s : k ≡ root = cc in root_visit_found env env1 so k i r x.operation b ds s x.liveness re y e
      comes env env1 so (Some h) k rest memo answer i r ds next b p mind q x re y e =
          visit_found env env1 so k i r memo x.operation b x.input ds next (moves env h k rest p q) x.liveness (now env so k rest memo answer mind (Visit i ds next) x) x.acts re y e

      visited : (env : Environment) → Agrees read env → (h : Option ℕ) (k : ℕ) (rest : List ℕ) (memo : Datum) (answer : Option (List Datum)) (i : ℕ) (ds : List Datum) (next : Datum) → IsMinding h (k ∷ rest) memo answer → Makes m t env k memo answer (Visit i ds next) → (back : List Datum) → IsMinding h (k ∷ rest) next (Some back)
      visited env so None k rest memo answer i ds next p x back = tt
      visited env so (Some h) k rest memo answer i ds next p x back =
          in_mind k rest next back x.operation x.liveness (onward (now env so k rest memo answer p (Visit i ds next) x) next back (λ later first c. Answered i ds next back c x.acts)) (Some h)

      reported : (env : Environment) → Agrees read env → (h : Option ℕ) (k : ℕ) (rest : List ℕ) (memo : Datum) (answer : Option (List Datum)) (e next d : Datum) → IsMinding h (k ∷ rest) memo answer → Makes m t env k memo answer (Emit e next) → IsMinding h (k ∷ rest) next (Some (d ∷ []))
      reported env so None k rest memo answer e next d p x = tt
      reported env so (Some h) k rest memo answer e next d p x =
          in_mind k rest next (d ∷ []) x.operation x.liveness (onward (now env so k rest memo answer p (Emit e next) x) next (d ∷ []) (λ later first c. AnsweredByWorld e next d c x.acts)) (Some h)

  begins : (inputs world : List Datum) → Holding m t knowing rules root (start root inputs world)
  begins inputs world = record { holder = None; always = λ v d e. absurd (not_none e); place = (refl, has_some None inputs, tt, tt); below = tt }

  holds : (s : State) → RunReaches m t root s → Holding m t knowing rules root s
  holds s r = reached_holds m t root (Holding m t knowing rules root) (holding_kept m t knowing rules root) begins s r

  -- wherever an operation reads a value that is this constant, it has that datum
  pub constants_read : (v : ℕ) (c : AttrObj) → read v ≡ Constant c → IsReadAs m t v (datum_of c) root
  constants_read v c is s k rest r e none i =
      let x = read_data m t root w f s r k v rest e none i in
      x.1 ∙ ap Some (sym (subst (λ z. Fits z x.0) is ((holds s r).always v x.0 x.1)))
