-- Wherever an argument that is one value is read, it has the datum of the value.
use Rattle.std.proofs.Common.{◌≡◌, ◌≢◌, ◌⊎◌, inl, inr, ⊎_elim, ℕ, zero, suc, Bool, true, false, List, [], ◌∷◌, map, Option, Some, None, IsTrue, length, slice_get, refl, sym, ap, ◌∙◌, subst, arith}
use Rattle.std.proofs.lemmas.Bool.{cases_eq}
use Rattle.pliron_core.specs.declared.context.Def.TheVariants.{Result, Argument}
use Rattle.pliron_core.specs.Tree.{Tree, In, first_of, IsInside, IsWithin, HoldsBlock, operands_of, successors_of, results_of, parent_of, body_of, arguments_of, block_parent_of, layout_of, region_parent_of, block_parent_operation_of, parent_operation_of, definition_of, up_from, op_of_slot}
use Rattle.pliron_core.specs.Edges.{succs_from}
use Rattle.pliron_core.specs.Invariant.{IsTree}
use Rattle.pliron_core.proofs.ListLemmas.{In-right, decide_in}
use Rattle.pliron_core.proofs.HoldingLemmas.{some_is, not_none, in_slice, slice_in, holder_by, inside_up, inside_by, deeper, within_inside, not_itself}
use Rattle.pliron_laws.specs.Datum.{Datum, Empty, Head, Shape, Meaning, Move, Goto, Emit}
use Rattle.pliron_laws.specs.Tree.{Operation, Block, op_at, entry_block, count_arguments, shape_of}
use Rattle.pliron_laws.specs.States.{Environment, Waiting, State, bind, data_of, input_of}
use Rattle.pliron_laws.specs.Machine.{start}
use Rattle.pliron_laws.specs.Paths.{Path, Leads}
use Rattle.pliron_laws.specs.Root.{defining_block, HasPassed, IsDominated}
use Rattle.pliron_laws.specs.Linked.{EndsBlock}
use Rattle.pliron_laws.specs.Acting.{Comes, Begins, AnsweredByWorld, pick}
use Rattle.pliron_laws.specs.Laws.{ForwardsOperands}
use Rattle.pliron_laws.specs.Answers.{IsForwardedAt}
use Rattle.pliron_laws.proofs.Records.{op_shows, block_shows, entry_shows, ShowsEntry}
use Rattle.pliron_laws.proofs.BindingLemmas.{bind_other, bind_at, bind_has_datum, data_at}
use Rattle.pliron_theory.specs.Keeps.{IsFit}
use Rattle.pliron_theory.specs.Renaming.{RunReaches}
use Rattle.pliron_theory.proofs.Frames.{LatticeValues, Makes, Rules, Below, Holding, holding_kept}
use Rattle.pliron_theory.proofs.Alike.{data_long}
use Rattle.pliron_theory.proofs.Bound.{IsPlaced, IsAt, HasAnswer, has_some, places, place_rules, placed_parent, placed_holder, placed_inside, at_within}
use Rattle.pliron_theory.proofs.Reached.{reached_holds}
use Rattle.pliron_theory.proofs.Reading.{ready_when_reached}
use Rattle.pliron_theory.proofs.SweptKeeps.{admitted_shape}
use Rattle.pliron_rewrite_blocks.proofs.Ways.{Misses}
use Rattle.pliron_rewrite_arguments.specs.OneValue.{IsOneValue}
use Rattle.pliron_rewrite_arguments.proofs.ArgumentEdges as leading

none_mapped : {A : Type 0} (f : ℕ → A) (xs : List ℕ) → map f xs ≡ [] → xs ≡ []
none_mapped f [] e = refl
none_mapped f (x ∷ xs) e = grind arith

-- what a branch without regions visits
no_region : (xs : List ℕ) (n r : ℕ) → xs ≡ [] → slice_get xs n ≡ Some r → ⊥
no_region xs n r none e =
    let f : slice_get {X = ℕ} [] n ≡ Some r = ap (λ z. slice_get z n) (sym none) ∙ e in
    absurd (not_none f)

-- what is passed at a place is the datum of the operand there
passed_datum : (ds : List Datum) (places : List ℕ) (first : List Datum) (n q : ℕ) → slice_get places n ≡ Some q → map Some ds ≡ pick places first → slice_get ds n ≡ slice_get first q
passed_datum [] [] first n q e f = absurd (not_none e)
passed_datum [] (x ∷ places) first n q e f = grind arith
passed_datum (d ∷ ds) [] first n q e f = grind arith
passed_datum (d ∷ ds) (x ∷ places) first zero q e f = let g : Some d ≡ slice_get first x = cc in g ∙ ap (slice_get first) (some_is e)
passed_datum (d ∷ ds) (x ∷ places) first (suc n) q e f = let g : map Some ds ≡ pick places first = cc in passed_datum ds places first n q e g

head_is : (k j : ℕ) (rest others : List ℕ) → k ∷ rest ≡ j ∷ others → k ≡ j
head_is k j rest others e = cc

in_first : (xs : List ℕ) (a : ℕ) → first_of xs None ≡ Some a → In a xs
in_first [] a e = absurd (not_none e)
in_first (z ∷ xs) a e = inl (sym (some_is e))

module _ (m : Meaning) (can_fold : Head → Bool) (SameTests : Head → Head → Type 0) (shortened : Shape → ℕ → ℕ → Head) (law : ForwardsOperands m can_fold SameTests shortened) (t : Tree) (w : IsTree t) (b i v : ℕ) (h : IsOneValue m t b i v) (root : ℕ) (f : IsFit m t root) (holds_block : HoldsBlock t root b) (entry : ℕ) (fe : first_of (layout_of t (leading.here m t w b i v h)) None ≡ Some entry) where
  abbrev here : ℕ
  here = leading.here m t w b i v h

  abbrev top : ℕ
  top = leading.top m t w b i v h

  abbrev p : ℕ
  p = h.argument

  inner : entry ≢ b
  inner = leading.inner m t w b i v h entry fe

  made : definition_of t p ≡ Some (Argument b i)
  made = leading.made m t w b i v h

  top_of_here : region_parent_of t here ≡ Some top
  top_of_here = (leading.held m t w b i v h).4

  ends : (k : ℕ) → In b (successors_of t k) → EndsBlock t k
  ends k j = leading.ends m t w b i v h root f holds_block k j

  branch_holder : (k : ℕ) → In b (successors_of t k) → parent_operation_of t k ≡ Some top
  branch_holder k j = leading.end_holder m t w b i v h k j (ends k j)

  -- the argument is made nowhere else
  not_result : (k : ℕ) → In p (results_of t k) → ⊥
  not_result k x = let j = slice_in (results_of t k) p x in let e : Some (Result k j.0) ≡ Some (Argument b i) = sym (w.joined.results k j.0 p j.1) ∙ made in absurd (cc)

  of_b : (c : ℕ) → In p (arguments_of t c) → c ≡ b
  of_b c x = let j = slice_in (arguments_of t c) p x in let e : Argument c j.0 ≡ Argument b i = some_is (sym (w.joined.arguments c j.0 p j.1) ∙ made) in cc

  once : (j : ℕ) → slice_get (arguments_of t b) j ≡ Some p → j ≡ i
  once j x = let e : Argument b j ≡ Argument b i = some_is (sym (w.joined.arguments b j p x) ∙ made) in cc

  -- how the value dominates a branch that forwards it
  abbrev source : ℕ
  source = leading.source m t w b i v h

  source_leads : In b (successors_of t source)
  source_leads = leading.source_leads m t w b i v h

  d : IsDominated t source v
  d = f.defined.dominated source v (leading.source_uses m t w b i v h) (leading.value_inside m t w b i v h root f holds_block)

  home : (x : ℕ) × (region_parent_of t d.region ≡ Some x) × (parent_operation_of t d.around ≡ Some x)
  home = leading.home_held t w source v d

  -- the parent operation of the region that makes the value stands around the block, or is its holder
  holder_above : (home.0 ≡ top) ⊎ IsInside t home.0 top
  holder_above = ⊎_elim
      (λ s. inl (some_is (sym home.2 ∙ ap (parent_operation_of t) (sym s) ∙ branch_holder source source_leads)))
      (λ y.
      let u = inside_up y in
      let s : u.0 ≡ top = some_is (sym u.1 ∙ branch_holder source source_leads) in
      inr (within_inside (inside_by home.0 home.2 (inl refl)) (subst (IsWithin t d.around) s u.2)))
      d.holds

  -- what stands in the block's region
  abbrev Here : ℕ → Type 0
  Here k = (c : ℕ) × (parent_of t k ≡ Some c) × (block_parent_of t c ≡ Some here)

  held_here : (k : ℕ) → Here k → parent_operation_of t k ≡ Some top
  held_here k x = holder_by t k x.0 top x.1 (ap (λ o. up_from o (λ r. region_parent_of t r)) x.2 ∙ top_of_here)

  -- does not stand around what makes the value, nor around the block
  not_around : (k : ℕ) → Here k → IsWithin t k top → ⊥
  not_around k x y = not_itself w.joined.rooted (within_inside (inside_by top (held_here k x) (inl refl)) y)

  not_home : (k : ℕ) → Here k → IsWithin t k home.0 → ⊥
  not_home k x y =
      let below : IsInside t top home.0 = within_inside (inside_by top (held_here k x) (inl refl)) y in
      ⊎_elim (λ e. not_itself w.joined.rooted (subst (IsInside t top) e below)) (λ z. not_itself w.joined.rooted (deeper z below)) holder_above

  -- where the value is made
  by_result : (k : ℕ) → In v (results_of t k) → parent_operation_of t k ≡ Some home.0
  by_result k x =
      let j = slice_in (results_of t k) v x in
      let e : up_from (parent_of t k) (λ c. block_parent_of t c) ≡ Some d.region = ap (λ z. up_from (defining_block t z) (λ c. block_parent_of t c)) (sym (w.joined.results k j.0 v j.1)) ∙ d.defined in
      go (parent_of t k) e
    where
      go : (o : Option ℕ) → up_from o (λ c. block_parent_of t c) ≡ Some d.region → up_from o (λ c. block_parent_operation_of t c) ≡ Some home.0
      go None e = absurd (not_none e)
      go (Some c) e = ap (λ o. up_from o (λ r. region_parent_of t r)) e ∙ home.1

  by_argument : (c : ℕ) → In v (arguments_of t c) → block_parent_operation_of t c ≡ Some home.0
  by_argument c x =
      let j = slice_in (arguments_of t c) v x in
      let e : block_parent_of t c ≡ Some d.region = ap (λ z. up_from (defining_block t z) (λ c. block_parent_of t c)) (sym (w.joined.arguments c j.0 v j.1)) ∙ d.defined in
      ap (λ o. up_from o (λ r. region_parent_of t r)) e ∙ home.1

  -- what holds at a place of the block's region: a path leads there, and the argument has the value's datum, or
  -- some path to there misses b
  abbrev pub Claim : Environment → ℕ → Type 0
  Claim env k = (c : ℕ) → parent_of t k ≡ Some c → block_parent_of t c ≡ Some here → (before : List ℕ) × Path t entry c before × ((env p ≡ env v) ⊎ Misses t entry c b)

  abbrev pub OfHead : Environment → List ℕ → Type 0
  OfHead env [] = Unit {0}
  OfHead env (k ∷ rest) = Claim env k

  abbrev pub OfPlace : Environment → Option ℕ → List ℕ → Type 0
  OfPlace env None rest = Unit {0}
  OfPlace env (Some g) rest = OfHead env rest

  -- an operation came from the data that its operands have to this memo and this answer
  pub record Begun (env : Environment) (k : ℕ) (memo : Datum) (answer : Option (List Datum)) : Type 0 where
    pub operation : Operation
    pub liveness : op_at t k ≡ Some operation
    pub first : List Datum
    pub has : data_of env operation.operands ≡ Some first
    pub input : List Datum
    pub answered : answer ≡ Some input
    pub comes : Comes m.act (shape_of m t operation) first true memo input

  -- a branch to b has not moved yet, or it began
  abbrev pub Minds : Environment → List ℕ → Datum → Option (List Datum) → Type 0
  Minds env rest memo answer = (k : ℕ) (others : List ℕ) → rest ≡ k ∷ others → In b (successors_of t k) → ((memo ≡ Empty) × (answer ≡ None)) ⊎ Begun env k memo answer

  -- no branch to b waits
  abbrev pub NoBranch : List ℕ → Type 0
  NoBranch rest = (k : ℕ) (others : List ℕ) → rest ≡ k ∷ others → In b (successors_of t k) → ⊥

  abbrev pub facts : LatticeValues
  facts = record {
    Always = λ env. Unit {0};
    Moves = λ env g rest memo answer. IsAt t root env g rest × HasAnswer g answer × OfPlace env g rest × Minds env rest memo answer;
    Waits = λ env g rest memo. IsAt t root env g rest × OfPlace env g rest × NoBranch rest;
  }

  there : Rules m t (places t root)
  there = place_rules t w root m f.linked.edges f.defined

  at_rest : (env : Environment) (rest : List ℕ) → Minds env rest Empty None
  at_rest env rest k others e j = inl (refl, refl)

  is_branch : (k : ℕ) → In b (successors_of t k) → (o : Operation) → op_at t k ≡ Some o → IsTrue (m.is_branch o.head)
  is_branch k j o e = h.branches k j o.head (op_shows t k o e).head

  -- a branch visits nothing
  visits_nothing : (k : ℕ) → In b (successors_of t k) → IsWithin t root k → (o : Operation) → op_at t k ≡ Some o → (n r : ℕ) → slice_get o.regions n ≡ Some r → ⊥
  unfolding shape_of
  visits_nothing k j within o e n r re =
      no_region o.regions n r (none_mapped (λ z. count_arguments (entry_block t z)) o.regions (law.alone (shape_of m t o) (admitted_shape m t k o e (f.linked.admitted k within)) (is_branch k j o e)).1) re

  -- from where it came to its move
  record Came (env : Environment) (memo : Datum) (o : Operation) (input : List Datum) : Type 0 where
    first : List Datum
    has : data_of env o.operands ≡ Some first
    later : Bool
    comes : Comes m.act (shape_of m t o) first later memo input

  came : (env : Environment) (k : ℕ) (memo : Datum) (answer : Option (List Datum)) (move : Move) → ((memo ≡ Empty) × (answer ≡ None)) ⊎ Begun env k memo answer → (x : Makes m t env k memo answer move) → Came env memo x.operation x.input
  came env k memo answer move (inl u) x = record {
    first = x.input;
    has = ap (input_of env x.operation.operands) (sym u.1) ∙ x.reads;
    later = false;
    comes = subst (λ z. Comes m.act (shape_of m t x.operation) x.input false z x.input) (sym u.0) Begins;
  }
  came env k memo answer move (inr g) x =
      let o : g.operation ≡ x.operation = some_is (sym g.liveness ∙ x.liveness) in
      let y : g.input ≡ x.input = some_is (sym (ap (input_of env x.operation.operands) g.answered) ∙ x.reads) in
      record {
        first = g.first;
        has = ap (λ z. data_of env z.operands) (sym o) ∙ g.has;
        later = true;
        comes = subst (λ z. Comes m.act (shape_of m t x.operation) g.first true memo z) y (subst (λ z. Comes m.act (shape_of m t z) g.first true memo g.input) o g.comes);
      }

  told_on : (env : Environment) (k : ℕ) (memo : Datum) (answer : Option (List Datum)) (reported next d' : Datum) (x : Makes m t env k memo answer (Emit reported next)) → ((memo ≡ Empty) × (answer ≡ None)) ⊎ Begun env k memo answer → Begun env k next (Some (d' ∷ []))
  told_on env k memo answer reported next d' x mind =
      let c = came env k memo answer (Emit reported next) mind x in
      record { operation = x.operation; liveness = x.liveness; first = c.first; has = c.has; input = d' ∷ []; answered = refl; comes = AnsweredByWorld reported next d' c.comes x.acts }

  -- binding other values changes nothing
  same_both : (env env1 : Environment) (vs : List ℕ) (ds : List Datum) → bind env vs ds ≡ Some env1 → (In p vs → ⊥) → (In v vs → ⊥) → env p ≡ env v → env1 p ≡ env1 v
  same_both env env1 vs ds e np nv s = bind_other vs ds env env1 e p np ∙ s ∙ sym (bind_other vs ds env env1 e v nv)

  kept_claim : (env env1 : Environment) (vs : List ℕ) (ds : List Datum) → bind env vs ds ≡ Some env1 → (k : ℕ) → (Here k → In p vs → ⊥) → (Here k → In v vs → ⊥) → Claim env k → Claim env1 k
  kept_claim env env1 vs ds e k np nv q c pk rc =
      let x = q c pk rc in
      (x.0, x.1, ⊎_elim (λ s. inl (same_both env env1 vs ds e (np (c, pk, rc)) (nv (c, pk, rc)) s)) (λ z. inr z) x.2)

  kept_place : (env env1 : Environment) (vs : List ℕ) (ds : List Datum) → bind env vs ds ≡ Some env1 → (g : Option ℕ) (j : ℕ) (rest : List ℕ) → (Here j → In p vs → ⊥) → (Here j → In v vs → ⊥) → OfPlace env g (j ∷ rest) → OfPlace env1 g (j ∷ rest)
  kept_place env env1 vs ds e None j rest np nv q = tt
  kept_place env env1 vs ds e (Some g) j rest np nv q = kept_claim env env1 vs ds e j np nv q

  -- the next operation of a block
  next_claim : (env env1 : Environment) (g k : ℕ) (rest : List ℕ) (ds : List Datum) → bind env (results_of t k) ds ≡ Some env1 → IsPlaced t root env g (k ∷ rest) → Claim env k → OfHead env1 rest
  next_claim env env1 g k [] ds e q claim = tt
  next_claim env env1 g k (next ∷ rest) ds e q claim = λ c pn rc.
      let pk : parent_of t k ≡ Some q.block = placed_parent t w root env g k (next ∷ rest) q in
      let pn' : parent_of t next ≡ Some q.block = w.bodies.owned next q.block (subst (In next) (sym q.split) (In-right next q.done (k ∷ next ∷ rest) (inr (inl refl)))) in
      let same : q.block ≡ c = some_is (sym pn' ∙ pn) in
      let pc : parent_of t k ≡ Some c = pk ∙ ap Some same in
      let x = claim c pc rc in (
        x.0,
        x.1,
        ⊎_elim
            (λ s. ⊎_elim (λ y. inr (leading.result_misses m t w b i v h root f holds_block entry fe k c pc rc y x.0 x.1)) (λ n. inl (same_both env env1 (results_of t k) ds e (not_result k) n s)) (decide_in v (results_of t k)))
            (λ z. inr z)
            x.2,
      )

  -- a block that is entered by a visit
  entered_claim : (env1 : Environment) (r : ℕ) (x : Block) (y : ShowsEntry t r x) → OfHead env1 (body_of t y.key)
  entered_claim env1 r x y = go (body_of t y.key) refl
    where
      go : (xs : List ℕ) → body_of t y.key ≡ xs → OfHead env1 xs
      go [] e = tt
      go (k ∷ rest) e = λ c pk rc.
          let same : y.key ≡ c = some_is (sym (w.bodies.owned k y.key (subst (In k) (sym e) (inl refl))) ∙ pk) in
          let home_r : r ≡ here = some_is (sym (w.layouts.owned y.key r (in_first (layout_of t r) y.key y.entry)) ∙ ap (block_parent_of t) same ∙ rc) in
          let first : entry ≡ c = some_is (sym fe ∙ ap (λ z. first_of (layout_of t z) None) (sym home_r) ∙ y.entry) ∙ same in
          ([], first, inr (record { before = []; path = first; missed = ⊎_elim (λ s. inner (first ∙ sym s)) (λ z. z) }))

  jump_passes : (k : ℕ) → In b (successors_of t k) → IsWithin t root k → (o : Operation) → op_at t k ≡ Some o → (first : List Datum) → length first ≡ length o.operands → (later : Bool) (memo : Datum) (input : List Datum) (n : ℕ) (ds : List Datum) → Comes m.act (shape_of m t o) first later memo input → m.act (shape_of m t o) memo input ≡ Goto n ds → map Some ds ≡ pick (m.forwarded (shape_of m t o) n) first
  unfolding shape_of
  jump_passes k j within o e first long later memo input n ds comes acts =
      law.passes (shape_of m t o) (admitted_shape m t k o e (f.linked.admitted k within)) (is_branch k j o e) first long later memo input n ds comes acts

  -- a jump to b, from where a path leads to it
  handed : (env env1 : Environment) (k : ℕ) (memo : Datum) (answer : Option (List Datum)) (n : ℕ) (ds : List Datum) → IsWithin t root k → ((memo ≡ Empty) × (answer ≡ None)) ⊎ Begun env k memo answer → Makes m t env k memo answer (Goto n ds) → slice_get (successors_of t k) n ≡ Some b → bind env (arguments_of t b) ds ≡ Some env1 → (c : ℕ) → parent_of t k ≡ Some c → Leads t c b → (before : List ℕ) → Path t entry c before → (env p ≡ env v) ⊎ Misses t entry c b → env1 p ≡ env1 v
  handed env env1 k memo answer n ds within mind x edge be c pk leads before path claim = ⊎_elim
      (λ y. passes v y ∙ sym stays)
      (λ y. passes p y ∙ ⊎_elim (λ s. s) (λ z. absurd (z.missed (passed_b z.before z.path y))) claim ∙ sym stays)
      (h.edges k n edge)
    where
      j : In b (successors_of t k)
      j = in_slice (successors_of t k) n b edge

      stays : env1 v ≡ env v
      stays = bind_other (arguments_of t b) ds env env1 be v (λ y. leading.not_own m t w b i v h root f holds_block entry fe (c ∷ before) (leads, path) y)

      -- where the argument itself is forwarded, b was passed
      passed_b : (part : List ℕ) → Path t entry c part → IsForwardedAt m t k n i (Some p) → In b (c ∷ part)
      passed_b part way y = leading.argument_passed m t w b i v h root f holds_block entry fe k c part j (leading.argument_used m t w b i v h k n j y) pk way

      start_of : Came env memo x.operation x.input
      start_of = came env k memo answer (Goto n ds) mind x

      passed : map Some ds ≡ pick (m.forwarded (shape_of m t x.operation) n) start_of.first
      passed = jump_passes k j within x.operation x.liveness start_of.first (data_long env x.operation.operands start_of.first start_of.has) start_of.later memo x.input n ds start_of.comes x.acts

      datum : (y : Datum) × (slice_get ds i ≡ Some y)
      datum = bind_has_datum (arguments_of t b) ds env env1 be i p h.there

      passes : (u : ℕ) → IsForwardedAt m t k n i (Some u) → env1 p ≡ env u
      passes u y =
          let q = leading.place m t w b i v h k n u y x.operation x.liveness in
          bind_at (arguments_of t b) ds env env1 be i p datum.0 h.there once datum.1 ∙ sym datum.1 ∙ passed_datum ds (m.forwarded (shape_of m t x.operation) n) start_of.first i q.0 q.1 passed ∙ data_at env x.operation.operands start_of.first start_of.has q.0 u q.2

  -- a block that is entered by a jump
  gone_claim : (env env1 : Environment) (g k : ℕ) (rest : List ℕ) (memo : Datum) (answer : Option (List Datum)) (n c : ℕ) (ds : List Datum) → IsPlaced t root env g (k ∷ rest) → Claim env k → Minds env (k ∷ rest) memo answer → Makes m t env k memo answer (Goto n ds) → slice_get (successors_of t k) n ≡ Some c → bind env (arguments_of t c) ds ≡ Some env1 → OfHead env1 (body_of t c)
  gone_claim env env1 g k rest memo answer n c ds q claim minds x edge be = go (body_of t c) refl
    where
      ce : In c (successors_of t k)
      ce = in_slice (successors_of t k) n c edge

      inside : IsInside t root k
      inside = placed_inside t w root env g k rest q

      end : EndsBlock t k
      end = f.linked.edges k c ce (inl inside)

      leads : Leads t end.block c
      leads = record { successor = subst (λ o. In c (succs_from t o)) (sym end.last) ce; same_region = end.own_region c ce }

      at_b : c ≡ b → (before : List ℕ) → Path t entry end.block before → (env p ≡ env v) ⊎ Misses t entry end.block b → env1 p ≡ env1 v
      at_b s before path y =
          let edge_b : slice_get (successors_of t k) n ≡ Some b = edge ∙ ap Some s in
          handed env env1 k memo answer n ds (inr inside) (minds k rest refl (in_slice (successors_of t k) n b edge_b)) x edge_b (ap (λ z. bind env (arguments_of t z) ds) (sym s) ∙ be) end.block end.in_block (subst (Leads t end.block) s leads) before path y

      go : (xs : List ℕ) → body_of t c ≡ xs → OfHead env1 xs
      go [] e = tt
      go (first ∷ others) e = λ c' pf rc'.
          let same : c ≡ c' = some_is (sym (w.bodies.owned first c (subst (In first) (sym e) (inl refl))) ∙ pf) in
          let rc : block_parent_of t c ≡ Some here = ap (block_parent_of t) same ∙ rc' in
          let rk : block_parent_of t end.block ≡ Some here = sym (end.own_region c ce) ∙ rc in
          let y = claim end.block end.in_block rk in
          let path : Path t entry c (end.block ∷ y.0) = (leads, y.1) in
          subst (λ z. (before : List ℕ) × Path t entry z before × ((env1 p ≡ env1 v) ⊎ Misses t entry z b)) same (
            end.block ∷ y.0,
            path,
            ⊎_elim
                (λ s. inl (at_b s y.0 y.1 y.2))
                (λ ne. ⊎_elim
                (λ i'. inr (leading.argument_misses m t w b i v h root f holds_block entry fe c rc i' (end.block ∷ y.0) path))
                (λ no. ⊎_elim
                (λ s. inl (same_both env env1 (arguments_of t c) ds be (λ z. ne (of_b c z)) no s))
                (λ z. inr (record { before = end.block ∷ z.before; path = (leads, z.path); missed = ⊎_elim (λ s. ne (sym s)) z.missed }))
                y.2)
                (decide_in v (arguments_of t c)))
                (cases_eq c b),
          )

  rules : Rules m t facts
  rules = record {
    Deeper = λ x y. there.Deeper x y × IsInside t x y;
    deeper_trans = λ x y z q r. (there.deeper_trans x y z q.0 r.0, deeper q.1 r.1);
    moves_deep = λ env g k rest memo answer q. (there.moves_deep env g k rest memo answer (q.0, q.1), inside_by g (placed_holder t w root env g k rest q.0) (inl refl));
    waits_deep = λ env g k rest memo q. (there.waits_deep env g k rest memo q.0, inside_by g (placed_holder t w root env g k rest q.0) (inl refl));
    gives = λ env env1 g k rest memo answer ds so q x e.
        let y = there.gives env env1 g k rest memo answer ds tt (q.0, q.1) x e in
        let be : bind env (results_of t k) ds ≡ Some env1 = ap (λ vs. bind env vs ds) (op_shows t k x.operation x.liveness).results ∙ e in
        (tt, (y.1.0, y.1.1, next_claim env env1 g k rest ds be q.0 q.2, at_rest env1 rest), λ o j r z dj wt. (y.2 o j r z dj.0 wt.0, kept_place env env1 (results_of t k) ds be o j r (λ hj i'. not_result k i') (λ hj i'. deep_result j k dj.1 hj i') wt.1, wt.2));
    goes = λ env env1 g k rest memo answer n ds c blk so q x ce be e.
        let y = there.goes env env1 g k rest memo answer n ds c blk tt (q.0, q.1) x ce be e in
        let s = block_shows t c blk be in
        let bound : bind env (arguments_of t c) ds ≡ Some env1 = ap (λ vs. bind env vs ds) s.arguments ∙ e in
        let edge : slice_get (successors_of t k) n ≡ Some c = ap (λ l. slice_get l n) (op_shows t k x.operation x.liveness).successors ∙ ce in
        let target : In c (successors_of t k) = in_slice (successors_of t k) n c edge in
        (tt, (y.1.0, y.1.1, subst (OfHead env1) s.operations (gone_claim env env1 g k rest memo answer n c ds q.0 q.2 q.3 x edge bound), at_rest env1 blk.operations), λ o j r z dj wt. (y.2 o j r z dj.0 wt.0, kept_place env env1 (arguments_of t c) ds bound o j r (λ hj i'. deep_edge j k c dj.1 hj target i') (λ hj i'. deep_target env g k rest j c q.0 dj.1 hj target i') wt.1, wt.2));
    visits = λ env env1 g k rest memo answer n ds next r blk so q x re be e.
        let y = there.visits env env1 g k rest memo answer n ds next r blk tt (q.0, q.1) x re be e in
        let a0 = entry_shows t r blk be in
        let s = block_shows t a0.key blk a0.liveness in
        let bound : bind env (arguments_of t a0.key) ds ≡ Some env1 = ap (λ vs. bind env vs ds) s.arguments ∙ e in
        let held_r : region_parent_of t r ≡ Some k = ap op_of_slot (w.joined.regions k n r (ap (λ l. slice_get l n) (op_shows t k x.operation x.liveness).regions ∙ re)) in
        (tt, (y.1.0, y.1.1, subst (OfHead env1) s.operations (entered_claim env1 r blk a0), at_rest env1 blk.operations), (y.2, kept_place env env1 (arguments_of t a0.key) ds bound g k rest (λ hj i'. no_entry_p r blk a0 i') (λ hj i'. deep_entry k k r blk a0 held_r (inl refl) hj i') q.2, λ k' others ek j. visits_nothing k (subst (λ z. In b (successors_of t z)) (sym (head_is k k' rest others ek)) j) (at_within t w root env g k rest q.0) x.operation x.liveness n r re), λ o j rs z dj wt. (y.3 o j rs z dj.0 wt.0, kept_place env env1 (arguments_of t a0.key) ds bound o j rs (λ hj i'. no_entry_p r blk a0 i') (λ hj i'. deep_entry j k r blk a0 held_r (inr dj.1) hj i') wt.1, wt.2));
    accurate = λ env g k rest memo answer reported next d' so q x. (
      q.0,
      has_some g (d' ∷ []),
      q.2,
      λ k' others ek j.
          let s = head_is k k' rest others ek in
          inr (subst (λ z. Begun env z next (Some (d' ∷ []))) s (told_on env k memo answer reported next d' x (q.3 k rest refl (subst (λ z. In b (successors_of t z)) (sym s) j)))),
    );
    resumes = λ env g rest memo ds q. (q.0, has_some g ds, q.1, λ k others e j. absurd (q.2 k others e j));
  }
    where
      -- what is defined inside an operation of the block's region is neither value
      deep_result : (j k : ℕ) → IsInside t j k → Here j → In v (results_of t k) → ⊥
      deep_result j k dj hj i' =
          let u = inside_up dj in
          let s : u.0 ≡ home.0 = some_is (sym u.1 ∙ by_result k i') in
          not_home j hj (subst (IsWithin t j) s u.2)

      deep_edge : (j k c : ℕ) → IsInside t j k → Here j → In c (successors_of t k) → In p (arguments_of t c) → ⊥
      deep_edge j k c dj hj ce i' =
          let u = inside_up dj in
          let s : u.0 ≡ top = some_is (sym u.1 ∙ branch_holder k (subst (λ z. In z (successors_of t k)) (of_b c i') ce)) in
          not_around j hj (subst (IsWithin t j) s u.2)

      deep_target : (env : Environment) (g k : ℕ) (rest : List ℕ) (j c : ℕ) → IsPlaced t root env g (k ∷ rest) → IsInside t j k → Here j → In c (successors_of t k) → In v (arguments_of t c) → ⊥
      deep_target env g k rest j c q dj hj ce i' =
          let end = f.linked.edges k c ce (inl (placed_inside t w root env g k rest q)) in
          let up : parent_operation_of t k ≡ Some home.0 = ap (λ o. up_from o (λ z. block_parent_operation_of t z)) end.in_block ∙ ap (λ o. up_from o (λ r. region_parent_of t r)) (sym (end.own_region c ce)) ∙ by_argument c i' in
          let u = inside_up dj in
          let s : u.0 ≡ home.0 = some_is (sym u.1 ∙ up) in
          not_home j hj (subst (IsWithin t j) s u.2)

      no_entry_p : (r : ℕ) (blk : Block) (y : ShowsEntry t r blk) → In p (arguments_of t y.key) → ⊥
      no_entry_p r blk y i' =
          let s : y.key ≡ b = of_b y.key i' in
          h.no_entry r (ap (block_parent_of t) (sym s) ∙ w.layouts.owned y.key r (in_first (layout_of t r) y.key y.entry)) (y.entry ∙ ap Some s)

      deep_entry : (j k r : ℕ) (blk : Block) (y : ShowsEntry t r blk) → region_parent_of t r ≡ Some k → IsWithin t j k → Here j → In v (arguments_of t y.key) → ⊥
      deep_entry j k r blk y held_r within hj i' =
          let s : k ≡ home.0 = some_is (sym (ap (λ o. up_from o (λ z. region_parent_of t z)) (w.layouts.owned y.key r (in_first (layout_of t r) y.key y.entry)) ∙ held_r) ∙ by_argument y.key i') in
          not_home j hj (subst (IsWithin t j) s within)

  begins : (inputs world : List Datum) → Holding m t facts rules root (start root inputs world)
  begins inputs world = record { holder = None; always = tt; place = (refl, has_some None inputs, tt, λ k others e j. absurd (subst (In b) f.defined.no_successors (subst (λ z. In b (successors_of t z)) (sym (head_is root k [] others e)) j))); below = tt }

  reached : (s : State) → RunReaches m t root s → Holding m t facts rules root s
  reached s r = reached_holds m t root (Holding m t facts rules root) (holding_kept m t facts rules root) begins s r

  -- an operation around the one that moves heads a place of the stack, or the root is within it
  find : (env : Environment) (k around : ℕ) → IsWithin t around k → (rest : List ℕ) (o : Option ℕ) (ws : List Waiting) → IsAt t root env o (k ∷ rest) → OfPlace env o (k ∷ rest) → Below m t facts rules root env o ws → ((g : ℕ) × (others : List ℕ) × IsPlaced t root env g (around ∷ others) × Claim env around) ⊎ IsWithin t around root
  find env k around y rest None ws q claim below = let e : k ≡ root = cc in inr (subst (IsWithin t around) e y)
  find env k around (inl e) rest (Some g) ws q claim below = inl (g, rest, subst (λ z. IsPlaced t root env g (z ∷ rest)) e q, subst (Claim env) e claim)
  find env k around (inr y) rest (Some g) [] q claim below = absurd below
  find env k around (inr y) rest (Some g) (x ∷ ws) q claim below =
      let u = inside_up y in
      let s : u.0 ≡ g = some_is (sym u.1 ∙ placed_holder t w root env g k rest q) in
      find env g around (subst (IsWithin t around) s u.2) below.0 below.1 ws (subst (IsAt t root env below.1) below.2 below.3.0) (subst (OfPlace env below.1) below.2 below.3.1) below.4

  -- wherever an operation reads the argument, the value has the same datum
  pub same_datum : (s : State) → RunReaches m t root s → (k : ℕ) (rest : List ℕ) → s.rest ≡ k ∷ rest → s.answer ≡ None → In p (operands_of t k) → s.environment p ≡ s.environment v
  same_datum s r k rest e none named = ⊎_elim
      (λ y. found y.0 y.1 y.2 y.3)
      (λ y. absurd (not_root y))
      (find s.environment k dom.around dom.holds rest g.holder s.waiting (subst (IsAt t root s.environment g.holder) e g.place.0) (subst (OfPlace s.environment g.holder) e g.place.2) g.below)
    where
      g : Holding m t facts rules root s
      g = reached s r

      user_inside : IsInside t root k
      user_inside = (ready_when_reached m t root w f s r k rest e none).inside

      dom : IsDominated t k p
      dom = f.defined.dominated k p named (f.defined.own_values k p user_inside named)

      in_here : dom.region ≡ here
      in_here = some_is (sym dom.defined ∙ ap (λ z. up_from (defining_block t z) (λ c. block_parent_of t c)) made ∙ (leading.held m t w b i v h).2)

      around_here : Here dom.around
      around_here = (dom.block, dom.in_block, dom.in_region ∙ ap Some in_here)

      not_root : IsWithin t dom.around root → ⊥
      not_root y =
          let u : holds_block.0 ≡ top = some_is (sym holds_block.1 ∙ (leading.held m t w b i v h).5) in
          let below : IsInside t top root = within_inside (inside_by top (held_here dom.around around_here) (inl refl)) y in
          ⊎_elim (λ z. not_itself w.joined.rooted (subst (IsInside t top) (sym (sym u ∙ z)) below)) (λ z. not_itself w.joined.rooted (deeper (subst (IsInside t root) u z) below)) holds_block.2

      found : (z : ℕ) (others : List ℕ) → IsPlaced t root s.environment z (dom.around ∷ others) → Claim s.environment dom.around → s.environment p ≡ s.environment v
      found z others q claim = ⊎_elim (λ x. x) (λ x. absurd (x.missed (subst (λ y. HasPassed t y x.before dom.block q.done) made (dom.passes entry x.before q.done others (ap (λ y. first_of (layout_of t y) None) in_here ∙ fe) x.path (ap (body_of t) (sym block) ∙ q.split))))) (claim dom.block dom.in_block (dom.in_region ∙ ap Some in_here)).2
        where
          block : q.block ≡ dom.block
          block = some_is (sym (placed_parent t w root s.environment z dom.around others q) ∙ dom.in_block)
