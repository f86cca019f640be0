-- Results that folding answers where the known operands are read as the constants that are known.
use Rattle.std.proofs.Common.{◌≡◌, ℕ, Bool, true, false, List, [], ◌∷◌, length, Option, Some, None, IsTrue, slice_get, refl, sym, ap, ◌∙◌, subst, inr, arith}
use Rattle.pliron_core.specs.declared.attrs.AttrObj.{AttrObj}
use Rattle.pliron_core.specs.declared.context.Def.TheVariants.{Result, Argument}
use Rattle.pliron_core.specs.Changes.{IsDefiningOperationInside}
use Rattle.pliron_core.specs.Tree.{Tree, In, IsInside, operands_of, results_of, arguments_of, definition_of}
use Rattle.pliron_core.specs.Invariant.{IsTree}
use Rattle.pliron_core.proofs.HoldingLemmas.{some_is, in_slice, not_itself}
use Rattle.pliron_laws.specs.Datum.{Datum, Empty, datum_of, Head, Meaning, Move, Give, Visit, Goto, Leave, Emit, Trap}
use Rattle.pliron_laws.specs.Tree.{Operation, Block, op_at, block_at, entry_block, shape_of}
use Rattle.pliron_laws.specs.States.{Environment, Waiting, State, Next, Continues, Over, bind, data_of, input_of}
use Rattle.pliron_laws.specs.Machine.{leave, after_giving, begin, enter, entry_in, go_to, emit, perform, move, turn, step_at, step, start}
use Rattle.pliron_laws.specs.Acting.{Comes, Begins, Answered, AnsweredByWorld, AgreeWithKnown}
use Rattle.pliron_laws.specs.Folding.{Constants, AnswersTrue}
use Rattle.pliron_theory.specs.Keeps.{IsFit}
use Rattle.pliron_theory.specs.Renaming.{RunReaches, IsReadAs}
use Rattle.pliron_laws.proofs.Records.{op_shows, block_shows, entry_shows}
use Rattle.pliron_theory.proofs.Simulation.{Kept, IfGoes}
use Rattle.pliron_theory.proofs.Alike.{data_long}
use Rattle.pliron_theory.proofs.KnownData.{Confirms, known_data_at, bind_confirms}
use Rattle.pliron_theory.proofs.Reached.{reached_kept, reached_start, reached_holds}
use Rattle.pliron_theory.proofs.Reading.{read_data, ready_when_reached}
use Rattle.pliron_theory.proofs.SweptKeeps.{admitted_shape}
use Rattle.pliron_theory.proofs.Refolded.{known_read}
use Rattle.pliron_theory.proofs.Answered.{only_fact, fact_here, fact_there}

both_go : (P Q : State → Type 0) (n : Next) → IfGoes n P → IfGoes n Q → IfGoes n (λ s. P s × Q s)
both_go P Q (Continues s) p q = (p, q)
both_go P Q (Over x) p q = tt

module _ (m : Meaning) (can_fold : Head → Bool) (constants : Constants) (answers : AnswersTrue m can_fold constants) (t : Tree) (root op : ℕ) (known : List (Option AttrObj)) (w : IsTree t) (f : IsFit m t root) (o : Operation) (liveness : op_at t op ≡ Some o) (folds : IsTrue (can_fold o.head)) (entries : length known ≡ length (operands_of t op)) (reads : (j v : ℕ) (c : AttrObj) → slice_get (operands_of t op) j ≡ Some v → slice_get known j ≡ Some (Some c) → IsReadAs m t v (datum_of c) root) (i v : ℕ) (c : AttrObj) (listed : slice_get o.results i ≡ Some v) (said : slice_get (constants (shape_of m t o) known) i ≡ Some (Some c)) where
  made : definition_of t v ≡ Some (Result op i)
  made = w.joined.results op i v (ap (λ l. slice_get l i) (op_shows t op o liveness).results ∙ listed)

  only_maker : (k j : ℕ) → slice_get (results_of t k) j ≡ Some v → (k ≡ op) × (j ≡ i)
  only_maker k j x = let e : Result k j ≡ Result op i = some_is (sym (w.joined.results k j v x) ∙ made) in (cc, cc)

  not_argument : (b j : ℕ) → slice_get (arguments_of t b) j ≡ Some v → ⊥
  not_argument b j x = let e : Some (Argument b j) ≡ Some (Result op i) = sym (w.joined.arguments b j v x) ∙ made in absurd (cc)

  module _ (inside : IsInside t root op) where
    -- what the operation read first has the known constants, and it came from there to here
    record Minds (memo : Datum) (input : List Datum) : Type 0 where
      pub first : List Datum
      pub counted : length first ≡ length o.operands
      pub knows : AgreeWithKnown known first
      pub later : Bool
      pub comes : Comes m.act (shape_of m t o) first later memo input

    abbrev Mind : List ℕ → Datum → Option (List Datum) → Type 0
    Mind [] memo answer = Unit {0}
    Mind (k ∷ rest) memo None = memo ≡ Empty
    Mind (k ∷ rest) memo (Some input) = k ≡ op → Minds memo input

    abbrev AllMind : List Waiting → Type 0
    AllMind [] = Unit {0}
    AllMind (x ∷ ws) = ((answer : List Datum) → Mind x.rest x.memo (Some answer)) × AllMind ws

    record Holds (s : State) : Type 0 where
      pub always : Confirms (only_fact v c) s.environment
      pub mind : Mind s.rest s.memo s.answer
      pub waits : AllMind s.waiting

    fresh : (rest : List ℕ) → Mind rest Empty None
    fresh [] = tt
    fresh (k ∷ rest) = refl

    leave_holds : (s : State) → Confirms (only_fact v c) s.environment → (ws : List Waiting) → AllMind ws → (ds : List Datum) → IfGoes (leave s ws ds) Holds
    leave_holds s a [] w ds = tt
    leave_holds s a (x ∷ ws) w ds = record { always = a; mind = w.0 ds; waits = w.1 }

    begin_holds : (s : State) → Confirms (only_fact v c) s.environment → (ws : List Waiting) → AllMind ws → (key : ℕ) (b : Block) → block_at t key ≡ Some b → (ds : List Datum) (y : Option Environment) → bind s.environment b.arguments ds ≡ y → IfGoes (begin s b.operations ws y) Holds
    begin_holds s a ws waits key b be ds None e = tt
    begin_holds s a ws waits key b be ds (Some env1) e = record {
      always = bind_confirms (only_fact v c) b.arguments ds s.environment env1 reported e a;
      mind = fresh b.operations;
      waits = waits;
    }
      where
        reported : (j x : ℕ) (a : AttrObj) (d : Datum) → slice_get b.arguments j ≡ Some x → only_fact v c x ≡ Some a → slice_get ds j ≡ Some d → datum_of a ≡ d
        reported j x a d at is there =
            let y = fact_there v c x a is in
            absurd (not_argument key j (ap (λ l. slice_get l j) (block_shows t key b be).arguments ∙ at ∙ ap Some y.0))

    goes_holds : (s : State) → Confirms (only_fact v c) s.environment → (ws : List Waiting) → AllMind ws → (ds : List Datum) (x : Option ℕ) → IfGoes (go_to t s x ds ws) Holds
    goes_holds s a [] waits ds x = tt
    goes_holds s a (y ∷ ws) waits ds None = tt
    goes_holds s a (y ∷ ws) waits ds (Some b) = go (block_at t b) refl
      where
        go : (z : Option Block) → block_at t b ≡ z → IfGoes (enter s z ds (y ∷ ws)) Holds
        go None e = tt
        go (Some z) e = begin_holds s a (y ∷ ws) waits b z e ds _ refl

    visits_holds : (s : State) → Confirms (only_fact v c) s.environment → (ws : List Waiting) → AllMind ws → (ds : List Datum) (x : Option ℕ) → IfGoes (enter s (entry_in t x) ds ws) Holds
    visits_holds s a ws waits ds None = tt
    visits_holds s a ws waits ds (Some r) = go (entry_block t r) refl
      where
        go : (z : Option Block) → entry_block t r ≡ z → IfGoes (enter s z ds ws) Holds
        go None e = tt
        go (Some z) e = let y = entry_shows t r z e in begin_holds s a ws waits y.key z y.liveness ds _ refl

    -- the operation o' at k moves
    module _ (s : State) (r : RunReaches m t root s) (g : Holds s) (k : ℕ) (rest : List ℕ) (at : s.rest ≡ k ∷ rest) (o' : Operation) (here : op_at t k ≡ Some o') (input : List Datum) (has : input_of s.environment o'.operands s.answer ≡ Some input) where
      same : k ≡ op → o' ≡ o
      same e = some_is (sym here ∙ ap (op_at t) e ∙ liveness)

      minds : k ≡ op → Minds s.memo input
      minds e = go s.answer refl (subst (λ z. Mind z s.memo s.answer) at g.mind)
        where
          go : (x : Option (List Datum)) → s.answer ≡ x → Mind (k ∷ rest) s.memo x → Minds s.memo input
          go (Some y) q mind = subst (Minds s.memo) (some_is (ap (input_of s.environment o'.operands) (sym q) ∙ has)) (mind e)
          go None q mind =
              let has_data : data_of s.environment o'.operands ≡ Some input = ap (input_of s.environment o'.operands) (sym q) ∙ has in
              let listed_o : operands_of t op ≡ o'.operands = (op_shows t op o liveness).operands ∙ ap (λ z. z.operands) (sym (same e)) in
              record {
                first = input;
                counted = data_long s.environment o'.operands input has_data ∙ ap (λ z. length z.operands) (same e);
                knows = known_read s.environment known o'.operands input (entries ∙ ap length listed_o) has_data (λ j x a there is.
                    let y = ap (λ l. slice_get l j) listed_o ∙ there in
                    reads j x a y is s k rest r at q (subst (λ z. In x (operands_of t z)) (sym e) (in_slice (operands_of t op) j x y)));
                later = false;
                comes = subst (λ z. Comes m.act (shape_of m t o) input false z input) (sym mind) Begins;
              }

      gives_holds : (ds : List Datum) → m.act (shape_of m t o') s.memo input ≡ Give ds → (ws : List Waiting) → AllMind ws → (y : Option Environment) → bind s.environment o'.results ds ≡ y → IfGoes (after_giving s rest ws ds y) Holds
      unfolding shape_of
      gives_holds ds acts ws waits None e = tt
      gives_holds ds acts [] waits (Some env1) e = tt
      gives_holds ds acts (x ∷ ws) waits (Some env1) e = record {
        always = bind_confirms (only_fact v c) o'.results ds s.environment env1 reported e g.always;
        mind = fresh rest;
        waits = waits;
      }
        where
          reported : (j x : ℕ) (a : AttrObj) (d : Datum) → slice_get o'.results j ≡ Some x → only_fact v c x ≡ Some a → slice_get ds j ≡ Some d → datum_of a ≡ d
          reported j x a d placed is there =
              let y = fact_there v c x a is in
              let z = only_maker k j (ap (λ l. slice_get l j) (op_shows t k o' here).results ∙ placed ∙ ap Some y.0) in
              let q = minds z.0 in
              let acts_o : m.act (shape_of m t o) s.memo input ≡ Give ds = ap (λ p. m.act (shape_of m t p) s.memo input) (sym (same z.0)) ∙ acts in
              let ad = admitted_shape m t op o liveness (f.linked.admitted op (inr inside)) in
              let k_ds = answers.gives (shape_of m t o) ad folds known q.first q.counted q.knows q.later s.memo input ds q.comes acts_o in
              known_data_at (constants (shape_of m t o) known) ds k_ds i a d (said ∙ ap (λ p. Some (Some p)) y.1) (ap (slice_get ds) (sym z.1) ∙ there)

      told_holds : (x next : Datum) → m.act (shape_of m t o') s.memo input ≡ Emit x next → (world : List Datum) → IfGoes (emit s x next world) Holds
      told_holds x next acts [] = tt
      told_holds x next acts (d ∷ world) = record {
        always = g.always;
        mind = subst (λ z. Mind z next (Some (d ∷ []))) (sym at) (λ e.
            let q = minds e in
            record { first = q.first; counted = q.counted; knows = q.knows; later = true; comes = AnsweredByWorld x next d q.comes (ap (λ p. m.act (shape_of m t p) s.memo input) (sym (same e)) ∙ acts) });
        waits = g.waits;
      }

      waiting : (j : ℕ) (ds : List Datum) (next : Datum) → m.act (shape_of m t o') s.memo input ≡ Visit j ds next → (answer : List Datum) → k ≡ op → Minds next answer
      waiting j ds next acts answer e =
          let q = minds e in
          record { first = q.first; counted = q.counted; knows = q.knows; later = true; comes = Answered j ds next answer q.comes (ap (λ p. m.act (shape_of m t p) s.memo input) (sym (same e)) ∙ acts) }

      perform_holds : (a : Move) → m.act (shape_of m t o') s.memo input ≡ a → IfGoes (perform t s o' k rest a) Holds
      perform_holds (Give ds) e = gives_holds ds e s.waiting g.waits _ refl
      perform_holds (Visit j ds next) e = visits_holds s g.always (record { rest = k ∷ rest; memo = next } ∷ s.waiting) (waiting j ds next e, g.waits) ds (slice_get o'.regions j)
      perform_holds (Goto j ds) e = goes_holds s g.always s.waiting g.waits ds (slice_get o'.successors j)
      perform_holds (Leave ds) e = leave_holds s g.always s.waiting g.waits ds
      perform_holds (Emit x next) e = told_holds x next e s.world
      perform_holds Trap e = tt

    move_holds : (s : State) → RunReaches m t root s → Holds s → (k : ℕ) (rest : List ℕ) → s.rest ≡ k ∷ rest → (o' : Operation) → op_at t k ≡ Some o' → (x : Option (List Datum)) → input_of s.environment o'.operands s.answer ≡ x → IfGoes (move m t s o' k rest x) Holds
    move_holds s r g k rest at o' here None has = tt
    move_holds s r g k rest at o' here (Some input) has = perform_holds s r g k rest at o' here input has _ refl

    turn_holds : (s : State) → RunReaches m t root s → Holds s → (k : ℕ) (rest : List ℕ) → s.rest ≡ k ∷ rest → (x : Option Operation) → op_at t k ≡ x → IfGoes (turn m t s k rest x) Holds
    turn_holds s r g k rest at None here = tt
    turn_holds s r g k rest at (Some o') here = move_holds s r g k rest at o' here _ refl

    rest_holds : (s : State) → RunReaches m t root s → Holds s → (xs : List ℕ) → s.rest ≡ xs → IfGoes (step_at m t s xs) Holds
    rest_holds s r g [] at = leave_holds s g.always s.waiting g.waits []
    rest_holds s r g (k ∷ rest) at = turn_holds s r g k rest at _ refl

    kept : Kept (step m t) (λ s. RunReaches m t root s × Holds s)
    unfolding step
    kept = record { keeps = λ s p. both_go (RunReaches m t root) Holds (step_at m t s s.rest) ((reached_kept m t root).keeps s p.0) (rest_holds s p.0 p.1 s.rest refl) }

    begins : (inputs world : List Datum) → Holds (start root inputs world)
    begins inputs world = record { always = λ x a d e q. grind arith; mind = λ e. absurd (not_itself w.joined.rooted (subst (IsInside t root) (sym e) inside)); waits = tt }

    read_inside : IsReadAs m t v (datum_of c) root
    read_inside s k rest r e none u =
        let g = reached_holds m t root (λ z. RunReaches m t root z × Holds z) kept (λ inputs world. (reached_start m t root inputs world, begins inputs world)) s r in
        let x = read_data m t root w f s r k v rest e none u in
        x.1 ∙ ap Some (sym (g.1.always v c x.0 (fact_here v c) x.1))

  -- the result is read as the constant
  pub answered_read : IsReadAs m t v (datum_of c) root
  answered_read s k rest r e none u =
      let within = (ready_when_reached m t root w f s r k rest e none).inside in
      read_inside (subst (IsDefiningOperationInside t root) made (f.defined.own_values k v within u)) s k rest r e none u
