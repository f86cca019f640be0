-- A root does the same where an edge leads past a block that only jumps.
use Rattle.std.proofs.Common.{◌≡◌, ◌≢◌, ◌⊎◌, inl, inr, ⊎_elim, ℕ, ◌<◌, Bool, true, false, List, [], ◌∷◌, ◌++◌, Option, Some, None, IsSome, nat_eq, slice_get, refl, sym, ap, ap₂, ◌∙◌, subst, arith}
use Rattle.std.proofs.lemmas.Bool.{cases_eq, eq-eqb}
use Rattle.pliron_core.specs.Tree.{Tree, In, IsLive, head_of, operands_of, successors_of, results_of, regions_of, parent_of, body_of, arguments_of, block_parent_of, layout_of, region_parent_of, op_of_slot}
use Rattle.pliron_core.specs.Invariant.{IsTree}
use Rattle.pliron_core.proofs.HoldingLemmas.{some_is, some_of}
use Rattle.pliron_core.proofs.ListLemmas.{In-right}
use Rattle.pliron_laws.specs.Datum.{Datum, Empty, Head, Meaning, Move, Give, Visit, Goto, Leave, Emit, Trap}
use Rattle.pliron_laws.specs.Tree.{Operation, Block, op_at, block_with, block_at, region_with, region_at, entry_of, and_block, entry_block, count_arguments, shape_of}
use Rattle.pliron_laws.specs.Machine.{Environment, Waiting, State, Next, Continues, Over, trap, bind, data_of, input_of, at_rest, leave, after_giving, emit, begin, enter, entry_in, block_in, go_to, perform, move, turn, step_at, step, start}
use Rattle.pliron_laws.specs.Agree.{Agree}
use Rattle.pliron_theory.specs.Keeps.{IsFit}
use Rattle.pliron_theory.specs.Renaming.{RunReaches}
use Rattle.pliron_theory.proofs.Simulation.{Pace, Both, Finish, Left, KeepPace, Kept, IfGoes, anything_kept, pace_under_both, agree_by}
use Rattle.pliron_theory.proofs.Reached.{reached_kept, reached_start}
use Rattle.pliron_theory.proofs.Bound.{IsReady}
use Rattle.pliron_theory.proofs.Reading.{ready_when_reached}
use Rattle.pliron_theory.proofs.Alike.{shape_same}
use Rattle.pliron_theory.proofs.Keys.{not_is}
use Rattle.pliron_laws.proofs.Records.{op_shows, operation_of, block_of, make_op, make_block, no_op}
use Rattle.pliron_rewrite_copies.specs.Moving.{IsEdgeMoved, Goes, Meet, GoesAlong, GoesAlong.BothTrap, GoesAlong.SameBlock, GoesAlong.PastBlock, LeadsAlong}

module _ (m : Meaning) (t u : Tree) (a op e jump : ℕ) (front : List ℕ) (w : IsTree t) (w' : IsTree u) (h : IsEdgeMoved t u a op e jump front) where
  pub op_in : parent_of t op ≡ Some a
  op_in = w.bodies.owned op a (subst (In op) (sym h.split) (In-right op front (op ∷ []) (inl refl)))

  pub jump_in : parent_of t jump ≡ Some e
  jump_in = w.bodies.owned jump e (subst (In jump) (sym h.only_jumps) (inl refl))

  pub jump_other : jump ≢ op
  jump_other q = h.apart (some_is (sym op_in ∙ ap (parent_of t) (sym q) ∙ jump_in))

  block_same : (c : ℕ) → block_at u c ≡ block_at t c
  unfolding block_at
  block_same c = ap (block_with u c) (h.block_parents c) ∙ go (block_parent_of t c)
    where
      go : (x : Option ℕ) → block_with u c x ≡ block_with t c x
      go None = refl
      go (Some r) = ap₂ (λ vs ks. Some (record { arguments = vs; operations = ks; parent = r })) (h.arguments c) (h.bodies c)

  region_same : (r : ℕ) → region_at u r ≡ region_at t r
  unfolding region_at
  region_same r = ap (region_with u r) (ap op_of_slot (h.slots r)) ∙ go (region_parent_of t r)
    where
      go : (x : Option ℕ) → region_with u r x ≡ region_with t r x
      go None = refl
      go (Some k) = ap (λ l. Some (record { parent = k; blocks = l })) (h.layouts r)

  entry_same : (r : ℕ) → entry_block u r ≡ entry_block t r
  entry_same r = ap (λ x. and_block u (entry_of x)) (region_same r) ∙ go (entry_of (region_at t r))
    where
      go : (x : Option ℕ) → and_block u x ≡ and_block t x
      go None = refl
      go (Some b) = block_same b

  pub shape_kept : (x : Operation) → shape_of m u x ≡ shape_of m t x
  shape_kept x = shape_same m u t x (λ r i. ap count_arguments (entry_same r)) (λ b i. ap count_arguments (block_same b))

  pub op_same : (k : ℕ) → k ≢ op → op_at u k ≡ op_at t k
  op_same k ne = go (head_of t k) refl
    where
      built : (x : Head) (a a' b b' c c' d d' : List ℕ) (p p' : Option ℕ) → a ≡ a' → b ≡ b' → c ≡ c' → d ≡ d' → p ≡ p' → ◌≡◌ {A = Operation} (record { head = x; operands = a; results = b; successors = c; regions = d; parent = p }) (record { head = x; operands = a'; results = b'; successors = c'; regions = d'; parent = p' })
      built x a a' b b' c c' d d' p p' e f g i j = cc

      go : (x : Option Head) → head_of t k ≡ x → op_at u k ≡ op_at t k
      go None q = no_op u k (ap (λ z. z.head) (h.rows k ne) ∙ q) ∙ sym (no_op t k q)
      go (Some x) q = make_op u k x (ap (λ z. z.head) (h.rows k ne) ∙ q) ∙ ap Some (built x _ _ _ _ _ _ _ _ _ _ (h.operands k ne) (ap (λ z. z.results) (h.rows k ne)) (h.successors k ne) (ap (λ z. z.regions) (h.rows k ne)) (h.parents k)) ∙ sym (make_op t k x q)

  -- steps that are the same

  targets_same : (s : State) (b : Option ℕ) (ds : List Datum) (ws : List Waiting) → go_to u s b ds ws ≡ go_to t s b ds ws
  targets_same s b ds [] = refl
  targets_same s b ds (x ∷ ws) = ap (λ z. enter s z ds (x ∷ ws)) (go b)
    where
      go : (b : Option ℕ) → block_in u b ≡ block_in t b
      go None = refl
      go (Some c) = block_same c

  entries_same : (z : Option ℕ) → entry_in u z ≡ entry_in t z
  entries_same None = refl
  entries_same (Some r) = entry_same r

  perform_same : (s : State) (x : Operation) (k : ℕ) (rest : List ℕ) (i : Move) → perform u s x k rest i ≡ perform t s x k rest i
  perform_same s x k rest (Give ds) = refl
  perform_same s x k rest (Visit i ds memo) = ap (λ z. enter s z ds (record { rest = k ∷ rest; memo = memo } ∷ s.waiting)) (entries_same (slice_get x.regions i))
  perform_same s x k rest (Goto i ds) = targets_same s (slice_get x.successors i) ds s.waiting
  perform_same s x k rest (Leave ds) = refl
  perform_same s x k rest (Emit e memo) = refl
  perform_same s x k rest Trap = refl

  turn_same : (s : State) (k : ℕ) (rest : List ℕ) (x : Option Operation) → turn m u s k rest x ≡ turn m t s k rest x
  turn_same s k rest None = refl
  turn_same s k rest (Some x) = go (input_of s.environment x.operands s.answer)
    where
      go : (i : Option (List Datum)) → move m u s x k rest i ≡ move m t s x k rest i
      go None = refl
      go (Some ds) = ap (λ z. perform u s x k rest (m.act z s.memo ds)) (shape_kept x) ∙ perform_same s x k rest (m.act (shape_of m t x) s.memo ds)

  step_same : (s : State) (k : ℕ) (rest : List ℕ) → s.rest ≡ k ∷ rest → k ≢ op → step m u s ≡ step m t s
  unfolding step
  step_same s k rest q ne = ap (step_at m u s) q ∙ ap (turn m u s k rest) (op_same k ne) ∙ turn_same s k rest (op_at t k) ∙ sym (ap (step_at m t s) q)

  step_ends : (s : State) → s.rest ≡ [] → step m u s ≡ step m t s
  unfolding step
  step_ends s q = ap (step_at m u s) q ∙ sym (ap (step_at m t s) q)

  -- an operation that goes to a block
  step_goes : (v : Tree) (s : State) (k : ℕ) (rest : List ℕ) (x : Operation) → s.rest ≡ k ∷ rest → s.answer ≡ None → s.memo ≡ Empty → op_at v k ≡ Some x → (g : Goes m v s.environment x) → step m v s ≡ go_to v s (slice_get x.successors g.index) g.values s.waiting
  unfolding step
  step_goes v s k rest x q none fresh xe g =
      ap (step_at m v s) q ∙ ap (turn m v s k rest) xe ∙ ap (λ z. move m v s x k rest (input_of s.environment x.operands z)) none ∙ ap (move m v s x k rest) g.reads ∙ ap (λ z. perform v s x k rest (m.act (shape_of m v x) z g.input)) fresh ∙ ap (perform v s x k rest) g.goes

  -- where the run after waits at op, the run before went on to e
  abbrev on_way : State → State
  on_way s = at_rest s s.environment (jump ∷ []) s.waiting

  record IsOnWay (s : State) : Type 0 where
    pub rest : List ℕ
    pub at : s.rest ≡ op ∷ rest
    pub no_answer : s.answer ≡ None
    pub fresh : s.memo ≡ Empty
    pub leaves : Operation
    pub leaves_op : op_at u op ≡ Some leaves
    pub passes : Operation
    pub passes_jump : op_at t jump ≡ Some passes
    pub here : Goes m u s.environment leaves
    pub there : Goes m t s.environment passes
    pub meet : Meet there here

  abbrev AreNear : State → State → Type 0
  AreNear s s' = (s ≡ s') ⊎ ((s ≡ on_way s') × IsOnWay s')

  abbrev count : Bool → ℕ
  count true = 1
  count false = 0

  abbrev stands : List ℕ → ℕ
  stands [] = 0
  stands (k ∷ ks) = count (nat_eq op k)

  abbrev left : State → State → ℕ
  left s s' = stands s.rest

  -- the same step leads to the same
  by_same : (s s' : State) → step m t s ≡ step m u s' → Pace (step m t) (step m u) AreNear left s s'
  by_same s s' q = go (step m t s) refl
    where
      go : (n : Next) → step m t s ≡ n → Pace (step m t) (step m u) AreNear left s s'
      go (Continues b) f = Both b b f (sym q ∙ f) (inl refl)
      go (Over x) f = Finish x f (sym q ∙ f)

  -- where a block is entered depends on the environment alone
  enter_same : (s : State) (b : Option Block) (ds : List Datum) (ws : List Waiting) → enter (on_way s) b ds ws ≡ enter s b ds ws
  enter_same s None ds ws = refl
  enter_same s (Some b) ds ws = go (bind s.environment b.arguments ds)
    where
      go : (z : Option Environment) → begin (on_way s) b.operations ws z ≡ begin s b.operations ws z
      go None = refl
      go (Some env) = refl

  go_same : (s : State) (b : Option ℕ) (ds : List Datum) (ws : List Waiting) → go_to t (on_way s) b ds ws ≡ go_to t s b ds ws
  go_same s b ds [] = refl
  go_same s b ds (x ∷ ws) = enter_same s (block_in t b) ds (x ∷ ws)

  pace_on_way : (s : State) → IsOnWay s → Pace (step m t) (step m u) AreNear left (on_way s) s
  pace_on_way s x = by_same (on_way s) s (
      step_goes t (on_way s) jump [] x.passes refl refl refl x.passes_jump x.there
      ∙ go_same s (slice_get x.passes.successors x.there.index) x.there.values s.waiting
      ∙ sym (targets_same s (slice_get x.passes.successors x.there.index) x.there.values s.waiting)
      ∙ ap₂ (λ b ds. go_to u s b ds s.waiting) (sym x.meet.0) (sym x.meet.1)
      ∙ sym (step_goes u s op x.rest x.leaves x.at x.no_answer x.fresh x.leaves_op x.here))

  -- an operation that traps
  step_traps : (v : Tree) (s : State) (k : ℕ) (rest : List ℕ) (x : Operation) (input : List Datum) → s.rest ≡ k ∷ rest → s.answer ≡ None → s.memo ≡ Empty → op_at v k ≡ Some x → data_of s.environment x.operands ≡ Some input → m.act (shape_of m v x) Empty input ≡ Trap → step m v s ≡ trap s
  unfolding step
  step_traps v s k rest x input q none fresh xe reads traps =
      ap (step_at m v s) q ∙ ap (turn m v s k rest) xe ∙ ap (λ z. move m v s x k rest (input_of s.environment x.operands z)) none ∙ ap (move m v s x k rest) reads ∙ ap (λ z. perform v s x k rest (m.act (shape_of m v x) z input)) fresh ∙ ap (perform v s x k rest) traps

  -- where op stands in a run: it moves but once, without a memo, and never waits
  abbrev Heads : List ℕ → Type 0
  Heads [] = ⊥
  Heads (k ∷ ks) = k ≡ op

  abbrev NoneWaits : List Waiting → Type 0
  NoneWaits [] = Unit {0}
  NoneWaits (x ∷ xs) = (Heads x.rest → ⊥) × NoneWaits xs

  record IsInTime (s : State) : Type 0 where
    pub once : Heads s.rest → s.answer ≡ None
    pub fresh : s.answer ≡ None → s.memo ≡ Empty
    pub none_waits : NoneWaits s.waiting

  module _ (root : ℕ) (f : IsFit m t root) (other : root ≢ op) (along : LeadsAlong m t u root op e jump) where
    abbrev IsSound : State → Type 0
    IsSound s = RunReaches m t root s × IsInTime s

    x0 : (x : Head) × (head_of t op ≡ Some x)
    x0 = some_of (head_of t op) (w.joined.all_in_place op a op_in).0

    y0 : (x : Head) × (head_of u op ≡ Some x)
    y0 = some_of (head_of u op) h.live

    z0 : (x : Head) × (head_of t jump ≡ Some x)
    z0 = some_of (head_of t jump) (w.joined.all_in_place jump e jump_in).0

    abbrev Leaves : State → Type 0
    Leaves s = GoesAlong m t u e s.environment (operation_of t op x0.0) (operation_of u op y0.0) (operation_of t jump z0.0)

    leaves : (s : State) → IsSound s → (rest : List ℕ) → s.rest ≡ op ∷ rest → Leaves s
    leaves s i rest q = along s rest (operation_of t op x0.0) (operation_of u op y0.0) (operation_of t jump z0.0) i.0 q (i.1.once (subst Heads (sym q) refl)) (make_op t op x0.0 x0.1) (make_op u op y0.0 y0.1) (make_op t jump z0.0 z0.1)

    -- it stays so

    left_in_time : (s : State) (ws : List Waiting) → NoneWaits ws → (ds : List Datum) → IfGoes (leave s ws ds) IsInTime
    left_in_time s [] n ds = tt
    left_in_time s (x ∷ ws) n ds = record { once = λ i. absurd (n.0 i); fresh = λ q. absurd (some_not ds q); none_waits = n.1 }
      where
        some_not : (ds : List Datum) → Some ds ≡ None → ⊥
        some_not ds q = cc

    rest_in_time : (s : State) (env : Environment) (rest : List ℕ) (ws : List Waiting) → NoneWaits ws → IsInTime (at_rest s env rest ws)
    rest_in_time s env rest ws n = record { once = λ i. refl; fresh = λ q. refl; none_waits = n }

    begun_in_time : (s : State) (rest : List ℕ) (ws : List Waiting) → NoneWaits ws → (z : Option Environment) → IfGoes (begin s rest ws z) IsInTime
    begun_in_time s rest ws n None = tt
    begun_in_time s rest ws n (Some env) = rest_in_time s env rest ws n

    entered_in_time : (s : State) (b : Option Block) (ds : List Datum) (ws : List Waiting) → NoneWaits ws → IfGoes (enter s b ds ws) IsInTime
    entered_in_time s None ds ws n = tt
    entered_in_time s (Some b) ds ws n = begun_in_time s b.operations ws n (bind s.environment b.arguments ds)

    given_in_time : (s : State) (rest : List ℕ) (ws : List Waiting) → NoneWaits ws → (ds : List Datum) (z : Option Environment) → IfGoes (after_giving s rest ws ds z) IsInTime
    given_in_time s rest ws n ds None = tt
    given_in_time s rest [] n ds (Some env) = tt
    given_in_time s rest (x ∷ ws) n ds (Some env) = rest_in_time s env rest (x ∷ ws) n

    gone_in_time : (s : State) (b : Option ℕ) (ds : List Datum) (ws : List Waiting) → NoneWaits ws → IfGoes (go_to t s b ds ws) IsInTime
    gone_in_time s b ds [] n = tt
    gone_in_time s b ds (x ∷ ws) n = entered_in_time s (block_in t b) ds (x ∷ ws) n

    emitted_in_time : (s : State) → IsInTime s → (Heads s.rest → ⊥) → (d next : Datum) (world : List Datum) → IfGoes (emit s d next world) IsInTime
    emitted_in_time s i out d next [] = tt
    emitted_in_time s i out d next (x ∷ world) = record { once = λ j. absurd (out j); fresh = λ q. absurd (some_not (x ∷ []) q); none_waits = i.none_waits }
      where
        some_not : (ds : List Datum) → Some ds ≡ None → ⊥
        some_not ds q = cc

    performed_in_time : (s : State) → IsInTime s → (k : ℕ) (rest : List ℕ) → s.rest ≡ k ∷ rest → (x : Operation) → k ≢ op → (i : Move) → IfGoes (perform t s x k rest i) IsInTime
    performed_in_time s i k rest q x ne (Give ds) = given_in_time s rest s.waiting i.none_waits ds (bind s.environment x.results ds)
    performed_in_time s i k rest q x ne (Visit n ds memo) = entered_in_time s (entry_in t (slice_get x.regions n)) ds (record { rest = k ∷ rest; memo = memo } ∷ s.waiting) (ne, i.none_waits)
    performed_in_time s i k rest q x ne (Goto n ds) = gone_in_time s (slice_get x.successors n) ds s.waiting i.none_waits
    performed_in_time s i k rest q x ne (Leave ds) = left_in_time s s.waiting i.none_waits ds
    performed_in_time s i k rest q x ne (Emit d memo) = emitted_in_time s i (λ j. ne (subst Heads q j)) d memo s.world
    performed_in_time s i k rest q x ne Trap = tt

    turned_in_time : (s : State) → IsInTime s → (k : ℕ) (rest : List ℕ) → s.rest ≡ k ∷ rest → k ≢ op → (x : Option Operation) → IfGoes (turn m t s k rest x) IsInTime
    turned_in_time s i k rest q ne None = tt
    turned_in_time s i k rest q ne (Some x) = go (input_of s.environment x.operands s.answer)
      where
        go : (n : Option (List Datum)) → IfGoes (move m t s x k rest n) IsInTime
        go None = tt
        go (Some ds) = performed_in_time s i k rest q x ne (m.act (shape_of m t x) s.memo ds)

    gone : (s : State) → IsInTime s → (rest : List ℕ) → s.rest ≡ op ∷ rest → (g : Goes m t s.environment (operation_of t op x0.0)) → IfGoes (step m t s) IsInTime
    gone s i rest q g =
        let none = i.once (subst Heads (sym q) refl) in
        subst (λ n. IfGoes n IsInTime) (sym (step_goes t s op rest (operation_of t op x0.0) q none (i.fresh none) (make_op t op x0.0 x0.1) g)) (gone_in_time s (slice_get (successors_of t op) g.index) g.values s.waiting i.none_waits)

    -- what op does before
    op_in_time : (s : State) → IsInTime s → (rest : List ℕ) → s.rest ≡ op ∷ rest → Leaves s → IfGoes (step m t s) IsInTime
    op_in_time s i rest q (BothTrap first first' reads reads' traps traps') = subst (λ n. IfGoes n IsInTime) (sym (step_traps t s op rest (operation_of t op x0.0) first q (i.once (subst Heads (sym q) refl)) (i.fresh (i.once (subst Heads (sym q) refl))) (make_op t op x0.0 x0.1) reads traps)) tt
    op_in_time s i rest q (SameBlock before after meet) = gone s i rest q before
    op_in_time s i rest q (PastBlock before on after to none meet) = gone s i rest q before

    step_in_time : (s : State) → IsSound s → (rest : List ℕ) → s.rest ≡ rest → IfGoes (step m t s) IsInTime
    unfolding step
    step_in_time s i [] q = subst (λ n. IfGoes n IsInTime) (sym (ap (step_at m t s) q)) (left_in_time s s.waiting i.1.none_waits [])
    step_in_time s i (k ∷ rest) q = ⊎_elim
        (λ same.
        let here : s.rest ≡ op ∷ rest = q ∙ ap (λ z. z ∷ rest) same in
        op_in_time s i.1 rest here (leaves s i rest here))
        (λ ne. subst (λ n. IfGoes n IsInTime) (sym (ap (step_at m t s) q)) (turned_in_time s i.1 k rest q ne (op_at t k)))
        (cases_eq k op)

    sound_kept : Kept (step m t) IsSound
    sound_kept = record { keeps = λ s i. both (step m t s) ((reached_kept m t root).keeps s i.0) (step_in_time s i s.rest refl) }
      where
        both : (n : Next) → IfGoes n (RunReaches m t root) → IfGoes n IsInTime → IfGoes n IsSound
        both (Continues b) p q = (p, q)
        both (Over x) p q = tt

    -- both machines

    pace_at_op : (s : State) → IsSound s → (rest : List ℕ) → s.rest ≡ op ∷ rest → Leaves s → Pace (step m t) (step m u) AreNear left s s
    pace_at_op s i rest q (BothTrap first first' reads reads' traps traps') =
        let none = i.1.once (subst Heads (sym q) refl) in
        by_same s s (step_traps t s op rest (operation_of t op x0.0) first q none (i.1.fresh none) (make_op t op x0.0 x0.1) reads traps ∙ sym (step_traps u s op rest (operation_of u op y0.0) first' q none (i.1.fresh none) (make_op u op y0.0 y0.1) reads' traps'))
    pace_at_op s i rest q (SameBlock before after meet) =
        let none = i.1.once (subst Heads (sym q) refl) in
        by_same s s (
        step_goes t s op rest (operation_of t op x0.0) q none (i.1.fresh none) (make_op t op x0.0 x0.1) before
        ∙ sym (targets_same s (slice_get (successors_of t op) before.index) before.values s.waiting)
        ∙ ap₂ (λ b ds. go_to u s b ds s.waiting) (sym meet.0) (sym meet.1)
        ∙ sym (step_goes u s op rest (operation_of u op y0.0) q none (i.1.fresh none) (make_op u op y0.0 y0.1) after))
    pace_at_op s i rest q (PastBlock before on after to none meet) = Left (on_way s) comes (inr (refl, near)) less
      where
        no_answer : s.answer ≡ None
        no_answer = i.1.once (subst Heads (sym q) refl)

        near : IsOnWay s
        near = record {
          rest = rest;
          at = q;
          no_answer = no_answer;
          fresh = i.1.fresh no_answer;
          leaves = operation_of u op y0.0;
          leaves_op = make_op u op y0.0 y0.1;
          passes = operation_of t jump z0.0;
          passes_jump = make_op t jump z0.0 z0.1;
          here = after;
          there = on;
          meet = meet;
        }

        ready : IsReady t w root m f.linked.edges f.defined s op rest
        ready = ready_when_reached m t root w f s i.0 op rest q no_answer

        r : (r : ℕ) × (block_parent_of t e ≡ Some r)
        r = some_of (block_parent_of t e) (w.joined.successors op e h.leads)

        entered : go_to t s (Some e) [] s.waiting ≡ Continues (on_way s)
        entered = by_stack s.waiting ready.waits
          where
            by_stack : (ws : List Waiting) → ws ≡ ready.inner ∷ ready.others → go_to t s (Some e) [] ws ≡ Continues (at_rest s s.environment (jump ∷ []) ws)
            by_stack ws z = subst (λ l. go_to t s (Some e) [] l ≡ Continues (at_rest s s.environment (jump ∷ []) l)) (sym z)
                (ap (λ b. enter s b [] (ready.inner ∷ ready.others)) (make_block t e r.0 r.1)
                ∙ ap₂ (λ vs ks. begin s ks (ready.inner ∷ ready.others) (bind s.environment vs [])) h.no_arguments h.only_jumps)

        comes : step m t s ≡ Continues (on_way s)
        comes =
            step_goes t s op rest (operation_of t op x0.0) q no_answer (i.1.fresh no_answer) (make_op t op x0.0 x0.1) before
            ∙ ap₂ (λ b ds. go_to t s b ds s.waiting) to none
            ∙ entered

        less : left (on_way s) s < left s s
        less = subst (λ n. n < left s s) (sym (ap count (not_is op jump jump_other))) (subst (λ n. 0 < n) (sym (ap stands q ∙ ap count (eq-eqb op op refl))) (omega arith))

    pace_alone : (s : State) → IsSound s → (rest : List ℕ) → s.rest ≡ rest → Pace (step m t) (step m u) AreNear left s s
    pace_alone s i [] q = by_same s s (sym (step_ends s q))
    pace_alone s i (k ∷ rest) q = ⊎_elim
        (λ same.
        let here : s.rest ≡ op ∷ rest = q ∙ ap (λ z. z ∷ rest) same in
        pace_at_op s i rest here (leaves s i rest here))
        (λ ne. by_same s s (sym (step_same s k rest q ne)))
        (cases_eq k op)

    pace : (s s' : State) → IsSound s → Unit {0} → AreNear s s' → Pace (step m t) (step m u) AreNear left s s'
    pace s s' i j (inl q) = subst (λ z. Pace (step m t) (step m u) AreNear left s z) q (pace_alone s i s.rest refl)
    pace s s' i j (inr z) = subst (λ v. Pace (step m t) (step m u) AreNear left v s') (sym z.0) (pace_on_way s' z.1)

    effects : (s s' : State) → AreNear s s' → s.effects ≡ s'.effects
    effects s s' (inl q) = ap (λ z. z.effects) q
    effects s s' (inr z) = ap (λ v. v.effects) z.0

    pub moved_agree : Agree m t u root
    moved_agree = agree_by m t u root (λ s s'. IsSound s × Unit {0} × AreNear s s') left (pace_under_both (step m t) (step m u) IsSound (λ s. Unit {0}) AreNear left sound_kept (anything_kept (step m u)) effects pace) (λ inputs world. ((reached_start m t root inputs world, starts inputs world), tt, inl refl))
      where
        some_not : (ds : List Datum) → Some ds ≡ None → ⊥
        some_not ds q = cc

        starts : (inputs world : List Datum) → IsInTime (start root inputs world)
        starts inputs world = record { once = λ q. absurd (other q); fresh = λ q. absurd (some_not inputs q); none_waits = tt }
