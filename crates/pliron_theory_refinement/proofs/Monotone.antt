-- Runs of a tree whose operands are renamed to values with less poison.
use Rattle.std.proofs.Common.{◌≡◌, inl, inr, ℕ, Bool, true, false, List, [], ◌∷◌, map, Option, Some, None, IsTrue, slice_get, refl, sym, ap, ap₂, ◌∙◌, subst, arith, nat_eq, if◌then◌else◌}
use Rattle.pliron_core.specs.Tree.{Tree, In, operands_of, block_parent_of, region_parent_of, op_of_slot}
use Rattle.pliron_core.proofs.HoldingLemmas.{some_is}
use Rattle.pliron_laws.specs.Datum.{Datum, Empty, Move, Give, Visit, Goto, Leave, Emit, Trap, Meaning}
use Rattle.pliron_laws.specs.Tree.{Operation, Block, op_at, block_with, block_at, region_with, region_at, entry_of, and_block, entry_block, shape_of}
use Rattle.pliron_laws.specs.States.{environment_with}
use Rattle.pliron_laws.specs.Machine.{Environment, Waiting, State, Next, Continues, Over, Sight, Ended, Trapped, Reached, bind, prepend_optional, data_of, input_of, at_rest, leave, after_giving, begin, enter, entry_in, block_in, go_to, emit, perform, move, turn, step_at, step, start}
use Rattle.pliron_laws.proofs.Records.{op_shows}
use Rattle.pliron_theory.specs.Renaming.{IsRenamed, RunReaches}
use Rattle.pliron_theory.proofs.Simulation.{IfGoes}
use Rattle.pliron_theory.proofs.Renamed.{op_renamed, shape_renamed}
use Rattle.pliron_theory.proofs.Reached.{reached_kept, reached_start}
use Rattle.pliron_theory_refinement.specs.Refinement.{Relation, IsPreorder, AllMayBecome, MayShow, IsUndefined, RefinesFrom, Refines, MoveMayBecome, ActsMonotonely, HaveLessData}
use Rattle.pliron_theory_refinement.proofs.Paces.{Pace, Both, Finish, Stops, KeepPace, refined_by, all_refl}

none_is : {A : Type 0} (x : A) → None ≡ Some x → ⊥
none_is x e = cc

module _ (R E : Relation) where
  abbrev pub EnvMay : Environment → Environment → Type 0
  EnvMay env env' = (v : ℕ) (d : Datum) → env v ≡ Some d → (e : Datum) × (env' v ≡ Some e) × IsTrue (R d e)

  abbrev pub OptMay : Option (List Datum) → Option (List Datum) → Type 0
  OptMay None None = Unit {0}
  OptMay None (Some es) = ⊥
  OptMay (Some ds) None = ⊥
  OptMay (Some ds) (Some es) = AllMayBecome R ds es

  -- two states of runs of one tree, of which the second has less poison
  pub record Refined (s s' : State) : Type 0 where
    pub environment : EnvMay s.environment s'.environment
    pub rest : s'.rest ≡ s.rest
    pub memo : s'.memo ≡ s.memo
    pub answer : OptMay s.answer s'.answer
    pub waiting : s'.waiting ≡ s.waiting
    pub world : AllMayBecome R s.world s'.world
    pub effects : AllMayBecome E s.effects s'.effects

  abbrev pub NextMay : Next → Next → Type 0
  NextMay (Continues a) (Continues b) = Refined a b
  NextMay (Continues a) (Over y) = ⊥
  NextMay (Over (Trapped es)) o = Unit {0}
  NextMay (Over (Ended ds es)) (Over y) = MayShow R E (Ended ds es) y
  NextMay (Over (Ended ds es)) (Continues b) = ⊥
  NextMay (Over (Reached es)) (Over y) = MayShow R E (Reached es) y
  NextMay (Over (Reached es)) (Continues b) = ⊥

  leave_may : (s s' : State) → Refined s s' → (ws : List Waiting) (ds es : List Datum) → AllMayBecome R ds es → NextMay (leave s ws ds) (leave s' ws es)
  leave_may s s' r [] ds es a = (a, r.effects)
  leave_may s s' r (w ∷ ws) ds es a = record { environment = r.environment; rest = refl; memo = refl; answer = a; waiting = refl; world = r.world; effects = r.effects }

  rest_may : (s s' : State) → Refined s s' → (env env' : Environment) → EnvMay env env' → (rest : List ℕ) (ws : List Waiting) → Refined (at_rest s env rest ws) (at_rest s' env' rest ws)
  rest_may s s' r env env' e rest ws = record { environment = e; rest = refl; memo = refl; answer = tt; waiting = refl; world = r.world; effects = r.effects }

  abbrev BoundMay : Option Environment → Option Environment → Type 0
  BoundMay None o = Unit {0}
  BoundMay (Some env) None = ⊥
  BoundMay (Some env) (Some env') = EnvMay env env'

  with_may : (env env' : Environment) → EnvMay env env' → (v : ℕ) (d e : Datum) → IsTrue (R d e) → EnvMay (environment_with env v d) (environment_with env' v e)
  unfolding environment_with
  with_may env env' h v d e r = λ w x k. by_key w x (nat_eq w v) k
    where
      by_key : (w : ℕ) (x : Datum) (b : Bool) → (if b then Some d else env w) ≡ Some x → (y : Datum) × ((if b then Some e else env' w) ≡ Some y) × IsTrue (R x y)
      by_key w x true k = (e, refl, subst (λ z. IsTrue (R z e)) (some_is k) r)
      by_key w x false k = h w x k

  bind_may : (vs : List ℕ) (env env' : Environment) (ds es : List Datum) → EnvMay env env' → AllMayBecome R ds es → BoundMay (bind env vs ds) (bind env' vs es)
  bind_may [] env env' [] [] h a = h
  bind_may [] env env' [] (e ∷ es) h a = absurd a
  bind_may [] env env' (d ∷ ds) es h a = tt
  bind_may (v ∷ vs) env env' [] es h a = tt
  bind_may (v ∷ vs) env env' (d ∷ ds) [] h a = absurd a
  bind_may (v ∷ vs) env env' (d ∷ ds) (e ∷ es) h a = bind_may vs (environment_with env v d) (environment_with env' v e) ds es (with_may env env' h v d e a.0) a.1

  give_may : (s s' : State) → Refined s s' → (rest : List ℕ) (ws : List Waiting) (ds es : List Datum) → AllMayBecome R ds es → (o o' : Option Environment) → BoundMay o o' → NextMay (after_giving s rest ws ds o) (after_giving s' rest ws es o')
  give_may s s' r rest ws ds es a None o' h = tt
  give_may s s' r rest ws ds es a (Some env) None h = absurd h
  give_may s s' r rest [] ds es a (Some env) (Some env') h = (a, r.effects)
  give_may s s' r rest (w ∷ ws) ds es a (Some env) (Some env') h = rest_may s s' r env env' h rest (w ∷ ws)

  begin_may : (s s' : State) → Refined s s' → (rest : List ℕ) (ws : List Waiting) (o o' : Option Environment) → BoundMay o o' → NextMay (begin s rest ws o) (begin s' rest ws o')
  begin_may s s' r rest ws None o' h = tt
  begin_may s s' r rest ws (Some env) None h = absurd h
  begin_may s s' r rest ws (Some env) (Some env') h = rest_may s s' r env env' h rest ws

  enter_may : (s s' : State) → Refined s s' → (b : Option Block) (ds es : List Datum) → AllMayBecome R ds es → (ws : List Waiting) → NextMay (enter s b ds ws) (enter s' b es ws)
  enter_may s s' r None ds es a ws = tt
  enter_may s s' r (Some b) ds es a ws = begin_may s s' r b.operations ws (bind s.environment b.arguments ds) (bind s'.environment b.arguments es) (bind_may b.arguments s.environment s'.environment ds es r.environment a)

  emit_may : (s s' : State) → Refined s s' → (d e memo : Datum) → IsTrue (E d e) → (w w' : List Datum) → AllMayBecome R w w' → NextMay (emit s d memo w) (emit s' e memo w')
  emit_may s s' r d e memo k [] [] a = (k, r.effects)
  emit_may s s' r d e memo k [] (x ∷ w') a = absurd a
  emit_may s s' r d e memo k (x ∷ w) [] a = absurd a
  emit_may s s' r d e memo k (x ∷ w) (y ∷ w') a = record { environment = r.environment; rest = r.rest; memo = refl; answer = (a.0, tt); waiting = r.waiting; world = a.1; effects = (k, r.effects) }

  data_may : (rename : ℕ → ℕ) (env env' : Environment) (vs : List ℕ) → ((v : ℕ) (d : Datum) → In v vs → env v ≡ Some d → (e : Datum) × (env' (rename v) ≡ Some e) × IsTrue (R d e)) → (ds : List Datum) → data_of env vs ≡ Some ds → (es : List Datum) × (data_of env' (map rename vs) ≡ Some es) × AllMayBecome R ds es
  data_may rename env env' [] h ds e = ([], refl, subst (λ z. AllMayBecome R z []) (some_is e) tt)
  data_may rename env env' (v ∷ vs) h ds e = first (λ others ey. data_may rename env env' vs (λ w x i. h w x (inr i)) others ey) (env v) refl (data_of env vs) refl e
    where
      first : ((others : List Datum) → data_of env vs ≡ Some others → (es : List Datum) × (data_of env' (map rename vs) ≡ Some es) × AllMayBecome R others es) → (x : Option Datum) → env v ≡ x → (y : Option (List Datum)) → data_of env vs ≡ y → prepend_optional x y ≡ Some ds → (es : List Datum) × (data_of env' (map rename (v ∷ vs)) ≡ Some es) × AllMayBecome R ds es
      first again None ex y ey k = absurd (none_is ds k)
      first again (Some d) ex None ey k = absurd (none_is ds k)
      first again (Some d) ex (Some others) ey k =
          let a = h v d (inl refl) ex in
          let b = again others ey in
          (a.0 ∷ b.0, ap₂ prepend_optional a.1 b.1, subst (λ z. AllMayBecome R z (a.0 ∷ b.0)) (some_is k) (a.2, b.2))

  module _ (p : IsPreorder R) (t t' : Tree) (rename : ℕ → ℕ) (h : IsRenamed t t' rename) where
    block_same : (b : ℕ) → block_at t' b ≡ block_at t b
    unfolding block_at
    block_same b = ap (block_with t' b) (h.block_parents b) ∙ go (block_parent_of t b)
      where
        go : (x : Option ℕ) → block_with t' b x ≡ block_with t b x
        go None = refl
        go (Some r) = ap₂ (λ a k. Some (record { arguments = a; operations = k; parent = r })) (h.arguments b) (h.bodies b)

    region_same : (r : ℕ) → region_at t' r ≡ region_at t r
    unfolding region_at
    region_same r = ap (region_with t' r) (ap op_of_slot (h.slots r)) ∙ go (region_parent_of t r)
      where
        go : (x : Option ℕ) → region_with t' r x ≡ region_with t r x
        go None = refl
        go (Some k) = ap (λ l. Some (record { parent = k; blocks = l })) (h.layouts r)

    entry_same : (r : ℕ) → entry_block t' r ≡ entry_block t r
    entry_same r = ap (λ x. and_block t' (entry_of x)) (region_same r) ∙ go (entry_of (region_at t r))
      where
        go : (x : Option ℕ) → and_block t' x ≡ and_block t x
        go None = refl
        go (Some b) = block_same b

    entries : (o : Option ℕ) → entry_in t' o ≡ entry_in t o
    entries None = refl
    entries (Some r) = entry_same r

    blocks : (o : Option ℕ) → block_in t' o ≡ block_in t o
    blocks None = refl
    blocks (Some b) = block_same b

    goes_may : (s s' : State) → Refined s s' → (b : Option ℕ) (ds es : List Datum) → AllMayBecome R ds es → (ws : List Waiting) → NextMay (go_to t s b ds ws) (go_to t' s' b es ws)
    goes_may s s' r b ds es a [] = tt
    goes_may s s' r b ds es a (w ∷ ws) = subst (λ z. NextMay (enter s (block_in t b) ds (w ∷ ws)) (enter s' z es (w ∷ ws))) (sym (blocks b)) (enter_may s s' r (block_in t b) ds es a (w ∷ ws))

    visits_may : (s s' : State) → Refined s s' → (b : Option ℕ) (ds es : List Datum) → AllMayBecome R ds es → (ws : List Waiting) → NextMay (enter s (entry_in t b) ds ws) (enter s' (entry_in t' b) es ws)
    visits_may s s' r b ds es a ws = subst (λ z. NextMay (enter s (entry_in t b) ds ws) (enter s' z es ws)) (sym (entries b)) (enter_may s s' r (entry_in t b) ds es a ws)

    abbrev Performs : State → State → Operation → List ℕ → ℕ → List ℕ → Move → Move → Type 0
    Performs s s' o vs self rest a b = NextMay (perform t s o self rest a) (perform t' s' (record o { operands = vs }) self rest b)

    performs : (s s' : State) → Refined s s' → (o : Operation) (vs : List ℕ) (self : ℕ) (rest : List ℕ) (a b : Move) → MoveMayBecome R E a b → Performs s s' o vs self rest a b
    performs s s' r o vs self rest Trap b k = tt
    performs s s' r o vs self rest (Give ds) (Give es) k = subst (λ z. NextMay (after_giving s rest s.waiting ds (bind s.environment o.results ds)) (after_giving s' rest z es (bind s'.environment o.results es))) (sym r.waiting) (give_may s s' r rest s.waiting ds es k _ _ (bind_may o.results s.environment s'.environment ds es r.environment k))
    performs s s' r o vs self rest (Visit i ds memo) (Visit j es memo') k = subst (λ z. Performs s s' o vs self rest (Visit i ds memo) (Visit z es memo')) k.0 (subst (λ z. Performs s s' o vs self rest (Visit i ds memo) (Visit i es z)) k.2 (subst (λ z. NextMay (enter s (entry_in t (slice_get o.regions i)) ds (record { rest = self ∷ rest; memo = memo } ∷ s.waiting)) (enter s' (entry_in t' (slice_get o.regions i)) es (record { rest = self ∷ rest; memo = memo } ∷ z))) (sym r.waiting) (visits_may s s' r (slice_get o.regions i) ds es k.1 (record { rest = self ∷ rest; memo = memo } ∷ s.waiting))))
    performs s s' r o vs self rest (Goto i ds) (Goto j es) k = subst (λ z. Performs s s' o vs self rest (Goto i ds) (Goto z es)) k.0 (subst (λ z. NextMay (go_to t s (slice_get o.successors i) ds s.waiting) (go_to t' s' (slice_get o.successors i) es z)) (sym r.waiting) (goes_may s s' r (slice_get o.successors i) ds es k.1 s.waiting))
    performs s s' r o vs self rest (Leave ds) (Leave es) k = subst (λ z. NextMay (leave s s.waiting ds) (leave s' z es)) (sym r.waiting) (leave_may s s' r s.waiting ds es k)
    performs s s' r o vs self rest (Emit d memo) (Emit e memo') k = subst (λ z. Performs s s' o vs self rest (Emit d memo) (Emit e z)) k.1 (emit_may s s' r d e memo k.0 s.world s'.world r.world)
    performs s s' r o vs self rest (Give ds) (Visit j es memo') k = absurd k
    performs s s' r o vs self rest (Give ds) (Goto j es) k = absurd k
    performs s s' r o vs self rest (Give ds) (Leave es) k = absurd k
    performs s s' r o vs self rest (Give ds) (Emit e memo') k = absurd k
    performs s s' r o vs self rest (Give ds) Trap k = absurd k
    performs s s' r o vs self rest (Visit i ds memo) (Give es) k = absurd k
    performs s s' r o vs self rest (Visit i ds memo) (Goto j es) k = absurd k
    performs s s' r o vs self rest (Visit i ds memo) (Leave es) k = absurd k
    performs s s' r o vs self rest (Visit i ds memo) (Emit e memo') k = absurd k
    performs s s' r o vs self rest (Visit i ds memo) Trap k = absurd k
    performs s s' r o vs self rest (Goto i ds) (Give es) k = absurd k
    performs s s' r o vs self rest (Goto i ds) (Visit j es memo') k = absurd k
    performs s s' r o vs self rest (Goto i ds) (Leave es) k = absurd k
    performs s s' r o vs self rest (Goto i ds) (Emit e memo') k = absurd k
    performs s s' r o vs self rest (Goto i ds) Trap k = absurd k
    performs s s' r o vs self rest (Leave ds) (Give es) k = absurd k
    performs s s' r o vs self rest (Leave ds) (Visit j es memo') k = absurd k
    performs s s' r o vs self rest (Leave ds) (Goto j es) k = absurd k
    performs s s' r o vs self rest (Leave ds) (Emit e memo') k = absurd k
    performs s s' r o vs self rest (Leave ds) Trap k = absurd k
    performs s s' r o vs self rest (Emit d memo) (Give es) k = absurd k
    performs s s' r o vs self rest (Emit d memo) (Visit j es memo') k = absurd k
    performs s s' r o vs self rest (Emit d memo) (Goto j es) k = absurd k
    performs s s' r o vs self rest (Emit d memo) (Leave es) k = absurd k
    performs s s' r o vs self rest (Emit d memo) Trap k = absurd k

    module _ (m : Meaning) (mono : ActsMonotonely R E m) (root : ℕ) (less : HaveLessData R m t rename root) where
      read_may : (s s' : State) → RunReaches m t root s → Refined s s' → (k : ℕ) (rest : List ℕ) (o : Operation) → s.rest ≡ k ∷ rest → op_at t k ≡ Some o → (ds : List Datum) → input_of s.environment o.operands s.answer ≡ Some ds → (es : List Datum) × (input_of s'.environment (map rename o.operands) s'.answer ≡ Some es) × AllMayBecome R ds es
      read_may s s' i r k rest o e oe ds f = by_answer s.answer refl s'.answer refl r.answer f
        where
          operand : s.answer ≡ None → (v : ℕ) (d : Datum) → In v o.operands → s.environment v ≡ Some d → (x : Datum) × (s'.environment (rename v) ≡ Some x) × IsTrue (R d x)
          operand none v d j q =
              let a = less s k v rest d i e none (subst (In v) (sym (op_shows t k o oe).operands) j) q in
              let b = r.environment (rename v) a.0 a.1 in
              (b.0, b.1, p.transitive d a.0 b.0 a.2 b.2)

          by_answer : (x : Option (List Datum)) → s.answer ≡ x → (y : Option (List Datum)) → s'.answer ≡ y → OptMay x y → input_of s.environment o.operands x ≡ Some ds → (es : List Datum) × (input_of s'.environment (map rename o.operands) s'.answer ≡ Some es) × AllMayBecome R ds es
          by_answer None ex None ey a g =
              let b = data_may rename s.environment s'.environment o.operands (operand ex) ds g in
              (b.0, ap (input_of s'.environment (map rename o.operands)) ey ∙ b.1, b.2)
          by_answer None ex (Some y) ey a g = absurd a
          by_answer (Some x) ex None ey a g = absurd a
          by_answer (Some x) ex (Some y) ey a g = (y, ap (input_of s'.environment (map rename o.operands)) ey, subst (λ z. AllMayBecome R z y) (some_is g) a)

      moves_may : (s s' : State) → RunReaches m t root s → Refined s s' → (k : ℕ) (rest : List ℕ) (o : Operation) → s.rest ≡ k ∷ rest → op_at t k ≡ Some o → (x : Option (List Datum)) → input_of s.environment o.operands s.answer ≡ x → NextMay (move m t s o k rest x) (move m t' s' (record o { operands = map rename o.operands }) k rest (input_of s'.environment (map rename o.operands) s'.answer))
      moves_may s s' i r k rest o e oe None f = tt
      moves_may s s' i r k rest o e oe (Some ds) f =
          let a = read_may s s' i r k rest o e oe ds f in
          let o' = record o { operands = map rename o.operands } in
          let b : MoveMayBecome R E (m.act (shape_of m t o) s.memo ds) (m.act (shape_of m t' o') s'.memo a.0) = subst (λ z. MoveMayBecome R E (m.act (shape_of m t o) s.memo ds) (m.act (shape_of m t' o') z a.0)) (sym r.memo) (subst (λ z. MoveMayBecome R E (m.act (shape_of m t o) s.memo ds) (m.act z s.memo a.0)) (shape_renamed t t' rename h m o) (mono (shape_of m t o) s.memo ds a.0 a.2)) in
          subst (λ z. NextMay (move m t s o k rest (Some ds)) (move m t' s' o' k rest z)) (sym a.1) (performs s s' r o (map rename o.operands) k rest _ _ b)

      turns_may : (s s' : State) → RunReaches m t root s → Refined s s' → (k : ℕ) (rest : List ℕ) → s.rest ≡ k ∷ rest → (o : Option Operation) → op_at t k ≡ o → NextMay (turn m t s k rest o) (turn m t' s' k rest (op_at t' k))
      turns_may s s' i r k rest e None oe = tt
      turns_may s s' i r k rest e (Some o) oe = subst (λ z. NextMay (turn m t s k rest (Some o)) (turn m t' s' k rest z)) (sym (op_renamed t t' rename h k o oe)) (moves_may s s' i r k rest o e oe (input_of s.environment o.operands s.answer) refl)

      steps_may : (s s' : State) → RunReaches m t root s → Refined s s' → NextMay (step m t s) (step m t' s')
      unfolding step
      steps_may s s' i r = subst (λ z. NextMay (step_at m t s s.rest) (step_at m t' s' z)) (sym r.rest) (by_rest s.rest refl)
        where
          by_rest : (xs : List ℕ) → s.rest ≡ xs → NextMay (step_at m t s xs) (step_at m t' s' xs)
          by_rest [] e = subst (λ z. NextMay (leave s s.waiting []) (leave s' z [])) (sym r.waiting) (leave_may s s' r s.waiting [] [] tt)
          by_rest (k ∷ rest) e = turns_may s s' i r k rest e (op_at t k) refl

      abbrev Under : State → State → Type 0
      Under s s' = RunReaches m t root s × Refined s s'

      no_wait : State → State → ℕ
      no_wait s s' = 0

      paced : (s s' : State) → RunReaches m t root s → (o o' : Next) → step m t s ≡ o → step m t' s' ≡ o' → NextMay o o' → Pace R E (step m t) (step m t') Under no_wait s s'
      paced s s' i (Continues a) (Continues b) e e' r = Both a b e e' (subst (λ z. IfGoes z (RunReaches m t root)) e ((reached_kept m t root).keeps s i), r)
      paced s s' i (Continues a) (Over y) e e' r = absurd r
      paced s s' i (Over (Trapped es)) o' e e' r = Stops es e
      paced s s' i (Over (Ended ds es)) (Over y) e e' r = Finish (Ended ds es) y e e' r
      paced s s' i (Over (Ended ds es)) (Continues b) e e' r = absurd r
      paced s s' i (Over (Reached es)) (Over y) e e' r = Finish (Reached es) y e e' r
      paced s s' i (Over (Reached es)) (Continues b) e e' r = absurd r

      keeps_pace : KeepPace R E (step m t) (step m t') Under no_wait
      keeps_pace = record {
        effects = λ s s' r. r.1.effects;
        pace = λ s s' r. paced s s' r.0 (step m t s) (step m t' s') refl refl (steps_may s s' r.0 r.1);
      }

      pub refines_by : (inputs inputs' world world' : List Datum) → AllMayBecome R inputs inputs' → AllMayBecome R world world' → RefinesFrom R E (step m t) (step m t') (start root inputs world) (start root inputs' world')
      refines_by inputs inputs' world world' a b = refined_by R E (step m t) (step m t') Under no_wait keeps_pace (start root inputs world) (start root inputs' world') (
        reached_start m t root inputs world,
        record {
          environment = λ v d e. absurd (none_is d e);
          rest = refl;
          memo = refl;
          answer = a;
          waiting = refl;
          world = b;
          effects = tt;
        },
      )

pub renamed_refines : (R E : Relation) (m : Meaning) (t u : Tree) (rename : ℕ → ℕ) (root : ℕ) → IsPreorder R → ActsMonotonely R E m → IsRenamed t u rename → HaveLessData R m t rename root → Refines R E m t u root
renamed_refines R E m t u rename root p mono h less = record { refines = λ inputs world. refines_by R E p t u rename h m mono root less inputs inputs world world (all_refl R p inputs) (all_refl R p world) }

map_same : (vs : List ℕ) → vs ≡ map (λ v. v) vs
map_same [] = refl
map_same (v ∷ vs) = ap (λ ws. v ∷ ws) (map_same vs)

renamed_same : (t : Tree) → IsRenamed t t (λ v. v)
renamed_same t = record {
  operands = λ k. map_same (operands_of t k);
  rows = λ k. refl;
  successors = λ k. refl;
  parents = λ k. refl;
  bodies = λ b. refl;
  arguments = λ b. refl;
  block_parents = λ b. refl;
  layouts = λ r. refl;
  slots = λ r. refl;
  definitions = λ v. refl;
}

pub monotone_runs : (R E : Relation) (m : Meaning) (t : Tree) (root : ℕ) (inputs inputs' world world' : List Datum) → IsPreorder R → ActsMonotonely R E m → AllMayBecome R inputs inputs' → AllMayBecome R world world' → RefinesFrom R E (step m t) (step m t) (start root inputs world) (start root inputs' world')
monotone_runs R E m t root inputs inputs' world world' p mono a b = refines_by R E p t t (λ v. v) (renamed_same t) m mono root (λ s k v rest d i e none j q. (d, q, p.reflexive d)) inputs inputs' world world' a b
