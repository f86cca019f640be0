-- Operations whose places are taken by others, where the first machine may stop in undefined behaviour.
-- (The module of `Substitute` with another result of `Skips` and another end.)
use Rattle.std.proofs.Common.{◌≡◌, ◌⊎◌, inl, inr, ℕ, ◌+◌, ◌<◌, Bool, true, false, List, [], ◌∷◌, ◌++◌, Option, Some, None, refl, sym, ap, ◌∙◌, subst, slice_get}
use Rattle.pliron_laws.specs.Datum.{Datum, Empty, Meaning, Move}
use Rattle.pliron_laws.specs.Tree.{Tree, Operation, Block, op_at, shape_of}
use Rattle.pliron_laws.specs.Machine.{Environment, State, Next, Continues, Over, Ended, Trapped, Reached, bind, data_of, input_of, leave, entry_in, block_in, perform, move, turn, step_at, step, start}
use Rattle.pliron_laws.specs.Acting.{Comes, Begins, Answered, AnsweredByWorld, MovesAlike, ActAlike}
use Rattle.pliron_theory.proofs.Simulation.{Kept, IfGoes}
use Rattle.pliron_theory.proofs.Lockstep.{NextAlike, Ties, Tied, EnvsTied, EntersTied, alike_tied, leave_tied, trap_tied}
use Rattle.pliron_theory.proofs.Substitute.{put_one, placed_all, taken, Comparison}
use Rattle.pliron_theory_refinement.specs.Refinement.{Relation, IsPreorder, AllMayBecome, Refines}
use Rattle.pliron_theory_refinement.proofs.Paces.{Pace, Both, Finish, Stops, Left, Right, KeepPace, refined_by, all_refl}

-- machines that make alike moves keep pace
paced : (R E : Relation) (p : IsPreorder R) (q : IsPreorder E) (f g : State → Next) (S : State → State → Type 0) (left : State → State → ℕ) (s s' : State) (o o' : Next) → f s ≡ o → g s' ≡ o' → NextAlike S o o' → Pace R E f g S left s s'
paced R E p q f g S left s s' (Continues a) (Continues b) e e' r = Both a b e e' r
paced R E p q f g S left s s' (Over (Trapped es)) (Over y) e e' r = Stops es e
paced R E p q f g S left s s' (Over (Ended ds es)) (Over y) e e' r = Finish (Ended ds es) (Ended ds es) e (e' ∙ ap Over (sym r)) (all_refl R p ds, all_refl E q es)
paced R E p q f g S left s s' (Over (Reached es)) (Over y) e e' r = Finish (Reached es) (Reached es) e (e' ∙ ap Over (sym r)) (all_refl E q es)
paced R E p q f g S left s s' (Continues a) (Over y) e e' r = absurd r
paced R E p q f g S left s s' (Over (Trapped es)) (Continues b) e e' r = absurd r
paced R E p q f g S left s s' (Over (Ended ds es)) (Continues b) e e' r = absurd r
paced R E p q f g S left s s' (Over (Reached es)) (Continues b) e e' r = absurd r

goes_kept : (f : State → Next) (P : State → Type 0) → Kept f P → (s a : State) → P s → f s ≡ Continues a → P a
goes_kept f P k s a p e = subst (λ o. IfGoes o P) e (k.keeps s p)

-- facts about each state of both machines may be used
pace_under_both : (R E : Relation) (f g : State → Next) (I J : State → Type 0) (S : State → State → Type 0) (left : State → State → ℕ) → Kept f I → Kept g J → ((s s' : State) → S s s' → AllMayBecome E s.effects s'.effects) → ((s s' : State) → I s → J s' → S s s' → Pace R E f g S left s s') → KeepPace R E f g (λ s s'. I s × J s' × S s s') left
pace_under_both R E f g I J S left kept kept' eff p = record {
  effects = λ s s' r. eff s s' r.2;
  pace = λ s s' r. go s s' r.0 r.1 (p s s' r.0 r.1 r.2);
}
  where
    go : (s s' : State) → I s → J s' → Pace R E f g S left s s' → Pace R E f g (λ s s'. I s × J s' × S s s') left s s'
    go s s' i j (Both a b e e' r) = Both a b e e' (goes_kept f I kept s a i e, goes_kept g J kept' s' b j e', r)
    go s s' i j (Finish x x' e e' al) = Finish x x' e e' al
    go s s' i j (Stops es e) = Stops es e
    go s s' i j (Left a e r lt) = Left a e (goes_kept f I kept s a i e, j, r) lt
    go s s' i j (Right b e r lt) = Right b e (i, goes_kept g J kept' s' b j e, r) lt

module _ (m : Meaning) (t t' : Tree) (c : Comparison) where
  abbrev pub ActsAlike : ℕ → Operation → Operation → List Datum → List Datum → Type 0
  ActsAlike k o o' first first' = ActAlike m.act (c.visits k) (c.gotos k) (shape_of m t o) (shape_of m t' o') first first'

  -- the operation acts alike in both trees, and came to this memo and this input
  pub data Begun (k : ℕ) (memo : Datum) (input : List Datum) : Type 0 where
    Starts : (o o' : Operation) → op_at t k ≡ Some o → op_at t' (c.swap k) ≡ Some o' → ActsAlike k o o' input input → memo ≡ Empty → Begun k memo input
    GoesOn : (o o' : Operation) → op_at t k ≡ Some o → op_at t' (c.swap k) ≡ Some o' → (first first' : List Datum) → ActsAlike k o o' first first' → Comes m.act (shape_of m t o) first true memo input → Begun k memo input

  abbrev pub HeadAt : Option (List ℕ) → ℕ → Datum → Option (List Datum) → Type 0
  HeadAt (Some l) k memo answer = (memo ≡ Empty) × (answer ≡ None)
  HeadAt None k memo None = memo ≡ Empty
  HeadAt None k memo (Some input) = Begun k memo input

  abbrev pub PlaceAt : List ℕ → Datum → Option (List Datum) → Type 0
  PlaceAt [] memo answer = Unit {0}
  PlaceAt (k ∷ ks) memo answer = HeadAt (c.places k) k memo answer

  abbrev pub WaitAt : List ℕ → Datum → Type 0
  WaitAt [] memo = Unit {0}
  WaitAt (k ∷ ks) memo = (c.places k ≡ None) × ((answer : List Datum) → Begun k memo answer)

  head_fresh : (k : ℕ) (x : Option (List ℕ)) → HeadAt x k Empty None
  head_fresh k None = refl
  head_fresh k (Some l) = (refl, refl)

  pub fresh : (rest : List ℕ) → PlaceAt rest Empty None
  fresh [] = tt
  fresh (k ∷ ks) = head_fresh k (c.places k)

  pub resumed : (rest : List ℕ) (memo : Datum) (answer : List Datum) → WaitAt rest memo → PlaceAt rest memo (Some answer)
  resumed [] memo answer w = tt
  resumed (k ∷ ks) memo answer w = subst (λ x. HeadAt x k memo (Some answer)) (sym w.0) (w.1 answer)

  abbrev pub ties : Ties
  ties = record {
    Env = c.Env;
    At = λ rest rest' memo answer. (rest' ≡ placed_all c.places c.swap rest) × PlaceAt rest memo answer × c.Own rest;
    Wait = λ rest rest' memo. (rest' ≡ placed_all c.places c.swap rest) × WaitAt rest memo × c.Own rest;
    resume = λ rest rest' memo answer w. (w.0, resumed rest memo answer w.1, w.2);
  }

  -- two blocks that are entered alike, with these values on the one side and those on the other
  abbrev pub Enters : Option Block → Option Block → List Datum → List Datum → Type 0
  Enters None None ds es = Unit {0}
  Enters None (Some b) ds es = ⊥
  Enters (Some b) None ds es = ⊥
  Enters (Some b) (Some b') ds es = (b'.operations ≡ placed_all c.places c.swap b.operations) × c.Own b.operations × ((env env' : Environment) → c.Env env env' → EnvsTied c.Env (bind env b.arguments ds) (bind env' b'.arguments es))

  enters : (b b' : Option Block) (ds es : List Datum) → Enters b b' ds es → EntersTied ties b b' ds es
  enters None None ds es e = tt
  enters None (Some b) ds es e = e
  enters (Some b) None ds es e = e
  enters (Some b) (Some b') ds es e = ((e.0, fresh b.operations, e.1), e.2)

  -- what the two trees owe each other at an operation that stays
  pub record Substitutes : Type 0 where
    pub own_rest : (k : ℕ) (rest : List ℕ) → c.Own (k ∷ rest) → c.Own rest
    pub absent : (k : ℕ) → c.places k ≡ None → op_at t k ≡ None → op_at t' (c.swap k) ≡ None
    pub other : (k : ℕ) (o : Operation) → c.places k ≡ None → op_at t k ≡ Some o → (o' : Operation) × (op_at t' (c.swap k) ≡ Some o')
    pub results : (k : ℕ) (o o' : Operation) → c.places k ≡ None → op_at t k ≡ Some o → op_at t' (c.swap k) ≡ Some o' → (env env' : Environment) (ds : List Datum) → c.Env env env' → EnvsTied c.Env (bind env o.results ds) (bind env' o'.results ds)
    pub entries : (k : ℕ) (o o' : Operation) → c.places k ≡ None → op_at t k ≡ Some o → op_at t' (c.swap k) ≡ Some o' → (i : ℕ) (ds es : List Datum) → c.visits k i ds es → Enters (entry_in t (slice_get o.regions i)) (entry_in t' (slice_get o'.regions i)) ds es
    pub targets : (k : ℕ) (o o' : Operation) → c.places k ≡ None → op_at t k ≡ Some o → op_at t' (c.swap k) ≡ Some o' → (i j : ℕ) (ds es : List Datum) → c.gotos k i ds j es → Enters (block_in t (slice_get o.successors i)) (block_in t' (slice_get o'.successors j)) ds es

  -- from the data that its operands have, an operation acts alike
  abbrev pub FirstAlike : ℕ → Operation → Operation → Option (List Datum) → Option (List Datum) → Type 0
  FirstAlike k o o' None None = Unit {0}
  FirstAlike k o o' None (Some b) = ⊥
  FirstAlike k o o' (Some a) None = ⊥
  FirstAlike k o o' (Some a) (Some b) = ActsAlike k o o' a b

  abbrev pub Reads : (State → Type 0) → (State → Type 0) → Type 0
  Reads I J = (s s' : State) → I s → J s' → Tied ties s s' → (k : ℕ) (rest : List ℕ) (o o' : Operation) → s.rest ≡ k ∷ rest → s.answer ≡ None → c.places k ≡ None → op_at t k ≡ Some o → op_at t' (c.swap k) ≡ Some o' → FirstAlike k o o' (data_of s.environment o.operands) (data_of s'.environment o'.operands)

  -- an operation that is taken makes one step, after which the run is at what took its place
  abbrev pub Skips : (State → Type 0) → Type 0
  Skips I = (s s' : State) → I s → Tied ties s s' → (k : ℕ) (rest l : List ℕ) → s.rest ≡ k ∷ rest → c.places k ≡ Some l → ((a : State) × (step m t s ≡ Continues a) × Tied ties a s' × (taken c.places a.rest < taken c.places s.rest)) ⊎ ((es : List Datum) × (step m t s ≡ Over (Trapped es)))

  pub left : State → State → ℕ
  left s s' = taken c.places s.rest

  module _ (h : Substitutes) where
    acts : (s s' : State) → Tied ties s s' → (k : ℕ) (rest rest' : List ℕ) → s.rest ≡ k ∷ rest → rest' ≡ placed_all c.places c.swap rest → c.places k ≡ None → (o o' : Operation) → op_at t k ≡ Some o → op_at t' (c.swap k) ≡ Some o' → (first first' : List Datum) → ActsAlike k o o' first first' → (later : Bool) (input : List Datum) → Comes m.act (shape_of m t o) first later s.memo input → (b : Move) → MovesAlike (c.visits k) (c.gotos k) (m.act (shape_of m t o) s.memo input) b → NextAlike (Tied ties) (perform t s o k rest (m.act (shape_of m t o) s.memo input)) (perform t' s' o' (c.swap k) rest' b)
    acts s s' r k rest rest' e q l o o' oe oe' first first' alike later input comes b same =
        alike_tied ties t t' s s' r k (c.swap k) rest rest' o o' (c.visits k) (c.gotos k) (m.act (shape_of m t o) s.memo input) b same (record {
          after = (q, fresh rest, own);
          wait = λ i ds memo f. (ap (λ z. c.swap k ∷ z) q ∙ ap (λ z. put_one c.swap z k (placed_all c.places c.swap rest)) (sym l), (l, λ answer. GoesOn o o' oe oe' first first' alike (Answered i ds memo answer comes f)), subst c.Own e r.place.2);
          answered = λ x memo answer f. (r.place.0, reported memo answer (GoesOn o o' oe oe' first first' alike (AnsweredByWorld x memo answer comes f)), r.place.2);
          results = λ env env' ds tied. h.results k o o' l oe oe' env env' ds tied;
          entries = λ i ds es v. enters _ _ ds es (h.entries k o o' l oe oe' i ds es v);
          targets = λ i j ds es v. enters _ _ ds es (h.targets k o o' l oe oe' i j ds es v);
        })
      where
        own : c.Own rest
        own = h.own_rest k rest (subst c.Own e r.place.2)

        reported : (memo answer : Datum) → Begun k memo (answer ∷ []) → PlaceAt s.rest memo (Some (answer ∷ []))
        reported memo answer g = subst (λ z. PlaceAt z memo (Some (answer ∷ []))) (sym e) (subst (λ z. HeadAt z k memo (Some (answer ∷ []))) (sym l) g)

    turn_stays : (s s' : State) → Tied ties s s' → (k : ℕ) (rest rest' : List ℕ) → s.rest ≡ k ∷ rest → rest' ≡ placed_all c.places c.swap rest → c.places k ≡ None → (o o' : Operation) → op_at t k ≡ Some o → op_at t' (c.swap k) ≡ Some o' → (s.answer ≡ None → FirstAlike k o o' (data_of s.environment o.operands) (data_of s'.environment o'.operands)) → NextAlike (Tied ties) (turn m t s k rest (Some o)) (turn m t' s' (c.swap k) rest' (Some o'))
    turn_stays s s' r k rest rest' e q l o o' oe oe' reads = go s.answer refl (subst (λ z. HeadAt z k s.memo s.answer) l (subst (λ z. PlaceAt z s.memo s.answer) e r.place.1))
      where
        same_op : (a b : Operation) (u : Tree) (j : ℕ) → op_at u j ≡ Some a → op_at u j ≡ Some b → a ≡ b
        same_op a b u j f g = cc

        first : (x y : Option (List Datum)) → FirstAlike k o o' x y → s.memo ≡ Empty → NextAlike (Tied ties) (move m t s o k rest x) (move m t' s' o' (c.swap k) rest' y)
        first None None a f = trap_tied ties s s' r
        first None (Some y) a f = absurd a
        first (Some x) None a f = absurd a
        first (Some x) (Some y) a f =
            acts s s' r k rest rest' e q l o o' oe oe' x y a false x (subst (λ z. Comes m.act (shape_of m t o) x false z x) (sym f) Begins) (m.act (shape_of m t' o') s'.memo y) (subst (λ z. MovesAlike (c.visits k) (c.gotos k) (m.act (shape_of m t o) s.memo x) (m.act (shape_of m t' o') z y)) r.memo (subst (λ z. MovesAlike (c.visits k) (c.gotos k) (m.act (shape_of m t o) z x) (m.act (shape_of m t' o') z y)) (sym f) a.begin))

        on : (input : List Datum) → Begun k s.memo input → NextAlike (Tied ties) (move m t s o k rest (Some input)) (move m t' s' o' (c.swap k) rest' (Some input))
        on input (Starts b b' be be' a f) =
            let g = same_op b o t k be oe in let g' = same_op b' o' t' (c.swap k) be' oe' in
            first (Some input) (Some input) (subst (λ z. ActsAlike k o z input input) g' (subst (λ z. ActsAlike k z b' input input) g a)) f
        on input (GoesOn b b' be be' x y a comes) =
            let g = same_op b o t k be oe in let g' = same_op b' o' t' (c.swap k) be' oe' in
            let a' : ActsAlike k o o' x y = subst (λ z. ActsAlike k o z x y) g' (subst (λ z. ActsAlike k z b' x y) g a) in
            let comes' : Comes m.act (shape_of m t o) x true s.memo input = subst (λ z. Comes m.act (shape_of m t z) x true s.memo input) g comes in
            acts s s' r k rest rest' e q l o o' oe oe' x y a' true input comes' (m.act (shape_of m t' o') s'.memo input) (subst (λ z. MovesAlike (c.visits k) (c.gotos k) (m.act (shape_of m t o) s.memo input) (m.act (shape_of m t' o') z input)) r.memo (a'.later s.memo input comes'))

        go : (x : Option (List Datum)) → s.answer ≡ x → HeadAt None k s.memo x → NextAlike (Tied ties) (move m t s o k rest (input_of s.environment o.operands s.answer)) (move m t' s' o' (c.swap k) rest' (input_of s'.environment o'.operands s'.answer))
        go None f a = subst (λ z. NextAlike (Tied ties) (move m t s o k rest (input_of s.environment o.operands z)) (move m t' s' o' (c.swap k) rest' (input_of s'.environment o'.operands s'.answer))) (sym f) (subst (λ z. NextAlike (Tied ties) (move m t s o k rest (data_of s.environment o.operands)) (move m t' s' o' (c.swap k) rest' (input_of s'.environment o'.operands z))) (sym f ∙ r.answer) (first _ _ (reads f) a))
        go (Some input) f a = subst (λ z. NextAlike (Tied ties) (move m t s o k rest (input_of s.environment o.operands z)) (move m t' s' o' (c.swap k) rest' (input_of s'.environment o'.operands s'.answer))) (sym f) (subst (λ z. NextAlike (Tied ties) (move m t s o k rest (Some input)) (move m t' s' o' (c.swap k) rest' (input_of s'.environment o'.operands z))) (sym f ∙ r.answer) (on input a))

    module _ (R E : Relation) (pr : IsPreorder R) (qr : IsPreorder E) (I J : State → Type 0) (reads : Reads I J) (skips : Skips I) where
      step_stays : (s s' : State) → I s → J s' → Tied ties s s' → (k : ℕ) (rest rest' : List ℕ) → s.rest ≡ k ∷ rest → rest' ≡ placed_all c.places c.swap rest → c.places k ≡ None → (o : Option Operation) → op_at t k ≡ o → NextAlike (Tied ties) (turn m t s k rest o) (turn m t' s' (c.swap k) rest' (op_at t' (c.swap k)))
      step_stays s s' i j r k rest rest' e q l None oe = subst (λ z. NextAlike (Tied ties) (turn m t s k rest None) (turn m t' s' (c.swap k) rest' z)) (sym (h.absent k l oe)) (trap_tied ties s s' r)
      step_stays s s' i j r k rest rest' e q l (Some o) oe =
          let x = h.other k o l oe in
          subst (λ z. NextAlike (Tied ties) (turn m t s k rest (Some o)) (turn m t' s' (c.swap k) rest' z)) (sym x.1) (turn_stays s s' r k rest rest' e q l o x.0 oe x.1 (λ f. reads s s' i j r k rest o x.0 e f l oe x.1))

      pace_rest : (s s' : State) → I s → J s' → Tied ties s s' → (rest : List ℕ) → s.rest ≡ rest → Pace R E (step m t) (step m t') (Tied ties) left s s'
      unfolding step left
      pace_rest s s' i j r [] e = paced R E pr qr _ _ _ _ s s' (leave s s.waiting []) (leave s' s'.waiting []) (ap (step_at m t s) e) (ap (step_at m t' s') (r.place.0 ∙ ap (placed_all c.places c.swap) e)) (leave_tied ties s s' r s.waiting s'.waiting r.waiting [])
      pace_rest s s' i j r (k ∷ rest) e = by_place (c.places k) refl
        where
          by_place : (x : Option (List ℕ)) → c.places k ≡ x → Pace R E (step m t) (step m t') (Tied ties) left s s'
          by_place (Some l) d = elim (skips s s' i r k rest l e d) [ inl x ↦ Left x.0 x.1 x.2 x.3 | inr x ↦ Stops x.0 x.1 ]
          by_place None l =
              let q : s'.rest ≡ c.swap k ∷ placed_all c.places c.swap rest = r.place.0 ∙ ap (placed_all c.places c.swap) e ∙ ap (λ x. put_one c.swap x k (placed_all c.places c.swap rest)) l in
              paced R E pr qr _ _ _ _ s s' (step_at m t s (k ∷ rest)) (step_at m t' s' (c.swap k ∷ placed_all c.places c.swap rest)) (ap (step_at m t s) e) (ap (step_at m t' s') q) (step_stays s s' i j r k rest (placed_all c.places c.swap rest) e refl l (op_at t k) refl)

      -- what an agreement asks at the root and at the start
      pub record BeginsAlike (root : ℕ) : Type 0 where
        pub stays : c.places root ≡ None
        pub same : c.swap root ≡ root
        pub own : c.Own (root ∷ [])
        pub empty : c.Env (λ v. None) (λ v. None)
        pub alike : (inputs : List Datum) → Begun root Empty inputs
        pub left : (inputs world : List Datum) → I (start root inputs world)
        pub right : (inputs world : List Datum) → J (start root inputs world)

      effects_same : (s s' : State) → Tied ties s s' → AllMayBecome E s.effects s'.effects
      effects_same s s' r = subst (AllMayBecome E s.effects) r.effects (all_refl E qr s.effects)

      pub substituted_pace : Kept (step m t) I → Kept (step m t') J → KeepPace R E (step m t) (step m t') (λ s s'. I s × J s' × Tied ties s s') left
      substituted_pace kept kept' = pace_under_both R E (step m t) (step m t') I J (Tied ties) left kept kept' effects_same (λ s s' i j r. pace_rest s s' i j r s.rest refl)

      pub tied_start : (root : ℕ) → BeginsAlike root → (inputs world : List Datum) → I (start root inputs world) × J (start root inputs world) × Tied ties (start root inputs world) (start root inputs world)
      tied_start root b inputs world = (
        b.left inputs world,
        b.right inputs world,
        record {
          environment = b.empty;
          memo = refl;
          answer = refl;
          place = (ap (λ x. x ∷ []) (sym b.same) ∙ sym (ap (λ x. put_one c.swap x root []) b.stays), subst (λ z. HeadAt z root Empty (Some inputs)) (sym b.stays) (b.alike inputs), b.own);
          waiting = tt;
          world = refl;
          effects = refl;
        },
      )

      pub substituted_refines : (root : ℕ) → Kept (step m t) I → Kept (step m t') J → BeginsAlike root → Refines R E m t t' root
      substituted_refines root kept kept' b = record { refines = λ inputs world. refined_by R E (step m t) (step m t') (λ s s'. I s × J s' × Tied ties s s') left (substituted_pace kept kept') (start root inputs world) (start root inputs world) (tied_start root b inputs world) }
