-- The results of an operation are what it gave on the data that its operands have, wherever it stands before what moves.
use Rattle.std.proofs.Common.{◌≡◌, ◌≢◌, ◌⊎◌, inl, inr, ⊎_elim, ℕ, Bool, true, false, List, [], ◌∷◌, ◌++◌, Option, Some, None, IsSome, slice_get, refl, sym, ap, ◌∙◌, subst, append_assoc}
use Rattle.std.proofs.lemmas.Bool.{cases_eq}
use Rattle.pliron_core.specs.declared.context.Def.{Def}
use Rattle.pliron_core.specs.declared.context.Def.TheVariants.{Result, Argument}
use Rattle.pliron_core.specs.Lists.{IsDistinct}
use Rattle.pliron_core.specs.Changes.{IsDefiningOperationInside}
use Rattle.pliron_core.specs.Tree.{Tree, In, first_of, IsInside, IsWithin, IsRegion, IsLive, operands_of, successors_of, results_of, parent_of, body_of, arguments_of, block_parent_of, layout_of, region_parent_of, block_parent_operation_of, parent_operation_of, definition_of, up_from, op_of_slot}
use Rattle.pliron_core.specs.Edges.{succs_from}
use Rattle.pliron_core.specs.Invariant.{IsTree}
use Rattle.pliron_core.proofs.ListLemmas.{In-right, In-cases, decide_in, split_at}
use Rattle.pliron_core.proofs.HoldingLemmas.{some_is, not_none, in_slice, slice_in, holder_is, holder_by, block_held, inside_up, inside_by, deeper, within_inside, not_itself}
use Rattle.pliron_laws.specs.Datum.{Datum, Empty, Meaning, Move, Give, Visit, Emit}
use Rattle.pliron_laws.specs.Tree.{Operation, Block, op_at, shape_of}
use Rattle.pliron_laws.specs.States.{Environment, Waiting, State, bind, data_of, input_of}
use Rattle.pliron_laws.specs.Machine.{start}
use Rattle.pliron_laws.specs.Paths.{Path, Leads}
use Rattle.pliron_laws.specs.Root.{defining_block, HasPassed, IsDominated}
use Rattle.pliron_laws.specs.Linked.{EndsBlock}
use Rattle.pliron_laws.specs.Acting.{Comes, Begins, Answered, AnsweredByWorld}
use Rattle.pliron_laws.proofs.Records.{op_shows, block_shows, entry_shows, ShowsEntry}
use Rattle.pliron_theory.specs.Keeps.{IsFit}
use Rattle.pliron_theory.specs.Renaming.{RunReaches}
use Rattle.pliron_theory.proofs.Frames.{LatticeValues, Makes, Rules, Below, Holding, holding_kept}
use Rattle.pliron_theory.proofs.Bound.{IsPlaced, IsAt, HasAnswer, Missed, has_some, last_ends, places, place_rules, placed_parent, placed_holder, placed_inside}
use Rattle.pliron_theory.proofs.Reached.{reached_holds}
use Rattle.pliron_rewrite_equals.specs.OperationDominance.{DominatesOperation}
use Rattle.pliron_rewrite_equals.specs.Given.{IsAsGiven, GivenLaw}
use Rattle.pliron_rewrite_equals.proofs.Ways.{split_once, front_first, part_to, first_part}
use Rattle.pliron_rewrite_equals.proofs.Bindings.{meet_or, data_stay, bound_data}

module _ (m : Meaning) (t : Tree) (w : IsTree t) (root : ℕ) (f : IsFit m t root) (k : ℕ) (inside : IsInside t root k) (none_next : successors_of t k ≡ []) where
  -- where it stands
  pub up : (x : ℕ) × (parent_operation_of t k ≡ Some x) × IsWithin t root x
  up = inside_up inside

  abbrev pub top : ℕ
  top = up.0

  pub liveness : (b : ℕ) × (parent_of t k ≡ Some b) × (block_parent_operation_of t b ≡ Some top)
  liveness = holder_is t k up.0 up.1

  abbrev pub home : ℕ
  home = liveness.0

  pub held : (r x : ℕ) × (block_parent_of t home ≡ Some r) × IsRegion t r × (region_parent_of t r ≡ Some x) × (block_parent_operation_of t home ≡ Some x) × IsLive t x
  held = block_held t home w.joined (w.joined.all_in_place k home liveness.1).1

  abbrev pub here : ℕ
  here = held.0

  same_top : held.1 ≡ top
  same_top = some_is (sym held.5 ∙ liveness.2)

  top_of_here : region_parent_of t here ≡ Some top
  top_of_here = held.4 ∙ ap Some same_top

  abbrev pub kdef : Option Def
  kdef = Some (Result k 0)

  -- where it stands in its block
  part : (front : List ℕ) × (back : List ℕ) × (body_of t home ≡ front ++ k ∷ back)
  part = split_at k (body_of t home) (w.bodies.listed k home liveness.1)

  -- what stands in its region
  abbrev Here : ℕ → Type 0
  Here j = (c : ℕ) × (parent_of t j ≡ Some c) × (block_parent_of t c ≡ Some here)

  held_here : (j : ℕ) → Here j → parent_operation_of t j ≡ Some top
  held_here j x = holder_by t j x.0 top x.1 (ap (λ o. up_from o (λ r. region_parent_of t r)) x.2 ∙ top_of_here)

  not_above : (j : ℕ) → Here j → IsWithin t j top → ⊥
  not_above j x y = not_itself w.joined.rooted (within_inside (inside_by top (held_here j x) (inl refl)) y)

  not_around : (j : ℕ) → Here j → IsInside t j k → ⊥
  not_around j x y =
      let u = inside_up y in
      let s : u.0 ≡ top = some_is (sym u.1 ∙ up.1) in
      not_above j x (subst (IsWithin t j) s u.2)

  -- an operand, and how what makes it dominates the operation
  module _ (v : ℕ) (used : In v (operands_of t k)) where
    made : IsDefiningOperationInside t root (definition_of t v)
    made = f.defined.own_values k v inside used

    d : IsDominated t k v
    d = f.defined.dominated k v used made

    home_held : (x : ℕ) × (region_parent_of t d.region ≡ Some x) × (parent_operation_of t d.around ≡ Some x)
    home_held =
        let x = block_held t d.block w.joined (subst IsSome (sym d.in_region) refl) in
        let s : x.0 ≡ d.region = some_is (sym x.2 ∙ d.in_region) in
        (x.1, ap (region_parent_of t) (sym s) ∙ x.4, holder_by t d.around d.block x.1 d.in_block x.5)

    -- the parent operation of its region has the operation inside
    holds_it : IsInside t home_held.0 k
    holds_it = within_inside (inside_by home_held.0 home_held.2 (inl refl)) d.holds

    not_maker_below : (j : ℕ) → Here j → IsWithin t j home_held.0 → ⊥
    not_maker_below j x y = not_around j x (⊎_elim (λ s. subst (λ z. IsInside t z k) s holds_it) (λ i. deeper i holds_it) y)

    by_result : (j : ℕ) → In v (results_of t j) → parent_operation_of t j ≡ Some home_held.0
    by_result j x =
        let i = slice_in (results_of t j) v x in
        let e : up_from (parent_of t j) (λ c. block_parent_of t c) ≡ Some d.region = ap (λ z. up_from (defining_block t z) (λ c. block_parent_of t c)) (sym (w.joined.results j i.0 v i.1)) ∙ d.defined in
        go (parent_of t j) e
      where
        go : (o : Option ℕ) → up_from o (λ c. block_parent_of t c) ≡ Some d.region → up_from o (λ c. block_parent_operation_of t c) ≡ Some home_held.0
        go None e = absurd (not_none e)
        go (Some c) e = ap (λ o. up_from o (λ r. region_parent_of t r)) e ∙ home_held.1

    by_argument : (c : ℕ) → In v (arguments_of t c) → block_parent_operation_of t c ≡ Some home_held.0
    by_argument c x =
        let i = slice_in (arguments_of t c) v x in
        let e : block_parent_of t c ≡ Some d.region = ap (λ z. up_from (defining_block t z) (λ c. block_parent_of t c)) (sym (w.joined.arguments c i.0 v i.1)) ∙ d.defined in
        ap (λ o. up_from o (λ r. region_parent_of t r)) e ∙ home_held.1

    -- where its own region makes it, each path to the operation passes what makes it
    same_around : d.region ≡ here → k ≡ d.around
    same_around e = ⊎_elim
        (λ s. s)
        (λ y.
        let s : home_held.0 ≡ top = some_is (sym home_held.1 ∙ ap (region_parent_of t) e ∙ top_of_here) in
        let u = inside_up y in
        let q : u.0 ≡ top = some_is (sym u.1 ∙ up.1) in
        absurd (not_itself w.joined.rooted (within_inside (inside_by top (home_held.2 ∙ ap Some s) (inl refl)) (subst (IsWithin t d.around) q u.2))))
        d.holds

    passed : (entry : ℕ) → first_of (layout_of t here) None ≡ Some entry → d.region ≡ here → (before : List ℕ) → Path t entry home before → HasPassed t (definition_of t v) before home part.0
    passed entry fe e before path =
        let s = same_around e in
        let block : d.block ≡ home = some_is (sym d.in_block ∙ ap (parent_of t) (sym s) ∙ liveness.1) in
        subst (λ z. HasPassed t (definition_of t v) before z part.0) block (d.passes entry before part.0 part.1 (ap (λ z. first_of (layout_of t z) None) e ∙ fe) (subst (λ z. Path t entry z before) (sym block) path) (ap (body_of t) block ∙ part.2 ∙ ap (λ z. part.0 ++ z ∷ part.1) s))

  module _ (entry : ℕ) (fe : first_of (layout_of t here) None ≡ Some entry) where
    -- behind an operation that makes an operand, some path missed the operation
    behind_result : (v : ℕ) → In v (operands_of t k) → (j c : ℕ) → parent_of t j ≡ Some c → block_parent_of t c ≡ Some here → In v (results_of t j) → (before done others : List ℕ) → Path t entry c before → body_of t c ≡ done ++ j ∷ others → Missed t entry c (done ++ j ∷ []) kdef
    behind_result v used j c pj rc x before done others path split = ⊎_elim same apart (cases_eq c home)
      where
        made_by : definition_of t v ≡ Some (Result j (slice_in (results_of t j) v x).0)
        made_by = w.joined.results j (slice_in (results_of t j) v x).0 v (slice_in (results_of t j) v x).1

        in_region : (d v used).region ≡ here
        in_region = some_is (sym (d v used).defined ∙ ap (λ z. up_from (defining_block t z) (λ c. block_parent_of t c)) made_by ∙ ap (λ o. up_from o (λ c. block_parent_of t c)) pj ∙ rc)

        passes : (p : List ℕ) → Path t entry home p → In j part.0 ⊎ In c p
        passes p q = ⊎_elim
            (λ y. inl y)
            (λ y. inr (subst (λ z. In z p) (some_is (sym y.1 ∙ pj)) y.2))
            (subst (λ z. HasPassed t z p home part.0) made_by (passed v used entry fe in_region p q))

        -- a member of the front of k's block stands there
        front_in : In j part.0 → c ≡ home
        front_in y = some_is (sym pj ∙ w.bodies.owned j home (subst (In j) (sym part.2) (left part.0 y)))
          where
            left : (xs : List ℕ) → In j xs → In j (xs ++ k ∷ part.1)
            left [] z = absurd z
            left (y ∷ xs) (inl z) = inl z
            left (y ∷ xs) (inr z) = inr (left xs z)

        at_home : (z : (b : ℕ) × (parent_of t k ≡ Some b) × Unit {0}) → z.0 ≡ home
        at_home z = some_is (sym z.1 ∙ liveness.1)

        same : c ≡ home → Missed t entry c (done ++ j ∷ []) kdef
        same e =
            let q = first_part t entry home c before path (inl (sym e)) in
            record {
              before = q.0;
              path = subst (λ z. Path t entry z q.0) (sym e) q.1;
              missed = ⊎_elim
                  (λ y. ⊎_elim
                  (λ i. front_first k j part.0 part.1 done others (subst IsDistinct part.2 (w.bodies.distinct home)) (sym part.2 ∙ ap (body_of t) (sym e) ∙ split) i y)
                  (λ i. q.2 (subst (λ z. In z q.0) e i))
                  (passes q.0 q.1))
                  (λ y. q.2 (subst (λ z. In z q.0) (some_is (sym y.1 ∙ liveness.1)) y.2));
            }

        apart : c ≢ home → Missed t entry c (done ++ j ∷ []) kdef
        apart ne = ⊎_elim
            (λ i.
            let q = first_part t entry home c before path i in
            let y : In c q.0 = ⊎_elim (λ z. absurd (ne (front_in z))) (λ z. z) (passes q.0 q.1) in
            let p = part_to t entry home c q.0 q.1 y in
            record { before = p.0; path = p.1; missed = ⊎_elim not_here (λ z. q.2 (p.2 home (inr (subst (λ b. In b p.0) (some_is (sym z.1 ∙ liveness.1)) z.2)))) })
            (λ away. record { before = before; path = path; missed = ⊎_elim not_here (λ z. away (inr (subst (λ b. In b before) (some_is (sym z.1 ∙ liveness.1)) z.2))) })
            (decide_in home (c ∷ before))
          where
            not_here : In k (done ++ j ∷ []) → ⊥
            not_here y = ne (some_is (sym (w.bodies.owned k c (subst (In k) (sym split) (longer done y))) ∙ liveness.1))
              where
                longer : (xs : List ℕ) → In k (xs ++ j ∷ []) → In k (xs ++ j ∷ others)
                longer [] (inl e) = inl e
                longer [] (inr e) = absurd e
                longer (x ∷ xs) (inl e) = inl e
                longer (x ∷ xs) (inr e) = inr (longer xs e)

    -- where a block binds an operand, some path missed the operation
    at_argument : (v : ℕ) → In v (operands_of t k) → (c : ℕ) → block_parent_of t c ≡ Some here → In v (arguments_of t c) → (before : List ℕ) → Path t entry c before → Missed t entry c [] kdef
    at_argument v used c rc x before path = ⊎_elim
        (λ i.
        let q = first_part t entry home c before path (inr i) in
        ⊎_elim
        (λ s. record { before = q.0; path = subst (λ z. Path t entry z q.0) (sym s) q.1; missed = ⊎_elim (λ y. y) (λ y. q.2 (subst (λ b. In b q.0) (some_is (sym y.1 ∙ liveness.1)) y.2)) })
        (λ y.
        let p = part_to t entry home c q.0 q.1 y in
        record { before = p.0; path = p.1; missed = ⊎_elim (λ z. z) (λ z. q.2 (p.2 home (inr (subst (λ b. In b p.0) (some_is (sym z.1 ∙ liveness.1)) z.2)))) })
        (passes q.0 q.1))
        (λ away. record { before = before; path = path; missed = ⊎_elim (λ y. y) (λ y. away (subst (λ b. In b before) (some_is (sym y.1 ∙ liveness.1)) y.2)) })
        (decide_in home before)
      where
        made_by : definition_of t v ≡ Some (Argument c (slice_in (arguments_of t c) v x).0)
        made_by = w.joined.arguments c (slice_in (arguments_of t c) v x).0 v (slice_in (arguments_of t c) v x).1

        in_region : (d v used).region ≡ here
        in_region = some_is (sym (d v used).defined ∙ ap (λ z. up_from (defining_block t z) (λ c. block_parent_of t c)) made_by ∙ rc)

        passes : (p : List ℕ) → Path t entry home p → In c (home ∷ p)
        passes p q = subst (λ z. HasPassed t z p home part.0) made_by (passed v used entry fe in_region p q)

    -- it uses none of its own results where a path leads to it
    own_apart : (before : List ℕ) → Path t entry home before → (v : ℕ) → In v (operands_of t k) → In v (results_of t k) → ⊥
    own_apart before path v used x =
        let q = behind_result v used k home liveness.1 held.2 x before part.0 part.1 path part.2 in
        q.missed (inl (In-right k part.0 (k ∷ []) (inl refl)))

    -- what holds at a place of its region: a path leads there, and the results are current, or some path to
    -- there missed the operation
    abbrev pub Claim : Environment → ℕ → Type 0
    Claim env j = (c : ℕ) (done others : List ℕ) → parent_of t j ≡ Some c → block_parent_of t c ≡ Some here → body_of t c ≡ done ++ j ∷ others → (before : List ℕ) × Path t entry c before × (IsAsGiven m t env k ⊎ Missed t entry c done kdef)

    abbrev pub OfHead : Environment → List ℕ → Type 0
    OfHead env [] = Unit {0}
    OfHead env (j ∷ rest) = Claim env j

    abbrev pub OfPlace : Environment → Option ℕ → List ℕ → Type 0
    OfPlace env None rest = Unit {0}
    OfPlace env (Some g) rest = OfHead env rest

    -- it came from the data of its operands to this memo and this answer
    pub record Begun (env : Environment) (memo : Datum) (answer : Option (List Datum)) : Type 0 where
      pub operation : Operation
      pub liveness : op_at t k ≡ Some operation
      pub first : List Datum
      pub has : data_of env operation.operands ≡ Some first
      pub input : List Datum
      pub answered : answer ≡ Some input
      pub comes : Comes m.act (shape_of m t operation) first true memo input

    -- and waits with this memo for any answer
    pub record Resting (env : Environment) (memo : Datum) : Type 0 where
      pub operation : Operation
      pub liveness : op_at t k ≡ Some operation
      pub first : List Datum
      pub has : data_of env operation.operands ≡ Some first
      pub comes : (input : List Datum) → Comes m.act (shape_of m t operation) first true memo input

    -- it has not moved yet, or it began
    abbrev pub Minds : Environment → List ℕ → Datum → Option (List Datum) → Type 0
    Minds env rest memo answer = (others : List ℕ) → rest ≡ k ∷ others → ((memo ≡ Empty) × (answer ≡ None)) ⊎ Begun env memo answer

    abbrev pub facts : LatticeValues
    facts = record {
      Always = λ env. Unit {0};
      Moves = λ env g rest memo answer. IsAt t root env g rest × HasAnswer g answer × OfPlace env g rest × Minds env rest memo answer;
      Waits = λ env g rest memo. IsAt t root env g rest × OfPlace env g rest × ((others : List ℕ) → rest ≡ k ∷ others → Resting env memo);
    }

    there : Rules m t (places t root)
    there = place_rules t w root m f.linked.edges f.defined

    at_rest : (env : Environment) (rest : List ℕ) → Minds env rest Empty None
    at_rest env rest others e = inl (refl, refl)

    here_it : Here k
    here_it = (home, liveness.1, held.2)

    -- from where it came to its move
    record Came (env : Environment) (memo : Datum) (o : Operation) (input : List Datum) : Type 0 where
      first : List Datum
      has : data_of env o.operands ≡ Some first
      later : Bool
      comes : Comes m.act (shape_of m t o) first later memo input

    came : (env : Environment) (j : ℕ) (memo : Datum) (answer : Option (List Datum)) (move : Move) → j ≡ k → ((memo ≡ Empty) × (answer ≡ None)) ⊎ Begun env memo answer → (x : Makes m t env j memo answer move) → Came env memo x.operation x.input
    came env j memo answer move s (inl u) x = record {
      first = x.input;
      has = ap (input_of env x.operation.operands) (sym u.1) ∙ x.reads;
      later = false;
      comes = subst (λ z. Comes m.act (shape_of m t x.operation) x.input false z x.input) (sym u.0) Begins;
    }
    came env j memo answer move s (inr b) x =
        let o : b.operation ≡ x.operation = some_is (sym b.liveness ∙ ap (op_at t) (sym s) ∙ x.liveness) in
        let i : b.input ≡ x.input = some_is (sym (ap (input_of env x.operation.operands) b.answered) ∙ x.reads) in
        record {
          first = b.first;
          has = ap (λ z. data_of env z.operands) (sym o) ∙ b.has;
          later = true;
          comes = subst (λ z. Comes m.act (shape_of m t x.operation) b.first true memo z) i (subst (λ z. Comes m.act (shape_of m t z) b.first true memo b.input) o b.comes);
        }

    still_resting : (env env1 : Environment) (vs : List ℕ) (ds : List Datum) → bind env vs ds ≡ Some env1 → ((v : ℕ) → In v (operands_of t k) → In v vs → ⊥) → (memo : Datum) → Resting env memo → Resting env1 memo
    still_resting env env1 vs ds e free memo b =
        let s = op_shows t k b.operation b.liveness in
        record { operation = b.operation; liveness = b.liveness; first = b.first; has = data_stay vs ds env env1 e b.operation.operands (subst (λ xs. (v : ℕ) → In v xs → In v vs → ⊥) s.operands free) ∙ b.has; comes = b.comes }

    -- binding other values leaves the results current
    still_current : (env env1 : Environment) (vs : List ℕ) (ds : List Datum) → bind env vs ds ≡ Some env1 → ((v : ℕ) → In v (operands_of t k) → In v vs → ⊥) → ((v : ℕ) → In v (results_of t k) → In v vs → ⊥) → IsAsGiven m t env k → IsAsGiven m t env1 k
    still_current env env1 vs ds e free nr c =
        let s = op_shows t k c.operation c.liveness in
        record {
          operation = c.operation;
          liveness = c.liveness;
          first = c.first;
          has = data_stay vs ds env env1 e c.operation.operands (subst (λ xs. (v : ℕ) → In v xs → In v vs → ⊥) s.operands free) ∙ c.has;
          later = c.later;
          memo = c.memo;
          input = c.input;
          comes = c.comes;
          given = c.given;
          gives = c.gives;
          results = data_stay vs ds env env1 e c.operation.results (subst (λ xs. (v : ℕ) → In v xs → In v vs → ⊥) s.results nr) ∙ c.results;
        }

    -- when it gives they are
    given_current : (env env1 : Environment) (o : Operation) (memo : Datum) (input ds : List Datum) → op_at t k ≡ Some o → Came env memo o input → m.act (shape_of m t o) memo input ≡ Give ds → bind env (results_of t k) ds ≡ Some env1 → ((v : ℕ) → In v (operands_of t k) → In v (results_of t k) → ⊥) → IsAsGiven m t env1 k
    given_current env env1 o memo input ds oe c gives e own =
        let s = op_shows t k o oe in
        record {
          operation = o;
          liveness = oe;
          first = c.first;
          has = data_stay (results_of t k) ds env env1 e o.operands (subst (λ xs. (v : ℕ) → In v xs → In v (results_of t k) → ⊥) s.operands own) ∙ c.has;
          later = c.later;
          memo = memo;
          input = input;
          comes = c.comes;
          given = ds;
          gives = gives;
          results = ap (data_of env1) (sym s.results) ∙ bound_data (results_of t k) ds env env1 once e;
        }
      where
        once : (i j v : ℕ) → slice_get (results_of t k) i ≡ Some v → slice_get (results_of t k) j ≡ Some v → i ≡ j
        once i j v a b = let e : Result k i ≡ Result k j = some_is (sym (w.joined.results k i v a) ∙ w.joined.results k j v b) in cc

    -- its results are made by nothing else
    result_is : (v j : ℕ) → In v (results_of t k) → In v (results_of t j) → j ≡ k
    result_is v j x y =
        let a = slice_in (results_of t k) v x in
        let b = slice_in (results_of t j) v y in
        let e : Result j b.0 ≡ Result k a.0 = some_is (sym (w.joined.results j b.0 v b.1) ∙ w.joined.results k a.0 v a.1) in
        cc

    no_argument : (v c : ℕ) → In v (results_of t k) → In v (arguments_of t c) → ⊥
    no_argument v c x y =
        let a = slice_in (results_of t k) v x in
        let b = slice_in (arguments_of t c) v y in
        let e : Some (Argument c b.0) ≡ Some (Result k a.0) = sym (w.joined.arguments c b.0 v b.1) ∙ w.joined.results k a.0 v a.1 in
        absurd (cc)

    kept_claim : (env env1 : Environment) (vs : List ℕ) (ds : List Datum) → bind env vs ds ≡ Some env1 → (j : ℕ) → (Here j → (v : ℕ) → In v (operands_of t k) → In v vs → ⊥) → (Here j → (v : ℕ) → In v (results_of t k) → In v vs → ⊥) → Claim env j → Claim env1 j
    kept_claim env env1 vs ds e j free nr q c done others pj rc split =
        let x = q c done others pj rc split in
        (x.0, x.1, ⊎_elim (λ s. inl (still_current env env1 vs ds e (free (c, pj, rc)) (nr (c, pj, rc)) s)) (λ z. inr z) x.2)

    kept_place : (env env1 : Environment) (vs : List ℕ) (ds : List Datum) → bind env vs ds ≡ Some env1 → (g : Option ℕ) (j : ℕ) (rest : List ℕ) → (Here j → (v : ℕ) → In v (operands_of t k) → In v vs → ⊥) → (Here j → (v : ℕ) → In v (results_of t k) → In v vs → ⊥) → OfPlace env g (j ∷ rest) → OfPlace env1 g (j ∷ rest)
    kept_place env env1 vs ds e None j rest free nr q = tt
    kept_place env env1 vs ds e (Some g) j rest free nr q = kept_claim env env1 vs ds e j free nr q

    -- the next operation of a block
    next_claim : (env env1 : Environment) (g j : ℕ) (rest : List ℕ) (memo : Datum) (answer : Option (List Datum)) (ds : List Datum) → bind env (results_of t j) ds ≡ Some env1 → IsPlaced t root env g (j ∷ rest) → Claim env j → Minds env (j ∷ rest) memo answer → Makes m t env j memo answer (Give ds) → OfHead env1 rest
    next_claim env env1 g j [] memo answer ds e q claim u x = tt
    next_claim env env1 g j (next ∷ rest) memo answer ds e q claim u x = λ c done others pn rc split.
        let pj : parent_of t j ≡ Some q.block = placed_parent t w root env g j (next ∷ rest) q in
        let pn' : parent_of t next ≡ Some q.block = w.bodies.owned next q.block (subst (In next) (sym q.split) (In-right next q.done (j ∷ next ∷ rest) (inr (inl refl)))) in
        let same : q.block ≡ c = some_is (sym pn' ∙ pn) in
        let pc : parent_of t j ≡ Some c = pj ∙ ap Some same in
        let body : body_of t c ≡ q.done ++ j ∷ next ∷ rest = ap (body_of t) (sym same) ∙ q.split in
        let longer : body_of t c ≡ (q.done ++ j ∷ []) ++ next ∷ rest = body ∙ sym (append_assoc q.done (j ∷ []) (next ∷ rest)) in
        let front : q.done ++ j ∷ [] ≡ done = split_once next (q.done ++ j ∷ []) rest done others (subst IsDistinct longer (w.bodies.distinct c)) (sym longer ∙ split) in
        let y = claim c q.done (next ∷ rest) pc rc body in
        (y.0, y.1, subst (λ z. IsAsGiven m t env1 k ⊎ Missed t entry c z kdef) front (after c pc rc q.done (next ∷ rest) body y.0 y.1 y.2))
      where
        gave : (c : ℕ) → parent_of t j ≡ Some c → (before : List ℕ) → Path t entry c before → j ≡ k → IsAsGiven m t env1 k
        gave c pc before path s =
            let h : c ≡ home = some_is (sym pc ∙ ap (parent_of t) s ∙ liveness.1) in
            given_current env env1 x.operation memo x.input ds (ap (op_at t) (sym s) ∙ x.liveness) (came env j memo answer (Give ds) s (u (next ∷ rest) (ap (λ z. z ∷ next ∷ rest) s)) x) x.acts (ap (λ z. bind env (results_of t z) ds) (sym s) ∙ e) (own_apart before (subst (λ z. Path t entry z before) h path))

        after : (c : ℕ) → parent_of t j ≡ Some c → block_parent_of t c ≡ Some here → (done others : List ℕ) → body_of t c ≡ done ++ j ∷ others → (before : List ℕ) → Path t entry c before → IsAsGiven m t env k ⊎ Missed t entry c done kdef → IsAsGiven m t env1 k ⊎ Missed t entry c (done ++ j ∷ []) kdef
        after c pc rc done others body before path y = ⊎_elim
            (λ s. inl (gave c pc before path s))
            (λ ne. ⊎_elim
            (λ cur. ⊎_elim
            (λ z. inr (behind_result z.0 z.1 j c pc rc z.2 before done others path body))
            (λ none. inl (still_current env env1 (results_of t j) ds e none (λ v a b. ne (result_is v j a b)) cur))
            (meet_or (operands_of t k) (results_of t j)))
            (λ z. inr (record { before = z.before; path = z.path; missed = ⊎_elim (λ i. ⊎_elim (λ a. z.missed (inl a)) (λ b. ⊎_elim (λ a. ne (sym a)) (λ a. absurd a) b) (In-cases k done (j ∷ []) i)) (λ i. z.missed (inr i)) }))
            y)
            (cases_eq j k)

    -- a block that is entered by a visit
    entered_claim : (env1 : Environment) (r : ℕ) (x : Block) (y : ShowsEntry t r x) → OfHead env1 (body_of t y.key)
    entered_claim env1 r x y = go (body_of t y.key) refl
      where
        in_first : (xs : List ℕ) → first_of xs None ≡ Some y.key → In y.key xs
        in_first [] e = absurd (not_none e)
        in_first (z ∷ xs) e = inl (sym (some_is e))

        go : (xs : List ℕ) → body_of t y.key ≡ xs → OfHead env1 xs
        go [] e = tt
        go (j ∷ rest) e = λ c done others pj rc split.
            let same : y.key ≡ c = some_is (sym (w.bodies.owned j y.key (subst (In j) (sym e) (inl refl))) ∙ pj) in
            let home_r : r ≡ here = some_is (sym (w.layouts.owned y.key r (in_first (layout_of t r) y.entry)) ∙ ap (block_parent_of t) same ∙ rc) in
            let first : entry ≡ c = some_is (sym fe ∙ ap (λ z. first_of (layout_of t z) None) (sym home_r) ∙ y.entry) ∙ same in
            let body : body_of t c ≡ j ∷ rest = ap (body_of t) (sym same) ∙ e in
            let front : [] ≡ done = split_once j [] rest done others (subst IsDistinct body (w.bodies.distinct c)) (sym body ∙ split) in
            ([], first, inr (record { before = []; path = first; missed = ⊎_elim (λ i. subst (In k) (sym front) i) (λ z. z.2) }))

    -- a block that is entered by a jump
    gone_claim : (env env1 : Environment) (g j : ℕ) (rest : List ℕ) (memo : Datum) (answer : Option (List Datum)) (n c : ℕ) (ds : List Datum) → IsPlaced t root env g (j ∷ rest) → Claim env j → j ≢ k → In c (successors_of t j) → bind env (arguments_of t c) ds ≡ Some env1 → OfHead env1 (body_of t c)
    gone_claim env env1 g j rest memo answer n c ds q claim ne ce be = go (body_of t c) refl
      where
        ends : EndsBlock t j
        ends = f.linked.edges j c ce (inl (placed_inside t w root env g j rest q))

        same : q.block ≡ ends.block
        same = some_is (sym (placed_parent t w root env g j rest q) ∙ ends.in_block)

        leads : Leads t ends.block c
        leads = record { successor = subst (λ o. In c (succs_from t o)) (sym ends.last) ce; same_region = ends.own_region c ce }

        body : body_of t ends.block ≡ q.done ++ j ∷ rest
        body = ap (body_of t) (sym same) ∙ q.split

        none : rest ≡ []
        none = last_ends j q.done rest (body_of t ends.block) (w.bodies.distinct ends.block) body ends.last

        -- what missed the operation until the jump misses it behind the jump
        go_on : Missed t entry ends.block q.done kdef → Missed t entry c [] kdef
        go_on z = record {
          before = ends.block ∷ z.before;
          path = (leads, z.path);
          missed = ⊎_elim
              (λ i. i)
              (λ y. ⊎_elim
              (λ s. z.missed (inl (ahead (subst (In k) (body ∙ ap (λ xs. q.done ++ j ∷ xs) none) (w.bodies.listed k ends.block (y.1 ∙ ap Some s))))))
              (λ i. z.missed (inr (y.0, y.1, i)))
              y.2);
        }
          where
            ahead : In k (q.done ++ j ∷ []) → In k q.done
            ahead i = ⊎_elim (λ a. a) (λ b. ⊎_elim (λ a. absurd (ne (sym a))) (λ a. absurd a) b) (In-cases k q.done (j ∷ []) i)

        go : (xs : List ℕ) → body_of t c ≡ xs → OfHead env1 xs
        go [] e = tt
        go (first ∷ others) e = λ c' done rest' pf rc' split.
            let at : c ≡ c' = some_is (sym (w.bodies.owned first c (subst (In first) (sym e) (inl refl))) ∙ pf) in
            let rc : block_parent_of t c ≡ Some here = ap (block_parent_of t) at ∙ rc' in
            let rj : block_parent_of t ends.block ≡ Some here = sym (ends.own_region c ce) ∙ rc in
            let y = claim ends.block q.done rest ends.in_block rj body in
            let path : Path t entry c (ends.block ∷ y.0) = (leads, y.1) in
            let front : [] ≡ done = split_once first [] others done rest' (subst IsDistinct e (w.bodies.distinct c)) (sym e ∙ ap (body_of t) at ∙ split) in
            subst (λ z. (before : List ℕ) × Path t entry z before × (IsAsGiven m t env1 k ⊎ Missed t entry z done kdef)) at (
              ends.block ∷ y.0,
              path,
              subst (λ z. IsAsGiven m t env1 k ⊎ Missed t entry c z kdef) front (⊎_elim
                  (λ cur. ⊎_elim
                  (λ z. inr (at_argument z.0 z.1 c rc z.2 (ends.block ∷ y.0) path))
                  (λ apart. inl (still_current env env1 (arguments_of t c) ds be apart (λ v a b. no_argument v c a b) cur))
                  (meet_or (operands_of t k) (arguments_of t c)))
                  (λ z. inr (go_on z))
                  y.2),
            )

    head_is : (a b : ℕ) (rest others : List ℕ) → a ∷ rest ≡ b ∷ others → a ≡ b
    head_is a b rest others e = cc

    rules : Rules m t facts
    rules = record {
      Deeper = λ x y. there.Deeper x y × IsInside t x y;
      deeper_trans = λ x y z q r. (there.deeper_trans x y z q.0 r.0, deeper q.1 r.1);
      moves_deep = λ env g j rest memo answer q. (there.moves_deep env g j rest memo answer (q.0, q.1), inside_by g (placed_holder t w root env g j rest q.0) (inl refl));
      waits_deep = λ env g j rest memo q. (there.waits_deep env g j rest memo q.0, inside_by g (placed_holder t w root env g j rest q.0) (inl refl));
      gives = λ env env1 g j rest memo answer ds so q x e.
          let y = there.gives env env1 g j rest memo answer ds tt (q.0, q.1) x e in
          let be : bind env (results_of t j) ds ≡ Some env1 = ap (λ vs. bind env vs ds) (op_shows t j x.operation x.liveness).results ∙ e in
          (tt, (y.1.0, y.1.1, next_claim env env1 g j rest memo answer ds be q.0 q.2 q.3 x, at_rest env1 rest), λ o i r z dj wt. (y.2 o i r z dj.0 wt.0, kept_place env env1 (results_of t j) ds be o i r (λ hi v a b. deep_result i j dj.1 hi v a b) (λ hi v a b. not_around i hi (subst (IsInside t i) (result_is v j a b) dj.1)) wt.1, λ others ei. still_resting env env1 (results_of t j) ds be (λ v a b. deep_result k j (subst (λ y. IsInside t y j) (head_is i k r others ei) dj.1) here_it v a b) z (wt.2 others ei)));
      goes = λ env env1 g j rest memo answer n ds c blk so q x ce be e.
          let y = there.goes env env1 g j rest memo answer n ds c blk tt (q.0, q.1) x ce be e in
          let s = block_shows t c blk be in
          let bound : bind env (arguments_of t c) ds ≡ Some env1 = ap (λ vs. bind env vs ds) s.arguments ∙ e in
          let edge : In c (successors_of t j) = subst (In c) (sym (op_shows t j x.operation x.liveness).successors) (in_slice x.operation.successors n c ce) in
          (tt, (y.1.0, y.1.1, subst (OfHead env1) s.operations (gone_claim env env1 g j rest memo answer n c ds q.0 q.2 (λ s. subst (In c) (ap (successors_of t) s ∙ none_next) edge) edge bound), at_rest env1 blk.operations), λ o i r z dj wt. (y.2 o i r z dj.0 wt.0, kept_place env env1 (arguments_of t c) ds bound o i r (λ hi v a b. deep_target env g j rest i c q.0 dj.1 hi edge v a b) (λ hi v a b. no_argument v c a b) wt.1, λ others ei. still_resting env env1 (arguments_of t c) ds bound (λ v a b. deep_target env g j rest k c q.0 (subst (λ y. IsInside t y j) (head_is i k r others ei) dj.1) here_it edge v a b) z (wt.2 others ei)));
      visits = λ env env1 g j rest memo answer n ds next r blk so q x re be e.
          let y = there.visits env env1 g j rest memo answer n ds next r blk tt (q.0, q.1) x re be e in
          let a0 = entry_shows t r blk be in
          let s = block_shows t a0.key blk a0.liveness in
          let bound : bind env (arguments_of t a0.key) ds ≡ Some env1 = ap (λ vs. bind env vs ds) s.arguments ∙ e in
          let held_r : region_parent_of t r ≡ Some j = ap op_of_slot (w.joined.regions j n r (ap (λ l. slice_get l n) (op_shows t j x.operation x.liveness).regions ∙ re)) in
          (tt, (y.1.0, y.1.1, subst (OfHead env1) s.operations (entered_claim env1 r blk a0), at_rest env1 blk.operations), (y.2, kept_place env env1 (arguments_of t a0.key) ds bound g j rest (λ hi v a b. deep_entry j j r blk a0 held_r (inl refl) hi v a b) (λ hi v a b. no_argument v a0.key a b) q.2, λ others ej. visited env env1 j memo answer n ds next x (head_is j k rest others ej) (q.3 others ej) (arguments_of t a0.key) bound (λ v a b. deep_entry k j r blk a0 held_r (inl (head_is j k rest others ej)) here_it v a b)), λ o i rs z dj wt. (y.3 o i rs z dj.0 wt.0, kept_place env env1 (arguments_of t a0.key) ds bound o i rs (λ hi v a b. deep_entry i j r blk a0 held_r (inr dj.1) hi v a b) (λ hi v a b. no_argument v a0.key a b) wt.1, λ others ei. still_resting env env1 (arguments_of t a0.key) ds bound (λ v a b. deep_entry k j r blk a0 held_r (inr (subst (λ y. IsInside t y j) (head_is i k rs others ei) dj.1)) here_it v a b) z (wt.2 others ei)));
      accurate = λ env g j rest memo answer reported next d' so q x. (q.0, has_some g (d' ∷ []), q.2, λ others ej. inr (told_on env j memo answer reported next d' x (head_is j k rest others ej) (q.3 others ej)));
      resumes = λ env g rest memo ds q. (q.0, has_some g ds, q.1, λ others ej. inr (resumed env memo ds (q.2 others ej)));
    }
      where
        visited : (env env1 : Environment) (j : ℕ) (memo : Datum) (answer : Option (List Datum)) (n : ℕ) (ds : List Datum) (next : Datum) (x : Makes m t env j memo answer (Visit n ds next)) → j ≡ k → ((memo ≡ Empty) × (answer ≡ None)) ⊎ Begun env memo answer → (vs : List ℕ) → bind env vs ds ≡ Some env1 → ((v : ℕ) → In v (operands_of t k) → In v vs → ⊥) → Resting env1 next
        visited env env1 j memo answer n ds next x s mind vs e free =
            let c = came env j memo answer (Visit n ds next) s mind x in
            let oe = ap (op_at t) (sym s) ∙ x.liveness in
            still_resting env env1 vs ds e free next (record { operation = x.operation; liveness = oe; first = c.first; has = c.has; comes = λ input. Answered n ds next input c.comes x.acts })

        told_on : (env : Environment) (j : ℕ) (memo : Datum) (answer : Option (List Datum)) (reported next d' : Datum) (x : Makes m t env j memo answer (Emit reported next)) → j ≡ k → ((memo ≡ Empty) × (answer ≡ None)) ⊎ Begun env memo answer → Begun env next (Some (d' ∷ []))
        told_on env j memo answer reported next d' x s mind =
            let c = came env j memo answer (Emit reported next) s mind x in
            record { operation = x.operation; liveness = ap (op_at t) (sym s) ∙ x.liveness; first = c.first; has = c.has; input = d' ∷ []; answered = refl; comes = AnsweredByWorld reported next d' c.comes x.acts }

        resumed : (env : Environment) (memo : Datum) (ds : List Datum) → Resting env memo → Begun env memo (Some ds)
        resumed env memo ds b = record { operation = b.operation; liveness = b.liveness; first = b.first; has = b.has; input = ds; answered = refl; comes = b.comes ds }

        -- what is defined inside an operation of its region is no operand
        deep_result : (i j : ℕ) → IsInside t i j → Here i → (v : ℕ) → In v (operands_of t k) → In v (results_of t j) → ⊥
        deep_result i j di hi v a b =
            let y = inside_up di in
            let s : y.0 ≡ (home_held v a).0 = some_is (sym y.1 ∙ by_result v a j b) in
            not_maker_below v a i hi (subst (IsWithin t i) s y.2)

        deep_target : (env : Environment) (g j : ℕ) (rest : List ℕ) (i c : ℕ) → IsPlaced t root env g (j ∷ rest) → IsInside t i j → Here i → In c (successors_of t j) → (v : ℕ) → In v (operands_of t k) → In v (arguments_of t c) → ⊥
        deep_target env g j rest i c q di hi ce v a b =
            let ends = f.linked.edges j c ce (inl (placed_inside t w root env g j rest q)) in
            let above : parent_operation_of t j ≡ Some (home_held v a).0 = ap (λ o. up_from o (λ z. block_parent_operation_of t z)) ends.in_block ∙ ap (λ o. up_from o (λ r. region_parent_of t r)) (sym (ends.own_region c ce)) ∙ by_argument v a c b in
            let y = inside_up di in
            let s : y.0 ≡ (home_held v a).0 = some_is (sym y.1 ∙ above) in
            not_maker_below v a i hi (subst (IsWithin t i) s y.2)

        deep_entry : (i j r : ℕ) (blk : Block) (y : ShowsEntry t r blk) → region_parent_of t r ≡ Some j → IsWithin t i j → Here i → (v : ℕ) → In v (operands_of t k) → In v (arguments_of t y.key) → ⊥
        deep_entry i j r blk y held_r within hi v a b =
            let s : j ≡ (home_held v a).0 = some_is (sym (ap (λ o. up_from o (λ z. region_parent_of t z)) (w.layouts.owned y.key r (in_first (layout_of t r) y.entry)) ∙ held_r) ∙ by_argument v a y.key b) in
            not_maker_below v a i hi (subst (IsWithin t i) s within)
          where
            in_first : (xs : List ℕ) → first_of xs None ≡ Some y.key → In y.key xs
            in_first [] e = absurd (not_none e)
            in_first (z ∷ xs) e = inl (sym (some_is e))

    begins : (inputs world : List Datum) → Holding m t facts rules root (start root inputs world)
    begins inputs world = record { holder = None; always = tt; place = (refl, has_some None inputs, tt, λ others e. absurd (not_itself w.joined.rooted (subst (IsInside t root) (sym (head_is root k [] others e)) inside))); below = tt }

    holds : (s : State) → RunReaches m t root s → Holding m t facts rules root s
    holds s r = reached_holds m t root (Holding m t facts rules root) (holding_kept m t facts rules root) begins s r

    -- an operation around the one that moves heads a place of the stack, or the root is within it
    find : (env : Environment) (j around : ℕ) → IsWithin t around j → (rest : List ℕ) (o : Option ℕ) (ws : List Waiting) → IsAt t root env o (j ∷ rest) → OfPlace env o (j ∷ rest) → Below m t facts rules root env o ws → ((g : ℕ) × (others : List ℕ) × IsPlaced t root env g (around ∷ others) × Claim env around) ⊎ IsWithin t around root
    find env j around y rest None ws q claim below = let e : j ≡ root = cc in inr (subst (IsWithin t around) e y)
    find env j around (inl e) rest (Some g) ws q claim below = inl (g, rest, subst (λ z. IsPlaced t root env g (z ∷ rest)) e q, subst (Claim env) e claim)
    find env j around (inr y) rest (Some g) [] q claim below = absurd below
    find env j around (inr y) rest (Some g) (x ∷ ws) q claim below =
        let u = inside_up y in
        let s : u.0 ≡ g = some_is (sym u.1 ∙ placed_holder t w root env g j rest q) in
        find env g around (subst (IsWithin t around) s u.2) below.0 below.1 ws (subst (IsAt t root env below.1) below.2 below.3.0) (subst (OfPlace env below.1) below.2 below.3.1) below.4

    current_at : (u : ℕ) (rest : List ℕ) (s : State) → DominatesOperation t k u → RunReaches m t root s → s.rest ≡ u ∷ rest → s.answer ≡ None → IsAsGiven m t s.environment k
    current_at u rest s b r e none = ⊎_elim
        (λ y. found y.0 y.1 y.2 y.3)
        (λ y. absurd (not_root y))
        (find s.environment u b.around b.holds rest g.holder s.waiting (subst (IsAt t root s.environment g.holder) e g.place.0) (subst (OfPlace s.environment g.holder) e g.place.2) g.below)
      where
        g : Holding m t facts rules root s
        g = holds s r

        in_here : b.region ≡ here
        in_here = some_is (sym b.home_region ∙ ap (block_parent_of t) (some_is (sym b.in_home ∙ liveness.1)) ∙ held.2)

        around_here : Here b.around
        around_here = (b.block, b.in_block, b.in_region ∙ ap Some in_here)

        not_root : IsWithin t b.around root → ⊥
        not_root y =
            let below : IsInside t top root = within_inside (inside_by top (held_here b.around around_here) (inl refl)) y in
            ⊎_elim (λ z. not_itself w.joined.rooted (subst (IsInside t top) (sym z) below)) (λ z. not_itself w.joined.rooted (deeper z below)) up.2

        found : (z : ℕ) (others : List ℕ) → IsPlaced t root s.environment z (b.around ∷ others) → Claim s.environment b.around → IsAsGiven m t s.environment k
        found z others q claim =
            let block : q.block ≡ b.block = some_is (sym (placed_parent t w root s.environment z b.around others q) ∙ b.in_block) in
            let body : body_of t b.block ≡ q.done ++ b.around ∷ others = ap (body_of t) (sym block) ∙ q.split in
            let y = claim b.block q.done others b.in_block (b.in_region ∙ ap Some in_here) body in
            ⊎_elim (λ x. x) (λ x. absurd (x.missed (b.passes entry x.before q.done others (ap (λ z. first_of (layout_of t z) None) in_here ∙ fe) x.path body))) y.2

  some_entry : (x : ℕ) × (first_of (layout_of t here) None ≡ Some x)
  some_entry = first (layout_of t here) (w.layouts.listed home here held.2)
    where
      first : (xs : List ℕ) → In home xs → (x : ℕ) × (first_of xs None ≡ Some x)
      first [] e = absurd e
      first (x ∷ xs) e = (x, refl)

  pub current_here : (u : ℕ) (rest : List ℕ) (s : State) → DominatesOperation t k u → RunReaches m t root s → s.rest ≡ u ∷ rest → s.answer ≡ None → IsAsGiven m t s.environment k
  current_here u rest s b r e none = current_at some_entry.0 some_entry.1 u rest s b r e none

pub results_given : GivenLaw
results_given m t root k w f inside none u rest s b r e quiet = current_here m t w root f k inside none u rest s b r e quiet
