-- Wherever an argument of a block is read, it has the datum of the value that is forwarded to it.
use Rattle.std.proofs.Common.{◌≡◌, ◌≢◌, ◌⊎◌, inl, inr, ⊎_elim, ℕ, List, [], ◌∷◌, ◌++◌, Option, Some, None, IsSome, slice_get, refl, sym, ap, ◌∙◌, subst, arith}
use Rattle.std.proofs.lemmas.Bool.{cases_eq}
use Rattle.pliron_core.specs.declared.context.Def.TheVariants.{Result, Argument}
use Rattle.pliron_core.specs.Changes.{IsDefiningOperationInside}
use Rattle.pliron_core.specs.Tree.{Tree, In, first_of, IsInside, IsWithin, operands_of, successors_of, results_of, parent_of, body_of, arguments_of, block_parent_of, layout_of, region_parent_of, block_parent_operation_of, parent_operation_of, definition_of, up_from, op_of_slot}
use Rattle.pliron_core.specs.Edges.{succs_from}
use Rattle.pliron_core.specs.Invariant.{IsTree}
use Rattle.pliron_core.proofs.ListLemmas.{In-right, decide_in}
use Rattle.pliron_core.proofs.HoldingLemmas.{some_is, not_none, in_slice, slice_in, holder_by, inside_up, inside_by, deeper, within_inside, not_itself}
use Rattle.pliron_laws.specs.Datum.{Datum, Empty, Meaning, Move, Visit, Goto, Emit}
use Rattle.pliron_laws.specs.Tree.{Operation, Block, op_at, shape_of}
use Rattle.pliron_laws.specs.States.{Environment, Waiting, State, bind, data_of, input_of}
use Rattle.pliron_laws.specs.Machine.{start}
use Rattle.pliron_laws.specs.Paths.{Path, Leads}
use Rattle.pliron_laws.specs.Root.{defining_block, HasPassed, IsDominated}
use Rattle.pliron_laws.specs.Linked.{EndsBlock}
use Rattle.pliron_theory.specs.Keeps.{IsFit}
use Rattle.pliron_theory.specs.Renaming.{RunReaches}
use Rattle.pliron_theory.specs.Splicing.{JumpsNow}
use Rattle.pliron_theory.proofs.Frames.{LatticeValues, Makes, Rules, Below, Holding, holding_kept}
use Rattle.pliron_laws.proofs.Records.{op_shows, block_shows, entry_shows, ShowsEntry}
use Rattle.pliron_theory.proofs.Alike.{data_long}
use Rattle.pliron_theory.proofs.Bound.{IsPlaced, IsAt, HasAnswer, has_some, places, place_rules, placed_parent, placed_holder, placed_inside}
use Rattle.pliron_theory.proofs.Reached.{reached_holds}
use Rattle.pliron_theory.proofs.Reading.{ready_when_reached}
use Rattle.pliron_rewrite_blocks.specs.Forwarding.{LeadsAlone}
use Rattle.pliron_rewrite_blocks.proofs.Ways.{Misses, misses}
use Rattle.pliron_laws.proofs.BindingLemmas.{bind_other, bind_at, bind_has_datum}
use Rattle.pliron_rewrite_blocks.proofs.ForwardedUses.{jump_in, region, outer, jump_holder, held, b_region, leads_only, home_held}

-- the jump hands the value on as argument i
abbrev pub HandsOn : Meaning → Tree → (jump i v : ℕ) → Type 0
HandsOn m t jump i v = (o : Operation) (env : Environment) (first ds : List Datum) → op_at t jump ≡ Some o → data_of env o.operands ≡ Some first → m.act (shape_of m t o) Empty first ≡ Goto 0 ds → slice_get ds i ≡ env v

some_datum : (o : Option Datum) (ds : List Datum) (i : ℕ) → slice_get ds i ≡ o → IsSome o → (d : Datum) × (o ≡ Some d)
some_datum None ds i e s = grind arith
some_datum (Some d) ds i e s = (d, refl)

go_index : (n k : ℕ) (ds es : List Datum) → Goto n ds ≡ Goto k es → (n ≡ k) × (ds ≡ es)
go_index n k ds es e = (cc, cc)

module _ (m : Meaning) (t : Tree) (w : IsTree t) (a b jump : ℕ) (front : List ℕ) (h : LeadsAlone t a b jump front) (i p v : ℕ) (at : slice_get (arguments_of t b) i ≡ Some p) (used : In v (operands_of t jump)) (out : In v (arguments_of t b) → ⊥) (root : ℕ) (f : IsFit m t root) (inside : IsInside t root jump) (now : JumpsNow m t jump b) (hands : HandsOn m t jump i v) (entry : ℕ) (fe : first_of (layout_of t (region t w a b jump front h)) None ≡ Some entry) where
  abbrev here : ℕ
  here = region t w a b jump front h

  abbrev top : ℕ
  top = outer t w a b jump front h

  inner : entry ≢ b
  inner e = h.no_entry here (fe ∙ ap Some e)

  only_a : (c : ℕ) → Leads t c b → c ≡ a
  only_a c l = leads_only t w a b jump front h c l

  made : definition_of t p ≡ Some (Argument b i)
  made = w.joined.arguments b i p at

  -- the argument is made nowhere else
  not_result : (k : ℕ) → In p (results_of t k) → ⊥
  not_result k x = let j = slice_in (results_of t k) p x in let e : Some (Result k j.0) ≡ Some (Argument b i) = sym (w.joined.results k j.0 p j.1) ∙ made in absurd (cc)

  of_b : (c : ℕ) → In p (arguments_of t c) → c ≡ b
  of_b c x = let j = slice_in (arguments_of t c) p x in let e : Argument c j.0 ≡ Argument b i = some_is (sym (w.joined.arguments c j.0 p j.1) ∙ made) in cc

  once : (j : ℕ) → slice_get (arguments_of t b) j ≡ Some p → j ≡ i
  once j x = let e : Argument b j ≡ Argument b i = some_is (sym (w.joined.arguments b j p x) ∙ made) in cc

  -- how the value dominates the jump
  v_made : IsDefiningOperationInside t root (definition_of t v)
  v_made = f.defined.own_values jump v inside used

  d : IsDominated t jump v
  d = f.defined.dominated jump v used v_made

  home : (x : ℕ) × (region_parent_of t d.region ≡ Some x) × (block_parent_operation_of t d.block ≡ Some x) × (parent_operation_of t d.around ≡ Some x)
  home = home_held t w a b jump front h m i p v at used jump v d

  -- the parent operation of the region that makes the value stands around the blocks, or is their holder
  holder_above : (home.0 ≡ top) ⊎ IsInside t home.0 top
  holder_above = ⊎_elim
      (λ s. inl (some_is (sym home.3 ∙ ap (parent_operation_of t) (sym s) ∙ jump_holder t w a b jump front h)))
      (λ y.
      let u = inside_up y in
      let s : u.0 ≡ top = some_is (sym u.1 ∙ jump_holder t w a b jump front h) in
      inr (within_inside (inside_by home.0 home.3 (inl refl)) (subst (IsWithin t d.around) s u.2)))
      d.holds

  -- what stands in the blocks' region
  abbrev Here : ℕ → Type 0
  Here k = (c : ℕ) × (parent_of t k ≡ Some c) × (block_parent_of t c ≡ Some here)

  held_here : (k : ℕ) → Here k → parent_operation_of t k ≡ Some top
  held_here k x = holder_by t k x.0 top x.1 (ap (λ o. up_from o (λ r. region_parent_of t r)) x.2 ∙ (held t w a b jump front h).4)

  -- does not stand around what makes the value, nor around the blocks
  not_home : (k : ℕ) → Here k → IsWithin t k home.0 → ⊥
  not_home k x y =
      let below : IsInside t top home.0 = within_inside (inside_by top (held_here k x) (inl refl)) y in
      ⊎_elim (λ e. not_itself w.joined.rooted (subst (IsInside t top) e below)) (λ z. not_itself w.joined.rooted (deeper z below)) holder_above

  not_around : (k : ℕ) → Here k → IsWithin t k top → ⊥
  not_around k x y = not_itself w.joined.rooted (within_inside (inside_by top (held_here k x) (inl refl)) y)

  -- where the value is made
  by_result : (k : ℕ) → In v (results_of t k) → parent_operation_of t k ≡ Some home.0
  by_result k x =
      let j = slice_in (results_of t k) v x in
      let e : up_from (parent_of t k) (λ c. block_parent_of t c) ≡ Some d.region = ap (λ z. up_from (defining_block t z) (λ c. block_parent_of t c)) (sym (w.joined.results k j.0 v j.1)) ∙ d.defined in
      go (parent_of t k) e
    where
      go : (o : Option ℕ) → up_from o (λ c. block_parent_of t c) ≡ Some d.region → up_from o (λ c. block_parent_operation_of t c) ≡ Some home.0
      go None e = absurd (not_none e)
      go (Some c) e = ap (λ o. up_from o (λ r. region_parent_of t r)) e ∙ home.1

  by_argument : (c : ℕ) → In v (arguments_of t c) → block_parent_operation_of t c ≡ Some home.0
  by_argument c x =
      let j = slice_in (arguments_of t c) v x in
      let e : block_parent_of t c ≡ Some d.region = ap (λ z. up_from (defining_block t z) (λ c. block_parent_of t c)) (sym (w.joined.arguments c j.0 v j.1)) ∙ d.defined in
      ap (λ o. up_from o (λ r. region_parent_of t r)) e ∙ home.1

  -- where the blocks' region makes it, each path to the end of a passes what makes it
  same_home : d.region ≡ here → jump ≡ d.around
  same_home e = ⊎_elim
      (λ s. s)
      (λ y.
      let u = inside_up y in
      let s : u.0 ≡ top = some_is (sym u.1 ∙ jump_holder t w a b jump front h) in
      let same : home.0 ≡ top = some_is (sym home.1 ∙ ap (region_parent_of t) e ∙ (held t w a b jump front h).4) in
      absurd (not_itself w.joined.rooted (within_inside (inside_by top (home.3 ∙ ap Some same) (inl refl)) (subst (IsWithin t d.around) s u.2))))
      d.holds

  passed : d.region ≡ here → (before : List ℕ) → Path t entry a before → HasPassed t (definition_of t v) before a front
  passed e before path =
      let s = same_home e in
      let block : d.block ≡ a = some_is (sym d.in_block ∙ ap (parent_of t) (sym s) ∙ jump_in t w a b jump front h) in
      subst (λ z. HasPassed t (definition_of t v) before z front) block (d.passes entry before front [] (ap (λ z. first_of (layout_of t z) None) e ∙ fe) (subst (λ z. Path t entry z before) (sym block) path) (ap (body_of t) block ∙ h.split ∙ ap (λ z. front ++ z ∷ []) s))

  result_misses : (k c : ℕ) → parent_of t k ≡ Some c → block_parent_of t c ≡ Some here → In v (results_of t k) → (before : List ℕ) → Path t entry c before → Misses t entry c b
  result_misses k c pk rc x before path = misses t entry a b only_a inner c dominates before path
    where
      made_by : definition_of t v ≡ Some (Result k (slice_in (results_of t k) v x).0)
      made_by = w.joined.results k (slice_in (results_of t k) v x).0 v (slice_in (results_of t k) v x).1

      in_region : d.region ≡ here
      in_region = some_is (sym d.defined ∙ ap (λ z. up_from (defining_block t z) (λ c. block_parent_of t c)) made_by ∙ ap (λ o. up_from o (λ c. block_parent_of t c)) pk ∙ rc)

      front_in : In k front → c ≡ a
      front_in y = some_is (sym pk ∙ w.bodies.owned k a (subst (In k) (sym h.split) (left front y)))
        where
          left : (xs : List ℕ) → In k xs → In k (xs ++ jump ∷ [])
          left [] z = absurd z
          left (y ∷ xs) (inl z) = inl z
          left (y ∷ xs) (inr z) = inr (left xs z)

      dominates : (before : List ℕ) → Path t entry a before → In c (a ∷ before)
      dominates before path = ⊎_elim
          (λ y. inl (front_in y))
          (λ y. inr (subst (λ z. In z before) (some_is (sym y.1 ∙ pk)) y.2))
          (subst (λ z. HasPassed t z before a front) made_by (passed in_region before path))

  argument_misses : (c : ℕ) → block_parent_of t c ≡ Some here → In v (arguments_of t c) → (before : List ℕ) → Path t entry c before → Misses t entry c b
  argument_misses c rc x before path = misses t entry a b only_a inner c dominates before path
    where
      made_by : definition_of t v ≡ Some (Argument c (slice_in (arguments_of t c) v x).0)
      made_by = w.joined.arguments c (slice_in (arguments_of t c) v x).0 v (slice_in (arguments_of t c) v x).1

      in_region : d.region ≡ here
      in_region = some_is (sym d.defined ∙ ap (λ z. up_from (defining_block t z) (λ c. block_parent_of t c)) made_by ∙ rc)

      dominates : (before : List ℕ) → Path t entry a before → In c (a ∷ before)
      dominates before path = subst (λ z. HasPassed t z before a front) made_by (passed in_region before path)

  -- what holds at a place of the blocks' region: a path leads there, and the argument has the value's
  -- datum, or some path to there misses b
  abbrev pub Claim : Environment → ℕ → Type 0
  Claim env k = (c : ℕ) → parent_of t k ≡ Some c → block_parent_of t c ≡ Some here → (before : List ℕ) × Path t entry c before × ((env p ≡ env v) ⊎ Misses t entry c b)

  abbrev pub OfHead : Environment → List ℕ → Type 0
  OfHead env [] = Unit {0}
  OfHead env (k ∷ rest) = Claim env k

  abbrev pub OfPlace : Environment → Option ℕ → List ℕ → Type 0
  OfPlace env None rest = Unit {0}
  OfPlace env (Some g) rest = OfHead env rest

  -- the jump has not moved yet
  abbrev pub Unmoved : List ℕ → Datum → Option (List Datum) → Type 0
  Unmoved rest memo answer = (others : List ℕ) → rest ≡ jump ∷ others → (memo ≡ Empty) × (answer ≡ None)

  abbrev pub facts : LatticeValues
  facts = record {
    Always = λ env. Unit {0};
    Moves = λ env g rest memo answer. IsAt t root env g rest × HasAnswer g answer × OfPlace env g rest × Unmoved rest memo answer;
    Waits = λ env g rest memo. IsAt t root env g rest × OfPlace env g rest × ((others : List ℕ) → rest ≡ jump ∷ others → ⊥);
  }

  there : Rules m t (places t root)
  there = place_rules t w root m f.linked.edges f.defined

  at_rest : (rest : List ℕ) → Unmoved rest Empty None
  at_rest rest others e = (refl, refl)

  -- the jump only jumps
  moves_on : (env : Environment) (k : ℕ) (memo : Datum) (answer : Option (List Datum)) (move : Move) → k ≡ jump → (memo ≡ Empty) × (answer ≡ None) → (x : Makes m t env k memo answer move) → (values : List Datum) × (move ≡ Goto 0 values) × (data_of env x.operation.operands ≡ Some x.input) × (m.act (shape_of m t x.operation) Empty x.input ≡ Goto 0 values)
  moves_on env k memo answer move s u x =
      let reads : data_of env x.operation.operands ≡ Some x.input = ap (input_of env x.operation.operands) (sym u.1) ∙ x.reads in
      let n = now x.operation (ap (op_at t) (sym s) ∙ x.liveness) x.input (data_long env x.operation.operands x.input reads) in
      (n.0, sym x.acts ∙ ap (λ z. m.act (shape_of m t x.operation) z x.input) u.0 ∙ n.1, reads, n.1)

  -- binding other values changes nothing
  same_both : (env env1 : Environment) (vs : List ℕ) (ds : List Datum) → bind env vs ds ≡ Some env1 → (In p vs → ⊥) → (In v vs → ⊥) → env p ≡ env v → env1 p ≡ env1 v
  same_both env env1 vs ds e np nv s = bind_other vs ds env env1 e p np ∙ s ∙ sym (bind_other vs ds env env1 e v nv)

  kept_claim : (env env1 : Environment) (vs : List ℕ) (ds : List Datum) → bind env vs ds ≡ Some env1 → (k : ℕ) → (Here k → In p vs → ⊥) → (Here k → In v vs → ⊥) → Claim env k → Claim env1 k
  kept_claim env env1 vs ds e k np nv q c pk rc =
      let x = q c pk rc in
      (x.0, x.1, ⊎_elim (λ s. inl (same_both env env1 vs ds e (np (c, pk, rc)) (nv (c, pk, rc)) s)) (λ z. inr z) x.2)

  kept_place : (env env1 : Environment) (vs : List ℕ) (ds : List Datum) → bind env vs ds ≡ Some env1 → (g : Option ℕ) (j : ℕ) (rest : List ℕ) → (Here j → In p vs → ⊥) → (Here j → In v vs → ⊥) → OfPlace env g (j ∷ rest) → OfPlace env1 g (j ∷ rest)
  kept_place env env1 vs ds e None j rest np nv q = tt
  kept_place env env1 vs ds e (Some g) j rest np nv q = kept_claim env env1 vs ds e j np nv q

  -- the next operation of a block
  next_claim : (env env1 : Environment) (g k : ℕ) (rest : List ℕ) (ds : List Datum) → bind env (results_of t k) ds ≡ Some env1 → IsPlaced t root env g (k ∷ rest) → Claim env k → OfHead env1 rest
  next_claim env env1 g k [] ds e q claim = tt
  next_claim env env1 g k (next ∷ rest) ds e q claim = λ c pn rc.
      let pk : parent_of t k ≡ Some q.block = placed_parent t w root env g k (next ∷ rest) q in
      let pn' : parent_of t next ≡ Some q.block = w.bodies.owned next q.block (subst (In next) (sym q.split) (In-right next q.done (k ∷ next ∷ rest) (inr (inl refl)))) in
      let same : q.block ≡ c = some_is (sym pn' ∙ pn) in
      let pc : parent_of t k ≡ Some c = pk ∙ ap Some same in
      let x = claim c pc rc in (
        x.0,
        x.1,
        ⊎_elim
            (λ s. ⊎_elim (λ y. inr (result_misses k c pc rc y x.0 x.1)) (λ n. inl (same_both env env1 (results_of t k) ds e (not_result k) n s)) (decide_in v (results_of t k)))
            (λ z. inr z)
            x.2,
      )

  -- a block that is entered by a visit
  entered_claim : (env1 : Environment) (r : ℕ) (x : Block) (y : ShowsEntry t r x) → OfHead env1 (body_of t y.key)
  entered_claim env1 r x y = go (body_of t y.key) refl
    where
      in_first : (xs : List ℕ) → first_of xs None ≡ Some y.key → In y.key xs
      in_first [] e = absurd (not_none e)
      in_first (z ∷ xs) e = inl (sym (some_is e))

      go : (xs : List ℕ) → body_of t y.key ≡ xs → OfHead env1 xs
      go [] e = tt
      go (k ∷ rest) e = λ c pk rc.
          let same : y.key ≡ c = some_is (sym (w.bodies.owned k y.key (subst (In k) (sym e) (inl refl))) ∙ pk) in
          let home_r : r ≡ here = some_is (sym (w.layouts.owned y.key r (in_first (layout_of t r) y.entry)) ∙ ap (block_parent_of t) same ∙ rc) in
          let first : entry ≡ c = some_is (sym fe ∙ ap (λ z. first_of (layout_of t z) None) (sym home_r) ∙ y.entry) ∙ same in
          ([], first, inr (record { before = []; path = first; missed = ⊎_elim (λ s. inner (first ∙ sym s)) (λ z. z) }))

  -- a block that is entered by a jump
  gone_claim : (env env1 : Environment) (g k : ℕ) (rest : List ℕ) (memo : Datum) (answer : Option (List Datum)) (n c : ℕ) (ds : List Datum) → IsPlaced t root env g (k ∷ rest) → Claim env k → Unmoved (k ∷ rest) memo answer → Makes m t env k memo answer (Goto n ds) → In c (successors_of t k) → bind env (arguments_of t c) ds ≡ Some env1 → OfHead env1 (body_of t c)
  gone_claim env env1 g k rest memo answer n c ds q claim unmoved x ce be = go (body_of t c) refl
    where
      ends : EndsBlock t k
      ends = f.linked.edges k c ce (inl (placed_inside t w root env g k rest q))

      pk : parent_of t k ≡ Some ends.block
      pk = ends.in_block

      leads : Leads t ends.block c
      leads = record { successor = subst (λ o. In c (succs_from t o)) (sym ends.last) ce; same_region = ends.own_region c ce }

      handed : c ≡ b → env1 p ≡ env1 v
      handed s =
          let kj : k ≡ jump = h.only k (subst (λ z. In z (successors_of t k)) s ce) in
          let mo = moves_on env k memo answer (Goto n ds) kj (unmoved rest (ap (λ z. z ∷ rest) kj)) x in
          let ix = go_index n 0 ds mo.0 mo.1 in
          let passes : slice_get ds i ≡ env v = ap (λ z. slice_get z i) ix.1 ∙ hands x.operation env x.input mo.0 (ap (op_at t) (sym kj) ∙ x.liveness) mo.2 mo.3 in
          let bb : bind env (arguments_of t b) ds ≡ Some env1 = ap (λ z. bind env (arguments_of t z) ds) (sym s) ∙ be in
          let stays : env1 v ≡ env v = bind_other (arguments_of t b) ds env env1 bb v out in
          let datum = bind_has_datum (arguments_of t b) ds env env1 bb i p at in
          bind_at (arguments_of t b) ds env env1 bb i p datum.0 at once datum.1 ∙ sym datum.1 ∙ passes ∙ sym stays

      go : (xs : List ℕ) → body_of t c ≡ xs → OfHead env1 xs
      go [] e = tt
      go (first ∷ others) e = λ c' pf rc'.
          let same : c ≡ c' = some_is (sym (w.bodies.owned first c (subst (In first) (sym e) (inl refl))) ∙ pf) in
          let rc : block_parent_of t c ≡ Some here = ap (block_parent_of t) same ∙ rc' in
          let rk : block_parent_of t ends.block ≡ Some here = sym (ends.own_region c ce) ∙ rc in
          let y = claim ends.block pk rk in
          let path : Path t entry c (ends.block ∷ y.0) = (leads, y.1) in
          subst (λ z. (before : List ℕ) × Path t entry z before × ((env1 p ≡ env1 v) ⊎ Misses t entry z b)) same (
            ends.block ∷ y.0,
            path,
            ⊎_elim
                (λ s. inl (handed s))
                (λ ne. ⊎_elim
                (λ i'. inr (argument_misses c rc i' (ends.block ∷ y.0) path))
                (λ no. ⊎_elim
                (λ s. inl (same_both env env1 (arguments_of t c) ds be (λ z. ne (of_b c z)) no s))
                (λ z. inr (record { before = ends.block ∷ z.before; path = (leads, z.path); missed = ⊎_elim (λ s. ne (sym s)) z.missed }))
                y.2)
                (decide_in v (arguments_of t c)))
                (cases_eq c b),
          )

  -- the rules of the moves
  not_jump : (env : Environment) (k : ℕ) (memo : Datum) (answer : Option (List Datum)) (move : Move) (rest : List ℕ) → Unmoved (k ∷ rest) memo answer → Makes m t env k memo answer move → ((values : List Datum) → move ≡ Goto 0 values → ⊥) → k ≢ jump
  not_jump env k memo answer move rest u x other e =
      let mo = moves_on env k memo answer move e (u rest (ap (λ z. z ∷ rest) e)) x in
      other mo.0 mo.1

  head_is : (k j : ℕ) (rest others : List ℕ) → k ∷ rest ≡ j ∷ others → k ≡ j
  head_is k j rest others e = cc

  rules : Rules m t facts
  rules = record {
    Deeper = λ x y. there.Deeper x y × IsInside t x y;
    deeper_trans = λ x y z q r. (there.deeper_trans x y z q.0 r.0, deeper q.1 r.1);
    moves_deep = λ env g k rest memo answer q. (there.moves_deep env g k rest memo answer (q.0, q.1), inside_by g (placed_holder t w root env g k rest q.0) (inl refl));
    waits_deep = λ env g k rest memo q. (there.waits_deep env g k rest memo q.0, inside_by g (placed_holder t w root env g k rest q.0) (inl refl));
    gives = λ env env1 g k rest memo answer ds so q x e.
        let y = there.gives env env1 g k rest memo answer ds tt (q.0, q.1) x e in
        let be : bind env (results_of t k) ds ≡ Some env1 = ap (λ vs. bind env vs ds) (op_shows t k x.operation x.liveness).results ∙ e in
        (tt, (y.1.0, y.1.1, next_claim env env1 g k rest ds be q.0 q.2, at_rest rest), λ o j r z dj wt. (y.2 o j r z dj.0 wt.0, kept_place env env1 (results_of t k) ds be o j r (λ hj i'. not_result k i') (λ hj i'. deep_result j k dj.1 hj i') wt.1, wt.2));
    goes = λ env env1 g k rest memo answer n ds c blk so q x ce be e.
        let y = there.goes env env1 g k rest memo answer n ds c blk tt (q.0, q.1) x ce be e in
        let s = block_shows t c blk be in
        let bound : bind env (arguments_of t c) ds ≡ Some env1 = ap (λ vs. bind env vs ds) s.arguments ∙ e in
        let edge : In c (successors_of t k) = subst (In c) (sym (op_shows t k x.operation x.liveness).successors) (in_slice x.operation.successors n c ce) in
        (tt, (y.1.0, y.1.1, subst (OfHead env1) s.operations (gone_claim env env1 g k rest memo answer n c ds q.0 q.2 q.3 x edge bound), at_rest blk.operations), λ o j r z dj wt. (y.2 o j r z dj.0 wt.0, kept_place env env1 (arguments_of t c) ds bound o j r (λ hj i'. deep_edge j k c dj.1 hj edge i') (λ hj i'. deep_target env g k rest j c q.0 dj.1 hj edge i') wt.1, wt.2));
    visits = λ env env1 g k rest memo answer n ds next r blk so q x re be e.
        let y = there.visits env env1 g k rest memo answer n ds next r blk tt (q.0, q.1) x re be e in
        let a0 = entry_shows t r blk be in
        let s = block_shows t a0.key blk a0.liveness in
        let bound : bind env (arguments_of t a0.key) ds ≡ Some env1 = ap (λ vs. bind env vs ds) s.arguments ∙ e in
        let held_r : region_parent_of t r ≡ Some k = ap op_of_slot (w.joined.regions k n r (ap (λ l. slice_get l n) (op_shows t k x.operation x.liveness).regions ∙ re)) in
        (tt, (y.1.0, y.1.1, subst (OfHead env1) s.operations (entered_claim env1 r blk a0), at_rest blk.operations), (y.2, kept_place env env1 (arguments_of t a0.key) ds bound g k rest (λ hj i'. no_entry_p r blk a0 i') (λ hj i'. deep_entry k k r blk a0 held_r (inl refl) hj i') q.2, λ others ej. not_jump env k memo answer (Visit n ds next) rest q.3 x (λ values ev. absurd (visit_goes ev)) (head_is k jump rest others ej)), λ o j rs z dj wt. (y.3 o j rs z dj.0 wt.0, kept_place env env1 (arguments_of t a0.key) ds bound o j rs (λ hj i'. no_entry_p r blk a0 i') (λ hj i'. deep_entry j k r blk a0 held_r (inr dj.1) hj i') wt.1, wt.2));
    accurate = λ env g k rest memo answer reported next d' so q x. (q.0, has_some g (d' ∷ []), q.2, λ others ej. absurd (not_jump env k memo answer (Emit reported next) rest q.3 x (λ values ev. absurd (emit_goes ev)) (head_is k jump rest others ej)));
    resumes = λ env g rest memo ds q. (q.0, has_some g ds, q.1, λ others ej. absurd (q.2 others ej));
  }
    where
      visit_goes : {n : ℕ} {ds values : List Datum} {next : Datum} → Visit n ds next ≡ Goto 0 values → ⊥
      visit_goes e = cc

      emit_goes : {reported next : Datum} {values : List Datum} → Emit reported next ≡ Goto 0 values → ⊥
      emit_goes e = cc

      -- what is defined inside an operation of the blocks' region is neither value
      deep_result : (j k : ℕ) → IsInside t j k → Here j → In v (results_of t k) → ⊥
      deep_result j k dj hj i' =
          let u = inside_up dj in
          let s : u.0 ≡ home.0 = some_is (sym u.1 ∙ by_result k i') in
          not_home j hj (subst (IsWithin t j) s u.2)

      deep_edge : (j k c : ℕ) → IsInside t j k → Here j → In c (successors_of t k) → In p (arguments_of t c) → ⊥
      deep_edge j k c dj hj ce i' =
          let kj : k ≡ jump = h.only k (subst (λ z. In z (successors_of t k)) (of_b c i') ce) in
          let u = inside_up (subst (IsInside t j) kj dj) in
          let s : u.0 ≡ top = some_is (sym u.1 ∙ jump_holder t w a b jump front h) in
          not_around j hj (subst (IsWithin t j) s u.2)

      deep_target : (env : Environment) (g k : ℕ) (rest : List ℕ) (j c : ℕ) → IsPlaced t root env g (k ∷ rest) → IsInside t j k → Here j → In c (successors_of t k) → In v (arguments_of t c) → ⊥
      deep_target env g k rest j c q dj hj ce i' =
          let ends = f.linked.edges k c ce (inl (placed_inside t w root env g k rest q)) in
          let up : parent_operation_of t k ≡ Some home.0 = ap (λ o. up_from o (λ z. block_parent_operation_of t z)) ends.in_block ∙ ap (λ o. up_from o (λ r. region_parent_of t r)) (sym (ends.own_region c ce)) ∙ by_argument c i' in
          let u = inside_up dj in
          let s : u.0 ≡ home.0 = some_is (sym u.1 ∙ up) in
          not_home j hj (subst (IsWithin t j) s u.2)

      no_entry_p : (r : ℕ) (blk : Block) (y : ShowsEntry t r blk) → In p (arguments_of t y.key) → ⊥
      no_entry_p r blk y i' = h.no_entry r (y.entry ∙ ap Some (of_b y.key i'))

      deep_entry : (j k r : ℕ) (blk : Block) (y : ShowsEntry t r blk) → region_parent_of t r ≡ Some k → IsWithin t j k → Here j → In v (arguments_of t y.key) → ⊥
      deep_entry j k r blk y held_r within hj i' =
          let s : k ≡ home.0 = some_is (sym (ap (λ o. up_from o (λ z. region_parent_of t z)) (w.layouts.owned y.key r (in_first (layout_of t r) y.entry)) ∙ held_r) ∙ by_argument y.key i') in
          not_home j hj (subst (IsWithin t j) s within)
        where
          in_first : (xs : List ℕ) → first_of xs None ≡ Some y.key → In y.key xs
          in_first [] e = absurd (not_none e)
          in_first (z ∷ xs) e = inl (sym (some_is e))

  begins : (inputs world : List Datum) → Holding m t facts rules root (start root inputs world)
  begins inputs world = record { holder = None; always = tt; place = (refl, has_some None inputs, tt, λ others e. absurd (not_itself w.joined.rooted (subst (IsInside t root) (sym (head_is root jump [] others e)) inside))); below = tt }

  holds : (s : State) → RunReaches m t root s → Holding m t facts rules root s
  holds s r = reached_holds m t root (Holding m t facts rules root) (holding_kept m t facts rules root) begins s r

  -- an operation around the one that moves heads a place of the stack, or the root is within it
  find : (env : Environment) (k around : ℕ) → IsWithin t around k → (rest : List ℕ) (o : Option ℕ) (ws : List Waiting) → IsAt t root env o (k ∷ rest) → OfPlace env o (k ∷ rest) → Below m t facts rules root env o ws → ((g : ℕ) × (others : List ℕ) × IsPlaced t root env g (around ∷ others) × Claim env around) ⊎ IsWithin t around root
  find env k around y rest None ws q claim below = let e : k ≡ root = cc in inr (subst (IsWithin t around) e y)
  find env k around (inl e) rest (Some g) ws q claim below = inl (g, rest, subst (λ z. IsPlaced t root env g (z ∷ rest)) e q, subst (Claim env) e claim)
  find env k around (inr y) rest (Some g) [] q claim below = absurd below
  find env k around (inr y) rest (Some g) (x ∷ ws) q claim below =
      let u = inside_up y in
      let s : u.0 ≡ g = some_is (sym u.1 ∙ placed_holder t w root env g k rest q) in
      find env g around (subst (IsWithin t around) s u.2) below.0 below.1 ws (subst (IsAt t root env below.1) below.2 below.3.0) (subst (OfPlace env below.1) below.2 below.3.1) below.4

  -- wherever an operation reads the argument, the value has the same datum
  pub same_datum : (s : State) → RunReaches m t root s → (k : ℕ) (rest : List ℕ) → s.rest ≡ k ∷ rest → s.answer ≡ None → In p (operands_of t k) → s.environment p ≡ s.environment v
  same_datum s r k rest e none uses = ⊎_elim
      (λ y. found y.0 y.1 y.2 y.3)
      (λ y. absurd (not_root y))
      (find s.environment k dom.around dom.holds rest g.holder s.waiting (subst (IsAt t root s.environment g.holder) e g.place.0) (subst (OfPlace s.environment g.holder) e g.place.2) g.below)
    where
      g : Holding m t facts rules root s
      g = holds s r

      user_inside : IsInside t root k
      user_inside = (ready_when_reached m t root w f s r k rest e none).inside

      dom : IsDominated t k p
      dom = f.defined.dominated k p uses (f.defined.own_values k p user_inside uses)

      in_here : dom.region ≡ here
      in_here = some_is (sym dom.defined ∙ ap (λ z. up_from (defining_block t z) (λ c. block_parent_of t c)) made ∙ b_region t w a b jump front h)

      around_here : Here dom.around
      around_here = (dom.block, dom.in_block, dom.in_region ∙ ap Some in_here)

      not_root : IsWithin t dom.around root → ⊥
      not_root y =
          let u = inside_up inside in
          let up : u.0 ≡ top = some_is (sym u.1 ∙ jump_holder t w a b jump front h) in
          let below : IsInside t top root = within_inside (inside_by top (held_here dom.around around_here) (inl refl)) y in
          ⊎_elim (λ z. not_itself w.joined.rooted (subst (IsInside t top) (sym (sym up ∙ z)) below)) (λ z. not_itself w.joined.rooted (deeper (subst (IsInside t root) up z) below)) u.2

      found : (z : ℕ) (others : List ℕ) → IsPlaced t root s.environment z (dom.around ∷ others) → Claim s.environment dom.around → s.environment p ≡ s.environment v
      found z others q claim = ⊎_elim (λ x. x) (λ x. absurd (x.missed (subst (λ y. HasPassed t y x.before dom.block q.done) made (dom.passes entry x.before q.done others (ap (λ y. first_of (layout_of t y) None) in_here ∙ fe) x.path (ap (body_of t) (sym block) ∙ q.split))))) (claim dom.block dom.in_block (dom.in_region ∙ ap Some in_here)).2
        where
          block : q.block ≡ dom.block
          block = some_is (sym (placed_parent t w root s.environment z dom.around others q) ∙ dom.in_block)
