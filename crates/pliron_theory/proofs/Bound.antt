-- In a well-defined root each operand has a datum when it is read.
use Rattle.std.proofs.Common.{◌≡◌, ◌≢◌, ◌⊎◌, inl, inr, ⊎_elim, ℕ, List, [], ◌∷◌, ◌++◌, Option, Some, None, IsSome, refl, sym, ap, ap₂, ◌∙◌, subst, arith, slice_get, if◌then◌else◌, append_assoc}
use Rattle.std.proofs.lemmas.Bool.{cases_eq}
use Rattle.std.proofs.lemmas.Bool.Decides.{eqb_tells}
use Rattle.pliron_core.specs.declared.context.Def.{Def}
use Rattle.pliron_core.specs.declared.context.Def.TheVariants.{Result, Argument}
use Rattle.pliron_core.specs.Lists.{In, IsDistinct, first_of, last_of}
use Rattle.pliron_core.specs.Changes.{IsDefiningOperationInside}
use Rattle.pliron_core.specs.Tree.{Tree, IsInside, IsWithin, IsMadeBy, IsRegion, operands_of, successors_of, results_of, parent_of, body_of, arguments_of, block_parent_of, layout_of, region_parent_of, block_parent_operation_of, parent_operation_of, definition_of, up_from, op_of_slot}
use Rattle.pliron_core.specs.Invariant.{IsTree}
use Rattle.pliron_core.specs.Edges.{succs_from}
use Rattle.pliron_core.proofs.ListLemmas.{In-cases, In-right, distinct-back}
use Rattle.pliron_core.proofs.HoldingLemmas.{some_is, not_none, in_slice, holder_by, inside_up, inside_by, deeper, within_inside, not_itself, block_held}
use Rattle.pliron_core.proofs.NeighbourLemmas.{last_of-In}
use Rattle.pliron_core.proofs.RowLemmas.{last_of-append}
use Rattle.pliron_laws.specs.Datum.{Datum, Meaning}
use Rattle.pliron_laws.specs.Tree.{Operation, Block, op_at, block_at, entry_block}
use Rattle.pliron_laws.specs.States.{Environment, Waiting, State, environment_with, bind, prepend_optional, data_of}
use Rattle.pliron_laws.specs.Machine.{start, step}
use Rattle.pliron_laws.specs.Paths.{Path, Leads}
use Rattle.pliron_laws.specs.Root.{defining_block, HasPassed, IsDominated, WellDefined}
use Rattle.pliron_laws.specs.Linked.{EndsBlock, EdgesLast}
use Rattle.pliron_theory.proofs.Simulation.{Kept}
use Rattle.pliron_theory.proofs.Frames.{LatticeValues, Rules, Below, Holding, holding_kept}
use Rattle.pliron_laws.proofs.Records.{op_shows, block_shows, entry_shows}

unfoldable pub IsBound : Environment → ℕ → Type 0
IsBound env v = (d : Datum) × (env v ≡ Some d)

bound_more : (env : Environment) (w : ℕ) (d : Datum) (v : ℕ) → IsBound env v → IsBound (environment_with env w d) v
unfolding IsBound environment_with
bound_more env w d v b = ⊎_elim
    (λ y. (d, ap (λ x. if x then Some d else env v) y.0))
    (λ n. (b.0, ap (λ x. if x then Some d else env v) n.0 ∙ b.1))
    (eqb_tells v w)

bound_it : (env : Environment) (w : ℕ) (d : Datum) (v : ℕ) → v ≡ w → IsBound (environment_with env w d) v
unfolding IsBound environment_with
bound_it env w d v e = ⊎_elim
    (λ y. (d, ap (λ x. if x then Some d else env v) y.0))
    (λ n. absurd (n.1 e))
    (eqb_tells v w)

pub bind_more : (vs : List ℕ) (ds : List Datum) (env env1 : Environment) → bind env vs ds ≡ Some env1 → (v : ℕ) → IsBound env v → IsBound env1 v
bind_more [] [] env env1 e v b = let f : env ≡ env1 = cc in subst (λ x. IsBound x v) f b
bind_more [] (d ∷ ds) env env1 e v b = grind arith
bind_more (w ∷ vs) [] env env1 e v b = grind arith
bind_more (w ∷ vs) (d ∷ ds) env env1 e v b = bind_more vs ds (environment_with env w d) env1 e v (bound_more env w d v b)

pub bind_has : (vs : List ℕ) (ds : List Datum) (env env1 : Environment) → bind env vs ds ≡ Some env1 → (v : ℕ) → In v vs → IsBound env1 v
bind_has [] ds env env1 e v i = absurd i
bind_has (w ∷ vs) [] env env1 e v i = grind arith
bind_has (w ∷ vs) (d ∷ ds) env env1 e v (inl s) = bind_more vs ds (environment_with env w d) env1 e v (bound_it env w d v s)
bind_has (w ∷ vs) (d ∷ ds) env env1 e v (inr i) = bind_has vs ds (environment_with env w d) env1 e v i

pub all_data : (env : Environment) (vs : List ℕ) → ((v : ℕ) → In v vs → IsBound env v) → (ds : List Datum) × (data_of env vs ≡ Some ds)
unfolding IsBound
all_data env [] b = ([], refl)
all_data env (v ∷ vs) b =
    let x = b v (inl refl) in
    let y = all_data env vs (λ w i. b w (inr i)) in
    (x.0 ∷ y.0, ap₂ prepend_optional x.1 y.1)

-- where the last of a distinct list stands, the list ends
pub last_ends : (k : ℕ) (done rest xs : List ℕ) → IsDistinct xs → xs ≡ done ++ k ∷ rest → last_of None xs ≡ Some k → rest ≡ []
last_ends k done [] xs d e l = refl
last_ends k done (y ∷ ys) xs d e l =
    let there : last_of None (y ∷ ys) ≡ Some k = sym (last_of-append None done (k ∷ y ∷ ys)) ∙ ap (last_of None) (sym e) ∙ l in
    absurd ((distinct-back done (k ∷ y ∷ ys) (subst IsDistinct e d)).0 (last_of-In k (y ∷ ys) there))

in_mid : (k : ℕ) (done rest : List ℕ) → In k (done ++ k ∷ rest)
in_mid k done rest = In-right k done (k ∷ rest) (inl refl)

-- the region whose block makes the value
abbrev pub home_of : Tree → ℕ → Option ℕ
home_of t v = up_from (defining_block t (definition_of t v)) (λ d. block_parent_of t d)

-- some path from the entry to here missed what makes the value
pub record Missed (t : Tree) (entry block : ℕ) (done : List ℕ) (d : Option Def) : Type 0 where
  pub before : List ℕ
  pub path : Path t entry block before
  pub missed : HasPassed t d before block done → ⊥

-- what is defined inside the root stands in regions that the root holds
pub made_within : (t : Tree) (root region h : ℕ) (d : Option Def) → region_parent_of t region ≡ Some h → up_from (defining_block t d) (λ b. block_parent_of t b) ≡ Some region → IsDefiningOperationInside t root d → IsWithin t root h
made_within t root region h None held e i = absurd i
made_within t root region h (Some (Argument b j)) held e i =
    let s : i.0 ≡ h = some_is (sym i.1 ∙ ap (λ o. up_from o (λ r. region_parent_of t r)) e ∙ held) in
    subst (IsWithin t root) s i.2
made_within t root region h (Some (Result q j)) held e i =
    let u = inside_up i in
    let s : u.0 ≡ h = some_is (sym u.1 ∙ around (parent_of t q) e) in
    subst (IsWithin t root) s u.2
  where
    around : (o : Option ℕ) → up_from o (λ b. block_parent_of t b) ≡ Some region → up_from o (λ b. block_parent_operation_of t b) ≡ Some h
    around None f = grind arith
    around (Some b) f = ap (λ o. up_from o (λ r. region_parent_of t r)) f ∙ held

-- the operations `rest` end a block in a region of h, which is the root or inside it; and each used
-- value that this region makes has a datum, or some path to here missed what makes it
pub record IsPlaced (t : Tree) (root : ℕ) (env : Environment) (h : ℕ) (rest : List ℕ) : Type 0 where
  pub within : IsWithin t root h
  pub block : ℕ
  pub region : ℕ
  pub in_region : block_parent_of t block ≡ Some region
  pub held : region_parent_of t region ≡ Some h
  pub entry : ℕ
  pub entry_first : first_of (layout_of t region) None ≡ Some entry
  pub done : List ℕ
  pub split : body_of t block ≡ done ++ rest
  pub claims : (v user : ℕ) → In v (operands_of t user) → home_of t v ≡ Some region → IsBound env v ⊎ Missed t entry block done (definition_of t v)

-- the same of a place of the stack, where the root's own has no holder
abbrev pub IsAt : Tree → ℕ → Environment → Option ℕ → List ℕ → Type 0
IsAt t root env None rest = rest ≡ root ∷ []
IsAt t root env (Some h) rest = IsPlaced t root env h rest

-- the root's own place has an answer from the start on
abbrev pub HasAnswer : Option ℕ → Option (List Datum) → Type 0
HasAnswer None answer = answer ≡ None → ⊥
HasAnswer (Some h) answer = Unit {0}

pub has_some : (h : Option ℕ) (ds : List Datum) → HasAnswer h (Some ds)
has_some None ds = λ e. not_none (sym e)
has_some (Some h) ds = tt

abbrev pub places : Tree → ℕ → LatticeValues
places t root = record { Always = λ env. Unit {0}; Moves = λ env h rest memo answer. IsAt t root env h rest × HasAnswer h answer; Waits = λ env h rest memo. IsAt t root env h rest }

placed_more : (t : Tree) (root : ℕ) (env env1 : Environment) (o : Option ℕ) (rest : List ℕ) → ((v : ℕ) → IsBound env v → IsBound env1 v) → IsAt t root env o rest → IsAt t root env1 o rest
placed_more t root env env1 None rest more p = p
placed_more t root env env1 (Some h) rest more p = record {
  within = p.within;
  block = p.block;
  region = p.region;
  in_region = p.in_region;
  held = p.held;
  entry = p.entry;
  entry_first = p.entry_first;
  done = p.done;
  split = p.split;
  claims = λ v user i e. ⊎_elim (λ b. inl (more v b)) (λ x. inr x) (p.claims v user i e);
}

module _ (t : Tree) (w : IsTree t) (root : ℕ) where
  -- the operation that moves at a place stands there
  pub placed_parent : (env : Environment) (h k : ℕ) (rest : List ℕ) (p : IsPlaced t root env h (k ∷ rest)) → parent_of t k ≡ Some p.block
  placed_parent env h k rest p = w.bodies.owned k p.block (subst (In k) (sym p.split) (in_mid k p.done rest))

  pub placed_holder : (env : Environment) (h k : ℕ) (rest : List ℕ) → IsPlaced t root env h (k ∷ rest) → parent_operation_of t k ≡ Some h
  placed_holder env h k rest p = holder_by t k p.block h (placed_parent env h k rest p) (ap (λ o. up_from o (λ r. region_parent_of t r)) p.in_region ∙ p.held)

  pub placed_inside : (env : Environment) (h k : ℕ) (rest : List ℕ) → IsPlaced t root env h (k ∷ rest) → IsInside t root k
  placed_inside env h k rest p = inside_by h (placed_holder env h k rest p) p.within

  pub at_within : (env : Environment) (o : Option ℕ) (k : ℕ) (rest : List ℕ) → IsAt t root env o (k ∷ rest) → IsWithin t root k
  at_within env None k rest p = let f : k ≡ root = cc in inl f
  at_within env (Some h) k rest p = inr (placed_inside env h k rest p)

  made_by : (v user : ℕ) → In v (operands_of t user) → (d : Option Def) → definition_of t v ≡ d → IsMadeBy t v d
  made_by v user i d e = subst (IsMadeBy t v) e (w.joined.operands user v i)

  not_there : (q k : ℕ) (done : List ℕ) → q ≢ k → In q (done ++ k ∷ []) → In q done
  not_there q k done ne i = ⊎_elim (λ j. j) (λ j. ⊎_elim (λ e. absurd (ne e)) (λ z. absurd z) j) (In-cases q done (k ∷ []) i)

  after_give : (env env1 : Environment) (h k : ℕ) (rest : List ℕ) (ds : List Datum) → bind env (results_of t k) ds ≡ Some env1 → IsPlaced t root env h (k ∷ rest) → IsPlaced t root env1 h rest
  after_give env env1 h k rest ds be p = record {
    within = p.within;
    block = p.block;
    region = p.region;
    in_region = p.in_region;
    held = p.held;
    entry = p.entry;
    entry_first = p.entry_first;
    done = p.done ++ k ∷ [];
    split = p.split ∙ sym (append_assoc p.done (k ∷ []) rest);
    claims = λ v user i e. ⊎_elim (λ b. inl (bind_more (results_of t k) ds env env1 be v b)) (λ x. still v user i (definition_of t v) refl x) (p.claims v user i e);
  }
    where
      still : (v user : ℕ) → In v (operands_of t user) → (d : Option Def) → definition_of t v ≡ d → Missed t p.entry p.block p.done d → IsBound env1 v ⊎ Missed t p.entry p.block (p.done ++ k ∷ []) d
      still v user i None e x = inr (record { before = x.before; path = x.path; missed = λ z. z })
      still v user i (Some (Argument b j)) e x = inr (record { before = x.before; path = x.path; missed = x.missed })
      still v user i (Some (Result q j)) e x = ⊎_elim
          (λ s. inl (bind_has (results_of t k) ds env env1 be v (subst (λ z. In v (results_of t z)) s (in_slice (results_of t q) j v (made_by v user i _ e)))))
          (λ ne. inr (record { before = x.before; path = x.path; missed = ⊎_elim (λ z. x.missed (inl (not_there q k p.done ne z))) (λ z. x.missed (inr z)) }))
          (cases_eq q k)

  visited : (env env1 : Environment) (k r a : ℕ) (ds : List Datum) → IsWithin t root k → region_parent_of t r ≡ Some k → first_of (layout_of t r) None ≡ Some a → bind env (arguments_of t a) ds ≡ Some env1 → IsPlaced t root env1 k (body_of t a)
  visited env env1 k r a ds within held ae be = record {
    within = within;
    block = a;
    region = r;
    in_region = w.layouts.owned a r (in_first (layout_of t r) ae);
    held = held;
    entry = a;
    entry_first = ae;
    done = [];
    split = refl;
    claims = λ v user i e. begins v user i (definition_of t v) refl;
  }
    where
      in_first : (xs : List ℕ) → first_of xs None ≡ Some a → In a xs
      in_first [] f = grind arith
      in_first (x ∷ xs) f = inl (sym (some_is f))

      begins : (v user : ℕ) → In v (operands_of t user) → (d : Option Def) → definition_of t v ≡ d → IsBound env1 v ⊎ Missed t a a [] d
      begins v user i None e = inr (record { before = []; path = refl; missed = λ z. z })
      begins v user i (Some (Argument b j)) e = ⊎_elim
          (λ s. inl (bind_has (arguments_of t a) ds env env1 be v (subst (λ z. In v (arguments_of t z)) s (in_slice (arguments_of t b) j v (made_by v user i _ e)))))
          (λ ne. inr (record { before = []; path = refl; missed = ⊎_elim ne (λ z. z) }))
          (cases_eq b a)
      begins v user i (Some (Result q j)) e = inr (record { before = []; path = refl; missed = ⊎_elim (λ z. z) (λ z. z.2) })

  module _ (m : Meaning) (edges : EdgesLast t root) (well : WellDefined m t root) where
    after_goto : (env env1 : Environment) (h k c : ℕ) (rest : List ℕ) (ds : List Datum) → In c (successors_of t k) → bind env (arguments_of t c) ds ≡ Some env1 → IsPlaced t root env h (k ∷ rest) → IsPlaced t root env1 h (body_of t c)
    after_goto env env1 h k c rest ds ce be p = record {
      within = p.within;
      block = c;
      region = p.region;
      in_region = beside ∙ p.in_region;
      held = p.held;
      entry = p.entry;
      entry_first = p.entry_first;
      done = [];
      split = refl;
      claims = λ v user i e. ⊎_elim (λ b. inl (bind_more (arguments_of t c) ds env env1 be v b)) (λ x. still v user i (definition_of t v) refl x) (p.claims v user i e);
    }
      where
        inside : IsInside t root k
        inside = placed_inside env h k rest p

        ends : EndsBlock t k
        ends = edges k c ce (inl inside)

        here : ends.block ≡ p.block
        here = some_is (sym ends.in_block ∙ placed_parent env h k rest p)

        last : last_of None (body_of t p.block) ≡ Some k
        last = ap (λ b. last_of None (body_of t b)) (sym here) ∙ ends.last

        beside : block_parent_of t c ≡ block_parent_of t p.block
        beside = ends.own_region c ce ∙ ap (block_parent_of t) here

        leads : Leads t p.block c
        leads = record { successor = subst (λ o. In c (succs_from t o)) (sym last) ce; same_region = beside }

        none : rest ≡ []
        none = last_ends k p.done rest (body_of t p.block) (w.bodies.distinct p.block) p.split last

        no_use : (v user : ℕ) → In v (operands_of t user) → In v (results_of t k) → ⊥
        no_use v user i j = well.unused k v user inside (λ e. subst (In c) e ce) j i

        behind : (q : ℕ) → parent_of t q ≡ Some p.block → q ≢ k → In q p.done
        behind q e ne = not_there q k p.done ne (subst (In q) (p.split ∙ ap (λ l. p.done ++ k ∷ l) none) (w.bodies.listed q p.block e))

        still : (v user : ℕ) → In v (operands_of t user) → (d : Option Def) → definition_of t v ≡ d → Missed t p.entry p.block p.done d → IsBound env1 v ⊎ Missed t p.entry c [] d
        still v user i None e x = inr (record { before = p.block ∷ x.before; path = (leads, x.path); missed = λ z. z })
        still v user i (Some (Argument b j)) e x = ⊎_elim
            (λ s. inl (bind_has (arguments_of t c) ds env env1 be v (subst (λ z. In v (arguments_of t z)) s (in_slice (arguments_of t b) j v (made_by v user i _ e)))))
            (λ ne. inr (record { before = p.block ∷ x.before; path = (leads, x.path); missed = ⊎_elim ne x.missed }))
            (cases_eq b c)
        still v user i (Some (Result q j)) e x = inr (record {
          before = p.block ∷ x.before;
          path = (leads, x.path);
          missed = ⊎_elim (λ z. z) (λ z. ⊎_elim (λ s. x.missed (inl (behind q (z.1 ∙ ap Some s) (λ f. no_use v user i (subst (λ y. In v (results_of t y)) f (in_slice (results_of t q) j v (made_by v user i _ e))))))) (λ y. x.missed (inr (z.0, z.1, y))) z.2);
        })

    at_deep : (env : Environment) (h k : ℕ) (rest : List ℕ) → IsPlaced t root env h (k ∷ rest) → IsInside t h k
    at_deep env h k rest p = inside_by h (placed_holder env h k rest p) (inl refl)

    pub place_rules : Rules m t (places t root)
    place_rules = record {
      Deeper = λ a b. IsInside t a b;
      deeper_trans = λ a b c i j. deeper i j;
      moves_deep = λ env h k rest memo answer p. at_deep env h k rest p.0;
      waits_deep = λ env h k rest memo p. at_deep env h k rest p;
      gives = λ env env1 h k rest memo answer ds a p x e. (tt, (give env env1 h k rest ds x.operation x.liveness e p.0, tt), more env env1 x.operation.results ds e);
      goes = λ env env1 h k rest memo answer i ds c b a p x ce be e. (tt, (go env env1 h k rest i ds c b x.operation x.liveness ce be e p.0, tt), more env env1 b.arguments ds e);
      visits = λ env env1 h k rest memo answer i ds next r b a p x re be e. (tt, (visit env env1 h k rest i ds r b x.operation x.liveness re be e p.0, tt), placed_more t root env env1 h (k ∷ rest) (bind_more b.arguments ds env env1 e) p.0, more env env1 b.arguments ds e);
      accurate = λ env h k rest memo answer e next d a p x. (p.0, has_some h (d ∷ []));
      resumes = λ env h rest memo ds p. (p, has_some h ds);
    }
      where
        more : (env env1 : Environment) (vs : List ℕ) (ds : List Datum) → bind env vs ds ≡ Some env1 → {k : ℕ} → (g : Option ℕ) (j : ℕ) (r : List ℕ) (x : Datum) → IsInside t j k → IsAt t root env g (j ∷ r) → IsAt t root env1 g (j ∷ r)
        more env env1 vs ds e g j r x i p = placed_more t root env env1 g (j ∷ r) (bind_more vs ds env env1 e) p

        give : (env env1 : Environment) (h k : ℕ) (rest : List ℕ) (ds : List Datum) (o : Operation) → op_at t k ≡ Some o → bind env o.results ds ≡ Some env1 → IsPlaced t root env h (k ∷ rest) → IsPlaced t root env1 h rest
        give env env1 h k rest ds o oe e p = after_give env env1 h k rest ds (ap (λ vs. bind env vs ds) (op_shows t k o oe).results ∙ e) p

        go : (env env1 : Environment) (h k : ℕ) (rest : List ℕ) (i : ℕ) (ds : List Datum) (c : ℕ) (b : Block) (o : Operation) → op_at t k ≡ Some o → slice_get o.successors i ≡ Some c → block_at t c ≡ Some b → bind env b.arguments ds ≡ Some env1 → IsPlaced t root env h (k ∷ rest) → IsPlaced t root env1 h b.operations
        go env env1 h k rest i ds c b o oe ce be e p =
            let s = block_shows t c b be in
            subst (IsPlaced t root env1 h) s.operations (after_goto env env1 h k c rest ds (subst (In c) (sym (op_shows t k o oe).successors) (in_slice o.successors i c ce)) (ap (λ vs. bind env vs ds) s.arguments ∙ e) p)

        visit : (env env1 : Environment) (h : Option ℕ) (k : ℕ) (rest : List ℕ) (i : ℕ) (ds : List Datum) (r : ℕ) (b : Block) (o : Operation) → op_at t k ≡ Some o → slice_get o.regions i ≡ Some r → entry_block t r ≡ Some b → bind env b.arguments ds ≡ Some env1 → IsAt t root env h (k ∷ rest) → IsPlaced t root env1 k b.operations
        visit env env1 h k rest i ds r b o oe re be e p =
            let x = entry_shows t r b be in
            let s = block_shows t x.key b x.liveness in
            let held : region_parent_of t r ≡ Some k = ap op_of_slot (w.joined.regions k i r (ap (λ l. slice_get l i) (op_shows t k o oe).regions ∙ re)) in
            subst (IsPlaced t root env1 k) s.operations (visited env env1 k r x.key ds (at_within env h k rest p) held x.entry (ap (λ vs. bind env vs ds) s.arguments ∙ e))

    -- the places of a run of the root
    unfoldable pub IsOnWay : State → Type 0
    IsOnWay s = Holding m t (places t root) place_rules root s

    pub way_kept : Kept (step m t) IsOnWay
    unfolding IsOnWay
    way_kept = record { keeps = (holding_kept m t (places t root) place_rules root).keeps }

    pub way_start : (inputs world : List Datum) → IsOnWay (start root inputs world)
    unfolding IsOnWay
    way_start inputs world = record { holder = None; always = tt; place = (refl, has_some None inputs); below = tt }

    -- an operation around the one that moves heads a place of the stack, or the root is within it
    find : (env : Environment) (k around : ℕ) → IsWithin t around k → (rest : List ℕ) (o : Option ℕ) (ws : List Waiting) → IsAt t root env o (k ∷ rest) → Below m t (places t root) place_rules root env o ws → ((h : ℕ) × (others : List ℕ) × IsPlaced t root env h (around ∷ others)) ⊎ IsWithin t around root
    find env k around i rest None ws p b = let f : k ≡ root = cc in inr (subst (IsWithin t around) f i)
    find env k around (inl e) rest (Some h) ws p b = inl (h, rest, subst (λ x. IsPlaced t root env h (x ∷ rest)) e p)
    find env k around (inr i) rest (Some h) [] p b = absurd b
    find env k around (inr i) rest (Some h) (x ∷ ws) p b =
        let u = inside_up i in
        let s : u.0 ≡ h = some_is (sym u.1 ∙ placed_holder env h k rest p) in
        find env h around (subst (IsWithin t around) s u.2) b.0 b.1 ws (subst (IsAt t root env b.1) b.2 b.3) b.4

    not_around : (v around region h : ℕ) → parent_operation_of t around ≡ Some h → IsWithin t root h → IsWithin t around root → ⊥
    not_around v around region h up i j = not_itself w.joined.rooted (turn i)
      where
        below : IsInside t h root
        below = within_inside (inside_by h up (inl refl)) j

        turn : IsWithin t root h → IsInside t root root
        turn (inl s) = subst (λ x. IsInside t x root) s below
        turn (inr y) = deeper y below

    used_at : (env : Environment) (h k v : ℕ) (rest : List ℕ) (ws : List Waiting) → IsPlaced t root env h (k ∷ rest) → Below m t (places t root) place_rules root env (Some h) ws → In v (operands_of t k) → IsBound env v
    used_at env h k v rest ws p b i = ⊎_elim (λ f. found f.0 f.1 f.2) (λ f. absurd (not_around v d.around d.region held.1 up (made_within t root d.region held.1 (definition_of t v) held.4 d.defined made) f)) (find env k d.around d.holds rest (Some h) ws p b)
      where
        made : IsDefiningOperationInside t root (definition_of t v)
        made = well.own_values k v (placed_inside env h k rest p) i

        d : IsDominated t k v
        d = well.dominated k v i made

        held : (r x : ℕ) × (block_parent_of t d.block ≡ Some r) × IsRegion t r × (region_parent_of t d.region ≡ Some x) × (block_parent_operation_of t d.block ≡ Some x)
        held =
            let x = block_held t d.block w.joined (subst IsSome (sym d.in_region) refl) in
            let s : x.0 ≡ d.region = some_is (sym x.2 ∙ d.in_region) in
            (x.0, x.1, x.2, x.3, ap (region_parent_of t) (sym s) ∙ x.4, x.5)

        up : parent_operation_of t d.around ≡ Some held.1
        up = holder_by t d.around d.block held.1 d.in_block held.5

        found : (g : ℕ) (others : List ℕ) → IsPlaced t root env g (d.around ∷ others) → IsBound env v
        found g others q = ⊎_elim (λ z. z) (λ x. absurd (x.missed (passed x))) (q.claims v k i (d.defined ∙ ap Some (sym same_region)))
          where
            same_block : q.block ≡ d.block
            same_block = some_is (sym (placed_parent env g d.around others q) ∙ d.in_block)

            same_region : q.region ≡ d.region
            same_region = some_is (sym q.in_region ∙ ap (block_parent_of t) same_block ∙ d.in_region)

            passed : (x : Missed t q.entry q.block q.done (definition_of t v)) → HasPassed t (definition_of t v) x.before q.block q.done
            passed x = subst (λ b. HasPassed t (definition_of t v) x.before b q.done) (sym same_block) (d.passes q.entry x.before q.done others (ap (λ r. first_of (layout_of t r) None) (sym same_region) ∙ q.entry_first) (subst (λ b. Path t q.entry b x.before) same_block x.path) (ap (body_of t) (sym same_block) ∙ q.split))

    -- what moves for the first time: where it stands inside the root, and that its operands have data
    pub record IsReady (s : State) (k : ℕ) (rest : List ℕ) : Type 0 where
      pub inside : IsInside t root k
      pub block : ℕ
      pub in_block : parent_of t k ≡ Some block
      pub done : List ℕ
      pub split : body_of t block ≡ done ++ k ∷ rest
      pub inner : Waiting
      pub others : List Waiting
      pub waits : s.waiting ≡ inner ∷ others
      pub bound : (v : ℕ) → In v (operands_of t k) → IsBound s.environment v
      pub input : List Datum
      pub has_data : data_of s.environment (operands_of t k) ≡ Some input

    ready_at : (s : State) (o : Option ℕ) (k : ℕ) (rest : List ℕ) (ws : List Waiting) → s.waiting ≡ ws → HasAnswer o s.answer → s.answer ≡ None → IsAt t root s.environment o (k ∷ rest) → Below m t (places t root) place_rules root s.environment o ws → IsReady s k rest
    ready_at s None k rest ws we has none p b = absurd (has none)
    ready_at s (Some h) k rest [] we has none p b = absurd b
    ready_at s (Some h) k rest (x ∷ ws) we has none p b =
        let all : (v : ℕ) → In v (operands_of t k) → IsBound s.environment v = λ v i. used_at s.environment h k v rest (x ∷ ws) p b i in
        let found = all_data s.environment (operands_of t k) all in
        record { inside = placed_inside s.environment h k rest p; block = p.block; in_block = placed_parent s.environment h k rest p; done = p.done; split = p.split; inner = x; others = ws; waits = we; bound = all; input = found.0; has_data = found.1 }

    pub ready : (s : State) → IsOnWay s → (k : ℕ) (rest : List ℕ) → s.rest ≡ k ∷ rest → s.answer ≡ None → IsReady s k rest
    unfolding IsOnWay
    ready s g k rest e none = ready_at s g.holder k rest s.waiting refl g.place.1 none (subst (IsAt t root s.environment g.holder) e g.place.0) g.below
