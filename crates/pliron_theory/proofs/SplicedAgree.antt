-- A root does the same once a block joined the end of its only predecessor.
use Rattle.std.proofs.Common.{◌≡◌, ◌≢◌, ◌⊎◌, inl, inr, ⊎_elim, ℕ, ◌+◌, ◌<◌, Bool, true, false, true≢false, nat_eq, List, [], ◌∷◌, ◌++◌, length, Option, Some, None, slice_get, refl, sym, ap, ap₂, ◌∙◌, subst, arith, append_assoc, append-nil, if◌then◌else◌}
use Rattle.std.proofs.lemmas.Bool.{cases_eq, eq-eqb}
use Rattle.std.proofs.lemmas.Bool.Decides.{eqb_tells}
use Rattle.pliron_core.specs.declared.context.Def.{Def}
use Rattle.pliron_core.specs.declared.context.Def.TheVariants.{Result, Argument}
use Rattle.pliron_core.specs.Tree.{Tree, In, IsDistinct, without, first_of, last_of, IsLive, IsInside, IsMadeBy, head_of, operands_of, successors_of, results_of, regions_of, parent_of, body_of, arguments_of, block_parent_of, layout_of, region_parent_of, definition_of, op_of_slot}
use Rattle.pliron_core.specs.Invariant.{IsTree}
use Rattle.pliron_core.proofs.ListLemmas.{In-right, distinct-apart}
use Rattle.pliron_core.proofs.HoldingLemmas.{some_is, some_of, in_slice, slice_in, maker_is}
use Rattle.pliron_core.proofs.RowLemmas.{last_of-append}
use Rattle.pliron_laws.specs.Datum.{Datum, Empty, Head, Meaning, Goto}
use Rattle.pliron_laws.specs.Tree.{Operation, Block, op_with, op_at, block_with, block_at, and_block, entry_block, count_arguments, shape_of}
use Rattle.pliron_laws.specs.States.{Environment, State, Continues, bind, data_of, input_of}
use Rattle.pliron_laws.specs.Machine.{at_rest, begin, enter, go_to, entry_in, block_in, perform, move, turn, step_at, step}
use Rattle.pliron_laws.specs.Agree.{Agree}
use Rattle.pliron_laws.specs.Acting.{PassesSame, JumpsSame}
use Rattle.pliron_laws.specs.Root.{WellDefined}
use Rattle.pliron_laws.specs.Linked.{EdgesLast}
use Rattle.pliron_theory.specs.Sweeping.{is_maker_dead}
use Rattle.pliron_theory.specs.Splicing.{IsSpliced, JumpsNow}
use Rattle.pliron_theory.proofs.Simulation.{anything_kept}
use Rattle.pliron_theory.proofs.Lockstep.{Tied, EnvsTied}
use Rattle.pliron_theory.proofs.Bound.{IsOnWay, IsReady, ready, way_kept, way_start, last_ends}
use Rattle.pliron_laws.proofs.Records.{op_shows, block_shows, entry_shows, operation_of, make_op, block_of, make_block, region_entry}
use Rattle.pliron_theory.proofs.Alike.{alike_refl, shape_same, SameBut, bind_same, data_same, data_long}
use Rattle.pliron_theory.proofs.Substitute.{put_one, placed_all, taken, one_if, Comparison, Begun, Starts, HeadAt, PlaceAt, fresh, ties, Enters, Substitutes, FirstAlike, Reads, Skips, substituted_agree}
use Rattle.pliron_theory.proofs.SweptAgree.{bind_gone}
use Rattle.pliron_theory.proofs.Keys.{is_not, not_is}

-- one operation's place is taken
abbrev pub taking : Bool → List ℕ → Option (List ℕ)
taking true l = Some l
taking false l = None

pub not_taken : (b : Bool) (l : List ℕ) → taking b l ≡ None → b ≡ false
not_taken true l e = grind arith
not_taken false l e = refl

pub is_taken : (b : Bool) (l k : List ℕ) → taking b l ≡ Some k → b ≡ true
is_taken true l k e = refl
is_taken false l k e = grind arith

module _ (jump : ℕ) (l : List ℕ) where
  abbrev pub place : ℕ → Option (List ℕ)
  place k = taking (nat_eq jump k) l

  pub placed_free : (xs : List ℕ) → (In jump xs → ⊥) → placed_all place (λ k. k) xs ≡ xs
  placed_free [] f = refl
  placed_free (x ∷ xs) f = ap (λ b. put_one (λ k. k) (taking b l) x (placed_all place (λ k. k) xs)) (not_is jump x (λ e. f (inl (sym e)))) ∙ ap (λ ys. x ∷ ys) (placed_free xs (λ i. f (inr i)))

  pub taken_free : (xs : List ℕ) → (In jump xs → ⊥) → taken place xs ≡ 0
  taken_free [] f = refl
  taken_free (x ∷ xs) f = ap (λ b. one_if (taking b l) + taken place xs) (not_is jump x (λ e. f (inl (sym e)))) ∙ ap (λ n. one_if (taking false l) + n) (taken_free xs (λ i. f (inr i)))

  pub placed_end : (xs : List ℕ) → (In jump xs → ⊥) → placed_all place (λ k. k) (xs ++ jump ∷ []) ≡ xs ++ l
  placed_end [] f = ap (λ b. put_one (λ k. k) (taking b l) jump []) (eq-eqb jump jump refl) ∙ append-nil l
  placed_end (x ∷ xs) f = ap (λ b. put_one (λ k. k) (taking b l) x (placed_all place (λ k. k) (xs ++ jump ∷ []))) (not_is jump x (λ e. f (inl (sym e)))) ∙ ap (λ ys. x ∷ ys) (placed_end xs (λ i. f (inr i)))

module _ (m : Meaning) (t t' : Tree) (a b jump : ℕ) (front : List ℕ) (w : IsTree t) (w' : IsTree t') (h : IsSpliced t t' a b jump front) (root : ℕ) where
  abbrev pub deleted : ℕ → Bool
  deleted v = is_maker_dead (nat_eq jump) (nat_eq b) (definition_of t v)

  abbrev pub IsBlockRest : List ℕ → Type 0
  IsBlockRest rest = (rest ≡ root ∷ []) ⊎ ((rest ≡ []) ⊎ ((c : ℕ) × (done : List ℕ) × (body_of t c ≡ done ++ rest)))

  abbrev pub comparison : Comparison
  comparison = record { places = place jump (body_of t b); swap = λ k. k; Own = IsBlockRest; Env = SameBut deleted; visits = λ k. PassesSame; gotos = λ k. JumpsSame }

  pub jump_in : parent_of t jump ≡ Some a
  jump_in = w.bodies.owned jump a (subst (In jump) (sym h.split) (In-right jump front (jump ∷ []) (inl refl)))

  not_in : (c : ℕ) → c ≢ a → In jump (body_of t c) → ⊥
  not_in c ne i = ne (some_is (sym (w.bodies.owned jump c i) ∙ jump_in))

  not_in_front : In jump front → ⊥
  not_in_front i = distinct-apart front (jump ∷ []) (subst IsDistinct h.split (w.bodies.distinct a)) jump i (inl refl)

  body_placed : (c : ℕ) → c ≢ b → body_of t' c ≡ placed_all (place jump (body_of t b)) (λ k. k) (body_of t c)
  body_placed c ne = elim (cases_eq c a) [
    | inl e ↦ ap (body_of t') e ∙ h.joined ∙ sym (placed_end jump (body_of t b) front not_in_front) ∙ ap (placed_all (place jump (body_of t b)) (λ k. k)) (sym h.split ∙ ap (body_of t) (sym e))
    | inr na ↦ h.bodies c na ne ∙ sym (placed_free jump (body_of t b) (body_of t c) (not_in c na))
  ]

  abbrev SplicedBlock : Option Block → Option Block → Type 0
  SplicedBlock None None = Unit {0}
  SplicedBlock None (Some y) = ⊥
  SplicedBlock (Some x) None = ⊥
  SplicedBlock (Some x) (Some y) = (y.operations ≡ placed_all (place jump (body_of t b)) (λ k. k) x.operations) × (y.arguments ≡ x.arguments)

  block_spliced : (c : ℕ) → c ≢ b → SplicedBlock (block_at t c) (block_at t' c)
  unfolding block_at
  block_spliced c ne = subst (λ x. SplicedBlock (block_at t c) (block_with t' c x)) (sym (h.block_parents c ne)) (go (block_parent_of t c))
    where
      go : (x : Option ℕ) → SplicedBlock (block_with t c x) (block_with t' c x)
      go None = tt
      go (Some r) = (body_placed c ne, h.arguments c ne)

  pub first_kept : (xs : List ℕ) → first_of xs None ≢ Some b → first_of (without b xs) None ≡ first_of xs None
  first_kept [] ne = refl
  first_kept (x ∷ xs) ne = ap (λ z. first_of (if z then xs else x ∷ without b xs) None) (not_is b x (λ e. ne (ap Some e)))

  entry_spliced : (k i r : ℕ) → k ≢ jump → slice_get (regions_of t k) i ≡ Some r → SplicedBlock (entry_block t r) (entry_block t' r)
  entry_spliced k i r ne e =
      let here : region_parent_of t r ≡ Some k = ap op_of_slot (w.joined.regions k i r e) in
      let there : region_parent_of t' r ≡ Some k = ap op_of_slot (w'.joined.regions k i r (ap (λ z. slice_get z.regions i) (h.rows k ne) ∙ e)) in
      subst (λ x. SplicedBlock x (entry_block t' r)) (sym (region_entry t r k here)) (subst (λ x. SplicedBlock (and_block t (first_of (layout_of t r) None)) x) (sym (region_entry t' r k there)) (subst (λ y. SplicedBlock (and_block t (first_of (layout_of t r) None)) (and_block t' y)) (sym (ap (λ xs. first_of xs None) (h.layouts r) ∙ first_kept (layout_of t r) (h.no_entry r))) (go (first_of (layout_of t r) None) refl)))
    where
      go : (x : Option ℕ) → first_of (layout_of t r) None ≡ x → SplicedBlock (and_block t x) (and_block t' x)
      go None f = tt
      go (Some c) f = block_spliced c (λ e. h.no_entry r (f ∙ ap Some e))

  pub op_same : (k : ℕ) → k ≢ jump → (o : Operation) → op_at t k ≡ Some o → (o' : Operation) × (op_at t' k ≡ Some o') × (o'.head ≡ o.head) × (o'.operands ≡ o.operands) × (o'.results ≡ o.results) × (o'.successors ≡ o.successors) × (o'.regions ≡ o.regions)
  op_same k ne o e =
      let s = op_shows t k o e in
      (operation_of t' k o.head, make_op t' k o.head (ap (λ z. z.head) (h.rows k ne) ∙ s.head), refl, h.operands k ne ∙ s.operands, ap (λ z. z.results) (h.rows k ne) ∙ s.results, h.successors k ne ∙ s.successors, ap (λ z. z.regions) (h.rows k ne) ∙ s.regions)

  count_spliced : (x y : Option Block) → SplicedBlock x y → count_arguments x ≡ count_arguments y
  count_spliced None None s = refl
  count_spliced None (Some y) s = absurd s
  count_spliced (Some x) None s = absurd s
  count_spliced (Some x) (Some y) s = ap length (sym s.1)

  pub target_kept : (k c : ℕ) → k ≢ jump → In c (successors_of t k) → c ≢ b
  target_kept k c ne i e = ne (h.only k (subst (λ z. In z (successors_of t k)) e i))

  pub shape_spliced : (k : ℕ) (o : Operation) → k ≢ jump → op_at t k ≡ Some o → shape_of m t o ≡ shape_of m t' o
  shape_spliced k o ne e =
      shape_same m t t' o (λ r i. let j = slice_in o.regions r i in count_spliced _ _ (entry_spliced k j.0 r ne (ap (λ x. slice_get x j.0) (op_shows t k o e).regions ∙ j.1)))
      (λ c i. count_spliced _ _ (block_spliced c (target_kept k c ne (subst (In c) (sym (op_shows t k o e).successors) i))))

  shape_parts : (u : Tree) (o o' : Operation) → o'.head ≡ o.head → o'.operands ≡ o.operands → o'.results ≡ o.results → o'.successors ≡ o.successors → o'.regions ≡ o.regions → shape_of m u o' ≡ shape_of m u o
  unfolding shape_of
  shape_parts u o o' p q r s v = cc

  rest_of : (k : ℕ) (rest : List ℕ) → IsBlockRest (k ∷ rest) → IsBlockRest rest
  rest_of k rest (inl e) = let f : rest ≡ [] = cc in inr (inl f)
  rest_of k rest (inr (inl e)) = grind arith
  rest_of k rest (inr (inr x)) = inr (inr (x.0, x.1 ++ k ∷ [], x.2 ∙ sym (append_assoc x.1 (k ∷ []) rest)))

  enters : (x y : Option Block) (ds es : List Datum) → SplicedBlock x y → es ≡ ds → ((z : Block) → x ≡ Some z → IsBlockRest z.operations) → Enters m t t' comparison x y ds es
  enters None None ds es s q own = tt
  enters None (Some y) ds es s q own = s
  enters (Some x) None ds es s q own = s
  enters (Some x) (Some y) ds es s q own =
      (s.0, own x refl, λ env env' e. subst (λ vs. EnvsTied (SameBut deleted) (bind env x.arguments ds) (bind env' vs es)) (sym s.1) (subst (λ z. EnvsTied (SameBut deleted) (bind env x.arguments ds) (bind env' x.arguments z)) (sym q) (bind_same deleted x.arguments env env' ds e)))

  own_block : (c : ℕ) (x : Block) → block_at t c ≡ Some x → IsBlockRest x.operations
  own_block c x f = inr (inr (c, [], (block_shows t c x f).operations))

  pub one_op : (k : ℕ) (x y : Operation) → op_at t' k ≡ Some x → op_at t' k ≡ Some y → x ≡ y
  one_op k x y e f = some_is (sym e ∙ f)

  absent : (k : ℕ) → k ≢ jump → op_at t k ≡ None → op_at t' k ≡ None
  unfolding op_at
  absent k ne e = ap (op_with t' k) (ap (λ z. z.head) (h.rows k ne)) ∙ go (head_of t k) e
    where
      go : (x : Option Head) → op_with t k x ≡ None → op_with t' k x ≡ None
      go None f = refl
      go (Some x) f = grind arith

  substitutes : Substitutes m t t' comparison
  substitutes = record {
    own_rest = rest_of;
    absent = λ k l e. absent k (is_not jump k (not_taken (nat_eq jump k) (body_of t b) l)) e;
    other = λ k o l e. let x = op_same k (is_not jump k (not_taken (nat_eq jump k) (body_of t b) l)) o e in (x.0, x.1);
    results = λ k o o' l oe oe' env env' ds e.
        let x = op_same k (is_not jump k (not_taken (nat_eq jump k) (body_of t b) l)) o oe in
        subst (λ vs. EnvsTied (SameBut deleted) (bind env o.results ds) (bind env' vs ds)) (sym (ap (λ z. z.results) (one_op k o' x.0 oe' x.1) ∙ x.4)) (bind_same deleted o.results env env' ds e);
    entries = λ k o o' l oe oe' i ds es v.
        let ne = is_not jump k (not_taken (nat_eq jump k) (body_of t b) l) in
        let x = op_same k ne o oe in
        subst (λ rs. Enters m t t' comparison (entry_in t (slice_get o.regions i)) (entry_in t' (slice_get rs i)) ds es) (sym (ap (λ z. z.regions) (one_op k o' x.0 oe' x.1) ∙ x.6)) (entry k o ne oe i ds es v (slice_get o.regions i) refl);
    targets = λ k o o' l oe oe' i j ds es v.
        let ne = is_not jump k (not_taken (nat_eq jump k) (body_of t b) l) in
        let x = op_same k ne o oe in
        subst (λ cs. Enters m t t' comparison (block_in t (slice_get o.successors i)) (block_in t' (slice_get cs j)) ds es) (sym (ap (λ z. z.successors) (one_op k o' x.0 oe' x.1) ∙ x.5)) (subst (λ n. Enters m t t' comparison (block_in t (slice_get o.successors i)) (block_in t' (slice_get o.successors n)) ds es) (sym v.0) (target k o ne oe i ds es v.1 (slice_get o.successors i) refl));
  }
    where
      entry : (k : ℕ) (o : Operation) → k ≢ jump → op_at t k ≡ Some o → (i : ℕ) (ds es : List Datum) → es ≡ ds → (x : Option ℕ) → slice_get o.regions i ≡ x → Enters m t t' comparison (entry_in t x) (entry_in t' x) ds es
      entry k o ne oe i ds es q None e = tt
      entry k o ne oe i ds es q (Some r) e =
          let at : slice_get (regions_of t k) i ≡ Some r = ap (λ z. slice_get z i) (op_shows t k o oe).regions ∙ e in
          enters (entry_block t r) (entry_block t' r) ds es (entry_spliced k i r ne at) q (λ x f. let s = entry_shows t r x f in own_block s.key x s.liveness)

      target : (k : ℕ) (o : Operation) → k ≢ jump → op_at t k ≡ Some o → (i : ℕ) (ds es : List Datum) → es ≡ ds → (x : Option ℕ) → slice_get o.successors i ≡ x → Enters m t t' comparison (block_in t x) (block_in t' x) ds es
      target k o ne oe i ds es q None e = tt
      target k o ne oe i ds es q (Some c) e =
          enters (block_at t c) (block_at t' c) ds es (block_spliced c (target_kept k c ne (subst (In c) (sym (op_shows t k o oe).successors) (in_slice o.successors i c e)))) q (own_block c)

  first_alike : (k : ℕ) (o o' : Operation) → shape_of m t o ≡ shape_of m t' o' → (x y : Option (List Datum)) → x ≡ y → FirstAlike m t t' comparison k o o' x y
  first_alike k o o' s None None e = tt
  first_alike k o o' s None (Some y) e = grind arith
  first_alike k o o' s (Some x) None e = grind arith
  first_alike k o o' s (Some x) (Some y) e = alike_refl m.act (shape_of m t o) (shape_of m t' o') x y s (some_is e)

  pub shapes : (k : ℕ) (o o' : Operation) → k ≢ jump → op_at t k ≡ Some o → op_at t' k ≡ Some o' → shape_of m t o ≡ shape_of m t' o'
  shapes k o o' ne oe oe' =
      let x = op_same k ne o oe in
      shape_spliced k o ne oe ∙ sym (shape_parts t' o x.0 x.2 x.3 x.4 x.5 x.6) ∙ ap (shape_of m t') (one_op k x.0 o' x.1 oe')

  pub used_stays : (k v : ℕ) → In v (operands_of t k) → deleted v ≡ false
  used_stays k v i = let x = maker_is t v (w.joined.operands k v i) in ap (is_maker_dead (nat_eq jump) (nat_eq b)) x.1 ∙ go x.0 x.2
    where
      go : (d : Def) → IsMadeBy t v (Some d) → is_maker_dead (nat_eq jump) (nat_eq b) (Some d) ≡ false
      go (Result q j) e = not_is jump q (λ s. subst (In v) (ap (results_of t) s ∙ h.no_results) (in_slice (results_of t q) j v e))
      go (Argument c j) e = not_is b c (λ s. h.unused k v i (subst (λ z. In v (arguments_of t z)) s (in_slice (arguments_of t c) j v e)))

  reads : (I J : State → Type 0) → Reads m t t' comparison I J
  reads I J s s' i j r k rest o o' e none l oe oe' =
      let ne = is_not jump k (not_taken (nat_eq jump k) (body_of t b) l) in
      let x = op_same k ne o oe in
      first_alike k o o' (shapes k o o' ne oe oe') (data_of s.environment o.operands) (data_of s'.environment o'.operands)
      (data_same deleted s.environment s'.environment r.environment o.operands (λ v q. used_stays k v (subst (In v) (sym (op_shows t k o oe).operands) q)) ∙ ap (data_of s'.environment) (sym (ap (λ z. z.operands) (one_op k o' x.0 oe' x.1) ∙ x.3)))

  module _ (edges : EdgesLast t root) (well : WellDefined m t root) (jumps : IsInside t root jump → JumpsNow m t jump b) (left : root ≢ jump) where
    skips : Skips m t t' comparison (IsOnWay t w root m edges well)
    unfolding step
    skips s s' on r k rest l e q = (x, steps, tied, fewer)
      where
        d : nat_eq jump k ≡ true
        d = is_taken (nat_eq jump k) (body_of t b) l q

        same : k ≡ jump
        same = ⊎_elim (λ y. sym y.1) (λ z. absurd (true≢false (sym d ∙ z.0))) (eqb_tells jump k)

        fr : (s.memo ≡ Empty) × (s.answer ≡ None)
        fr = subst (λ z. HeadAt m t t' comparison (taking z (body_of t b)) k s.memo s.answer) d (subst (λ z. PlaceAt m t t' comparison z s.memo s.answer) e r.place.1)

        y : IsReady t w root m edges well s k rest
        y = ready t w root m edges well s on k rest e fr.1

        here : y.block ≡ a
        here = some_is (sym y.in_block ∙ ap (parent_of t) same ∙ jump_in)

        last : last_of None (body_of t a) ≡ Some jump
        last = ap (last_of None) h.split ∙ last_of-append None front (jump ∷ [])

        ends : rest ≡ []
        ends = last_ends k y.done rest (body_of t a) (w.bodies.distinct a) (ap (body_of t) (sym here) ∙ y.split) (last ∙ ap Some (sym same))

        hd : (z : Head) × (head_of t jump ≡ Some z)
        hd = some_of (head_of t jump) (w.joined.all_in_place jump a jump_in).0

        o : Operation
        o = operation_of t jump hd.0

        oe : op_at t jump ≡ Some o
        oe = make_op t jump hd.0 hd.1

        data_is : data_of s.environment o.operands ≡ Some y.input
        data_is = ap (λ z. data_of s.environment (operands_of t z)) (sym same) ∙ y.has_data

        j : (values : List Datum) × (m.act (shape_of m t o) Empty y.input ≡ Goto 0 values) × (length values ≡ length (arguments_of t b))
        j = jumps (subst (IsInside t root) same y.inside) o oe y.input (data_long s.environment o.operands y.input data_is)

        region : (z : ℕ) × (block_parent_of t b ≡ Some z)
        region = some_of (block_parent_of t b) (w.joined.successors jump b (subst (In b) (sym h.goes) (inl refl)))

        liveness : block_at t b ≡ Some (block_of t b region.0)
        liveness = make_block t b region.0 region.1

        bg : (env1 : Environment) × (bind s.environment (arguments_of t b) j.0 ≡ Some env1) × SameBut deleted env1 s'.environment
        bg = bind_gone deleted (arguments_of t b) j.0 s.environment s'.environment j.2 (λ v i. let p = slice_in (arguments_of t b) v i in ap (is_maker_dead (nat_eq jump) (nat_eq b)) (w.joined.arguments b p.0 v p.1) ∙ eq-eqb b b refl) r.environment

        x : State
        x = at_rest s bg.0 (body_of t b) (y.inner ∷ y.others)

        steps : step m t s ≡ Continues x
        steps =
            ap (step_at m t s) (e ∙ ap₂ (λ p r. p ∷ r) same ends)
            ∙ ap (turn m t s jump []) oe
            ∙ ap (move m t s o jump []) (ap (input_of s.environment o.operands) fr.1 ∙ data_is)
            ∙ ap (perform t s o jump []) (ap (λ z. m.act (shape_of m t o) z y.input) fr.0 ∙ j.1)
            ∙ ap₂ (λ c z. go_to t s c j.0 z) (ap (λ z. slice_get z 0) h.goes) y.waits
            ∙ ap (λ c. enter s c j.0 (y.inner ∷ y.others)) liveness
            ∙ ap (begin s (body_of t b) (y.inner ∷ y.others)) bg.1

        free : In jump (body_of t b) → ⊥
        free = not_in b (λ f. h.apart (sym f))

        there : s'.rest ≡ placed_all (place jump (body_of t b)) (λ z. z) (body_of t b)
        there =
            r.place.0 ∙ ap (placed_all (place jump (body_of t b)) (λ z. z)) (e ∙ ap (λ z. k ∷ z) ends) ∙ ap (λ z. put_one (λ p. p) (taking z (body_of t b)) k []) d ∙ append-nil (body_of t b)
            ∙ sym (placed_free jump (body_of t b) (body_of t b) free)

        tied : Tied (ties m t t' comparison) x s'
        tied = record {
          environment = bg.2;
          memo = sym fr.0 ∙ r.memo;
          answer = sym fr.1 ∙ r.answer;
          place = (there, fresh m t t' comparison (body_of t b), inr (inr (b, [], refl)));
          waiting = rw y.waits at r.waiting;
          world = r.world;
          effects = r.effects;
        }

        count : taken (place jump (body_of t b)) s.rest ≡ 1 + taken (place jump (body_of t b)) rest
        count = ap (taken (place jump (body_of t b))) e ∙ ap (λ z. one_if (taking z (body_of t b)) + taken (place jump (body_of t b)) rest) d

        none : taken (place jump (body_of t b)) (body_of t b) ≡ 0
        none = taken_free jump (body_of t b) (body_of t b) free

        fewer : taken (place jump (body_of t b)) x.rest < taken (place jump (body_of t b)) s.rest
        fewer = omega (arith, count, none)

    pub spliced_agree : IsLive t root → Agree m t t' root
    spliced_agree live =
        substituted_agree m t t' comparison substitutes (IsOnWay t w root m edges well) (λ s. Unit {0}) (reads (IsOnWay t w root m edges well) (λ s. Unit {0})) skips root (way_kept t w root m edges well) (anything_kept (step m t')) (record {
          stays = ap (λ z. taking z (body_of t b)) (not_is jump root left);
          same = refl;
          own = inl refl;
          empty = λ v g. refl;
          alike = λ inputs. begun inputs;
          left = λ inputs world. way_start t w root m edges well inputs world;
          right = λ inputs world. tt;
        })
      where
        begun : (inputs : List Datum) → Begun m t t' comparison root Empty inputs
        begun inputs =
            let hd = some_of (head_of t root) live in
            let oe = make_op t root hd.0 hd.1 in
            let x = op_same root left (operation_of t root hd.0) oe in
            Starts (operation_of t root hd.0) x.0 oe x.1 (alike_refl m.act _ _ inputs inputs (shapes root (operation_of t root hd.0) x.0 left oe x.1) refl) refl
