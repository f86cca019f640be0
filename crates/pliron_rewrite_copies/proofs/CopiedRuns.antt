-- A root does the same in a tree with closed copies: the runs make the same moves, and stand at a copy and its original.
use Rattle.std.proofs.Common.{◌≡◌, ◌⊎◌, inl, inr, ⊎_elim, ℕ, List, [], ◌∷◌, ◌++◌, map, Option, Some, None, IsSome, slice_get, refl, sym, ap, ap₂, ◌∙◌, subst, arith}
use Rattle.std.proofs.lemmas.Bool.{cases_eq}
use Rattle.pliron_core.specs.declared.context.Def.{Def}
use Rattle.pliron_core.specs.Changes.{IsDefinedInside}
use Rattle.pliron_core.specs.Tree.{Tree, In, IsLive, IsInside, IsInside.Directly, IsWithin, IsMadeBy, IsRegion, head_of, first_of, operands_of, successors_of, results_of, regions_of, parent_of, body_of, arguments_of, block_parent_of, layout_of, region_parent_of, block_parent_operation_of, parent_operation_of, definition_of, up_from}
use Rattle.pliron_core.specs.Invariant.{IsTree}
use Rattle.pliron_core.proofs.HoldingLemmas.{some_is, some_of, not_none, in_slice, inside_up, holder_by, block_held, deeper, within_inside, not_itself}
use Rattle.pliron_core.proofs.NeighbourLemmas.{first_of-In}
use Rattle.pliron_laws.specs.Datum.{Datum, Empty, Meaning, Move, Give, Visit, Goto, Leave, Emit, Trap}
use Rattle.pliron_laws.specs.Tree.{Operation, Block, op_at, block_at, entry_block, shape_of}
use Rattle.pliron_laws.specs.Machine.{Environment, Waiting, State, Next, Continues, Over, Ended, Trapped, Reached, trap, bind, data_of, input_of, at_rest, leave, after_giving, begin, enter, entry_in, block_in, go_to, emit, perform, move, turn, step_at, step, start}
use Rattle.pliron_laws.specs.Agree.{Agree}
use Rattle.pliron_laws.specs.Paths.{Path}
use Rattle.pliron_laws.specs.Root.{defining_block, HasPassed, IsDominated}
use Rattle.pliron_theory.specs.Keeps.{IsFit}
use Rattle.pliron_theory.proofs.Simulation.{Pace, KeepPace, agree_by}
use Rattle.pliron_theory.proofs.Lockstep.{NextAlike, paced}
use Rattle.pliron_theory.proofs.Bound.{HasAnswer, has_some, home_of, made_within, Missed}
use Rattle.pliron_laws.proofs.Records.{op_shows, block_shows, entry_shows, operation_of, make_op}
use Rattle.pliron_rewrite_copies.specs.Copies.{Originals, HasOriginals, IsUsedBeside, AreClosedCopies}
use Rattle.pliron_rewrite_copies.proofs.Maps.{head_same, tail_same, not_empty}
use Rattle.pliron_rewrite_copies.proofs.Covered.{live_in, region_forth}
use Rattle.pliron_rewrite_copies.proofs.CopiedRecords.{ShowsOriginal, IsOriginalBlock, original_op, shows_original, shape_original, entries_original, targets_original}
use Rattle.pliron_rewrite_copies.proofs.Holders.{one_around}
use Rattle.pliron_rewrite_copies.proofs.TwinData.{IsTwin, BindAlike, bind_alike, data_twin}
use Rattle.pliron_rewrite_copies.proofs.CopiedPlaces.{IsInReach, IsTwinPlace, at_parent, at_holder, at_inside, around_kept, result_here, argument_here, target_region, after_give, after_visit, after_goto}

module _ (m : Meaning) (t u : Tree) (o : Originals) (w : IsTree t) (w' : IsTree u) (h : HasOriginals t u o) (copy header : ℕ → ℕ) (root : ℕ) (c : AreClosedCopies u o copy header root) (fit : IsFit m u root) (own : o.operation root ≡ root) where
  abbrev Placed : Environment → Environment → ℕ → List ℕ → Type 0
  Placed env env' g rest = IsTwinPlace t u o w w' h copy header root c env env' g rest

  -- a place of the stack, where the root's own has no holder
  abbrev TwinAt : Environment → Environment → Option ℕ → List ℕ → Type 0
  TwinAt env env' None rest = rest ≡ root ∷ []
  TwinAt env env' (Some g) rest = Placed env env' g rest

  -- the places that wait, under a place in a region of the holder
  abbrev Under : Environment → Environment → Option ℕ → List Waiting → List Waiting → Type 0
  Under env env' None [] [] = Unit {0}
  Under env env' None [] (y ∷ ys) = ⊥
  Under env env' None (x ∷ xs) ys = ⊥
  Under env env' (Some g) [] ys = ⊥
  Under env env' (Some g) (x ∷ xs) [] = ⊥
  Under env env' (Some g) (x ∷ xs) (y ∷ ys) = (others : List ℕ) × (outer : Option ℕ) × (x.rest ≡ g ∷ others) × (y.rest ≡ map o.operation x.rest) × (x.memo ≡ y.memo) × TwinAt env env' outer x.rest × Under env env' outer xs ys

  -- the state of a run with copies, and that of a run without
  record AreTwins (s s' : State) : Type 0 where
    pub holder : Option ℕ
    pub rest : s'.rest ≡ map o.operation s.rest
    pub memo : s.memo ≡ s'.memo
    pub answer : s.answer ≡ s'.answer
    pub place : TwinAt s.environment s'.environment holder s.rest
    pub answered : HasAnswer holder s.answer
    pub under : Under s.environment s'.environment holder s.waiting s'.waiting
    pub world : s.world ≡ s'.world
    pub effects : s.effects ≡ s'.effects

  Alike : Next → Next → Type 0
  Alike a b = NextAlike AreTwins a b

  -- places around stay as they were while values deeper inside are bound
  abbrev IsKept : Environment → Environment → Environment → Environment → ℕ → Type 0
  IsKept env env' e e' k = (g : ℕ) (rest : List ℕ) → IsInside u g k → Placed env env' g rest → Placed e e' g rest

  under_kept : (env env' e e' : Environment) (k : ℕ) → IsKept env env' e e' k → (g : Option ℕ) (xs ys : List Waiting) → ((j : ℕ) → g ≡ Some j → IsInside u j k ⊎ (j ≡ k)) → Under env env' g xs ys → Under e e' g xs ys
  under_kept env env' e e' k kept None [] [] d b = tt
  under_kept env env' e e' k kept None [] (y ∷ ys) d b = b
  under_kept env env' e e' k kept None (x ∷ xs) ys d b = b
  under_kept env env' e e' k kept (Some g) [] ys d b = b
  under_kept env env' e e' k kept (Some g) (x ∷ xs) [] d b = b
  under_kept env env' e e' k kept (Some g) (x ∷ xs) (y ∷ ys) d b = (b.0, b.1, b.2, b.3, b.4, at b.1 b.5, under_kept env env' e e' k kept b.1 xs ys (λ j q. inl (up j q b.5)) b.6)
    where
      deep : (j : ℕ) → IsInside u j g → IsInside u g k ⊎ (g ≡ k) → IsInside u j k
      deep j i (inl z) = deeper i z
      deep j i (inr z) = subst (IsInside u j) z i

      up : (j : ℕ) → b.1 ≡ Some j → TwinAt env env' b.1 x.rest → IsInside u j k
      up j q p = deep j (inside (subst (λ z. TwinAt env env' z x.rest) q p)) (d g refl)
        where
          inside : Placed env env' j x.rest → IsInside u j g
          inside p = Directly (at_holder t u o w w' h copy header root c env env' j g b.0 (subst (Placed env env' j) b.2 p))

      at : (outer : Option ℕ) → TwinAt env env' outer x.rest → TwinAt e e' outer x.rest
      at None p = p
      at (Some j) p = kept j x.rest (deep j (Directly (at_holder t u o w w' h copy header root c env env' j g b.0 (subst (Placed env env' j) b.2 p))) (d g refl)) p

  -- what an operation reads

  -- an operation around the one that moves heads a place of the stack, or the root is within it
  find : (env env' : Environment) (k around : ℕ) → IsWithin u around k → (rest : List ℕ) (g : Option ℕ) (xs ys : List Waiting) → TwinAt env env' g (k ∷ rest) → Under env env' g xs ys → ((j : ℕ) × (others : List ℕ) × Placed env env' j (around ∷ others)) ⊎ IsWithin u around root
  find env env' k around i rest None xs ys p b = inr (subst (IsWithin u around) (head_same k root rest [] p) i)
  find env env' k around (inl e) rest (Some g) xs ys p b = inl (g, rest, subst (λ z. Placed env env' g (z ∷ rest)) e p)
  find env env' k around (inr i) rest (Some g) [] ys p b = absurd b
  find env env' k around (inr i) rest (Some g) (x ∷ xs) [] p b = absurd b
  find env env' k around (inr i) rest (Some g) (x ∷ xs) (y ∷ ys) p b =
      let q = inside_up i in
      let s : q.0 ≡ g = some_is (sym q.1 ∙ at_holder t u o w w' h copy header root c env env' g k rest p) in
      find env env' g around (subst (IsWithin u around) s q.2) b.0 b.1 xs ys (subst (TwinAt env env' b.1) b.2 b.5) b.6

  used_at : (env env' : Environment) (g k v : ℕ) (rest : List ℕ) (xs ys : List Waiting) → Placed env env' g (k ∷ rest) → Under env env' (Some g) xs ys → In v (operands_of u k) → IsTwin o.value env env' v
  used_at env env' g k v rest xs ys p b i = ⊎_elim (λ z. found z.0 z.1 z.2) (λ z. absurd (not_around z)) (find env env' k d.around d.holds rest (Some g) xs ys p b)
    where
      inside : IsInside u root k
      inside = at_inside t u o w w' h copy header root c env env' g k rest p

      made : IsDefinedInside u root v
      made = fit.defined.own_values k v inside i

      d : IsDominated u k v
      d = fit.defined.dominated k v i made

      x : IsUsedBeside u copy k v
      x = c.used k v i (inl inside)

      held : (r q : ℕ) × (block_parent_of u d.block ≡ Some r) × IsRegion u r × (region_parent_of u r ≡ Some q) × (block_parent_operation_of u d.block ≡ Some q) × IsLive u q
      held = block_held u d.block w'.joined (subst IsSome (sym d.in_region) refl)

      up : parent_operation_of u d.around ≡ Some held.1
      up = holder_by u d.around d.block held.1 d.in_block held.5

      -- the block that defines the value is beside the user's
      beside : block_parent_of u x.block ≡ block_parent_of u d.block
      beside = x.beside ∙ ap (λ z. up_from z (λ b. block_parent_of u b)) (sym x.defined) ∙ d.defined ∙ sym d.in_region

      same_around : x.around ≡ d.around
      same_around = one_around u w'.joined.rooted x.around d.around held.1 k (holder_by u x.around x.block held.1 x.in_block (ap (λ z. up_from z (λ r. region_parent_of u r)) beside ∙ held.5)) up x.holds d.holds

      same_spot : x.block ≡ d.block
      same_spot = some_is (sym x.in_block ∙ ap (parent_of u) same_around ∙ d.in_block)

      found : (j : ℕ) (others : List ℕ) → Placed env env' j (d.around ∷ others) → IsTwin o.value env env' v
      found j others y = ⊎_elim (λ z. z) (λ z. absurd (z.missed (passed z))) (y.claims v k i home reach)
        where
          same_block : y.block ≡ d.block
          same_block = some_is (sym (at_parent t u o w w' h copy header root c env env' j d.around others y) ∙ d.in_block)

          same_region : y.region ≡ d.region
          same_region = some_is (sym y.in_region ∙ ap (block_parent_of u) same_block ∙ d.in_region)

          home : home_of u v ≡ Some y.region
          home = d.defined ∙ ap Some (sym same_region)

          reach : IsInReach t u o w w' h copy header root c y.block v
          reach a e = ⊎_elim
              (λ z. inl (ap copy (some_is (sym e ∙ x.defined)) ∙ z))
              (λ n. inr (ap copy (some_is (sym e ∙ x.defined)) ∙ sym (x.same_copy n) ∙ ap copy (same_spot ∙ sym same_block)))
              (cases_eq (copy x.definer) 0)

          passed : (z : Missed u y.entry y.block y.done (definition_of u v)) → HasPassed u (definition_of u v) z.before y.block y.done
          passed z = subst (λ a. HasPassed u (definition_of u v) z.before a y.done) (sym same_block)
              (d.passes y.entry z.before y.done others (ap (λ r. first_of (layout_of u r) None) (sym same_region) ∙ y.entry_first) (subst (λ a. Path u y.entry a z.before) same_block z.path) (ap (body_of u) (sym same_block) ∙ y.split))

      not_around : IsWithin u d.around root → ⊥
      not_around j = not_itself w'.joined.rooted (turn within)
        where
          within : IsWithin u root held.1
          within = made_within u root d.region held.1 (definition_of u v) (ap (λ z. up_from z (λ r. region_parent_of u r)) (sym d.in_region) ∙ held.5) d.defined made

          below : IsInside u held.1 root
          below = within_inside (Directly up) j

          turn : IsWithin u root held.1 → IsInside u root root
          turn (inl s) = subst (λ z. IsInside u z root) s below
          turn (inr z) = deeper z below

  -- both runs have the same input
  input_same : (s s' : State) → (r : AreTwins s s') → (k : ℕ) (rest : List ℕ) → s.rest ≡ k ∷ rest → (x y : Operation) → op_at u k ≡ Some x → y.operands ≡ map o.value x.operands → input_of s'.environment y.operands s'.answer ≡ input_of s.environment x.operands s.answer
  input_same s s' r k rest e x y xe ye = go s.answer refl r.holder r.answered (subst (TwinAt s.environment s'.environment r.holder) e r.place) s.waiting s'.waiting r.under
    where
      read : (a : Option (List Datum)) → s.answer ≡ a → input_of s.environment x.operands a ≡ input_of s'.environment y.operands a → input_of s'.environment y.operands s'.answer ≡ input_of s.environment x.operands s.answer
      read a q same = ap (input_of s'.environment y.operands) (sym r.answer ∙ q) ∙ sym same ∙ ap (input_of s.environment x.operands) (sym q)

      go : (a : Option (List Datum)) → s.answer ≡ a → (g : Option ℕ) → HasAnswer g s.answer → TwinAt s.environment s'.environment g (k ∷ rest) → (xs ys : List Waiting) → Under s.environment s'.environment g xs ys → input_of s'.environment y.operands s'.answer ≡ input_of s.environment x.operands s.answer
      go (Some ds) q g has p xs ys b = read (Some ds) q refl
      go None q None has p xs ys b = absurd (has q)
      go None q (Some g) has p xs ys b = read None q (sym (ap (data_of s'.environment) ye ∙ data_twin o.value s.environment s'.environment x.operands (λ v i. used_at s.environment s'.environment g k v rest xs ys p b (subst (In v) (sym (op_shows u k x xe).operands) i))))

  -- moves

  leave_alike : (s s' : State) → AreTwins s s' → (g : Option ℕ) (xs ys : List Waiting) → Under s.environment s'.environment g xs ys → (ds : List Datum) → Alike (leave s xs ds) (leave s' ys ds)
  unfolding Alike
  leave_alike s s' r None [] [] b ds = ap (Ended ds) r.effects
  leave_alike s s' r None [] (y ∷ ys) b ds = absurd b
  leave_alike s s' r None (x ∷ xs) ys b ds = absurd b
  leave_alike s s' r (Some g) [] ys b ds = absurd b
  leave_alike s s' r (Some g) (x ∷ xs) [] b ds = absurd b
  leave_alike s s' r (Some g) (x ∷ xs) (y ∷ ys) b ds = record {
    holder = b.1;
    rest = b.3;
    memo = b.4;
    answer = refl;
    place = b.5;
    answered = has_some b.1 ds;
    under = b.6;
    world = r.world;
    effects = r.effects;
  }

  rest_twins : (s s' : State) → AreTwins s s' → (e e' : Environment) (g : ℕ) (rest rest' : List ℕ) → rest' ≡ map o.operation rest → Placed e e' g rest → (xs ys : List Waiting) → Under e e' (Some g) xs ys → AreTwins (at_rest s e rest xs) (at_rest s' e' rest' ys)
  rest_twins s s' r e e' g rest rest' same p xs ys b = record {
    holder = Some g;
    rest = same;
    memo = refl;
    answer = refl;
    place = p;
    answered = tt;
    under = b;
    world = r.world;
    effects = r.effects;
  }

  trap_alike : (s s' : State) → AreTwins s s' → Alike (trap s) (trap s')
  unfolding Alike
  trap_alike s s' r = ap Trapped r.effects

  -- two blocks begin
  begin_alike : (s s' : State) → AreTwins s s' → (g : ℕ) (rest rest' : List ℕ) → rest' ≡ map o.operation rest → (xs ys : List Waiting) → (vs : List ℕ) (ds : List Datum) → ((e e' : Environment) → bind s.environment vs ds ≡ Some e → bind s'.environment (map o.value vs) ds ≡ Some e' → Placed e e' g rest × Under e e' (Some g) xs ys) → (a b : Option Environment) → bind s.environment vs ds ≡ a → bind s'.environment (map o.value vs) ds ≡ b → Alike (begin s rest xs a) (begin s' rest' ys b)
  unfolding Alike
  begin_alike s s' r g rest rest' same xs ys vs ds go None None p q = trap_alike s s' r
  begin_alike s s' r g rest rest' same xs ys vs ds go None (Some e') p q = absurd (subst (λ z. BindAlike o.value None z) q (subst (λ z. BindAlike o.value z (bind s'.environment (map o.value vs) ds)) p (bind_alike o.value vs ds s.environment s'.environment)))
  begin_alike s s' r g rest rest' same xs ys vs ds go (Some e) None p q = absurd (subst (λ z. BindAlike o.value (Some e) z) q (subst (λ z. BindAlike o.value z (bind s'.environment (map o.value vs) ds)) p (bind_alike o.value vs ds s.environment s'.environment)))
  begin_alike s s' r g rest rest' same xs ys vs ds go (Some e) (Some e') p q = let z = go e e' p q in rest_twins s s' r e e' g rest rest' same z.0 xs ys z.1

  -- what is bound in a region of g leaves the places around alone
  kept_by : (block region g : ℕ) → block_parent_of u block ≡ Some region → region_parent_of t (o.region region) ≡ Some (o.operation g) → (vs : List ℕ) → ((x : ℕ) → In x vs → (d : Def) × IsMadeBy u x (Some d) × (defining_block u (Some d) ≡ Some block)) → (ds : List Datum) (env env' e e' : Environment) → bind env vs ds ≡ Some e → bind env' (map o.value vs) ds ≡ Some e' → IsKept env env' e e' g
  kept_by block region g in_region held vs made ds env env' e e' p q j rest deep z = around_kept t u o w w' h copy header root c block region in_region vs made g j held deep ds env env' e e' p q rest z

  module _ (s s' : State) (r : AreTwins s s') (k : ℕ) (rest : List ℕ) (at : s.rest ≡ k ∷ rest) (x y : Operation) (xe : op_at u k ≡ Some x) (ye : op_at t (o.operation k) ≡ Some y) where
    shown : ShowsOriginal o x y
    shown = shows_original m t u o w w' h k x y xe ye

    here : TwinAt s.environment s'.environment r.holder (k ∷ rest)
    here = subst (TwinAt s.environment s'.environment r.holder) at r.place

    results_shown : (ds : List Datum) → bind s'.environment y.results ds ≡ bind s'.environment (map o.value (results_of u k)) ds
    results_shown ds = ap (λ vs. bind s'.environment vs ds) (shown.results ∙ ap (map o.value) (sym (op_shows u k x xe).results))

    give_alike : (g : Option ℕ) → TwinAt s.environment s'.environment g (k ∷ rest) → (xs ys : List Waiting) → Under s.environment s'.environment g xs ys → (ds : List Datum) (a b : Option Environment) → bind s.environment (results_of u k) ds ≡ a → bind s'.environment (map o.value (results_of u k)) ds ≡ b → Alike (after_giving s rest xs ds a) (after_giving s' (map o.operation rest) ys ds b)
    unfolding Alike
    give_alike g p xs ys under ds None None q q' = trap_alike s s' r
    give_alike g p xs ys under ds None (Some e') q q' = absurd (subst (λ z. BindAlike o.value None z) q' (subst (λ z. BindAlike o.value z (bind s'.environment (map o.value (results_of u k)) ds)) q (bind_alike o.value (results_of u k) ds s.environment s'.environment)))
    give_alike g p xs ys under ds (Some e) None q q' = absurd (subst (λ z. BindAlike o.value (Some e) z) q' (subst (λ z. BindAlike o.value z (bind s'.environment (map o.value (results_of u k)) ds)) q (bind_alike o.value (results_of u k) ds s.environment s'.environment)))
    give_alike None p [] [] under ds (Some e) (Some e') q q' = ap (Ended ds) r.effects
    give_alike None p [] (v ∷ vs) under ds (Some e) (Some e') q q' = absurd under
    give_alike None p (v ∷ vs) ys under ds (Some e) (Some e') q q' = absurd under
    give_alike (Some g) p [] ys under ds (Some e) (Some e') q q' = absurd under
    give_alike (Some g) p (v ∷ vs) [] under ds (Some e) (Some e') q q' = absurd under
    give_alike (Some g) p (v ∷ vs) (v' ∷ vs') under ds (Some e) (Some e') q q' =
        let kept = kept_by p.block p.region g p.in_region p.held_before (results_of u k) (result_here t u o w w' h copy header root c k p.block (at_parent t u o w w' h copy header root c s.environment s'.environment g k rest p)) ds s.environment s'.environment e e' q q' in
        rest_twins s s' r e e' g rest (map o.operation rest) refl (after_give t u o w w' h copy header root c s.environment s'.environment e e' g k rest ds q q' p) (v ∷ vs) (v' ∷ vs') (under_kept s.environment s'.environment e e' g kept (Some g) (v ∷ vs) (v' ∷ vs') (λ j z. inr (sym (some_is z))) under)

    goto_alike : (g : Option ℕ) → TwinAt s.environment s'.environment g (k ∷ rest) → (xs ys : List Waiting) → Under s.environment s'.environment g xs ys → (i : ℕ) (ds : List Datum) (z : Option ℕ) → slice_get x.successors i ≡ z → (z' : Option ℕ) → slice_get y.successors i ≡ z' → (b b' : Option Block) → block_in u z ≡ b → block_in t z' ≡ b' → IsOriginalBlock o b b' → Alike (go_to u s z ds xs) (go_to t s' z' ds ys)
    unfolding Alike
    goto_alike g p xs ys under i ds z ze z' ze' b b' be be' same = by_stack g p xs ys under
      where
        enters : (g : ℕ) → Placed s.environment s'.environment g (k ∷ rest) → (xs ys : List Waiting) → Under s.environment s'.environment (Some g) xs ys → (d : Option ℕ) → z ≡ d → (b b' : Option Block) → block_in u d ≡ b → IsOriginalBlock o b b' → Alike (enter s b ds xs) (enter s' b' ds ys)
        enters g p xs ys under d de None None e n = trap_alike s s' r
        enters g p xs ys under d de None (Some b') e n = absurd n
        enters g p xs ys under d de (Some b) None e n = absurd n
        enters g p xs ys under None de (Some b) (Some b') e n = absurd (not_none e)
        enters g p xs ys under (Some d) de (Some b) (Some b') e n = subst (λ l. Alike (begin s b.operations xs (bind s.environment b.arguments ds)) (begin s' b'.operations ys (bind s'.environment l ds))) (sym n.1) (begin_alike s s' r g b.operations b'.operations n.0 xs ys b.arguments ds now (bind s.environment b.arguments ds) (bind s'.environment (map o.value b.arguments) ds) refl refl)
          where
            target : In d (successors_of u k)
            target = subst (In d) (sym (op_shows u k x xe).successors) (in_slice x.successors i d (ze ∙ de))

            now : (e1 e1' : Environment) → bind s.environment b.arguments ds ≡ Some e1 → bind s'.environment (map o.value b.arguments) ds ≡ Some e1' → Placed e1 e1' g b.operations × Under e1 e1' (Some g) xs ys
            now e1 e1' q q' =
                let sh = block_shows u d b e in
                let q0 : bind s.environment (arguments_of u d) ds ≡ Some e1 = ap (λ vs. bind s.environment vs ds) sh.arguments ∙ q in
                let q1 : bind s'.environment (map o.value (arguments_of u d)) ds ≡ Some e1' = ap (λ vs. bind s'.environment (map o.value vs) ds) sh.arguments ∙ q' in
                let place = after_goto t u o w w' h copy header root c m fit.defined s.environment s'.environment e1 e1' g k d rest ds target q0 q1 p in
                let kept = kept_by d p.region g (target_region t u o w w' h copy header root c s.environment s'.environment g k d rest target p) p.held_before (arguments_of u d) (argument_here t u o w w' h copy header root c d) ds s.environment s'.environment e1 e1' q0 q1 in
                (subst (Placed e1 e1' g) sh.operations place, under_kept s.environment s'.environment e1 e1' g kept (Some g) xs ys (λ j a. inr (sym (some_is a))) under)

        by_stack : (g : Option ℕ) → TwinAt s.environment s'.environment g (k ∷ rest) → (xs ys : List Waiting) → Under s.environment s'.environment g xs ys → Alike (go_to u s z ds xs) (go_to t s' z' ds ys)
        by_stack None p [] [] under = trap_alike s s' r
        by_stack None p [] (v ∷ vs) under = absurd under
        by_stack None p (v ∷ vs) ys under = absurd under
        by_stack (Some g) p [] ys under = absurd under
        by_stack (Some g) p (v ∷ vs) [] under = absurd under
        by_stack (Some g) p (v ∷ vs) (v' ∷ vs') under = subst (λ a. Alike (enter s (block_in u z) ds (v ∷ vs)) (enter s' a ds (v' ∷ vs'))) (sym be') (enters g p (v ∷ vs) (v' ∷ vs') under z refl (block_in u z) b' refl (subst (λ a. IsOriginalBlock o a b') (sym be) same))

    visit_alike : (i : ℕ) (ds : List Datum) (next : Datum) (z : Option ℕ) → slice_get x.regions i ≡ z → (b b' : Option Block) → entry_in u z ≡ b → IsOriginalBlock o b b' → Alike (enter s b ds (record { rest = k ∷ rest; memo = next } ∷ s.waiting)) (enter s' b' ds (record { rest = o.operation k ∷ map o.operation rest; memo = next } ∷ s'.waiting))
    unfolding Alike
    visit_alike i ds next z ze None None e n = trap_alike s s' r
    visit_alike i ds next z ze None (Some b') e n = absurd n
    visit_alike i ds next z ze (Some b) None e n = absurd n
    visit_alike i ds next None ze (Some b) (Some b') e n = absurd (not_none e)
    visit_alike i ds next (Some a) ze (Some b) (Some b') e n = subst (λ l. Alike (begin s b.operations waits (bind s.environment b.arguments ds)) (begin s' b'.operations waits' (bind s'.environment l ds))) (sym n.1) (begin_alike s s' r k b.operations b'.operations n.0 waits waits' b.arguments ds now (bind s.environment b.arguments ds) (bind s'.environment (map o.value b.arguments) ds) refl refl)
      where
        waits : List Waiting
        waits = record { rest = k ∷ rest; memo = next } ∷ s.waiting

        waits' : List Waiting
        waits' = record { rest = o.operation k ∷ map o.operation rest; memo = next } ∷ s'.waiting

        within : (g : Option ℕ) → TwinAt s.environment s'.environment g (k ∷ rest) → IsWithin u root k
        within None p = inl (head_same k root rest [] p)
        within (Some g) p = inr (at_inside t u o w w' h copy header root c s.environment s'.environment g k rest p)

        deep : (g : Option ℕ) → TwinAt s.environment s'.environment g (k ∷ rest) → (j : ℕ) → g ≡ Some j → IsInside u j k ⊎ (j ≡ k)
        deep g p j q = inl (Directly (at_holder t u o w w' h copy header root c s.environment s'.environment j k rest (subst (λ a. TwinAt s.environment s'.environment a (k ∷ rest)) q p)))

        now : (e1 e1' : Environment) → bind s.environment b.arguments ds ≡ Some e1 → bind s'.environment (map o.value b.arguments) ds ≡ Some e1' → Placed e1 e1' k b.operations × Under e1 e1' (Some k) waits waits'
        now e1 e1' q q' =
            let entry = entry_shows u a b e in
            let listed : slice_get (regions_of u k) i ≡ Some a = ap (λ l. slice_get l i) (op_shows u k x xe).regions ∙ ze in
            let sh = block_shows u entry.key b entry.liveness in
            let q0 : bind s.environment (arguments_of u entry.key) ds ≡ Some e1 = ap (λ vs. bind s.environment vs ds) sh.arguments ∙ q in
            let q1 : bind s'.environment (map o.value (arguments_of u entry.key)) ds ≡ Some e1' = ap (λ vs. bind s'.environment (map o.value vs) ds) sh.arguments ∙ q' in
            let place = after_visit t u o w w' h copy header root c s.environment s'.environment e1 e1' k i a entry.key ds (within r.holder here) listed entry.entry q0 q1 in
            let kept = kept_by entry.key a k (w'.layouts.owned entry.key a (first_of-In entry.key (layout_of u a) entry.entry)) (region_forth t u o w w' h k i a listed).1 (arguments_of u entry.key) (argument_here t u o w w' h copy header root c entry.key) ds s.environment s'.environment e1 e1' q0 q1 in
            (subst (Placed e1 e1' k) sh.operations place, (rest, r.holder, refl, refl, refl, outer kept r.holder here, under_kept s.environment s'.environment e1 e1' k kept r.holder s.waiting s'.waiting (deep r.holder here) r.under))
          where
            outer : IsKept s.environment s'.environment e1 e1' k → (g : Option ℕ) → TwinAt s.environment s'.environment g (k ∷ rest) → TwinAt e1 e1' g (k ∷ rest)
            outer kept None p = p
            outer kept (Some g) p = kept g (k ∷ rest) (Directly (at_holder t u o w w' h copy header root c s.environment s'.environment g k rest p)) p

    emit_alike : (e next : Datum) (world world' : List Datum) → world ≡ world' → Alike (emit s e next world) (emit s' e next world')
    unfolding Alike
    emit_alike e next [] [] q = ap (λ l. Reached (e ∷ l)) r.effects
    emit_alike e next [] (d ∷ ds) q = absurd (not_empty d ds q)
    emit_alike e next (d ∷ ds) [] q = absurd (not_empty d ds (sym q))
    emit_alike e next (d ∷ ds) (d' ∷ ds') q = record {
      holder = r.holder;
      rest = r.rest;
      memo = refl;
      answer = ap (λ z. Some (z ∷ [])) (head_same d d' ds ds' q);
      place = r.place;
      answered = has_some r.holder (d ∷ []);
      under = r.under;
      world = tail_same d d' ds ds' q;
      effects = ap (λ l. e ∷ l) r.effects;
    }

    perform_alike : (a : Move) → Alike (perform u s x k rest a) (perform t s' y (o.operation k) (map o.operation rest) a)
    perform_alike (Give ds) = subst (λ z. Alike (after_giving s rest s.waiting ds (bind s.environment x.results ds)) (after_giving s' (map o.operation rest) s'.waiting ds z)) (sym (results_shown ds)) (give_alike r.holder here s.waiting s'.waiting r.under ds (bind s.environment x.results ds) (bind s'.environment (map o.value (results_of u k)) ds) (ap (λ vs. bind s.environment vs ds) (op_shows u k x xe).results) refl)
    perform_alike (Visit i ds next) = visit_alike i ds next (slice_get x.regions i) refl (entry_in u (slice_get x.regions i)) (entry_in t (slice_get y.regions i)) refl (entries_original m t u o w w' h k i x y xe ye)
    perform_alike (Goto i ds) = goto_alike r.holder here s.waiting s'.waiting r.under i ds (slice_get x.successors i) refl (slice_get y.successors i) refl (block_in u (slice_get x.successors i)) (block_in t (slice_get y.successors i)) refl refl (targets_original m t u o w w' h k i x y xe ye)
    perform_alike (Leave ds) = leave_alike s s' r r.holder s.waiting s'.waiting r.under ds
    perform_alike (Emit e next) = emit_alike e next s.world s'.world r.world
    perform_alike Trap = trap_alike s s' r

    move_alike : (i : Option (List Datum)) → Alike (move m u s x k rest i) (move m t s' y (o.operation k) (map o.operation rest) i)
    move_alike None = trap_alike s s' r
    move_alike (Some ds) = subst (λ z. Alike (perform u s x k rest (m.act (shape_of m u x) s.memo ds)) (perform t s' y (o.operation k) (map o.operation rest) z)) (sym (ap₂ (λ z n. m.act z n ds) (shape_original m t u o w w' h k x y xe ye) (sym r.memo))) (perform_alike (m.act (shape_of m u x) s.memo ds))

    turn_alike : Alike (turn m u s k rest (Some x)) (turn m t s' (o.operation k) (map o.operation rest) (Some y))
    turn_alike = subst (λ z. Alike (move m u s x k rest (input_of s.environment x.operands s.answer)) (move m t s' y (o.operation k) (map o.operation rest) z)) (sym (input_same s s' r k rest at x y xe shown.operands)) (move_alike (input_of s.environment x.operands s.answer))

  -- what moves is live
  live_at : (s s' : State) (r : AreTwins s s') (k : ℕ) (rest : List ℕ) → s.rest ≡ k ∷ rest → IsLive u k
  live_at s s' r k rest e = go r.holder (subst (TwinAt s.environment s'.environment r.holder) e r.place)
    where
      go : (g : Option ℕ) → TwinAt s.environment s'.environment g (k ∷ rest) → IsLive u k
      go None p = subst (IsLive u) (sym (head_same k root rest [] p)) fit.live
      go (Some g) p = live_in t u o w w' h k p.block (at_parent t u o w w' h copy header root c s.environment s'.environment g k rest p)

  rest_alike : (s s' : State) → AreTwins s s' → (rest : List ℕ) → s.rest ≡ rest → Alike (step_at m u s rest) (step_at m t s' (map o.operation rest))
  rest_alike s s' r [] e = leave_alike s s' r r.holder s.waiting s'.waiting r.under []
  rest_alike s s' r (k ∷ rest) e =
      let x = some_of (head_of u k) (live_at s s' r k rest e) in
      let xe = make_op u k x.0 x.1 in
      let y = original_op m t u o w w' h k (operation_of u k x.0) xe in
      subst (λ z. Alike (turn m u s k rest z) (turn m t s' (o.operation k) (map o.operation rest) (op_at t (o.operation k)))) (sym xe)
      (subst (λ z. Alike (turn m u s k rest (Some (operation_of u k x.0))) (turn m t s' (o.operation k) (map o.operation rest) z)) (sym y.1) (turn_alike s s' r k rest e (operation_of u k x.0) y.0 xe y.1))

  keep_pace : KeepPace (step m u) (step m t) AreTwins (λ s s'. 0)
  unfolding step Alike
  keep_pace = record {
    effects = λ s s' r. r.effects;
    pace = λ s s' r. paced (step m u) (step m t) AreTwins (λ s s'. 0) s s' (step_at m u s s.rest) (step_at m t s' s'.rest) refl refl (subst (λ l. NextAlike AreTwins (step_at m u s s.rest) (step_at m t s' l)) (sym r.rest) (rest_alike s s' r s.rest refl));
  }

  starts : (inputs world : List Datum) → AreTwins (start root inputs world) (start root inputs world)
  starts inputs world = record {
    holder = None;
    rest = ap (λ k. k ∷ []) (sym own);
    memo = refl;
    answer = refl;
    place = refl;
    answered = has_some None inputs;
    under = tt;
    world = refl;
    effects = refl;
  }

  pub copied_agree : Agree m u t root
  copied_agree = agree_by m u t root AreTwins (λ s s'. 0) keep_pace starts
