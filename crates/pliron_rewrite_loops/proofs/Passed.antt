-- Runs are kept where a value is passed to a block, and operations behind the block use the argument.
use Rattle.std.proofs.Common.{◌≡◌, ◌≢◌, ◌⊎◌, inl, inr, ⊎_elim, ℕ, if◌then◌else◌, Bool, List, length, map, Option, Some, None, IsSome, slice_get, refl, sym, ap, ◌∙◌, subst, arith}
use Rattle.std.proofs.lemmas.Bool.{cases_eq, ne_eqb}
use Rattle.std.proofs.lemmas.List.{length-map}
use Rattle.std.proofs.lemmas.Option.{slice_get_within}
use Rattle.pliron_core.specs.declared.context.Def.{Def}
use Rattle.pliron_core.specs.declared.context.Def.TheVariants.{Result, Argument}
use Rattle.pliron_core.specs.Changes.{IsDefiningOperationInside}
use Rattle.pliron_core.specs.Invariant.{IsTree}
use Rattle.pliron_core.specs.Tree.{Tree, In, IsBlock, IsDefined, IsLive, IsMadeBy, HoldsBlock, first_of, row_of, head_of, operands_of, successors_of, results_of, regions_of, arguments_of, block_parent_of, layout_of, definition_of, up_from}
use Rattle.pliron_core.specs.Uses.{replace_target}
use Rattle.pliron_core.specs.Writes.{argument_pushed}
use Rattle.pliron_core.proofs.ListLemmas.{decide_in}
use Rattle.pliron_core.proofs.HoldingLemmas.{some_is, in_slice, slice_in, maker_is, past_live}
use Rattle.pliron_laws.specs.Datum.{Head, Shape, Meaning}
use Rattle.pliron_laws.specs.Tree.{Operation, op_at, shape_of}
use Rattle.pliron_laws.specs.Answers.{IsForwardedAt}
use Rattle.pliron_laws.specs.Laws.{ForwardsOperands}
use Rattle.pliron_laws.specs.Linked.{IsAdmitted}
use Rattle.pliron_laws.specs.Root.{defining_block, HasPassed, IsDominated}
use Rattle.pliron_laws.proofs.Records.{operation_of, make_op}
use Rattle.pliron_theory.specs.Keeps.{IsFit, KeepsRuns, KeepsAllRuns, with_roots}
use Rattle.pliron_theory.specs.Renaming.{IsRenamed, MayUse}
use Rattle.pliron_theory.proofs.Keeping.{keeps_trans}
use Rattle.pliron_theory.proofs.KeptPlaces.{KeepsPlaces, same_block_holder, inside_back, within_forth, within_back}
use Rattle.pliron_theory.proofs.Renamed.{op_renamed, shape_renamed}
use Rattle.pliron_theory.proofs.ReplacedKeeps.{replaced_renamed}
use Rattle.pliron_theory.proofs.SweptStays.{admitted_same}
use Rattle.pliron_rewrite_copies.proofs.Maps.{in_map}
use Rattle.pliron_rewrite_arguments.specs.OneValue.{IsForwardedThere, IsOneValue}
use Rattle.pliron_rewrite_loops.specs.Lengthening.{EdgesLengthened}
use Rattle.pliron_rewrite_loops.specs.OneMore.{IsForwardedMore}
use Rattle.pliron_rewrite_loops.specs.Added.{IsArgumentAdded}
use Rattle.pliron_rewrite_loops.specs.Pushing.{PushingLaw}
use Rattle.pliron_rewrite_loops.specs.Passing.{StandsBehind, MayUseArguments, UsesArgument, MayPass, KeepsBesides}
use Rattle.pliron_rewrite_loops.proofs.LengthenedBack.{lengthening}
use Rattle.pliron_rewrite_loops.proofs.Added.{front_there, KeepsWays, places, path_back, usable_forth, lengthened_pushed, frame, own, other, new_unused, forwarded_more, named_more, ways, leading_admitted, not_leading}
use Rattle.pliron_rewrite_loops.proofs.Forwards.{ForwardsThere, forwarded_at, mapped_from, each_forwards, untouched}
use Rattle.pliron_rewrite_loops.proofs.PassingSteps.{unused_items}

-- what leads somewhere is live
leader_live : (t : Tree) → IsTree t → (k b : ℕ) → In b (successors_of t k) → (h : Head) × (head_of t k ≡ Some h)
leader_live t w k b i = go (head_of t k) refl
  where
    go : (o : Option Head) → head_of t k ≡ o → (h : Head) × (head_of t k ≡ Some h)
    go None e = absurd (subst (In b) (w.joined.erased k e).1 i)
    go (Some h) e = (h, e)

-- a root that is fit after is so before
fit_back : (m : Meaning) (t u : Tree) → KeepsRuns m t u → KeepsRuns m u t → (root : ℕ) → IsFit m u root → IsFit m t root
fit_back m t u forth back root f =
    let below = past_live u root f.live in
    let fewer = back.grows in
    back.stays root f (forth.fewer root (omega (arith, below, fewer)) f.live)

module _ (m : Meaning) (can_fold : Head → Bool) (SameTests : Head → Head → Type 0) (shortened : Shape → ℕ → ℕ → Head) (law : ForwardsOperands m can_fold SameTests shortened) (t s : Tree) (block value argument : ℕ) (w : IsTree t) (is : IsBlock t block) (made : IsDefined t value) (entry : (r : ℕ) → block_parent_of t block ≡ Some r → first_of (layout_of t r) None ≢ Some block) (x : IsArgumentAdded m shortened t s block value argument) where
  abbrev index : ℕ
  index = length (arguments_of t block)

  more : IsForwardedMore m shortened t s block index (length t.definitions)
  more = forwarded_more m can_fold SameTests shortened law block (lengthening m can_fold SameTests shortened law) t s value argument w is entry x

  -- no value of the tree before is the new one
  pub apart_from : (v : ℕ) → IsDefined t v → argument ≢ v
  apart_from v h e =
      let d = maker_is t v h in
      let l = slice_get_within t.definitions v d.0 d.1 in
      let n = x.new in absurd (omega (arith, e, l, n))

  pub apart : argument ≢ value
  apart = apart_from value made

  added_there : slice_get (arguments_of s block) index ≡ Some argument
  added_there = more.argument ∙ ap Some (sym x.new)

  -- the argument is a value, which nothing uses yet
  pub is_defined : IsTree s → IsDefined s argument
  is_defined w' = subst (IsMadeBy s argument) (sym (w'.joined.arguments block index argument added_there)) added_there

  pub unused : (k : ℕ) → In argument (operands_of s k) → ⊥
  unused k i = ⊎_elim
      (λ j. new_unused m can_fold SameTests shortened law block (lengthening m can_fold SameTests shortened law) t s value argument w is entry x k (subst (λ z. In z (operands_of t k)) x.new j))
      (λ q. apart q)
      (named_more m can_fold SameTests shortened law block (lengthening m can_fold SameTests shortened law) t s value argument w is entry x k argument i)

  arguments_more : (v b i : ℕ) → slice_get (arguments_of t b) i ≡ Some v → slice_get (arguments_of s b) i ≡ Some v
  arguments_more v b i h = ⊎_elim
      (λ q. subst (λ z. slice_get (arguments_of s z) i ≡ Some v) (sym q) (ap (λ z. slice_get z i) (own m can_fold SameTests shortened law block (lengthening m can_fold SameTests shortened law) t s value argument w is entry x) ∙ front_there (arguments_of t block) _ i v (subst (λ z. slice_get (arguments_of t z) i ≡ Some v) q h)))
      (λ ne. ap (λ z. slice_get z i) (other m can_fold SameTests shortened law block (lengthening m can_fold SameTests shortened law) t s value argument w is entry x b ne) ∙ h)
      (cases_eq b block)

  pub live_still : (k : ℕ) → IsLive t k → IsLive s k
  live_still k l = subst (λ z. IsLive z k) (sym x.pushed) ((frame m can_fold SameTests shortened law block (lengthening m can_fold SameTests shortened law) t s value argument w is entry x).live k l)

  module _ (u : Tree) (users : List ℕ) (w' : IsTree u) (y : UsesArgument s u users value argument) where
    abbrev rename : ℕ → ℕ
    rename = replace_target argument value

    r : IsRenamed u s rename
    r = subst (λ z. IsRenamed u z rename) (sym y.back) (replaced_renamed u argument value)

    -- what was a value may be named where it might be
    keeps_ways : (v : ℕ) → IsDefined t v → KeepsWays t u v
    keeps_ways v h =
        let d = maker_is t v h in
        let k = ways m can_fold SameTests shortened law block (lengthening m can_fold SameTests shortened law) t s value argument w is entry x v d.0 d.1 in
        record {
          parents = λ z. sym (r.parents z) ∙ k.parents z;
          block_parents = λ b. sym (r.block_parents b) ∙ k.block_parents b;
          slots = λ z. sym (r.slots z) ∙ k.slots z;
          successors = λ z. sym (r.successors z) ∙ k.successors z;
          results = λ z. sym (ap (λ z. z.results) (r.rows z)) ∙ k.results z;
          bodies = λ b. sym (r.bodies b) ∙ k.bodies b;
          layouts = λ z. sym (r.layouts z) ∙ k.layouts z;
          definition = sym (r.definitions v) ∙ k.definition;
        }

    stay : KeepsWays t u value
    stay = keeps_ways value made

    there : slice_get (arguments_of u block) index ≡ Some argument
    there = ap (λ z. slice_get z index) (sym (r.arguments block)) ∙ added_there

    defined : definition_of u argument ≡ Some (Argument block index)
    defined = w'.joined.arguments block index argument there

    pub defined_still : (v : ℕ) → IsDefined t v → IsDefined u v
    defined_still v h = subst (IsMadeBy u v) (sym (keeps_ways v h).definition) (go (definition_of t v) h)
      where
        go : (d : Option Def) → IsMadeBy t v d → IsMadeBy u v d
        go None j = j
        go (Some (Result k i)) j = ap (λ z. slice_get z i) (stay.results k) ∙ j
        go (Some (Argument b i)) j = ap (λ z. slice_get z i) (sym (r.arguments b)) ∙ arguments_more v b i j

    -- operations name what they named, the value, or the argument
    named_before : (k v : ℕ) → argument ≢ v → In v (operands_of u k) → In v (operands_of s k)
    named_before k v ne i =
        let same : rename v ≡ v = ap (λ b. if b then value else v) (ne_eqb v argument (λ q. ne (sym q))) in
        subst (In v) (sym (r.operands k)) (subst (λ z. In z (map rename (operands_of u k))) same (in_map rename (operands_of u k) v i))

    named_still : (k v : ℕ) → argument ≢ v → In v (operands_of u k) → In v (operands_of t k) ⊎ (v ≡ value)
    named_still k v ne i = named_more m can_fold SameTests shortened law block (lengthening m can_fold SameTests shortened law) t s value argument w is entry x k v (named_before k v ne i)

    -- ---- each edge forwards the value, or the argument in its place

    forwarded_before : (k e : ℕ) → slice_get (successors_of u k) e ≡ Some block → ForwardsThere m s k e index value
    forwarded_before k e listed = each_forwards m can_fold SameTests shortened law index value block x.edges (argument_pushed t block) s x.to.listed long k e (x.to.complete k e (ap (λ z. slice_get z e) (sym (stay.successors k)) ∙ listed))
      where
        long : EdgesLengthened m shortened index value x.edges (argument_pushed t block) s
        long = subst (EdgesLengthened m shortened index value x.edges (argument_pushed t block)) (sym x.pushed) (lengthened_pushed m can_fold SameTests shortened law block index value x.edges t x.longer x.lengthened)

    record ForwardsEither (k e : ℕ) : Type 0 where
      pub v : ℕ
      pub forwards : ForwardsThere m u k e index v
      pub named : In v (operands_of u k)
      pub either : (v ≡ value) ⊎ (v ≡ argument)

    forwards_either : (k e : ℕ) → slice_get (successors_of u k) e ≡ Some block → ForwardsEither k e
    forwards_either k e listed = record {
      v = from.0;
      forwards = λ z ze. subst (λ a. (p : ℕ) × (slice_get (m.forwarded (shape_of m u a) e) index ≡ Some p) × (slice_get a.operands p ≡ Some from.0)) (some_is (sym oe ∙ ze)) (here.0, ap (λ z. slice_get (m.forwarded z e) index) (shape_renamed u s rename r m o) ∙ here.1, from.1);
      named = in_slice (operands_of u k) here.0 from.0 from.1;
      either = ⊎_elim (λ q. inr q) (λ ne. inl (sym (ap (λ b. if b then value else from.0) (ne_eqb from.0 argument ne)) ∙ from.2)) (cases_eq from.0 argument);
    }
      where
        live : (h : Head) × (head_of u k ≡ Some h)
        live = leader_live u w' k block (in_slice (successors_of u k) e block listed)

        o : Operation
        o = operation_of u k live.0

        oe : op_at u k ≡ Some o
        oe = make_op u k live.0 live.1

        here : (p : ℕ) × (slice_get (m.forwarded (shape_of m s (record o { operands = map rename o.operands })) e) index ≡ Some p) × (slice_get (map rename o.operands) p ≡ Some value)
        here = forwarded_before k e listed (record o { operands = map rename o.operands }) (op_renamed u s rename r k o oe)

        from : (a : ℕ) × (slice_get o.operands here.0 ≡ Some a) × (rename a ≡ value)
        from = mapped_from rename o.operands here.0 value here.2

    pub one_value : ((k : ℕ) × In block (successors_of t k) × (In k users → ⊥)) → IsOneValue m u block index value
    one_value some = record {
      argument = argument;
      apart = apart;
      there = there;
      no_entry = λ q e f. more.no_entry q (r.block_parents block ∙ e) (ap (λ z. first_of z None) (r.layouts q) ∙ f);
      branches = λ k i h hd. more.branches k (subst (In block) (sym (r.successors k)) i) h (ap (λ z. z.head) (r.rows k) ∙ hd);
      edges = λ k e listed.
          let f = forwards_either k e listed in
          let at = forwarded_at m u k e index f.v f.forwards in
          ⊎_elim
          (λ q. inl (subst (λ z. IsForwardedAt m u k e index (Some z)) q at))
          (λ q. inr (subst (λ z. IsForwardedAt m u k e index (Some z)) q at))
          f.either;
      some_edge = forwarded;
    }
      where
        leads : (e : ℕ) × (slice_get (successors_of u some.0) e ≡ Some block)
        leads =
            let n = slice_in (successors_of t some.0) block some.1 in
            (n.0, ap (λ z. slice_get z n.0) (stay.successors some.0) ∙ n.1)

        forwarded : IsForwardedThere m u block index value
        forwarded =
            let f = forwards_either some.0 leads.0 leads.1 in
            record {
              branch = some.0;
              edge = leads.0;
              leads = leads.1;
              forwards = ⊎_elim
                  (λ q. subst (λ z. IsForwardedAt m u some.0 leads.0 index (Some z)) q (forwarded_at m u some.0 leads.0 index f.v f.forwards))
                  (λ q. absurd (some.2 (y.alone some.0 (subst (λ z. In z (operands_of u some.0)) q f.named))))
                  f.either;
            }

    -- ---- what uses the argument may do so

    kept : KeepsPlaces t u
    kept = places t u value stay

    held_forth : (root b : ℕ) → HoldsBlock t root b → HoldsBlock u root b
    held_forth root b h = (h.0, same_block_holder kept b ∙ h.1, within_forth kept root h.0 h.2)

    held_back : (root b : ℕ) → HoldsBlock u root b → HoldsBlock t root b
    held_back root b h = (h.0, sym (same_block_holder kept b) ∙ h.1, within_back kept root h.0 h.2)

    behind_still : (c k : ℕ) → StandsBehind t c k → StandsBehind u c k
    behind_still c k b = record {
      around = b.around;
      holds = within_forth kept b.around k b.holds;
      stands = b.stands;
      region = b.region;
      in_block = stay.parents b.around ∙ b.in_block;
      in_region = stay.block_parents b.stands ∙ b.in_region;
      beside = stay.block_parents c ∙ b.beside;
      passes = λ first before fe pe. b.passes first before (ap (λ z. first_of z None) (sym (stay.layouts b.region)) ∙ fe) (path_back t u value stay first b.stands before pe);
    }

    dominated : (k : ℕ) → StandsBehind u block k → IsDominated u k argument
    dominated k b = record {
      around = b.around;
      holds = b.holds;
      block = b.stands;
      region = b.region;
      in_block = b.in_block;
      in_region = b.in_region;
      defined = subst (λ d. up_from (defining_block u d) (λ c. block_parent_of u c) ≡ Some b.region) (sym defined) b.beside;
      passes = λ first before done rest fe pe be. subst (λ d. HasPassed u d before b.stands done) (sym defined) (b.passes first before fe pe);
    }

    may_use_still : (root c k : ℕ) → MayUseArguments t root c k → MayUseArguments u root c k
    may_use_still root c k a = record {
      own = λ i. held_forth root c (a.own (inside_back kept root k i));
      behind = λ h. behind_still c k (a.behind (held_back root c h));
    }

    may_use_argument : (root k : ℕ) → MayUseArguments t root block k → MayUse u root k argument
    may_use_argument root k a = record {
      own = λ i. subst (IsDefiningOperationInside u root) (sym defined) (held_forth root block (a.own (inside_back kept root k i)));
      no_jumper = λ j i ne n. let q = slice_in (results_of u j) argument n in absurd (differ (some_is (sym defined ∙ w'.joined.results j q.0 argument q.1)));
      dominated = λ d. dominated k (behind_still block k (a.behind (held_back root block (subst (IsDefiningOperationInside u root) defined d))));
    }
      where
        differ : {b i j n : ℕ} → Argument b i ≡ Result j n → ⊥
        differ e = grind (arith, e)

    pub passed_keeps : PushingLaw m → KeepsAllRuns m t s → KeepsAllRuns m s t → ((chosen : Head → Bool) (root k : ℕ) → IsFit (with_roots m chosen) t root → In k users → MayUseArguments t root block k) → ((k : ℕ) × In block (successors_of t k) × (In k users → ⊥)) → KeepsAllRuns m t u × KeepsAllRuns m u t
    unfolding one_value
    passed_keeps push forth back behind some =
        (λ chosen. keeps_trans (with_roots m chosen) t s u (forth chosen) (both chosen).0, λ chosen. keeps_trans (with_roots m chosen) u s t (both chosen).1 (back chosen))
      where
        both : (chosen : Head → Bool) → KeepsRuns (with_roots m chosen) s u × KeepsRuns (with_roots m chosen) u s
        both chosen = push chosen s u block index value w' (one_value some) y.back (λ root f k i. may_use_argument root k (behind chosen root k (fit_back (with_roots m chosen) t s (forth chosen) (back chosen) root f) (y.alone k i)))

    -- ---- other values may be passed then

    pub successors_still : (k : ℕ) → successors_of u k ≡ successors_of t k
    successors_still = stay.successors

    -- operations name what they named, the value where they lead to the block, or the argument
    pub named_leading : (k v : ℕ) → argument ≢ v → In v (operands_of u k) → In v (operands_of t k) ⊎ ((v ≡ value) × In block (successors_of t k))
    named_leading k v ne i = ⊎_elim
        (λ leads. ⊎_elim (λ j. inl j) (λ q. inr (q, leads)) (named_still k v ne i))
        (λ out. inl (subst (In v) (untouched m can_fold SameTests shortened law index value block x.edges t x.longer x.to.listed x.lengthened k out) (subst (λ z. In v (operands_of z k)) x.pushed (named_before k v ne i))))
        (decide_in block (successors_of t k))

    -- all else is as it was
    row_before : (k : ℕ) → (In block (successors_of t k) → ⊥) → row_of u k ≡ row_of t k
    row_before k out = sym (r.rows k) ∙ (not_leading m can_fold SameTests shortened law block (lengthening m can_fold SameTests shortened law) t s value argument w is entry x k out).0

    operands_before : (k : ℕ) → (In block (successors_of t k) → ⊥) → map rename (operands_of u k) ≡ operands_of t k
    operands_before k out = sym (r.operands k) ∙ (not_leading m can_fold SameTests shortened law block (lengthening m can_fold SameTests shortened law) t s value argument w is entry x k out).1

    regions_same : (k : ℕ) → regions_of u k ≡ regions_of t k
    regions_same k = sym (ap (λ z. z.regions) (r.rows k)) ∙ ap (λ z. regions_of z k) x.pushed ∙ (frame m can_fold SameTests shortened law block (lengthening m can_fold SameTests shortened law) t s value argument w is entry x).regions k

    counted : length u.operations ≡ length t.operations
    counted = sym (ap (λ z. length z.operations) y.back) ∙ ap (λ z. length z.operations) x.pushed ∙ (frame m can_fold SameTests shortened law block (lengthening m can_fold SameTests shortened law) t s value argument w is entry x).count

    live_before : (k : ℕ) → IsLive u k → IsLive t k
    live_before k l = go (head_of t k) refl
      where
        go : (o : Option Head) → head_of t k ≡ o → IsLive t k
        go (Some h) e = subst IsSome (sym e) refl
        go None e = subst (λ z. IsSome z.head) (row_before k (λ i. subst (In block) (w.joined.erased k e).1 i)) l

    arguments_same : (b : ℕ) → b ≢ block → arguments_of u b ≡ arguments_of t b
    arguments_same b ne = sym (r.arguments b) ∙ other m can_fold SameTests shortened law block (lengthening m can_fold SameTests shortened law) t s value argument w is entry x b ne

    new_value : (v : ℕ) → IsDefined u v → IsDefined t v ⊎ ((i : ℕ) × (definition_of u v ≡ Some (Argument block i)))
    new_value v h = let d = maker_is u v h in go d.0 d.1 d.2
      where
        go : (d : Def) → definition_of u v ≡ Some d → IsMadeBy u v (Some d) → IsDefined t v ⊎ ((i : ℕ) × (definition_of u v ≡ Some (Argument block i)))
        go (Result k i) e j =
            let there : slice_get (results_of t k) i ≡ Some v = ap (λ z. slice_get z i) (sym (stay.results k)) ∙ j in
            inl (subst (IsMadeBy t v) (sym (w.joined.results k i v there)) there)
        go (Argument b i) e j = ⊎_elim
            (λ q. inr (i, e ∙ ap (λ z. Some (Argument z i)) q))
            (λ ne.
            let there : slice_get (arguments_of t b) i ≡ Some v = ap (λ z. slice_get z i) (sym (arguments_same b ne)) ∙ j in
            inl (subst (IsMadeBy t v) (sym (w.joined.arguments b i v there)) there))
            (cases_eq b block)

    admitted_renamed : (k : ℕ) → IsAdmitted m s k → IsAdmitted m u k
    admitted_renamed k a = admitted_same m s u k
        (sym (ap (λ z. z.head) (r.rows k)))
        (sym (length-map (operands_of u k) rename) ∙ sym (ap length (r.operands k)))
        (sym (ap (λ z. length z.results) (r.rows k)))
        (sym (ap length (r.successors k)))
        (sym (ap (λ z. length z.regions) (r.rows k)))
        a

    pub besides : KeepsBesides m t u block users
    besides = record {
      count = counted;
      live = λ k. (live_before k, λ l. subst (λ z. IsSome z.head) (r.rows k) (live_still k l));
      results = stay.results;
      regions = regions_same;
      successors = stay.successors;
      parents = stay.parents;
      bodies = stay.bodies;
      block_parents = stay.block_parents;
      layouts = stay.layouts;
      slots = stay.slots;
      arguments = arguments_same;
      rows = row_before;
      operands = λ k out free. unused_items argument value (operands_of u k) (λ i. free (y.alone k i)) ∙ operands_before k out;
      defined = defined_still;
      definitions = λ v h. (keeps_ways v h).definition;
      new = new_value;
      admitted = λ k a. ⊎_elim
          (λ i. admitted_renamed k (leading_admitted m can_fold SameTests shortened law block (lengthening m can_fold SameTests shortened law) t s value argument w is entry x k a i))
          (λ out.
          let n = not_leading m can_fold SameTests shortened law block (lengthening m can_fold SameTests shortened law) t s value argument w is entry x k out in
          admitted_renamed k (admitted_same m t s k (ap (λ z. z.head) n.0) (ap length n.1) (ap (λ z. length z.results) n.0) (ap length (successors_added k)) (ap (λ z. length z.regions) n.0) a))
          (decide_in block (successors_of t k));
    }
      where
        successors_added : (k : ℕ) → successors_of s k ≡ successors_of t k
        successors_added k = r.successors k ∙ stay.successors k

    module _ (b : ℕ) (values others : List ℕ) (may : MayPass m t b values others) (forth : KeepsAllRuns m t u) (back : KeepsAllRuns m u t) where
      before : (chosen : Head → Bool) (root : ℕ) → IsFit (with_roots m chosen) u root → IsFit (with_roots m chosen) t root
      before chosen root f = fit_back (with_roots m chosen) t u (forth chosen) (back chosen) root f

      pub may_still : MayPass m u b values others
      may_still = record {
        stands = subst IsSome (sym (stay.block_parents b)) may.stands;
        no_entry = λ e. may.no_entry (e.0, sym (stay.block_parents b) ∙ e.1, ap (λ z. first_of z None) (sym (stay.layouts e.0)) ∙ e.2);
        defined = λ v i. defined_still v (may.defined v i);
        may_use = λ chosen root k v f j i. usable_forth t u v (keeps_ways v (may.defined v i)) root k (may.may_use chosen root k v (before chosen root f) (subst (In b) (stay.successors k) j) i);
        some_edge = (may.some_edge.0, subst (In b) (sym (stay.successors may.some_edge.0)) may.some_edge.1, may.some_edge.2);
        live = λ k i. subst (λ z. IsSome z.head) (r.rows k) (live_still k (may.live k i));
        behind = λ chosen root k f i. may_use_still root b k (may.behind chosen root k (before chosen root f) i);
      }
