-- The places of a run of a tree with closed copies, and the data of what may be used there.
use Rattle.std.proofs.Common.{◌≡◌, ◌≢◌, ◌⊎◌, inl, inr, ⊎_elim, ℕ, List, [], ◌∷◌, ◌++◌, map, Option, Some, None, IsSome, slice_get, refl, sym, ap, ◌∙◌, subst, append_assoc}
use Rattle.std.proofs.lemmas.Bool.{cases_eq}
use Rattle.pliron_core.specs.declared.context.Def.{Def}
use Rattle.pliron_core.specs.declared.context.Def.TheVariants.{Result, Argument}
use Rattle.pliron_core.specs.Changes.{IsDefinedInside}
use Rattle.pliron_core.specs.Edges.{succs_from}
use Rattle.pliron_core.specs.Tree.{Tree, In, first_of, last_of, IsMadeBy, IsInside, IsInside.Directly, IsWithin, operands_of, successors_of, results_of, regions_of, parent_of, body_of, arguments_of, block_parent_of, layout_of, region_parent_of, block_parent_operation_of, parent_operation_of, definition_of, up_from, op_of_slot}
use Rattle.pliron_core.specs.Invariant.{IsTree}
use Rattle.pliron_core.proofs.HoldingLemmas.{some_is, not_none, in_slice, slice_in, maker_is, holder_by, inside_by, not_itself}
use Rattle.pliron_core.proofs.ListLemmas.{In-cases, In-right, decide_in}
use Rattle.pliron_core.proofs.NeighbourLemmas.{first_of-In}
use Rattle.pliron_laws.specs.Datum.{Datum, Meaning}
use Rattle.pliron_laws.specs.States.{Environment, bind}
use Rattle.pliron_laws.specs.Paths.{Path, Leads}
use Rattle.pliron_laws.specs.Root.{defining_block, HasPassed, WellDefined}
use Rattle.pliron_laws.specs.Linked.{EndsBlock}
use Rattle.pliron_theory.proofs.Bound.{last_ends, home_of, Missed}
use Rattle.pliron_rewrite_copies.specs.Copies.{Originals, HasOriginals, IsUsedBeside, AreClosedCopies}
use Rattle.pliron_rewrite_copies.proofs.Maps.{in_map, from_map}
use Rattle.pliron_rewrite_copies.proofs.Covered.{original_def, region_forth, def_forth, defining_forth, inside_forth, same_value}
use Rattle.pliron_rewrite_copies.proofs.CopiedWays.{misses_copy, way_region}
use Rattle.pliron_rewrite_copies.proofs.TwinData.{IsTwin, twin_kept, twin_bound}

module _ (t u : Tree) (o : Originals) (w : IsTree t) (w' : IsTree u) (h : HasOriginals t u o) (copy header : ℕ → ℕ) (root : ℕ) (c : AreClosedCopies u o copy header root) where
  -- what is defined in no copy, or in the copy of the block
  abbrev pub IsInReach : (block v : ℕ) → Type 0
  IsInReach block v = (d : ℕ) → defining_block u (definition_of u v) ≡ Some d → (copy d ≡ 0) ⊎ (copy d ≡ copy block)

  -- the operations `rest` end a block in a region of `holder`, which is the root or inside it; each used value of the
  -- region that is in reach has the datum of its original, or some path to here missed what makes it
  pub record IsTwinPlace (env env' : Environment) (holder : ℕ) (rest : List ℕ) : Type 0 where
    pub within : IsWithin u root holder
    pub block : ℕ
    pub region : ℕ
    pub in_region : block_parent_of u block ≡ Some region
    pub held : region_parent_of u region ≡ Some holder
    pub held_before : region_parent_of t (o.region region) ≡ Some (o.operation holder)
    pub entry : ℕ
    pub entry_first : first_of (layout_of u region) None ≡ Some entry
    pub done : List ℕ
    pub split : body_of u block ≡ done ++ rest
    pub before : List ℕ
    pub way : Path u entry block before
    pub claims : (v user : ℕ) → In v (operands_of u user) → home_of u v ≡ Some region → IsInReach block v → IsTwin o.value env env' v ⊎ Missed u entry block done (definition_of u v)

  pub at_parent : (env env' : Environment) (g k : ℕ) (rest : List ℕ) (p : IsTwinPlace env env' g (k ∷ rest)) → parent_of u k ≡ Some p.block
  at_parent env env' g k rest p = w'.bodies.owned k p.block (subst (In k) (sym p.split) (In-right k p.done (k ∷ rest) (inl refl)))

  pub at_holder : (env env' : Environment) (g k : ℕ) (rest : List ℕ) → IsTwinPlace env env' g (k ∷ rest) → parent_operation_of u k ≡ Some g
  at_holder env env' g k rest p = holder_by u k p.block g (at_parent env env' g k rest p) (ap (λ z. up_from z (λ r. region_parent_of u r)) p.in_region ∙ p.held)

  pub at_inside : (env env' : Environment) (g k : ℕ) (rest : List ℕ) → IsTwinPlace env env' g (k ∷ rest) → IsInside u root k
  at_inside env env' g k rest p = inside_by g (at_holder env env' g k rest p) p.within

  made_by : (v user : ℕ) → In v (operands_of u user) → (d : Def) × (definition_of u v ≡ Some d) × IsMadeBy u v (Some d)
  made_by v user i = maker_is u v (w'.joined.operands user v i)

  -- the block that defines the value
  block_of_home : (o' : Option ℕ) (region : ℕ) → up_from o' (λ b. block_parent_of u b) ≡ Some region → (d : ℕ) × (o' ≡ Some d) × (block_parent_of u d ≡ Some region)
  block_of_home None region e = absurd (not_none e)
  block_of_home (Some d) region e = (d, refl, e)

  -- where values of a block are bound, those of it and of places around stay what they were
  module _ (block region : ℕ) (in_region : block_parent_of u block ≡ Some region) (vs : List ℕ) (made_here : (x : ℕ) → In x vs → (d : Def) × IsMadeBy u x (Some d) × (defining_block u (Some d) ≡ Some block)) where
    -- of the region, what is in reach and is none of these has another original
    apart_here : (v user : ℕ) → In v (operands_of u user) → home_of u v ≡ Some region → IsInReach block v → (x : ℕ) → In x vs → o.value x ≡ o.value v → x ≡ v
    apart_here v user i home reach x j e =
        let y = made_by v user i in
        let b = block_of_home (defining_block u (definition_of u v)) region home in
        let z = made_here x j in
        let one : o.block block ≡ o.block b.0 → block ≡ b.0 = λ s. sym (c.apart b.0 block region b.2 in_region (sym s) (turn (reach b.0 b.1))) in
        same_value t u o w w' h x v block b.0 z.0 y.0 z.1 y.2 z.2 (ap (defining_block u) (sym y.1) ∙ b.1) e one
      where
        turn : {p q : ℕ} → (p ≡ 0) ⊎ (p ≡ q) → (p ≡ q) ⊎ (p ≡ 0)
        turn (inl a) = inr a
        turn (inr a) = inl a

    home_before : (v user : ℕ) → In v (operands_of u user) → (r : ℕ) → home_of u v ≡ Some r → up_from (defining_block t (definition_of t (o.value v))) (λ b. block_parent_of t b) ≡ Some (o.region r)
    home_before v user i r home =
        let y = made_by v user i in
        let b = block_of_home (defining_block u (definition_of u v)) r home in
        ap (λ z. up_from z (λ b. block_parent_of t b)) (ap (defining_block t) (def_forth t u o w w' h v y.0 y.2) ∙ defining_forth t u o w w' h y.0 b.0 (ap (defining_block u) (sym y.1) ∙ b.1)) ∙ (h.blocks b.0 r b.2).parent

    -- of a region around, each has another original
    apart_around : (holder g r : ℕ) → region_parent_of t (o.region region) ≡ Some (o.operation holder) → region_parent_of t (o.region r) ≡ Some (o.operation g) → IsInside u g holder → (v user : ℕ) → In v (operands_of u user) → home_of u v ≡ Some r → In (o.value v) (map o.value vs) → ⊥
    apart_around holder g r held held' deep v user i home j =
        let k = from_map o.value vs (o.value v) j in
        let z = made_here k.0 k.1 in
        let there : up_from (defining_block t (definition_of t (o.value v))) (λ b. block_parent_of t b) ≡ Some (o.region region) =
        ap (λ a. up_from (defining_block t (definition_of t a)) (λ b. block_parent_of t b)) (sym k.2) ∙ ap (λ a. up_from a (λ b. block_parent_of t b)) (ap (defining_block t) (def_forth t u o w w' h k.0 z.0 z.1) ∙ defining_forth t u o w w' h z.0 block z.2) ∙ (h.blocks block region in_region).parent in
        let same : o.region r ≡ o.region region = some_is (sym (home_before v user i r home) ∙ there) in
        let holders : o.operation g ≡ o.operation holder = some_is (sym held' ∙ ap (region_parent_of t) same ∙ held) in
        not_itself w.joined.rooted (subst (IsInside t (o.operation g)) (sym holders) (inside_forth t u o w w' h g holder deep))

    -- a place around keeps its claims
    pub around_kept : (holder g : ℕ) → region_parent_of t (o.region region) ≡ Some (o.operation holder) → IsInside u g holder → (ds : List Datum) (env env' e e' : Environment) → bind env vs ds ≡ Some e → bind env' (map o.value vs) ds ≡ Some e' → (rest : List ℕ) → IsTwinPlace env env' g rest → IsTwinPlace e e' g rest
    around_kept holder g held deep ds env env' e e' b b' rest p = record {
      within = p.within;
      block = p.block;
      region = p.region;
      in_region = p.in_region;
      held = p.held;
      held_before = p.held_before;
      entry = p.entry;
      entry_first = p.entry_first;
      done = p.done;
      split = p.split;
      before = p.before;
      way = p.way;
      claims = λ v user i home reach. ⊎_elim
          (λ x. inl (twin_kept o.value vs ds env env' e e' b b' v (apart_around holder g p.region held p.held_before deep v user i home) x))
          (λ x. inr x)
          (p.claims v user i home reach);
    }

    -- what is in reach keeps its datum, or is bound
    here_kept : (ds : List Datum) (env env' e e' : Environment) → bind env vs ds ≡ Some e → bind env' (map o.value vs) ds ≡ Some e' → (v user : ℕ) → In v (operands_of u user) → home_of u v ≡ Some region → IsInReach block v → (In v vs → ⊥) → IsTwin o.value env env' v → IsTwin o.value e e' v
    here_kept ds env env' e e' b b' v user i home reach out x =
        twin_kept o.value vs ds env env' e e' b b' v (λ j. let k = from_map o.value vs (o.value v) j in out (subst (λ z. In z vs) (apart_here v user i home reach k.0 k.1 k.2) k.1)) x

    here_bound : (ds : List Datum) (env env' e e' : Environment) → bind env vs ds ≡ Some e → bind env' (map o.value vs) ds ≡ Some e' → (v user : ℕ) → In v (operands_of u user) → home_of u v ≡ Some region → IsInReach block v → In v vs → IsTwin o.value e e' v
    here_bound ds env env' e e' b b' v user i home reach j = twin_bound o.value vs ds env env' e e' b b' v (apart_here v user i home reach) j

  pub result_here : (k block : ℕ) → parent_of u k ≡ Some block → (x : ℕ) → In x (results_of u k) → (d : Def) × IsMadeBy u x (Some d) × (defining_block u (Some d) ≡ Some block)
  result_here k block e x i = let j = slice_in (results_of u k) x i in (Result k j.0, j.1, e)

  pub argument_here : (block x : ℕ) → In x (arguments_of u block) → (d : Def) × IsMadeBy u x (Some d) × (defining_block u (Some d) ≡ Some block)
  argument_here block x i = let j = slice_in (arguments_of u block) x i in (Argument block j.0, j.1, refl)

  not_there : (q k : ℕ) (done : List ℕ) → q ≢ k → In q (done ++ k ∷ []) → In q done
  not_there q k done ne i = ⊎_elim (λ j. j) (λ j. ⊎_elim (λ e. absurd (ne e)) (λ z. absurd z) j) (In-cases q done (k ∷ []) i)

  -- what an operation leads to is in the region
  pub target_region : (env env' : Environment) (g k d : ℕ) (rest : List ℕ) → In d (successors_of u k) → (p : IsTwinPlace env env' g (k ∷ rest)) → block_parent_of u d ≡ Some p.region
  target_region env env' g k d rest target p =
      let ends = c.edges k d target (inl (at_inside env env' g k rest p)) in
      ends.own_region d target ∙ ap (block_parent_of u) (some_is (sym ends.in_block ∙ at_parent env env' g k rest p)) ∙ p.in_region

  -- an operation gave its results
  pub after_give : (env env' e e' : Environment) (g k : ℕ) (rest : List ℕ) (ds : List Datum) → bind env (results_of u k) ds ≡ Some e → bind env' (map o.value (results_of u k)) ds ≡ Some e' → IsTwinPlace env env' g (k ∷ rest) → IsTwinPlace e e' g rest
  after_give env env' e e' g k rest ds b b' p = record {
    within = p.within;
    block = p.block;
    region = p.region;
    in_region = p.in_region;
    held = p.held;
    held_before = p.held_before;
    entry = p.entry;
    entry_first = p.entry_first;
    done = p.done ++ k ∷ [];
    split = p.split ∙ sym (append_assoc p.done (k ∷ []) rest);
    before = p.before;
    way = p.way;
    claims = λ v user i home reach. ⊎_elim
        (λ j. inl (here_bound p.block p.region p.in_region (results_of u k) results ds env env' e e' b b' v user i home reach j))
        (λ out. ⊎_elim
        (λ x. inl (here_kept p.block p.region p.in_region (results_of u k) results ds env env' e e' b b' v user i home reach out x))
        (λ x. inr (still v user i out (definition_of u v) refl x))
        (p.claims v user i home reach))
        (decide_in v (results_of u k));
  }
    where
      results : (x : ℕ) → In x (results_of u k) → (d : Def) × IsMadeBy u x (Some d) × (defining_block u (Some d) ≡ Some p.block)
      results = result_here k p.block (at_parent env env' g k rest p)

      still : (v user : ℕ) → In v (operands_of u user) → (In v (results_of u k) → ⊥) → (d : Option Def) → definition_of u v ≡ d → Missed u p.entry p.block p.done d → Missed u p.entry p.block (p.done ++ k ∷ []) d
      still v user i out None q x = record { before = x.before; path = x.path; missed = λ z. z }
      still v user i out (Some (Argument a j)) q x = record { before = x.before; path = x.path; missed = x.missed }
      still v user i out (Some (Result a j)) q x = record {
        before = x.before;
        path = x.path;
        missed = ⊎_elim
            (λ z. x.missed (inl (not_there a k p.done (λ s. out (subst (λ y. In v (results_of u y)) s (in_slice (results_of u a) j v (subst (IsMadeBy u v) q (w'.joined.operands user v i))))) z)))
            (λ z. x.missed (inr z));
      }

  -- a region is entered
  pub after_visit : (env env' e e' : Environment) (k i r a : ℕ) (ds : List Datum) → IsWithin u root k → slice_get (regions_of u k) i ≡ Some r → first_of (layout_of u r) None ≡ Some a → bind env (arguments_of u a) ds ≡ Some e → bind env' (map o.value (arguments_of u a)) ds ≡ Some e' → IsTwinPlace e e' k (body_of u a)
  after_visit env env' e e' k i r a ds within listed first b b' =
      let p = region_forth t u o w w' h k i r listed in
      record {
        within = within;
        block = a;
        region = r;
        in_region = in_region;
        held = p.0;
        held_before = p.1;
        entry = a;
        entry_first = first;
        done = [];
        split = refl;
        before = [];
        way = refl;
        claims = λ v user j home reach. ⊎_elim
            (λ x. inl (here_bound a r in_region (arguments_of u a) (argument_here a) ds env env' e e' b b' v user j home reach x))
            (λ out. inr (record { before = []; path = refl; missed = begins v user j out (definition_of u v) refl }))
            (decide_in v (arguments_of u a));
      }
    where
      in_region : block_parent_of u a ≡ Some r
      in_region = w'.layouts.owned a r (first_of-In a (layout_of u r) first)

      begins : (v user : ℕ) → In v (operands_of u user) → (In v (arguments_of u a) → ⊥) → (d : Option Def) → definition_of u v ≡ d → HasPassed u d [] a [] → ⊥
      begins v user j out None q = λ z. z
      begins v user j out (Some (Argument x n)) q = ⊎_elim (λ s. out (subst (λ z. In v (arguments_of u z)) s (in_slice (arguments_of u x) n v (subst (IsMadeBy u v) q (w'.joined.operands user v j))))) (λ z. z)
      begins v user j out (Some (Result x n)) q = ⊎_elim (λ z. z) (λ z. z.2)

  -- an edge is taken
  module _ (m : Meaning) (well : WellDefined m u root) where
    -- the value is defined in the copy that an edge from the block b to the block d enters
    abbrev IsEntered : (b d v : ℕ) → Type 0
    IsEntered b d v = (a : ℕ) × (defining_block u (definition_of u v) ≡ Some a) × (copy d ≢ 0) × (copy a ≡ copy d) × (copy b ≢ copy d)

    pub after_goto : (env env' e e' : Environment) (g k d : ℕ) (rest : List ℕ) (ds : List Datum) → In d (successors_of u k) → bind env (arguments_of u d) ds ≡ Some e → bind env' (map o.value (arguments_of u d)) ds ≡ Some e' → IsTwinPlace env env' g (k ∷ rest) → IsTwinPlace e e' g (body_of u d)
    after_goto env env' e e' g k d rest ds target b b' p = record {
      within = p.within;
      block = d;
      region = p.region;
      in_region = in_region;
      held = p.held;
      held_before = p.held_before;
      entry = p.entry;
      entry_first = p.entry_first;
      done = [];
      split = refl;
      before = p.block ∷ p.before;
      way = (leads, p.way);
      claims = λ v user i home reach. ⊎_elim
          (λ j. inl (here_bound d p.region in_region (arguments_of u d) (argument_here d) ds env env' e e' b b' v user i home reach j))
          (λ out. ⊎_elim
          (λ near. ⊎_elim
          (λ x. inl (here_kept d p.region in_region (arguments_of u d) (argument_here d) ds env env' e e' b b' v user i home reach out x))
          (λ x. inr (still v user i out (definition_of u v) refl x))
          (p.claims v user i home near))
          (λ far. inr (begins v user i out far (definition_of u v) refl))
          (near_or_far v home reach))
          (decide_in v (arguments_of u d));
    }
      where
        inside : IsInside u root k
        inside = at_inside env env' g k rest p

        ends : EndsBlock u k
        ends = c.edges k d target (inl inside)

        here : ends.block ≡ p.block
        here = some_is (sym ends.in_block ∙ at_parent env env' g k rest p)

        last : last_of None (body_of u p.block) ≡ Some k
        last = ap (λ z. last_of None (body_of u z)) (sym here) ∙ ends.last

        in_region : block_parent_of u d ≡ Some p.region
        in_region = target_region env env' g k d rest target p

        leads : Leads u p.block d
        leads = record { successor = subst (λ z. In d (succs_from u z)) (sym last) target; same_region = in_region ∙ sym p.in_region }

        none : rest ≡ []
        none = last_ends k p.done rest (body_of u p.block) (w'.bodies.distinct p.block) p.split last

        no_use : (v user : ℕ) → In v (operands_of u user) → In v (results_of u k) → ⊥
        no_use v user i j = well.unused k v user inside (λ q. subst (In d) q target) j i

        behind : (q : ℕ) → parent_of u q ≡ Some p.block → q ≢ k → In q p.done
        behind q s ne = not_there q k p.done ne (subst (In q) (p.split ∙ ap (λ l. p.done ++ k ∷ l) none) (w'.bodies.listed q p.block s))

        made : (v user : ℕ) → In v (operands_of u user) → (x : Option Def) → definition_of u v ≡ x → IsMadeBy u v x
        made v user i x q = subst (IsMadeBy u v) q (w'.joined.operands user v i)

        near_or_far : (v : ℕ) → home_of u v ≡ Some p.region → IsInReach d v → IsInReach p.block v ⊎ IsEntered p.block d v
        near_or_far v home reach = let a = block_of_home (defining_block u (definition_of u v)) p.region home in go a.0 a.1 (reach a.0 a.1)
          where
            near : (a : ℕ) → defining_block u (definition_of u v) ≡ Some a → (copy a ≡ 0) ⊎ (copy a ≡ copy p.block) → IsInReach p.block v
            near a q r x s = subst (λ z. (copy z ≡ 0) ⊎ (copy z ≡ copy p.block)) (some_is (sym q ∙ s)) r

            go : (a : ℕ) → defining_block u (definition_of u v) ≡ Some a → (copy a ≡ 0) ⊎ (copy a ≡ copy d) → IsInReach p.block v ⊎ IsEntered p.block d v
            go a q (inl z) = inl (near a q (inl z))
            go a q (inr s) = ⊎_elim
                (λ z. inl (near a q (inl (s ∙ z))))
                (λ ne. ⊎_elim
                (λ r. inl (near a q (inr (s ∙ sym r))))
                (λ out. inr (a, q, ne, s, out))
                (cases_eq (copy p.block) (copy d)))
                (cases_eq (copy d) 0)

        still : (v user : ℕ) → In v (operands_of u user) → (In v (arguments_of u d) → ⊥) → (x : Option Def) → definition_of u v ≡ x → Missed u p.entry p.block p.done x → Missed u p.entry d [] x
        still v user i out None q x = record { before = p.block ∷ x.before; path = (leads, x.path); missed = λ z. z }
        still v user i out (Some (Argument a j)) q x = record {
          before = p.block ∷ x.before;
          path = (leads, x.path);
          missed = ⊎_elim (λ s. out (subst (λ z. In v (arguments_of u z)) s (in_slice (arguments_of u a) j v (made v user i _ q)))) x.missed;
        }
        still v user i out (Some (Result a j)) q x = record {
          before = p.block ∷ x.before;
          path = (leads, x.path);
          missed = ⊎_elim (λ z. z) (λ z. ⊎_elim (λ s. x.missed (inl (behind a (z.1 ∙ ap Some s) (λ f. no_use v user i (subst (λ y. In v (results_of u y)) f (in_slice (results_of u a) j v (made v user i _ q))))))) (λ y. x.missed (inr (z.0, z.1, y))) z.2);
        }

        begins : (v user : ℕ) → In v (operands_of u user) → (In v (arguments_of u d) → ⊥) → IsEntered p.block d v → (x : Option Def) → definition_of u v ≡ x → Missed u p.entry d [] x
        begins v user i out far x q =
            let s : d ≡ header (copy d) = c.entered p.block d leads far.2 far.4 in
            let part = misses_copy u o copy header root c p.region p.entry p.entry_first (copy d) d (p.block ∷ p.before) (leads, p.way) far.2 refl s in
            record { before = part.0; path = part.1; missed = misses part.0 part.2 x q }
          where
            misses : (part : List ℕ) → ((z : ℕ) → In z part → copy z ≢ copy d) → (x : Option Def) → definition_of u v ≡ x → HasPassed u x part d [] → ⊥
            misses part none_there None q = λ z. z
            misses part none_there (Some (Argument a j)) q = ⊎_elim
                (λ s. out (subst (λ z. In v (arguments_of u z)) s (in_slice (arguments_of u a) j v (made v user i _ q))))
                (λ k. none_there a k (ap copy (some_is (ap (defining_block u) (sym q) ∙ far.1)) ∙ far.3))
            misses part none_there (Some (Result a j)) q = ⊎_elim
                (λ z. z)
                (λ z. none_there z.0 z.2 (ap copy (some_is (sym z.1 ∙ ap (defining_block u) (sym q) ∙ far.1)) ∙ far.3))
