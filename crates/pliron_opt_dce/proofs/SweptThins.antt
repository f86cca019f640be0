-- Operations go with their contents, all of whose uses are dead: less dead things.
use Rattle.std.proofs.Common.{◌≡◌, ◌⊎◌, inl, inr, ℕ, Bool, true, false, List, [], ◌∷◌, length, Option, Some, None, IsSome, slice_get, refl, sym, ap, ◌∙◌, subst, arith}
use Rattle.std.proofs.lemmas.Option.{slice_get_within}
use Rattle.std.specs.List.{range_with_len}
use Rattle.pliron_core.specs.declared.context.Def.{Def}
use Rattle.pliron_core.specs.declared.context.Def.TheVariants.{Result, Argument}
use Rattle.pliron_core.specs.Changes.{IsDefinedInside, IsDefiningOperationInside}
use Rattle.pliron_core.specs.Tree.{Tree, In, IsLive, IsDefined, IsMadeBy, IsInside, IsWithin, HoldsBlock, head_of, operands_of, successors_of, results_of, regions_of, arguments_of, block_parent_of, slot_of, block_parent_operation_of, definition_of, first_of, last_of, body_of, layout_of}
use Rattle.pliron_core.specs.Invariant.{IsTree}
use Rattle.pliron_core.proofs.GrownLemmas.{range_at}
use Rattle.pliron_core.proofs.HoldingLemmas.{some_is, some_of, in_slice, slice_in, maker_is, argument_stands, result_live}
use Rattle.pliron_laws.specs.Datum.{Head, Meaning}
use Rattle.pliron_laws.specs.Tree.{op_at}
use Rattle.pliron_laws.specs.Linked.{IsWellLinked, EndsBlock}
use Rattle.pliron_laws.specs.Answers.{ReadsPlace, is_first}
use Rattle.pliron_theory.specs.Sweeping.{swept, is_maker_dead, IsSwept, AreAway}
use Rattle.pliron_theory.proofs.SweptLists.{first_swept, last_swept}
use Rattle.pliron_theory.proofs.SweptRecords.{op_same, shape_swept}
use Rattle.pliron_theory.proofs.SweptStays.{admitted_same}
use Rattle.pliron_theory.proofs.SweptParts.{block_place_of, block_place_back, block_place_forth, within_forth, inside_forth, made_forth, made_same, block_lives, user_lives, jumper_lives, inside_back, inside_lives, within_back, made_back}
use Rattle.pliron_opt_dce.specs.Dead.{Use, IsDead, MayBeErased, MayBeRemoved, KeepsAlive, OfResult, OfInside, ForwardsToArgument}
use Rattle.pliron_opt_dce.proofs.Thinned.{IsThinned, Fate, Went, Stands}
use Rattle.pliron_opt_dce.proofs.PlaceLists.{range_get}
use Rattle.pliron_opt_dce.proofs.RemovedThins.{inside_live, used_live}

module _ (m : Meaning) (t t' : Tree) (dead dead_block : ℕ → Bool) (w : IsTree t) (w' : IsTree t') (h : IsSwept t t' dead dead_block) (g : AreAway t' dead dead_block) (deleted : (k : ℕ) → dead k ≡ true → head_of t' k ≡ None) where
  lives : (k : ℕ) → IsLive t' k → dead k ≡ false
  lives k l = go (dead k) refl
    where
      go : (b : Bool) → dead k ≡ b → dead k ≡ false
      go true d = let e : None ≡ Some (some_of (head_of t' k) l).0 = sym (deleted k d) ∙ (some_of (head_of t' k) l).1 in absurd (cc)
      go false d = d

  head_same : (k : ℕ) → dead k ≡ false → head_of t' k ≡ head_of t k
  head_same k l = ap (λ z. z.head) (h.rows k l)

  -- a tree that was well linked at a root that stands is so again
  pub swept_linked : (root : ℕ) → IsWellLinked m t root → dead root ≡ false → IsWellLinked m t' root
  swept_linked root linked left = record {
    edges = λ k s i held. edge k s i held;
    admitted = λ k i.
        let lk = within_lives k i in
        admitted_same m t t' k (head_same k lk) (ap length (h.operands k lk)) (ap (λ z. length z.results) (h.rows k lk)) (ap length (h.successors k lk)) (ap (λ z. length z.regions) (h.rows k lk)) (linked.admitted k (within_back t t' dead dead_block w w' h g root k i));
  }
    where
      within_lives : (k : ℕ) → IsWithin t' root k → dead k ≡ false
      within_lives k (inl e) = ap dead e ∙ left
      within_lives k (inr i) = inside_lives t t' dead dead_block w w' h g root k i

      held_back : (k s : ℕ) → IsInside t' root k ⊎ HoldsBlock t' root s → IsInside t root k ⊎ HoldsBlock t root s
      held_back k s (inl i) = inl (inside_back t t' dead dead_block w w' h g root k i)
      held_back k s (inr x) = inr (x.0, (block_place_back t t' dead dead_block w w' h g s x.0 x.1).0, within_back t t' dead dead_block w w' h g root x.0 x.2)

      edge : (k s : ℕ) → In s (successors_of t' k) → IsInside t' root k ⊎ HoldsBlock t' root s → EndsBlock t' k
      edge k s i held =
          let lk = jumper_lives t t' dead dead_block w w' h g k s i in
          let old = λ (z : ℕ) (j : In z (successors_of t' k)). subst (In z) (h.successors k lk) j in
          let ends = linked.edges k s (old s i) (held_back k s held) in
          let lb = h.holders k ends.block ends.in_block lk in
          record {
            block = ends.block;
            in_block = h.parents k lk ∙ ends.in_block;
            last = ap (last_of None) (h.bodies ends.block lb) ∙ last_swept dead k (body_of t ends.block) lk ends.last;
            own_region = λ z j. h.block_parents z (h.targets k z lk (old z j)) ∙ ends.own_region z (old z j) ∙ sym (h.block_parents ends.block lb);
          }

  module _ (side_effects : Head → Option Bool) (removable : Head → ℕ → Bool → Option Bool) (root : ℕ) (doomed : (user place : ℕ) → dead user ≡ true → IsDead m side_effects removable t root (Use user place)) (jumpers : (k b : ℕ) → HoldsBlock t root b → In b (successors_of t k) → dead_block b ≡ false → dead k ≡ false) (apart : (k v user : ℕ) → dead k ≡ false → IsDefinedInside t k v → is_maker_dead dead dead_block (definition_of t v) ≡ true → dead user ≡ true → IsWithin t k user) where
    abbrev kept : ℕ → List ℕ
    kept k = range_with_len 0 (length (operands_of t k))

    same_place : (k place place' : ℕ) → slice_get (kept k) place' ≡ Some place → place ≡ place'
    same_place k place place' e = let r = range_at 0 (length (operands_of t k)) place' place e in omega (arith, r.0)

    kept_at : (k place v : ℕ) → slice_get (operands_of t k) place ≡ Some v → slice_get (kept k) place ≡ Some place
    kept_at k place v e = range_get 0 (length (operands_of t k)) place (slice_get_within (operands_of t k) place v e) ∙ ap Some (omega arith)

    operand_was : (user place' v : ℕ) → slice_get (operands_of t' user) place' ≡ Some v → (dead user ≡ false) × (slice_get (operands_of t user) place' ≡ Some v)
    operand_was user place' v e = let l = user_lives t t' dead dead_block w w' h g user v (in_slice (operands_of t' user) place' v e) in (l, ap (λ z. slice_get z place') (sym (h.operands user l)) ∙ e)

    fate : (user place v : ℕ) → slice_get (operands_of t user) place ≡ Some v → Fate m side_effects removable t t' root kept user place v
    fate user place v e = go (dead user) refl
      where
        go : (b : Bool) → dead user ≡ b → Fate m side_effects removable t t' root kept user place v
        go true d = Went (doomed user place d)
        go false l = Stands place (kept_at user place v e) (ap (λ z. slice_get z place) (h.operands user l) ∙ e)

    may_back : (k : ℕ) → MayBeErased m side_effects t' root k → MayBeErased m side_effects t root k
    may_back k y =
        let e = head_same k (inside_lives t t' dead dead_block w w' h g root k y.inside) in
        record { inside = inside_back t t' dead dead_block w w' h g root k y.inside; harmless = λ x q. y.harmless x (e ∙ q); plain = λ x q. y.plain x (e ∙ q) }

    may_forth : (k : ℕ) → IsLive t' k → MayBeErased m side_effects t root k → MayBeErased m side_effects t' root k
    may_forth k l y =
        let lk = lives k l in
        let e = head_same k lk in
        record { inside = (inside_forth t t' dead dead_block w w' h root k lk y.inside).0; harmless = λ x q. y.harmless x (sym e ∙ q); plain = λ x q. y.plain x (sym e ∙ q) }

    first_same : (k r : ℕ) → dead k ≡ false → In r (regions_of t k) → first_of (layout_of t' r) None ≡ first_of (layout_of t r) None
    first_same k r l i = ap (λ z. first_of z None) (h.layouts k r l i) ∙ go (layout_of t r) (λ b e. h.entries k r b l i e)
      where
        go : (xs : List ℕ) → ((b : ℕ) → first_of xs None ≡ Some b → dead_block b ≡ false) → first_of (swept dead_block xs) None ≡ first_of xs None
        go [] alive = refl
        go (x ∷ xs) alive = first_swept dead_block x (x ∷ xs) (alive x refl) refl

    -- the answer on removal reads the same
    allowed_back : (k b : ℕ) → block_parent_operation_of t' b ≡ Some k → ReadsPlace removable t' k b (Some true) → ReadsPlace removable t k b (Some true)
    allowed_back k b e a x r i hd bp sl =
        let p = block_place_back t t' dead dead_block w w' h g b k e in
        let q = block_place_of t' w' b k e in
        let sr : r ≡ q.region = some_is (sym bp ∙ sym (h.block_parents b p.1) ∙ q.in_region) in
        let listed : slice_get (regions_of t k) q.index ≡ Some q.region = ap (λ z. slice_get z.regions q.index) (sym (h.rows k p.2)) ∙ q.listed in
        let slot : slot_of t r ≡ Some (record { op = k; index = q.index }) = ap (slot_of t) sr ∙ w.joined.regions k q.index q.region listed in
        let si : i ≡ q.index = ap (λ z. z.index) (some_is (sym sl ∙ slot)) in
        let slot' : slot_of t' r ≡ Some (record { op = k; index = i }) = ap (slot_of t') sr ∙ q.slot ∙ ap (λ z. Some (record { op = k; index = z })) (sym si) in
        let inner : In r (regions_of t k) = subst (λ z. In z (regions_of t k)) (sym sr) (in_slice (regions_of t k) q.index q.region listed) in
        a x r i (head_same k p.2 ∙ hd) (h.block_parents b p.1 ∙ bp) slot' ∙ ap (λ z. removable x i (is_first b z)) (first_same k r p.2 inner)

    allowed_forth : (k b : ℕ) → block_parent_operation_of t' b ≡ Some k → ReadsPlace removable t k b (Some true) → ReadsPlace removable t' k b (Some true)
    allowed_forth k b e a x r i hd bp sl =
        let p = block_place_back t t' dead dead_block w w' h g b k e in
        let q = block_place_of t w b k p.0 in
        let sr : r ≡ q.region = some_is (sym bp ∙ h.block_parents b p.1 ∙ q.in_region) in
        let listed : slice_get (regions_of t' k) q.index ≡ Some q.region = ap (λ z. slice_get z.regions q.index) (h.rows k p.2) ∙ q.listed in
        let slot : slot_of t' r ≡ Some (record { op = k; index = q.index }) = ap (slot_of t') sr ∙ w'.joined.regions k q.index q.region listed in
        let si : i ≡ q.index = ap (λ z. z.index) (some_is (sym sl ∙ slot)) in
        let slot' : slot_of t r ≡ Some (record { op = k; index = i }) = ap (slot_of t) sr ∙ q.slot ∙ ap (λ z. Some (record { op = k; index = z })) (sym si) in
        let inner : In r (regions_of t k) = subst (λ z. In z (regions_of t k)) (sym sr) (in_slice (regions_of t k) q.index q.region q.listed) in
        a x r i (sym (head_same k p.2) ∙ hd) (sym (h.block_parents b p.1) ∙ bp) slot' ∙ ap (λ z. removable x i (is_first b z)) (sym (first_same k r p.2 inner))

    -- a block with arguments stands
    block_left : (b i v : ℕ) → slice_get (arguments_of t' b) i ≡ Some v → dead_block b ≡ false
    block_left b i v e = let s = some_of (block_parent_of t' b) (argument_stands t' w'.joined b i v e) in block_lives t t' dead dead_block w w' h g b s.0 s.1

    argument_back : (v : ℕ) → MayBeRemoved m removable t' root v → MayBeRemoved m removable t root v
    argument_back v y =
        let lb = block_left y.block y.index v y.argument in
        record {
          block = y.block;
          index = y.index;
          argument = ap (λ z. slice_get z y.index) (sym (h.arguments y.block lb)) ∙ y.argument;
          inside = (y.inside.0, (block_place_back t t' dead dead_block w w' h g y.block y.inside.0 y.inside.1).0, within_back t t' dead dead_block w w' h g root y.inside.0 y.inside.2);
          allowed = λ k e. let e' = (block_place_forth t t' dead dead_block w w' h y.block k lb e).0 in allowed_back k y.block e' (y.allowed k e');
          branches = λ k i e q.
              let inner : HoldsBlock t root y.block = (y.inside.0, (block_place_back t t' dead dead_block w w' h g y.block y.inside.0 y.inside.1).0, within_back t t' dead dead_block w w' h g root y.inside.0 y.inside.2) in
              let lk = jumpers k y.block inner i lb in
              y.branches k (subst (In y.block) (sym (h.successors k lk)) i) e (head_same k lk ∙ q);
        }

    argument_forth : (v : ℕ) → IsDefined t' v → MayBeRemoved m removable t root v → MayBeRemoved m removable t' root v
    argument_forth v d y = go lb
      where
        all_in_place : dead_block y.block ≡ false
        all_in_place = made (maker_is t' v d).0 (maker_is t' v d).1 (maker_is t' v d).2
          where
            made : (q : Def) → definition_of t' v ≡ Some q → IsMadeBy t' v (Some q) → dead_block y.block ≡ false
            made (Result k i) e q =
                let l = lives k (result_live t' w'.joined k i v q) in
                let e0 : definition_of t v ≡ Some (Result k i) = w.joined.results k i v (ap (λ z. slice_get z.results i) (sym (h.rows k l)) ∙ q) in
                let f : Some (Result k i) ≡ Some (Argument y.block y.index) = sym e0 ∙ w.joined.arguments y.block y.index v y.argument in
                absurd (cc)
            made (Argument b i) e q =
                let l = block_left b i v q in
                let e0 : definition_of t v ≡ Some (Argument b i) = w.joined.arguments b i v (ap (λ z. slice_get z i) (sym (h.arguments b l)) ∙ q) in
                let f : Some (Argument b i) ≡ Some (Argument y.block y.index) = sym e0 ∙ w.joined.arguments y.block y.index v y.argument in
                let sb : b ≡ y.block = cc in
                subst (λ z. dead_block z ≡ false) sb l

        lb : dead_block y.block ≡ false
        lb = all_in_place

        go : dead_block y.block ≡ false → MayBeRemoved m removable t' root v
        go lb =
            let held = block_place_forth t t' dead dead_block w w' h y.block y.inside.0 lb y.inside.1 in
            record {
              block = y.block;
              index = y.index;
              argument = ap (λ z. slice_get z y.index) (h.arguments y.block lb) ∙ y.argument;
              inside = (y.inside.0, held.0, (within_forth t t' dead dead_block w w' h root y.inside.0 held.1 y.inside.2).0);
              allowed = λ k e. allowed_forth k y.block e (y.allowed k (block_place_back t t' dead dead_block w w' h g y.block k e).0);
              branches = λ k i x q.
                  let lk = jumper_lives t t' dead dead_block w w' h g k y.block i in
                  y.branches k (subst (In y.block) (h.successors k lk) i) x (sym (head_same k lk) ∙ q);
            }

    pub swept_thins : IsThinned m side_effects removable t t' root
    swept_thins = record {
      kept = kept;
      live = λ k i. (inside_live t' w'.joined i).1;
      results_same = λ k l. results_same k (lives k l);
      made_forth = λ k v user l i j n. let lv = maker_lives k v user (lives k l) i j n in (all_in_place v user i lv, subst (IsDefiningOperationInside t' k) (sym (made_same t t' dead dead_block w w' h v (w.joined.operands user v i) lv)) (made_forth t t' dead dead_block w w' h k (definition_of t v) lv j));
      live_before = λ k l. subst (λ z. IsSome z.head) (h.rows k (lives k l)) l;
      defined_before = λ v d. let y = maker_is t' v d in defined_back v y.0 y.2;
      within_back = within_back t t' dead dead_block w w' h g;
      within_forth = λ a k l i. let j = (within_forth t t' dead dead_block w w' h a k (lives k l) i) in (around a k l j.0, j.0);
      may_back = may_back;
      may_forth = may_forth;
      argument_back = argument_back;
      argument_forth = argument_forth;
      fate = fate;
      operand_back = λ user place' v e. let y = operand_was user place' v e in (used_live t' w'.joined user v (in_slice (operands_of t' user) place' v e), place', kept_at user place' v y.1, y.1);
      holds_back = holds_back;
      holds_forth = holds_forth;
      forwarded_back = forwarded_back;
      forwarded_forth = forwarded_forth;
    }
      where
        results_same : (k : ℕ) → dead k ≡ false → results_of t' k ≡ results_of t k
        results_same k l = ap (λ z. z.results) (h.rows k l)

        -- what is defined inside an operation that is left, and is used outside it, is left
        maker_lives : (k v user : ℕ) → dead k ≡ false → In v (operands_of t user) → IsDefinedInside t k v → (IsWithin t k user → ⊥) → is_maker_dead dead dead_block (definition_of t v) ≡ false
        maker_lives k v user l i j n = go (is_maker_dead dead dead_block (definition_of t v)) refl (dead user) refl
          where
            go : (b : Bool) → is_maker_dead dead dead_block (definition_of t v) ≡ b → (c : Bool) → dead user ≡ c → is_maker_dead dead dead_block (definition_of t v) ≡ false
            go false e c q = e
            go true e true q = absurd (n (apart k v user l j e q))
            go true e false q = h.values user v q i

        all_in_place : (v user : ℕ) → In v (operands_of t user) → is_maker_dead dead dead_block (definition_of t v) ≡ false → IsDefined t' v
        all_in_place v user i l = let y = maker_is t v (w.joined.operands user v i) in go y.0 y.1 y.2 (subst (λ z. is_maker_dead dead dead_block z ≡ false) y.1 l)
          where
            go : (q : Def) → definition_of t v ≡ Some q → IsMadeBy t v (Some q) → is_maker_dead dead dead_block (Some q) ≡ false → IsDefined t' v
            go (Result p n) e s lp =
                let s' = ap (λ z. slice_get z.results n) (h.rows p lp) ∙ s in
                subst (IsMadeBy t' v) (sym (w'.joined.results p n v s')) s'
            go (Argument b n) e s lb =
                let s' = ap (λ z. slice_get z n) (h.arguments b lb) ∙ s in
                subst (IsMadeBy t' v) (sym (w'.joined.arguments b n v s')) s'

        around : (a k : ℕ) → IsLive t' k → IsWithin t' a k → IsLive t' a
        around a k l (inl e) = subst (IsLive t') e l
        around a k l (inr i) = (inside_live t' w'.joined i).0

        defined_back : (v : ℕ) (q : Def) → IsMadeBy t' v (Some q) → IsDefined t v
        defined_back v (Result k i) e =
            let s = ap (λ z. slice_get z.results i) (sym (h.rows k (lives k (result_live t' w'.joined k i v e)))) ∙ e in
            subst (IsMadeBy t v) (sym (w.joined.results k i v s)) s
        defined_back v (Argument b i) e =
            let s = ap (λ z. slice_get z i) (sym (h.arguments b (block_left b i v e))) ∙ e in
            subst (IsMadeBy t v) (sym (w.joined.arguments b i v s)) s

        -- what has results stands
        owner_lives : (k v : ℕ) → In v (results_of t' k) → dead k ≡ false
        owner_lives k v i = let y = slice_in (results_of t' k) v i in lives k (result_live t' w'.joined k y.0 v y.1)

        -- what a left operation uses is made by the same
        same_maker : (user v : ℕ) → dead user ≡ false → In v (operands_of t user) → definition_of t' v ≡ definition_of t v
        same_maker user v l i = made_same t t' dead dead_block w w' h v (w.joined.operands user v i) (h.values user v l i)

        holds_back : (k user place place' : ℕ) → slice_get (kept user) place' ≡ Some place → KeepsAlive t' k user place' → KeepsAlive t k user place
        holds_back k user place place' e (OfResult v o i) =
            let y = operand_was user place' v o in
            OfResult v (ap (slice_get (operands_of t user)) (same_place user place place' e) ∙ y.1) (subst (In v) (results_same k (owner_lives k v i)) i)
        holds_back k user place place' e (OfInside v o i n) =
            let y = operand_was user place' v o in
            OfInside v (ap (slice_get (operands_of t user)) (same_place user place place' e) ∙ y.1)
            (made_back t t' dead dead_block w w' h g k (definition_of t v) (subst (IsDefiningOperationInside t' k) (same_maker user v y.0 (in_slice (operands_of t user) place' v y.1)) i))
            (λ j. n (within_forth t t' dead dead_block w w' h k user y.0 j).0)

        holds_forth : (k user place place' v : ℕ) → slice_get (kept user) place' ≡ Some place → slice_get (operands_of t' user) place' ≡ Some v → IsLive t' k → KeepsAlive t k user place → KeepsAlive t' k user place'
        holds_forth k user place place' x e q l (OfResult v o i) =
            let y = operand_was user place' x q in
            OfResult v (ap (λ z. slice_get z place') (h.operands user y.0) ∙ ap (slice_get (operands_of t user)) (sym (same_place user place place' e)) ∙ o) (subst (In v) (sym (results_same k (lives k l))) i)
        holds_forth k user place place' x e q l (OfInside v o i n) =
            let y = operand_was user place' x q in
            let lv = h.values user v y.0 (in_slice (operands_of t user) place v o) in
            OfInside v (ap (λ z. slice_get z place') (h.operands user y.0) ∙ ap (slice_get (operands_of t user)) (sym (same_place user place place' e)) ∙ o)
            (subst (IsDefiningOperationInside t' k) (sym (same_maker user v y.0 (in_slice (operands_of t user) place v o))) (made_forth t t' dead dead_block w w' h k (definition_of t v) lv i))
            (λ j. n (within_back t t' dead dead_block w w' h g k user j))

        forwarded_back : (user place place' v : ℕ) → MayBeRemoved m removable t' root v → slice_get (kept user) place' ≡ Some place → ForwardsToArgument m t' user place' v → ForwardsToArgument m t user place v
        forwarded_back user place place' v y e f =
            let lk = jumper_lives t t' dead dead_block w w' h g user f.block (in_slice (successors_of t' user) f.edge f.block f.target) in
            let liveness : op_at t user ≡ Some f.operation = sym (op_same t t' dead dead_block w w' h user lk) ∙ f.liveness in
            let lb = block_left f.block f.index v f.argument in
            record {
              operation = f.operation;
              liveness = liveness;
              branch = f.branch;
              edge = f.edge;
              index = f.index;
              block = f.block;
              target = ap (λ z. slice_get z f.edge) (sym (h.successors user lk)) ∙ f.target;
              forwards = ap (λ z. slice_get (m.forwarded z f.edge) f.index) (shape_swept t t' dead dead_block w w' h m user f.operation lk liveness) ∙ f.forwards ∙ ap Some (sym (same_place user place place' e));
              argument = ap (λ z. slice_get z f.index) (sym (h.arguments f.block lb)) ∙ f.argument;
            }

        forwarded_forth : (user place place' v : ℕ) → MayBeRemoved m removable t root v → IsLive t' user → slice_get (kept user) place' ≡ Some place → ForwardsToArgument m t user place v → IsDefined t' v × ForwardsToArgument m t' user place' v
        forwarded_forth user place place' v y live e f =
            let lk = lives user live in
            let lb = h.targets user f.block lk (in_slice (successors_of t user) f.edge f.block f.target) in
            let there : slice_get (arguments_of t' f.block) f.index ≡ Some v = ap (λ z. slice_get z f.index) (h.arguments f.block lb) ∙ f.argument in (
              subst (IsMadeBy t' v) (sym (w'.joined.arguments f.block f.index v there)) there,
              record {
                operation = f.operation;
                liveness = op_same t t' dead dead_block w w' h user lk ∙ f.liveness;
                branch = f.branch;
                edge = f.edge;
                index = f.index;
                block = f.block;
                target = ap (λ z. slice_get z f.edge) (h.successors user lk) ∙ f.target;
                forwards = ap (λ z. slice_get (m.forwarded z f.edge) f.index) (sym (shape_swept t t' dead dead_block w w' h m user f.operation lk f.liveness)) ∙ f.forwards ∙ ap Some (same_place user place place' e);
                argument = there;
              },
            )
