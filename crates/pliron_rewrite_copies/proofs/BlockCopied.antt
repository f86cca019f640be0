-- The copy of a closed block is closed.
use Rattle.std.proofs.Common.{◌≡◌, ◌≢◌, ◌⊎◌, inl, inr, ⊎_elim, ℕ, Bool, true, false, nat_eq, List, [], ◌∷◌, map, Option, Some, None, IsSome, slice_get, refl, sym, ap, ◌∙◌, subst, arith}
use Rattle.std.specs.Option.{option_map}
use Rattle.std.proofs.lemmas.Bool.{cases_eq, eq-eqb}
use Rattle.pliron_core.specs.declared.context.Def.{Def}
use Rattle.pliron_core.specs.declared.context.Def.TheVariants.{Result, Argument}
use Rattle.pliron_core.specs.Changes.{IsDefinedInside, IsDefiningOperationInside}
use Rattle.pliron_core.specs.Tree.{Tree, In, first_of, last_of, IsLive, IsMadeBy, IsInside, IsInside.Directly, IsInside.Deeper, IsWithin, HoldsBlock, head_of, operands_of, successors_of, regions_of, parent_of, body_of, block_parent_of, block_parent_operation_of, parent_operation_of, definition_of, up_from}
use Rattle.pliron_core.specs.Invariant.{IsTree}
use Rattle.pliron_core.proofs.HoldingLemmas.{some_is, some_of, not_none, in_slice, result_live, argument_stands, maker_is, holder_is, holder_by, holder_live, block_held, inside_by, past_live}
use Rattle.pliron_core.proofs.NeighbourLemmas.{last_of-In}
use Rattle.pliron_laws.specs.Datum.{Head, Meaning}
use Rattle.pliron_laws.specs.Root.{defining_block, IsDominated}
use Rattle.pliron_laws.specs.Linked.{EndsBlock, EdgesLast}
use Rattle.pliron_theory.specs.Keeps.{IsFit}
use Rattle.pliron_theory.proofs.Keys.{not_is}
use Rattle.pliron_theory.proofs.SweptParts.{block_place_of}
use Rattle.pliron_rewrite_copies.specs.Copies.{Originals, IsUsedBeside, AreClosedCopies}
use Rattle.pliron_rewrite_copies.specs.ClosedBlock.{IsBlockCopied, ClosedBlockLaw}
use Rattle.pliron_rewrite_copies.proofs.Maps.{in_map, last_map, option_map_some}
use Rattle.pliron_rewrite_copies.proofs.Covered.{original_def, live_in, region_in, parent_forth, apart_in, block_holder_forth, holder_forth, inside_forth, within_forth, def_forth, defining_forth, made_forth}
use Rattle.pliron_rewrite_copies.proofs.CopiedKeeps.{copies_keep}

abbrev choose : {A : Type 0} → Bool → A → A → A
choose true x y = x
choose false x y = y

module _ (t u : Tree) (o : Originals) (e c : ℕ) (w : IsTree t) (w' : IsTree u) (h : IsBlockCopied t u o e c) where
  -- the block is in copy 1, its copy in copy 2
  pub number : ℕ → ℕ
  number b = choose (nat_eq e b) 1 (choose (nat_eq c b) 2 0)

  pub header : ℕ → ℕ
  header n = choose (nat_eq 1 n) e c

  number_e : number e ≡ 1
  unfolding number
  number_e = ap (λ z. choose z 1 (choose (nat_eq c e) 2 0)) (eq-eqb e e refl)

  number_c : number c ≡ 2
  unfolding number
  number_c = ap (λ z. choose z 1 (choose (nat_eq c c) 2 0)) (not_is e c h.apart) ∙ ap (λ z. choose z 2 0) (eq-eqb c c refl)

  number_other : (b : ℕ) → b ≢ e → b ≢ c → number b ≡ 0
  unfolding number
  number_other b ne nc = ap (λ z. choose z 1 (choose (nat_eq c b) 2 0)) (not_is e b ne) ∙ ap (λ z. choose z 2 0) (not_is c b nc)

  e_own : o.block e ≡ e
  e_own = h.others e (λ s. h.apart (sym s))

  one_two : ◌≡◌ {A = ℕ} 1 2 → ⊥
  one_two s = omega (arith, s)

  two_zero : ◌≡◌ {A = ℕ} 2 0 → ⊥
  two_zero s = omega (arith, s)

  one_zero : ◌≡◌ {A = ℕ} 1 0 → ⊥
  one_zero s = omega (arith, s)

  -- a block in a copy is its header
  is_header : (b : ℕ) → number b ≢ 0 → b ≡ header (number b)
  unfolding header
  is_header b ne = ⊎_elim
      (λ s. s ∙ sym (ap (λ z. choose (nat_eq 1 z) e c) (ap number s ∙ number_e)))
      (λ be. ⊎_elim
      (λ s. s ∙ sym (ap (λ z. choose (nat_eq 1 z) e c) (ap number s ∙ number_c)))
      (λ bc. absurd (ne (number_other b be bc)))
      (cases_eq b c))
      (cases_eq b e)

  -- of two blocks that have one original, the copy and another one, the other is the block
  is_block : (b d : ℕ) → b ≡ c → d ≢ c → o.block b ≡ o.block d → d ≡ e
  is_block b d s ne q = sym (h.others d ne) ∙ sym q ∙ ap o.block s ∙ h.copied

  apart : (b d : ℕ) → o.block b ≡ o.block d → (number b ≡ number d) ⊎ (number b ≡ 0) → b ≡ d
  apart b d q k = ⊎_elim
      (λ s. ⊎_elim
      (λ z. s ∙ sym z)
      (λ ne. absurd (⊎_elim (λ n. one_two (sym number_e ∙ ap number (sym (is_block b d s ne q)) ∙ sym n ∙ ap number s ∙ number_c)) (λ n. two_zero (sym number_c ∙ ap number (sym s) ∙ n)) k))
      (cases_eq d c))
      (λ ne. ⊎_elim
      (λ z. absurd (⊎_elim (λ n. one_two (sym number_e ∙ ap number (sym (is_block d b z ne (sym q))) ∙ n ∙ ap number z ∙ number_c)) (λ n. one_zero (sym number_e ∙ ap number (sym (is_block d b z ne (sym q))) ∙ n)) k))
      (λ nd. sym (h.others b ne) ∙ q ∙ h.others d nd)
      (cases_eq d c))
      (cases_eq b c)

  numbered : (b : ℕ) → o.block b ≡ e → number b ≢ 0
  numbered b q n = ⊎_elim
      (λ s. two_zero (sym number_c ∙ ap number (sym s) ∙ n))
      (λ ne. one_zero (sym number_e ∙ ap number (sym q ∙ h.others b ne) ∙ n))
      (cases_eq b c)

  original_of : (b : ℕ) → number b ≢ 0 → o.block b ≡ e
  original_of b n = ⊎_elim
      (λ s. ap o.block s ∙ h.copied)
      (λ bc. ⊎_elim (λ s. ap o.block s ∙ e_own) (λ be. absurd (n (number_other b be bc))) (cases_eq b e))
      (cases_eq b c)

  -- what holds something has itself as original
  holds : (b p : ℕ) → block_parent_operation_of u b ≡ Some p → o.operation p ≡ p
  holds b p q =
      let place = block_place_of u w' b p q in
      let i = in_slice (regions_of u p) place.index place.region place.listed in
      h.holders p (live (head_of u p) refl place.region i) (λ z. subst (In place.region) z i)
    where
      live : (z : Option Head) → head_of u p ≡ z → (r : ℕ) → In r (regions_of u p) → IsLive u p
      live None s r i = absurd (subst (In r) (ap (λ y. y.regions) (w'.joined.erased p s).2) i)
      live (Some x) s r i = subst IsSome (sym s) refl

  -- where an original stands, its copy does
  placed : (k b : ℕ) → IsLive u k → parent_of t (o.operation k) ≡ Some b → (d : ℕ) × (parent_of u k ≡ Some d) × (o.block d ≡ b)
  placed k b live q = let d = h.placed k b live q in (d.0, d.1, some_is (sym (parent_forth t u o w w' h.originals k d.0 d.1) ∙ q))

  -- one step up
  step_back : (k p : ℕ) → IsLive u k → parent_operation_of t (o.operation k) ≡ Some p → (parent_operation_of u k ≡ Some p) × (o.operation p ≡ p)
  step_back k p live q =
      let x = holder_is t (o.operation k) p q in
      let d = placed k x.0 live x.1 in
      let r = region_in t u o w w' h.originals k d.0 d.1 in
      up d.0 d.1 r.0 r.1
    where
      up : (d : ℕ) → parent_of u k ≡ Some d → (r : ℕ) → block_parent_of u d ≡ Some r → (parent_operation_of u k ≡ Some p) × (o.operation p ≡ p)
      up d s r z =
          let g = block_held u d w'.joined (subst IsSome (sym z) refl) in
          let own = holds d g.1 g.5 in
          let there : p ≡ g.1 = some_is (sym q ∙ holder_forth t u o w w' h.originals k g.1 (holder_by u k d g.1 s g.5)) ∙ own in
          (holder_by u k d p s (g.5 ∙ ap Some (sym there)), ap o.operation there ∙ own ∙ sym there)

  -- an operation around an original is around the copy
  pub record IsAround (a k : ℕ) : Type 0 where
    pub around : ℕ
    pub holds_it : IsWithin u around k
    pub original : o.operation around ≡ a
    pub is_live : IsLive u around

  live_held : (k p : ℕ) → parent_operation_of u k ≡ Some p → IsLive u p
  live_held k p q = (holder_live u k p w'.joined q).1

  around_inside : (a k b : ℕ) → IsLive u k → o.operation k ≡ b → IsInside t a b → IsAround a k
  around_inside a k b live s (Directly q) =
      let x = step_back k a live (ap (parent_operation_of t) s ∙ q) in
      record { around = a; holds_it = inr (Directly x.0); original = x.1; is_live = live_held k a x.0 }
  around_inside a k b live s (Deeper p q i) =
      let x = step_back k p live (ap (parent_operation_of t) s ∙ q) in
      let y = around_inside a p p (live_held k p x.0) x.1 i in
      record { around = y.around; holds_it = inr (inside_by p x.0 y.holds_it); original = y.original; is_live = y.is_live }

  around_within : (a k : ℕ) → IsLive u k → IsWithin t a (o.operation k) → IsAround a k
  around_within a k live (inl s) = record { around = k; holds_it = inl refl; original = s; is_live = live }
  around_within a k live (inr i) = around_inside a k (o.operation k) live refl i

  module _ (m : Meaning) (root : ℕ) (f : IsFit m t root) (own : o.operation root ≡ root) where
    inside_before : (k : ℕ) → IsInside u root k → IsInside t root (o.operation k)
    inside_before k i = subst (λ z. IsInside t z (o.operation k)) own (inside_forth t u o w w' h.originals root k i)

    live_user : (k v : ℕ) → In v (operands_of u k) → IsLive u k
    live_user k v i = go (head_of u k) refl
      where
        go : (z : Option Head) → head_of u k ≡ z → IsLive u k
        go None s = absurd (subst (In v) (w'.joined.erased k s).0 i)
        go (Some x) s = subst IsSome (sym s) refl

    live_jumper : (k b : ℕ) → In b (successors_of u k) → IsLive u k
    live_jumper k b i = go (head_of u k) refl
      where
        go : (z : Option Head) → head_of u k ≡ z → IsLive u k
        go None s = absurd (subst (In b) (w'.joined.erased k s).1 i)
        go (Some x) s = subst IsSome (sym s) refl

    edges : EdgesLast u root
    edges k s i held = ended (f.linked.edges (o.operation k) (o.block s) (subst (In (o.block s)) (sym (h.originals.operations k live).successors) (in_map o.block (successors_of u k) s i)) (before held))
      where
        live : IsLive u k
        live = live_jumper k s i

        before : IsInside u root k ⊎ HoldsBlock u root s → IsInside t root (o.operation k) ⊎ HoldsBlock t root (o.block s)
        before (inl x) = inl (inside_before k x)
        before (inr x) = inr (o.operation x.0, block_holder_forth t u o w w' h.originals s x.0 x.1, subst (λ z. IsWithin t z (o.operation x.0)) own (within_forth t u o w w' h.originals root x.0 x.2))

        ended : EndsBlock t (o.operation k) → EndsBlock u k
        ended ends =
            let d = placed k ends.block live ends.in_block in
            let r = region_in t u o w w' h.originals k d.0 d.1 in
            let body = ap (last_of None) (sym (h.originals.blocks d.0 r.0 r.1).body) ∙ ap (λ z. last_of None (body_of t z)) d.2 ∙ ends.last in
            let x = option_map_some o.operation (last_of None (body_of u d.0)) (o.operation k) (sym (last_map o.operation None (body_of u d.0)) ∙ body) in
            record {
              block = d.0;
              in_block = d.1;
              last = x.1 ∙ ap Some (apart_in t u o w w' h.originals d.0 x.0 k (w'.bodies.owned x.0 d.0 (last_of-In x.0 (body_of u d.0) x.1)) d.1 x.2);
              own_region = λ z j.
                  let b = some_of (block_parent_of u z) (w'.joined.successors k z j) in
                  let there = ends.own_region (o.block z) (subst (In (o.block z)) (sym (h.originals.operations k live).successors) (in_map o.block (successors_of u k) z j)) in
                  let same : o.region b.0 ≡ o.region r.0 = some_is (sym (h.originals.blocks z b.0 b.1).parent ∙ there ∙ ap (block_parent_of t) (sym d.2) ∙ (h.originals.blocks d.0 r.0 r.1).parent) in
                  b.1 ∙ ap Some (sym (h.regions b.0) ∙ same ∙ h.regions r.0) ∙ sym r.1;
            }

    -- the block that defines the value whose original this block defines
    record Defines (x : Def) (b : ℕ) : Type 0 where
      pub block : ℕ
      pub region : ℕ
      pub defined : defining_block u (Some x) ≡ Some block
      pub original : o.block block ≡ b
      pub in_region : block_parent_of u block ≡ Some region

    defines : (v : ℕ) (x : Def) → IsMadeBy u v (Some x) → (b : ℕ) → defining_block t (Some (original_def o x)) ≡ Some b → Defines x b
    defines v (Result k n) y b q =
        let d = placed k b (result_live u w'.joined k n v y) q in
        let r = region_in t u o w w' h.originals k d.0 d.1 in
        record { block = d.0; region = r.0; defined = d.1; original = d.2; in_region = r.1 }
    defines v (Argument d n) y b q =
        let r = some_of (block_parent_of u d) (argument_stands u w'.joined d n v y) in
        record { block = d; region = r.0; defined = refl; original = some_is q; in_region = r.1 }

    used : (user v : ℕ) → In v (operands_of u user) → IsInside u root user ⊎ IsDefinedInside u root v → IsUsedBeside u number user v
    used user v i held = by_number (cases_eq (number def.block) 0)
      where
        y : (d : Def) × (definition_of u v ≡ Some d) × IsMadeBy u v (Some d)
        y = maker_is u v (w'.joined.operands user v i)

        live : IsLive u user
        live = live_user user v i

        operand : In (o.value v) (operands_of t (o.operation user))
        operand = subst (In (o.value v)) (sym (h.originals.operations user live).operands) (in_map o.value (operands_of u user) v i)

        same : definition_of t (o.value v) ≡ Some (original_def o y.0)
        same = def_forth t u o w w' h.originals v y.0 y.2

        made : IsInside u root user ⊎ IsDefinedInside u root v → IsDefinedInside t root (o.value v)
        made (inl x) = f.defined.own_values (o.operation user) (o.value v) (inside_before user x) operand
        made (inr x) = subst (IsDefiningOperationInside t root) (sym same) (subst (λ z. IsDefiningOperationInside t z (Some (original_def o y.0))) own (made_forth t u o w w' h.originals root y.0 (subst (IsDefiningOperationInside u root) y.1 x)))

        d : IsDominated t (o.operation user) (o.value v)
        d = f.defined.dominated (o.operation user) (o.value v) operand (made held)

        home : (b : ℕ) × (defining_block t (Some (original_def o y.0)) ≡ Some b) × (block_parent_of t b ≡ Some d.region)
        home = go (defining_block t (Some (original_def o y.0))) (ap (λ z. up_from (defining_block t z) (λ b. block_parent_of t b)) (sym same) ∙ d.defined)
          where
            go : (z : Option ℕ) → up_from z (λ b. block_parent_of t b) ≡ Some d.region → (b : ℕ) × (z ≡ Some b) × (block_parent_of t b ≡ Some d.region)
            go None q = absurd (not_none q)
            go (Some b) q = (b, refl, q)

        def : Defines y.0 home.0
        def = defines v y.0 y.2 home.0 home.1

        defined : defining_block u (definition_of u v) ≡ Some def.block
        defined = ap (defining_block u) y.1 ∙ def.defined

        a : IsAround d.around user
        a = around_within d.around user live d.holds

        at : (b : ℕ) × (parent_of u a.around ≡ Some b) × (o.block b ≡ d.block)
        at = placed a.around d.block a.is_live (ap (parent_of t) a.original ∙ d.in_block)

        r : (r : ℕ) × (block_parent_of u at.0 ≡ Some r)
        r = region_in t u o w w' h.originals a.around at.0 at.1

        same_region : r.0 ≡ def.region
        same_region = sym (h.regions r.0) ∙ some_is (sym (h.originals.blocks at.0 r.0 r.1).parent ∙ ap (block_parent_of t) at.2 ∙ d.in_region ∙ sym home.2 ∙ ap (block_parent_of t) (sym def.original) ∙ (h.originals.blocks def.block def.region def.in_region).parent) ∙ h.regions def.region

        in_copy : number def.block ≢ 0 → parent_of u user ≡ Some def.block
        in_copy n = ⊎_elim
            (λ s. h.closed user v i (defined ∙ ap Some s) ∙ ap Some (sym s))
            (λ ne. ⊎_elim
            (λ s. h.closed_copy user v i (defined ∙ ap Some s) ∙ ap Some (sym s))
            (λ nc. absurd (n (number_other def.block ne nc)))
            (cases_eq def.block c))
            (cases_eq def.block e)

        by_number : (number def.block ≡ 0) ⊎ (number def.block ≢ 0) → IsUsedBeside u number user v
        by_number (inl n) = record {
          definer = def.block;
          defined = defined;
          around = a.around;
          holds = a.holds_it;
          block = at.0;
          in_block = at.1;
          beside = r.1 ∙ ap Some same_region ∙ sym def.in_region;
          same_copy = λ z. absurd (z n);
        }
        by_number (inr n) = record {
          definer = def.block;
          defined = defined;
          around = user;
          holds = inl refl;
          block = def.block;
          in_block = in_copy n;
          beside = refl;
          same_copy = λ z. refl;
        }

    pub closed_copies : AreClosedCopies u o number header root
    closed_copies = record {
      apart = λ b d r eb ed q k. apart b d q k;
      entered = λ b d l n ne. is_header d n;
      entries = λ r x q n. is_header x n;
      headers = λ b d r eb ed q n. ap o.block (sym (is_header b n)) ∙ q ∙ ap o.block (is_header d (numbered d (sym q ∙ original_of b n)));
      used = used;
      edges = edges;
    }

pub block_copied_keeps : ClosedBlockLaw
block_copied_keeps m t u o e c w w' longer h kept =
    copies_keep m t u o (number t u o e c w w' h) (header t u o e c w w' h) w w' longer h.originals kept (λ root f l. closed_copies t u o e c w w' h m root f (kept root (past_live t root f.live) l).1)
