-- Who uses an argument of a block may use the value that is forwarded to it.
use Rattle.std.proofs.Common.{◌≡◌, inl, inr, ⊎_elim, ℕ, List, [], ◌∷◌, ◌++◌, Option, Some, None, IsSome, slice_get, refl, sym, ap, ◌∙◌, subst}
use Rattle.pliron_core.specs.declared.context.Def.{Def}
use Rattle.pliron_core.specs.declared.context.Def.TheVariants.{Result, Argument}
use Rattle.pliron_core.specs.Changes.{IsDefiningOperationInside}
use Rattle.pliron_core.specs.Tree.{Tree, In, first_of, last_of, IsInside, IsWithin, HoldsBlock, IsRegion, IsLive, operands_of, parent_of, body_of, arguments_of, block_parent_of, layout_of, region_parent_of, block_parent_operation_of, parent_operation_of, definition_of, up_from}
use Rattle.pliron_core.specs.Edges.{succs_from}
use Rattle.pliron_core.specs.Invariant.{IsTree}
use Rattle.pliron_core.proofs.ListLemmas.{In-left, In-right}
use Rattle.pliron_core.proofs.NeighbourLemmas.{last_of-In}
use Rattle.pliron_core.proofs.HoldingLemmas.{some_is, block_held, holder_by, inside_up, inside_by, within_inside}
use Rattle.pliron_laws.specs.Datum.{Meaning}
use Rattle.pliron_laws.specs.Paths.{Path, Leads}
use Rattle.pliron_laws.specs.Root.{defining_block, HasPassed, IsDominated}
use Rattle.pliron_theory.specs.Keeps.{IsFit}
use Rattle.pliron_theory.specs.Renaming.{MayUse}
use Rattle.pliron_theory.proofs.Bound.{made_within}
use Rattle.pliron_rewrite_blocks.specs.Forwarding.{LeadsAlone}
use Rattle.pliron_rewrite_blocks.proofs.Ways.{came_from}

module _ (t : Tree) (w : IsTree t) (a b jump : ℕ) (front : List ℕ) (h : LeadsAlone t a b jump front) where
  pub jump_in : parent_of t jump ≡ Some a
  jump_in = w.bodies.owned jump a (subst (In jump) (sym h.split) (In-right jump front (jump ∷ []) (inl refl)))

  pub held : (r k : ℕ) × (block_parent_of t a ≡ Some r) × IsRegion t r × (region_parent_of t r ≡ Some k) × (block_parent_operation_of t a ≡ Some k) × IsLive t k
  held = block_held t a w.joined (w.joined.all_in_place jump a jump_in).1

  -- the region of the two blocks, and what holds it
  abbrev pub region : ℕ
  region = held.0

  abbrev pub outer : ℕ
  outer = held.1

  pub jump_holder : parent_operation_of t jump ≡ Some outer
  jump_holder = holder_by t jump a outer jump_in held.5

  pub b_region : block_parent_of t b ≡ Some region
  b_region = h.beside ∙ held.2

  pub b_holder : block_parent_operation_of t b ≡ Some outer
  b_holder = ap (λ o. up_from o (λ r. region_parent_of t r)) b_region ∙ held.4

  pub leads_only : (c : ℕ) → Leads t c b → c ≡ a
  leads_only c l = go (last_of None (body_of t c)) refl l.successor
    where
      go : (o : Option ℕ) → last_of None (body_of t c) ≡ o → In b (succs_from t o) → c ≡ a
      go None e i = absurd i
      go (Some k) e i =
          let s : k ≡ jump = h.only k i in
          some_is (sym (w.bodies.owned jump c (subst (λ x. In x (body_of t c)) s (last_of-In k (body_of t c) e))) ∙ jump_in)

  module _ (m : Meaning) (i p v : ℕ) (at : slice_get (arguments_of t b) i ≡ Some p) (used : In v (operands_of t jump)) where
    pub p_made : definition_of t p ≡ Some (Argument b i)
    p_made = w.joined.arguments b i p at

    module _ (root : ℕ) (f : IsFit m t root) where
      -- what holds b has the jump inside, and the other way round
      pub jump_of_b : HoldsBlock t root b → IsInside t root jump
      jump_of_b x =
          let s : x.0 ≡ outer = some_is (sym x.1 ∙ b_holder) in
          inside_by outer jump_holder (subst (IsWithin t root) s x.2)

      pub b_of_jump : IsInside t root jump → HoldsBlock t root b
      b_of_jump x =
          let u = inside_up x in
          let s : u.0 ≡ outer = some_is (sym u.1 ∙ jump_holder) in
          (outer, b_holder, subst (IsWithin t root) s u.2)

      pub p_inside : IsInside t root jump → IsDefiningOperationInside t root (definition_of t p)
      p_inside x = subst (IsDefiningOperationInside t root) (sym p_made) (b_of_jump x)

      pub b_of_p : IsDefiningOperationInside t root (definition_of t p) → HoldsBlock t root b
      b_of_p x = subst (IsDefiningOperationInside t root) p_made x

    -- what a use's dominance says of the region of its definition
    pub home_held : (user u : ℕ) (d : IsDominated t user u) → (x : ℕ) × (region_parent_of t d.region ≡ Some x) × (block_parent_operation_of t d.block ≡ Some x) × (parent_operation_of t d.around ≡ Some x)
    home_held user u d =
        let x = block_held t d.block w.joined (subst IsSome (sym d.in_region) refl) in
        let s : x.0 ≡ d.region = some_is (sym x.2 ∙ d.in_region) in
        (x.1, ap (region_parent_of t) (sym s) ∙ x.4, x.5, holder_by t d.around d.block x.1 d.in_block x.5)

    pub jump_of_v : (root : ℕ) (f : IsFit m t root) → IsDefiningOperationInside t root (definition_of t v) → IsInside t root jump
    jump_of_v root f made =
        let d = f.defined.dominated jump v used made in
        let x = home_held jump v d in
        within_inside (inside_by x.0 x.3 (made_within t root d.region x.0 (definition_of t v) x.1 d.defined made)) d.holds

    -- paths that came through a block passed what was passed there
    passed_on : (d : Option Def) (part before : List ℕ) (c : ℕ) (done : List ℕ) → ((z : ℕ) → In z (a ∷ part) → In z before) → HasPassed t d part a front → HasPassed t d before c done
    passed_on None part before c done sub q = q
    passed_on (Some (Argument e j)) part before c done sub q = inr (sub e q)
    passed_on (Some (Result k j)) part before c done sub (inl q) =
        inr (a, w.bodies.owned k a (subst (In k) (sym h.split) (In-left k front (jump ∷ []) q)), sub a (inl refl))
    passed_on (Some (Result k j)) part before c done sub (inr q) = inr (q.0, q.1, sub q.0 (inr q.2))

    -- where the argument dominates a use, the value does
    pub dominated_too : (user : ℕ) → IsDominated t jump v → IsDominated t user p → IsDominated t user v
    dominated_too user d e = ⊎_elim same above d.holds
      where
        p_home : e.region ≡ region
        p_home = some_is (sym e.defined ∙ ap (λ z. up_from (defining_block t z) (λ c. block_parent_of t c)) p_made ∙ b_region)

        e_holder : parent_operation_of t e.around ≡ Some outer
        e_holder =
            let x = home_held user p e in
            x.3 ∙ sym x.1 ∙ ap (region_parent_of t) p_home ∙ held.4

        above : IsInside t d.around jump → IsDominated t user v
        above y =
            let u = inside_up y in
            let s : u.0 ≡ outer = some_is (sym u.1 ∙ jump_holder) in
            record {
              around = d.around;
              holds = inr (within_inside (inside_by outer e_holder (subst (IsWithin t d.around) s u.2)) e.holds);
              block = d.block;
              region = d.region;
              in_block = d.in_block;
              in_region = d.in_region;
              defined = d.defined;
              passes = d.passes;
            }

        same : jump ≡ d.around → IsDominated t user v
        same s =
            let here : d.block ≡ a = some_is (sym d.in_block ∙ ap (parent_of t) (sym s) ∙ jump_in) in
            let home : d.region ≡ region = some_is (sym d.in_region ∙ ap (block_parent_of t) here ∙ held.2) in
            record {
              around = e.around;
              holds = e.holds;
              block = e.block;
              region = e.region;
              in_block = e.in_block;
              in_region = e.in_region;
              defined = d.defined ∙ ap Some (home ∙ sym p_home);
              passes = λ entry before done rest fe pe be.
                  let through : In b (e.block ∷ before) = subst (λ z. HasPassed t z before e.block done) p_made (e.passes entry before done rest fe pe be) in
                  let r = came_from t entry a b leads_only (λ z. h.no_entry e.region (fe ∙ ap Some z)) e.block before pe through in
                  let q : HasPassed t (definition_of t v) r.0 d.block front = d.passes entry r.0 front [] (ap (λ z. first_of (layout_of t z) None) (home ∙ sym p_home) ∙ fe) (subst (λ z. Path t entry z r.0) (sym here) r.1) (ap (body_of t) here ∙ h.split ∙ ap (λ z. front ++ z ∷ []) s) in
                  passed_on (definition_of t v) r.0 before e.block done r.2 (subst (λ z. HasPassed t (definition_of t v) r.0 z front) here q);
            }

    pub may_use : (root : ℕ) → IsFit m t root → (user : ℕ) → In p (operands_of t user) → MayUse t root user v
    may_use root f user i = record {
      own = λ inside.
          let held_b = b_of_p root f (f.defined.own_values user p inside i) in
          f.defined.own_values jump v (jump_of_b root f held_b) used;
      no_jumper = λ k inside ne r. f.defined.unused k v jump inside ne r used;
      dominated = λ made.
          let inside = jump_of_v root f made in
          dominated_too user (f.defined.dominated jump v used made) (f.defined.dominated user p i (p_inside root f inside));
    }
