-- The branches that lead to a block whose argument is one value.
use Rattle.std.proofs.Common.{◌≡◌, ◌≢◌, ◌⊎◌, inl, inr, ⊎_elim, ℕ, List, [], ◌∷◌, ◌++◌, Option, Some, None, IsSome, slice_get, refl, sym, ap, ◌∙◌, subst}
use Rattle.pliron_core.specs.declared.context.Def.{Def}
use Rattle.pliron_core.specs.declared.context.Def.TheVariants.{Result, Argument}
use Rattle.pliron_core.specs.Changes.{IsDefiningOperationInside}
use Rattle.pliron_core.specs.Tree.{Tree, In, first_of, last_of, IsInside, IsWithin, HoldsBlock, IsRegion, IsLive, head_of, operands_of, successors_of, results_of, parent_of, body_of, arguments_of, block_parent_of, layout_of, region_parent_of, block_parent_operation_of, parent_operation_of, definition_of, up_from}
use Rattle.pliron_core.specs.Edges.{succs_from}
use Rattle.pliron_core.specs.Invariant.{IsTree}
use Rattle.pliron_core.proofs.ListLemmas.{In-left, split_at}
use Rattle.pliron_core.proofs.NeighbourLemmas.{last_of-In}
use Rattle.pliron_core.proofs.HoldingLemmas.{some_is, in_slice, slice_in, argument_stands, block_held, holder_by, inside_up, inside_by, within_inside, not_itself}
use Rattle.pliron_laws.specs.Datum.{Head, Meaning}
use Rattle.pliron_laws.specs.Tree.{Operation, op_at, shape_of}
use Rattle.pliron_laws.specs.Paths.{Path, Leads}
use Rattle.pliron_laws.specs.Root.{defining_block, HasPassed, IsDominated}
use Rattle.pliron_laws.specs.Linked.{EndsBlock}
use Rattle.pliron_laws.specs.Answers.{IsForwardedAt}
use Rattle.pliron_laws.proofs.Records.{operation_of, make_op}
use Rattle.pliron_theory.specs.Keeps.{IsFit}
use Rattle.pliron_theory.specs.Renaming.{MayUse}
use Rattle.pliron_theory.proofs.KnownData.{picked_at}
use Rattle.pliron_theory.proofs.Bound.{made_within, last_ends, home_of}
use Rattle.pliron_rewrite_blocks.proofs.Ways.{Misses}
use Rattle.pliron_rewrite_arguments.specs.OneValue.{IsOneValue}
use Rattle.pliron_rewrite_arguments.proofs.FirstWays.{PassedFirst, comes_first, misses_first}

-- what a use's dominance says of the region of its definition
pub home_held : (t : Tree) → IsTree t → (user u : ℕ) (d : IsDominated t user u) → (x : ℕ) × (region_parent_of t d.region ≡ Some x) × (parent_operation_of t d.around ≡ Some x)
home_held t w user u d =
    let x = block_held t d.block w.joined (subst IsSome (sym d.in_region) refl) in
    let s : x.0 ≡ d.region = some_is (sym x.2 ∙ d.in_region) in
    (x.1, ap (region_parent_of t) (sym s) ∙ x.4, holder_by t d.around d.block x.1 d.in_block x.5)

-- paths that came through a block passed what was passed there
passed_on : (t : Tree) → IsTree t → (d : Option Def) (part before : List ℕ) (x jump c : ℕ) (front done : List ℕ) → body_of t x ≡ front ++ jump ∷ [] → ((z : ℕ) → In z (x ∷ part) → In z before) → HasPassed t d part x front → HasPassed t d before c done
passed_on t w None part before x jump c front done split sub q = q
passed_on t w (Some (Argument e j)) part before x jump c front done split sub q = inr (sub e q)
passed_on t w (Some (Result k j)) part before x jump c front done split sub (inl q) =
    inr (x, w.bodies.owned k x (subst (In k) (sym split) (In-left k front (jump ∷ []) q)), sub x (inl refl))
passed_on t w (Some (Result k j)) part before x jump c front done split sub (inr q) = inr (q.0, q.1, sub q.0 (inr q.2))

-- a branch ends the block x, leads to b and uses v
pub record Enters (t : Tree) (b v x : ℕ) : Type 0 where
  pub jump : ℕ
  pub front : List ℕ
  pub leads : In b (successors_of t jump)
  pub split : body_of t x ≡ front ++ jump ∷ []
  pub in_block : parent_of t jump ≡ Some x
  pub uses : In v (operands_of t jump)

module _ (m : Meaning) (t : Tree) (w : IsTree t) (b i v : ℕ) (h : IsOneValue m t b i v) where
  abbrev pub p : ℕ
  p = h.argument

  pub made : definition_of t p ≡ Some (Argument b i)
  made = w.joined.arguments b i p h.there

  -- what a branch forwards to the block stands among its operands
  pub place : (k n u : ℕ) → IsForwardedAt m t k n i (Some u) → (o : Operation) → op_at t k ≡ Some o → (q : ℕ) × (slice_get (m.forwarded (shape_of m t o) n) i ≡ Some q) × (slice_get o.operands q ≡ Some u)
  place k n u forwarded o e = picked_at (m.forwarded (shape_of m t o) n) o.operands i (Some u) (sym (forwarded o e))

  live : (k : ℕ) → In b (successors_of t k) → (x : Head) × (head_of t k ≡ Some x)
  live k j = go (head_of t k) refl
    where
      go : (o : Option Head) → head_of t k ≡ o → (x : Head) × (head_of t k ≡ Some x)
      go None e = absurd (subst (In b) (w.joined.erased k e).1 j)
      go (Some x) e = (x, e)

  used_at : (k n u : ℕ) → In b (successors_of t k) → IsForwardedAt m t k n i (Some u) → In u (operands_of t k)
  used_at k n u j forwarded =
      let x = live k j in
      let q = place k n u forwarded (operation_of t k x.0) (make_op t k x.0 x.1) in
      in_slice (operands_of t k) q.0 u q.2

  pub uses_either : (k : ℕ) → In b (successors_of t k) → In v (operands_of t k) ⊎ In p (operands_of t k)
  uses_either k j =
      let n = slice_in (successors_of t k) b j in
      ⊎_elim (λ f. inl (used_at k n.0 v j f)) (λ f. inr (used_at k n.0 p j f)) (h.edges k n.0 n.1)

  pub argument_used : (k n : ℕ) → In b (successors_of t k) → IsForwardedAt m t k n i (Some p) → In p (operands_of t k)
  argument_used k n j forwarded = used_at k n p j forwarded

  -- a branch that forwards the value
  abbrev pub source : ℕ
  source = h.some_edge.branch

  pub source_leads : In b (successors_of t source)
  source_leads = in_slice (successors_of t source) h.some_edge.edge b h.some_edge.leads

  pub source_uses : In v (operands_of t source)
  source_uses = used_at source h.some_edge.edge v source_leads h.some_edge.forwards

  -- the block's region, and what holds it
  pub held : (r k : ℕ) × (block_parent_of t b ≡ Some r) × IsRegion t r × (region_parent_of t r ≡ Some k) × (block_parent_operation_of t b ≡ Some k) × IsLive t k
  held = block_held t b w.joined (argument_stands t w.joined b i p h.there)

  abbrev pub here : ℕ
  here = held.0

  abbrev pub top : ℕ
  top = held.1

  pub inner : (entry : ℕ) → first_of (layout_of t here) None ≡ Some entry → entry ≢ b
  inner entry fe e = h.no_entry here held.2 (fe ∙ ap Some e)

  pub end_region : (k : ℕ) → In b (successors_of t k) → (e : EndsBlock t k) → block_parent_of t e.block ≡ Some here
  end_region k j e = sym (e.own_region b j) ∙ held.2

  pub end_holder : (k : ℕ) → In b (successors_of t k) → EndsBlock t k → parent_operation_of t k ≡ Some top
  end_holder k j e = holder_by t k e.block top e.in_block (ap (λ o. up_from o (λ r. region_parent_of t r)) (end_region k j e) ∙ held.4)

  module _ (root : ℕ) (f : IsFit m t root) where
    -- what holds the block has its branches inside, and the other way round
    pub branch_inside : HoldsBlock t root b → (k : ℕ) → In b (successors_of t k) → IsInside t root k
    branch_inside x k j =
        let s : x.0 ≡ top = some_is (sym x.1 ∙ held.5) in
        inside_by top (end_holder k j (f.linked.edges k b j (inr x))) (subst (IsWithin t root) s x.2)

    pub block_inside : (k : ℕ) → In b (successors_of t k) → IsInside t root k → HoldsBlock t root b
    block_inside k j x =
        let u = inside_up x in
        let s : u.0 ≡ top = some_is (sym u.1 ∙ end_holder k j (f.linked.edges k b j (inl x))) in
        (top, held.5, subst (IsWithin t root) s u.2)

    pub block_of_argument : IsDefiningOperationInside t root (definition_of t p) → HoldsBlock t root b
    block_of_argument x = subst (IsDefiningOperationInside t root) made x

    pub argument_of_block : HoldsBlock t root b → IsDefiningOperationInside t root (definition_of t p)
    argument_of_block x = subst (IsDefiningOperationInside t root) (sym made) x

    pub block_of_value : IsDefiningOperationInside t root (definition_of t v) → HoldsBlock t root b
    block_of_value x =
        let d = f.defined.dominated source v source_uses x in
        let y = home_held t w source v d in
        block_inside source source_leads (within_inside (inside_by y.0 y.2 (made_within t root d.region y.0 (definition_of t v) y.1 d.defined x)) d.holds)

    module _ (holds : HoldsBlock t root b) where
      pub ends : (k : ℕ) → In b (successors_of t k) → EndsBlock t k
      ends k j = f.linked.edges k b j (inr holds)

      pub value_inside : IsDefiningOperationInside t root (definition_of t v)
      value_inside = f.defined.own_values source v (branch_inside holds source source_leads) source_uses

      -- what its own region makes dominates a branch where the branch stands
      same_around : (k u : ℕ) → In b (successors_of t k) → (d : IsDominated t k u) → d.region ≡ here → k ≡ d.around
      same_around k u j d e = ⊎_elim
          (λ s. s)
          (λ y.
          let z = home_held t w k u d in
          let x = inside_up y in
          let s : x.0 ≡ top = some_is (sym x.1 ∙ end_holder k j (ends k j)) in
          let same : z.0 ≡ top = some_is (sym z.1 ∙ ap (region_parent_of t) e ∙ held.4) in
          absurd (not_itself w.joined.rooted (within_inside (inside_by top (z.2 ∙ ap Some same) (inl refl)) (subst (IsWithin t d.around) s x.2))))
          d.holds

      module _ (entry : ℕ) (fe : first_of (layout_of t here) None ≡ Some entry) where
        -- a path to a branch passes what its region makes for it
        passed_by : (k u x : ℕ) (front back part : List ℕ) → In b (successors_of t k) → (d : IsDominated t k u) → d.region ≡ here → parent_of t k ≡ Some x → body_of t x ≡ front ++ k ∷ back → Path t entry x part → HasPassed t (definition_of t u) part x front
        passed_by k u x front back part j d e pk split path =
            let s = same_around k u j d e in
            let block : d.block ≡ x = some_is (sym d.in_block ∙ ap (parent_of t) (sym s) ∙ pk) in
            subst (λ z. HasPassed t (definition_of t u) part z front) block (d.passes entry part front back (ap (λ z. first_of (layout_of t z) None) e ∙ fe) (subst (λ z. Path t entry z part) (sym block) path) (ap (body_of t) block ∙ split ∙ ap (λ z. front ++ z ∷ back) s))

        -- a path to a branch that uses the argument passed the block
        pub argument_passed : (k x : ℕ) (part : List ℕ) → In b (successors_of t k) → In p (operands_of t k) → parent_of t k ≡ Some x → Path t entry x part → In b (x ∷ part)
        argument_passed k x part j named pk path =
            let d = f.defined.dominated k p named (argument_of_block holds) in
            let e : d.region ≡ here = some_is (sym d.defined ∙ ap (λ z. up_from (defining_block t z) (λ c. block_parent_of t c)) made ∙ held.2) in
            let s = split_at k (body_of t x) (w.bodies.listed k x pk) in
            subst (λ z. HasPassed t z part x s.0) made (passed_by k p x s.0 s.1 part j d e pk s.2 path)

        -- where a path first comes to the block, a branch forwards the value
        pub enters : (x : ℕ) (part : List ℕ) → Path t entry x part → Leads t x b → (In b (x ∷ part) → ⊥) → Enters t b v x
        enters x part path l missed = go (last_of None (body_of t x)) refl l.successor
          where
            go : (o : Option ℕ) → last_of None (body_of t x) ≡ o → In b (succs_from t o) → Enters t b v x
            go None e j = absurd j
            go (Some k) e j =
                let inb = last_of-In k (body_of t x) e in
                let pk : parent_of t k ≡ Some x = w.bodies.owned k x inb in
                let s = split_at k (body_of t x) inb in
                let none : s.1 ≡ [] = last_ends k s.0 s.1 (body_of t x) (w.bodies.distinct x) s.2 e in
                record {
                  jump = k;
                  front = s.0;
                  leads = j;
                  split = s.2 ∙ ap (λ z. s.0 ++ k ∷ z) none;
                  in_block = pk;
                  uses = ⊎_elim (λ y. y) (λ y. absurd (missed (argument_passed k x part j y pk path))) (uses_either k j);
                }

        -- and the value was passed, if the block's region makes it
        pub value_passed : (x : ℕ) (part : List ℕ) → Path t entry x part → (e : Enters t b v x) → home_of t v ≡ Some here → HasPassed t (definition_of t v) part x e.front
        value_passed x part path e hv =
            let d = f.defined.dominated e.jump v e.uses value_inside in
            passed_by e.jump v x e.front [] part e.leads d (some_is (sym d.defined ∙ hv)) e.in_block e.split path

        result_passed : (k c : ℕ) → parent_of t k ≡ Some c → block_parent_of t c ≡ Some here → In v (results_of t k) → PassedFirst t entry b c
        result_passed k c pk rc y x part path l missed =
            let n = slice_in (results_of t k) v y in
            let by : definition_of t v ≡ Some (Result k n.0) = w.joined.results k n.0 v n.1 in
            let hv : home_of t v ≡ Some here = ap (λ z. up_from (defining_block t z) (λ c. block_parent_of t c)) by ∙ ap (λ o. up_from o (λ c. block_parent_of t c)) pk ∙ rc in
            let e = enters x part path l missed in
            ⊎_elim
            (λ q. inl (some_is (sym pk ∙ w.bodies.owned k x (subst (In k) (sym e.split) (In-left k e.front (e.jump ∷ []) q)))))
            (λ q. inr (subst (λ z. In z part) (some_is (sym q.1 ∙ pk)) q.2))
            (subst (λ z. HasPassed t z part x e.front) by (value_passed x part path e hv))

        pub bound_passed : (c : ℕ) → block_parent_of t c ≡ Some here → In v (arguments_of t c) → PassedFirst t entry b c
        bound_passed c rc y x part path l missed =
            let n = slice_in (arguments_of t c) v y in
            let by : definition_of t v ≡ Some (Argument c n.0) = w.joined.arguments c n.0 v n.1 in
            let hv : home_of t v ≡ Some here = ap (λ z. up_from (defining_block t z) (λ c. block_parent_of t c)) by ∙ rc in
            let e = enters x part path l missed in
            subst (λ z. HasPassed t z part x e.front) by (value_passed x part path e hv)

        -- where the value is made anew, some path misses the block
        pub result_misses : (k c : ℕ) → parent_of t k ≡ Some c → block_parent_of t c ≡ Some here → In v (results_of t k) → (before : List ℕ) → Path t entry c before → Misses t entry c b
        result_misses k c pk rc y before path = misses_first t entry b (inner entry fe) c (result_passed k c pk rc y) before path

        pub argument_misses : (c : ℕ) → block_parent_of t c ≡ Some here → In v (arguments_of t c) → (before : List ℕ) → Path t entry c before → Misses t entry c b
        argument_misses c rc y before path = misses_first t entry b (inner entry fe) c (bound_passed c rc y) before path

        -- where a path leads to the block, the value is none of its arguments
        pub not_own : (before : List ℕ) → Path t entry b before → In v (arguments_of t b) → ⊥
        not_own before path y =
            let x = comes_first t entry b (inner entry fe) b before path (inl refl) in
            x.missed (bound_passed b held.2 y x.last x.part x.path x.leads x.missed)

      -- where the argument dominates a use, the value does
      dominated_too : (user : ℕ) → IsDominated t user p → IsDominated t user v
      dominated_too user e = ⊎_elim same above d.holds
        where
          d : IsDominated t source v
          d = f.defined.dominated source v source_uses value_inside

          p_home : e.region ≡ here
          p_home = some_is (sym e.defined ∙ ap (λ z. up_from (defining_block t z) (λ c. block_parent_of t c)) made ∙ held.2)

          e_holder : parent_operation_of t e.around ≡ Some top
          e_holder =
              let x = home_held t w user p e in
              x.2 ∙ sym x.1 ∙ ap (region_parent_of t) p_home ∙ held.4

          above : IsInside t d.around source → IsDominated t user v
          above y =
              let u = inside_up y in
              let s : u.0 ≡ top = some_is (sym u.1 ∙ end_holder source source_leads (ends source source_leads)) in
              record {
                around = d.around;
                holds = inr (within_inside (inside_by top e_holder (subst (IsWithin t d.around) s u.2)) e.holds);
                block = d.block;
                region = d.region;
                in_block = d.in_block;
                in_region = d.in_region;
                defined = d.defined;
                passes = d.passes;
              }

          same : source ≡ d.around → IsDominated t user v
          same s =
              let end = ends source source_leads in
              let block : d.block ≡ end.block = some_is (sym d.in_block ∙ ap (parent_of t) (sym s) ∙ end.in_block) in
              let home : d.region ≡ here = some_is (sym d.in_region ∙ ap (block_parent_of t) block ∙ end_region source source_leads end) in
              record {
                around = e.around;
                holds = e.holds;
                block = e.block;
                region = e.region;
                in_block = e.in_block;
                in_region = e.in_region;
                defined = d.defined ∙ ap Some (home ∙ sym p_home);
                passes = λ entry before done rest fe pe be.
                    let first : first_of (layout_of t here) None ≡ Some entry = ap (λ z. first_of (layout_of t z) None) (sym p_home) ∙ fe in
                    let through : In b (e.block ∷ before) = subst (λ z. HasPassed t z before e.block done) made (e.passes entry before done rest fe pe be) in
                    let r = comes_first t entry b (inner entry first) e.block before pe through in
                    let n = enters entry first r.last r.part r.path r.leads r.missed in
                    passed_on t w (definition_of t v) r.part before r.last n.jump e.block n.front done n.split r.within (value_passed entry first r.last r.part r.path n (d.defined ∙ ap Some home));
              }

    pub may_use : (user : ℕ) → In p (operands_of t user) → MayUse t root user v
    may_use user named = record {
      own = λ inside. value_inside (block_of_argument (f.defined.own_values user p inside named));
      no_jumper = λ k inside ne r. f.defined.unused k v source inside ne r source_uses;
      dominated = λ x.
          let holds = block_of_value x in
          dominated_too holds user (f.defined.dominated user p named (argument_of_block holds));
    }
