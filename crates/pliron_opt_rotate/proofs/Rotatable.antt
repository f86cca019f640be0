-- What the tests tell is all that a rotation asks for.
use Rattle.std.proofs.Common.{◌≡◌, ◌≢◌, ◌⊎◌, inl, inr, ⊎_elim, ℕ, Bool, List, [], ◌∷◌, ◌++◌, Some, None, is_some, refl, sym, ap, ◌∙◌, subst}
use Rattle.pliron_core.specs.declared.context.Def.TheVariants.{Result, Argument}
use Rattle.pliron_core.specs.Changes.{IsDefiningOperationInside}
use Rattle.pliron_core.specs.Invariant.{IsTree}
use Rattle.pliron_core.specs.Tree.{Tree, In, IsInside, HoldsBlock, first_of, last_of, successors_of, results_of, parent_of, body_of, block_parent_of, layout_of, region_parent_of, definition_of, up_from}
use Rattle.pliron_core.proofs.HoldingLemmas.{some_is, slice_in, block_inside}
use Rattle.pliron_core.proofs.ListLemmas.{In-cases}
use Rattle.pliron_laws.specs.Datum.{Head, Meaning}
use Rattle.pliron_laws.specs.Paths.{Path}
use Rattle.pliron_laws.specs.Root.{defining_block, HasPassed}
use Rattle.pliron_theory.specs.Keeps.{IsFit, with_roots}
use Rattle.pliron_theory.specs.Renaming.{MayUse}
use Rattle.pliron_theory.proofs.Bound.{last_ends}
use Rattle.pliron_theory.proofs.PutUses.{maker_holds, holds_maker}
use Rattle.pliron_rewrite_calls.specs.Copying.{AreChildless}
use Rattle.pliron_rewrite_loops.specs.Passing.{MayPass}
use Rattle.pliron_rewrite_loops.specs.Closing.{IsHeaderCovered}
use Rattle.pliron_rewrite_rotation.specs.declared.rotating.Rotation.{Rotation}
use Rattle.pliron_rewrite_rotation.specs.Entering.{EndsBeside}
use Rattle.pliron_rewrite_rotation.specs.Rotation.{MayRotate}
use Rattle.pliron_opt_rotate.specs.Tested.{IsUserBehind, IsMadeIn, IsMadeIn.OfArgument, IsMadeIn.OfResult, IsValueOf, IsLedFrom, IsGateOf, AreUsesCovered, AreLeadersCovered}

-- what stands beside a held block is held
pub held_beside : (t : Tree) (root b c : ℕ) → block_parent_of t c ≡ block_parent_of t b → HoldsBlock t root b → HoldsBlock t root c
held_beside t root b c e h = (h.0, ap (λ z. up_from z (λ r. region_parent_of t r)) e ∙ h.1, h.2)

-- ---- values of the header

pub made_home : (t : Tree) (header v : ℕ) → IsMadeIn t header v → defining_block t (definition_of t v) ≡ Some header
made_home t header v (OfArgument i d) = ap (defining_block t) d
made_home t header v (OfResult k i d p s) = ap (defining_block t) d ∙ p

held_made : (t : Tree) (root header v : ℕ) → IsMadeIn t header v → HoldsBlock t root header → IsDefiningOperationInside t root (definition_of t v)
held_made t root header v (OfArgument i d) held = subst (IsDefiningOperationInside t root) (sym d) held
held_made t root header v (OfResult k i d p s) held = subst (IsDefiningOperationInside t root) (sym d) (holds_maker t root header k i p held)

-- what has successors makes none of them
not_made : (t : Tree) (w : IsTree t) (header v k : ℕ) → IsMadeIn t header v → successors_of t k ≢ [] → In v (results_of t k) → ⊥
not_made t w header v k (OfArgument i d) ne j =
    let n = slice_in (results_of t k) v j in
    let e : Result k n.0 ≡ Argument header i = some_is (sym (w.joined.results k n.0 v n.1) ∙ d) in
    cc
not_made t w header v k (OfResult q i d p s) ne j =
    let n = slice_in (results_of t k) v j in
    let e : Result k n.0 ≡ Result q i = some_is (sym (w.joined.results k n.0 v n.1) ∙ d) in
    let f : k ≡ q = cc in
    ne (ap (successors_of t) f ∙ s)

some_in : (xs : List ℕ) (x : ℕ) → In x xs → xs ≢ []
some_in [] x i e = i
some_in (y ∷ ys) x i e = cc

-- what stands before the last of a body was passed there
before_last : (k j : ℕ) (done rest xs : List ℕ) → xs ≡ done ++ k ∷ rest → rest ≡ [] → j ≢ k → In j xs → In j done
before_last k j done rest xs e r ne i = ⊎_elim
    (λ a. a)
    (λ a. ⊎_elim (λ s. absurd (ne s)) (λ b. absurd (subst (In j) r b)) a)
    (In-cases j done (k ∷ rest) (subst (In j) e i))

module _ (m : Meaning) (t : Tree) (w : IsTree t) (x : Rotation) (region : ℕ) (home : block_parent_of t x.header ≡ Some region) (made : (v : ℕ) → In v x.values.items → IsValueOf t x.header v) where
  -- ---- what leads to a block of the region may use them

  -- every path to the operation passes the header
  pub record IsPassing (k : ℕ) : Type 0 where
    pub block : ℕ
    pub in_block : parent_of t k ≡ Some block
    pub in_region : block_parent_of t block ≡ Some region
    pub passes : (entry : ℕ) (before : List ℕ) → first_of (layout_of t region) None ≡ Some entry → Path t entry block before → In x.header (block ∷ before)
    pub apart : block ≢ x.header

  passing : (gate k : ℕ) → IsUserBehind t x.header region gate k → IsPassing k
  passing gate k b = record { block = b.block; in_block = b.stands.in_block; in_region = b.stands.in_region; passes = b.behind_header; apart = b.stands.apart }

  passed_elsewhere : (k v b : ℕ) (before done : List ℕ) → IsMadeIn t x.header v → b ≢ x.header → In x.header (b ∷ before) → HasPassed t (definition_of t v) before b done
  passed_elsewhere k v b before done (OfArgument i d) ne here = subst (λ z. HasPassed t z before b done) (sym d) here
  passed_elsewhere k v b before done (OfResult q i d p s) ne here = subst (λ z. HasPassed t z before b done) (sym d)
      (inr (x.header, p, ⊎_elim (λ e. absurd (ne (sym e))) (λ j. j) here))

  -- in the header itself an operation with successors is the last
  passed_here : (k v : ℕ) (before done rest : List ℕ) → IsMadeIn t x.header v → successors_of t k ≢ [] → last_of None (body_of t x.header) ≡ Some k → body_of t x.header ≡ done ++ k ∷ rest → HasPassed t (definition_of t v) before x.header done
  passed_here k v before done rest (OfArgument i d) ne last split = subst (λ z. HasPassed t z before x.header done) (sym d) (inl refl)
  passed_here k v before done rest (OfResult q i d p s) ne last split =
      let r = last_ends k done rest (body_of t x.header) (w.bodies.distinct x.header) split last in
      let apart : q ≢ k = λ e. ne (ap (successors_of t) (sym e) ∙ s) in
      subst (λ z. HasPassed t z before x.header done) (sym d) (inl (before_last k q done rest (body_of t x.header) split r apart (w.bodies.listed q x.header p)))

  defined_home : (v : ℕ) → IsMadeIn t x.header v → up_from (defining_block t (definition_of t v)) (λ d. block_parent_of t d) ≡ Some region
  defined_home v q = ap (λ z. up_from z (λ d. block_parent_of t d)) (made_home t x.header v q) ∙ home

  module _ (chosen : Head → Bool) (root gate : ℕ) (beside : block_parent_of t gate ≡ Some region) (fit : IsFit (with_roots m chosen) t root) (k v : ℕ) (leads : In gate (successors_of t k)) (q : IsMadeIn t x.header v) where
    own_of : (b : ℕ) → parent_of t k ≡ Some b → block_parent_of t b ≡ Some region → IsInside t root k → IsDefiningOperationInside t root (definition_of t v)
    own_of b p r i = held_made t root x.header v q (held_beside t root b x.header (home ∙ sym r) (block_inside b p i))

    no_jumper : (j : ℕ) → IsInside t root j → successors_of t j ≢ [] → In v (results_of t j) → ⊥
    no_jumper j i ne r = not_made t w x.header v j q ne r

    use_elsewhere : IsPassing k → MayUse t root k v
    use_elsewhere b = record {
      own = own_of b.block b.in_block b.in_region;
      no_jumper = no_jumper;
      dominated = λ inner. record {
        around = k;
        holds = inl refl;
        block = b.block;
        region = region;
        in_block = b.in_block;
        in_region = b.in_region;
        defined = defined_home v q;
        passes = λ entry before done rest first path split. passed_elsewhere k v b.block before done q b.apart (b.passes entry before first path);
      };
    }

    use_here : parent_of t k ≡ Some x.header → MayUse t root k v
    use_here p = record {
      own = own_of x.header p home;
      no_jumper = no_jumper;
      dominated = λ inner.
          let held = maker_holds t root x.header (definition_of t v) (made_home t x.header v q) inner in
          let e = fit.linked.edges k gate leads (inr (held_beside t root x.header gate (beside ∙ sym home) held)) in
          let same : e.block ≡ x.header = some_is (sym e.in_block ∙ p) in
          let last : last_of None (body_of t x.header) ≡ Some k = subst (λ z. last_of None (body_of t z) ≡ Some k) same e.last in
          record {
            around = k;
            holds = inl refl;
            block = x.header;
            region = region;
            in_block = p;
            in_region = home;
            defined = defined_home v q;
            passes = λ entry before done rest first path split. passed_here k v before done rest q (some_in (successors_of t k) gate leads) last split;
          };
    }

  -- ---- a gate

  module _ (gate other : ℕ) (users more : List ℕ) (g : IsGateOf t x.header region gate users) (others : (k : ℕ) → In k more → IsUserBehind t x.header region other k) (leaders : (k : ℕ) → In gate (successors_of t k) → (parent_of t k ≡ Some x.header) ⊎ (In k users ⊎ In k more)) where
    use_gate : (chosen : Head → Bool) (root k v : ℕ) → IsFit (with_roots m chosen) t root → In gate (successors_of t k) → In v x.values.items → MayUse t root k v
    use_gate chosen root k v fit leads i =
        let q = (made v i).made in
        ⊎_elim
        (λ p. use_here chosen root gate g.in_region fit k v leads q p)
        (λ j. ⊎_elim
        (λ u. use_elsewhere chosen root gate g.in_region fit k v leads q (passing gate k (g.behind k u)))
        (λ u. use_elsewhere chosen root gate g.in_region fit k v leads q (passing other k (others k u)))
        j)
        (leaders k leads)

    no_user : (k : ℕ) → parent_of t k ≡ Some x.header → In k users → ⊥
    no_user k p i = let b = g.behind k i in b.stands.apart (some_is (sym b.stands.in_block ∙ p))

    pub may_pass : (k : ℕ) → In k users → MayPass m t gate x.values.items users
    may_pass k i =
        let l = g.led k i in
        record {
          stands = ap is_some g.in_region;
          no_entry = λ e. g.no_entry k i (subst (λ r. first_of (layout_of t r) None ≡ Some gate) (some_is (sym e.1 ∙ g.in_region)) e.2);
          defined = λ v j. (made v j).live;
          may_use = use_gate;
          some_edge = (l.0, l.2, no_user l.0 l.1);
          live = λ j u. (w.joined.all_in_place j (g.behind j u).block (g.behind j u).stands.in_block).0;
          behind = λ chosen root j fit u.
              let b = g.behind j u in
              record {
                own = λ inside. held_beside t root b.block gate (g.in_region ∙ sym b.stands.in_region) (block_inside b.block b.stands.in_block inside);
                behind = λ held. record {
                  around = j;
                  holds = inl refl;
                  stands = b.block;
                  region = region;
                  in_block = b.stands.in_block;
                  in_region = b.stands.in_region;
                  beside = g.in_region;
                  passes = b.behind_gate;
                };
              };
        }

  module _
      (body : IsGateOf t x.header region x.body.block x.body.users.items)
      (exit : IsGateOf t x.header region x.exit.block x.exit.users.items)
      (uses : AreUsesCovered t x.header x.values.items x.body.users.items x.exit.users.items)
      (to_body : AreLeadersCovered t x.header x.body.block x.body.users.items x.body.users.items)
      (to_exit : (k : ℕ) → In k x.exit.users.items → AreLeadersCovered t x.header x.exit.block x.body.users.items x.exit.users.items) where
    body_leader : (k : ℕ) → In x.body.block (successors_of t k) → (parent_of t k ≡ Some x.header) ⊎ (In k x.body.users.items ⊎ In k x.exit.users.items)
    body_leader k i = ⊎_elim (λ p. inl p) (λ u. inr (inl (⊎_elim (λ a. a) (λ a. a) u))) (to_body k i)

    swapped : (j k : ℕ) → In j x.exit.users.items → In x.exit.block (successors_of t k) → (parent_of t k ≡ Some x.header) ⊎ (In k x.exit.users.items ⊎ In k x.body.users.items)
    swapped j k u i = ⊎_elim (λ p. inl p) (λ a. inr (⊎_elim (λ b. inr b) (λ b. inl b) a)) (to_exit j u k i)

    covered : IsHeaderCovered t x.header x.body.block x.exit.block x.values.items x.body.users.items x.exit.users.items
    covered = record {
      body_apart = body.apart;
      exit_apart = λ j i. exit.apart;
      uses = uses;
      to_exit = λ j k u i. ⊎_elim (λ p. inl (inl p)) (λ a. ⊎_elim (λ b. inl (inr b)) (λ b. inr b) a) (to_exit j u k i);
      to_body = λ k i. ⊎_elim (λ p. inl p) (λ u. inr (⊎_elim (λ a. a) (λ a. a) u)) (to_body k i);
    }

    pub rotatable : (IsLedFrom t x.header x.header → ⊥) → ((k : ℕ) → In k x.entering.items → EndsBeside t x.header k) → AreChildless t (x.header ∷ []) → MayRotate m t x
    rotatable no_ring enter childless = record {
      to_body = λ k i. may_pass x.body.block x.exit.block x.body.users.items x.exit.users.items body exit.behind body_leader k i;
      to_exit = λ k i. may_pass x.exit.block x.body.block x.exit.users.items x.body.users.items exit body.behind (λ j. swapped k j i) k i;
      covered = covered;
      body_beside = body.in_region ∙ sym home;
      exit_beside = exit.in_region ∙ sym home;
      users_beside = λ k u. ⊎_elim
          (λ i. let b = body.behind k i in (b.block, b.stands.in_block, b.stands.in_region ∙ sym home))
          (λ i. let b = exit.behind k i in (b.block, b.stands.in_block, b.stands.in_region ∙ sym home))
          u;
      stands = ap is_some home;
      childless = childless;
      no_ring = λ k i j. no_ring (k, w.bodies.owned k x.header i, j);
      enter = enter;
    }
