-- What stands before a place is found from the place before it.
use Rattle.std.proofs.Common.{◌≡◌, ◌≢◌, ◌⊎◌, ◌↔◌, ℕ, List, [], ◌∷◌, ◌++◌, Some, None, IsSome, inl, inr, ⊎_elim, refl, sym, ap, ◌∙◌, subst}
use Rattle.pliron_core.specs.declared.context.Def.TheVariants.{Result}
use Rattle.pliron_core.specs.Lists.{IsDistinct}
use Rattle.pliron_core.specs.Tree.{Tree, In, IsWithin, parent_of, body_of, block_parent_of, layout_of, region_parent_of, block_parent_operation_of, parent_operation_of, first_of}
use Rattle.pliron_core.specs.Invariant.{IsTree}
use Rattle.pliron_core.proofs.ListLemmas.{In-left, In-right, In-cases, decide_in}
use Rattle.pliron_core.proofs.HoldingLemmas.{some_is, holder_by, block_held, inside_up, inside_by}
use Rattle.pliron_laws.specs.Paths.{Path}
use Rattle.pliron_laws.specs.Root.{HasPassed}
use Rattle.pliron_rewrite_equals.specs.OperationDominance.{DominatesOperation}
use Rattle.pliron_rewrite_equals.proofs.Ways.{split_once, part_to, first_part}
use Rattle.pliron_graph_order.specs.Seen.{IsOnPathIn}
use Rattle.pliron_graph_order.specs.Behind.{IsBehind, IsNearestBefore, BehindLaws}

module _ (t : Tree) (w : IsTree t) (r : ℕ) where
  -- the operation that holds the region of a block
  held : (c : ℕ) → block_parent_of t c ≡ Some r → (h : ℕ) × (region_parent_of t r ≡ Some h) × (block_parent_operation_of t c ≡ Some h)
  held c e =
      let x = block_held t c w.joined (subst IsSome (sym e) refl) in
      let s : x.0 ≡ r = some_is (sym x.2 ∙ e) in
      (x.1, ap (region_parent_of t) (sym s) ∙ x.4, x.5)

  operation : (c b x : ℕ) (done rest : List ℕ) → block_parent_of t c ≡ Some r → body_of t c ≡ done ++ b ∷ rest → DominatesOperation t x b ↔ IsBehind t r c done x
  operation c b x done rest rc body = (forth, back)
    where
      home_b : parent_of t b ≡ Some c
      home_b = w.bodies.owned b c (subst (In b) (sym body) (In-right b done (b ∷ rest) (inl refl)))

      holder : parent_operation_of t b ≡ Some (held c rc).0
      holder = holder_by t b c (held c rc).0 home_b (held c rc).2

      forth : DominatesOperation t x b → IsBehind t r c done x
      forth p = ⊎_elim
          (λ s.
          let block : p.block ≡ c = some_is (sym p.in_block ∙ ap (parent_of t) (sym s) ∙ home_b) in
          let region : p.region ≡ r = some_is (sym p.in_region ∙ ap (block_parent_of t) block ∙ rc) in
          inl (p.home, p.in_home, p.home_region ∙ ap Some region, λ entry before fe path. subst (λ z. HasPassed t (Some (Result x 0)) before z done) block (p.passes entry before done rest (ap (λ z. first_of (layout_of t z) None) region ∙ fe) (subst (λ z. Path t entry z before) (sym block) path) (ap (body_of t) block ∙ body ∙ ap (λ z. done ++ z ∷ rest) s))))
          (λ i.
          let u = inside_up i in
          let s : u.0 ≡ (held c rc).0 = some_is (sym u.1 ∙ holder) in
          inr (
            (held c rc).0,
            (held c rc).1,
            record {
              around = p.around;
              holds = subst (IsWithin t p.around) s u.2;
              home = p.home;
              in_home = p.in_home;
              block = p.block;
              in_block = p.in_block;
              region = p.region;
              home_region = p.home_region;
              in_region = p.in_region;
              passes = p.passes;
            },
          ))
          p.holds

      back : IsBehind t r c done x → DominatesOperation t x b
      back (inl q) = record {
        around = b;
        holds = inl refl;
        home = q.0;
        in_home = q.1;
        block = c;
        in_block = home_b;
        region = r;
        home_region = q.2;
        in_region = rc;
        passes = λ entry before front others fe path split.
            let same : done ≡ front = split_once b done rest front others (subst IsDistinct body (w.bodies.distinct c)) (sym body ∙ split) in
            subst (HasPassed t (Some (Result x 0)) before c) same (q.3 entry before fe path);
      }
      back (inr q) =
          let s : q.0 ≡ (held c rc).0 = some_is (sym q.1 ∙ (held c rc).1) in
          record {
            around = q.2.around;
            holds = inr (inside_by (held c rc).0 holder (subst (IsWithin t q.2.around) s q.2.holds));
            home = q.2.home;
            in_home = q.2.in_home;
            block = q.2.block;
            in_block = q.2.in_block;
            region = q.2.region;
            home_region = q.2.home_region;
            in_region = q.2.in_region;
            passes = q.2.passes;
          }

  next : (c p x : ℕ) (done rest : List ℕ) → block_parent_of t c ≡ Some r → body_of t c ≡ done ++ p ∷ rest → IsBehind t r c (done ++ p ∷ []) x ↔ ((x ≡ p) ⊎ IsBehind t r c done x)
  next c p x done rest rc body = (forth, back)
    where
      forth : IsBehind t r c (done ++ p ∷ []) x → (x ≡ p) ⊎ IsBehind t r c done x
      forth (inr q) = inr (inr q)
      forth (inl q) = ⊎_elim
          (λ i. ⊎_elim
          (λ j. inr (inl (q.0, q.1, q.2, λ entry before fe path. inl j)))
          (λ j. ⊎_elim (λ e. inl e) (λ z. absurd z) j)
          (In-cases x done (p ∷ []) i))
          (λ out. inr (inl (q.0, q.1, q.2, λ entry before fe path. ⊎_elim (λ i. absurd (out i)) (λ y. inr y) (q.3 entry before fe path))))
          (decide_in x (done ++ p ∷ []))

      home_p : parent_of t p ≡ Some c
      home_p = w.bodies.owned p c (subst (In p) (sym body) (In-right p done (p ∷ rest) (inl refl)))

      back : (x ≡ p) ⊎ IsBehind t r c done x → IsBehind t r c (done ++ p ∷ []) x
      back (inl e) = inl (c, ap (parent_of t) e ∙ home_p, rc, λ entry before fe path. inl (In-right x done (p ∷ []) (inl e)))
      back (inr (inl q)) = inl (q.0, q.1, q.2, λ entry before fe path. ⊎_elim (λ i. inl (In-left x done (p ∷ []) i)) (λ y. inr y) (q.3 entry before fe path))
      back (inr (inr q)) = inr q

  first : (c d x : ℕ) → IsOnPathIn t r c → IsNearestBefore t r d c → IsBehind t r c [] x ↔ IsBehind t r d (body_of t d) x
  first c d x reached near = (forth, back)
    where
      forth : IsBehind t r c [] x → IsBehind t r d (body_of t d) x
      forth (inr q) = inr q
      forth (inl q) = inl (q.0, q.1, q.2, λ entry before fe path. passes entry before fe path)
        where
          before_it : (entry : ℕ) (before : List ℕ) → first_of (layout_of t r) None ≡ Some entry → Path t entry c before → In q.0 before
          before_it entry before fe path = ⊎_elim (λ z. absurd z) (λ y. subst (λ z. In z before) (some_is (sym y.1 ∙ q.1)) y.2) (q.3 entry before fe path)

          other : q.0 ≢ c
          other e =
              let p = first_part t reached.0 c c reached.2 reached.3 (inl refl) in
              p.2 (subst (λ z. In z p.0) e (before_it reached.0 p.0 reached.1 p.1))

          passes : (entry : ℕ) (before : List ℕ) → first_of (layout_of t r) None ≡ Some entry → Path t entry d before → HasPassed t (Some (Result x 0)) before d (body_of t d)
          passes entry before fe path = ⊎_elim
              (λ e. inl (w.bodies.listed x d (q.1 ∙ ap Some e)))
              (λ i. inr (q.0, q.1, i))
              (near.nearest q.0 other (λ e b f p. inr (before_it e b f p)) entry before fe path)

      back : IsBehind t r d (body_of t d) x → IsBehind t r c [] x
      back (inr q) = inr q
      back (inl q) = inl (
        q.0,
        q.1,
        q.2,
        λ entry before fe path.
            let i : In d before = ⊎_elim (λ e. absurd (near.other e)) (λ j. j) (near.passed entry before fe path) in
            let p = part_to t entry c d before path i in
            ⊎_elim
            (λ j. inr (d, w.bodies.owned x d j, i))
            (λ y. inr (y.0, y.1, p.2 y.0 (inr y.2)))
            (q.3 entry p.0 fe p.1),
      )

  entry : (c h x : ℕ) → first_of (layout_of t r) None ≡ Some c → region_parent_of t r ≡ Some h → IsBehind t r c [] x ↔ DominatesOperation t x h
  entry c h x fe up = (forth, λ s. inr (h, up, s))
    where
      forth : IsBehind t r c [] x → DominatesOperation t x h
      forth (inl q) = absurd (⊎_elim (λ z. z) (λ y. y.2) (q.3 c [] fe refl))
      forth (inr q) = subst (DominatesOperation t x) (some_is (sym q.1 ∙ up)) q.2

pub behind : BehindLaws
behind = record {
  operation = λ t r c b x done rest w rc body. operation t w r c b x done rest rc body;
  next = λ t r c p x done rest w rc body. next t w r c p x done rest rc body;
  first = λ t r c d x w reached near. first t w r c d x reached near;
  entry = λ t r c h x w fe up. entry t w r c h x fe up;
}
