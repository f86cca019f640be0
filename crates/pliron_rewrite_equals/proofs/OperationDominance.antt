-- Standing before is what the dominance of results says, and is transitive.
use Rattle.std.proofs.Common.{◌≡◌, ℕ, ◌∷◌, ◌++◌, Option, Some, None, IsSome, inl, inr, ⊎_elim, refl, sym, ap, ◌∙◌, subst, append_assoc}
use Rattle.pliron_core.specs.declared.context.Def.TheVariants.{Result}
use Rattle.pliron_core.specs.Tree.{Tree, In, IsInside, IsWithin, parent_of, body_of, block_parent_of, layout_of, region_parent_of, parent_operation_of, definition_of, first_of, up_from}
use Rattle.pliron_core.specs.Invariant.{IsTree}
use Rattle.pliron_core.proofs.ListLemmas.{In-left, In-right, split_at}
use Rattle.pliron_core.proofs.HoldingLemmas.{some_is, not_none, holder_by, block_held, inside_up, inside_by, within_inside}
use Rattle.pliron_laws.specs.Paths.{Path}
use Rattle.pliron_laws.specs.Root.{defining_block, HasPassed, IsDominated}
use Rattle.pliron_rewrite_equals.specs.OperationDominance.{DominatesOperation}
use Rattle.pliron_rewrite_equals.proofs.Ways.{part_to}

-- what makes a result that dominates a use stands before the user
pub dominated_stands : (t : Tree) (k i u v : ℕ) → definition_of t v ≡ Some (Result k i) → IsDominated t u v → DominatesOperation t k u
dominated_stands t k i u v e d = go (parent_of t k) refl (ap (λ z. up_from (defining_block t z) (λ c. block_parent_of t c)) (sym e) ∙ d.defined)
  where
    go : (o : Option ℕ) → parent_of t k ≡ o → up_from o (λ c. block_parent_of t c) ≡ Some d.region → DominatesOperation t k u
    go None p q = absurd (not_none q)
    go (Some home) p q = record {
      around = d.around;
      holds = d.holds;
      home = home;
      in_home = p;
      block = d.block;
      in_block = d.in_block;
      region = d.region;
      home_region = q;
      in_region = d.in_region;
      passes = λ entry before done rest fe path split. subst (λ z. HasPassed t z before d.block done) e (d.passes entry before done rest fe path split);
    }

-- and the other way round
pub stands_dominated : (t : Tree) (k i u v : ℕ) → definition_of t v ≡ Some (Result k i) → DominatesOperation t k u → IsDominated t u v
stands_dominated t k i u v e p = record {
  around = p.around;
  holds = p.holds;
  block = p.block;
  region = p.region;
  in_block = p.in_block;
  in_region = p.in_region;
  defined = ap (λ z. up_from (defining_block t z) (λ c. block_parent_of t c)) e ∙ ap (λ o. up_from o (λ c. block_parent_of t c)) p.in_home ∙ p.home_region;
  passes = λ entry before done rest fe path split. subst (λ z. HasPassed t z before p.block done) (sym e) (p.passes entry before done rest fe path split);
}

module _ (t : Tree) (w : IsTree t) where
  -- the parent operation of both
  pub stands_holder : (a b : ℕ) (p : DominatesOperation t a b) → (x : ℕ) × (parent_operation_of t a ≡ Some x) × (parent_operation_of t p.around ≡ Some x)
  stands_holder a b p =
      let x = block_held t p.home w.joined (subst IsSome (sym p.home_region) refl) in
      let y = block_held t p.block w.joined (subst IsSome (sym p.in_region) refl) in
      let r : x.0 ≡ y.0 = some_is (sym x.2 ∙ p.home_region ∙ sym p.in_region ∙ y.2) in
      let h : x.1 ≡ y.1 = some_is (sym x.4 ∙ ap (region_parent_of t) r ∙ y.4) in
      (x.1, holder_by t a p.home x.1 p.in_home x.5, holder_by t p.around p.block x.1 p.in_block (y.5 ∙ ap Some (sym h)))

  pub stands_trans : (a b u : ℕ) → DominatesOperation t a b → DominatesOperation t b u → DominatesOperation t a u
  stands_trans a b u p q = ⊎_elim beside above p.holds
    where
      above : IsInside t p.around b → DominatesOperation t a u
      above y =
          let h = stands_holder b u q in
          let x = inside_up y in
          let s : x.0 ≡ h.0 = some_is (sym x.1 ∙ h.1) in
          record {
            around = p.around;
            holds = inr (within_inside (inside_by h.0 h.2 (subst (IsWithin t p.around) s x.2)) q.holds);
            home = p.home;
            in_home = p.in_home;
            block = p.block;
            in_block = p.in_block;
            region = p.region;
            home_region = p.home_region;
            in_region = p.in_region;
            passes = p.passes;
          }

      beside : b ≡ p.around → DominatesOperation t a u
      beside s =
          let block : p.block ≡ q.home = some_is (sym p.in_block ∙ ap (parent_of t) (sym s) ∙ q.in_home) in
          let region : p.region ≡ q.region = some_is (sym p.in_region ∙ ap (block_parent_of t) block ∙ q.home_region) in
          record {
            around = q.around;
            holds = q.holds;
            home = p.home;
            in_home = p.in_home;
            block = q.block;
            in_block = q.in_block;
            region = q.region;
            home_region = p.home_region ∙ ap Some region;
            in_region = q.in_region;
            passes = λ entry before done rest fe path split. ⊎_elim
                (λ i.
                let x = split_at b done i in
                let body : body_of t q.block ≡ x.0 ++ b ∷ (x.1 ++ q.around ∷ rest) = split ∙ ap (λ z. z ++ q.around ∷ rest) x.2 ∙ append_assoc x.0 (b ∷ x.1) (q.around ∷ rest) in
                let at : p.block ≡ q.block = block ∙ some_is (sym q.in_home ∙ w.bodies.owned b q.block (subst (In b) (sym body) (In-right b x.0 (b ∷ (x.1 ++ q.around ∷ rest)) (inl refl)))) in
                ⊎_elim
                (λ j. inl (subst (In a) (sym x.2) (In-left a x.0 (b ∷ x.1) j)))
                (λ j. inr j)
                (p.passes entry before x.0 (x.1 ++ q.around ∷ rest) (ap (λ r. first_of (layout_of t r) None) region ∙ fe) (subst (λ c. Path t entry c before) (sym at) path) (ap (body_of t) at ∙ body ∙ ap (λ z. x.0 ++ z ∷ (x.1 ++ q.around ∷ rest)) s)))
                (λ j.
                let y = part_to t entry q.block j.0 before path j.2 in
                let at : p.block ≡ j.0 = block ∙ some_is (sym q.in_home ∙ j.1) in
                let x = split_at b (body_of t j.0) (w.bodies.listed b j.0 j.1) in
                ⊎_elim
                (λ i. inr (j.0, w.bodies.owned a j.0 (subst (In a) (sym x.2) (In-left a x.0 (b ∷ x.1) i)), j.2))
                (λ i. inr (i.0, i.1, y.2 i.0 (inr i.2)))
                (p.passes entry y.0 x.0 x.1 (ap (λ r. first_of (layout_of t r) None) region ∙ fe) (subst (λ c. Path t entry c y.0) (sym at) y.1) (ap (body_of t) at ∙ x.2 ∙ ap (λ z. x.0 ++ z ∷ x.1) s)))
                (q.passes entry before done rest fe path split);
          }
