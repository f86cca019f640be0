-- Where an operation without regions and successors is erased, what stands before what stays.
use Rattle.std.proofs.Common.{◌≡◌, ◌≢◌, ℕ, Bool, true, false, List, [], ◌∷◌, ◌++◌, None, inl, inr, ⊎_elim, refl, sym, ap, ◌∙◌, subst}
use Rattle.pliron_core.specs.Tree.{Tree, In, IsLive, IsInside, IsWithin, successors_of, regions_of, parent_of, body_of, block_parent_of, first_of}
use Rattle.pliron_core.specs.Invariant.{IsTree}
use Rattle.pliron_core.specs.Erased.{after_erasing, IsSelfContained}
use Rattle.pliron_laws.specs.Linked.{EdgesLast}
use Rattle.pliron_laws.specs.Paths.{Path}
use Rattle.pliron_theory.specs.Edges.{EdgesAlike}
use Rattle.pliron_theory.specs.Sweeping.{IsSwept, AreAway, swept}
use Rattle.pliron_theory.proofs.ErasedKeeps.{op_erased, block_erased_with, erased_swept, erased_gone}
use Rattle.pliron_theory.proofs.SweptLists.{in_swept, from_swept, cut, swept_split}
use Rattle.pliron_theory.proofs.SweptParts.{gone_away, within_forth, within_back}
use Rattle.pliron_rewrite_equals.specs.OperationDominance.{DominatesOperation}
use Rattle.pliron_rewrite_equals.proofs.Merging.{nothing_inside}
use Rattle.pliron_opt_cse.proofs.ErasedEdges.{only_itself, block_left, erased_alike}

module _ (t : Tree) (b : ℕ) (w : IsTree t) (none : regions_of t b ≡ []) (next : successors_of t b ≡ []) (live : IsLive t b) (contained : IsSelfContained t b) (w' : IsTree (after_erasing t b)) (root : ℕ) (edges : EdgesLast t root) (inside : IsInside t root b) where
  nowhere : (c : ℕ) → In c (successors_of t b) → ⊥
  nowhere c i = subst (In c) next i

  abbrev dead : ℕ → Bool
  dead k = op_erased t b k

  abbrev dead_block : ℕ → Bool
  dead_block c = block_erased_with t b c

  pub is : IsSwept t (after_erasing t b) (λ k. op_erased t b k) (λ c. block_erased_with t b c)
  is = erased_swept t b w live contained

  away : AreAway (after_erasing t b) (λ k. op_erased t b k) (λ c. block_erased_with t b c)
  away = gone_away (after_erasing t b) (λ k. op_erased t b k) (λ c. block_erased_with t b c) w' (erased_gone t b w live contained)

  pub alike : EdgesAlike t (after_erasing t b)
  alike = erased_alike t b w none live contained w' root edges inside nowhere

  pub lives : (k : ℕ) → k ≢ b → op_erased t b k ≡ false
  lives k ne = go (op_erased t b k) refl
    where
      go : (d : Bool) → op_erased t b k ≡ d → op_erased t b k ≡ false
      go true e = absurd (ne (only_itself t b w none k e))
      go false e = e

  bodies : (c : ℕ) → body_of (after_erasing t b) c ≡ swept (λ k. op_erased t b k) (body_of t c)
  bodies c = is.bodies c (block_left t b w none c)

  pub regions_same : (c : ℕ) → block_parent_of (after_erasing t b) c ≡ block_parent_of t c
  regions_same c = is.block_parents c (block_left t b w none c)

  pub path_forth : (x y : ℕ) (before : List ℕ) → Path t x y before → Path (after_erasing t b) x y before
  path_forth x y [] p = p
  path_forth x y (c ∷ before) p = (record { successor = subst (In y) (sym (alike.successors c)) p.0.successor; same_region = regions_same y ∙ p.0.same_region ∙ sym (regions_same c) }, path_forth x c before p.1)

  pub path_back : (x y : ℕ) (before : List ℕ) → Path (after_erasing t b) x y before → Path t x y before
  path_back x y [] p = p
  path_back x y (c ∷ before) p = (record { successor = subst (In y) (alike.successors c) p.0.successor; same_region = sym (regions_same y) ∙ p.0.same_region ∙ regions_same c }, path_back x c before p.1)

  pub parents : (k : ℕ) → k ≢ b → parent_of (after_erasing t b) k ≡ parent_of t k
  parents k ne = is.parents k (lives k ne)

  pub stands_forth : (x y : ℕ) → x ≢ b → y ≢ b → DominatesOperation t x y → DominatesOperation (after_erasing t b) x y
  stands_forth x y nx ny p = record {
    around = p.around;
    holds = (within_forth t (after_erasing t b) (λ k. op_erased t b k) (λ c. block_erased_with t b c) w w' is p.around y (lives y ny) p.holds).0;
    home = p.home;
    in_home = parents x nx ∙ p.in_home;
    block = p.block;
    in_block = parents p.around na ∙ p.in_block;
    region = p.region;
    home_region = regions_same p.home ∙ p.home_region;
    in_region = regions_same p.block ∙ p.in_region;
    passes = λ entry before done rest fe path split.
        let c = cut (λ k. op_erased t b k) p.around rest (body_of t p.block) done (sym (bodies p.block) ∙ split) in
        ⊎_elim
        (λ i. inl (subst (In x) c.3 (in_swept (λ k. op_erased t b k) x (lives x nx) c.0 i)))
        (λ j. inr (j.0, parents x nx ∙ j.1, j.2))
        (p.passes entry before c.0 c.1 (ap (λ l. first_of l None) (sym (alike.layouts p.region)) ∙ fe) (path_back entry p.block before path) c.2);
  }
    where
      na : p.around ≢ b
      na e = ⊎_elim (λ s. ny (s ∙ e)) (λ i. nothing_inside t b y w none (subst (λ z. IsInside t z y) e i)) p.holds

  pub stands_back : (x y : ℕ) → x ≢ b → y ≢ b → DominatesOperation (after_erasing t b) x y → DominatesOperation t x y
  stands_back x y nx ny p = record {
    around = p.around;
    holds = within_back t (after_erasing t b) (λ k. op_erased t b k) (λ c. block_erased_with t b c) w w' is away p.around y p.holds;
    home = p.home;
    in_home = sym (parents x nx) ∙ p.in_home;
    block = p.block;
    in_block = sym (parents p.around na) ∙ p.in_block;
    region = p.region;
    home_region = sym (regions_same p.home) ∙ p.home_region;
    in_region = sym (regions_same p.block) ∙ p.in_region;
    passes = λ entry before done rest fe path split.
        let there : body_of (after_erasing t b) p.block ≡ swept (λ k. op_erased t b k) done ++ p.around ∷ swept (λ k. op_erased t b k) rest = bodies p.block ∙ ap (swept (λ k. op_erased t b k)) split ∙ swept_split (λ k. op_erased t b k) p.around rest done (lives p.around na) in
        ⊎_elim
        (λ i. inl (from_swept (λ k. op_erased t b k) x done i).0)
        (λ j. inr (j.0, sym (parents x nx) ∙ j.1, j.2))
        (p.passes entry before (swept (λ k. op_erased t b k) done) (swept (λ k. op_erased t b k) rest) (ap (λ l. first_of l None) (alike.layouts p.region) ∙ fe) (path_forth entry p.block before path) there);
  }
    where
      na : p.around ≢ b
      na e =
          let i : IsWithin t p.around y = within_back t (after_erasing t b) (λ k. op_erased t b k) (λ c. block_erased_with t b c) w w' is away p.around y p.holds in
          ⊎_elim (λ s. ny (s ∙ e)) (λ j. nothing_inside t b y w none (subst (λ z. IsInside t z y) e j)) i
