-- A thing that is ready goes: runs are kept, links stay, and one dead thing is less.
use Rattle.std.proofs.Common.{◌≡◌, ◌⊎◌, inl, inr, ⊎_elim, ℕ, ◌<◌, Bool, true, false, true≢false, nat_eq, length, Option, Some, None, IsSome, IsTrue, slice_get, refl, sym, ap, ◌∙◌, subst, arith, []}
use Rattle.std.proofs.lemmas.Bool.{cases_eq}
use Rattle.std.proofs.lemmas.Option.{slice_get_within}
use Rattle.pliron_core.specs.declared.context.Def.{Def}
use Rattle.pliron_core.specs.declared.context.Def.TheVariants.{Result, Argument}
use Rattle.pliron_core.specs.Changes.{IsDefinedInside, IsDefiningOperationInside}
use Rattle.pliron_core.specs.Tree.{Tree, In, IsLive, IsMadeBy, IsDefinedWithin, IsInside, Directly, Deeper, IsWithin, HoldsBlock, head_of, operands_of, successors_of, results_of, region_parent_of, block_parent_operation_of, definition_of, up_from, regions_of}
use Rattle.pliron_core.specs.Invariant.{IsTree}
use Rattle.pliron_core.specs.Erased.{after_erasing, is_met_above, IsSelfContained}
use Rattle.pliron_core.proofs.HoldingLemmas.{some_is, some_of, in_slice, slice_in, maker_is, inside_up, inside_or, inside_block, block_inside, within_inside, not_itself, deeper}
use Rattle.pliron_core.proofs.ClearedLemmas.{met_above}
use Rattle.pliron_core.proofs.WithinLemmas.{is_within, within_is}
use Rattle.pliron_laws.specs.Datum.{Head, Meaning}
use Rattle.pliron_laws.specs.Tree.{shape_of}
use Rattle.pliron_laws.specs.Laws.{KeepsCounts, GivesAtOnce}
use Rattle.pliron_laws.specs.Linked.{IsWellLinked}
use Rattle.pliron_theory.specs.Keeps.{KeepsAllRuns, with_roots}
use Rattle.pliron_theory.proofs.ChosenRoots.{counts as chosen_counts}
use Rattle.pliron_theory.specs.Sweeping.{is_maker_dead}
use Rattle.pliron_laws.proofs.Records.{op_shows, operation_of, make_op}
use Rattle.pliron_laws.proofs.ShapeLemmas.{shape_head}
use Rattle.pliron_theory.proofs.SweptKeeps.{admitted_shape, gives_now}
use Rattle.pliron_theory.proofs.SweptParts.{gone_away}
use Rattle.pliron_theory.proofs.ErasedKeeps.{op_erased, block_erased_with, erased_swept, erased_gone, erased_keeps}
use Rattle.pliron_opt_dce.specs.Dead.{Op, UsedByDead, MayBeErased, KeepsAlive, OfResult, OfInside}
use Rattle.pliron_opt_dce.proofs.ReadyLemmas.{ready_dead}
use Rattle.pliron_opt_dce.proofs.Thinned.{IsThinned}
use Rattle.pliron_opt_dce.proofs.RemovedThins.{inside_live, shape_successors}
use Rattle.pliron_theory.specs.Edges.{KeepsEdges}
use Rattle.pliron_theory.proofs.EdgeLemmas.{edges_alike}
use Rattle.pliron_opt_dce.proofs.ErasedEdges.{erased_alike}
use Rattle.pliron_opt_dce.proofs.SweptThins.{swept_thins, swept_linked}

-- of two operations that something stands inside, one stands inside the other
compare : {t : Tree} {k p x : ℕ} → IsWithin t k x → IsInside t p x → IsWithin t k p ⊎ IsInside t p k
compare {t} {k} {p} {x} (inl e) i = inr (subst (λ z. IsInside t p z) e i)
compare (inr (Directly e)) i = let y = inside_up i in let s = some_is (sym e ∙ y.1) in up s y.2
  where
    up : {t : Tree} {k p q : ℕ} → k ≡ q → IsWithin t p q → IsWithin t k p ⊎ IsInside t p k
    up {t} {k} {p} {q} s (inl e) = inl (inl (sym e ∙ sym s))
    up {t} {k} {p} {q} s (inr i) = inr (subst (λ z. IsInside t p z) (sym s) i)
compare {t} {k} {p} {x} (inr (Deeper q e j)) i = let y = inside_up i in let s = some_is (sym e ∙ y.1) in up (λ z. compare (inr j) z) (subst (λ z. IsWithin t p z) (sym s) y.2)
  where
    up : (IsInside t p q → IsWithin t k p ⊎ IsInside t p k) → IsWithin t p q → IsWithin t k p ⊎ IsInside t p k
    up ih (inl e) = inl (inr (subst (λ z. IsInside t k z) e j))
    up ih (inr i) = ih i

compare_within : {t : Tree} {k p x : ℕ} → IsWithin t k x → IsWithin t p x → IsWithin t k p ⊎ IsInside t p k
compare_within {t} {k} {p} {x} a (inl e) = inl (subst (λ z. IsWithin t k z) e a)
compare_within a (inr i) = compare a i

module _ (m : Meaning) (side_effects : Head → Option Bool) (removable : Head → ℕ → Bool → Option Bool) (counts : KeepsCounts m) (free : GivesAtOnce m side_effects) (t : Tree) (root : ℕ) (w : IsTree t) (linked : IsWellLinked m t root) where
  -- an operation that may go leads nowhere
  leads_nowhere : (k b : ℕ) → MayBeErased m side_effects t root k → In b (successors_of t k) → ⊥
  leads_nowhere k b may i =
      let l = some_of (head_of t k) (inside_live t w.joined may.inside).1 in
      let o = operation_of t k l.0 in
      let oe = make_op t k l.0 l.1 in
      let many : 0 < length (successors_of t k) = let y = slice_in (successors_of t k) b i in let z = slice_get_within (successors_of t k) y.0 b y.1 in omega (arith, z) in
      let ends = counts.successors (shape_of m t o) (admitted_shape m t k o oe (linked.admitted k (inr may.inside))) (subst (λ n. 0 < n) (sym (shape_successors m t o)) many) in
      true≢false (sym (subst (λ z. IsTrue (m.is_terminator z)) (shape_head m t o) ends) ∙ may.plain l.0 l.1)

  -- what leads to a block inside the root stands where the block stands
  beside : (k b p : ℕ) → In b (successors_of t k) → HoldsBlock t root b → HoldsBlock t p b → IsInside t p k
  beside k b p i g q =
      let ends = linked.edges k b i (inr g) in
      let same : block_parent_operation_of t ends.block ≡ block_parent_operation_of t b = ap (λ o. up_from o (λ r. region_parent_of t r)) (sym (ends.own_region b i)) in
      inside_block ends.block ends.in_block (q.0, same ∙ q.1, q.2)

  held_deeper : (k b : ℕ) → IsInside t root k → HoldsBlock t k b → HoldsBlock t root b
  held_deeper k b i q = (q.0, q.1, inr (within_inside i q.2))

  module _ (k : ℕ) (may : MayBeErased m side_effects t root k) (none : (user place : ℕ) → KeepsAlive t k user place → ⊥) where
    live : IsLive t k
    live = (inside_live t w.joined may.inside).1

    -- what is defined in the operation is used in it
    pub ready_contained : IsSelfContained t k
    ready_contained = record {
      values = λ x v i j. made x v i (definition_of t v) refl j;
      blocks = λ x b i q. inr (beside x b k i (held_deeper k b may.inside q) q);
    }
      where
        inner : (x v : ℕ) → In v (operands_of t x) → IsDefinedInside t k v → IsWithin t k x
        inner x v i j = elim (inside_or t k x w.joined.rooted) [
          | inl y ↦ inr y
          | inr n ↦ elim (cases_eq x k) [
            | inl e ↦ inl e
            | inr ne ↦ let p = slice_in (operands_of t x) v i in absurd (none x p.0 (OfInside v p.1 j (λ q. ⊎_elim (λ e. ne e) n q)))
          ]
        ]

        made : (x v : ℕ) → In v (operands_of t x) → (d : Option Def) → definition_of t v ≡ d → IsDefinedWithin t k d → IsWithin t k x
        made x v i None e j = absurd j
        made x v i (Some (Result q n)) e (inl s) =
            let y = maker_is t v (w.joined.operands x v i) in
            let f : y.0 ≡ Result q n = some_is (sym y.1 ∙ e) in
            let z : slice_get (results_of t q) n ≡ Some v = subst (λ c. IsMadeBy t v (Some c)) f y.2 in
            let p = slice_in (operands_of t x) v i in
            absurd (none x p.0 (OfResult v p.1 (subst (λ c. In v (results_of t c)) s (in_slice (results_of t q) n v z))))
        made x v i (Some (Result q n)) e (inr y) = inner x v i (subst (IsDefiningOperationInside t k) (sym e) y)
        made x v i (Some (Argument b n)) e j = inner x v i (subst (IsDefiningOperationInside t k) (sym e) j)

    abbrev t' : Tree
    t' = after_erasing t k

    module _ (w' : IsTree t') where
      not_met : (b : Bool) → (b ≡ true → ⊥) → b ≡ false
      not_met true n = absurd (n refl)
      not_met false n = refl

      -- what leads to a block that stays stays
      pub jumpers : (x b : ℕ) → HoldsBlock t root b → In b (successors_of t x) → block_erased_with t k b ≡ false → op_erased t k x ≡ false
      jumpers x b g i l = not_met _ (λ d. other (within_is t k x d))
        where
          other : IsWithin t k x → ⊥
          other (inl e) = leads_nowhere k b may (subst (λ z. In b (successors_of t z)) e i)
          other (inr y) =
              let ends = linked.edges x b i (inr g) in
              let same : block_parent_operation_of t ends.block ≡ block_parent_operation_of t b = ap (λ o. up_from o (λ r. region_parent_of t r)) (sym (ends.own_region b i)) in
              let q : HoldsBlock t k ends.block = block_inside ends.block ends.in_block y in
              let e : block_parent_operation_of t b ≡ Some q.0 = sym same ∙ q.1 in
              true≢false (sym (is_within t k q.0 w.joined live q.2) ∙ ap (is_met_above t (nat_eq k)) (sym e) ∙ l)

      pub erased_thins : IsThinned m side_effects removable t t' root
      erased_thins =
          swept_thins m t t' (λ x. op_erased t k x) (λ b. block_erased_with t k b) w w' (erased_swept t k w live ready_contained) (gone_away t' (λ x. op_erased t k x) (λ b. block_erased_with t k b) w' (erased_gone t k w live ready_contained)) (erased_gone t k w live ready_contained).operations side_effects removable root
          (λ user place d. UsedByDead k user place (ready_dead m side_effects removable t root (Op k) (record { may = may; none = none })) (within_is t k user d))
          jumpers
          apart
        where
          made_in : (d : Option Def) → is_maker_dead (λ x. op_erased t k x) (λ b. block_erased_with t k b) d ≡ true → (p : ℕ) → IsDefiningOperationInside t p d → (x : ℕ) × IsWithin t k x × IsWithin t p x × (IsWithin t k p ⊎ IsInside t p k)
          made_in None e p i = absurd i
          made_in (Some (Result q n)) e p i = let z = within_is t k q e in (q, z, inr i, compare z i)
          made_in (Some (Argument b n)) e p i =
              let z = met_above t k (block_parent_operation_of t b) e in
              let same : z.0 ≡ i.0 = some_is (sym z.1 ∙ i.1) in
              (z.0, z.2, subst (λ y. IsWithin t p y) (sym same) i.2, compare_within (subst (λ y. IsWithin t k y) same z.2) i.2)

          apart : (p v user : ℕ) → op_erased t k p ≡ false → IsDefinedInside t p v → is_maker_dead (λ x. op_erased t k x) (λ b. block_erased_with t k b) (definition_of t v) ≡ true → op_erased t k user ≡ true → IsWithin t p user
          apart p v user l i e d = ⊎_elim (λ y. absurd (true≢false (sym (is_within t k p w.joined live y) ∙ l))) (λ y. inr (within_inside y (within_is t k user d))) (made_in (definition_of t v) e p i).3

      -- for each root that stands
      pub erased_linked : (r : ℕ) → IsWellLinked m t r → IsLive t' r → IsWellLinked m t' r
      erased_linked r y l =
          swept_linked m t t' (λ x. op_erased t k x) (λ b. block_erased_with t k b) w w' (erased_swept t k w live ready_contained) (gone_away t' (λ x. op_erased t k x) (λ b. block_erased_with t k b) w' (erased_gone t k w live ready_contained)) (erased_gone t k w live ready_contained).operations r y
          (not_met _ (λ d. let e : None ≡ Some (some_of (head_of t' r) l).0 = sym ((erased_gone t k w live ready_contained).operations r d) ∙ (some_of (head_of t' r) l).1 in absurd (cc)))

      -- regions stay, and edges where it has no region
      pub erased_regions : (q : ℕ) → IsLive t' q → regions_of t' q ≡ regions_of t q
      erased_regions q l = ap (λ z. z.regions) ((erased_swept t k w live ready_contained).rows q (not_met _ (λ d. let e : None ≡ Some (some_of (head_of t' q) l).0 = sym ((erased_gone t k w live ready_contained).operations q d) ∙ (some_of (head_of t' q) l).1 in absurd (cc))))

      pub erased_edges : regions_of t k ≡ [] → KeepsEdges t t'
      erased_edges bare = edges_alike t t' w w' (erased_alike t k w bare live ready_contained w' root linked.edges may.inside (λ b i. leads_nowhere k b may i))

      pub ready_keeps : KeepsAllRuns m t t'
      ready_keeps chosen = erased_keeps t k w live ready_contained (with_roots m chosen) w' (λ r f i. gives_now (with_roots m chosen) side_effects (chosen_counts m chosen counts) free t k (f.linked.admitted k (inr i)) (λ o e. may.harmless o.head (op_shows t k o e).head))

      -- the root stands
      pub root_stands : IsLive t root → IsLive t' root
      root_stands l = subst (λ z. IsSome z.head) (sym ((erased_swept t k w live ready_contained).rows root (not_met _ (λ d. outside (within_is t k root d))))) l
        where
          outside : IsWithin t k root → ⊥
          outside (inl e) = not_itself w.joined.rooted (subst (λ z. IsInside t z k) e may.inside)
          outside (inr i) = not_itself w.joined.rooted (deeper i may.inside)
