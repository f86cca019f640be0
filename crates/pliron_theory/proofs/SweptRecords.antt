-- The records of what is left of a tree without some of its operations and blocks.
use Rattle.std.proofs.Common.{◌≡◌, ℕ, Bool, false, List, [], ◌∷◌, length, Option, Some, None, slice_get, refl, sym, ap, ◌∙◌, subst, arith}
use Rattle.pliron_core.specs.Tree.{Tree, In, first_of, head_of, operands_of, successors_of, results_of, regions_of, parent_of, block_parent_of, layout_of, region_parent_of, op_of_slot}
use Rattle.pliron_core.specs.Invariant.{IsTree}
use Rattle.pliron_core.proofs.HoldingLemmas.{slice_in, in_slice}
use Rattle.pliron_laws.specs.Datum.{Head, Meaning}
use Rattle.pliron_laws.specs.Tree.{Operation, Block, op_with, op_at, block_with, block_at, and_block, entry_block, count_arguments, shape_of}
use Rattle.pliron_theory.specs.Sweeping.{swept, IsSwept}
use Rattle.pliron_laws.proofs.Records.{op_shows, region_entry}
use Rattle.pliron_theory.proofs.Alike.{shape_same}
use Rattle.pliron_theory.proofs.SweptLists.{first_swept}
use Rattle.pliron_theory.proofs.SweptParts.{region_same}

abbrev pub SweptBlock : (ℕ → Bool) → Option Block → Option Block → Type 0
SweptBlock dead None None = Unit {0}
SweptBlock dead None (Some b) = ⊥
SweptBlock dead (Some b) None = ⊥
SweptBlock dead (Some b) (Some b') = (b'.operations ≡ swept dead b.operations) × (b'.arguments ≡ b.arguments)

first_none : (xs : List ℕ) → first_of xs None ≡ None → xs ≡ []
first_none [] e = refl
first_none (x ∷ xs) e = grind arith

count_swept : (dead : ℕ → Bool) (x y : Option Block) → SweptBlock dead x y → count_arguments x ≡ count_arguments y
count_swept dead None None s = refl
count_swept dead None (Some y) s = absurd s
count_swept dead (Some x) None s = absurd s
count_swept dead (Some x) (Some y) s = ap length (sym s.1)

module _ (t t' : Tree) (dead dead_block : ℕ → Bool) (w : IsTree t) (w' : IsTree t') (h : IsSwept t t' dead dead_block) where
  pub op_same : (k : ℕ) → dead k ≡ false → op_at t' k ≡ op_at t k
  unfolding op_at
  op_same k l = ap (op_with t' k) (ap (λ e. e.head) (h.rows k l)) ∙ go (head_of t k)
    where
      go : (x : Option Head) → op_with t' k x ≡ op_with t k x
      go None = refl
      go (Some x) =
          let a : operands_of t' k ≡ operands_of t k = h.operands k l in
          let b : successors_of t' k ≡ successors_of t k = h.successors k l in
          let c : results_of t' k ≡ results_of t k = ap (λ e. e.results) (h.rows k l) in
          let d : regions_of t' k ≡ regions_of t k = ap (λ e. e.regions) (h.rows k l) in
          let e : parent_of t' k ≡ parent_of t k = h.parents k l in
          cc

  pub block_is_swept : (b : ℕ) → dead_block b ≡ false → SweptBlock dead (block_at t b) (block_at t' b)
  unfolding block_at
  block_is_swept b l = subst (λ x. SweptBlock dead (block_at t b) (block_with t' b x)) (sym (h.block_parents b l)) (go (block_parent_of t b))
    where
      go : (x : Option ℕ) → SweptBlock dead (block_with t b x) (block_with t' b x)
      go None = tt
      go (Some r) = (h.bodies b l, h.arguments b l)

  pub entry_is_swept : (k i r : ℕ) → dead k ≡ false → slice_get (regions_of t k) i ≡ Some r → SweptBlock dead (entry_block t r) (entry_block t' r)
  entry_is_swept k i r l e =
      let here : region_parent_of t r ≡ Some k = ap op_of_slot (w.joined.regions k i r e) in
      let there : region_parent_of t' r ≡ Some k = ap op_of_slot (region_same t t' dead dead_block w w' h k i r l e).0 in
      subst (λ x. SweptBlock dead x (entry_block t' r)) (sym (region_entry t r k here)) (subst (λ x. SweptBlock dead (and_block t (first_of (layout_of t r) None)) x) (sym (region_entry t' r k there)) (go (first_of (layout_of t r) None) refl))
    where
      listed : In r (regions_of t k)
      listed = in_slice (regions_of t k) i r e

      go : (x : Option ℕ) → first_of (layout_of t r) None ≡ x → SweptBlock dead (and_block t x) (and_block t' (first_of (layout_of t' r) None))
      go None f = subst (λ y. SweptBlock dead None (and_block t' y)) (sym (ap (λ l. first_of l None) (h.layouts k r l listed) ∙ ap (λ xs. first_of (swept dead_block xs) None) (first_none (layout_of t r) f))) tt
      go (Some a) f =
          let la = h.entries k r a l listed f in
          subst (λ y. SweptBlock dead (block_at t a) (and_block t' y)) (sym (ap (λ l. first_of l None) (h.layouts k r l listed) ∙ first_swept dead_block a (layout_of t r) la f)) (block_is_swept a la)

  pub shape_swept : (m : Meaning) (k : ℕ) (o : Operation) → dead k ≡ false → op_at t k ≡ Some o → shape_of m t o ≡ shape_of m t' o
  shape_swept m k o l e =
      shape_same m t t' o (λ r i. let j = slice_in o.regions r i in count_swept dead _ _ (entry_is_swept k j.0 r l (ap (λ x. slice_get x j.0) (op_shows t k o e).regions ∙ j.1)))
      (λ b i. count_swept dead _ _ (block_is_swept b (h.targets k b l (subst (In b) (sym (op_shows t k o e).successors) i))))
