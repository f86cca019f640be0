-- Where a constant is put into a block inside an operation, only what is inside the operation changes.
use Rattle.std.proofs.Common.{◌≡◌, inl, inr, ℕ, List, length, Some, None, IsSome, is_some, slice_get, refl, sym, ap, ◌∙◌, subst, arith}
use Rattle.std.proofs.lemmas.List.{get_or_past}
use Rattle.pliron_core.specs.declared.attrs.Head.{Head}
use Rattle.pliron_core.specs.declared.context.Def.TheVariants.{Result, Argument}
use Rattle.pliron_core.specs.Changes.{IsInsideChange, IsDefinedInside, IsDefiningOperationInside}
use Rattle.pliron_core.specs.Invariant.{IsTree, IsJoined}
use Rattle.pliron_core.specs.Tree.{Tree, IsLive, IsBlock, IsInside, HoldsBlock, results_of, arguments_of, parent_of}
use Rattle.pliron_core.specs.Writes.{after_creating, after_placing, after_replacing}
use Rattle.pliron_core.proofs.BesideLemmas.{IsBeside, created_beside, beside_placed, not_new}
use Rattle.pliron_core.proofs.GrownLemmas.{get_grown}
use Rattle.pliron_core.proofs.HoldingLemmas.{inside_or, holds_or, inside_block, held_block}
use Rattle.pliron_core.proofs.InsideLemmas.{inside_trans}
use Rattle.pliron_core.proofs.PlacedLemmas.{kept_put}
use Rattle.pliron_core.proofs.WriteInsideLemmas.{replaced_inside}
use Rattle.pliron_laws.proofs.ConstantLemmas.{made_row, blockless}
use Rattle.pliron_laws.proofs.LinkedLemmas.{tree_created}

-- what stands inside stays there, where only that changes
module _ (t u : Tree) (op : ℕ) (w : IsJoined u) (h : IsInsideChange t u op) where
  inside_stays : (k : ℕ) → IsLive u k → IsInside t op k → IsInside u op k
  inside_stays k live i = elim (inside_or u op k w.rooted) [ inl j ↦ j | inr out ↦ absurd ((h.no_new_operation k (live, out)).1 i) ]

  holds_stays : (b : ℕ) → IsBlock u b → HoldsBlock t op b → HoldsBlock u op b
  holds_stays b is i = elim (holds_or u op b w.rooted) [ inl j ↦ j | inr out ↦ absurd ((h.no_new_block b (is, out)).1 i) ]

-- a new operation with one result comes into a block inside the root, and has the uses of a value that is made there
module _ (t : Tree) (root b v : ℕ) (head : Head) (body : List ℕ) (w : IsTree t) (held : HoldsBlock t root b) where
  abbrev c : ℕ
  c = length t.operations

  abbrev made : Tree
  made = after_creating t head 1 0

  abbrev between : Tree
  between = after_placing made c b body

  beside : IsBeside t made c
  beside = created_beside t head 1 0 w

  liveness : IsBlock made b
  liveness = subst IsSome (sym (beside.block_parents b)) (held_block t b held.0 held.1)

  joined : IsJoined between
  joined =
      let all = tree_created t head w in
      let row = made_row t made c head refl refl in
      let free : parent_of made c ≡ None = get_grown t.parents None c ∙ get_or_past t.parents c None (omega (arith, w.keys.parents)) in
      kept_put made c b body all.keys all.joined (ap (λ z. is_some z.head) row) liveness free (λ h. blockless made all c b (ap (λ z. z.regions) row) h)

  put_inside : IsInsideChange t between root
  put_inside = beside_placed t made c root b body w beside held

  after : IsDefinedInside between root v → IsInsideChange t (after_replacing between v (length t.definitions)) root
  after inside = inside_trans t between _ root put_inside (replaced_inside between root v (length t.definitions) joined inside)

  pub result_inside : (k i : ℕ) → IsLive t k → parent_of t k ≡ Some b → slice_get (results_of t k) i ≡ Some v → IsInsideChange t (after_replacing between v (length t.definitions)) root
  result_inside k i live at listed =
      let still : IsLive between k = subst (λ z. IsSome z.head) (sym (beside.operations k (not_new t made c w beside k live))) live in
      after (subst (IsDefiningOperationInside between root) (sym (beside.definitions v (Result k i) (w.joined.results k i v listed))) (inside_stays t between root joined put_inside k still (inside_block b at held)))

  pub argument_inside : (i : ℕ) → slice_get (arguments_of t b) i ≡ Some v → IsInsideChange t (after_replacing between v (length t.definitions)) root
  argument_inside i listed =
      after (subst (IsDefiningOperationInside between root) (sym (beside.definitions v (Argument b i) (w.joined.arguments b i v listed))) (holds_stays t between root joined put_inside b liveness held))
