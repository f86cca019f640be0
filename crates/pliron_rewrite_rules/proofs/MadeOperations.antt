-- Operations that were just made: they get operands, are inserted, or are erased again.
use Rattle.std.proofs.Common.{◌≡◌, ◌≢◌, ◌⊎◌, ℕ, ◌+◌, ◌<◌, ◌≤◌, List, [], ◌∷◌, ◌++◌, length, take, nat_eq, Option, Some, None, IsSome, is_some, refl, sym, ap, ◌∙◌, subst, ⊎_elim, inl, inr, true≢false, add-one, arith, slice_get, slice_set, length-append}
use Rattle.std.proofs.lemmas.Bool.{cases_eq}
use Rattle.std.proofs.lemmas.List.{get_or_past}
use Rattle.std.proofs.lemmas.Option.{slice_get_within}
use Rattle.pliron_core.specs.declared.attrs.Head.{Head}
use Rattle.pliron_core.specs.declared.rewriter.OpInsertionPoint.{OpInsertionPoint}
use Rattle.pliron_core.specs.declared.rewriter.OpInsertionPoint.TheVariants.{BeforeOperation}
use Rattle.pliron_core.specs.Changes.{IsSameTree}
use Rattle.pliron_core.specs.Tree.{Tree, In, IsLive, IsDefined, row_of, operands_of, parent_of}
use Rattle.pliron_core.specs.Invariant.{IsTree}
use Rattle.pliron_core.specs.Insertion.{IsPointFor, after_inserting}
use Rattle.pliron_core.specs.Writes.{operand_pushed, put_next_to}
use Rattle.pliron_core.specs.Erased.{IsSelfContained, after_clearing, after_erasing}
use Rattle.pliron_core.proofs.BesideLemmas.{IsBeside, beside_erased}
use Rattle.pliron_core.proofs.CreatedLemmas.{defined_kept}
use Rattle.pliron_core.proofs.GrownLemmas.{get_grown, get_last, get_last_same, set_last}
use Rattle.pliron_core.proofs.HoldingLemmas.{maker_is}
use Rattle.pliron_core.proofs.TreeLemmas.{live-within}
use Rattle.pliron_core.proofs.ArgumentLemmas.{take_more}
use Rattle.pliron_laws.proofs.ConstantLemmas.{new_row, contained, insideless, erased_free, erased_long}
use Rattle.pliron_laws.specs.MaterialisedConstants.{IsRestored}
use Rattle.pliron_rewrite_rules.specs.Insertions.{after_making, with_operation, IsMadeOperation}
use Rattle.pliron_rewrite_rules.proofs.PutBefore.{made_row, made_operands, made_beside, made_defined}

-- one more operand
pushed_more : (t : Tree) (head : Head) (xs : List ℕ) (v : ℕ) → IsTree t → operand_pushed (after_making t head xs) (length t.operations) v ≡ after_making t head (xs ++ v ∷ [])
pushed_more t head xs v w =
    ap (λ k. operand_pushed (after_making t head xs) k v) (sym w.keys.operands)
    ∙ ap (λ row. let z : Tree = record (after_making t head xs) { operands = slice_set (t.operands ++ xs ∷ []) (length t.operands) (row ++ v ∷ []) } in z) (get_last_same t.operands xs [])
    ∙ ap (λ rows. let z : Tree = record (after_making t head xs) { operands = rows } in z) (set_last t.operands xs (xs ++ v ∷ []))

in_last : (v x : ℕ) (xs : List ℕ) → In v (xs ++ x ∷ []) → In v xs ⊎ (v ≡ x)
in_last v x [] (inl e) = inr e
in_last v x [] (inr i) = absurd i
in_last v x (y ∷ xs) (inl e) = inl (inl e)
in_last v x (y ∷ xs) (inr i) = ⊎_elim (λ j. inl (inr j)) (λ e. inr e) (in_last v x xs i)

pub made_more : (t now next : Tree) (op : ℕ) (head : Head) (all : List ℕ) (i v : ℕ) → slice_get all i ≡ Some v → IsDefined t v → IsMadeOperation t now op head (take i all) → next ≡ operand_pushed now op v → IsMadeOperation t next op head (take (i + 1) all)
made_more t now next op head all i v at is m e =
    subst (IsMadeOperation t next op head) (sym (ap (λ n. take n all) (add-one i) ∙ take_more all i v at)) (record {
      tree = m.tree;
      defined = λ x j. ⊎_elim (λ k. m.defined x k) (λ s. subst (IsDefined t) (sym s) is) (in_last x v (take i all) j);
      made = e ∙ ap (λ z. operand_pushed z op v) m.made ∙ ap (λ k. operand_pushed (after_making t head (take i all)) k v) m.key ∙ pushed_more t head (take i all) v m.tree;
      key = m.key;
    })

defined_within : (t : Tree) (v : ℕ) → IsDefined t v → v ≢ length t.definitions
defined_within t v is e = let x = maker_is t v is in let lt = slice_get_within t.definitions v x.0 x.1 in omega (arith, lt, e)

module _ (t now : Tree) (op : ℕ) (head : Head) (operands : List ℕ) (m : IsMadeOperation t now op head operands) where
  beside : IsBeside t now op
  beside = subst (λ z. IsBeside t z op) (sym m.made) (subst (IsBeside t (after_making t head operands)) (sym m.key) (made_beside t head operands m.tree))

  row : row_of now op ≡ new_row t head
  row = ap (λ z. row_of z op) m.made ∙ ap (row_of (after_making t head operands)) m.key ∙ made_row t head operands m.tree

  named : operands_of now op ≡ operands
  named = ap (λ z. operands_of z op) m.made ∙ ap (operands_of (after_making t head operands)) m.key ∙ made_operands t head operands m.tree

  pub made_live : IsLive now op
  made_live = ap (λ z. is_some z.head) row

  pub made_free : parent_of now op ≡ None
  made_free = beside.loose

  pub still_defined : (v : ℕ) → IsDefined t v → IsDefined now v
  still_defined v is = subst (λ z. IsDefined z v) (sym m.made) (made_defined t head operands m.tree v is)

  pub made_long : length t.operations ≤ length now.operations
  made_long = let e = ap (λ z. length z.operations) m.made in let l = length-append t.operations (new_row t head ∷ []) in omega (arith, e, l)

  used_old : (x u : ℕ) → In u (operands_of now x) → IsDefined t u
  used_old x u i = ⊎_elim
      (λ e. m.defined u (subst (In u) (ap (operands_of now) e ∙ named) i))
      (λ ne. m.tree.joined.operands x u (subst (In u) (beside.operands x ne) i))
      (cases_eq x op)

  module _ (wn : IsTree now) where
    pub made_contained : IsSelfContained now op
    made_contained = contained now wn op (length t.definitions) (ap (λ z. z.regions) row) (ap (λ z. z.results) row) (λ x u i. defined_within t u (used_old x u i))

    pub made_point : (at : ℕ) (p : OpInsertionPoint) → p ≡ BeforeOperation at → IsSome (parent_of t at) → IsPointFor now p op
    made_point at p e placed = subst (λ z. IsPointFor now z op) (sym e) (subst IsSome (sym (beside.parents at other)) placed, other, λ i. insideless now wn op at (ap (λ z. z.regions) row) i)
      where
        other : at ≢ op
        other f = true≢false (sym placed ∙ ap is_some (ap (parent_of t) f ∙ beside.no_parent))

  -- erased again, it leaves the tree as it was
  pub made_erased : (z : Tree) → z ≡ after_erasing now op → IsRestored t z
  made_erased z e = subst (IsRestored t) (sym (e ∙ erased_free now op beside.loose)) (record {
    same = subst (IsSameTree t) (erased_free now op beside.loose) (beside_erased t now op m.tree beside);
    slots = beside.slots;
    definitions = beside.definitions;
    longer = let l = erased_long now z op e in let n = made_long in let same = ap (λ y. length y.operations) (e ∙ erased_free now op beside.loose) in omega (arith, l, n, same);
  })

  -- and inserted before an operation it is what is meant
  pub made_inserted : (at : ℕ) (p : OpInsertionPoint) (z : Tree) → p ≡ BeforeOperation at → z ≡ after_inserting now p op → z ≡ with_operation t at head operands
  made_inserted at p z before e =
      e ∙ ap (λ q. after_inserting now q op) before
      ∙ ap (λ y. after_inserting y (BeforeOperation at) op) m.made
      ∙ ap (after_inserting (after_making t head operands) (BeforeOperation at)) m.key
      ∙ ap (put_next_to (after_making t head operands) (length t.operations) at) (get_grown t.parents None at)
