-- A new operation that gets operands and successors, and takes the place of another.
use Rattle.std.proofs.Common.{◌≡◌, inl, inr, ℕ, ◌+◌, ◌<◌, List, [], ◌∷◌, ◌++◌, length, get_or, take, Option, Some, None, slice_get, refl, sym, ap, ◌∙◌, subst, arith, add-one}
use Rattle.std.proofs.lemmas.Option.{slice_get_read}
use Rattle.pliron_core.specs.declared.attrs.AttrObj.{AttrObj}
use Rattle.pliron_core.specs.declared.attrs.Head.{Head}
use Rattle.pliron_core.specs.declared.context.Def.{Def}
use Rattle.pliron_core.specs.declared.context.Def.TheVariants.{Result, Argument}
use Rattle.pliron_core.specs.declared.rewriter.OpInsertionPoint.{OpInsertionPoint}
use Rattle.pliron_core.specs.declared.rewriter.OpInsertionPoint.TheVariants.{Unset, BeforeOperation, AtBlockStart}
use Rattle.pliron_core.specs.Tree.{Tree, IsLive, IsBlock, IsMadeBy, IsDefinedWithin, no_entry, definition_of, row_of, results_of, regions_of, parent_of}
use Rattle.pliron_core.specs.Invariant.{IsTree}
use Rattle.pliron_core.specs.Writes.{after_creating, successor_pushed, put_next_to}
use Rattle.pliron_core.specs.Insertion.{after_inserting}
use Rattle.pliron_core.specs.Erased.{IsSelfContained, after_erasing}
use Rattle.pliron_core.proofs.ArgumentLemmas.{take_more}
use Rattle.pliron_core.proofs.GrownLemmas.{get_grown, get_last}
use Rattle.pliron_core.proofs.TreeLemmas.{live-within}
use Rattle.pliron_laws.specs.Replacing.{with_edges, branch_replaced}
use Rattle.pliron_laws.proofs.ConstantLemmas.{insideless, blockless}
use Rattle.pliron_dialect.proofs.JumpLemmas.{successor_more}

-- one attribute more of a head that is copied
pub attribute_more : (xs ys zs : List AttrObj) (j : ℕ) (x y : AttrObj) → zs ≡ ys ++ x ∷ [] → ys ≡ take j xs → x ≡ y → slice_get xs j ≡ Some y → zs ≡ take (j + 1) xs
attribute_more xs ys zs j x y e f s is =
    e ∙ ap (λ l. l ++ x ∷ []) f ∙ ap (λ a. take j xs ++ a ∷ []) s ∙ sym (take_more xs j y is) ∙ ap (λ n. take n xs) (sym (add-one j))

-- one successor more
pub target_more : (t u u' : Tree) (op j b : ℕ) (os xs : List ℕ) → IsTree t → IsLive t op → j < length xs → b ≡ get_or xs j b → u ≡ with_edges t op os (take j xs) → u' ≡ successor_pushed u op b → u' ≡ with_edges t op os (take (j + 1) xs)
target_more t u u' op j b os xs w live lt is e f =
    let within : op < length t.successors = omega (arith, live-within t op live, w.keys.successors) in
    f ∙ ap (λ z. successor_pushed z op b) e ∙ successor_more t op b os (take j xs) within
    ∙ ap (λ z. with_edges t op os z) (sym (take_more xs j b (slice_get_read xs (length xs) j b refl lt is)) ∙ ap (λ n. take n xs) (sym (add-one j)))

-- blocks are there once the new operation is made
pub block_made : (t made : Tree) (b : ℕ) (head : Head) → made ≡ after_creating t head 0 0 → IsBlock t b → IsBlock made b
block_made t made b head e is = subst (λ z. IsBlock z b) (sym e) is

next_rows : (t : Tree) (c at : ℕ) (o : Option ℕ) → (put_next_to t c at o).operations ≡ t.operations
next_rows t c at None = refl
next_rows t c at (Some b) = refl

put_rows : (t : Tree) (p : OpInsertionPoint) (c : ℕ) → (after_inserting t p c).operations ≡ t.operations
put_rows t Unset c = refl
put_rows t (BeforeOperation at) c = next_rows t c at (parent_of t at)
put_rows t (AtBlockStart b) c = refl

old_row : (t made : Tree) (op : ℕ) (head : Head) → made ≡ after_creating t head 0 0 → IsLive t op → row_of made op ≡ row_of t op
old_row t made op head e live =
    let lt = live-within t op live in
    ap (λ z. row_of z op) e ∙ elim (get_last t.operations (record { head = Some head; results = []; regions = [] }) no_entry op) [ inl s ↦ s | inr s ↦ absurd (omega (arith, lt, s.2)) ]

no_member : (xs : List ℕ) (i r : ℕ) → xs ≡ [] → slice_get xs i ≡ Some r → ⊥
no_member xs i r none e = let f : slice_get {X = ℕ} [] i ≡ Some r = ap (λ z. slice_get z i) (sym none) ∙ e in grind arith

made_nowhere : (z : Tree) → IsTree z → (c u : ℕ) → regions_of z c ≡ [] → results_of z c ≡ [] → (o : Option Def) → IsDefinedWithin z c o → IsMadeBy z u o → ⊥
made_nowhere z w c u none bare None m d = m
made_nowhere z w c u none bare (Some (Result k i)) (inl e) d = no_member (results_of z c) i u bare (ap (λ x. slice_get (results_of z x) i) (sym e) ∙ d)
made_nowhere z w c u none bare (Some (Result k i)) (inr j) d = insideless z w c k none j
made_nowhere z w c u none bare (Some (Argument b i)) h d = blockless z w c b none h

-- what has no results and no regions is used nowhere
bare_contained : (z : Tree) → IsTree z → (c : ℕ) → regions_of z c ≡ [] → results_of z c ≡ [] → IsSelfContained z c
bare_contained z w c none bare = record {
  values = λ x u i m. absurd (made_nowhere z w c u none bare (definition_of z u) m (w.joined.operands x u i));
  blocks = λ x b i h. absurd (blockless z w c b none h);
}

-- the old operation, once the new one is put, has nothing that is used elsewhere
pub old_apart : (t made z : Tree) (op c : ℕ) (head : Head) (p : OpInsertionPoint) (values targets : List ℕ) → IsTree z → made ≡ after_creating t head 0 0 → IsLive t op → regions_of t op ≡ [] → results_of t op ≡ [] → z ≡ after_inserting (with_edges made c values targets) p c → IsSelfContained z op
old_apart t made z op c head p values targets w e live none bare f =
    let row : row_of z op ≡ row_of t op = ap (λ x. row_of x op) f ∙ ap (λ x. get_or x op no_entry) (put_rows (with_edges made c values targets) p c) ∙ old_row t made op head e live in
    bare_contained z w op (ap (λ x. x.regions) row ∙ none) (ap (λ x. x.results) row ∙ bare)

-- the tree where all went well
pub branch_done : (t made z u : Tree) (op c : ℕ) (head : Head) (p : OpInsertionPoint) (values targets : List ℕ) → made ≡ after_creating t head 0 0 → c ≡ length t.operations → p ≡ BeforeOperation op → z ≡ after_inserting (with_edges made c values targets) p c → u ≡ after_erasing z op → u ≡ branch_replaced t op head values targets
branch_done t made z u op c head p values targets e k at f g =
    g ∙ ap (λ x. after_erasing x op) (f
    ∙ ap (λ x. after_inserting (with_edges made c values targets) x c) at
    ∙ ap (λ x. after_inserting (with_edges x c values targets) (BeforeOperation op) c) e
    ∙ ap (λ x. after_inserting (with_edges (after_creating t head 0 0) x values targets) (BeforeOperation op) x) k
    ∙ ap (λ o. put_next_to (with_edges (after_creating t head 0 0) (length t.operations) values targets) (length t.operations) op o) (get_grown t.parents None op))
