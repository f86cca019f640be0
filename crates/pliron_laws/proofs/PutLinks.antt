-- A constant that is put into a block, and not last, leaves a tree well linked.
use Rattle.std.proofs.Common.{◌≡◌, ◌≢◌, inl, inr, ℕ, ◌<◌, List, [], ◌∷◌, length, map, Option, Some, None, IsSome, refl, sym, ap, ◌∙◌, subst, arith, slice_get, IsTrue}
use Rattle.std.proofs.lemmas.Bool.{cases_eq}
use Rattle.std.proofs.lemmas.List.{get_or_past, get_or-set_other, get_or-set_same, append-nil}
use Rattle.std.proofs.lemmas.Option.{same_Some}
use Rattle.pliron_core.specs.declared.attrs.AttrObj.{AttrObj}
use Rattle.pliron_core.specs.Lists.{In, last_of}
use Rattle.pliron_core.specs.Uses.{replace_target}
use Rattle.pliron_core.specs.Tree.{Tree, IsLive, IsInside, IsWithin, HoldsBlock, no_entry, row_of, results_of, regions_of, operands_of, successors_of, parent_of, body_of, block_parent_of, region_parent_of, block_parent_operation_of, parent_operation_of, up_from, op_of_slot}
use Rattle.pliron_core.specs.Tree.IsInside.{Directly, Deeper}
use Rattle.pliron_core.specs.Invariant.{IsTree}
use Rattle.pliron_core.specs.Writes.{after_creating, after_replacing, after_placing}
use Rattle.pliron_core.proofs.GrownLemmas.{get_grown, get_last}
use Rattle.pliron_core.proofs.UsedLemmas.{get_map, length_map}
use Rattle.pliron_core.proofs.TreeLemmas.{live-within}
use Rattle.pliron_core.proofs.HoldingLemmas.{block_held}
use Rattle.pliron_core.proofs.WalkLemmas.{holder_live}
use Rattle.pliron_laws.specs.Datum.{Head, Meaning}
use Rattle.pliron_laws.specs.Folding.{MakesConstant}
use Rattle.pliron_laws.specs.Linked.{EdgesLast, IsAdmitted, IsWellLinked}
use Rattle.pliron_laws.proofs.ConstantLemmas.{new_row, made_row}
use Rattle.pliron_core.specs.Tree.{IsBlock}
use Rattle.pliron_core.proofs.TreeLemmas.{block-within}

-- a constant is put into the block b, whose operations are then ys, and has the uses of v
module _ (t : Tree) (v b : ℕ) (ys : List ℕ) (head : Head) (w : IsTree t) (within : b < length t.bodies) (ends : (k : ℕ) → last_of None (body_of t b) ≡ Some k → last_of None ys ≡ Some k) where
  abbrev c : ℕ
  c = length t.operations

  abbrev made₁ : Tree
  made₁ = after_creating t head 1 0

  abbrev put₁ : Tree
  put₁ = after_placing made₁ c b ys

  abbrev pub u : Tree
  u = after_replacing put₁ v (length t.definitions)

  row₁ : row_of made₁ c ≡ new_row t head
  row₁ = made_row t made₁ c head refl refl

  parent₁ : (x : ℕ) → parent_of made₁ x ≡ parent_of t x
  parent₁ x = get_grown t.parents None x

  successors₁ : (k : ℕ) → successors_of u k ≡ successors_of t k
  successors₁ k = get_grown t.successors [] k

  user_old : (k s : ℕ) → In s (successors_of t k) → k ≢ c
  user_old k s i e = subst (In s) (ap (successors_of t) e ∙ get_or_past t.successors c [] (omega (arith, w.keys.successors))) i

  parent_old : (k : ℕ) → k ≢ c → parent_of u k ≡ parent_of t k
  parent_old k ne = get_or-set_other made₁.parents c k (Some b) None ne ∙ parent₁ k

  last₁ : (l k : ℕ) → last_of None (body_of t l) ≡ Some k → last_of None (body_of u l) ≡ Some k
  last₁ l k e =
      elim (cases_eq l b) [
        | inl s ↦ ap (λ z. last_of None (body_of u z)) s ∙ ap (last_of None) (get_or-set_same t.bodies b ys [] within) ∙ ends k (ap (λ z. last_of None (body_of t z)) (sym s) ∙ e)
        | inr ne ↦ ap (last_of None) (get_or-set_other t.bodies b l ys [] ne) ∙ e
      ]

  region₁ : (r : ℕ) → region_parent_of u r ≡ region_parent_of t r
  region₁ r = ap (λ s. op_of_slot (slice_get s r)) (append-nil t.slots)

  block_parent_operation₁ : (x : ℕ) → block_parent_operation_of u x ≡ block_parent_operation_of t x
  block_parent_operation₁ x = go (block_parent_of t x)
    where
      go : (o : Option ℕ) → up_from o (λ r. region_parent_of u r) ≡ up_from o (λ r. region_parent_of t r)
      go None = refl
      go (Some r) = region₁ r

  holder₁ : (k : ℕ) → k ≢ c → parent_operation_of u k ≡ parent_operation_of t k
  holder₁ k ne = ap (λ o. up_from o (λ x. block_parent_operation_of u x)) (parent_old k ne) ∙ go (parent_of t k)
    where
      go : (o : Option ℕ) → up_from o (λ x. block_parent_operation_of u x) ≡ up_from o (λ x. block_parent_operation_of t x)
      go None = refl
      go (Some x) = block_parent_operation₁ x

  live_old : (k : ℕ) → IsLive t k → k ≢ c
  live_old k live e = let lt = live-within t k live in omega (arith, lt, e)

  inside_old : (root k : ℕ) → k ≢ c → IsInside u root k → IsInside t root k
  inside_old root k ne (Directly e) = Directly (sym (holder₁ k ne) ∙ e)
  inside_old root k ne (Deeper p e i) =
      let f = sym (holder₁ k ne) ∙ e in Deeper p f (inside_old root p (live_old p (holder_live t w k p f)) i)

  within_old : (root k : ℕ) → k ≢ c → IsWithin u root k → IsWithin t root k
  within_old root k ne (inl e) = inl e
  within_old root k ne (inr i) = inr (inside_old root k ne i)

  holds_old : (root x : ℕ) → HoldsBlock u root x → HoldsBlock t root x
  holds_old root x h =
      let f = sym (block_parent_operation₁ x) ∙ h.1 in
      (h.0, f, within_old root h.0 (live_old h.0 (holding x h.0 f)) h.2)
    where
      some_is : (o : Option ℕ) (k : ℕ) → up_from o (λ r. region_parent_of t r) ≡ Some k → IsSome o
      some_is None k e = absurd (grind arith)
      some_is (Some r) k e = refl

      holding : (x k : ℕ) → block_parent_operation_of t x ≡ Some k → IsLive t k
      holding x k e =
          let p = block_held t x w.joined (some_is (block_parent_of t x) k e) in
          subst (IsLive t) (same_Some p.1 k (sym p.5 ∙ e)) p.6

  edges_in : (root : ℕ) → EdgesLast t root → EdgesLast u root
  edges_in root edges = λ k s i place.
      let j = subst (In s) (successors₁ k) i in
      let ne = user_old k s j in
      let e = edges k s j (elim place [ inl x ↦ inl (inside_old root k ne x) | inr h ↦ inr (holds_old root s h) ]) in
      record { block = e.block; in_block = parent_old k ne ∙ e.in_block; last = last₁ e.block k e.last; own_region = λ x y. e.own_region x (subst (In x) (successors₁ k) y) }

  row_old : (k : ℕ) → k ≢ c → row_of u k ≡ row_of t k
  row_old k ne = elim (get_last t.operations (new_row t head) no_entry k) [ inl e ↦ e | inr e ↦ absurd (ne e.2) ]

  operand_count : (k : ℕ) → length (operands_of u k) ≡ length (operands_of t k)
  operand_count k =
      ap length (get_map (map (replace_target v (length t.definitions))) refl made₁.operands k) ∙ length_map (replace_target v (length t.definitions)) (operands_of made₁ k) ∙ ap length (get_grown t.operands [] k)

  admitted_as : (m : Meaning) (k : ℕ) → row_of u k ≡ row_of t k → IsAdmitted m t k → IsAdmitted m u k
  admitted_as m k row is = λ h e.
      let a = is h (sym (ap (λ z. z.head) row) ∙ e) in
      subst (λ n. IsTrue (m.admits h (length (operands_of u k)) (length (results_of u k)) n (length (regions_of u k)))) (sym (ap length (successors₁ k)))
      (subst (λ z. IsTrue (m.admits h (length (operands_of u k)) (length z.results) (length (successors_of t k)) (length z.regions))) (sym row)
      (subst (λ n. IsTrue (m.admits h n (length (results_of t k)) (length (successors_of t k)) (length (regions_of t k)))) (sym (operand_count k)) a))

  admitted_new : (m : Meaning) (attr : AttrObj) → MakesConstant m attr head → IsAdmitted m u c
  admitted_new m attr is = λ h e.
      let row : row_of u c ≡ new_row t head = row₁ in
      let same : head ≡ h = same_Some head h (sym (ap (λ z. z.head) row) ∙ e) in
      let n : length (operands_of u c) ≡ 0 = operand_count c ∙ ap length (get_or_past t.operands c [] (omega (arith, w.keys.operands))) in
      let s : length (successors_of u c) ≡ 0 = ap length (successors₁ c ∙ get_or_past t.successors c [] (omega (arith, w.keys.successors))) in
      subst (λ x. IsTrue (m.admits h (length (operands_of u c)) (length (results_of u c)) x (length (regions_of u c)))) (sym s)
      (subst (λ z. IsTrue (m.admits h (length (operands_of u c)) (length z.results) 0 (length z.regions))) (sym row)
      (subst (λ x. IsTrue (m.admits h x 1 0 0)) (sym n)
      (subst (λ x. IsTrue (m.admits x 0 1 0 0)) same is.admitted)))

  pub linked_in : (m : Meaning) (attr : AttrObj) (root : ℕ) → MakesConstant m attr head → IsWellLinked m t root → IsWellLinked m u root
  linked_in m attr root makes is = record {
    edges = edges_in root is.edges;
    admitted = λ k within. elim (cases_eq k c) [
      | inl e ↦ subst (IsAdmitted m u) (sym e) (admitted_new m attr makes)
      | inr ne ↦ admitted_as m k (row_old k ne) (is.admitted k (within_old root k ne within))
    ];
  }

last_behind : (x k : ℕ) (ys : List ℕ) → last_of None ys ≡ Some k → last_of (Some x) ys ≡ Some k
last_behind x k [] e = absurd (grind arith)
last_behind x k (y ∷ ys) e = e

-- first in the block
pub linked_first : (t : Tree) (v b : ℕ) (head : Head) (w : IsTree t) → IsBlock t b → (m : Meaning) (attr : AttrObj) (root : ℕ) → MakesConstant m attr head → IsWellLinked m t root → IsWellLinked m (after_replacing (after_placing (after_creating t head 1 0) (length t.operations) b (length t.operations ∷ body_of t b)) v (length t.definitions)) root
linked_first t v b head w block =
    let c = length t.operations in
    linked_in t v b (c ∷ body_of t b) head w (block-within t b w.keys block) (λ k e. last_behind c k (body_of t b) e)
