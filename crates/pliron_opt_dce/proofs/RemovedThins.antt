-- An argument that nothing uses goes: one dead thing less.
use Rattle.std.proofs.Common.{◌≡◌, ◌≢◌, ◌⊎◌, inl, inr, ℕ, ◌+◌, ◌<◌, ◌≤◌, Bool, true, false, true≢false, nat_lt, if◌then◌else◌, List, [], length, map, Option, Some, None, IsSome, is_some, IsTrue, slice_get, slice_index_or, remove, refl, sym, ap, ap₂, ◌∙◌, subst, arith, tests, filter}
use Rattle.std.proofs.lemmas.Bool.{cases_eq}
use Rattle.std.proofs.lemmas.List.{get_or-set_other, get_or-set_same, get_or_past, length-map}
use Rattle.std.proofs.lemmas.Option.{slice_get_within}
use Rattle.std.specs.List.{range_with_len}
use Rattle.pliron_core.specs.declared.context.Def.{Def}
use Rattle.pliron_core.specs.declared.context.Def.TheVariants.{Result, Argument}
use Rattle.pliron_core.specs.declared.uses.Use.{Use as Edge}
use Rattle.pliron_core.specs.Changes.{IsDefinedInside, IsDefiningOperationInside, IsInsideChange, IsValueOutside}
use Rattle.pliron_core.specs.Tree.{Tree, In, IsLive, IsDefined, IsMadeBy, IsInside, IsWithin, Directly, Deeper, HoldsBlock, row_of, head_of, operands_of, successors_of, results_of, regions_of, parent_of, arguments_of, block_parent_of, region_parent_of, parent_operation_of, block_parent_operation_of, definition_of, op_of_slot, up_from, first_of, last_of, body_of}
use Rattle.pliron_core.specs.Invariant.{IsTree, IsJoined}
use Rattle.pliron_core.specs.Writes.{argument_removed}
use Rattle.pliron_core.proofs.ListLemmas.{decide_in}
use Rattle.pliron_core.proofs.TreeLemmas.{cases_lt}
use Rattle.pliron_core.proofs.RemovalLemmas.{slice_get-remove_below, slice_get-remove_above}
use Rattle.pliron_core.proofs.HoldingLemmas.{some_is, some_of, in_slice, slice_in, slot_is, maker_is, holder_live, inside_alike, within_alike, inside_block}
use Rattle.pliron_core.proofs.WithinLemmas.{block_steps}
use Rattle.pliron_core.specs.Edges.{succs_from}
use Rattle.pliron_theory.specs.Edges.{EdgesAlike, has_regions}
use Rattle.pliron_core.proofs.InsideLemmas.{AreKeptOutside, change_of_kept}
use Rattle.pliron_core.proofs.WriteInsideLemmas.{same_block, same_operation}
use Rattle.pliron_laws.specs.Datum.{Head, Shape, Meaning}
use Rattle.pliron_laws.specs.Tree.{Operation, op_at, block_at, entry_block, count_arguments, unless, shape_of}
use Rattle.pliron_laws.specs.Acting.{pick}
use Rattle.pliron_laws.specs.Laws.{Admitted, KeepsCounts, ForwardsOperands, moved_up}
use Rattle.pliron_laws.specs.Linked.{IsWellLinked, IsAdmitted, EndsBlock}
use Rattle.pliron_laws.specs.Answers.{HeadPasses, ReadsPlace, is_first}
use Rattle.pliron_theory.specs.Dropping.{AreEdgesTo, EdgesLose}
use Rattle.pliron_laws.proofs.Records.{op_shows, operation_of, make_op}
use Rattle.pliron_laws.proofs.ShapeLemmas.{shape_head}
use Rattle.pliron_theory.proofs.SweptKeeps.{admitted_shape}
use Rattle.pliron_theory.proofs.SweptStays.{admitted_same}
use Rattle.pliron_theory.proofs.ShortenedBranches.{SameFrame, childless, user_live, op_kept}
use Rattle.pliron_opt_dce.specs.Dead.{Arg, IsDead, Forwarded, MayBeErased, MayBeRemoved, KeepsAlive, OfResult, OfInside, ForwardsToArgument}
use Rattle.pliron_opt_dce.proofs.Thinned.{IsThinned, Fate, Went, Stands}
use Rattle.pliron_opt_dce.proofs.PlaceLists.{get_moved, in_others, picked_at, picked_from, distinct_same, range_get}
use Rattle.pliron_opt_dce.proofs.Places.{IsBranchAt, PlacesStill, Placed, placed_end, all_lost, none_lost}

-- the dialect admits an operation by its shape
shape_admitted : (m : Meaning) (t : Tree) (k : ℕ) (o : Operation) → op_at t k ≡ Some o → Admitted m (shape_of m t o) → IsAdmitted m t k
unfolding shape_of
shape_admitted m t k o e a h hd =
    let s = op_shows t k o e in
    let same : o.head ≡ h = some_is (sym s.head ∙ hd) in
    subst (λ x. IsTrue (m.admits x (length (operands_of t k)) (length (results_of t k)) (length (successors_of t k)) (length (regions_of t k)))) same
    (subst (λ x. IsTrue (m.admits o.head (length x) (length (results_of t k)) (length (successors_of t k)) (length (regions_of t k)))) (sym s.operands)
    (subst (λ x. IsTrue (m.admits o.head (length o.operands) (length x) (length (successors_of t k)) (length (regions_of t k)))) (sym s.results)
    (subst (λ x. IsTrue (m.admits o.head (length o.operands) (length o.results) (length x) (length (regions_of t k)))) (sym s.successors)
    (subst (λ x. IsTrue (m.admits o.head (length o.operands) (length o.results) (length o.successors) (length x))) (sym s.regions)
    (subst (λ n. IsTrue (m.admits o.head (length o.operands) (length o.results) (length o.successors) n)) (length-map o.regions (λ r. count_arguments (entry_block t r))) a)))))

-- where the item at j of a list without one item stood
abbrev pub orig : ℕ → ℕ → ℕ
orig i j = if nat_lt j i then j else (j + 1)

get_orig : {A : Type 0} (xs : List A) (i j : ℕ) → slice_get (remove xs i) j ≡ slice_get xs (orig i j)
get_orig xs i j = go (cases_lt j i)
  where
    below : j < i → orig i j ≡ j
    below l = grind (arith, tests)

    above : i ≤ j → orig i j ≡ j + 1
    above l = grind (arith, tests)

    go : (j < i) ⊎ (i ≤ j) → slice_get (remove xs i) j ≡ slice_get xs (orig i j)
    go (inl l) = slice_get-remove_below xs i j l ∙ ap (slice_get xs) (sym (below l))
    go (inr l) = slice_get-remove_above xs i j l ∙ ap (slice_get xs) (sym (above l))

-- a branch without regions has one shape in all trees
pub shape_closed : (m : Meaning) (x x' : Tree) (o : Operation) → o.regions ≡ [] → IsTrue (m.is_branch o.head) → shape_of m x o ≡ shape_of m x' o
unfolding shape_of
shape_closed m x x' o none b =
    ap₂ (λ rs z. record { head = o.head; operands = length o.operands; results = length o.results; successors = length o.successors; entry_arguments = map (λ r. count_arguments (entry_block x r)) rs; target_arguments = z }) none (aimless (m.is_branch o.head) _ b ∙ sym (aimless (m.is_branch o.head) _ b))
    ∙ ap (λ rs. record { head = o.head; operands = length o.operands; results = length o.results; successors = length o.successors; entry_arguments = map (λ r. count_arguments (entry_block x' r)) rs; target_arguments = unless (m.is_branch o.head) (map (λ b. count_arguments (block_at x' b)) o.successors) }) (sym none)
  where
    aimless : (b : Bool) (xs : List ℕ) → IsTrue b → unless b xs ≡ None
    aimless true xs y = refl
    aimless false xs y = absurd (cc)

pub shape_successors : (m : Meaning) (x : Tree) (o : Operation) → (shape_of m x o).successors ≡ length o.successors
unfolding shape_of
shape_successors m x o = refl

pub inside_live : (t : Tree) → IsJoined t → {a k : ℕ} → IsInside t a k → IsLive t a × IsLive t k
inside_live t j (Directly {x} e) = let l = holder_live t x _ j e in (l.1, l.0)
inside_live t j (Deeper {x} p e i) = ((inside_live t j i).0, (holder_live t x p j e).0)

-- what uses a value stands
pub used_live : (t : Tree) → IsJoined t → (k v : ℕ) → In v (operands_of t k) → IsLive t k
used_live t j k v i = go (head_of t k) refl
  where
    go : (h : Option Head) → head_of t k ≡ h → IsLive t k
    go None e = absurd (subst (In v) (j.erased k e).0 i)
    go (Some h) e = ap is_some e

module _ (m : Meaning) (can_fold : Head → Bool) (SameTests : Head → Head → Type 0) (shortened : Shape → ℕ → ℕ → Head) (law : ForwardsOperands m can_fold SameTests shortened) (tests : (h h' : Head) → SameTests h h' → m.is_branch h' ≡ m.is_branch h) (counts : KeepsCounts m) (side_effects : Head → Option Bool) (removable : Head → ℕ → Bool → Option Bool) (t u : Tree) (root block index v : ℕ) (edges : List Edge) (w : IsTree t) (w' : IsTree (argument_removed u block index)) (linked : IsWellLinked m t root) (argument : slice_get (arguments_of t block) index ≡ Some v) (held : HoldsBlock t root block) (branches : (k : ℕ) → In block (successors_of t k) → HeadPasses m.is_branch t k) (to : AreEdgesTo t block edges) (lose : EdgesLose m shortened index edges t u) (is_dead : IsDead m side_effects removable t root (Arg v)) where
  abbrev t' : Tree
  t' = argument_removed u block index

  abbrev B : ℕ → Type 0
  B k = IsBranchAt m can_fold SameTests shortened law tests t w block index k

  abbrev P : ℕ → Type 0
  P k = Placed m can_fold SameTests shortened law tests t w block index u k []

  f : SameFrame m can_fold SameTests shortened law tests t w block index u
  f = (placed_end m can_fold SameTests shortened law tests t w block index edges to u lose 0).0

  abbrev placed : (k : ℕ) → P k
  placed k = (placed_end m can_fold SameTests shortened law tests t w block index edges to u lose k).1

  abbrev kept : ℕ → List ℕ
  kept k = (placed k).places

  abbrev lost_all : (k i : ℕ) → slice_get (successors_of t k) i ≡ Some block → In i (placed k).done
  lost_all k i s = all_lost m can_fold SameTests shortened law tests t w block index edges to u lose k i s

  -- what does not lead to the block stays as it was
  alone : (k : ℕ) → (In block (successors_of t k) → ⊥) → (row_of u k ≡ row_of t k) × (operands_of u k ≡ operands_of t k) × (kept k ≡ range_with_len 0 (length (operands_of t k)))
  alone k n = (placed k).same (none_lost m can_fold SameTests shortened law tests t w block index edges to u lose k n)

  same_successors : (k : ℕ) → successors_of t' k ≡ successors_of t k
  same_successors k = ap (λ z. slice_index_or z k []) f.successors

  same_parent : (k : ℕ) → parent_of t' k ≡ parent_of t k
  same_parent k = ap (λ z. slice_index_or z k None) f.parents

  same_block_parent : (b : ℕ) → block_parent_of t' b ≡ block_parent_of t b
  same_block_parent b = ap (λ z. slice_index_or z b None) f.block_parents

  same_block_holder : (b : ℕ) → block_parent_operation_of t' b ≡ block_parent_operation_of t b
  same_block_holder b =
      ap (λ z. up_from (slice_index_or z b None) (λ r. op_of_slot (slice_get u.slots r))) f.block_parents
      ∙ ap (λ z. up_from (block_parent_of t b) (λ r. op_of_slot (slice_get z r))) f.slots

  same_holder : (x : ℕ) → parent_operation_of t' x ≡ parent_operation_of t x
  same_holder x = ap (λ z. up_from (slice_index_or z x None) (λ b. block_parent_operation_of t' b)) f.parents ∙ go (parent_of t x)
    where
      go : (o : Option ℕ) → up_from o (λ b. block_parent_operation_of t' b) ≡ up_from o (λ b. block_parent_operation_of t b)
      go None = refl
      go (Some b) = same_block_holder b

  inside_back : (a k : ℕ) → IsInside t' a k → IsInside t a k
  inside_back a k i = inside_alike t' t (λ y. sym (same_holder y)) i

  inside_forth : (a k : ℕ) → IsInside t a k → IsInside t' a k
  inside_forth a k i = inside_alike t t' same_holder i

  within_back : (a k : ℕ) → IsWithin t' a k → IsWithin t a k
  within_back a k i = within_alike t' t (λ y. sym (same_holder y)) i

  within_forth : (a k : ℕ) → IsWithin t a k → IsWithin t' a k
  within_forth a k i = within_alike t t' same_holder i

  holds_block_back : (a b : ℕ) → HoldsBlock t' a b → HoldsBlock t a b
  holds_block_back a b x = (x.0, sym (same_block_holder b) ∙ x.1, within_back a x.0 x.2)

  holds_block_forth : (a b : ℕ) → HoldsBlock t a b → HoldsBlock t' a b
  holds_block_forth a b x = (x.0, same_block_holder b ∙ x.1, within_forth a x.0 x.2)

  -- what leads to a block inside the root is inside the root
  leads_inside : (k b : ℕ) → In b (successors_of t k) → HoldsBlock t root b → IsInside t root k
  leads_inside k b i h =
      let ends = linked.edges k b i (inr h) in
      let same : block_parent_operation_of t ends.block ≡ block_parent_operation_of t b = ap (λ o. up_from o (λ r. region_parent_of t r)) (sym (ends.own_region b i)) in
      inside_block ends.block ends.in_block (h.0, same ∙ h.1, h.2)

  -- a branch in the tree before
  branch_at : (k : ℕ) → IsWithin t root k → (h : Head) → head_of t k ≡ Some h → IsTrue (m.is_branch h) → B k
  branch_at k i h e b = record { operation = operation_of t k h; liveness = make_op t k h e; admitted = admitted_shape m t k (operation_of t k h) (make_op t k h e) (linked.admitted k i); branch = b }

  user_branch : (k : ℕ) → In block (successors_of t k) → B k
  user_branch k i =
      let s = slice_in (successors_of t k) block i in
      let h = some_of (head_of t k) (user_live m can_fold SameTests shortened law tests t w block index k s.0 s.1) in
      branch_at k (inr (leads_inside k block i held)) h.0 h.1 (branches k i h.0 h.1)

  -- a branch holds nothing
  no_regions : (k : ℕ) → B k → regions_of t k ≡ []
  no_regions k b = (op_shows t k b.operation b.liveness).regions ∙ childless m t b.operation (law.alone (shape_of m t b.operation) b.admitted (subst (λ z. IsTrue (m.is_branch z)) (sym (shape_head m t b.operation)) b.branch)).1

  -- what has successors ends a block
  ends_t : (k : ℕ) → In block (successors_of t k) → (h : Head) → head_of t k ≡ Some h → IsTrue (m.is_terminator h)
  ends_t k i h e =
      let b = user_branch k i in
      let s = op_shows t k b.operation b.liveness in
      let many : 0 < length (successors_of t k) = let y = slice_in (successors_of t k) block i in let z = slice_get_within (successors_of t k) y.0 block y.1 in omega (arith, z) in
      subst (λ z. IsTrue (m.is_terminator z)) (shape_head m t b.operation ∙ some_is (sym s.head ∙ e)) (counts.successors (shape_of m t b.operation) b.admitted (subst (λ n. 0 < n) (ap length s.successors ∙ sym (shape_successors m t b.operation)) many))

  ends_t' : (k : ℕ) → In block (successors_of t k) → (h : Head) → head_of u k ≡ Some h → IsTrue (m.is_terminator h)
  ends_t' k i h e =
      let b = user_branch k i in
      let a = (placed k).acts b in
      let s = op_shows u k a.0 a.1.liveness in
      let many : 0 < length (successors_of u k) = let y = slice_in (successors_of t k) block i in let z = slice_get_within (successors_of t k) y.0 block y.1 in subst (λ q. 0 < length (slice_index_or q k [])) (sym f.successors) (omega (arith, z)) in
      subst (λ z. IsTrue (m.is_terminator z)) (shape_head m u a.0 ∙ some_is (sym s.head ∙ e)) (counts.successors (shape_of m u a.0) a.1.admitted (subst (λ n. 0 < n) (ap length s.successors ∙ sym (shape_successors m u a.0)) many))

  not_both : (b : Bool) → IsTrue b → b ≡ false → ⊥
  not_both b y n = true≢false (sym y ∙ n)

  may_back : (k : ℕ) → MayBeErased m side_effects t' root k → MayBeErased m side_effects t root k
  may_back k g = elim (decide_in block (successors_of t k)) [
    | inl i ↦
        let h = some_of (head_of t' k) (inside_live t' w'.joined g.inside).1 in
        absurd (not_both (m.is_terminator h.0) (ends_t' k i h.0 h.1) (g.plain h.0 h.1))
    | inr n ↦ let row = ap (λ z. z.head) (alone k n).0 in record { inside = inside_back root k g.inside; harmless = λ h e. g.harmless h (row ∙ e); plain = λ h e. g.plain h (row ∙ e) }
  ]

  may_forth : (k : ℕ) → MayBeErased m side_effects t root k → MayBeErased m side_effects t' root k
  may_forth k g = elim (decide_in block (successors_of t k)) [
    | inl i ↦
        let h = some_of (head_of t k) (inside_live t w.joined g.inside).1 in
        absurd (not_both (m.is_terminator h.0) (ends_t k i h.0 h.1) (g.plain h.0 h.1))
    | inr n ↦ let row = ap (λ z. z.head) (alone k n).0 in record { inside = inside_forth root k g.inside; harmless = λ h e. g.harmless h (sym row ∙ e); plain = λ h e. g.plain h (sym row ∙ e) }
  ]

  -- values and what makes them
  same_results : (k : ℕ) → results_of t' k ≡ results_of t k
  same_results k = f.results k

  has_block : block < length u.arguments
  has_block = go (cases_lt block (length u.arguments))
    where
      go : (block < length u.arguments) ⊎ (length u.arguments ≤ block) → block < length u.arguments
      go (inl lt) = lt
      go (inr le) = let e : slice_get {X = ℕ} [] index ≡ Some v = ap (λ z. slice_get z index) (sym (get_or_past u.arguments block [] le) ∙ ap (λ z. slice_index_or z block []) f.arguments) ∙ argument in absurd (nothing e)
        where
          nothing : slice_get {X = ℕ} [] index ≡ Some v → ⊥
          nothing e = grind arith

  pub arguments_there : arguments_of t' block ≡ remove (arguments_of t block) index
  arguments_there = get_or-set_same u.arguments block _ [] has_block ∙ ap (λ z. remove (slice_index_or z block []) index) f.arguments

  pub arguments_other : (b : ℕ) → b ≢ block → arguments_of t' b ≡ arguments_of t b
  arguments_other b ne = get_or-set_other u.arguments block b _ [] ne ∙ ap (λ z. slice_index_or z b []) f.arguments

  -- an argument after was one before
  argument_was : (b j x : ℕ) → slice_get (arguments_of t' b) j ≡ Some x → (l : ℕ) × (slice_get (arguments_of t b) l ≡ Some x)
  argument_was b j x e = elim (cases_eq b block) [
    | inl s ↦ (orig index j, ap (λ z. slice_get (arguments_of t z) (orig index j)) s ∙ sym (get_orig (arguments_of t block) index j) ∙ ap (λ z. slice_get z j) (sym arguments_there) ∙ ap (λ z. slice_get (arguments_of t' z) j) (sym s) ∙ e)
    | inr ne ↦ (j, ap (λ z. slice_get z j) (sym (arguments_other b ne)) ∙ e)
  ]

  -- what makes a value after made it before
  data Made (x : ℕ) : Type 0 where
    MadeResult : (k i : ℕ) → definition_of t' x ≡ Some (Result k i) → definition_of t x ≡ Some (Result k i) → slice_get (results_of t k) i ≡ Some x → Made x
    MadeArgument : (b i j : ℕ) → definition_of t' x ≡ Some (Argument b i) → definition_of t x ≡ Some (Argument b j) → slice_get (arguments_of t' b) i ≡ Some x → slice_get (arguments_of t b) j ≡ Some x → Made x

  made : (x : ℕ) → IsDefined t' x → Made x
  made x d = let y = maker_is t' x d in go y.0 y.1 y.2
    where
      go : (q : Def) → definition_of t' x ≡ Some q → IsMadeBy t' x (Some q) → Made x
      go (Result k i) e s = let s0 = ap (λ z. slice_get z i) (sym (same_results k)) ∙ s in MadeResult k i e (w.joined.results k i x s0) s0
      go (Argument b i) e s = let y = argument_was b i x s in MadeArgument b i y.0 e (w.joined.arguments b y.0 x y.1) s y.1

  made_inside_back : (k x : ℕ) → Made x → IsDefinedInside t' k x → IsDefinedInside t k x
  made_inside_back k x (MadeResult q i e' e s) g = subst (IsDefiningOperationInside t k) (sym e) (inside_back k q (subst (IsDefiningOperationInside t' k) e' g))
  made_inside_back k x (MadeArgument b i j e' e s' s) g = subst (IsDefiningOperationInside t k) (sym e) (holds_block_back k b (subst (IsDefiningOperationInside t' k) e' g))

  made_inside_forth : (k x : ℕ) → Made x → IsDefinedInside t k x → IsDefinedInside t' k x
  made_inside_forth k x (MadeResult q i e' e s) g = subst (IsDefiningOperationInside t' k) (sym e') (inside_forth k q (subst (IsDefiningOperationInside t k) e g))
  made_inside_forth k x (MadeArgument b i j e' e s' s) g = subst (IsDefiningOperationInside t' k) (sym e') (holds_block_forth k b (subst (IsDefiningOperationInside t k) e g))

  -- an operand after stood at its place before
  operand_was : (user place' x : ℕ) → slice_get (operands_of t' user) place' ≡ Some x → (place : ℕ) × (slice_get (kept user) place' ≡ Some place) × (slice_get (operands_of t user) place ≡ Some x)
  operand_was user place' x e = picked_from (kept user) (operands_of t user) (operands_of u user) place' x (sym (placed user).left) e

  operand_is : (user place place' x : ℕ) → slice_get (kept user) place' ≡ Some place → slice_get (operands_of t user) place ≡ Some x → slice_get (operands_of t' user) place' ≡ Some x
  operand_is user place place' x e o = let y = picked_at (kept user) (operands_of t user) (operands_of u user) place' place (sym (placed user).left) e in y.1 ∙ ap Some (some_is (sym y.2 ∙ o))

  operand_was_at : (user place place' x : ℕ) → slice_get (kept user) place' ≡ Some place → slice_get (operands_of t' user) place' ≡ Some x → slice_get (operands_of t user) place ≡ Some x
  operand_was_at user place place' x e o = let y = operand_was user place' x o in ap (slice_get (operands_of t user)) (some_is (sym e ∙ y.1)) ∙ y.2

  defined_operand : (user place' x : ℕ) → slice_get (operands_of t' user) place' ≡ Some x → Made x
  defined_operand user place' x e = made x (w'.joined.operands user x (in_slice (operands_of t' user) place' x e))

  holds_back : (k user place place' : ℕ) → slice_get (kept user) place' ≡ Some place → KeepsAlive t' k user place' → KeepsAlive t k user place
  holds_back k user place place' e (OfResult x o i) = OfResult x (operand_was_at user place place' x e o) (subst (In x) (same_results k) i)
  holds_back k user place place' e (OfInside x o i n) = OfInside x (operand_was_at user place place' x e o) (made_inside_back k x (defined_operand user place' x o) i) (λ j. n (within_forth k user j))

  holds_forth : (k user place place' : ℕ) → slice_get (kept user) place' ≡ Some place → KeepsAlive t k user place → KeepsAlive t' k user place'
  holds_forth k user place place' e (OfResult x o i) = OfResult x (operand_is user place place' x e o) (subst (In x) (sym (same_results k)) i)
  holds_forth k user place place' e (OfInside x o i n) = let o' = operand_is user place place' x e o in OfInside x o' (made_inside_forth k x (defined_operand user place' x o') i) (λ j. n (within_back k user j))

  -- what became of a use
  fate : (user place x : ℕ) → slice_get (operands_of t user) place ≡ Some x → Fate m side_effects removable t t' root kept user place x
  fate user place x e = elim (decide_in block (successors_of t user)) [
    | inl i ↦
        let b = user_branch user i in
        let a = (placed user).acts b in
        go b (a.1.there place (slice_get_within (operands_of t user) place x e))
    | inr n ↦
        let same = alone user n in
        let here : slice_get (kept user) place ≡ Some place = ap (λ z. slice_get z place) same.2 ∙ range_get 0 (length (operands_of t user)) place (slice_get_within (operands_of t user) place x e) ∙ ap Some (omega arith) in
        Stands place here (ap (λ z. slice_get z place) same.1 ∙ e)
  ]
    where
      go : (b : B user) → In place (kept user) ⊎ ((i : ℕ) × In i (placed user).done × (slice_get (m.forwarded (shape_of m t b.operation) i) index ≡ Some place)) → Fate m side_effects removable t t' root kept user place x
      go b (inl i) = let y = slice_in (kept user) place i in Stands y.0 y.1 (operand_is user place y.0 x y.1 e)
      go b (inr y) = Went (Forwarded v user place is_dead (record {
        operation = b.operation;
        liveness = b.liveness;
        branch = b.branch;
        edge = y.0;
        index = index;
        block = block;
        target = (placed user).sound y.0 y.1;
        forwards = y.2;
        argument = argument;
      }))

  -- what stands
  live_back : (k : ℕ) → IsLive t' k → IsLive t k
  live_back k l = elim (decide_in block (successors_of t k)) [
    | inl i ↦ let s = slice_in (successors_of t k) block i in user_live m can_fold SameTests shortened law tests t w block index k s.0 s.1
    | inr n ↦ subst (λ z. IsSome z.head) (alone k n).0 l
  ]

  -- what holds a block inside the root leads nowhere near: its head stays
  holder_head : (k b : ℕ) → block_parent_operation_of t b ≡ Some k → HoldsBlock t root b → head_of u k ≡ head_of t k
  holder_head k b e g = elim (decide_in block (successors_of t k)) [
    | inl i ↦ absurd (subst (In (region e).0) (no_regions k (user_branch k i)) (region e).1)
    | inr n ↦ ap (λ z. z.head) (alone k n).0
  ]
    where
      region : block_parent_operation_of t b ≡ Some k → (r : ℕ) × In r (regions_of t k)
      region e =
          let y = block_steps t b k e in
          let z = slot_is t y.0 (w.joined.placed b y.0 y.1) in
          let s : z.0.op ≡ k = some_is (sym (ap op_of_slot z.1) ∙ y.2) in
          (y.0, subst (λ q. In y.0 (regions_of t q)) s (in_slice (regions_of t z.0.op) z.0.index y.0 z.2))

  allowed_back : (k b : ℕ) → HoldsBlock t root b → block_parent_operation_of t b ≡ Some k → ReadsPlace removable t' k b (Some true) → ReadsPlace removable t k b (Some true)
  allowed_back k b g e a h r i hd bp sl =
      a h r i (holder_head k b e g ∙ hd) (same_block_parent b ∙ bp) (ap (λ z. slice_get z r) f.slots ∙ sl)
      ∙ ap (λ z. removable h i (is_first b (first_of (slice_index_or z r []) None))) f.layouts

  allowed_forth : (k b : ℕ) → HoldsBlock t root b → block_parent_operation_of t b ≡ Some k → ReadsPlace removable t k b (Some true) → ReadsPlace removable t' k b (Some true)
  allowed_forth k b g e a h r i hd bp sl =
      a h r i (sym (holder_head k b e g) ∙ hd) (sym (same_block_parent b) ∙ bp) (ap (λ z. slice_get z r) (sym f.slots) ∙ sl)
      ∙ ap (λ z. removable h i (is_first b (first_of (slice_index_or z r []) None))) (sym f.layouts)

  branch_back : (k : ℕ) → HeadPasses m.is_branch t' k → HeadPasses m.is_branch t k
  branch_back k p h e = elim (decide_in block (successors_of t k)) [
    | inl i ↦ branches k i h e
    | inr n ↦ p h (ap (λ z. z.head) (alone k n).0 ∙ e)
  ]

  branch_forth : (k : ℕ) → HeadPasses m.is_branch t k → HeadPasses m.is_branch t' k
  branch_forth k p h e = elim (decide_in block (successors_of t k)) [
    | inl i ↦
        let b = user_branch k i in
        let a = (placed k).acts b in
        subst (λ z. IsTrue (m.is_branch z)) (some_is (sym (op_shows u k a.0 a.1.liveness).head ∙ e)) a.1.branch
    | inr n ↦ p h (sym (ap (λ z. z.head) (alone k n).0) ∙ e)
  ]

  argument_back : (x : ℕ) → MayBeRemoved m removable t' root x → MayBeRemoved m removable t root x
  argument_back x g =
      let y = argument_was g.block g.index x g.argument in
      let i = holds_block_back root g.block g.inside in
      record {
        block = g.block;
        index = y.0;
        argument = y.1;
        inside = i;
        allowed = λ k e. allowed_back k g.block i e (g.allowed k (same_block_holder g.block ∙ e));
        branches = λ k j. branch_back k (g.branches k (subst (In g.block) (sym (same_successors k)) j));
      }

  argument_forth : (x : ℕ) → IsDefined t' x → MayBeRemoved m removable t root x → MayBeRemoved m removable t' root x
  argument_forth x d g = go (made x d)
    where
      go : Made x → MayBeRemoved m removable t' root x
      go (MadeResult k i e' e s) = let q : Some (Result k i) ≡ Some (Argument g.block g.index) = sym e ∙ w.joined.arguments g.block g.index x g.argument in absurd (cc)
      go (MadeArgument b i j e' e s' s) =
          let q : Some (Argument b j) ≡ Some (Argument g.block g.index) = sym e ∙ w.joined.arguments g.block g.index x g.argument in
          let sb : b ≡ g.block = cc in
          record {
            block = g.block;
            index = i;
            argument = subst (λ z. slice_get (arguments_of t' z) i ≡ Some x) sb s';
            inside = holds_block_forth root g.block g.inside;
            allowed = λ k e. let e0 = sym (same_block_holder g.block) ∙ e in allowed_forth k g.block g.inside e0 (g.allowed k e0);
            branches = λ k l. branch_forth k (g.branches k (subst (In g.block) (same_successors k) l));
          }

  -- the block that a value is an argument of
  one_block : (y : Tree) → IsTree y → (b c i j x : ℕ) → slice_get (arguments_of y b) i ≡ Some x → slice_get (arguments_of y c) j ≡ Some x → b ≡ c
  one_block y wy b c i j x e q = let s : Some (Argument b i) ≡ Some (Argument c j) = sym (wy.joined.arguments b i x e) ∙ wy.joined.arguments c j x q in cc

  -- the shape of a branch in the tree after
  shape_after : (k : ℕ) (b : B k) (o' : Operation) → op_at t' k ≡ Some o' → ((placed k).acts b).0 ≡ o' × (shape_of m t' o' ≡ shape_of m u ((placed k).acts b).0)
  shape_after k b o' e = (
    same,
    ap (shape_of m t') (sym same) ∙ shape_closed m t' u a.0 none a.1.branch,
  )
    where
      a : (now : Operation) × PlacesStill m can_fold SameTests shortened law tests t w block index u k now (kept k) (placed k).done b
      a = (placed k).acts b

      same : a.0 ≡ o'
      same = some_is (sym a.1.liveness ∙ op_kept t' u k refl refl refl refl ∙ e)

      none : a.0.regions ≡ []
      none = sym (op_shows u k a.0 a.1.liveness).regions ∙ f.regions k ∙ no_regions k b

  -- an edge of a branch inside the root, before and after
  module _ (k : ℕ) (b : B k) (o' : Operation) (e' : op_at t' k ≡ Some o') where
    abbrev s0 : Shape
    s0 = shape_of m t b.operation

    abbrev s1 : Shape
    s1 = shape_of m t' o'

    abbrev a : (now : Operation) × PlacesStill m can_fold SameTests shortened law tests t w block index u k now (kept k) (placed k).done b
    a = (placed k).acts b

    same_shape : s1 ≡ shape_of m u a.0
    same_shape = (shape_after k b o' e').1

    -- along an edge to the block
    to_block : (i : ℕ) → slice_get (successors_of t k) i ≡ Some block → pick (m.forwarded s1 i) (kept k) ≡ map Some (remove (m.forwarded s0 i) index)
    to_block i s = ap (λ z. pick (m.forwarded z i) (kept k)) same_shape ∙ a.1.lost i (lost_all k i s)

    -- along another one
    elsewhere : (i c : ℕ) → slice_get (successors_of t k) i ≡ Some c → c ≢ block → pick (m.forwarded s1 i) (kept k) ≡ map Some (m.forwarded s0 i)
    elsewhere i c s ne = ap (λ z. pick (m.forwarded z i) (kept k)) same_shape ∙ a.1.same i (λ d. ne (some_is (sym s ∙ (placed k).sound i d)))

    place_back : (i c j x place place' : ℕ) → slice_get (successors_of t k) i ≡ Some c → slice_get (m.forwarded s1 i) j ≡ Some place' → slice_get (arguments_of t' c) j ≡ Some x → slice_get (kept k) place' ≡ Some place → (l : ℕ) × (slice_get (m.forwarded s0 i) l ≡ Some place) × (slice_get (arguments_of t c) l ≡ Some x)
    place_back i c j x place place' s fw ar kp = elim (cases_eq c block) [
      | inl q ↦
          let y = picked_at (m.forwarded s1 i) (kept k) (remove (m.forwarded s0 i) index) j place' (to_block i (s ∙ ap Some q)) fw in
          (orig index j, sym (get_orig (m.forwarded s0 i) index j) ∙ y.1 ∙ sym y.2 ∙ kp, ap (λ z. slice_get (arguments_of t z) (orig index j)) q ∙ sym (get_orig (arguments_of t block) index j) ∙ ap (λ z. slice_get z j) (sym arguments_there) ∙ ap (λ z. slice_get (arguments_of t' z) j) (sym q) ∙ ar)
      | inr ne ↦
          let y = picked_at (m.forwarded s1 i) (kept k) (m.forwarded s0 i) j place' (elsewhere i c s ne) fw in
          (j, y.1 ∙ sym y.2 ∙ kp, ap (λ z. slice_get z j) (sym (arguments_other c ne)) ∙ ar)
    ]

    place_forth : (i c j x place place' : ℕ) → slice_get (successors_of t k) i ≡ Some c → slice_get (m.forwarded s0 i) j ≡ Some place → slice_get (arguments_of t c) j ≡ Some x → slice_get (kept k) place' ≡ Some place → (l : ℕ) × (slice_get (m.forwarded s1 i) l ≡ Some place') × (slice_get (arguments_of t' c) l ≡ Some x)
    place_forth i c j x place place' s fw ar kp = elim (cases_eq c block) [
      | inl q ↦ elim (cases_eq j index) [
        | inl ji ↦ absurd (a.1.deleted i place (lost_all k i (s ∙ ap Some q)) (ap (slice_get (m.forwarded s0 i)) (sym ji) ∙ fw) (in_slice (kept k) place' place kp))
        | inr nj ↦
            let y = picked_from (m.forwarded s1 i) (kept k) (remove (m.forwarded s0 i) index) (moved_up index j) place (to_block i (s ∙ ap Some q)) (get_moved (m.forwarded s0 i) index j nj ∙ fw) in
            (moved_up index j, y.1 ∙ ap Some (distinct_same (kept k) y.0 place' place (placed k).distinct y.2 kp), ap (λ z. slice_get (arguments_of t' z) (moved_up index j)) q ∙ ap (λ z. slice_get z (moved_up index j)) arguments_there ∙ get_moved (arguments_of t block) index j nj ∙ ap (λ z. slice_get (arguments_of t z) j) (sym q) ∙ ar)
      ]
      | inr ne ↦
          let y = picked_from (m.forwarded s1 i) (kept k) (m.forwarded s0 i) j place (elsewhere i c s ne) fw in
          (j, y.1 ∙ ap Some (distinct_same (kept k) y.0 place' place (placed k).distinct y.2 kp), ap (λ z. slice_get z j) (arguments_other c ne) ∙ ar)
    ]

  -- the branch of an edge to a block inside the root, in the tree before
  edge_branch : (k i c : ℕ) → slice_get (successors_of t k) i ≡ Some c → HoldsBlock t root c → HeadPasses m.is_branch t k → B k
  edge_branch k i c s g p =
      let ins = leads_inside k c (in_slice (successors_of t k) i c s) g in
      let h = some_of (head_of t k) (inside_live t w.joined ins).1 in
      branch_at k (inr ins) h.0 h.1 (p h.0 h.1)

  forwarded_back : (user place place' x : ℕ) → MayBeRemoved m removable t' root x → slice_get (kept user) place' ≡ Some place → ForwardsToArgument m t' user place' x → ForwardsToArgument m t user place x
  forwarded_back user place place' x g kp h =
      let sb = one_block t' w' h.block g.block h.index g.index x h.argument g.argument in
      let inner : HoldsBlock t root h.block = subst (HoldsBlock t root) (sym sb) (holds_block_back root g.block g.inside) in
      let s : slice_get (successors_of t user) h.edge ≡ Some h.block = ap (λ z. slice_get z h.edge) (sym (same_successors user)) ∙ h.target in
      let p : HeadPasses m.is_branch t' user = λ y e. subst (λ z. IsTrue (m.is_branch z)) (some_is (sym (op_shows t' user h.operation h.liveness).head ∙ e)) h.branch in
      let b = edge_branch user h.edge h.block s inner (branch_back user p) in
      let y = place_back user b h.operation h.liveness h.edge h.block h.index x place place' s h.forwards h.argument kp in
      record { operation = b.operation; liveness = b.liveness; branch = b.branch; edge = h.edge; index = y.0; block = h.block; target = s; forwards = y.1; argument = y.2 }

  forwarded_forth : (user place place' x : ℕ) → MayBeRemoved m removable t root x → IsLive t' user → slice_get (kept user) place' ≡ Some place → ForwardsToArgument m t user place x → IsDefined t' x × ForwardsToArgument m t' user place' x
  forwarded_forth user place place' x g live kp h =
      let sb = one_block t w h.block g.block h.index g.index x h.argument g.argument in
      let inner : HoldsBlock t root h.block = subst (HoldsBlock t root) (sym sb) g.inside in
      let p : HeadPasses m.is_branch t user = λ y e. subst (λ z. IsTrue (m.is_branch z)) (some_is (sym (op_shows t user h.operation h.liveness).head ∙ e)) h.branch in
      let b = edge_branch user h.edge h.block h.target inner p in
      let so : b.operation ≡ h.operation = some_is (sym b.liveness ∙ h.liveness) in
      let hd = some_of (head_of t' user) live in
      let o' = operation_of t' user hd.0 in
      let e' = make_op t' user hd.0 hd.1 in
      let y = place_forth user b o' e' h.edge h.block h.index x place place' h.target (ap (λ z. slice_get (m.forwarded (shape_of m t z) h.edge) h.index) so ∙ h.forwards) h.argument kp in (
        subst (IsMadeBy t' x) (sym (w'.joined.arguments h.block y.0 x y.2)) y.2,
        record {
          operation = o';
          liveness = e';
          branch = branch_forth user p hd.0 hd.1;
          edge = h.edge;
          index = y.0;
          block = h.block;
          target = ap (λ z. slice_get z h.edge) (same_successors user) ∙ h.target;
          forwards = y.1;
          argument = y.2;
        },
      )

  pub removed_thins : ((k : ℕ) → In v (operands_of t k) → ⊥) → IsThinned m side_effects removable t t' root
  removed_thins none = record {
    kept = kept;
    live = λ k i. (inside_live t' w'.joined i).1;
    live_before = live_back;
    results_same = λ k l. same_results k;
    made_forth = λ k x user l i j n. still_made k x user i j;
    defined_before = λ x d. defined_back x (made x d);
    within_back = within_back;
    within_forth = λ a k l i. let j = within_forth a k i in (around a k l j, j);
    may_back = may_back;
    may_forth = λ k l g. may_forth k g;
    argument_back = argument_back;
    argument_forth = argument_forth;
    fate = fate;
    operand_back = λ user place' x e. let y = operand_was user place' x e in (used_live t' w'.joined user x (in_slice (operands_of t' user) place' x e), y.0, y.1, y.2);
    holds_back = holds_back;
    holds_forth = λ k user place place' x e o l g. holds_forth k user place place' e g;
    forwarded_back = forwarded_back;
    forwarded_forth = forwarded_forth;
  }
    where
      around : (a k : ℕ) → IsLive t' k → IsWithin t' a k → IsLive t' a
      around a k l (inl e) = subst (IsLive t') e l
      around a k l (inr i) = (inside_live t' w'.joined i).0

      still_made : (k x user : ℕ) → In x (operands_of t user) → IsDefinedInside t k x → IsDefined t' x × IsDefinedInside t' k x
      still_made k x user i j = (d, made_inside_forth k x (made x d) j)
        where
          d : IsDefined t' x
          d = let y = maker_is t x (w.joined.operands user x i) in go y.0 y.1 y.2
            where
              go : (q : Def) → definition_of t x ≡ Some q → IsMadeBy t x (Some q) → IsDefined t' x
              go (Result p n) e s =
                  let s' : slice_get (results_of t' p) n ≡ Some x = ap (λ z. slice_get z n) (same_results p) ∙ s in
                  subst (IsMadeBy t' x) (sym (w'.joined.results p n x s')) s'
              go (Argument b n) e s = elim (cases_eq b block) [
                | inl q ↦ elim (cases_eq n index) [
                  | inl ni ↦ absurd (none user (subst (λ z. In z (operands_of t user)) (some_is (sym s ∙ ap (λ z. slice_get (arguments_of t z) n) q ∙ ap (slice_get (arguments_of t block)) ni ∙ argument)) i))
                  | inr nn ↦
                      let s' : slice_get (arguments_of t' b) (moved_up index n) ≡ Some x = ap (λ z. slice_get (arguments_of t' z) (moved_up index n)) q ∙ ap (λ z. slice_get z (moved_up index n)) arguments_there ∙ get_moved (arguments_of t block) index n nn ∙ ap (λ z. slice_get (arguments_of t z) n) (sym q) ∙ s in
                      subst (IsMadeBy t' x) (sym (w'.joined.arguments b (moved_up index n) x s')) s'
                ]
                | inr ne ↦
                    let s' : slice_get (arguments_of t' b) n ≡ Some x = ap (λ z. slice_get z n) (arguments_other b ne) ∙ s in
                    subst (IsMadeBy t' x) (sym (w'.joined.arguments b n x s')) s'
              ]

      defined_back : (x : ℕ) → Made x → IsDefined t x
      defined_back x (MadeResult k i e' e s) = subst (IsMadeBy t x) (sym e) s
      defined_back x (MadeArgument b i j e' e s' s) = subst (IsMadeBy t x) (sym e) s

  -- the root stands
  pub root_stands : IsLive t root → IsLive t' root
  root_stands l = f.live root l

  -- for each root
  pub removed_linked : (r : ℕ) → IsWellLinked m t r → IsWellLinked m t' r
  removed_linked r y = record {
    edges = λ k s i held. edge k (y.edges k s (subst (In s) (same_successors k) i) (held_before k s held));
    admitted = λ k i. admitted k (within_back r k i);
  }
    where
      held_before : (k s : ℕ) → IsInside t' r k ⊎ HoldsBlock t' r s → IsInside t r k ⊎ HoldsBlock t r s
      held_before k s (inl i) = inl (inside_back r k i)
      held_before k s (inr x) = inr (holds_block_back r s x)

      edge : (k : ℕ) → EndsBlock t k → EndsBlock t' k
      edge k ends = record {
        block = ends.block;
        in_block = same_parent k ∙ ends.in_block;
        last = ap (λ z. last_of None (slice_index_or z ends.block [])) f.bodies ∙ ends.last;
        own_region = λ z j. same_block_parent z ∙ ends.own_region z (subst (In z) (same_successors k) j) ∙ sym (same_block_parent ends.block);
      }

      admitted : (k : ℕ) → IsWithin t r k → IsAdmitted m t' k
      admitted k i = elim (decide_in block (successors_of t k)) [
        | inl l ↦
            let a = (placed k).acts (user_branch k l) in
            shape_admitted m t' k a.0 (sym (op_kept t' u k refl refl refl refl) ∙ a.1.liveness) (subst (Admitted m) (shape_closed m u t' a.0 (sym (op_shows u k a.0 a.1.liveness).regions ∙ f.regions k ∙ no_regions k (user_branch k l)) a.1.branch) a.1.admitted)
        | inr n ↦
            let same = alone k n in
            admitted_same m t t' k (ap (λ z. z.head) same.0) (ap length same.1) (ap (λ z. length z.results) same.0) (ap length (same_successors k)) (ap (λ z. length z.regions) same.0) (y.admitted k i)
      ]

  -- where nothing used the argument, nothing uses it
  pub removed_unused : ((k : ℕ) → In v (operands_of t k) → ⊥) → (k : ℕ) → In v (operands_of u k) → ⊥
  removed_unused none k i =
      let p = slice_in (operands_of u k) v i in
      let y = operand_was k p.0 v p.1 in
      none k (in_slice (operands_of t k) y.0 v y.2)

  -- it is an argument no more
  pub removed_gone : (b i : ℕ) → slice_get (arguments_of t' b) i ≡ Some v → ⊥
  removed_gone b i e = elim (cases_eq b block) [
    | inl q ↦
        let there : In v (remove (arguments_of t block) index) = in_slice (remove (arguments_of t block) index) i v (ap (λ z. slice_get z i) (sym arguments_there) ∙ ap (λ z. slice_get (arguments_of t' z) i) (sym q) ∙ e) in
        let y = in_others (arguments_of t block) index v there in
        let s : Some (Argument block y.0) ≡ Some (Argument block index) = sym (w.joined.arguments block y.0 v y.2) ∙ w.joined.arguments block index v argument in
        y.1 (place s)
    | inr ne ↦
        let s : Some (Argument b i) ≡ Some (Argument block index) = sym (w.joined.arguments b i v (ap (λ z. slice_get z i) (sym (arguments_other b ne)) ∙ e)) ∙ w.joined.arguments block index v argument in
        ne (home s)
  ]
    where
      place : {l : ℕ} → Some (Argument block l) ≡ Some (Argument block index) → l ≡ index
      place s = cc

      home : {b i : ℕ} → Some (Argument b i) ≡ Some (Argument block index) → b ≡ block
      home s = cc

  -- only what is inside the root changes
  pub removed_inside : IsInsideChange t t' root
  removed_inside = change_of_kept t t' root w.joined same (λ x o. (live_back x o.0, λ i. o.1 (inside_forth root x i))) (λ b o. (subst IsSome (same_block_parent b) o.0, λ h. o.1 (holds_block_forth root b h)))
    where
      value : (x : ℕ) → IsValueOutside t root x → (q : Def) → definition_of t x ≡ Some q → IsMadeBy t x (Some q) → definition_of t' x ≡ definition_of t x
      value x o (Result k i) e s = w'.joined.results k i x (ap (λ z. slice_get z i) (same_results k) ∙ s) ∙ sym e
      value x o (Argument b i) e s = elim (cases_eq b block) [
        | inl q ↦ absurd (o.1 (subst (IsDefiningOperationInside t root) (sym e) (subst (HoldsBlock t root) (sym q) held)))
        | inr ne ↦ w'.joined.arguments b i x (ap (λ z. slice_get z i) (arguments_other b ne) ∙ s) ∙ sym e
      ]

      same : AreKeptOutside t t' root
      same = record {
        operations = λ x o.
            let a = alone x (λ i. o.1 (leads_inside x block i held)) in
            same_operation t t' root x a.0 a.1 (same_successors x) (same_parent x);
        blocks = λ b o. same_block t t' b (arguments_other b (λ e. o.1 (subst (HoldsBlock t root) (sym e) held))) (ap (λ z. slice_index_or z b []) f.bodies) (same_block_parent b);
        regions = λ r o. record { layout = ap (λ z. slice_index_or z r []) f.layouts; slot = ap (λ z. slice_get z r) f.slots };
        values = λ x o. let y = maker_is t x o.0 in value x o y.0 y.1 y.2;
      }

  -- regions, blocks and edges stay
  pub removed_regions : (k : ℕ) → regions_of t' k ≡ regions_of t k
  removed_regions k = f.regions k

  same_body : (b : ℕ) → body_of t' b ≡ body_of t b
  same_body b = ap (λ z. slice_index_or z b []) f.bodies

  pub removed_alike : EdgesAlike t t'
  removed_alike = record {
    grows = omega (arith, f.operations);
    regions = removed_regions;
    layouts = λ r. ap (λ z. slice_index_or z r []) f.layouts;
    successors = λ b. ap (λ ks. succs_from t' (last_of None ks)) (same_body b) ∙ succs (last_of None (body_of t b));
    bodies = λ b. ap (filter (λ k. has_regions t k)) (same_body b);
  }
    where
      succs : (o : Option ℕ) → succs_from t' o ≡ succs_from t o
      succs None = refl
      succs (Some k) = same_successors k
