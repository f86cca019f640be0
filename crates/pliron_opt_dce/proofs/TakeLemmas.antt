-- What is known of the edges to a block before they lose an operand.
use Rattle.std.proofs.Common.{◌≡◌, ◌⊎◌, inl, inr, ⊎_elim, ℕ, zero, suc, ◌+◌, ◌-◌, ◌<◌, ◌≤◌, Bool, true, false, take, List, [], ◌∷◌, ◌++◌, length, Option, Some, None, IsSome, is_some, IfSome, slice_get, slice_index_or, refl, sym, ap, ◌∙◌, subst, arith}
use Rattle.std.proofs.lemmas.Option.{slice_get_within}
use Rattle.std.proofs.lemmas.List.{length-append, take_all}
use Rattle.pliron_core.specs.declared.uses.Use.{Use as Edge}
use Rattle.pliron_core.specs.declared.context.Def.TheVariants.{Argument}
use Rattle.pliron_core.specs.Uses.{AreAgreed}
use Rattle.pliron_core.specs.Invariant.{IsTree}
use Rattle.pliron_core.specs.Writes.{argument_removed}
use Rattle.pliron_core.specs.Tree.{Tree, In, IsLive, IsBlock, IsInside, HoldsBlock, head_of, operands_of, successors_of, arguments_of, parent_operation_of, block_parent_operation_of, region_parent_of, up_from, uses_of}
use Rattle.pliron_core.proofs.ListLemmas.{decide_in}
use Rattle.pliron_core.proofs.HoldingLemmas.{some_is, some_of, in_slice, slice_in, inside_by, holder_by}
use Rattle.pliron_core.proofs.TreeLemmas.{cases_lt}
use Rattle.pliron_laws.specs.Datum.{Head, Shape, Meaning}
use Rattle.pliron_laws.specs.Laws.{Admitted, KeepsCounts, GivesAtOnce, ForwardsOperands}
use Rattle.pliron_laws.specs.Linked.{IsWellLinked}
use Rattle.pliron_theory.specs.Dropping.{AreEdgesTo, EdgeLoses, Lacks, EdgesLose, AreOfBranches}
use Rattle.pliron_theory.proofs.SweptKeeps.{admitted_shape}
use Rattle.pliron_theory.proofs.EdgesLost.{framed, place_still, lack_still, turn_next}
use Rattle.pliron_theory.proofs.ShortenedBranches.{Among, AreListed, SameFrame, same_frame, user_live}
use Rattle.pliron_opt_dce.specs.Erasing.{Removes}
use Rattle.pliron_opt_dce.specs.Incoming.{count_along, width, AreIncoming, AreForwardedTo, HavePlaces}
use Rattle.pliron_opt_dce.specs.Readiness.{IsReadyArgument, IsReadyOperation, AreRecorded, AreOperandsWithin}
use Rattle.pliron_core.specs.Erased.{after_erasing, IsSelfContained}
use Rattle.pliron_core.proofs.WithinLemmas.{within_is}
use Rattle.pliron_theory.proofs.ErasedKeeps.{op_erased, erased_swept}
use Rattle.pliron_laws.proofs.PassedLemmas.{ArePassed}
use Rattle.pliron_opt_dce.proofs.RemovedThins.{inside_live}
use Rattle.pliron_opt_dce.proofs.ReadySteps.{ready_contained}
use Rattle.pliron_opt_dce.proofs.Places.{IsBranchAt, Placed, placed_end, none_lost}
use Rattle.pliron_laws.specs.Tree.{Operation, op_at, shape_of}
use Rattle.pliron_laws.specs.Answers.{HasPlace, IsForwardedAt, HeadPasses}
use Rattle.pliron_laws.proofs.Records.{op_shows, operation_of, make_op}
use Rattle.pliron_opt_dce.proofs.PlaceLists.{picked_at, picked_from, picked_some, picked_past}

-- a list and one more item
at_end : {A : Type 0} (xs : List A) (x y : A) (i n : ℕ) → length xs ≡ n → slice_get (xs ++ x ∷ []) i ≡ Some y → ((i < n) × (slice_get xs i ≡ Some y)) ⊎ ((i ≡ n) × (x ≡ y))
at_end [] x y zero n l e = inr (l, some_is e)
at_end [] x y (suc i) n l e = absurd (cc)
at_end (z ∷ xs) x y zero n l e = inl (omega (arith, l), e)
at_end (z ∷ xs) x y (suc i) n l e = ⊎_elim (λ q. inl (omega (arith, q.0, l), q.1)) (λ q. inr (omega (arith, q.0, l), q.1)) (at_end xs x y i (length xs) refl e)

pub in_more : (x y : ℕ) (xs : List ℕ) → In x xs → In x (xs ++ y ∷ [])
in_more x y [] i = absurd i
in_more x y (z ∷ xs) (inl e) = inl e
in_more x y (z ∷ xs) (inr i) = inr (in_more x y xs i)

pub in_last : (y : ℕ) (xs : List ℕ) → In y (xs ++ y ∷ [])
in_last y [] = inl refl
in_last y (z ∷ xs) = inr (in_last y xs)

at_place : (xs : List ℕ) (i : ℕ) → i < length xs → (v : ℕ) × (slice_get xs i ≡ Some v)
at_place [] i l = absurd (omega (arith, l))
at_place (x ∷ xs) zero l = (x, refl)
at_place (x ∷ xs) (suc i) l = at_place xs i (omega (arith, l))

-- the first operands that edges forward, one by one
pub record AreForwardedSoFar (m : Meaning) (t : Tree) (index : ℕ) (edges : List Edge) (n : ℕ) (used : List ℕ) : Type 0 where
  pub count : length used ≡ n
  pub first : (i v : ℕ) (e : Edge) → slice_get used i ≡ Some v → slice_get edges i ≡ Some e → IsForwardedAt m t e.user e.place index (Some v)

pub forwarded_more : (m : Meaning) (t : Tree) (index : ℕ) (edges : List Edge) (n : ℕ) (used : List ℕ) (e : Edge) (v : ℕ) → AreForwardedSoFar m t index edges n used → slice_get edges n ≡ Some e → IsForwardedAt m t e.user e.place index (Some v) → AreForwardedSoFar m t index edges (n + 1) (used ++ v ∷ [])
forwarded_more m t index edges n used e v r here is = record {
  count = length-append used (v ∷ []) ∙ ap (λ z. z + 1) r.count;
  first = λ i x f q p. ⊎_elim (λ a. r.first i x f a.1 p) (λ a. subst (λ z. IsForwardedAt m t f.user f.place index (Some z)) a.1 (subst (λ z. IsForwardedAt m t z.user z.place index (Some v)) (some_is (sym here ∙ ap (slice_get edges) (sym a.0) ∙ p)) is)) (at_end used v x i n r.count q);
}

-- an edge behind all that were asked, or one that forwards nothing there and those behind it
pub forwarded_all : (m : Meaning) (t : Tree) (index : ℕ) (edges : List Edge) (n : ℕ) (used : List ℕ) → AreForwardedSoFar m t index edges n used → length edges ≤ n → n ≤ length edges → AreForwardedTo m t index edges used
forwarded_all m t index edges n used r l l2 = record {
  within = let c = r.count in omega (arith, c, l2);
  first = r.first;
  none = λ i e a q. let b = slice_get_within edges i e q in let c = r.count in absurd (omega (arith, a, b, c, l));
}

pub forwarded_here : (m : Meaning) (t : Tree) (block index : ℕ) (edges : List Edge) (n : ℕ) (used : List ℕ) (e : Edge) → AreIncoming m t block edges → AreForwardedSoFar m t index edges n used → slice_get edges n ≡ Some e → IsForwardedAt m t e.user e.place index None → IsLive t e.user → AreForwardedTo m t index edges used
forwarded_here m t block index edges n used e x r here is l = record {
  within = let b = slice_get_within edges n e here in let c = r.count in omega (arith, b, c);
  first = r.first;
  none = λ i f a q. let c = r.count in ⊎_elim (λ lt. let z = x.falling n i e f lt here q in omega (arith, z, few)) (λ le. let same : i ≡ n = omega (arith, le, a, c) in subst (λ z. width m t z ≤ index) (some_is (sym here ∙ ap (slice_get edges) (sym same) ∙ q)) few) (cases_lt n i);
}
  where
    few : width m t e ≤ index
    few =
        let h = some_of (head_of t e.user) l in
        let o = operation_of t e.user h.0 in
        let oe = make_op t e.user h.0 h.1 in
        subst (λ z. z ≤ index) (ap (count_along m t e.place) (sym oe)) (picked_past (m.forwarded (shape_of m t o) e.place) o.operands index (is o oe))

-- which edges have the place
pub have_places : (m : Meaning) (t : Tree) (index : ℕ) (edges : List Edge) (used : List ℕ) → ((i : ℕ) (e : Edge) → slice_get edges i ≡ Some e → IsLive t e.user) → AreForwardedTo m t index edges used → HavePlaces m t index edges (length used)
have_places m t index edges used live r = record {
  first = λ i e l q.
      let v = at_place used i l in
      let h = some_of (head_of t e.user) (live i e q) in
      let o = operation_of t e.user h.0 in
      let oe = make_op t e.user h.0 h.1 in
      let y = picked_some (m.forwarded (shape_of m t o) e.place) o.operands index v.0 (r.first i v.0 e v.1 q o oe) in
      subst (λ z. index < z) (ap (count_along m t e.place) (sym oe)) (slice_get_within (m.forwarded (shape_of m t o) e.place) index y.0 y.1);
  none = r.none;
}

-- a ready argument of a block: what its removal asks and leaves
module _ (m : Meaning) (can_fold : Head → Bool) (SameTests : Head → Head → Type 0) (shortened : Shape → ℕ → ℕ → Head) (law : ForwardsOperands m can_fold SameTests shortened) (tests : (h h' : Head) → SameTests h h' → m.is_branch h' ≡ m.is_branch h) (removable : Head → ℕ → Bool → Option Bool) (t : Tree) (edges : List Edge) (root block index v : ℕ) (w : IsTree t) (to : AreEdgesTo t block edges) (linked : IsWellLinked m t root) (argument : slice_get (arguments_of t block) index ≡ Some v) (r : IsReadyArgument m removable t root v) where
  one_block : r.may.block ≡ block
  one_block = let s : Some (Argument r.may.block r.may.index) ≡ Some (Argument block index) = sym (w.joined.arguments r.may.block r.may.index v r.may.argument) ∙ w.joined.arguments block index v argument in cc

  held : HoldsBlock t root block
  held = subst (HoldsBlock t root) one_block r.may.inside

  branches : (k : ℕ) → In block (successors_of t k) → HeadPasses m.is_branch t k
  branches = subst (λ z. (k : ℕ) → In z (successors_of t k) → HeadPasses m.is_branch t k) one_block r.may.branches

  leads : (i : ℕ) (e : Edge) → slice_get edges i ≡ Some e → In block (successors_of t e.user)
  leads i e s = in_slice (successors_of t e.user) e.place block (to.listed i e s)

  -- who leads to the block stands where the block stands
  beside : (k p : ℕ) → In block (successors_of t k) → block_parent_operation_of t block ≡ Some p → parent_operation_of t k ≡ Some p
  beside k p i q =
      let ends = linked.edges k block i (inr held) in
      holder_by t k ends.block p ends.in_block (ap (λ o. up_from o (λ z. region_parent_of t z)) (sym (ends.own_region block i)) ∙ q)

  inside : (k : ℕ) → In block (successors_of t k) → IsInside t root k
  inside k i = inside_by held.0 (beside k held.0 i held.1) held.2

  pub edge_live : (i : ℕ) (e : Edge) → slice_get edges i ≡ Some e → IsLive t e.user
  edge_live i e s = (inside_live t w.joined (inside e.user (leads i e s))).1

  pub edge_branch : (i : ℕ) (e : Edge) → slice_get edges i ≡ Some e → HeadPasses m.is_branch t e.user
  edge_branch i e s = branches e.user (leads i e s)

  pub edge_place : (i : ℕ) (e : Edge) → slice_get edges i ≡ Some e → e.place < length (successors_of t e.user)
  edge_place i e s = slice_get_within (successors_of t e.user) e.place block (to.listed i e s)

  pub are_of_branches : AreOfBranches m t edges
  are_of_branches n e s = (linked.admitted e.user (inr (inside e.user (leads n e s))), edge_branch n e s)

  module _ (u : Tree) (lose : EdgesLose m shortened index edges t u) where
    abbrev f : SameFrame m can_fold SameTests shortened law tests t w block index u
    f = (placed_end m can_fold SameTests shortened law tests t w block index edges to u lose 0).0

    abbrev placed : (k : ℕ) → Placed m can_fold SameTests shortened law tests t w block index u k []
    placed k = (placed_end m can_fold SameTests shortened law tests t w block index edges to u lose k).1

    pub lost_block : IsBlock t block → IsBlock u block
    lost_block b = subst (λ z. IsSome (slice_index_or z block None)) (sym f.block_parents) b

    pub lost_arguments : arguments_of u block ≡ arguments_of t block
    lost_arguments = ap (λ z. slice_index_or z block []) f.arguments

    lost_unused : (k : ℕ) → In v (operands_of u k) → ⊥
    lost_unused k i =
        let p = slice_in (operands_of u k) v i in
        let y = picked_from (placed k).places (operands_of t k) (operands_of u k) p.0 v (sym (placed k).left) p.1 in
        r.none k (in_slice (operands_of t k) y.0 v y.2)

    pub lost_no_uses : (value_uses : List (List Edge)) → AreAgreed u.operands value_uses → uses_of value_uses v ≡ []
    lost_no_uses value_uses a = go (uses_of value_uses v) refl
      where
        go : (xs : List Edge) → uses_of value_uses v ≡ xs → uses_of value_uses v ≡ []
        go [] e = e
        go (x ∷ xs) e = absurd (lost_unused x.user (in_slice (operands_of u x.user) x.place v (a.listed v 0 x (ap (λ z. slice_get z 0) e))))

    pub removes : Removes m shortened t (argument_removed u block index) v
    removes = record { block = block; index = index; argument = argument; edges = edges; complete = to; between = u; lose = lose; removed = refl }

    used_at : (used : List ℕ) → AreForwardedTo m t index edges used → (i p x : ℕ) (e : Edge) (o : Operation) → slice_get edges i ≡ Some e → op_at t e.user ≡ Some o → slice_get (m.forwarded (shape_of m t o) e.place) index ≡ Some p → slice_get (operands_of t e.user) p ≡ Some x → In x used
    used_at used accurate i p x e o q oe fw op = ⊎_elim
        (λ l.
        let v = at_place used i l in
        let y = picked_some (m.forwarded (shape_of m t o) e.place) o.operands index v.0 (accurate.first i v.0 e v.1 q o oe) in
        let place : p ≡ y.0 = some_is (sym fw ∙ y.1) in
        let same : x ≡ v.0 = some_is (sym op ∙ ap (slice_get (operands_of t e.user)) place ∙ ap (λ z. slice_get z y.0) (op_shows t e.user o oe).operands ∙ y.2) in
        subst (λ z. In z used) (sym same) (in_slice used i v.0 v.1))
        (λ l.
        let few : length (m.forwarded (shape_of m t o) e.place) ≤ index = subst (λ z. z ≤ index) (ap (count_along m t e.place) oe) (accurate.none i e l q) in
        let many = slice_get_within (m.forwarded (shape_of m t o) e.place) index p fw in
        absurd (omega (arith, few, many)))
        (cases_lt i (length used))

    pub noted : (used : List ℕ) → AreForwardedTo m t index edges used → AreRecorded t (argument_removed u block index) used
    noted used accurate user x i = elim (decide_in block (successors_of t user)) [
      | inl j ↦ own j
      | inr n ↦ inr (subst (In x) (sym ((placed user).same (none_lost m can_fold SameTests shortened law tests t w block index edges to u lose user n)).1) i)
    ]
      where
        own : In block (successors_of t user) → In x used ⊎ In x (operands_of u user)
        own j =
            let l = some_of (head_of t user) (user_live m can_fold SameTests shortened law tests t w block index user (slice_in (successors_of t user) block j).0 (slice_in (successors_of t user) block j).1) in
            let o = operation_of t user l.0 in
            let oe = make_op t user l.0 l.1 in
            let b : IsBranchAt m can_fold SameTests shortened law tests t w block index user = record { operation = o; liveness = oe; admitted = admitted_shape m t user o oe (linked.admitted user (inr (inside user j))); branch = branches user j l.0 l.1 } in
            let a = (placed user).acts b in
            let p = slice_in (operands_of t user) x i in
            ⊎_elim
            (λ q.
            let y = slice_in (placed user).places p.0 q in
            let z = picked_at (placed user).places (operands_of t user) (operands_of u user) y.0 p.0 (sym (placed user).left) y.1 in
            inr (in_slice (operands_of u user) y.0 x (z.1 ∙ sym z.2 ∙ p.1)))
            (λ q.
            let n = to.complete user q.0 ((placed user).sound q.0 q.1) in
            inl (used_at used accurate n.0 p.0 x (record { user = user; place = q.0 }) o n.1 oe q.2 p.1))
            (a.1.there p.0 (slice_get_within (operands_of t user) p.0 x p.1))

pub argument_at : (t : Tree) (block index : ℕ) → index < length (arguments_of t block) → (v : ℕ) × (slice_get (arguments_of t block) index ≡ Some v)
argument_at t block index l = at_place (arguments_of t block) index l

pub told_if_some : {A : Type 0} {o : Option A} {x : A} (P : A → Type 0) → o ≡ Some x → P x → IfSome o P
told_if_some P e p = subst (λ z. IfSome z P) (sym e) p

-- the operands of the operation are among these values
abbrev pub HasOperands : Tree → List ℕ → ℕ → Type 0
HasOperands t values k = (v : ℕ) → In v (operands_of t k) → In v values

pub in_front : (x : ℕ) (xs ys : List ℕ) → In x xs → In x (xs ++ ys)
in_front x [] ys i = absurd i
in_front x (y ∷ xs) ys (inl e) = inl e
in_front x (y ∷ xs) ys (inr i) = inr (in_front x xs ys i)

pub in_back : (x : ℕ) (xs ys : List ℕ) → In x ys → In x (xs ++ ys)
in_back x [] ys i = i
in_back x (y ∷ xs) ys i = inr (in_back x xs ys i)

pub passed_more : (t : Tree) (xs : List ℕ) (at : Option ℕ) (old new : List ℕ) → ((v : ℕ) → In v old → In v new) → ArePassed (λ k. HasOperands t old k) xs at → ArePassed (λ k. HasOperands t new k) xs at
passed_more t xs at old new kept p x i = ⊎_elim (λ j. inl j) (λ h. inr (λ v j. kept v (h v j))) (p x i)

-- a ready operation goes
module _ (m : Meaning) (side_effects : Head → Option Bool) (t : Tree) (root op : ℕ) (w : IsTree t) (linked : IsWellLinked m t root) (counts : KeepsCounts m) (removable : Head → ℕ → Bool → Option Bool) (free : GivesAtOnce m side_effects) (r : IsReadyOperation m side_effects t root op) where
  pub op_live : IsLive t op
  op_live = (inside_live t w.joined r.may.inside).1

  pub op_contained : IsSelfContained t op
  op_contained = ready_contained m side_effects removable counts free t root w linked op r.may r.none

  pub op_noted : (used : List ℕ) → AreOperandsWithin t op used → AreRecorded t (after_erasing t op) used
  op_noted used all user x i = go (op_erased t op user) refl
    where
      go : (b : Bool) → op_erased t op user ≡ b → In x used ⊎ In x (operands_of (after_erasing t op) user)
      go true d = inl (all user x (within_is t op user d) i)
      go false l = inr (subst (In x) (sym ((erased_swept t op w op_live op_contained).operands user l)) i)

take_at : {A : Type 0} (xs : List A) (i n : ℕ) (x : A) → slice_get (take i xs) n ≡ Some x → (n < i) × (slice_get xs n ≡ Some x)
take_at xs zero n x e = grind arith
take_at [] (suc i) n x e = grind arith
take_at (y ∷ ys) (suc i) zero x e = (omega arith, e)
take_at (y ∷ ys) (suc i) (suc n) x e = let r = take_at ys i n x e in (omega (arith, r.0), r.1)

-- the edges behind the first ones have nothing to lose
module _ (m : Meaning) (can_fold : Head → Bool) (SameTests : Head → Head → Type 0) (shortened : Shape → ℕ → ℕ → Head) (law : ForwardsOperands m can_fold SameTests shortened) (tests : (h h' : Head) → SameTests h h' → m.is_branch h' ≡ m.is_branch h) (t : Tree) (w : IsTree t) (block index : ℕ) (edges : List Edge) (to : AreEdgesTo t block edges) (branches : AreOfBranches m t edges) (count : ℕ) (places : HavePlaces m t index edges count) where
  -- what is known of the edge at n, when those before it have lost
  module _ (x : Tree) (n : ℕ) (before : EdgesLose m shortened index (take n edges) t x) (e : Edge) (at : slice_get edges n ≡ Some e) where
    listed : AreListed m can_fold SameTests shortened law tests t w block index (take n edges)
    listed i f q = to.listed i f (take_at edges n i f q).1

    not_yet : Among e.user e.place (take n edges) → ⊥
    not_yet a = let r = take_at edges n a.0 e a.1 in let q = to.once a.0 n e r.1 at in absurd (omega (arith, q, r.0))

    head : (h : Head) × (head_of t e.user ≡ Some h)
    head = some_of (head_of t e.user) (user_live m can_fold SameTests shortened law tests t w block index e.user e.place (to.listed n e at))

    abbrev o : Operation
    o = operation_of t e.user head.0

    oe : op_at t e.user ≡ Some o
    oe = make_op t e.user head.0 head.1

    admitted : Admitted m (shape_of m t o)
    admitted = admitted_shape m t e.user o oe (branches n e at).0

    width_is : width m t e ≡ length (m.forwarded (shape_of m t o) e.place)
    width_is = ap (count_along m t e.place) oe

    pub lost_live : IsLive x e.user
    lost_live = (framed m can_fold SameTests shortened law tests t w block index (take n edges) t x listed before (same_frame m can_fold SameTests shortened law tests t w block index)).live e.user (user_live m can_fold SameTests shortened law tests t w block index e.user e.place (to.listed n e at))

    pub place_there : n < count → HasPlace m x e.user e.place index
    place_there l = place_still m can_fold SameTests shortened law tests t w block index (take n edges) x listed before e.user e.place o oe admitted ((branches n e at).1 head.0 head.1) not_yet (subst (λ z. index < z) width_is (places.first n e l at))

    pub lacks_there : count ≤ n → EdgeLoses m shortened index e x x
    lacks_there l = Lacks (λ y ye b. lack_still m can_fold SameTests shortened law tests t w block index (take n edges) x listed before e.user e.place o oe admitted ((branches n e at).1 head.0 head.1) not_yet (subst (λ z. z ≤ index) width_is (places.none n e l at)) y ye b) refl

  rest_lacks : (x : Tree) (d : ℕ) → count + d ≤ length edges → EdgesLose m shortened index (take count edges) t x → EdgesLose m shortened index (take (count + d) edges) t x
  rest_lacks x zero l q = subst (λ z. EdgesLose m shortened index (take z edges) t x) (omega arith) q
  rest_lacks x (suc d) l q =
      let inner = rest_lacks x d (omega (arith, l)) q in
      let e = edge_at_place edges (count + d) (omega (arith, l)) in
      subst (λ z. EdgesLose m shortened index (take z edges) t x) (omega arith) (turn_next m can_fold SameTests shortened law tests t w block index edges to x (count + d) inner e.0 e.1 x (lacks_there x (count + d) inner e.0 e.1 (omega arith)))
    where
      edge_at_place : (xs : List Edge) (i : ℕ) → i < length xs → (e : Edge) × (slice_get xs i ≡ Some e)
      edge_at_place [] i l = absurd (omega (arith, l))
      edge_at_place (y ∷ ys) zero l = (y, refl)
      edge_at_place (y ∷ ys) (suc i) l = edge_at_place ys i (omega (arith, l))

  pub all_lose : (x : Tree) → count ≤ length edges → EdgesLose m shortened index (take count edges) t x → EdgesLose m shortened index edges t x
  all_lose x l q =
      let whole : count + (length edges - count) ≡ length edges = omega (arith, l) in
      subst (λ z. EdgesLose m shortened index z t x) (ap (λ n. take n edges) whole ∙ take_all (length edges) edges (omega arith)) (rest_lacks x (length edges - count) (omega (arith, l)) q)

-- what leads to a block stands
pub leads_live : (t : Tree) (w : IsTree t) (k i b : ℕ) → slice_get (successors_of t k) i ≡ Some b → IsLive t k
leads_live t w k i b s = go (head_of t k) refl
  where
    go : (h : Option Head) → head_of t k ≡ h → IsLive t k
    go None e = absurd (subst (In b) (w.joined.erased k e).1 (in_slice (successors_of t k) i b s))
    go (Some h) e = ap is_some e
