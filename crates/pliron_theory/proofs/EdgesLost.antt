-- What a loop over the edges to a block knows of the operands that they lost.
use Rattle.std.proofs.Common.{◌≡◌, ◌≢◌, ◌⊎◌, inl, inr, ℕ, zero, suc, ◌+◌, ◌<◌, ◌≤◌, add-one, Bool, true, false, true≢false, List, [], ◌∷◌, ◌++◌, length, take, Some, None, IsSome, IsTrue, slice_get, slice_index_or, refl, sym, ap, ◌∙◌, subst, arith}
use Rattle.std.proofs.lemmas.Bool.{cases_eq}
use Rattle.std.proofs.lemmas.Option.{slice_get_past, slice_get_within}
use Rattle.pliron_core.specs.declared.uses.Use.{Use}
use Rattle.pliron_core.specs.Tree.{Tree, IsLive, IsBlock, uses_of, head_of, successors_of}
use Rattle.pliron_core.specs.Invariant.{IsTree}
use Rattle.pliron_core.specs.Uses.{AreAgreed}
use Rattle.pliron_core.proofs.HoldingLemmas.{some_is, some_of, in_slice}
use Rattle.pliron_core.proofs.TreeLemmas.{cases_lt}
use Rattle.pliron_theory.proofs.SweptKeeps.{admitted_shape}
use Rattle.pliron_laws.specs.Datum.{Head, Shape, Meaning}
use Rattle.pliron_laws.specs.Tree.{Operation, op_at, shape_of}
use Rattle.pliron_laws.specs.Laws.{Admitted, ForwardsOperands}
use Rattle.pliron_laws.specs.Answers.{HasPlace, HeadPasses}
use Rattle.pliron_theory.specs.Dropping.{AreEdgesTo, EdgeLoses, Lacks, EdgesLose, AreOfBranches, GivePlaces}
use Rattle.pliron_laws.proofs.Records.{op_shows, operation_of, make_op}
use Rattle.pliron_laws.proofs.ShapeLemmas.{shape_head}
use Rattle.pliron_theory.proofs.Keys.{not_is}
use Rattle.pliron_theory.proofs.ShortenedBranches.{Among, lost, shape_operands, SameFrame, same_frame, Steps, Stays, Continues, steps, frame_step, untouched, user_live, AreListed, loses_one, branch_less, shape_less, stands_less, lengths_less}

-- the uses of a block are the edges to it
pub uses_are_edges : (t : Tree) (block_uses : List (List Use)) (block : ℕ) → AreAgreed t.successors block_uses → AreEdgesTo t block (uses_of block_uses block)
uses_are_edges t block_uses block a = record { listed = λ n e i. a.listed block n e i; once = λ n l e i j. a.once block n l e i j; complete = λ k i e. a.complete k i block e }

module _ (m : Meaning) (shortened : Shape → ℕ → ℕ → Head) (j : ℕ) where
  -- one more edge
  pub lose_next : (edges : List Use) (e : Use) (t u x : Tree) → EdgesLose m shortened j edges t u → EdgeLoses m shortened j e u x → EdgesLose m shortened j (edges ++ e ∷ []) t x
  lose_next [] e t u x q one = (x, subst (λ z. EdgeLoses m shortened j e z x) q one, refl)
  lose_next (f ∷ edges) e t u x q one = (q.0, q.1, lose_next edges e q.0 u x q.2 one)

at_index : (xs : List ℕ) (i : ℕ) → i < length xs → (x : ℕ) × (slice_get xs i ≡ Some x)
at_index [] i l = absurd (omega (arith, l))
at_index (x ∷ xs) zero l = (x, refl)
at_index (x ∷ xs) (suc i) l = at_index xs i (omega (arith, l))

-- an edge that has not lost yet can still lose
module _ (m : Meaning) (can_fold : Head → Bool) (SameTests : Head → Head → Type 0) (shortened : Shape → ℕ → ℕ → Head) (law : ForwardsOperands m can_fold SameTests shortened) (tests : (h h' : Head) → SameTests h h' → m.is_branch h' ≡ m.is_branch h) (t : Tree) (w : IsTree t) (block index : ℕ) where
  abbrev Frame : Tree → Type 0
  Frame x = SameFrame m can_fold SameTests shortened law tests t w block index x

  -- an admitted branch is still one, and forwards as much as before along edges that are not among these
  pub record IsStill (x u : Tree) (k : ℕ) (o : Operation) (edges : List Use) : Type 0 where
    pub now : Operation
    pub liveness : op_at u k ≡ Some now
    pub admitted : Admitted m (shape_of m u now)
    pub branch : IsTrue (m.is_branch now.head)
    pub lengths : (i : ℕ) → (Among k i edges → ⊥) → length (m.forwarded (shape_of m u now) i) ≡ length (m.forwarded (shape_of m x o) i)

  as_it_was : (x : Tree) (k : ℕ) (o : Operation) (edges : List Use) → op_at x k ≡ Some o → Admitted m (shape_of m x o) → IsTrue (m.is_branch o.head) → IsStill x x k o edges
  as_it_was x k o edges oe a b = record { now = o; liveness = oe; admitted = a; branch = b; lengths = λ i n. refl }

  still_own : (e : Use) (x x' : Tree) → IsLive t e.user → Frame x → slice_get (successors_of t e.user) e.place ≡ Some block → Steps m can_fold SameTests shortened law tests t w block index e x x' → (o : Operation) → op_at x e.user ≡ Some o → Admitted m (shape_of m x o) → IsTrue (m.is_branch o.head) → IsStill x x' e.user o (e ∷ [])
  still_own e x x' l f listed (Stays none same) o oe a b = subst (λ z. IsStill x z e.user o (e ∷ [])) (sym same) (as_it_was x e.user o (e ∷ []) oe a b)
  still_own e x x' l f listed (Continues o1 p oe1 at lt same) o oe a b = subst (λ z. IsStill x z e.user o (e ∷ [])) (sym same) (subst (λ y. IsStill x (deleted o1) e.user y (e ∷ [])) is_o (record {
    now = operation_of (deleted o1) e.user (shortened (shape_of m x o1) e.place index);
    liveness = stands_less m can_fold SameTests shortened law tests t w block index e x l f listed o1 p oe1 a1 b1 at lt;
    admitted = subst (Admitted m) (sym (shape_less m can_fold SameTests shortened law tests t w block index e x l f listed o1 p oe1 a1 b1 at lt)) (loses_one m can_fold SameTests shortened law tests t w block index e x l f listed o1 p oe1 a1 b1 at lt).admitted;
    branch = branch_less m can_fold SameTests shortened law tests t w block index e x l f listed o1 p oe1 a1 b1 at lt;
    lengths = λ i n. lengths_less m can_fold SameTests shortened law tests t w block index e x l f listed o1 p oe1 a1 b1 at lt i false (not_is i e.place (λ q. n (0, ap (λ z. Some (record { user = e.user; place = z })) q)));
  }))
    where
      deleted : Operation → Tree
      deleted y = lost x e.user p (shortened (shape_of m x y) e.place index)

      is_o : o1 ≡ o
      is_o = some_is (sym oe1 ∙ oe)

      a1 : Admitted m (shape_of m x o1)
      a1 = subst (λ y. Admitted m (shape_of m x y)) (sym is_o) a

      b1 : IsTrue (m.is_branch o1.head)
      b1 = subst (λ y. IsTrue (m.is_branch y.head)) (sym is_o) b

  still_one : (e : Use) (x x' : Tree) → IsLive t e.user → Frame x → slice_get (successors_of t e.user) e.place ≡ Some block → Steps m can_fold SameTests shortened law tests t w block index e x x' → (k : ℕ) (o : Operation) → op_at x k ≡ Some o → Admitted m (shape_of m x o) → IsTrue (m.is_branch o.head) → (k ≡ e.user) ⊎ (k ≢ e.user) → IsStill x x' k o (e ∷ [])
  still_one e x x' l f listed s k o oe a b (inl q) = subst (λ z. IsStill x x' z o (e ∷ [])) (sym q) (still_own e x x' l f listed s o (ap (op_at x) (sym q) ∙ oe) a b)
  still_one e x x' l f listed s k o oe a b (inr ne) =
      let c = untouched m can_fold SameTests shortened law tests t w block index e x x' k l f ne s in
      record { now = o; liveness = c.op ∙ oe; admitted = subst (Admitted m) (sym (c.shape o)) a; branch = b; lengths = λ i n. ap (λ z. length (m.forwarded z i)) (c.shape o) }

  still : (edges : List Use) (x u : Tree) → AreListed m can_fold SameTests shortened law tests t w block index edges → EdgesLose m shortened index edges x u → Frame x → (k : ℕ) (o : Operation) → op_at x k ≡ Some o → Admitted m (shape_of m x o) → IsTrue (m.is_branch o.head) → IsStill x u k o edges
  still [] x u listed q f k o oe a b = subst (λ z. IsStill x z k o []) (sym q) (as_it_was x k o [] oe a b)
  still (e ∷ rest) x u listed q f k o oe a b =
      let here = listed 0 e refl in
      let l = user_live m can_fold SameTests shortened law tests t w block index e.user e.place here in
      let s = steps m can_fold SameTests shortened law tests t w block index e x q.0 (f.live e.user l) q.1 in
      let y = still_one e x q.0 l f here s k o oe a b (cases_eq k e.user) in
      let z = still rest q.0 u (λ n. listed (suc n)) q.2 (frame_step m can_fold SameTests shortened law tests t w block index e x q.0 l f s) k y.now y.liveness y.admitted y.branch in
      record { now = z.now; liveness = z.liveness; admitted = z.admitted; branch = z.branch; lengths = λ i n. z.lengths i (λ c. n (suc c.0, c.1)) ∙ y.lengths i (λ c. n (first c.0 c.1)) }
    where
      first : {i : ℕ} (n : ℕ) → slice_get (e ∷ []) n ≡ Some (record { user = k; place = i }) → Among k i (e ∷ rest)
      first zero c = (zero, c)
      first (suc n) c = grind arith

  -- what stays as it was
  pub framed : (edges : List Use) (x u : Tree) → AreListed m can_fold SameTests shortened law tests t w block index edges → EdgesLose m shortened index edges x u → Frame x → Frame u
  framed [] x u listed q f = subst Frame (sym q) f
  framed (e ∷ rest) x u listed q f =
      let here = listed 0 e refl in
      let l = user_live m can_fold SameTests shortened law tests t w block index e.user e.place here in
      framed rest q.0 u (λ n. listed (suc n)) q.2 (frame_step m can_fold SameTests shortened law tests t w block index e x q.0 l f (steps m can_fold SameTests shortened law tests t w block index e x q.0 (f.live e.user l) q.1))

  -- a branch whose edges lost forwards as much as before along the others
  module _ (edges : List Use) (u : Tree) (listed : AreListed m can_fold SameTests shortened law tests t w block index edges) (q : EdgesLose m shortened index edges t u) (k i : ℕ) (o : Operation) (oe : op_at t k ≡ Some o) (admitted : Admitted m (shape_of m t o)) (is_branch : IsTrue (m.is_branch o.head)) (n : Among k i edges → ⊥) where
    after : IsStill t u k o edges
    after = still edges t u listed q (same_frame m can_fold SameTests shortened law tests t w block index) k o oe admitted is_branch

    pub branch_still : HeadPasses m.is_branch u k
    branch_still h e = subst (λ z. IsTrue (m.is_branch z)) (some_is (sym (op_shows u k after.now after.liveness).head ∙ e)) after.branch

    -- after these edges lost, an edge that is not among them has its place
    pub place_still : index < length (m.forwarded (shape_of m t o) i) → HasPlace m u k i index
    place_still lt x xe = has x (some_is (sym after.liveness ∙ xe))
      where
        place : (p : ℕ) × (slice_get (m.forwarded (shape_of m u after.now) i) index ≡ Some p)
        place = at_index (m.forwarded (shape_of m u after.now) i) index (subst (λ z. index < z) (sym (after.lengths i n)) lt)

        inner : place.0 < length after.now.operands
        inner = subst (λ z. place.0 < z) (shape_operands m u after.now) (law.places (shape_of m u after.now) after.admitted (subst (λ z. IsTrue (m.is_branch z)) (sym (shape_head m u after.now)) after.branch) i place.0 (in_slice (m.forwarded (shape_of m u after.now) i) index place.0 place.1))

        has : (x : Operation) → after.now ≡ x → (p : ℕ) × (slice_get (m.forwarded (shape_of m u x) i) index ≡ Some p) × (p < length x.operands)
        has x e = subst (λ z. (p : ℕ) × (slice_get (m.forwarded (shape_of m u z) i) index ≡ Some p) × (p < length z.operands)) e (place.0, place.1, inner)

    -- or still has none
    pub lack_still : length (m.forwarded (shape_of m t o) i) ≤ index → (x : Operation) → op_at u k ≡ Some x → IsTrue (m.is_branch x.head) → slice_get (m.forwarded (shape_of m u x) i) index ≡ None
    lack_still le x xe b = subst (λ z. slice_get (m.forwarded (shape_of m u z) i) index ≡ None) (some_is (sym after.liveness ∙ xe)) (slice_get_past (m.forwarded (shape_of m u after.now) i) index (subst (λ z. z ≤ index) (sym (after.lengths i n)) le))

-- the first items
take_at : {A : Type 0} (xs : List A) (i n : ℕ) (x : A) → slice_get (take i xs) n ≡ Some x → (n < i) × (slice_get xs n ≡ Some x)
take_at xs zero n x e = grind arith
take_at [] (suc i) n x e = grind arith
take_at (y ∷ ys) (suc i) zero x e = (omega arith, e)
take_at (y ∷ ys) (suc i) (suc n) x e = let r = take_at ys i n x e in (omega (arith, r.0), r.1)

take_more : {A : Type 0} (xs : List A) (i : ℕ) (x : A) → slice_get xs i ≡ Some x → take (suc i) xs ≡ take i xs ++ x ∷ []
take_more [] i x e = grind arith
take_more (y ∷ ys) zero x e = ap (λ z. z ∷ []) (some_is e)
take_more (y ∷ ys) (suc i) x e = ap (λ z. y ∷ z) (take_more ys i x e)

-- one turn of a loop over the edges to the block, at the edge e
module _ (m : Meaning) (can_fold : Head → Bool) (SameTests : Head → Head → Type 0) (shortened : Shape → ℕ → ℕ → Head) (law : ForwardsOperands m can_fold SameTests shortened) (tests : (h h' : Head) → SameTests h h' → m.is_branch h' ≡ m.is_branch h) (t : Tree) (w : IsTree t) (block index : ℕ) (edges : List Use) (to : AreEdgesTo t block edges) (x : Tree) (i : ℕ) (lost_some : EdgesLose m shortened index (take i edges) t x) where
  before_listed : AreListed m can_fold SameTests shortened law tests t w block index (take i edges)
  before_listed n e q = to.listed n e (take_at edges i n e q).1

  turn_frame : SameFrame m can_fold SameTests shortened law tests t w block index x
  turn_frame = framed m can_fold SameTests shortened law tests t w block index (take i edges) t x before_listed lost_some (same_frame m can_fold SameTests shortened law tests t w block index)

  pub turn_block : IsBlock t block → IsBlock x block
  turn_block b = subst (λ z. IsSome (slice_index_or z block None)) (sym turn_frame.block_parents) b

  module _ (e : Use) (at : slice_get edges i ≡ Some e) where
    not_yet : Among e.user e.place (take i edges) → ⊥
    not_yet a = let r = take_at edges i a.0 e a.1 in let q = to.once a.0 i e r.1 at in absurd (omega (arith, q, r.0))

    pub turn_edge : e.place < length (successors_of x e.user)
    turn_edge = slice_get_within (successors_of x e.user) e.place block (ap (λ z. slice_get (slice_index_or z e.user []) e.place) turn_frame.successors ∙ to.listed i e at)

    pub turn_next : (x' : Tree) → EdgeLoses m shortened index e x x' → EdgesLose m shortened index (take (i + 1) edges) t x'
    turn_next x' one = subst (λ z. EdgesLose m shortened index z t x') (sym (ap (λ n. take n edges) (add-one i) ∙ take_more edges i e at)) (lose_next m shortened index (take i edges) e t x x' lost_some one)

    module _ (branches : AreOfBranches m t edges) where
      head : (h : Head) × (head_of t e.user ≡ Some h)
      head = some_of (head_of t e.user) (user_live m can_fold SameTests shortened law tests t w block index e.user e.place (to.listed i e at))

      abbrev o : Operation
      o = operation_of t e.user head.0

      oe : op_at t e.user ≡ Some o
      oe = make_op t e.user head.0 head.1

      admitted : Admitted m (shape_of m t o)
      admitted = admitted_shape m t e.user o oe (branches i e at).0

      pub turn_branch : HeadPasses m.is_branch x e.user
      turn_branch = branch_still m can_fold SameTests shortened law tests t w block index (take i edges) x before_listed lost_some e.user e.place o oe admitted ((branches i e at).1 head.0 head.1) not_yet

      module _ (places : List Bool) (tell : GivePlaces m t index edges places) where
        pub turn_place : slice_get places i ≡ Some true → HasPlace m x e.user e.place index
        turn_place q = place_still m can_fold SameTests shortened law tests t w block index (take i edges) x before_listed lost_some e.user e.place o oe admitted ((branches i e at).1 head.0 head.1) not_yet ((tell i e true o at q oe).0 refl)

        pub turn_lacks : slice_get places i ≡ Some false → EdgeLoses m shortened index e x x
        turn_lacks q = Lacks (λ y ye b. lack_still m can_fold SameTests shortened law tests t w block index (take i edges) x before_listed lost_some e.user e.place o oe admitted ((branches i e at).1 head.0 head.1) not_yet (few (cases_lt index (length (m.forwarded (shape_of m t o) e.place)))) y ye b) refl
          where
            few : (index < length (m.forwarded (shape_of m t o) e.place)) ⊎ (length (m.forwarded (shape_of m t o) e.place) ≤ index) → length (m.forwarded (shape_of m t o) e.place) ≤ index
            few (inl lt) = absurd (true≢false (sym ((tell i e false o at q oe).1 lt)))
            few (inr le) = le
