-- Which places operands had before each edge to a block lost the one that it forwarded to an argument, and
-- which places the edges forward then.
use Rattle.std.proofs.Common.{◌≡◌, ◌≢◌, ◌⊎◌, inl, inr, ⊎_elim, ℕ, zero, suc, ◌<◌, Bool, true, false, nat_eq, if◌then◌else◌, List, [], ◌∷◌, length, map, Some, None, IsTrue, slice_get, remove, refl, sym, ap, ◌∙◌, subst, arith}
use Rattle.std.proofs.lemmas.Bool.{cases_eq, eq-eqb}
use Rattle.std.proofs.lemmas.List.{get_or-set_same}
use Rattle.pliron_core.proofs.TreeLemmas.{live-within}
use Rattle.std.specs.List.{range_with_len}
use Rattle.pliron_core.specs.declared.uses.Use.{Use}
use Rattle.pliron_core.specs.Tree.{Tree, In, IsLive, IsDistinct, row_of, operands_of, successors_of}
use Rattle.pliron_core.specs.Invariant.{IsTree}
use Rattle.pliron_core.proofs.HoldingLemmas.{some_is, in_slice, slice_in}
use Rattle.pliron_core.proofs.RemovalLemmas.{in_from-remove, in-remove_cases}
use Rattle.pliron_laws.specs.Datum.{Head, Shape, Meaning}
use Rattle.pliron_laws.specs.Tree.{Operation, op_at, shape_of}
use Rattle.pliron_laws.specs.Acting.{pick}
use Rattle.pliron_laws.specs.PlaceLaws.{pick_all}
use Rattle.pliron_laws.specs.Laws.{Admitted, fewer_operands, moved_up, LosesOperand, ForwardsOperands}
use Rattle.pliron_theory.specs.Dropping.{EdgesLose, AreEdgesTo}
use Rattle.pliron_laws.proofs.Records.{op_shows, operation_of}
use Rattle.pliron_theory.proofs.Keys.{not_is}
use Rattle.pliron_laws.proofs.ShapeLemmas.{shape_head}
use Rattle.pliron_theory.proofs.ShortenedBranches.{Among, lost, shape_operands, SameFrame, same_frame, Steps, Stays, Continues, steps, frame_step, Untouched, untouched, user_live, AreListed, loses_one, branch_less, shape_less, stands_less}
use Rattle.pliron_opt_dce.proofs.PlaceLists.{map_remove, remove_none, pick_moved, in_others, picked_at, picked_none, distinct_remove, distinct_gone, distinct_range, range_in, pick_range}

module _ (m : Meaning) (can_fold : Head → Bool) (SameTests : Head → Head → Type 0) (shortened : Shape → ℕ → ℕ → Head) (law : ForwardsOperands m can_fold SameTests shortened) (tests : (h h' : Head) → SameTests h h' → m.is_branch h' ≡ m.is_branch h) (t : Tree) (w : IsTree t) (block index : ℕ) where
  -- a branch that the dialect admits
  pub record IsBranchAt (k : ℕ) : Type 0 where
    pub operation : Operation
    pub liveness : op_at t k ≡ Some operation
    pub admitted : Admitted m (shape_of m t operation)
    pub branch : IsTrue (m.is_branch operation.head)

  -- the operands are those at these places; the edges in `done` lost the place that they forwarded to the
  -- argument, and each edge forwards the same places otherwise
  pub record PlacesStill (x : Tree) (k : ℕ) (now : Operation) (places done : List ℕ) (u : IsBranchAt k) : Type 0 where
    pub liveness : op_at x k ≡ Some now
    pub admitted : Admitted m (shape_of m x now)
    pub branch : IsTrue (m.is_branch now.head)
    pub lost : (i : ℕ) → In i done → pick (m.forwarded (shape_of m x now) i) places ≡ map Some (remove (m.forwarded (shape_of m t u.operation) i) index)
    pub same : (i : ℕ) → (In i done → ⊥) → pick (m.forwarded (shape_of m x now) i) places ≡ map Some (m.forwarded (shape_of m t u.operation) i)
    pub deleted : (i p : ℕ) → In i done → slice_get (m.forwarded (shape_of m t u.operation) i) index ≡ Some p → In p places → ⊥
    pub there : (p : ℕ) → p < length (operands_of t k) → In p places ⊎ ((i : ℕ) × In i done × (slice_get (m.forwarded (shape_of m t u.operation) i) index ≡ Some p))

  pub record Placed (x : Tree) (k : ℕ) (rest : List Use) : Type 0 where
    pub done : List ℕ
    pub sound : (i : ℕ) → In i done → slice_get (successors_of t k) i ≡ Some block
    pub pending : (i : ℕ) → slice_get (successors_of t k) i ≡ Some block → In i done ⊎ Among k i rest
    pub fresh : (i : ℕ) → Among k i rest → In i done → ⊥
    pub places : List ℕ
    pub distinct : IsDistinct places
    pub left : map Some (operands_of x k) ≡ pick places (operands_of t k)
    pub same : done ≡ [] → (row_of x k ≡ row_of t k) × (operands_of x k ≡ operands_of t k) × (places ≡ range_with_len 0 (length (operands_of t k)))
    pub acts : (u : IsBranchAt k) → (now : Operation) × PlacesStill x k now places done u

  still_untouched : (x x' : Tree) (k : ℕ) (now : Operation) (places done : List ℕ) (u : IsBranchAt k) → Untouched m can_fold SameTests shortened law tests t w block index x x' k → PlacesStill x k now places done u → PlacesStill x' k now places done u
  still_untouched x x' k now places done u c a = record {
    liveness = c.op ∙ a.liveness;
    admitted = subst (Admitted m) (sym (c.shape now)) a.admitted;
    branch = a.branch;
    lost = λ i d. ap (λ z. pick (m.forwarded z i) places) (c.shape now) ∙ a.lost i d;
    same = λ i n. ap (λ z. pick (m.forwarded z i) places) (c.shape now) ∙ a.same i n;
    deleted = a.deleted;
    there = a.there;
  }

  placed_other : (e : Use) (rest : List Use) (x x' : Tree) (k : ℕ) → k ≢ e.user → Untouched m can_fold SameTests shortened law tests t w block index x x' k → Placed x k (e ∷ rest) → Placed x' k rest
  placed_other e rest x x' k ne c r = record {
    done = r.done;
    sound = r.sound;
    pending = λ i s. later i (r.pending i s);
    fresh = λ i a. r.fresh i (suc a.0, a.1);
    places = r.places;
    distinct = r.distinct;
    left = ap (map Some) c.operands ∙ r.left;
    same = λ d. let y = r.same d in (c.row ∙ y.0, c.operands ∙ y.1, y.2);
    acts = λ u. let y = r.acts u in (y.0, still_untouched x x' k y.0 r.places r.done u c y.1);
  }
    where
      later : (i : ℕ) → In i r.done ⊎ Among k i (e ∷ rest) → In i r.done ⊎ Among k i rest
      later i (inl d) = inl d
      later i (inr (zero, q)) = absurd (ne (sym (ap (λ z. z.user) (some_is q))))
      later i (inr (suc n, q)) = inr (n, q)

  -- the operation of the edge
  module _ (e : Use) (rest : List Use) (x x' : Tree) (l : IsLive t e.user) (f : SameFrame m can_fold SameTests shortened law tests t w block index x) (listed : slice_get (successors_of t e.user) e.place ≡ Some block) (once : (n : ℕ) → slice_get rest n ≡ Some e → ⊥) (r : Placed x e.user (e ∷ rest)) where
    not_done : In e.place r.done → ⊥
    not_done d = r.fresh e.place (zero, refl) d

    module _ (u : IsBranchAt e.user) (o : Operation) (p : ℕ) (a : PlacesStill x e.user o r.places r.done u) (at : slice_get (m.forwarded (shape_of m x o) e.place) index ≡ Some p) (lt : p < length o.operands) where
      abbrev s : Shape
      s = shape_of m x o

      abbrev s0 : Shape
      s0 = shape_of m t u.operation

      abbrev h : Head
      h = shortened s e.place index

      abbrev next : Tree
      next = lost x e.user p h

      abbrev s' : Shape
      s' = shape_of m next (operation_of next e.user h)

      branch_shape : IsTrue (m.is_branch s.head)
      branch_shape = subst (λ z. IsTrue (m.is_branch z)) (sym (shape_head m x o)) a.branch

      loses : LosesOperand m SameTests s e.place index p h
      loses = loses_one m can_fold SameTests shortened law tests t w block index e x l f listed o p a.liveness a.admitted a.branch at lt

      shape_next : s' ≡ fewer_operands s h
      shape_next = shape_less m can_fold SameTests shortened law tests t w block index e x l f listed o p a.liveness a.admitted a.branch at lt

      edges_next : (i : ℕ) (b : Bool) → nat_eq i e.place ≡ b → m.forwarded s' i ≡ map (moved_up p) (if b then remove (m.forwarded s i) index else m.forwarded s i)
      edges_next i b q = ap (λ z. m.forwarded z i) shape_next ∙ loses.same_edges i ∙ ap (λ z. map (moved_up p) (if z then remove (m.forwarded s i) index else m.forwarded s i)) q

      -- the place that goes is forwarded nowhere else
      none_left : In p (remove (m.forwarded s e.place) index) → ⊥
      none_left i = let y = in_others (m.forwarded s e.place) index p i in y.1 (law.distinct s a.admitted branch_shape e.place e.place y.0 index p y.2 at).1

      not_there : (i : ℕ) → i ≢ e.place → In p (m.forwarded s i) → ⊥
      not_there i ne j = let y = slice_in (m.forwarded s i) p j in ne (law.distinct s a.admitted branch_shape i e.place y.0 index p y.1 at).0

      pick_own : (i : ℕ) → i ≡ e.place → pick (m.forwarded s' i) (remove r.places p) ≡ remove (pick (m.forwarded s i) r.places) index
      pick_own i q =
          ap (λ z. pick z (remove r.places p)) (edges_next i true (eq-eqb i e.place q))
          ∙ pick_moved (remove (m.forwarded s i) index) r.places p (λ j. none_left (subst (λ z. In p (remove (m.forwarded s z) index)) q j))
          ∙ map_remove (λ y. slice_get r.places y) (m.forwarded s i) index

      pick_other : (i : ℕ) → i ≢ e.place → pick (m.forwarded s' i) (remove r.places p) ≡ pick (m.forwarded s i) r.places
      pick_other i ne =
          ap (λ z. pick z (remove r.places p)) (edges_next i false (not_is i e.place (λ q. ne (sym q))))
          ∙ pick_moved (m.forwarded s i) r.places p (not_there i ne)

      -- the place of t that goes
      old : (q : ℕ) × (slice_get (m.forwarded s0 e.place) index ≡ Some q) × (slice_get r.places p ≡ Some q)
      old = picked_at (m.forwarded s e.place) r.places (m.forwarded s0 e.place) index p (a.same e.place not_done) at

      lost_next : (i : ℕ) → In i (e.place ∷ r.done) → pick (m.forwarded s' i) (remove r.places p) ≡ map Some (remove (m.forwarded s0 i) index)
      lost_next i (inl q) = pick_own i q ∙ ap (λ z. remove z index) (a.same i (λ d. not_done (subst (λ z. In z r.done) q d))) ∙ sym (map_remove Some (m.forwarded s0 i) index)
      lost_next i (inr d) = pick_other i (λ q. not_done (subst (λ z. In z r.done) q d)) ∙ a.lost i d

      gone_next : (i q : ℕ) → In i (e.place ∷ r.done) → slice_get (m.forwarded s0 i) index ≡ Some q → In q (remove r.places p) → ⊥
      gone_next i q (inl y) g j =
          let same : q ≡ old.0 = some_is (sym g ∙ ap (λ z. slice_get (m.forwarded s0 z) index) y ∙ old.1) in
          distinct_gone r.places p q r.distinct (old.2 ∙ ap Some (sym same)) j
      gone_next i q (inr d) g j = a.deleted i q d g (in_from-remove q r.places p j)

      there_next : (q : ℕ) → In q r.places ⊎ ((i : ℕ) × In i r.done × (slice_get (m.forwarded s0 i) index ≡ Some q)) → In q (remove r.places p) ⊎ ((i : ℕ) × In i (e.place ∷ r.done) × (slice_get (m.forwarded s0 i) index ≡ Some q))
      there_next q (inl i) = ⊎_elim (λ y. inr (e.place, inl refl, old.1 ∙ ap Some (some_is (sym old.2 ∙ y)))) (λ y. inl y) (in-remove_cases q r.places p i)
      there_next q (inr y) = inr (y.0, inr y.1, y.2)

      places_next : PlacesStill next e.user (operation_of next e.user h) (remove r.places p) (e.place ∷ r.done) u
      places_next = record {
        liveness = stands_less m can_fold SameTests shortened law tests t w block index e x l f listed o p a.liveness a.admitted a.branch at lt;
        admitted = subst (Admitted m) (sym shape_next) loses.admitted;
        branch = branch_less m can_fold SameTests shortened law tests t w block index e x l f listed o p a.liveness a.admitted a.branch at lt;
        lost = lost_next;
        same = λ i n. pick_other i (λ q. n (inl q)) ∙ a.same i (λ d. n (inr d));
        deleted = gone_next;
        there = λ q lq. there_next q (a.there q lq);
      }

    own_sound : (i : ℕ) → In i (e.place ∷ r.done) → slice_get (successors_of t e.user) i ≡ Some block
    own_sound i (inl q) = subst (λ z. slice_get (successors_of t e.user) z ≡ Some block) (sym q) listed
    own_sound i (inr d) = r.sound i d

    own_pending : (i : ℕ) → In i r.done ⊎ Among e.user i (e ∷ rest) → In i (e.place ∷ r.done) ⊎ Among e.user i rest
    own_pending i (inl d) = inl (inr d)
    own_pending i (inr (zero, q)) = inl (inl (sym (ap (λ z. z.place) (some_is q))))
    own_pending i (inr (suc n, q)) = inr (n, q)

    own_fresh : (i : ℕ) → Among e.user i rest → In i (e.place ∷ r.done) → ⊥
    own_fresh i a (inl q) = once a.0 (a.1 ∙ ap (λ z. Some (record { user = e.user; place = z })) q)
    own_fresh i a (inr d) = r.fresh i (suc a.0, a.1) d

    -- an edge that has no such place
    still_stays : (u : IsBranchAt e.user) (o : Operation) → PlacesStill x e.user o r.places r.done u → slice_get (m.forwarded (shape_of m x o) e.place) index ≡ None → PlacesStill x e.user o r.places (e.place ∷ r.done) u
    still_stays u o a none = record {
      liveness = a.liveness;
      admitted = a.admitted;
      branch = a.branch;
      lost = lost_same;
      same = λ i n. a.same i (λ d. n (inr d));
      deleted = gone_same;
      there = λ q lq. ⊎_elim (λ y. inl y) (λ y. inr (y.0, inr y.1, y.2)) (a.there q lq);
    }
      where
        none0 : slice_get (m.forwarded (shape_of m t u.operation) e.place) index ≡ None
        none0 = picked_none (m.forwarded (shape_of m x o) e.place) r.places (m.forwarded (shape_of m t u.operation) e.place) index (a.same e.place not_done) none

        lost_same : (i : ℕ) → In i (e.place ∷ r.done) → pick (m.forwarded (shape_of m x o) i) r.places ≡ map Some (remove (m.forwarded (shape_of m t u.operation) i) index)
        lost_same i (inl q) = a.same i (λ d. not_done (subst (λ z. In z r.done) q d)) ∙ ap (map Some) (sym (remove_none (m.forwarded (shape_of m t u.operation) i) index (ap (λ z. slice_get (m.forwarded (shape_of m t u.operation) z) index) q ∙ none0)))
        lost_same i (inr d) = a.lost i d

        gone_same : (i p : ℕ) → In i (e.place ∷ r.done) → slice_get (m.forwarded (shape_of m t u.operation) i) index ≡ Some p → In p r.places → ⊥
        gone_same i p (inl q) g j = let y : None ≡ Some p = sym none0 ∙ ap (λ z. slice_get (m.forwarded (shape_of m t u.operation) z) index) (sym q) ∙ g in absurd (cc)
        gone_same i p (inr d) g j = a.deleted i p d g j

    placed_own : Steps m can_fold SameTests shortened law tests t w block index e x x' → Placed x' e.user rest
    placed_own (Stays none same) = record {
      done = e.place ∷ r.done;
      sound = own_sound;
      pending = λ i s. own_pending i (r.pending i s);
      fresh = own_fresh;
      places = r.places;
      distinct = r.distinct;
      left = ap (λ z. map Some (operands_of z e.user)) same ∙ r.left;
      same = λ q. grind arith;
      acts = λ u. let a = r.acts u in (a.0, subst (λ z. PlacesStill z e.user a.0 r.places (e.place ∷ r.done) u) (sym same) (still_stays u a.0 a.1 (none a.0 a.1.liveness a.1.branch)));
    }
    placed_own (Continues o p oe at lt same) = record {
      done = e.place ∷ r.done;
      sound = own_sound;
      pending = λ i s. own_pending i (r.pending i s);
      fresh = own_fresh;
      places = remove r.places p;
      distinct = distinct_remove r.places p r.distinct;
      left = ap (λ z. map Some (operands_of z e.user)) same ∙ lefts;
      same = λ q. grind arith;
      acts = λ u.
          let a = r.acts u in
          let q : a.0 ≡ o = some_is (sym a.1.liveness ∙ oe) in
          (operation_of (lost x e.user p (shortened (shape_of m x o) e.place index)) e.user (shortened (shape_of m x o) e.place index), subst (λ z. PlacesStill z e.user (operation_of (lost x e.user p (shortened (shape_of m x o) e.place index)) e.user (shortened (shape_of m x o) e.place index)) (remove r.places p) (e.place ∷ r.done) u) (sym same) (places_next u o p (subst (λ z. PlacesStill x e.user z r.places r.done u) q a.1) at lt));
    }
      where
        lefts : map Some (operands_of (lost x e.user p (shortened (shape_of m x o) e.place index)) e.user) ≡ pick (remove r.places p) (operands_of t e.user)
        lefts =
            ap (map Some) (get_or-set_same x.operands e.user (remove (operands_of x e.user) p) [] bound)
            ∙ map_remove Some (operands_of x e.user) p
            ∙ ap (λ z. remove z p) r.left
            ∙ sym (map_remove (λ i. slice_get (operands_of t e.user) i) r.places p)
          where
            bound : e.user < length x.operands
            bound = let a = live-within t e.user l in omega (arith, a, f.operands, w.keys.operands)

  placed_step : (e : Use) (rest : List Use) (x x' : Tree) → IsLive t e.user → SameFrame m can_fold SameTests shortened law tests t w block index x → slice_get (successors_of t e.user) e.place ≡ Some block → ((n : ℕ) → slice_get rest n ≡ Some e → ⊥) → Steps m can_fold SameTests shortened law tests t w block index e x x' → (k : ℕ) → Placed x k (e ∷ rest) → Placed x' k rest
  placed_step e rest x x' l f listed once s k r = elim (cases_eq k e.user) [
    | inl q ↦ subst (λ z. Placed x' z rest) (sym q) (placed_own e rest x x' l f listed once (subst (λ z. Placed x z (e ∷ rest)) q r) s)
    | inr ne ↦ placed_other e rest x x' k ne (untouched m can_fold SameTests shortened law tests t w block index e x x' k l f ne s) r
  ]

  abbrev AreOnce : List Use → Type 0
  AreOnce edges = (n l : ℕ) (e : Use) → slice_get edges n ≡ Some e → slice_get edges l ≡ Some e → n ≡ l

  place_all : (edges : List Use) (x u : Tree) → AreListed m can_fold SameTests shortened law tests t w block index edges → AreOnce edges → EdgesLose m shortened index edges x u → SameFrame m can_fold SameTests shortened law tests t w block index x → (k : ℕ) → Placed x k edges → SameFrame m can_fold SameTests shortened law tests t w block index u × Placed u k []
  place_all [] x u listed once q f k r = (subst (SameFrame m can_fold SameTests shortened law tests t w block index) (sym q) f, subst (λ z. Placed z k []) (sym q) r)
  place_all (e ∷ rest) x u listed once q f k r =
      let here = listed 0 e refl in
      let l = user_live m can_fold SameTests shortened law tests t w block index e.user e.place here in
      let s = steps m can_fold SameTests shortened law tests t w block index e x q.0 (f.live e.user l) q.1 in
      place_all rest q.0 u (λ n. listed (suc n)) (λ n o z a b. apart n o (once (suc n) (suc o) z a b)) q.2 (frame_step m can_fold SameTests shortened law tests t w block index e x q.0 l f s) k (placed_step e rest x q.0 l f here (λ n a. never n (once 0 (suc n) e refl a)) s k r)
    where
      apart : (n o : ℕ) → suc n ≡ suc o → n ≡ o
      apart n o g = omega (arith, g)

      never : (n : ℕ) → 0 ≡ suc n → ⊥
      never n g = absurd (omega (arith, g))

  placed_start : (edges : List Use) → AreEdgesTo t block edges → (k : ℕ) → Placed t k edges
  placed_start edges to k = record {
    done = [];
    sound = λ i d. absurd d;
    pending = λ i s. inr (to.complete k i s);
    fresh = λ i a d. absurd d;
    places = range_with_len 0 (length (operands_of t k));
    distinct = distinct_range 0 (length (operands_of t k));
    left = sym (pick_all (operands_of t k) (length (operands_of t k)) refl);
    same = λ q. (refl, refl, refl);
    acts = λ u. (
      u.operation,
      record {
        liveness = u.liveness;
        admitted = u.admitted;
        branch = u.branch;
        lost = λ i d. absurd d;
        same = λ i n. pick_range (m.forwarded (shape_of m t u.operation) i) (length (operands_of t k)) (λ p j. subst (λ z. p < z) (shape_operands m t u.operation ∙ ap length (sym (op_shows t k u.operation u.liveness).operands)) (law.places (shape_of m t u.operation) u.admitted (subst (λ z. IsTrue (m.is_branch z)) (sym (shape_head m t u.operation)) u.branch) i p j));
        deleted = λ i p d. absurd d;
        there = λ p lt. inl (range_in 0 (length (operands_of t k)) p (omega arith) (omega (arith, lt)));
      },
    );
  }

  -- the tree in which each edge to the block lost its operand
  module _ (edges : List Use) (to : AreEdgesTo t block edges) (u : Tree) (lose : EdgesLose m shortened index edges t u) where
    pub placed_end : (k : ℕ) → SameFrame m can_fold SameTests shortened law tests t w block index u × Placed u k []
    placed_end k = place_all edges t u to.listed to.once lose (same_frame m can_fold SameTests shortened law tests t w block index) k (placed_start edges to k)

    -- the edges that lost are those to the block
    pub all_lost : (k i : ℕ) → slice_get (successors_of t k) i ≡ Some block → In i (placed_end k).1.done
    all_lost k i s = ⊎_elim (λ d. d) (λ a. nothing a.0 a.1) ((placed_end k).1.pending i s)
      where
        nothing : (n : ℕ) → slice_get {X = Use} [] n ≡ Some (record { user = k; place = i }) → In i (placed_end k).1.done
        nothing n e = grind arith

    pub none_lost : (k : ℕ) → (In block (successors_of t k) → ⊥) → (placed_end k).1.done ≡ []
    none_lost k n = go (placed_end k).1.done refl
      where
        go : (d : List ℕ) → (placed_end k).1.done ≡ d → (placed_end k).1.done ≡ []
        go [] q = q
        go (i ∷ is) q = absurd (n (in_slice (successors_of t k) i block ((placed_end k).1.sound i (subst (In i) (sym q) (inl refl)))))
