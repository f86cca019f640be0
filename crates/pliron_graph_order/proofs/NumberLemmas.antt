-- Numbers stay as operations and regions come behind.
use Rattle.std.proofs.Common.{◌≡◌, ◌≢◌, ◌⊎◌, ◌↔◌, ℕ, suc, ◌<◌, ◌≤◌, ◌+◌, Bool, true, false, nat_eq, ◌&&◌, List, [], ◌∷◌, ◌++◌, length, get_or, take, zero, Option, Some, IsTrue, refl, sym, ap, ◌∙◌, subst, inl, inr, ⊎_elim, arith, append-nil, append_assoc, length-append}
use Rattle.std.specs.List.{list_any}
use Rattle.std.proofs.lemmas.Bool.{cases_Bool, eq-eqb, false≢true, or_cases}
use Rattle.std.specs.List.{slice_get}
use Rattle.std.proofs.lemmas.Option.{slice_get_within, get_or_from_slice_get}
use Rattle.std.proofs.lemmas.List.{get_or_append_left, take_more}
use Rattle.std.proofs.Math.Seq.{get_or-append_seam}
use Rattle.pliron_core.specs.Tree.{Tree, In}
use Rattle.pliron_graph_traversal.specs.Internal.RegionLawful.{same_key}
use Rattle.pliron_core.proofs.ListLemmas.{In-left, In-right, In-cases}
use Rattle.pliron_graph_dominance.specs.Candidates.{IsOnWayUp, Here, Above}
use Rattle.pliron_graph_dominance.specs.ParentTables.{parent_by, AreParents}
use Rattle.pliron_graph_dominance.proofs.TableLemmas.{decide, within, above_early, up_one}
use Rattle.pliron_rewrite_equals.specs.OperationDominance.{DominatesOperation}
use Rattle.pliron_graph_order.specs.Numbering.{NumberTables, IsAbove, GivesBefore, IsBeforeHolder, IsWaiting, IsNumbering, NumbersGrow, IsStart, AddsOperation, AddsRegion, IsLeftAt, AreTaken, IsDone}
use Rattle.pliron_graph_order.specs.Seen.{IsSeen, IsVisitedFrom}
use Rattle.pliron_graph_order.specs.Behind.{IsBehind}

-- what a set of keys tells of its members
pub tested_in : (xs : List ℕ) (k : ℕ) → list_any (λ y. nat_eq k y && true) xs ≡ true → In k xs
tested_in [] k e = absurd (false≢true e)
tested_in (x ∷ xs) k e = elim (or_cases (nat_eq k x && true) (list_any (λ y. nat_eq k y && true) xs) e) [ inl h ↦ inl (same_key k x h) | inr h ↦ inr (tested_in xs k h) ]

in_tested : (xs : List ℕ) (k : ℕ) → In k xs → list_any (λ y. nat_eq k y && true) xs ≡ true
in_tested [] k i = absurd i
in_tested (x ∷ xs) k (inl e) = rw (eq-eqb k x e) refl
in_tested (x ∷ xs) k (inr i) = elim (cases_Bool (nat_eq k x)) [ inl h ↦ rw h refl | inr h ↦ rw h (in_tested xs k i) ]

pub not_tested : (xs : List ℕ) (k : ℕ) → list_any (λ y. nat_eq k y && true) xs ≡ false → In k xs → ⊥
not_tested xs k e i = false≢true (sym e ∙ in_tested xs k i)

-- the next item of a list
pub take_next : (xs : List ℕ) (i x : ℕ) → slice_get xs i ≡ Some x → take (i + 1) xs ≡ take i xs ++ x ∷ []
take_next xs i x at = take_more xs i x (slice_get_within xs i x at) ∙ ap (λ z. take i xs ++ z ∷ []) (get_or_from_slice_get xs i x x at)

pub take_item : (xs : List ℕ) (i x : ℕ) → i < length xs → x ≡ get_or xs i x → take (i + 1) xs ≡ take i xs ++ x ∷ []
take_item xs i x l e = take_more xs i x l ∙ ap (λ z. take i xs ++ z ∷ []) (sym e)

pub item_here : (xs : List ℕ) (i x : ℕ) → i < length xs → x ≡ get_or xs i x → In x xs
item_here [] i x l e = absurd (omega (arith, l))
item_here (y ∷ ys) zero x l e = inl e
item_here (y ∷ ys) (suc i) x l e = inr (item_here ys i x (omega (arith, l)) e)

pub at_in : (xs : List ℕ) (i : ℕ) → i < length xs → In (get_or xs i 0) xs
at_in [] i l = absurd (omega (arith, l))
at_in (x ∷ xs) zero l = inl refl
at_in (x ∷ xs) (suc i) l = inr (at_in xs i (omega (arith, l)))

pub item_split : (xs : List ℕ) (i x : ℕ) → i < length xs → x ≡ get_or xs i x → (rest : List ℕ) × (xs ≡ take i xs ++ x ∷ rest)
item_split [] i x l e = absurd (omega (arith, l))
item_split (y ∷ ys) zero x l e = (ys, ap (λ z. z ∷ ys) (sym e))
item_split (y ∷ ys) (suc i) x l e = let r = item_split ys i x (omega (arith, l)) e in (r.0, ap (λ z. y ∷ z) r.1)

pub not_true : (b : Bool) → (IsTrue b → ⊥) → b ≡ false
not_true true n = absurd (n refl)
not_true false n = refl

-- two tables that agree on the first numbers have the same ways up from them
pub transfer : (f g : ℕ → ℕ) (n : ℕ) → ((v : ℕ) → v < n → g v ≡ f v) → ((v : ℕ) → v < n → f v < n) → (i v : ℕ) → v < n → IsOnWayUp g i v → IsOnWayUp f i v
transfer f g n same stays i v l Here = Here
transfer f g n same stays i v l (Above k) = Above (subst (IsOnWayUp f i) (same v l) (transfer f g n same stays i (g v) (subst (λ z. z < n) (sym (same v l)) (stays v l)) k))

pub get_front : (xs ys zs : List ℕ) (i : ℕ) → zs ≡ xs ++ ys → i < length xs → get_or zs i 0 ≡ get_or xs i 0
get_front xs ys zs i e l = ap (λ z. get_or z i 0) e ∙ get_or_append_left xs ys 0 i l

pub longer : (xs ys zs : List ℕ) → zs ≡ xs ++ ys → length xs ≤ length zs
longer xs ys zs e = omega (arith, ap length e, length-append xs ys)

pub grows_none : (n : NumberTables) → NumbersGrow n n
grows_none n = record { root = refl; ops = ([], sym (append-nil n.ops)); parents = ([], sym (append-nil n.parents)); regions = ([], sym (append-nil n.regions)) }

joined : (a b c xs ys : List ℕ) → b ≡ a ++ xs → c ≡ b ++ ys → c ≡ a ++ (xs ++ ys)
joined a b c xs ys e f = f ∙ ap (λ z. z ++ ys) e ∙ append_assoc a xs ys

pub grows_both : (a b c : NumberTables) → NumbersGrow a b → NumbersGrow b c → NumbersGrow a c
grows_both a b c g h = record {
  root = h.root ∙ g.root;
  ops = (g.ops.0 ++ h.ops.0, joined a.ops b.ops c.ops g.ops.0 h.ops.0 g.ops.1 h.ops.1);
  parents = (g.parents.0 ++ h.parents.0, joined a.parents b.parents c.parents g.parents.0 h.parents.0 g.parents.1 h.parents.1);
  regions = (g.regions.0 ++ h.regions.0, joined a.regions b.regions c.regions g.regions.0 h.regions.0 g.regions.1 h.regions.1);
}

pub ops_kept : (a b : NumberTables) → NumbersGrow a b → (k : ℕ) → In k a.ops → In k b.ops
ops_kept a b g k i = subst (In k) (sym g.ops.1) (In-left k a.ops g.ops.0 i)

pub regions_kept : (a b : NumberTables) → NumbersGrow a b → (k : ℕ) → In k a.regions → In k b.regions
regions_kept a b g k i = subst (In k) (sym g.regions.1) (In-left k a.regions g.regions.0 i)

module _ (t : Tree) (old new : NumberTables) (g : NumbersGrow old new) (counted : length old.parents ≡ suc (length old.ops)) (p : AreParents old.parents) where
  get_ops : (j : ℕ) → j < length old.ops → get_or new.ops j 0 ≡ get_or old.ops j 0
  get_ops j l = get_front old.ops g.ops.0 new.ops j g.ops.1 l

  pub get_parents : (v : ℕ) → v < length old.parents → parent_by new.parents v ≡ parent_by old.parents v
  get_parents v l = get_front old.parents g.parents.0 new.parents v g.parents.1 l

  above_on : (at x : ℕ) → at < length old.parents → IsAbove old at x → IsAbove new at x
  above_on at x l h = (
    h.0,
    transfer (parent_by new.parents) (parent_by old.parents) (length old.parents) (λ v b. sym (get_parents v b)) (λ v b. subst (λ z. z < length old.parents) (sym (get_parents v b)) (within old.parents p v b)) (suc h.0) at l h.1,
    omega (arith, h.2, longer old.ops g.ops.0 new.ops g.ops.1),
    get_ops h.0 h.2 ∙ h.3,
  )

  above_back : (at x : ℕ) → at < length old.parents → IsAbove new at x → IsAbove old at x
  above_back at x l h =
      let up : IsOnWayUp (parent_by old.parents) (suc h.0) at = transfer (parent_by old.parents) (parent_by new.parents) (length old.parents) get_parents (λ v b. within old.parents p v b) (suc h.0) at l h.1 in
      let low : h.0 < length old.ops = omega (arith, above_early old.parents p (suc h.0) at l up, l, counted) in
      (h.0, up, low, sym (get_ops h.0 low) ∙ h.3)

  pub tells_on : (at : ℕ) (P : ℕ → Type 0) → at < length old.parents → GivesBefore t old at P → GivesBefore t new at P
  tells_on at P l h x s =
      let b = h x (subst (λ z. IsSeen t z x) g.root s) in
      (λ a. b.0 (above_back at x l a), λ q. above_on at x l (b.1 q))

  pub low_on : (at : ℕ) → at < length old.parents → at < length new.parents
  low_on at l = omega (arith, l, longer old.parents g.parents.0 new.parents g.parents.1)

  pub waiting_on : (r at : ℕ) → IsWaiting t old r at → IsWaiting t new r at
  waiting_on r at h = record {
    visited = subst (λ z. IsVisitedFrom t z r) (sym g.root) h.visited;
    lawful = h.lawful;
    low = low_on at h.low;
    before = tells_on at (IsBeforeHolder t r) h.low h.before;
  }

  pub left_on : (c : ℕ) (done : List ℕ) (at : ℕ) → IsLeftAt t old c done at → IsLeftAt t new c done at
  left_on c done at h = record { low = low_on at h.low; before = λ r e. tells_on at (IsBehind t r c done) h.low (h.before r e) }

pub taken_on : (t : Tree) (a b : NumberTables) (ks : List ℕ) → NumbersGrow a b → AreTaken t a ks → AreTaken t b ks
taken_on t a b ks g h k i = (ops_kept a b g k (h k i).0, λ q j. regions_kept a b g q ((h k i).1 q j))

pub done_on : (t : Tree) (a b : NumberTables) (r : ℕ) → NumbersGrow a b → IsDone t a r → IsDone t b r
done_on t a b r g h = record {
  nested = λ c k q l e i. regions_kept a b g q (h.nested c k q l e i);
  seen = λ s c k l e. ops_kept a b g k (h.seen s c k l e);
}

-- what an operation's own number tells
pub own_tells : (t : Tree) (n : NumberTables) → IsNumbering t n → (j : ℕ) → j < length n.ops → GivesBefore t n (suc j) (λ x. (x ≡ get_or n.ops j 0) ⊎ DominatesOperation t x (get_or n.ops j 0))
own_tells t n h j l x s = (forth, back)
  where
    forth : IsAbove n (suc j) x → (x ≡ get_or n.ops j 0) ⊎ DominatesOperation t x (get_or n.ops j 0)
    forth a = ⊎_elim
        (λ e. inl (sym a.3 ∙ ap (λ z. get_or n.ops z 0) (let same : a.0 ≡ j = omega (arith, e) in same)))
        (λ ne. inr ((h.before j l x s).0 (a.0, up_one (parent_by n.parents) (suc a.0) (suc j) a.1 ne, a.2, a.3)))
        (decide (suc a.0) (suc j))

    back : (x ≡ get_or n.ops j 0) ⊎ DominatesOperation t x (get_or n.ops j 0) → IsAbove n (suc j) x
    back (inl e) = (j, Here, l, sym e)
    back (inr q) = let a = (h.before j l x s).1 q in (a.0, Above a.1, a.2, a.3)

-- one more operation
module _ (t : Tree) (old : NumberTables) (op above : ℕ) (h : IsNumbering t old) (seen : IsSeen t old.root op) (low : above < length old.parents) (accurate : GivesBefore t old above (λ x. DominatesOperation t x op)) where
  abbrev more : NumberTables
  more = record old { ops = old.ops ++ op ∷ []; parents = old.parents ++ above ∷ [] }

  pub more_grows : NumbersGrow old more
  more_grows = record { root = refl; ops = (op ∷ [], refl); parents = (above ∷ [], refl); regions = ([], sym (append-nil old.regions)) }

  last_parent : parent_by more.parents (length old.parents) ≡ above
  last_parent = get_or-append_seam old.parents above [] 0

  last_op : get_or more.ops (length old.ops) 0 ≡ op
  last_op = get_or-append_seam old.ops op [] 0

  kept_parent : (v : ℕ) → v < length old.parents → parent_by more.parents v ≡ parent_by old.parents v
  kept_parent v l = get_parents t old more more_grows h.counted h.parents v l

  size : length more.parents ≡ suc (length old.parents)
  size = omega (arith, length-append old.parents (above ∷ []))

  ops_size : length more.ops ≡ suc (length old.ops)
  ops_size = omega (arith, length-append old.ops (op ∷ []))

  parents : AreParents more.parents
  parents = record {
    some = omega (arith, size);
    top = kept_parent 0 h.parents.some ∙ h.parents.top;
    earlier = λ v l n. ⊎_elim
        (λ e. subst (λ z. parent_by more.parents z < z) (sym e) (omega (arith, last_parent, low)))
        (λ ne. let l' : v < length old.parents = omega (arith, l, size, ne) in omega (arith, kept_parent v l', h.parents.earlier v l' n))
        (decide v (length old.parents));
  }

  before : (j : ℕ) → j < length more.ops → GivesBefore t more (parent_by more.parents (suc j)) (λ x. DominatesOperation t x (get_or more.ops j 0))
  before j l = ⊎_elim at_last at_first (decide j (length old.ops))
    where
      at_last : j ≡ length old.ops → GivesBefore t more (parent_by more.parents (suc j)) (λ x. DominatesOperation t x (get_or more.ops j 0))
      at_last e =
          let here : parent_by more.parents (suc j) ≡ above = ap (parent_by more.parents) (let same : suc j ≡ length old.parents = omega (arith, e, h.counted) in same) ∙ last_parent in
          let is : get_or more.ops j 0 ≡ op = ap (λ z. get_or more.ops z 0) e ∙ last_op in
          subst (λ z. GivesBefore t more z (λ x. DominatesOperation t x (get_or more.ops j 0))) (sym here)
          (subst (λ z. GivesBefore t more above (λ x. DominatesOperation t x z)) (sym is) (tells_on t old more more_grows h.counted h.parents above (λ x. DominatesOperation t x op) low accurate))

      at_first : j ≢ length old.ops → GivesBefore t more (parent_by more.parents (suc j)) (λ x. DominatesOperation t x (get_or more.ops j 0))
      at_first ne =
          let l' : j < length old.ops = omega (arith, l, ops_size, ne) in
          let lp : suc j < length old.parents = omega (arith, l', h.counted) in
          let here : parent_by more.parents (suc j) ≡ parent_by old.parents (suc j) = kept_parent (suc j) lp in
          let is : get_or more.ops j 0 ≡ get_or old.ops j 0 = get_front old.ops (op ∷ []) more.ops j refl l' in
          subst (λ z. GivesBefore t more z (λ x. DominatesOperation t x (get_or more.ops j 0))) (sym here)
          (subst (λ z. GivesBefore t more (parent_by old.parents (suc j)) (λ x. DominatesOperation t x z)) (sym is)
          (tells_on t old more more_grows h.counted h.parents (parent_by old.parents (suc j)) (λ x. DominatesOperation t x (get_or old.ops j 0)) (within old.parents h.parents (suc j) lp) (h.before j l')))

  pub more_numbering : IsNumbering t more
  more_numbering = record {
    counted = omega (arith, size, ops_size, h.counted);
    parents = parents;
    before = before;
    seen = λ k i. ⊎_elim (λ j. h.seen k j) (λ j. ⊎_elim (λ e. subst (IsSeen t old.root) (sym e) seen) (λ z. absurd z) j) (In-cases k old.ops (op ∷ []) i);
    listed = h.listed;
    waits = λ j l. waiting_on t old more more_grows h.counted h.parents (get_or old.regions j 0) (get_or old.above j 0) (h.waits j l);
  }

-- the same, if it had no number yet
module _ (t : Tree) (old new : NumberTables) (op above number : ℕ) (h : IsNumbering t old) (seen : IsSeen t old.root op) (low : above < length old.parents) (accurate : GivesBefore t old above (λ x. DominatesOperation t x op)) (a : AddsOperation old new op above number) where
  pub added_grows : NumbersGrow old new
  added_grows = ⊎_elim (λ e. subst (NumbersGrow old) (sym e) (grows_none old)) (λ m. subst (NumbersGrow old) (sym m.1) (more_grows t old op above h seen low accurate)) a.step

  pub added_numbering : IsNumbering t new
  added_numbering = ⊎_elim (λ e. subst (IsNumbering t) (sym e) h) (λ m. subst (IsNumbering t) (sym m.1) (more_numbering t old op above h seen low accurate)) a.step

-- one more region
module _ (t : Tree) (old new : NumberTables) (r above : ℕ) (h : IsNumbering t old) (waits : IsWaiting t old r above) (a : AddsRegion old new r above) where
  abbrev wider : NumberTables
  wider = record old { regions = old.regions ++ r ∷ []; above = old.above ++ above ∷ [] }

  wider_grows : NumbersGrow old wider
  wider_grows = record { root = refl; ops = ([], sym (append-nil old.ops)); parents = ([], sym (append-nil old.parents)); regions = (r ∷ [], refl) }

  regions_size : length wider.regions ≡ suc (length old.regions)
  regions_size = omega (arith, length-append old.regions (r ∷ []))

  above_size : length wider.above ≡ suc (length old.above)
  above_size = omega (arith, length-append old.above (above ∷ []))

  on : (q at : ℕ) → IsWaiting t old q at → IsWaiting t wider q at
  on q at w = waiting_on t old wider wider_grows h.counted h.parents q at w

  all_wait : (j : ℕ) → j < length wider.regions → IsWaiting t wider (get_or wider.regions j 0) (get_or wider.above j 0)
  all_wait j l = ⊎_elim
      (λ e.
      let here : get_or wider.regions j 0 ≡ r = ap (λ z. get_or wider.regions z 0) e ∙ get_or-append_seam old.regions r [] 0 in
      let there : get_or wider.above j 0 ≡ above = ap (λ z. get_or wider.above z 0) (e ∙ sym h.listed) ∙ get_or-append_seam old.above above [] 0 in
      subst (λ z. IsWaiting t wider z (get_or wider.above j 0)) (sym here) (subst (IsWaiting t wider r) (sym there) (on r above waits)))
      (λ ne.
      let l' : j < length old.regions = omega (arith, l, regions_size, ne) in
      let here : get_or wider.regions j 0 ≡ get_or old.regions j 0 = get_front old.regions (r ∷ []) wider.regions j refl l' in
      let there : get_or wider.above j 0 ≡ get_or old.above j 0 = get_front old.above (above ∷ []) wider.above j refl (omega (arith, l', h.listed)) in
      subst (λ z. IsWaiting t wider z (get_or wider.above j 0)) (sym here) (subst (IsWaiting t wider (get_or old.regions j 0)) (sym there) (on (get_or old.regions j 0) (get_or old.above j 0) (h.waits j l'))))
      (decide j (length old.regions))

  wider_numbering : IsNumbering t wider
  wider_numbering = record {
    counted = h.counted;
    parents = h.parents;
    before = λ j l. tells_on t old wider wider_grows h.counted h.parents (parent_by old.parents (suc j)) (λ x. DominatesOperation t x (get_or old.ops j 0)) (within old.parents h.parents (suc j) (omega (arith, l, h.counted))) (h.before j l);
    seen = h.seen;
    listed = omega (arith, regions_size, above_size, h.listed);
    waits = all_wait;
  }

  pub region_grows : NumbersGrow old new
  region_grows = ⊎_elim (λ e. subst (NumbersGrow old) (sym e) (grows_none old)) (λ e. subst (NumbersGrow old) (sym e) wider_grows) a.1

  pub region_numbering : IsNumbering t new
  region_numbering = ⊎_elim (λ e. subst (IsNumbering t) (sym e) h) (λ e. subst (IsNumbering t) (sym e) wider_numbering) a.1

pub start_numbering : (t : Tree) (root : ℕ) (n : NumberTables) → IsStart root n → IsNumbering t n
start_numbering t root n e = subst (IsNumbering t) (sym e) (record {
  counted = refl;
  parents = record { some = omega arith; top = refl; earlier = λ v l ne. absurd (omega (arith, l, ne)) };
  before = λ j l. absurd (omega (arith, l));
  seen = λ k i. absurd i;
  listed = refl;
  waits = λ j l. absurd (omega (arith, l));
})
