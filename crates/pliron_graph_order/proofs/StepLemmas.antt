-- One operation of a block after the other.
use Rattle.std.proofs.Common.{◌≡◌, ◌⊎◌, ◌↔◌, ℕ, suc, ◌<◌, List, [], ◌∷◌, ◌++◌, Some, None, IsTrue, length, get_or, refl, sym, ap, ◌∙◌, subst, inl, inr, ⊎_elim, arith}
use Rattle.pliron_core.specs.Tree.{Tree, In, first_of, layout_of, regions_of, parent_of, body_of, block_parent_of, region_parent_of}
use Rattle.pliron_core.specs.Invariant.{IsTree}
use Rattle.pliron_core.specs.Reads.{has_ssa}
use Rattle.pliron_core.proofs.HoldingLemmas.{some_is, not_none}
use Rattle.pliron_core.proofs.ListLemmas.{In-right, In-cases, split_at}
use Rattle.pliron_laws.specs.Linked.{EdgesLast}
use Rattle.pliron_graph_traversal.specs.Regions.{IsLawfulRegion}
use Rattle.pliron_rewrite_equals.specs.OperationDominance.{DominatesOperation}
use Rattle.pliron_graph_order.specs.Numbering.{NumberTables, GivesBefore, IsBeforeHolder, IsWaiting, IsNumbering, NumbersGrow, AddsOperation, AreTaken, IsDone, IsEntered, IsLeftAt, IsStart}
use Rattle.pliron_graph_order.specs.Seen.{IsOnPathIn, IsVisitedBlockFromIf, IsVisitedFrom, Starts, Nested, IsSeen}
use Rattle.pliron_graph_order.specs.Behind.{IsBehind}
use Rattle.pliron_graph_order.proofs.Behind.{behind}
use Rattle.pliron_graph_order.proofs.NumberLemmas.{own_tells, not_true, at_in, left_on, added_grows, added_numbering, grows_both, taken_on, regions_kept}
use Rattle.pliron_graph_order.proofs.SeenLemmas.{holder_of_region, lawful_nested, edges_nested, behind_elsewhere, reached_in, none_before_root}

-- the same facts in other words
pub tells_alike : (t : Tree) (n : NumberTables) (at : ℕ) (P Q : ℕ → Type 0) → ((x : ℕ) → IsSeen t n.root x → P x ↔ Q x) → GivesBefore t n at P → GivesBefore t n at Q
tells_alike t n at P Q same h x s = let a = same x s in let b = h x s in (λ u. a.0 (b.0 u), λ q. b.1 (a.1 q))

-- a region of an operation waits below what stands before the operation
pub nested_waiting : (t : Tree) (w : IsTree t) (n : NumberTables) (k q at : ℕ) → In q (regions_of t k) → IsVisitedFrom t n.root q → EdgesLast t k → at < length n.parents → GivesBefore t n at (λ x. DominatesOperation t x k) → IsWaiting t n q at
nested_waiting t w n k q at i v e l h = record {
  visited = v;
  lawful = lawful_nested t w k q i e;
  low = l;
  before = tells_alike t n at (λ x. DominatesOperation t x k) (IsBeforeHolder t q) (λ x s. (λ b. (k, holder_of_region t w k q i, b), λ b. back x b)) h;
}
  where
    back : (x : ℕ) → IsBeforeHolder t q x → DominatesOperation t x k
    back x b = let same : b.0 ≡ k = some_is (sym b.1 ∙ holder_of_region t w k q i) in subst (DominatesOperation t x) same b.2

-- in a block that is reached
module _ (t : Tree) (w : IsTree t) (n : NumberTables) (r c at : ℕ) (visited : IsVisitedFrom t n.root r) (lawful : IsLawfulRegion t r) (dominance : IsTrue (has_ssa t r)) (reached : IsOnPathIn t r c) (done rest : List ℕ) (op : ℕ) (body : body_of t c ≡ done ++ op ∷ rest) (h : IsLeftAt t n c done at) where
  region_is : block_parent_of t c ≡ Some r
  region_is = reached_in t w r c reached

  parent_is : parent_of t op ≡ Some c
  parent_is = w.bodies.owned op c (subst (In op) (sym body) (In-right op done (op ∷ rest) (inl refl)))

  pub op_seen : IsSeen t n.root op
  op_seen = record { block = c; region = r; in_block = parent_is; in_region = region_is; visited = visited; dominance = dominance; reached = reached }

  pub op_tells : GivesBefore t n at (λ x. DominatesOperation t x op)
  op_tells = tells_alike t n at (IsBehind t r c done) (λ x. DominatesOperation t x op) (λ x s. let b = behind.operation t r c op x done rest w region_is body in (b.1, b.0)) (h.before r region_is)

  was_visited : IsVisitedBlockFromIf (has_ssa t r) t r c
  was_visited = subst (λ z. IsVisitedBlockFromIf z t r c) (sym dominance) reached

  pub op_waits : (q : ℕ) → In q (regions_of t op) → IsWaiting t n q at
  op_waits q i = nested_waiting t w n op q at i (Nested r c op visited was_visited parent_is i) (edges_nested t w r c op lawful region_is parent_is) h.low op_tells

-- behind the operation, by its number
module _ (t : Tree) (w : IsTree t) (n : NumberTables) (numbered : IsNumbering t n) (c : ℕ) (done rest : List ℕ) (op : ℕ) (body : body_of t c ≡ done ++ op ∷ rest) (place number : ℕ) (is : number ≡ suc place) (low : place < length n.ops) (stored : get_or n.ops place 0 ≡ op) where
  pub op_left : IsLeftAt t n c (done ++ op ∷ []) number
  op_left = record {
    low = omega (arith, is, low, numbered.counted);
    before = λ r region. subst (λ z. GivesBefore t n z (IsBehind t r c (done ++ op ∷ []))) (sym is)
        (tells_alike t n (suc place) (λ x. (x ≡ get_or n.ops place 0) ⊎ DominatesOperation t x (get_or n.ops place 0)) (IsBehind t r c (done ++ op ∷ []))
        (λ x s. subst (λ z. ((x ≡ z) ⊎ DominatesOperation t x z) ↔ IsBehind t r c (done ++ op ∷ []) x) (sym stored) (here r region x)) (own_tells t n numbered place low));
  }
    where
      here : (r : ℕ) → block_parent_of t c ≡ Some r → (x : ℕ) → ((x ≡ op) ⊎ DominatesOperation t x op) ↔ IsBehind t r c (done ++ op ∷ []) x
      here r region x =
          let a = behind.operation t r c op x done rest w region body in
          let b = behind.next t r c op x done rest w region body in
          (λ u. b.1 (⊎_elim (λ e. inl e) (λ s. inr (a.0 s)) u), λ u. ⊎_elim (λ e. inl e) (λ s. inr (a.1 s)) (b.0 u))

pub entered_left : (t : Tree) → IsTree t → (n : NumberTables) (r c at : ℕ) → IsEntered t n r c at → IsLeftAt t n c [] at
entered_left t w n r c at e = record {
  low = e.low;
  before = λ q is. let same : r ≡ q = some_is (sym (reached_in t w r c e.reached) ∙ is) in subst (λ z. GivesBefore t n at (IsBehind t z c [])) same e.before;
}

-- one operation more of a block: its regions are visited, and it gets a number
pub record IsBlockStep (t : Tree) (n new : NumberTables) (c : ℕ) (done : List ℕ) (number : ℕ) : Type 0 where
  pub numbered : IsNumbering t new
  pub grows : NumbersGrow n new
  pub left : IsLeftAt t new c done number
  pub taken : AreTaken t new done

module _ (t : Tree) (w : IsTree t) (first n mid new : NumberTables) (r c start at : ℕ) (entered : IsEntered t first r c start) (before : NumbersGrow first n) (done rest : List ℕ) (op : ℕ) (body : body_of t c ≡ done ++ op ∷ rest) (numbered : IsNumbering t n) (left : IsLeftAt t n c done at) where
  visited_now : IsVisitedFrom t n.root r
  visited_now = subst (λ z. IsVisitedFrom t z r) (sym before.root) entered.visited

  pub step_waits : (q : ℕ) → In q (regions_of t op) → IsWaiting t n q at
  step_waits q i = op_waits t w n r c at visited_now entered.lawful entered.dominance entered.reached done rest op body left q i

  module _ (grown : NumbersGrow n mid) (numbered_mid : IsNumbering t mid) (all : (q : ℕ) → In q (regions_of t op) → In q mid.regions) (number : ℕ) (added : AddsOperation mid new op at number) (taken : AreTaken t n done) where
    visited_mid : IsVisitedFrom t mid.root r
    visited_mid = subst (λ z. IsVisitedFrom t z r) (sym grown.root) visited_now

    left_mid : IsLeftAt t mid c done at
    left_mid = left_on t n mid grown numbered.counted numbered.parents c done at left

    seen : IsSeen t mid.root op
    seen = op_seen t w mid r c at visited_mid entered.lawful entered.dominance entered.reached done rest op body left_mid

    accurate : GivesBefore t mid at (λ x. DominatesOperation t x op)
    accurate = op_tells t w mid r c at visited_mid entered.lawful entered.dominance entered.reached done rest op body left_mid

    grown_new : NumbersGrow mid new
    grown_new = added_grows t mid new op at number numbered_mid seen left_mid.low accurate added

    numbered_new : IsNumbering t new
    numbered_new = added_numbering t mid new op at number numbered_mid seen left_mid.low accurate added

    op_here : In op new.ops
    op_here = subst (λ z. In z new.ops) added.stored (at_in new.ops added.place added.low)

    pub block_step : IsBlockStep t first new c (done ++ op ∷ []) number
    block_step = record {
      numbered = numbered_new;
      grows = grows_both first n new before (grows_both n mid new grown grown_new);
      left = op_left t w new numbered_new c done rest op body added.place number added.number_is added.low added.stored;
      taken = λ k i. ⊎_elim
          (λ j. taken_on t n new done (grows_both n mid new grown grown_new) taken k j)
          (λ j. ⊎_elim (λ e. (subst (λ z. In z new.ops) (sym e) op_here, λ q y. regions_kept mid new grown_new q (all q (subst (λ z. In q (regions_of t z)) e y)))) (λ z. absurd z) j)
          (In-cases k done (op ∷ []) i);
    }

-- in the head block of a region without SSA dominance
module _ (t : Tree) (w : IsTree t) (n : NumberTables) (r c at : ℕ) (h : IsWaiting t n r at) (none : IsTrue (has_ssa t r) → ⊥) (region_is : block_parent_of t c ≡ Some r) (was_visited : IsVisitedBlockFromIf (has_ssa t r) t r c) (op : ℕ) (here : In op (body_of t c)) where
  pub head_waits : (q : ℕ) → In q (regions_of t op) → IsWaiting t n q at
  head_waits q i =
      let parent_is = w.bodies.owned op c here in
      let s = split here in
      nested_waiting t w n op q at i (Nested r c op h.visited was_visited parent_is i) (edges_nested t w r c op h.lawful region_is parent_is) h.low
      (tells_alike t n at (IsBeforeHolder t r) (λ x. DominatesOperation t x op)
      (λ x seen.
      let a = behind.operation t r c op x s.0 s.1 w region_is s.2 in
      let b = behind_elsewhere t w n.root r c x s.0 none seen in
      (λ u. a.1 (b.1 u), λ u. b.0 (a.0 u))) h.before)
    where
      split : In op (body_of t c) → (front : List ℕ) × (back : List ℕ) × (body_of t c ≡ front ++ op ∷ back)
      split i = split_at op (body_of t c) i

-- the head block is all that is looked into in such a region
pub head_done : (t : Tree) → IsTree t → (n : NumberTables) (r c : ℕ) → (IsTrue (has_ssa t r) → ⊥) → first_of (layout_of t r) None ≡ Some c → ((k q : ℕ) → In k (body_of t c) → In q (regions_of t k) → In q n.regions) → IsDone t n r
head_done t w n r c none at all = record {
  nested = λ b k q was_visited p i. all k q (w.bodies.listed k c (p ∙ ap Some (same b (subst (λ z. IsVisitedBlockFromIf z t r b) (not_true (has_ssa t r) none) was_visited)))) i;
  seen = λ s b k x p. absurd (none s);
}
  where
    same : (b : ℕ) → first_of (layout_of t r) None ≡ Some b → b ≡ c
    same b e = some_is (sym e ∙ at)

pub no_head : (t : Tree) (n : NumberTables) (r : ℕ) → (IsTrue (has_ssa t r) → ⊥) → first_of (layout_of t r) None ≡ None → IsDone t n r
no_head t n r none empty = record {
  nested = λ b k q was_visited p i. absurd (not_none (sym empty ∙ first b (subst (λ z. IsVisitedBlockFromIf z t r b) (not_true (has_ssa t r) none) was_visited)));
  seen = λ s b k x p. absurd (none s);
}
  where
    first : (b : ℕ) → first_of (layout_of t r) None ≡ Some b → first_of (layout_of t r) None ≡ Some b
    first b e = e

-- where the region has SSA dominance, the blocks that its entry reaches are looked into
pub reached_done : (t : Tree) → IsTree t → (n : NumberTables) (r : ℕ) → IsTrue (has_ssa t r) → ((c : ℕ) → IsOnPathIn t r c → AreTaken t n (body_of t c)) → IsDone t n r
reached_done t w n r dominance taken = record {
  nested = λ b k q was_visited p i. ((taken b (subst (λ z. IsVisitedBlockFromIf z t r b) dominance was_visited)) k (w.bodies.listed k b p)).1 q i;
  seen = λ s b k x p. (taken b x k (w.bodies.listed k b p)).0;
}

-- where all is done, whatever is seen has a number
module _ (t : Tree) (n : NumberTables) (starts : (q : ℕ) → In q (regions_of t n.root) → In q n.regions) (done : (r : ℕ) → In r n.regions → IsDone t n r) where
  all_visited : (r : ℕ) → IsVisitedFrom t n.root r → In r n.regions
  all_visited r (Starts i) = starts r i
  all_visited r (Nested outer b k v l p i) = (done outer (all_visited outer v)).nested b k r l p i

  pub all_seen : (k : ℕ) → IsSeen t n.root k → In k n.ops
  all_seen k s = (done s.region (all_visited s.region s.visited)).seen s.dominance s.block k s.reached s.in_block

-- at the start nothing stands before the root
pub start_waits : (t : Tree) → IsTree t → (root : ℕ) (n : NumberTables) → IsStart root n → EdgesLast t root → (q : ℕ) → In q (regions_of t root) → IsWaiting t n q 0
start_waits t w root n start edges q i = subst (λ z. IsWaiting t z q 0) (sym start) (nested_waiting t w (record { root = root; ops = []; parents = 0 ∷ []; regions = []; above = [] }) root q 0 i (Starts i) edges (omega arith)
    (λ x s. ((λ a. absurd (omega (arith, a.2))), (λ b. absurd (none_before_root t w root x s b)))))
