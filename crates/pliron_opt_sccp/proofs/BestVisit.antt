-- One operation is visited: the facts go on standing above every closed set of facts, and its results are determined.
use Rattle.std.proofs.Common.{◌≡◌, ◌≢◌, ◌⊎◌, ◌↔◌, inl, inr, ⊎_elim, ℕ, zero, suc, ◌<◌, Bool, true, false, true≢false, nat_eq, if◌then◌else◌, List, [], ◌∷◌, ◌++◌, length, Option, Some, None, slice_get, refl, sym, ap, ◌∙◌, subst, arith, IsTrue}
use Rattle.std.proofs.lemmas.Bool.{eqb-true, eq-eqb}
use Rattle.pliron_core.specs.declared.attrs.AttrObj.{AttrObj}
use Rattle.pliron_core.specs.Lists.{In, first_of, last_of}
use Rattle.pliron_core.specs.Edges.{succs_from}
use Rattle.pliron_core.specs.Tree.{Tree, IsInside, HoldsBlock, operands_of, successors_of, results_of, regions_of, parent_of, body_of, arguments_of, block_parent_of, layout_of, region_parent_of, block_parent_operation_of, up_from}
use Rattle.pliron_core.specs.Invariant.{IsTree}
use Rattle.pliron_core.proofs.ListLemmas.{In-left, In-right, In-cases}
use Rattle.pliron_core.proofs.FlatLemmas.{In-flat_map, flat_map-In}
use Rattle.pliron_core.proofs.NeighbourLemmas.{first_of-In}
use Rattle.pliron_core.proofs.UsedLemmas.{length_map}
use Rattle.pliron_core.proofs.HoldingLemmas.{some_is, in_slice, slice_in, inside_block}
use Rattle.pliron_laws.specs.Datum.{Shape}
use Rattle.pliron_laws.specs.Tree.{Operation, op_at, shape_of}
use Rattle.pliron_laws.specs.Laws.{Admitted}
use Rattle.pliron_laws.specs.Linked.{IsWellLinked}
use Rattle.pliron_laws.specs.Folding.{AnswersTrue}
use Rattle.pliron_laws.proofs.Records.{ShowsOperation, op_shows}
use Rattle.pliron_theory.specs.LatticeValues.{LatticeValue, Undetermined, Constant, NotAConstant, AtMost, lattice_constant, value_of_answer, LatticeValues, Says, operand_constants, answers_of, IsInExecutableBlock, IsFeasibleEdge, Forwards, IsEntryExecutable, IsBelowNamed, AreBelowNamed, AreClosed}
use Rattle.pliron_theory.proofs.FactLattice.{at_most_refl, at_most_trans, same_index, picked_in}
use Rattle.pliron_theory.proofs.SweptKeeps.{admitted_shape}
use Rattle.pliron_opt_sccp.specs.declared.lattice_tables.Tables.{Tables}
use Rattle.pliron_opt_sccp.specs.LatticeTables.{known_constants, lattice_values_of}
use Rattle.pliron_opt_sccp.specs.Inside.{values_inside}
use Rattle.pliron_opt_sccp.specs.Settling.{IsSatisfied, AreAtMost}
use Rattle.pliron_opt_sccp.specs.Precise.{AreOwed}
use Rattle.pliron_opt_sccp.specs.Visiting.{HasWay, IsGrounded, AreDetermined}
use Rattle.pliron_opt_sccp.specs.Constraints.{SatisfiesAll}
use Rattle.pliron_opt_sccp.specs.OperationVisits.{VisitsOperation}
use Rattle.pliron_opt_sccp.specs.Best.{IsHigher}
use Rattle.pliron_opt_sccp.proofs.Applied.{below_trans}
use Rattle.pliron_opt_sccp.proofs.Settled.{met_still}
use Rattle.pliron_opt_sccp.proofs.DistinctLists.{held_directly}
use Rattle.pliron_opt_sccp.proofs.InsideLists.{made_listed}
use Rattle.pliron_opt_sccp.proofs.Accounting.{below_undetermined}
use Rattle.pliron_opt_sccp.proofs.Determined.{operand_determined}
use Rattle.pliron_opt_sccp.proofs.Stepping.{first_blocks, entries_of, first_in, in_first}
use Rattle.pliron_opt_sccp.proofs.Above.{above_result, above_jump, above_argument}

-- whether something is on a list
abbrev pub lists : List ℕ → ℕ → Bool
lists [] x = false
lists (y ∷ ys) x = if nat_eq x y then true else lists ys x

pub lists_in : (xs : List ℕ) (x : ℕ) → lists xs x ≡ true → In x xs
lists_in [] x e = absurd (true≢false (sym e))
lists_in (y ∷ ys) x e = by (nat_eq x y) refl (λ r. lists_in ys x r)
  where
    by : (b : Bool) → nat_eq x y ≡ b → (lists ys x ≡ true → In x ys) → In x (y ∷ ys)
    by true same next = inl (eqb-true x y same)
    by false other next = inr (next (ap (λ b. if b then true else lists ys x) (sym other) ∙ e))

pub in_lists : (xs : List ℕ) (x : ℕ) → In x xs → lists xs x ≡ true
in_lists [] x i = absurd i
in_lists (y ∷ ys) x (inl e) = ap (λ b. if b then true else lists ys x) (eq-eqb x y e)
in_lists (y ∷ ys) x (inr i) = by (nat_eq x y) (in_lists ys x i)
  where
    by : (b : Bool) → lists ys x ≡ true → (if b then true else lists ys x) ≡ true
    by true e = refl
    by false e = e

-- whether all of these values are determined
abbrev pub is_determined : LatticeValue → Bool
is_determined Undetermined = false
is_determined (Constant c) = true
is_determined NotAConstant = true

abbrev pub all_determined : (ℕ → LatticeValue) → List ℕ → Bool
all_determined f [] = true
all_determined f (v ∷ vs) = if is_determined (f v) then all_determined f vs else false

determined : (f : LatticeValue) → is_determined f ≡ true → f ≢ Undetermined
determined Undetermined e u = true≢false (sym e)
determined (Constant c) e u = grind (arith, u)
determined NotAConstant e u = grind (arith, u)

is_so : (f : LatticeValue) → f ≢ Undetermined → is_determined f ≡ true
is_so Undetermined some = absurd (some refl)
is_so (Constant c) some = refl
is_so NotAConstant some = refl

all_are : (f : ℕ → LatticeValue) (vs : List ℕ) → all_determined f vs ≡ true → (v : ℕ) → In v vs → f v ≢ Undetermined
all_are f [] e v i = absurd i
all_are f (x ∷ vs) e v i = by (is_determined (f x)) refl i (λ r j. all_are f vs r v j)
  where
    by : (b : Bool) → is_determined (f x) ≡ b → In v (x ∷ vs) → (all_determined f vs ≡ true → In v vs → f v ≢ Undetermined) → f v ≢ Undetermined
    by true d (inl s) next = subst (λ z. f z ≢ Undetermined) (sym s) (determined (f x) d)
    by true d (inr j) next = next (ap (λ b. if b then all_determined f vs else false) (sym d) ∙ e) j
    by false d j next = absurd (true≢false (sym e ∙ ap (λ b. if b then all_determined f vs else false) d))

are_all : (f : ℕ → LatticeValue) (vs : List ℕ) → ((v : ℕ) → In v vs → f v ≢ Undetermined) → all_determined f vs ≡ true
are_all f [] some = refl
are_all f (x ∷ vs) some = ap (λ b. if b then all_determined f vs else false) (is_so (f x) (some x (inl refl))) ∙ are_all f vs (λ v i. some v (inr i))

pub varying : (f : LatticeValue) → f ≡ NotAConstant → f ≢ Undetermined
varying f n u = let x : Undetermined ≡ NotAConstant = sym u ∙ n in absurd (grind arith)

answer_determined : (a : Option AttrObj) → value_of_answer a ≢ Undetermined
answer_determined None e = grind (arith, e)
answer_determined (Some c) e = grind (arith, e)

within : (xs : List ℕ) (p : ℕ) → p < length xs → (v : ℕ) × (slice_get xs p ≡ Some v)
within [] p l = absurd (omega (arith, l))
within (x ∷ xs) zero l = (x, refl)
within (x ∷ xs) (suc p) l = within xs p (omega (arith, l))

-- the blocks that an operation may enter: its successors, and the entries of its regions
abbrev targets_of : Tree → ℕ → List ℕ
targets_of t k = successors_of t k ++ entries_of t k

-- a closed set, with values of which nothing is asked as not constant
abbrev pub only_inside : Tree → ℕ → LatticeValues → LatticeValues
only_inside t root g = record { is_executable = g.is_executable; lattice_value = λ v. if lists (values_inside t root) v then g.lattice_value v else NotAConstant }

pub only_below : (t : Tree) (root : ℕ) (g f : LatticeValues) → IsHigher t root f g → AreAtMost (only_inside t root g) f
only_below t root g f above = record { is_executable = above.blocks; lattice_value = λ v. by v (lists (values_inside t root) v) refl }
  where
    by : (v : ℕ) (b : Bool) → lists (values_inside t root) v ≡ b → AtMost (if b then g.lattice_value v else NotAConstant) (f.lattice_value v)
    by v true e = above.facts v (lists_in (values_inside t root) v e)
    by v false e = inr (inl refl)

pub only_lower : (t : Tree) (root : ℕ) (g : LatticeValues) → AreAtMost (only_inside t root g) g
only_lower t root g = record { is_executable = λ b r. r; lattice_value = λ v. by v (lists (values_inside t root) v) }
  where
    by : (v : ℕ) (b : Bool) → AtMost (if b then g.lattice_value v else NotAConstant) (g.lattice_value v)
    by v true = at_most_refl (g.lattice_value v)
    by v false = inr (inl refl)

pub only_above : (t : Tree) (root : ℕ) (g f : LatticeValues) → AreAtMost (only_inside t root g) f → IsHigher t root f g
only_above t root g f below = record { blocks = below.is_executable; facts = λ v i. subst (λ b. AtMost (if b then g.lattice_value v else NotAConstant) (f.lattice_value v)) (in_lists (values_inside t root) v i) (below.lattice_value v) }

-- what holds of the facts while operations are visited: f are those from before, and the blocks seen are those that
-- were visited before and the one at hand
pub record IsOn (x : Says) (t : Tree) (root : ℕ) (f : LatticeValues) (seen : ℕ → Bool) (now : LatticeValues) : Type 0 where
  pub below : AreAtMost now f
  pub above : (g : LatticeValues) → AreClosed x t root g → IsHigher t root now g
  pub ways : (b : ℕ) → IsTrue (now.is_executable b) → HasWay t seen b
  pub held : (b k : ℕ) → IsTrue (now.is_executable b) → block_parent_operation_of t b ≡ Some k → (k ≡ root) ⊎ ((c : ℕ) × (parent_of t k ≡ Some c) × IsTrue (seen c))
  pub arguments : (b v : ℕ) → IsTrue (now.is_executable b) → In v (arguments_of t b) → now.lattice_value v ≢ Undetermined

-- each value that a branch forwards is one of its operands, and so is each that is named for an entry
pub record PassesItsOperands (x : Says) : Type 0 where
  pub forwarded : (s : Shape) → Admitted x.meaning s → IsTrue (x.meaning.is_branch s.head) → (i p : ℕ) → In p (x.meaning.forwarded s i) → p < s.operands
  pub named : (s : Shape) → Admitted x.meaning s → (i j p : ℕ) → x.entry_operands s i j ≡ Some p → p < s.operands

named_above : (g now : ℕ → LatticeValue) (operands : List ℕ) → ((v : ℕ) → In v operands → AtMost (g v) (now v)) → (a : Option ℕ) (v : ℕ) → IsBelowNamed g g operands a v → IsBelowNamed g now operands a v
named_above g now operands below None v q = q
named_above g now operands below (Some p) v q = λ w at. at_most_trans (g v) (g w) (now w) (q w at) (below w (in_slice operands p w at))

module _ (x : Says) (t : Tree) (root : ℕ) (w : IsTree t) (linked : IsWellLinked x.meaning t root) (answers : AnswersTrue x.meaning x.can_fold x.constants) (places : PassesItsOperands x) (owed : AreOwed x t root) (f : LatticeValues) (visited seen : ℕ → Bool) (inside : (b : ℕ) → IsTrue (f.is_executable b) → HoldsBlock t root b) (grounded : IsGrounded t root f visited) (ready : AreDetermined t f visited) (more : (b : ℕ) → IsTrue (visited b) → IsTrue (seen b)) (k c : ℕ) (o : Operation) (p : parent_of t k ≡ Some c) (at : op_at t k ≡ Some o) (reached : IsTrue (f.is_executable c)) (came : IsTrue (seen c)) (done rest : List ℕ) (body : body_of t c ≡ done ++ k ∷ rest) where
  shows : ShowsOperation t k o
  shows = op_shows t k o at

  k_inside : IsInside t root k
  k_inside = inside_block c p (inside c reached)

  admitted : Admitted x.meaning (shape_of x.meaning t o)
  admitted = admitted_shape x.meaning t k o at (linked.admitted k (inr k_inside))

  operand_in : (v : ℕ) → In v o.operands → In v (operands_of t k)
  operand_in v i = subst (In v) (sym shows.operands) i

  module _ (now : LatticeValues) (on : IsOn x t root f seen now) (front : (q v : ℕ) → In q done → In v (results_of t q) → now.lattice_value v ≢ Undetermined) where
    some : (v : ℕ) → In v o.operands → now.lattice_value v ≢ Undetermined
    some v i =
        let j = operand_in v i in
        let made = owed.defined.own_values k v k_inside j in
        operand_determined t root w f now visited grounded ready (λ y d. below_undetermined (f.lattice_value y) (now.lattice_value y) (on.below.lattice_value y) d) k v c done rest p reached body (λ q m y. front q v m y) j made (owed.defined.dominated k v j made)

    module _ (g : LatticeValues) (closed : AreClosed x t root g) where
      liveness : IsInExecutableBlock t g k
      liveness = (c, p, (on.above g closed).blocks c (on.below.is_executable c reached))

      below : (v : ℕ) → In v o.operands → AtMost (g.lattice_value v) (now.lattice_value v)
      below v i =
          let j = operand_in v i in
          (on.above g closed).facts v (made_listed t w root v (owed.defined.own_values k v k_inside j) (w.joined.operands k v j))

      -- an edge that is feasible under these facts is so under every closed set
      pub feasible_closed : (i b : ℕ) → IsFeasibleEdge x t now o i b → IsFeasibleEdge x t g o i b
      feasible_closed i b go = above_jump x owed.monotone t root g now closed k o liveness at admitted below some i b go

      -- every closed set meets what is asked under these facts
      meets_closed : IsSatisfied x t now g k o
      meets_closed = record {
        entries = λ i r b there e. let y = closed.entries k i r b o liveness at there e in (y.0, λ j v a. named_above g.lattice_value now.lattice_value o.operands below (x.entry_operands (shape_of x.meaning t o) i j) v (y.1 j v a));
        branches = λ i b branch go. (
          (closed.branches k i b o liveness at branch (feasible_closed i b go)).0,
          λ j v u listed fw. above_argument x owed.monotone t root g now closed k o liveness at admitted below some i b j v u branch go listed fw,
        );
        jumps = λ i b no_branch e. closed.jumps k i b o liveness at no_branch e;
        folded = λ i v a folds listed said. above_result x owed.monotone t root g now closed k o liveness at admitted below some i v a folds listed said;
        others = λ v none i. closed.others k v o liveness at none i;
      }

    module _ (s s' : Tables) (same : now ≡ lattice_values_of s) (visits : VisitsOperation x t k s s') where
      abbrev pub new : LatticeValues
      new = lattice_values_of s'

      asks : (g : LatticeValues) → AreAtMost g now → SatisfiesAll (known_constants s) g visits.constraints ↔ IsSatisfied x t now g k o
      asks g below = subst (λ z. SatisfiesAll (known_constants s) g visits.constraints ↔ IsSatisfied x t z g k o) (sym same) (visits.asks o at g (subst (λ z. AreAtMost g z) same below))

      lowered : AreAtMost new now
      lowered = subst (λ z. AreAtMost new z) (sym same) visits.applied.lowered.below

      met : IsSatisfied x t now new k o
      met = (asks new lowered).0 visits.applied.met

      least : (g : LatticeValues) → AreAtMost g now → IsSatisfied x t now g k o → AreAtMost g new
      least g below m = visits.applied.least g (subst (λ z. AreAtMost g z) same below) ((asks g below).1 m)

      above_still : (g : LatticeValues) → AreClosed x t root g → IsHigher t root new g
      above_still g closed =
          only_above t root g new (least (only_inside t root g) (only_below t root g now (on.above g closed)) (met_still x t now g (only_inside t root g) k o (only_lower t root g) (meets_closed g closed)))

      -- a block of which this is so is reached, and nothing else is asked
      abbrev IsTarget : ℕ → Type 0
      IsTarget b = In b (targets_of t k) × ((v : ℕ) → In v (arguments_of t b) → new.lattice_value v ≢ Undetermined)

      abbrev reached_or : Bool → Bool → Bool → Bool
      reached_or a b d = if a then true else (if b then d else false)

      abbrev trial : LatticeValues
      trial = record { is_executable = λ b. reached_or (now.is_executable b) (lists (targets_of t k) b) (all_determined new.lattice_value (arguments_of t b)); lattice_value = new.lattice_value }

      try_target : (b : ℕ) → IsTarget b → IsTrue (trial.is_executable b)
      try_target b y = by (now.is_executable b) (lists (targets_of t k) b) (all_determined new.lattice_value (arguments_of t b)) (in_lists (targets_of t k) b y.0) (are_all new.lattice_value (arguments_of t b) y.1)
        where
          by : (a d e : Bool) → d ≡ true → e ≡ true → reached_or a d e ≡ true
          by true d e p q = refl
          by false d e p q = ap (λ z. if z then e else false) p ∙ q

      tried : (b : ℕ) → IsTrue (trial.is_executable b) → IsTrue (now.is_executable b) ⊎ IsTarget b
      tried b y = by (now.is_executable b) (lists (targets_of t k) b) refl refl y
        where
          by : (a d : Bool) → now.is_executable b ≡ a → lists (targets_of t k) b ≡ d → reached_or a d (all_determined new.lattice_value (arguments_of t b)) ≡ true → IsTrue (now.is_executable b) ⊎ IsTarget b
          by true d p q z = inl p
          by false true p q z = inr (lists_in (targets_of t k) b q, all_are new.lattice_value (arguments_of t b) z)
          by false false p q z = absurd (true≢false (sym z))

      entry_target : (b : ℕ) → In b (targets_of t k) → IsEntryExecutable t new b → IsEntryExecutable t trial b
      entry_target b i e = (try_target b (i, λ v j. varying (new.lattice_value v) (e.1 v j)), e.1)

      successor_in : (i b : ℕ) → slice_get o.successors i ≡ Some b → In b (targets_of t k)
      successor_in i b e = In-left b (successors_of t k) (entries_of t k) (in_slice (successors_of t k) i b (ap (λ l. slice_get l i) shows.successors ∙ e))

      -- each argument of a block that a branch may go to gets a value that is determined
      forwarded_determined : (i b : ℕ) → IsTrue (x.meaning.is_branch o.head) → slice_get o.successors i ≡ Some b → ((j v u : ℕ) → slice_get (arguments_of t b) j ≡ Some v → Forwards x t o i j u → AtMost (new.lattice_value v) (now.lattice_value u)) → (v : ℕ) → In v (arguments_of t b) → new.lattice_value v ≢ Undetermined
      unfolding shape_of
      forwarded_determined i b branch goes lowered v m =
          let j = slice_in (arguments_of t b) v m in
          let full = owed.defined.forwards k i b o k_inside at branch goes in
          let q = same_index (arguments_of t b) (x.meaning.forwarded (shape_of x.meaning t o) i) (sym full) j.0 v j.1 in
          let u = within o.operands q.0 (places.forwarded (shape_of x.meaning t o) admitted branch i q.0 (in_slice (x.meaning.forwarded (shape_of x.meaning t o) i) j.0 q.0 q.1)) in
          below_undetermined (now.lattice_value u.0) (new.lattice_value v) (lowered j.0 v u.0 j.1 (picked_in (x.meaning.forwarded (shape_of x.meaning t o) i) o.operands j.0 q.0 u.0 q.1 u.1)) (some u.0 (in_slice o.operands q.0 u.0 u.1))

      -- and so does each argument of an entry
      named_determined : (i b : ℕ) → AreBelowNamed x t new.lattice_value now.lattice_value o i b → (v : ℕ) → In v (arguments_of t b) → new.lattice_value v ≢ Undetermined
      unfolding shape_of
      named_determined i b below v m = by (x.entry_operands (shape_of x.meaning t o) i j.0) refl (below j.0 v j.1)
        where
          j : (n : ℕ) × (slice_get (arguments_of t b) n ≡ Some v)
          j = slice_in (arguments_of t b) v m

          by : (a : Option ℕ) → x.entry_operands (shape_of x.meaning t o) i j.0 ≡ a → IsBelowNamed new.lattice_value now.lattice_value o.operands a v → new.lattice_value v ≢ Undetermined
          by None e q = varying (new.lattice_value v) q
          by (Some p) e q =
              let u = within o.operands p (places.named (shape_of x.meaning t o) admitted i j.0 p e) in
              below_undetermined (now.lattice_value u.0) (new.lattice_value v) (q u.0 u.1) (some u.0 (in_slice o.operands p u.0 u.1))

      trial_met : IsSatisfied x t now trial k o
      trial_met = record {
        entries = λ i r b there e.
            let m = met.entries i r b there e in
            let listed = subst (In r) (sym shows.regions) (in_slice o.regions i r there) in
            (try_target b (In-right b (successors_of t k) (entries_of t k) (In-flat_map (λ r. first_blocks (layout_of t r)) (regions_of t k) r b listed (first_in (layout_of t r) b e)), named_determined i b m.1), m.1);
        branches = λ i b branch go.
            let m = met.branches i b branch go in
            (try_target b (successor_in i b go.0, forwarded_determined i b branch go.0 m.1), m.1);
        jumps = λ i b no_branch e. entry_target b (successor_in i b e) (met.jumps i b no_branch e);
        folded = met.folded;
        others = met.others;
      }

      trial_below : AreAtMost trial now
      trial_below = record { is_executable = λ b r. ap (λ a. reached_or a (lists (targets_of t k) b) (all_determined new.lattice_value (arguments_of t b))) r; lattice_value = lowered.lattice_value }

      came_from : (b : ℕ) → IsTrue (new.is_executable b) → IsTrue (now.is_executable b) ⊎ IsTarget b
      came_from b r = tried b ((least trial trial_below trial_met).is_executable b r)

      -- where a target stands: in the region of this block, or in one of the operation's own
      abbrev IsPlaced : ℕ → Type 0
      IsPlaced b = (In b (successors_of t k) × (block_parent_of t b ≡ block_parent_of t c)) ⊎ ((r : ℕ) × In r (regions_of t k) × (first_of (layout_of t r) None ≡ Some b))

      ends : (b : ℕ) → In b (successors_of t k) → (last_of None (body_of t c) ≡ Some k) × (block_parent_of t b ≡ block_parent_of t c)
      ends b i =
          let e = linked.edges k b i (inl k_inside) in
          let here : e.block ≡ c = some_is (sym e.in_block ∙ p) in
          (subst (λ z. last_of None (body_of t z) ≡ Some k) here e.last, subst (λ z. block_parent_of t b ≡ block_parent_of t z) here (e.own_region b i))

      is_placed : (b : ℕ) → In b (targets_of t k) → IsPlaced b
      is_placed b i = ⊎_elim
          (λ j. inl (j, (ends b j).1))
          (λ j. let r = flat_map-In (λ r. first_blocks (layout_of t r)) (regions_of t k) b j in inr (r.0, r.1, in_first (layout_of t r.0) b r.2))
          (In-cases b (successors_of t k) (entries_of t k) i)

      target_way : (b : ℕ) → IsPlaced b → HasWay t seen b
      target_way b (inl (i, same_region)) =
          let way = grounded.ways c reached in
          record {
            region = way.region;
            in_region = same_region ∙ way.in_region;
            entry = way.entry;
            entry_first = way.entry_first;
            before = c ∷ way.before;
            path = (record { successor = subst (In b) (sym (ap (succs_from t) (ends b i).0)) i; same_region = same_region }, way.path);
            all_visited = λ d j. ⊎_elim (λ e. subst (λ z. IsTrue (seen z)) (sym e) came) (λ m. more d (way.all_visited d m)) j;
          }
      target_way b (inr (r, i, first)) = record {
        region = r;
        in_region = w.layouts.owned b r (first_of-In b (layout_of t r) first);
        entry = b;
        entry_first = first;
        before = [];
        path = refl;
        all_visited = λ d j. absurd j;
      }

      target_held : (b h : ℕ) → IsPlaced b → block_parent_operation_of t b ≡ Some h → (h ≡ root) ⊎ ((d : ℕ) × (parent_of t h ≡ Some d) × IsTrue (seen d))
      target_held b h (inl (i, same_region)) e = ⊎_elim
          (λ s. inl s)
          (λ y. inr (y.0, y.1, more y.0 y.2))
          (grounded.held c h reached (ap (λ q. up_from q (λ r. region_parent_of t r)) (sym same_region) ∙ e))
      target_held b h (inr (r, i, first)) e =
          let here : k ≡ h = some_is (sym (held_directly t w k r b i (first_of-In b (layout_of t r) first)) ∙ e) in
          inr (c, subst (λ z. parent_of t z ≡ Some c) here p, came)

      pub resume_scan : IsOn x t root f seen new
      resume_scan = record {
        below = below_trans new now f lowered on.below;
        above = above_still;
        ways = λ b r. ⊎_elim (λ before. on.ways b before) (λ y. target_way b (is_placed b y.0)) (came_from b r);
        held = λ b h r e. ⊎_elim (λ before. on.held b h before e) (λ y. target_held b h (is_placed b y.0) e) (came_from b r);
        arguments = λ b v r i. ⊎_elim
            (λ before. below_undetermined (now.lattice_value v) (new.lattice_value v) (lowered.lattice_value v) (on.arguments b v before i))
            (λ y. y.1 v i)
            (came_from b r);
      }

      -- what the operation gives is determined now
      pub look_results : (v : ℕ) → In v (results_of t k) → new.lattice_value v ≢ Undetermined
      unfolding shape_of
      look_results v i = by (x.can_fold o.head) refl (subst (In v) shows.results i)
        where
          by : (b : Bool) → x.can_fold o.head ≡ b → In v o.results → new.lattice_value v ≢ Undetermined
          by true folds j =
              let m = slice_in o.results v j in
              let count = answers.counts (shape_of x.meaning t o) admitted folds (operand_constants now o.operands) (length_map (λ y. lattice_constant (now.lattice_value y)) o.operands) in
              let a = same_index o.results (answers_of x t now o) (sym count) m.0 v m.1 in
              below_undetermined (value_of_answer a.0) (new.lattice_value v) (met.folded m.0 v a.0 folds m.1 a.1) (answer_determined a.0)
          by false none j = varying (new.lattice_value v) (met.others v none j)
