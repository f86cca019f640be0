-- With monotone folds, what an operation asks of facts that stand above a closed set of facts is met by that set.
use Rattle.std.proofs.Common.{◌≡◌, ◌≢◌, inl, inr, ℕ, zero, suc, List, [], ◌∷◌, length, Option, Some, None, slice_get, refl, sym, ap, ◌∙◌, arith, IsTrue}
use Rattle.pliron_core.specs.declared.attrs.AttrObj.{AttrObj}
use Rattle.pliron_core.specs.Tree.{Tree, In, arguments_of}
use Rattle.pliron_core.proofs.HoldingLemmas.{not_none, some_is, in_slice}
use Rattle.pliron_core.proofs.UsedLemmas.{length_map}
use Rattle.pliron_laws.specs.Tree.{Operation, op_at, shape_of}
use Rattle.pliron_laws.specs.Laws.{Admitted}
use Rattle.pliron_laws.specs.Folding.{KnowsMore, FoldsMonotonely}
use Rattle.pliron_theory.specs.LatticeValues.{LatticeValue, Undetermined, Constant, NotAConstant, AtMost, lattice_constant, value_of_answer, LatticeValues, Says, operand_constants, answers_of, IsInExecutableBlock, IsFeasibleEdge, Forwards, AreClosed}
use Rattle.pliron_theory.proofs.FactLattice.{at_most_trans}
use Rattle.pliron_theory.proofs.KnownData.{picked_at}

knows_one : (f g : LatticeValue) (a : Option AttrObj) → lattice_constant g ≡ a → AtMost g f → f ≢ Undetermined → (ks ms : List (Option AttrObj)) → KnowsMore ks ms → KnowsMore (a ∷ ks) (lattice_constant f ∷ ms)
knows_one f g None e below some ks ms k = k
knows_one f Undetermined (Some c) e below some ks ms k = absurd (not_none e)
knows_one f NotAConstant (Some c) e below some ks ms k = absurd (not_none e)
knows_one f (Constant d) (Some c) e (inl u) some ks ms k = absurd (some u)
knows_one f (Constant d) (Some c) e (inr (inl n)) some ks ms k = absurd (grind arith)
knows_one f (Constant d) (Some c) e (inr (inr s)) some ks ms k = (ap lattice_constant (sym s) ∙ e, k)

knows_at : (ks ms : List (Option AttrObj)) → KnowsMore ks ms → (i : ℕ) (a : Option AttrObj) → slice_get ms i ≡ Some a → (b : Option AttrObj) × (slice_get ks i ≡ Some b) × AtMost (value_of_answer b) (value_of_answer a)
knows_at [] [] k i a e = absurd (not_none e)
knows_at [] (m ∷ ms) k i a e = absurd k
knows_at (x ∷ ks) [] k i a e = absurd (not_none e)
knows_at (None ∷ ks) (m ∷ ms) k zero a e = (None, refl, inr (inl refl))
knows_at (Some c ∷ ks) (m ∷ ms) k zero a e = (Some c, refl, inr (inr (ap value_of_answer (sym k.0 ∙ some_is e))))
knows_at (None ∷ ks) (m ∷ ms) k (suc i) a e = knows_at ks ms k i a e
knows_at (Some c ∷ ks) (m ∷ ms) k (suc i) a e = knows_at ks ms k.1 i a e

module _ (x : Says) (mono : FoldsMonotonely x.meaning x.can_fold x.can_fold_branch x.constants x.feasible) (t : Tree) (root : ℕ) (g f : LatticeValues) (closed : AreClosed x t root g) where
  knows_more : (vs : List ℕ) → ((v : ℕ) → In v vs → AtMost (g.lattice_value v) (f.lattice_value v)) → ((v : ℕ) → In v vs → f.lattice_value v ≢ Undetermined) → KnowsMore (operand_constants g vs) (operand_constants f vs)
  knows_more [] below some = tt
  knows_more (v ∷ vs) below some = knows_one (f.lattice_value v) (g.lattice_value v) (lattice_constant (g.lattice_value v)) refl (below v (inl refl)) (some v (inl refl)) (operand_constants g vs) (operand_constants f vs) (knows_more vs (λ w i. below w (inr i)) (λ w i. some w (inr i)))

  module _ (k : ℕ) (o : Operation) (liveness : IsInExecutableBlock t g k) (at : op_at t k ≡ Some o) (admitted : Admitted x.meaning (shape_of x.meaning t o)) (below : (v : ℕ) → In v o.operands → AtMost (g.lattice_value v) (f.lattice_value v)) (some : (v : ℕ) → In v o.operands → f.lattice_value v ≢ Undetermined) where
    counted : length (operand_constants g o.operands) ≡ (shape_of x.meaning t o).operands
    unfolding shape_of
    counted = length_map (λ v. lattice_constant (g.lattice_value v)) o.operands

    -- a result that is lowered to its answer
    pub above_result : (i v : ℕ) (a : Option AttrObj) → IsTrue (x.can_fold o.head) → slice_get o.results i ≡ Some v → slice_get (answers_of x t f o) i ≡ Some a → AtMost (g.lattice_value v) (value_of_answer a)
    unfolding shape_of
    above_result i v a folds listed said =
        let p = knows_at (answers_of x t g o) (answers_of x t f o) (mono.answers (shape_of x.meaning t o) admitted folds (operand_constants g o.operands) (operand_constants f o.operands) counted (knows_more o.operands below some)) i a said in
        at_most_trans (g.lattice_value v) (value_of_answer p.0) (value_of_answer a) (closed.folded k i v p.0 o liveness at folds listed p.1) p.2

    -- a block that is entered
    pub above_jump : (i b : ℕ) → IsFeasibleEdge x t f o i b → IsFeasibleEdge x t g o i b
    unfolding shape_of
    above_jump i b go = (go.0, λ folds. mono.jumps (shape_of x.meaning t o) o.successors admitted folds refl (operand_constants g o.operands) (operand_constants f o.operands) counted (knows_more o.operands below some) b (go.1 folds))

    -- an argument that is lowered to what is forwarded to it
    pub above_argument : (i b j v w : ℕ) → IsTrue (x.meaning.is_branch o.head) → IsFeasibleEdge x t f o i b → slice_get (arguments_of t b) j ≡ Some v → Forwards x t o i j w → AtMost (g.lattice_value v) (f.lattice_value w)
    above_argument i b j v w branch go listed forwards =
        let p = picked_at (x.meaning.forwarded (shape_of x.meaning t o) i) o.operands j (Some w) forwards in
        at_most_trans (g.lattice_value v) (g.lattice_value w) (f.lattice_value w) ((closed.branches k i b o liveness at branch (above_jump i b go)).1 j v w listed forwards) (below w (in_slice o.operands p.0 w p.2))
