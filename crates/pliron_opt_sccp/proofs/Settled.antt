-- Operations stay settled while no operand of theirs falls, and where all are settled facts are closed.
use Rattle.std.proofs.Common.{◌≡◌, inl, inr, ⊎_elim, ℕ, List, Option, Some, None, slice_get, sym, ap, ◌∙◌, subst, arith}
use Rattle.pliron_core.specs.Tree.{Tree, In}
use Rattle.pliron_core.specs.Invariant.{IsTree}
use Rattle.pliron_core.proofs.HoldingLemmas.{in_slice}
use Rattle.pliron_laws.specs.Tree.{Operation, op_at, shape_of}
use Rattle.pliron_theory.proofs.Alike.{map_same}
use Rattle.pliron_theory.proofs.KnownData.{picked_at}
use Rattle.pliron_theory.specs.LatticeValues.{LatticeValue, Undetermined, NotAConstant, AtMost, lattice_constant, value_of_answer, LatticeValues, Says, operand_constants, IsInExecutableBlock, IsEntryExecutable, IsBelowNamed, AreClosed}
use Rattle.pliron_opt_sccp.specs.Settling.{IsSatisfied, AreAtMost, AreSettledBut, AreStarted}
use Rattle.pliron_theory.proofs.FactLattice.{at_most_trans}

-- what isn't constant stays so
pub varies_still : (f g : LatticeValue) → AtMost g f → f ≡ NotAConstant → g ≡ NotAConstant
varies_still f g (inl u) e = let x : Undetermined ≡ NotAConstant = sym u ∙ e in absurd (grind arith)
varies_still f g (inr (inl n)) e = n
varies_still f g (inr (inr s)) e = s ∙ e

-- facts that fall go on standing below what is named, and what is seen is the facts of operands
pub named_lower : (now later seen : ℕ → LatticeValue) (operands : List ℕ) (a : Option ℕ) (v : ℕ) → AtMost (later v) (now v) → IsBelowNamed now seen operands a v → IsBelowNamed later seen operands a v
named_lower now later seen operands None v below q = varies_still (now v) (later v) below q
named_lower now later seen operands (Some p) v below q = λ w at. at_most_trans (later v) (now v) (seen w) below (q w at)

named_same : (now seen seen' : ℕ → LatticeValue) (operands : List ℕ) → ((v : ℕ) → In v operands → seen' v ≡ seen v) → (a : Option ℕ) (v : ℕ) → IsBelowNamed now seen operands a v → IsBelowNamed now seen' operands a v
named_same now seen seen' operands same None v q = q
named_same now seen seen' operands same (Some p) v q = λ w at. subst (AtMost (now v)) (sym (same w (in_slice operands p w at))) (q w at)

module _ (x : Says) (t : Tree) where
  pub entered_still : (f g : LatticeValues) (b : ℕ) → AreAtMost g f → IsEntryExecutable t f b → IsEntryExecutable t g b
  entered_still f g b below (reached, varies) = (below.is_executable b reached, λ v i. varies_still (f.lattice_value v) (g.lattice_value v) (below.lattice_value v) (varies v i))

  -- facts that fall go on meeting what was asked
  pub met_still : (f now later : LatticeValues) (k : ℕ) (o : Operation) → AreAtMost later now → IsSatisfied x t f now k o → IsSatisfied x t f later k o
  met_still f now later k o below m = record {
    entries = λ i r b at e. let y = m.entries i r b at e in (below.is_executable b y.0, λ j v a. named_lower now.lattice_value later.lattice_value f.lattice_value o.operands (x.entry_operands (shape_of x.meaning t o) i j) v (below.lattice_value v) (y.1 j v a));
    branches = λ i b branch go.
        let y = m.branches i b branch go in
        (below.is_executable b y.0, λ j v w at g. at_most_trans (later.lattice_value v) (now.lattice_value v) (f.lattice_value w) (below.lattice_value v) (y.1 j v w at g));
    jumps = λ i b no_branch at. entered_still now later b below (m.jumps i b no_branch at);
    folded = λ i v a folds at said. at_most_trans (later.lattice_value v) (now.lattice_value v) (value_of_answer a) (below.lattice_value v) (m.folded i v a folds at said);
    others = λ v none i. varies_still (now.lattice_value v) (later.lattice_value v) (below.lattice_value v) (m.others v none i);
  }

  handed_same : (f g : LatticeValues) (vs : List ℕ) → ((v : ℕ) → In v vs → g.lattice_value v ≡ f.lattice_value v) → operand_constants g vs ≡ operand_constants f vs
  handed_same f g vs same = map_same (λ v. lattice_constant (g.lattice_value v)) (λ v. lattice_constant (f.lattice_value v)) vs (λ v i. ap lattice_constant (same v i))

  -- only the facts of operands were read
  pub met_same : (f g now : LatticeValues) (k : ℕ) (o : Operation) → ((v : ℕ) → In v o.operands → g.lattice_value v ≡ f.lattice_value v) → IsSatisfied x t f now k o → IsSatisfied x t g now k o
  met_same f g now k o same m = record {
    entries = λ i r b at e. let y = m.entries i r b at e in (y.0, λ j v a. named_same now.lattice_value f.lattice_value g.lattice_value o.operands same (x.entry_operands (shape_of x.meaning t o) i j) v (y.1 j v a));
    branches = λ i b branch go.
        let y = m.branches i b branch (go.0, λ folds. subst (λ ks. In b (x.feasible (shape_of x.meaning t o) o.successors ks)) (handed_same f g o.operands same) (go.1 folds)) in (
          y.0,
          λ j v w at forwards.
              let p = picked_at (x.meaning.forwarded (shape_of x.meaning t o) i) o.operands j (Some w) forwards in
              subst (AtMost (now.lattice_value v)) (sym (same w (in_slice o.operands p.0 w p.2))) (y.1 j v w at forwards),
        );
    jumps = m.jumps;
    folded = λ i v a folds at said. m.folded i v a folds at (ap (λ ks. slice_get (x.constants (shape_of x.meaning t o) ks) i) (sym (handed_same f g o.operands same)) ∙ said);
    others = m.others;
  }

  -- where nothing waits the facts are closed
  pub closed_when_settled : (root : ℕ) (f : LatticeValues) → AreStarted t root f → AreSettledBut x t f (λ b. ⊥) (λ k v. ⊥) (λ k. ⊥) → IsTree t → AreClosed x t root f
  closed_when_settled root f started settled w = record {
    inside = started.inside;
    outside = started.outside;
    root_entries = started.entries;
    entries = λ k i r b o liveness at there e. (met k o liveness at).entries i r b there e;
    branches = λ k i b o liveness at branch go. (met k o liveness at).branches i b branch go;
    jumps = λ k i b o liveness at no_branch e. (met k o liveness at).jumps i b no_branch e;
    folded = λ k i v a o liveness at folds e said. (met k o liveness at).folded i v a folds e said;
    others = λ k v o liveness at none i. (met k o liveness at).others v none i;
  }
    where
      met : (k : ℕ) (o : Operation) → IsInExecutableBlock t f k → op_at t k ≡ Some o → IsSatisfied x t f f k o
      met k o (b, p, r) at = ⊎_elim
          (λ z. absurd z)
          (λ y. ⊎_elim (λ q. met_same q.seen f f k o (λ v i. ⊎_elim (λ e. e) (λ z. absurd z) (q.same v i)) q.met) (λ z. absurd z) y)
          (settled k b o p r at)
