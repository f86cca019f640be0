-- Edges are kept as they were found feasible.
use Rattle.std.proofs.Common.{◌≡◌, ◌⊎◌, inl, inr, ⊎_elim, ℕ, Bool, true, false, true≢false, cond, List, Option, Some, None, refl, sym, ap, ◌∙◌, arith}
use Rattle.std.specs.HashSet.{HashSet}
use Rattle.pliron_core.specs.declared.attrs.AttrObj.{AttrObj}
use Rattle.pliron_core.specs.Tree.{Tree, operands_of}
use Rattle.pliron_laws.proofs.Records.{op_shows}
use Rattle.pliron_theory.specs.LatticeValues.{LatticeValues, Says, operand_constants}
use Rattle.pliron_opt_sccp.specs.declared.feasible_edges.FeasibleEdges.{FeasibleEdges}
use Rattle.pliron_opt_sccp.specs.Constraints.{AreFeasible}
use Rattle.pliron_opt_sccp.specs.Feasible.{holds, leads, AreFound, KeepsAmong, KeepsFeasible}
use Rattle.pliron_laws.specs.Tree.{is_one_key}
use Rattle.pliron_opt_sccp.proofs.EdgesAsked.{may}

-- one operation's blocks are kept
pub kept_one : {S : Type 0} (find more : ℕ → Option (HashSet ℕ S)) (op : ℕ) (blocks : HashSet ℕ S) → ((q : ℕ) → more q ≡ cond (is_one_key op q) (Some blocks) (find q)) → (k b : ℕ) → holds (more k) b ≡ true → (holds (find k) b ≡ true) ⊎ ((k ≡ op) × (holds (Some blocks) b ≡ true))
kept_one find more op blocks new k b led = by (is_one_key op k) refl
  where
    one_key : (x y : ℕ) → is_one_key x y ≡ true → x ≡ y
    one_key x y q = grind arith

    found : (z : Bool) → is_one_key op k ≡ z → holds (cond z (Some blocks) (find k)) b ≡ true
    found z e = sym (ap (λ o. holds o b) (new k ∙ ap (λ q. cond q (Some blocks) (find k)) e)) ∙ led

    by : (z : Bool) → is_one_key op k ≡ z → (holds (find k) b ≡ true) ⊎ ((k ≡ op) × (holds (Some blocks) b ≡ true))
    by true e = inr (sym (one_key op k e), found true e)
    by false e = inl (found false e)

-- what was kept before was as much
pub kept_past : {S : Type 0} (op : ℕ) (blocks : Option (HashSet ℕ S)) (before between edges' : FeasibleEdges) → ((k b : ℕ) → leads between k b ≡ leads before k b) → KeepsAmong op blocks between edges' → KeepsAmong op blocks before edges'
kept_past op blocks before between edges' same keeps = λ j b led. ⊎_elim (λ h. inl (sym (same j b) ∙ h)) (λ y. inr y) (keeps j b led)

-- the operation may go to the blocks that folding answers
pub are_found : {S : Type 0} (x : Says) (t : Tree) (f : LatticeValues) (op : ℕ) (known : List (Option AttrObj)) → known ≡ operand_constants f (operands_of t op) → (blocks : Option (HashSet ℕ S)) → AreFeasible x.meaning x.can_fold_branch x.feasible t op known blocks → AreFound x t f op blocks
are_found x t f op known same None are = tt
are_found x t f op known same (Some blocks) are = λ b held i o at goes. may x t f op o at known (same ∙ ap (operand_constants f) (op_shows t op o at).operands) (Some blocks) are i b goes (sym held)

pub keeps_found : {S : Type 0} (x : Says) (t : Tree) (f : LatticeValues) (op : ℕ) (blocks : Option (HashSet ℕ S)) (edges edges' : FeasibleEdges) → AreFound x t f op blocks → KeepsAmong op blocks edges edges' → KeepsFeasible x t f op edges edges'
keeps_found x t f op None edges edges' found keeps = λ j b led. ⊎_elim (λ h. inl h) (λ y. absurd (true≢false (sym y.1))) (keeps j b led)
keeps_found x t f op (Some blocks) edges edges' found keeps = λ j b led. ⊎_elim (λ h. inl h) (λ y. inr (y.0, found b y.1)) (keeps j b led)
