-- What constant propagation leaves, answers and counts.
use Rattle.std.specs.Prelude.{◌≡◌, ◌⊎◌, ◌≤◌, ◌+◌, ◌*◌, ℕ, Bool, filter, length, Some, Result, Ok, Err, OnOk, OnErr, IfOk, IsOkUnless}
use Rattle.pliron_core.specs.declared.attrs.AttrObj.{AttrObj}
use Rattle.pliron_core.specs.declared.attrs.IRStatus.{IRStatus}
use Rattle.pliron_core.specs.Tree.{Tree}
use Rattle.pliron_laws.specs.Datum.{Head}
use Rattle.pliron_laws.specs.InPlace.{Outcome, ReportsChange}
use Rattle.pliron_laws.specs.Linked.{IsWellLinked}
use Rattle.pliron_laws.specs.declared.fault.OptError.{OptError}
use Rattle.pliron_laws.specs.declared.fault.OptError.TheVariants.{Memory}
use Rattle.pliron_theory.specs.Change.{IsPassChange}
use Rattle.pliron_theory.specs.Edges.{KeepsEdges}
use Rattle.pliron_theory.specs.LatticeValues.{LatticeValues, Says, AreClosed, AreHeld}
use Rattle.pliron_opt_sccp.specs.Precise.{AreMostPrecise, AreOwed}
use Rattle.pliron_opt_sccp.specs.Chain.{IsRewrittenByConstants, IsPartlyRewritten, reached_blocks, values_there, is_constant_value, varies}

-- with r executable blocks and, defined in these, c constants and n values that are not constant, the count is
-- at least r + c + n and at most r + c + 2 n
pub record CountsPops (t : Tree) (root : ℕ) (f : LatticeValues) (pops : ℕ) : Type 0 where
  pub least : length (reached_blocks t root f) + length (filter (λ v. is_constant_value (f.lattice_value v)) (values_there t root f)) + length (filter (λ v. varies (f.lattice_value v)) (values_there t root f)) ≤ pops
  pub most : pops ≤ length (reached_blocks t root f) + length (filter (λ v. is_constant_value (f.lattice_value v)) (values_there t root f)) + 2 * length (filter (λ v. varies (f.lattice_value v)) (values_there t root f))

-- closed lattice values of the first tree, the most precise ones where they are owed
pub record AreFound (x : Says) (t : Tree) (root : ℕ) (f : LatticeValues) : Type 0 where
  pub closed : AreClosed x t root f
  pub held : AreHeld t root f
  pub precise : AreOwed x t root → AreMostPrecise x t root f

-- the tree after is reached from the tree before by one set of lattice values, which the count fits
pub record IsPropagated (x : Says) (accepts : AttrObj → Bool) (head : AttrObj → Head) (outcome : Outcome) (t : Tree) (root : ℕ) (t' : Tree) (pops : ℕ) : Type 0 where
  pub facts : LatticeValues
  pub found : AreFound x t root facts
  pub rewritten : IsRewrittenByConstants x.can_fold accepts head outcome t root facts t'
  pub count : CountsPops t root facts pops

-- the tree after allocation failure: as before, or one after a first part of these rewrites
abbrev pub IsPartlyPropagated : Says → (AttrObj → Bool) → (AttrObj → Head) → Outcome → (t : Tree) → ℕ → (t' : Tree) → Type 0
IsPartlyPropagated x accepts head outcome t root t' = (t' ≡ t) ⊎ ((f : LatticeValues) × AreFound x t root f × IsPartlyRewritten x.can_fold accepts head outcome t root f t')

-- what a call answers beside the count, and the count, which is 0 where it failed
abbrev pub status_of_rewrite : Result (IRStatus × ℕ) OptError → Result IRStatus OptError
status_of_rewrite (Ok answer) = Ok answer.0
status_of_rewrite (Err e) = Err e

abbrev pub pops_of : Result (IRStatus × ℕ) OptError → ℕ
pops_of (Ok answer) = answer.1
pops_of (Err e) = 0

-- constant propagation at a root takes the tree before to the tree after, answers this, and pops so often: it is
-- whole, or partial where allocation failed, the only error; whatever the answer, it is what a pass may do, edges
-- inside operations stay, and what was well linked stays so; the status reports whether the tree changed
pub record Propagates (x : Says) (accepts : AttrObj → Bool) (head : AttrObj → Head) (outcome : Outcome) (t : Tree) (root : ℕ) (t' : Tree) (answer : Result IRStatus OptError) (pops : ℕ) : Type 0 where
  pub propagated : OnOk answer (IsPropagated x accepts head outcome t root t' pops)
  pub partly : OnErr answer (IsPartlyPropagated x accepts head outcome t root t')
  pub change : IsPassChange x.meaning t t' root
  pub accurate : IfOk answer (λ status. ReportsChange (Some status) t t')
  pub edges : KeepsEdges t t'
  pub links : (r : ℕ) → IsWellLinked x.meaning t r → IsWellLinked x.meaning t' r
  pub memory : IsOkUnless answer Memory
