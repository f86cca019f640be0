-- The main statements on linked runs.
use Rattle.std.specs.Prelude.{◌≡◌, ℕ, Bool, List, Some, IsTrue}
use Rattle.pliron_core.specs.Tree.{Tree}
use Rattle.pliron_laws.specs.Datum.{Datum, Meaning}
use Rattle.pliron_theory.specs.Keeps.{KeepsRuns}
use Rattle.pliron_theory.specs.Change.{IsPassChange}
use Rattle.pliron_pass_linked.specs.Calls.{CallingConvention}
use Rattle.pliron_pass_linked.specs.LinkedRuns.{Program, Function, Linker, Reply}
use Rattle.pliron_pass_linked.specs.LinkedAgree.{LinkedSeenAlike, LinkedAgree, AgreesAlone, CallsBackOnly, AgreeOnInputs}
use Rattle.pliron_pass_linked.specs.KeepsLinked.{IsLinker, AllLive, KeepsLinkedRuns, KeepsPrograms}

-- where each function that a name stands for does the same alone, so do linked runs of any function that does
abbrev pub LinkedRunsAgree : Type 0
LinkedRunsAgree = (m : Meaning) (c : CallingConvention) (link : Linker) (p q : Program) (f : Function) → ((n : ℕ) (symbol : Datum) (g : Function) → link n symbol ≡ Some g → AgreesAlone m p q g) → AgreesAlone m p q f → LinkedAgree m c link p q f

-- the same of functions that do the same on some inputs, on which alone the program calls them
abbrev pub LinkedRunsAgreeOnInputs : Type 0
LinkedRunsAgreeOnInputs = (m : Meaning) (c : CallingConvention) (link : Linker) (exported : ℕ → Datum → Bool) (precondition : Function → List Datum → Bool) (p q : Program) → AgreeOnInputs m c link (λ n symbol. IsTrue (exported n symbol)) (λ f inputs. IsTrue (precondition f inputs)) p q → (f : Function) (inputs : List Datum) (world : List Reply) → IsTrue (precondition f inputs) → CallsBackOnly (λ n symbol. IsTrue (exported n symbol)) world → LinkedSeenAlike m c link p q f inputs world

-- keeping linked runs is reflexive and transitive, and follows from keeping the runs of each module
pub record LinkedKeepingLaws : Type 0 where
  pub reflexive : (m : Meaning) (c : CallingConvention) (p : Program) → KeepsLinkedRuns m c p p
  pub transitive : (m : Meaning) (c : CallingConvention) (p q r : Program) → KeepsLinkedRuns m c p q → KeepsLinkedRuns m c q r → KeepsLinkedRuns m c p r
  -- what links the first program links the second one
  pub links : (m : Meaning) (c : CallingConvention) (p q : Program) (link : Linker) → KeepsLinkedRuns m c p q → IsLinker m c p link → AllLive q link → IsLinker m c q link
  pub modules : (m : Meaning) (c : CallingConvention) (p q : Program) → ((n : ℕ) → KeepsRuns m (p n) (q n)) → KeepsLinkedRuns m c p q
  -- where one module keeps its runs, each program that has it does, as after any pass on an operation of the module
  pub one_module : (m : Meaning) (t u : Tree) → KeepsRuns m t u → KeepsPrograms m t u
  pub passed : (m : Meaning) (t u : Tree) (op : ℕ) → IsPassChange m t u op → KeepsPrograms m t u
