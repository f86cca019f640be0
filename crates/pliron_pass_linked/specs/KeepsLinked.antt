-- Changes of a program's modules that keep what linked runs do.
use Rattle.std.specs.Prelude.{◌≡◌, ◌<◌, ◌≤◌, ℕ, Option, Some, length, nat_eq, if◌then◌else◌}
use Rattle.pliron_core.specs.Tree.{Tree, IsLive, head_of}
use Rattle.pliron_laws.specs.Datum.{Head, Datum, Meaning}
use Rattle.pliron_theory.specs.Keeps.{IsFit}
use Rattle.pliron_pass_linked.specs.Calls.{CallingConvention}
use Rattle.pliron_pass_linked.specs.LinkedRuns.{Program, Function, Linker}
use Rattle.pliron_pass_linked.specs.LinkedAgree.{LinkedAgree}

abbrev pub head_in : Program → Function → Option Head
head_in p f = head_of (p f.in_module) f.root

abbrev pub IsLiveIn : Program → Function → Type 0
IsLiveIn p f = IsLive (p f.in_module) f.root

abbrev pub IsFitIn : Meaning → Program → Function → Type 0
IsFitIn m p f = IsFit m (p f.in_module) f.root

-- each name that stands for a function stands for one that has the name and is fit to run. A name may stand for none:
-- so the functions that aren't fit to run are the world's, as those that the program only declares
pub record IsLinker (m : Meaning) (c : CallingConvention) (p : Program) (link : Linker) : Type 0 where
  pub named : (n : ℕ) (symbol : Datum) (f : Function) → link n symbol ≡ Some f → (h : Head) × (head_in p f ≡ Some h) × (c.symbol_of h ≡ Some symbol)
  pub fit : (n : ℕ) (symbol : Datum) (f : Function) → link n symbol ≡ Some f → IsFitIn m p f

-- what names stand for is live
abbrev pub AllLive : Program → Linker → Type 0
AllLive p link = (n : ℕ) (symbol : Datum) (f : Function) → link n symbol ≡ Some f → IsLiveIn p f

-- where all that names stand for is still live, linked runs of each fit function that is still live show the same; it
-- has the same head and is still fit; what was erased does not come back
pub record KeepsLinkedRuns (m : Meaning) (c : CallingConvention) (p q : Program) : Type 0 where
  pub agrees : (link : Linker) (f : Function) → IsLinker m c p link → AllLive q link → IsFitIn m p f → IsLiveIn q f → LinkedAgree m c link p q f
  pub heads : (f : Function) → IsFitIn m p f → IsLiveIn q f → head_in q f ≡ head_in p f
  pub stays : (f : Function) → IsFitIn m p f → IsLiveIn q f → IsFitIn m q f
  pub grows : (n : ℕ) → length (p n).operations ≤ length (q n).operations
  pub fewer : (f : Function) → f.root < length (p f.in_module).operations → IsLiveIn q f → IsLiveIn p f

-- the program whose module with this number has this tree
unfoldable pub with_module : Program → ℕ → Tree → Program
with_module p n t = λ k. if nat_eq k n then t else p k

-- in each program that has the tree t for a module, the module may become u: linked runs are kept, whatever the calling
-- convention
abbrev pub KeepsPrograms : Meaning → (t u : Tree) → Type 0
KeepsPrograms m t u = (c : CallingConvention) (p : Program) (n : ℕ) → p n ≡ t → KeepsLinkedRuns m c p (with_module p n u)
