-- The laws on inlined calls.
use Rattle.std.specs.Prelude.{◌≡◌, ◌<◌, ◌≤◌, ℕ, List, [], ◌∷◌, Some, length}
use Rattle.pliron_core.specs.Tree.{Tree, IsLive}
use Rattle.pliron_core.specs.Invariant.{IsTree}
use Rattle.pliron_laws.specs.Datum.{Datum, Meaning}
use Rattle.pliron_theory.specs.Keeps.{IsFit}
use Rattle.pliron_pass_linked.specs.Calls.{CallingConvention}
use Rattle.pliron_pass_linked.specs.LinkedRuns.{Program, Function, Linker}
use Rattle.pliron_pass_linked.specs.LinkedAgree.{LinkedAgree}
use Rattle.pliron_pass_linked.specs.KeepsLinked.{IsFitIn, IsLiveIn, IsLinker, AllLive, KeepsLinkedRuns, head_in, with_module}
use Rattle.pliron_rewrite_inlining.specs.Inlined.{InlinedCall, IsCallInlined}

-- a name in a module, and the function that it stands for
pub record NamedFunction : Type 0 where
  pub in_module : ℕ
  pub symbol : Datum
  pub function : Function

-- for this linker these names stand for these functions
abbrev pub StandAs : List NamedFunction → Linker → Type 0
StandAs [] link = Unit {0}
StandAs (y ∷ ys) link = (link y.in_module y.symbol ≡ Some y.function) × StandAs ys link

-- linked runs are kept where these names stand for these functions
pub record KeepsRunsLinkedBy (names : List NamedFunction) (m : Meaning) (c : CallingConvention) (p q : Program) : Type 0 where
  pub agrees : (link : Linker) (f : Function) → StandAs names link → IsLinker m c p link → AllLive q link → IsFitIn m p f → IsLiveIn q f → LinkedAgree m c link p q f
  pub heads : (f : Function) → IsFitIn m p f → IsLiveIn q f → head_in q f ≡ head_in p f
  pub stays : (f : Function) → IsFitIn m p f → IsLiveIn q f → IsFitIn m q f
  pub grows : (n : ℕ) → length (p n).operations ≤ length (q n).operations
  pub fewer : (f : Function) → f.root < length (p f.in_module).operations → IsLiveIn q f → IsLiveIn p f

-- it follows where linked runs are kept whatever names stand for, as after passes; it is transitive, and more names may
-- be asked for: so calls are inlined one after the other
pub record LinkedByLaws : Type 0 where
  pub all : (names : List NamedFunction) (m : Meaning) (c : CallingConvention) (p q : Program) → KeepsLinkedRuns m c p q → KeepsRunsLinkedBy names m c p q
  pub transitive : (names : List NamedFunction) (m : Meaning) (c : CallingConvention) (p q r : Program)
      → KeepsRunsLinkedBy names m c p q → KeepsRunsLinkedBy names m c q r → KeepsRunsLinkedBy names m c p r
  pub more : (names more : List NamedFunction) (m : Meaning) (c : CallingConvention) (p q : Program)
      → ((link : Linker) → StandAs more link → StandAs names link) → KeepsRunsLinkedBy names m c p q → KeepsRunsLinkedBy more m c p q

-- in each program that has the tree t for its module n, and in which the name stands for the callee there, the call may be
-- inlined: linked runs of each fit function show the same
abbrev pub InliningLaw : Type 0
InliningLaw = (m : Meaning) (c : CallingConvention) (p : Program) (n : ℕ) (u : Tree) (x : InlinedCall) (symbol : Datum) (link : Linker)
    → IsTree (p n) → IsTree u → IsCallInlined m c (p n) u x symbol
    → IsLinker m c p link → AllLive (with_module p n u) link → link n symbol ≡ Some (record { in_module = n; root = x.callee })
    → (f : Function) → IsFitIn m p f → IsLiveIn (with_module p n u) f → LinkedAgree m c link p (with_module p n u) f

-- so linked runs are kept where the name stands for the callee, if roots stay fit
abbrev pub InliningKeepsLaw : Type 0
InliningKeepsLaw = (m : Meaning) (c : CallingConvention) (p : Program) (n : ℕ) (u : Tree) (x : InlinedCall) (symbol : Datum)
    → IsTree (p n) → IsTree u → IsCallInlined m c (p n) u x symbol
    → length (p n).operations ≤ length u.operations → ((k : ℕ) → k < length (p n).operations → IsLive u k → IsLive (p n) k)
    → ((root : ℕ) → IsFit m (p n) root → IsLive u root → IsFit m u root)
    → KeepsRunsLinkedBy (record { in_module = n; symbol = symbol; function = record { in_module = n; root = x.callee } } ∷ []) m c p (with_module p n u)
