-- Uses of a value become uses of an argument to which each edge forwards it.
--
--     before:   ^a: x = .. ; branch ^b(x)      ^b(q): use x
--     after:    ^a: x = .. ; branch ^b(x)      ^b(q): use q
use Rattle.std.specs.Prelude.{◌≡◌, ℕ, Bool}
use Rattle.pliron_core.specs.Tree.{Tree, In, operands_of}
use Rattle.pliron_core.specs.Invariant.{IsTree}
use Rattle.pliron_core.specs.Writes.{after_replacing}
use Rattle.pliron_laws.specs.Datum.{Head, Meaning}
use Rattle.pliron_theory.specs.Keeps.{IsFit, KeepsRuns, with_roots}
use Rattle.pliron_theory.specs.Renaming.{MayUse}
use Rattle.pliron_rewrite_arguments.specs.OneValue.{IsOneValue}

-- t is u where nothing uses the argument, but v in its place; what uses the argument in u may name it there
abbrev pub PushingLaw : Meaning → Type 0
PushingLaw m = (chosen : Head → Bool) (t u : Tree) (block index v : ℕ) → IsTree u → (h : IsOneValue m u block index v) → t ≡ after_replacing u h.argument v → ((root : ℕ) → IsFit (with_roots m chosen) t root → (k : ℕ) → In h.argument (operands_of u k) → MayUse u root k h.argument) → KeepsRuns (with_roots m chosen) t u × KeepsRuns (with_roots m chosen) u t
