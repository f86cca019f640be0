-- Operands and successors of what was taken.
use Rattle.std.specs.Prelude.{◌≡◌, ℕ, ◌<◌, ◌≤◌, List, [], ◌∷◌, slice_get, Some, ⊤}
use Rattle.pliron_text_llvm_syntax.specs.declared.forms.Hole.{Hole}
use Rattle.pliron_text_llvm_syntax.specs.declared.forms.HoleKind.{HoleKind}
use Rattle.pliron_text_llvm_syntax.specs.declared.forms.HoleKind.TheVariants.{Operand, Successor}
use Rattle.pliron_text_llvm_reader.specs.Cursors.{span_between}

-- `%` is at this byte
abbrev pub IsLocalAt : List ℕ → ℕ → Type 0
IsLocalAt text at = slice_get text at ≡ Some 37

-- a successor is a local name
abbrev pub HasName : List ℕ → HoleKind → ℕ → Type 0
HasName text Operand start = ⊤
HasName text Successor start = IsLocalAt text start

-- holes between `start` and `end`, in their order; none is empty
abbrev pub AreHolesBetween : List ℕ → ℕ → ℕ → List Hole → Type 0
AreHolesBetween text start end [] = start ≤ end
AreHolesBetween text start end (hole ∷ holes) =
    (start ≤ hole.span.start)
    × (hole.span.start < hole.span.end)
    × HasName text hole.kind hole.span.start
    × AreHolesBetween text hole.span.end end holes

abbrev pub hole_between : HoleKind → ℕ → ℕ → Hole
hole_between kind start end = record { kind = kind; span = span_between start end }
