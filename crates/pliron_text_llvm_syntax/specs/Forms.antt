-- Forms of statements: their texts with a mark where an operand or a successor stands.
use Rattle.std.specs.Prelude.{◌≤◌, ℕ, Bool, List, [], ◌∷◌, ◌++◌, length, drop, slice_range, slice_index_or, nat_lt, if◌then◌else◌}
use Rattle.pliron_text_llvm_syntax.specs.declared.forms.Hole.{Hole}
use Rattle.pliron_text_llvm_syntax.specs.declared.forms.HoleKind.{HoleKind}
use Rattle.pliron_text_llvm_syntax.specs.declared.forms.HoleKind.TheVariants.{Operand, Successor}
use Rattle.pliron_text_llvm_syntax.specs.Tokens.{bytes_of_span}

-- 0 stands for an operand, 1 for a successor
abbrev pub is_hole_byte : ℕ → Bool
is_hole_byte byte = nat_lt byte 2

abbrev pub mark_of_kind : HoleKind → ℕ
mark_of_kind Operand = 0
mark_of_kind Successor = 1

abbrev pub bytes_of_hole : List ℕ → Hole → List ℕ
bytes_of_hole text hole = bytes_of_span text hole.span

-- holes of the text from this byte on, in order, that don't overlap
abbrev pub AreHoles : List ℕ → ℕ → List Hole → Type 0
AreHoles text at [] = at ≤ length text
AreHoles text at (hole ∷ holes) =
    (at ≤ hole.span.start) × (hole.span.start ≤ hole.span.end) × AreHoles text hole.span.end holes

-- the text from this byte on, with a mark for each hole
abbrev pub form_behind : List ℕ → ℕ → List Hole → List ℕ
form_behind text at [] = drop at text
form_behind text at (hole ∷ holes) =
    slice_range text at hole.span.start ++ (mark_of_kind hole.kind ∷ form_behind text hole.span.end holes)

-- the form with a text for each mark, in their order: none where there are too few
abbrev pub text_of_form : List ℕ → List (List ℕ) → List ℕ
text_of_form [] texts = []
text_of_form (byte ∷ form) texts =
    if is_hole_byte byte then slice_index_or texts 0 [] ++ text_of_form form (drop 1 texts)
    else byte ∷ text_of_form form texts
