-- Holes of what was taken.
use Rattle.std.proofs.Common.{◌≡◌, ℕ, ◌<◌, ◌≤◌, List, [], ◌∷◌, ◌++◌, length, refl, sym, ap, subst, arith}
use Rattle.pliron_text_llvm_syntax.specs.declared.forms.Hole.{Hole}
use Rattle.pliron_text_llvm_syntax.specs.Forms.{AreHoles}
use Rattle.pliron_text_llvm_syntax.specs.declared.forms.HoleKind.{HoleKind}
use Rattle.pliron_text_llvm_reader.specs.declared.cursor.StatementCursor.{StatementCursor}
use Rattle.pliron_text_llvm_reader.specs.declared.rules.Role.{Role}
use Rattle.pliron_text_llvm_reader.specs.declared.rules.Role.TheVariants.{Plain, Operand, More, Successor}
use Rattle.pliron_text_llvm_syntax.specs.declared.forms.HoleKind.TheVariants.{Operand as OperandHole, Successor as SuccessorHole}
use Rattle.pliron_text_llvm_reader.specs.Cursors.{text_of, place_of}
use Rattle.pliron_text_llvm_reader.specs.Grammar.{FitsRole}
use Rattle.pliron_text_llvm_reader.specs.Holes.{HasName, AreHolesBetween, hole_between}
use Rattle.pliron_text_llvm_reader.specs.Readings.{holes_with, with_end}

-- one more hole behind the last
pub holes_append : (text : List ℕ) (start at : ℕ) (holes : List Hole) (hole : Hole) → AreHolesBetween text start at holes → at ≤ hole.span.start → hole.span.start < hole.span.end → HasName text hole.kind hole.span.start → AreHolesBetween text start hole.span.end (holes ++ hole ∷ [])
holes_append text start at [] hole h behind some name = ((let le : start ≤ at = h in omega (arith, le, behind)), some, name, omega arith)
holes_append text start at (first ∷ holes) hole h behind some name = (h.0, h.1, h.2, holes_append text first.span.end at holes hole h.3 behind some name)

-- they may end later
pub holes_wider : (text : List ℕ) (start at end : ℕ) (holes : List Hole) → AreHolesBetween text start at holes → at ≤ end → AreHolesBetween text start end holes
holes_wider text start at end [] h le = omega (arith, h, le)
holes_wider text start at end (hole ∷ holes) h le = (h.0, h.1, h.2, holes_wider text hole.span.end at end holes h.3 le)

-- no hole
pub holes_none : (text : List ℕ) (start end : ℕ) (holes : List Hole) → holes ≡ [] → start ≤ end → AreHolesBetween text start end holes
holes_none text start end holes e le = subst (AreHolesBetween text start end) (sym e) le

-- what was taken before was taken
pub holes_moved : (before after : List ℕ) (low start at end : ℕ) (holes : List Hole) → AreHolesBetween before low at holes → after ≡ before → start ≡ low → at ≤ end → AreHolesBetween after start end holes
holes_moved before after low start at end holes h same begins le =
    subst (λ text. AreHolesBetween text start end holes) (sym same) (subst (λ n. AreHolesBetween before n end holes) (sym begins) (holes_wider before low at end holes h le))

-- holes in a text are in order there
pub holes_order : (text : List ℕ) (start : ℕ) (holes : List Hole) → AreHolesBetween text start (length text) holes → AreHoles text start holes
holes_order text start [] h = h
holes_order text start (hole ∷ holes) h = (h.0, (let less : hole.span.start < hole.span.end = h.1 in omega (arith, less)), holes_order text hole.span.end holes h.3)

-- holes that begin later are in order from the first byte on
pub holes_lower : (text : List ℕ) (low start end : ℕ) (holes : List Hole) → low ≤ start → AreHolesBetween text start end holes → AreHolesBetween text low end holes
holes_lower text low start end [] le h = omega (arith, h, le)
holes_lower text low start end (hole ∷ holes) le h = ((let begins = h.0 in omega (arith, begins, le)), h.1, h.2, h.3)

-- what was taken since this byte is one more
pub hole_pushed : (text : List ℕ) (low start end : ℕ) (holes after : List Hole) (kind : HoleKind) → after ≡ holes ++ hole_between kind start end ∷ [] → AreHolesBetween text low start holes → start < end → HasName text kind start → AreHolesBetween text low end after
hole_pushed text low start end holes after kind e h some name =
    let le : start ≤ start = omega arith in
    subst (AreHolesBetween text low end) (sym e) (holes_append text low start holes (hole_between kind start end) h le some name)

-- holes behind an opcode are holes of the text
pub holes_whole : (text : List ℕ) (start : ℕ) (holes : List Hole) → AreHolesBetween text start (length text) holes → AreHoles text 0 holes
holes_whole text start holes h = holes_order text 0 holes (holes_lower text 0 start (length text) holes (omega arith) h)

-- the last one may end later
holes_lengthened : (text : List ℕ) (start at end : ℕ) (holes : List Hole) → AreHolesBetween text start at holes → at ≤ end → AreHolesBetween text start end (with_end end holes)
holes_lengthened text start at end [] h le = omega (arith, h, le)
holes_lengthened text start at end (hole ∷ []) h le =
    let some = h.1 in
    let ends : hole.span.end ≤ at = h.3 in
    (h.0, omega (arith, some, ends, le), h.2, omega arith)
holes_lengthened text start at end (hole ∷ next ∷ holes) h le = (h.0, h.1, h.2, holes_lengthened text hole.span.end at end (next ∷ holes) h.3 le)

pub with_end_last : (end : ℕ) (holes : List Hole) (hole : Hole) → with_end end (holes ++ hole ∷ []) ≡ holes ++ hole_between hole.kind hole.span.start end ∷ []
with_end_last end [] hole = refl
with_end_last end (first ∷ []) hole = refl
with_end_last end (first ∷ next ∷ holes) hole = ap (λ xs. first ∷ xs) (with_end_last end (next ∷ holes) hole)

-- what is taken at the place of a cursor is one more hole, or the end of the last one, or none
pub holes_taken : (cursor : StatementCursor) (low end : ℕ) (role : Role) (holes : List Hole) → AreHolesBetween (text_of cursor) low cursor.end holes → cursor.end ≤ place_of cursor → place_of cursor < end → FitsRole cursor role
    → AreHolesBetween (text_of cursor) low end (holes_with role (place_of cursor) end holes)
holes_taken cursor low end Plain holes h behind some fits = holes_wider (text_of cursor) low cursor.end end holes h (omega (arith, behind, some))
holes_taken cursor low end Operand holes h behind some fits = holes_append (text_of cursor) low cursor.end holes (hole_between OperandHole (place_of cursor) end) h behind some tt
holes_taken cursor low end Successor holes h behind some fits = holes_append (text_of cursor) low cursor.end holes (hole_between SuccessorHole (place_of cursor) end) h behind some fits
holes_taken cursor low end More holes h behind some fits = holes_lengthened (text_of cursor) low cursor.end end holes h (omega (arith, behind, some))

-- what adds holes one after another
pub ruleset hole_steps = (holes_none, holes_taken)
