-- Lines of a body.
use Rattle.std.proofs.Common.{◌≡◌, ℕ, zero, suc, ◌+◌, ◌<◌, ◌≤◌, List, [], ◌∷◌, ◌++◌, length, get_or, take, map, sym, ap, ◌∙◌, subst, append_assoc, arith}
use Rattle.std.proofs.lemmas.List.{take_more, length-map, length-take-le, map-append}
use Rattle.pliron_text_llvm_syntax.specs.declared.lines.LineText.{LineText}
use Rattle.pliron_text_llvm_syntax.specs.Lines.{span_of_line, AreLines, AreGaps}
use Rattle.pliron_text_llvm_reader.specs.declared.blocks.LineRole.{LineRole}
use Rattle.pliron_text_llvm_reader.specs.declared.blocks.BlockLines.{BlockLines}
use Rattle.pliron_text_llvm_reader.specs.declared.body.BodyLine.{BodyLine}
use Rattle.pliron_text_llvm_reader.specs.Blocks.{AreBlocks}
use Rattle.pliron_text_llvm_reader.specs.Bodies.{role_of_line, line_of, AddsLine, AreRows}
use Rattle.pliron_text_llvm_reader.specs.Bodies.AreRows.{Nothing, Behind}
use Rattle.pliron_text_llvm_syntax.specs.declared.forms.Hole.{Hole}

lines_le : (start end : ℕ) (lines : List LineText) → AreLines start end lines → start ≤ end
lines_le start end [] h = h
lines_le start end (line ∷ lines) h = let le = lines_le (span_of_line line).end end lines h.2 in omega (arith, h.0, h.1, le)

-- no line ends before it begins
pub line_ordered : (start end : ℕ) (lines : List LineText) (i : ℕ) (d : LineText) → AreLines start end lines → i < length lines → (span_of_line (get_or lines i d)).start ≤ (span_of_line (get_or lines i d)).end
line_ordered start end [] i d h less = absurd (omega (arith, less))
line_ordered start end (line ∷ lines) zero d h less = let some = h.1 in omega (arith, some)
line_ordered start end (line ∷ lines) (suc i) d h less = line_ordered (span_of_line line).end end lines i d h.2 (omega (arith, less))

-- none is behind the end
pub line_within : (start end : ℕ) (lines : List LineText) (i : ℕ) (d : LineText) → AreLines start end lines → i < length lines → (span_of_line (get_or lines i d)).end ≤ end
line_within start end [] i d h less = absurd (omega (arith, less))
line_within start end (line ∷ lines) zero d h less = lines_le (span_of_line line).end end lines h.2
line_within start end (line ∷ lines) (suc i) d h less = line_within (span_of_line line).end end lines i d h.2 (omega (arith, less))

-- lines that begin later begin later than the first byte
pub lines_lower : (low start end : ℕ) (lines : List LineText) → low ≤ start → AreLines start end lines → AreLines low end lines
lines_lower low start end [] le h = omega (arith, h, le)
lines_lower low start end (line ∷ lines) le h = ((let begins = h.0 in omega (arith, begins, le)), h.1, h.2)

-- a line more was read
pub lines_read : (before : List LineText) (now after : List BodyLine) (read : BodyLine) (lines : List LineText) (i : ℕ) (d : LineText) → line_of read ≡ get_or lines i d → i < length lines → map line_of now ≡ before ++ take i lines → after ≡ now ++ read ∷ []
    → map line_of after ≡ before ++ take (i + 1) lines
lines_read before now after read lines i d same less e grown =
    ap (map line_of) grown ∙ map-append line_of now (read ∷ []) ∙ ap (λ x. map line_of now ++ x ∷ []) same ∙ ap (λ xs. xs ++ get_or lines i d ∷ []) e
    ∙ append_assoc before (take i lines) (get_or lines i d ∷ []) ∙ ap (λ xs. before ++ xs) (sym (take_more lines i d less))

-- lines of the text up to this byte end there
pub lines_within : (text before : List ℕ) (start end : ℕ) (lines read : List LineText) → before ≡ take end text → end ≤ length text → AreLines start (length before) lines → read ≡ lines → AreLines start end read
lines_within text before start end lines read e within h same =
    let long : length before ≡ end = ap length e ∙ length-take-le end text within in
    subst (AreLines start end) (sym same) (subst (λ n. AreLines start n lines) long h)

-- what is outside lines of the text up to this byte
pub gaps_within : (text before : List ℕ) (start end : ℕ) (lines read : List LineText) → before ≡ take end text → end ≤ length text → AreGaps before start (length before) lines → read ≡ lines → AreGaps (take end text) start end read
gaps_within text before start end lines read e within h same =
    let long : length before ≡ end = ap length e ∙ length-take-le end text within in
    subst (AreGaps (take end text) start end) (sym same) (subst (λ t. AreGaps t start end lines) e (subst (λ n. AreGaps before start n lines) long h))

-- blocks by the roles of lines are blocks of the lines
pub blocks_read : (roles : List LineRole) (lines : List BodyLine) (blocks : List BlockLines) → roles ≡ map role_of_line lines → AreBlocks roles 0 (length roles) blocks → AreBlocks (map role_of_line lines) 0 (length lines) blocks
blocks_read roles lines blocks e h =
    let long : length roles ≡ length lines = ap length e ∙ length-map lines role_of_line in
    subst (λ rs. AreBlocks rs 0 (length lines) blocks) e (subst (λ n. AreBlocks roles 0 n blocks) long h)

-- no line
pub rows_none : (text : List ℕ) (lines : List BodyLine) (holes : List Hole) → lines ≡ [] → holes ≡ [] → AreRows text lines holes
rows_none text lines holes e none = subst (λ xs. AreRows text xs holes) (sym e) (subst (AreRows text []) (sym none) Nothing)

-- a line more
pub rows_grown : (text : List ℕ) (lines after : List BodyLine) (holes grown : List Hole) (line : BodyLine) → AreRows text lines holes → AddsLine text line holes grown → after ≡ lines ++ line ∷ [] → AreRows text after grown
rows_grown text lines after holes grown line rows adds e = subst (λ xs. AreRows text xs grown) (sym e) (Behind line grown rows adds)
