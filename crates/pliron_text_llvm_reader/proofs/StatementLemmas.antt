-- Opcodes that were read.
use Rattle.std.proofs.Common.{◌≡◌, ℕ, ◌<◌, ◌≤◌, List, length, sym, ◌∙◌, ap, subst}
use Rattle.std.specs.Prelude.{Some}
use Rattle.pliron_text_llvm_syntax.specs.Tokens.{bytes_of_span}
use Rattle.pliron_text_llvm_syntax.specs.declared.tokens.ByteSpan.{ByteSpan}
use Rattle.pliron_text_llvm_reader.specs.declared.table.OpcodeRow.{OpcodeRow}
use Rattle.pliron_text_llvm_reader.specs.Cursors.{span_between}
use Rattle.pliron_text_llvm_reader.specs.Table.{row_named}
use Rattle.pliron_text_llvm_reader.specs.Statements.{IsOpcodeOf}

-- the token that was taken has the row of its bytes
pub opcode_read : (text bytes : List ℕ) (span : ByteSpan) (start end : ℕ) (row : OpcodeRow) → span ≡ span_between start end → start < end → end ≤ length text
    → bytes_of_span text (span_between start end) ≡ bytes → row_named bytes ≡ Some row → IsOpcodeOf text span row
opcode_read text bytes span start end row e some within same found =
    let whole : IsOpcodeOf text (span_between start end) row = (some, within, ap row_named same ∙ found) in
    subst (λ s. IsOpcodeOf text s row) (sym e) whole
