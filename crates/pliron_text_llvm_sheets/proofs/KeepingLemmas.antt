-- Sheets that keep what they have.
use Rattle.pliron_text_llvm_sheets.specs.declared.sheet.LlvmSheet.{LlvmSheet}
use Rattle.pliron_text_llvm_sheets.specs.Sheets.{KeepsSheet}

pub sheet_kept : (sheet : LlvmSheet) → KeepsSheet sheet sheet
sheet_kept sheet = record { texts = λ number text is. is; values = λ number note is. is; blocks = λ number name is. is }

pub sheet_kept_on : (a b c : LlvmSheet) → KeepsSheet a b → KeepsSheet b c → KeepsSheet a c
sheet_kept_on a b c first second = record {
  texts = λ number text is. second.texts number text (first.texts number text is);
  values = λ number note is. second.values number note (first.values number note is);
  blocks = λ number name is. second.blocks number name (first.blocks number name is);
}

pub ruleset sheet_steps = (sheet_kept, sheet_kept_on)
