use Rattle.std.proofs.Common.{ap, ◌∙◌}
use Rattle.std.proofs.lemmas.Str.Ascii.{trim_ascii_start_is, trim_ascii_end_is}
use Rattle.pliron_text_mlir_syntax.specs.Numbers.{without_last_blanks}
use Rattle.pliron_text_mlir_syntax.proofs.numbers.trim_blanks.Goals as goal

-- src/numbers.rt:19:1
pub returns : goal.returns
returns c = trim_ascii_end_is _ _ c.trim_ascii_end.ensures.value ∙ ap without_last_blanks (trim_ascii_start_is _ _ c.trim_ascii_start.ensures.value)
