use Rattle.std.proofs.Common.{Some, ap, ◌∙◌}
use Rattle.std.specs.Option.{option_copied}
use Rattle.pliron_text_llvm_plans.proofs.names.name_of.Goals as goal

pub returns-in_ok-number-in-Ok-Text-clause-name : goal.returns-in_ok-number-in-Ok-Text-clause-name
returns-in_ok-number-in-Ok-Text-clause-name c =
    (c.in-Some-Some.field-0.now, c.in-Some-Some.span, ap option_copied c.in-Some-Some.is, cc, c.in_ok-number-in-Ok-Text.ensures.numbered ∙ ap Some c.bytes_in.ensures)
