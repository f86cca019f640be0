use Rattle.pliron_text_llvm_sheets.proofs.KeepingLemmas.{sheet_kept_on}
use Rattle.pliron_text_llvm_building.proofs.function.build_source.Goals as goal

pub returns-in-Ok-clause-sheet : goal.returns-in-Ok-clause-sheet
returns-in-Ok-clause-sheet c =
    sheet_kept_on c.args.sheet.now c.plan_with_header.new.sheet c.build_planned.new.sheet c.plan_with_header.ensures.sheet c.build_planned.ensures.sheet
