use Rattle.pliron_text_llvm_sheets.proofs.KeepingLemmas.{sheet_kept_on}
use Rattle.pliron_text_llvm_building.proofs.build.add_operation.Goals as goal

pub returns-in_err-define_result-clause-sheet : goal.returns-in_err-define_result-clause-sheet
returns-in_err-define_result-clause-sheet c =
    sheet_kept_on c.args.sheet.now c.add_undefined_of.new.sheet c.define_result.new.sheet c.add_undefined_of.ensures.sheet c.define_result.ensures

pub returns-in_err-push-clause-sheet : goal.returns-in_err-push-clause-sheet
returns-in_err-push-clause-sheet c =
    sheet_kept_on c.args.sheet.now c.add_undefined_of.new.sheet c.define_result.new.sheet c.add_undefined_of.ensures.sheet c.define_result.ensures

pub returns-clause-sheet : goal.returns-clause-sheet
returns-clause-sheet c =
    sheet_kept_on c.args.sheet.now c.add_undefined_of.new.sheet c.define_result.new.sheet c.add_undefined_of.ensures.sheet c.define_result.ensures
