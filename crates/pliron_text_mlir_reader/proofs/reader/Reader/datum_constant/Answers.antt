use Rattle.std.proofs.Common.{subst}
use Rattle.pliron_text_mlir_syntax.specs.Sheets.{IsFormOf}
use Rattle.pliron_text_mlir_syntax.proofs.SheetLemmas.{keeps_more, form_kept}
use Rattle.pliron_text_mlir_reader.specs.SaidOf.{form_written}
use Rattle.pliron_text_mlir_reader.specs.TakenHeads.{without_location}
use Rattle.pliron_text_mlir_reader.proofs.reader.Reader.datum_constant.Goals as goal

pub returns-in_err-datum-clause-kept : goal.returns-in_err-datum-clause-kept
returns-in_err-datum-clause-kept c = keeps_more c.args.self.now.sheet c.number_of_texts.new.self c.number_of_texts-2.new.self c.number_of_texts.ensures.kept c.number_of_texts-2.ensures.kept

pub returns-in_err-datum_head-clause-kept : goal.returns-in_err-datum_head-clause-kept
returns-in_err-datum_head-clause-kept c = keeps_more c.args.self.now.sheet c.number_of_texts.new.self c.number_of_texts-2.new.self c.number_of_texts.ensures.kept c.number_of_texts-2.ensures.kept

pub returns-clause-same : goal.returns-clause-same
returns-clause-same c =
    let written = form_written c.args.self.now c.args.pending.now c.args.tail.now in
    let s = c.number_of_texts.new.self in
    let t = c.number_of_texts-2.new.self in
    let form = c.in_ok-form.form in
    let datum = c.in_ok-datum.datum in
    let has_form = form_kept s t form written c.number_of_texts-2.ensures.kept (subst (IsFormOf s form) c.form_texts-texts.ensures c.in_ok-form.ensures.numbered) in
    let has_datum = subst (λ texts. IsFormOf t datum (without_location texts)) c.form_texts-texts.ensures c.in_ok-datum.ensures.numbered in
    (datum, has_datum, (form, has_form, c.in_ok-datum_head.ensures))

pub returns-clause-kept : goal.returns-clause-kept
returns-clause-kept c = keeps_more c.args.self.now.sheet c.number_of_texts.new.self c.number_of_texts-2.new.self c.number_of_texts.ensures.kept c.number_of_texts-2.ensures.kept
