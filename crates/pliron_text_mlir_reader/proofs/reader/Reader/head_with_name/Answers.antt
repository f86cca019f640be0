use Rattle.std.proofs.Common.{ap, subst, ◌∙◌}
use Rattle.pliron_dialect_mlir.specs.Heads.{named_head}
use Rattle.pliron_text_mlir_syntax.specs.Sheets.{IsFormOf}
use Rattle.pliron_text_mlir_syntax.proofs.SheetLemmas.{keeps_more}
use Rattle.pliron_text_mlir_reader.proofs.reader.Reader.head_with_name.Goals as goal

pub returns-in_err-named_head-clause-kept : goal.returns-in_err-named_head-clause-kept
returns-in_err-named_head-clause-kept c = keeps_more c.args.self.now.sheet c.number.new.self c.number_of_texts.new.self c.number.ensures.kept c.number_of_texts.ensures.kept

pub returns-clause-same : goal.returns-clause-same
returns-clause-same c =
    let t = c.number_of_texts.new.self in
    let symbol = c.in_ok-symbol.symbol in
    let form = c.in_ok-form.form in
    let has_form = subst (IsFormOf t form) c.form_texts-written.ensures c.in_ok-form.ensures.numbered in (
      symbol,
      c.number_of_texts.ensures.kept.0 symbol c.args.name.now c.in_ok-symbol.ensures.numbered,
      (form, has_form, c.in_ok-named_head.ensures ∙ ap (λ class. named_head class symbol form) c.named_class.ensures),
    )

pub returns-clause-kept : goal.returns-clause-kept
returns-clause-kept c = keeps_more c.args.self.now.sheet c.number.new.self c.number_of_texts.new.self c.number.ensures.kept c.number_of_texts.ensures.kept
