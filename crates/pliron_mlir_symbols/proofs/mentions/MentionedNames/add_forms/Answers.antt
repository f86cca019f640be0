use Rattle.std.proofs.Common.{◌≡◌, ◌≤◌, ◌+◌, length, subst, arith}
use Rattle.pliron_mlir_symbols.proofs.FormLemmas.{forms_more, forms_all}
use Rattle.pliron_mlir_symbols.proofs.mentions.MentionedNames.add_forms.Goals as goal

pub loop-number-preserved : goal.loop-number-preserved
loop-number-preserved c =
    let keeps = c.in_ok-add_numbered.ensures.kept in (
      forms_more c.loop-number.self c.add_numbered.new.self c.args.sheet.now c.loop-number.number keeps c.loop-number.invariant.0 c.in_ok-add_numbered.ensures.numbered,
      λ name had. keeps name (c.loop-number.invariant.1 name had),
      omega (arith, c.loop-number-test.true),
      c.loop-number.invariant.3,
    )

pub returns-clause-numbered : goal.returns-clause-numbered
returns-clause-numbered c =
    let end : c.num_form-number-end.result ≡ length c.args.sheet.now.forms.keys = c.loop-number.invariant.3 in
    let all : length c.args.sheet.now.forms.keys ≤ c.loop-number.number = omega (arith, c.loop-number-test.false, end) in
    forms_all c.loop-number.self c.args.sheet.now c.loop-number.number all c.loop-number.invariant.0
