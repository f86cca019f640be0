use Rattle.std.proofs.Common.{refl}
use Rattle.pliron_text_mlir_reader.proofs.TakenLemmas.{taken_as_kept}
use Rattle.pliron_text_mlir_reader.proofs.reader.Reader.kept_head.Goals as goal

pub invariant_of-result : goal.invariant_of-result
invariant_of-result c = record {
  taken =
      taken_as_kept c.form_number.new.self c.args.text.now _ (_, (_, c.in_ok-form.ensures.numbered, c.in_ok-form.ensures.kept.0 _ _ c.in_ok-name.ensures.numbered, refl), c.in_ok-head.ensures);
}
