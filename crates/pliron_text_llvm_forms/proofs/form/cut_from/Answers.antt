-- The holes, counted from the byte on, are those that were cut.
use Rattle.std.proofs.Common.{◌∙◌}
use Rattle.pliron_text_llvm_forms.proofs.MovedLemmas.{moved_behind, form_cut}
use Rattle.pliron_text_llvm_forms.proofs.form.cut_from.Goals as goal

pub cut-requires : goal.cut-requires
cut-requires c = moved_behind c.args.text.now _ c.args.start c.args.holes.now _ c.requires.form c.text_from.ensures (c.deref.ensures.value ∙ c.in_ok-moved.ensures)

pub returns : goal.returns
returns c = form_cut c.args.text.now _ _ c.args.start c.args.holes.now _ c.requires.form c.text_from.ensures (c.deref.ensures.value ∙ c.in_ok-moved.ensures) (c.in_ok-form.ensures.form, c.in_ok-form.ensures.whole, c.in_ok-form.ensures.marks)
