use Rattle.std.proofs.Common.{rules, ◌≡◌, Some, None, length, replicate, slice_get, refl, ap, ◌∙◌, arith}
use Rattle.std.proofs.lemmas.Option.{slice_get_read}
use Rattle.pliron_opt_cfg.proofs.KnownLemmas.{answer_at, answer_past}
use Rattle.pliron_opt_cfg.proofs.folding.known.answer_without_constants.Goals as goal

pub returns-then-index-len-clause-ok : goal.returns-then-index-len-clause-ok
returns-then-index-len-clause-ok g c =
    let at : slice_get c.in_ok-answers.answers.items c.args.index ≡ Some c.swap_remove.result = slice_get_read c.in_ok-answers.answers.items (length c.in_ok-answers.answers.items) c.args.index c.swap_remove.result refl (search (rules, c.if-index-len.true)) c.swap_remove.ensures.value in
    answer_at g.D.HasMeaning.meaning g.D.ConstFoldInterface.constants c.args.ctx.now.tree c.args.op c.args.index c.in_ok-answers.answers.items c.deref.result.now c.requires.live (c.deref.ensures.value ∙ c.in_ok-nothing.ensures.ok ∙ ap (λ n. replicate n None) c.num_operand.ensures) c.in_ok-answers.ensures.ok c.swap_remove.result at

pub returns-clause-ok : goal.returns-clause-ok
returns-clause-ok g c =
    answer_past g.D.HasMeaning.meaning g.D.ConstFoldInterface.constants c.args.ctx.now.tree c.args.op c.args.index c.in_ok-answers.answers.items c.deref.result.now c.requires.live (c.deref.ensures.value ∙ c.in_ok-nothing.ensures.ok ∙ ap (λ n. replicate n None) c.num_operand.ensures) c.in_ok-answers.ensures.ok (omega arith)
