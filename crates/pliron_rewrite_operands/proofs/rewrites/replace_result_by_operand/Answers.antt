use Rattle.std.proofs.Common.{◌≡◌, Some, get_or, sym, ap, ◌∙◌, subst}
use Rattle.std.proofs.lemmas.Option.{get_or_from_slice_get}
use Rattle.pliron_core.specs.Tree.{operands_of, results_of}
use Rattle.pliron_core.specs.Writes.{after_replacing}
use Rattle.pliron_core.proofs.HoldingLemmas.{some_is}
use Rattle.pliron_theory.specs.Keeps.{KeepsAllRuns}
use Rattle.pliron_theory.proofs.FollowedFacts.{constants_plain}
use Rattle.pliron_rewrite_operands.specs.Answers.{Folding}
use Rattle.pliron_rewrite_operands.proofs.Known.{folding}
use Rattle.pliron_rewrite_operands.proofs.Answered.{AreLawful}
use Rattle.pliron_rewrite_operands.proofs.Whole.{operand_keeps_all}
use Rattle.pliron_rewrite_operands.proofs.rewrites.replace_result_by_operand.Goals as goal

pub returns-clause-ok : goal.returns-clause-ok
returns-clause-ok g c = λ v at.
    let t = c.args.ctx.now.tree in
    c.in_ok-replace_value_uses_with.ensures.ok
    ∙ ap (λ z. after_replacing t z c.get_operand-new.result) (some_is (sym c.get_result-old.ensures.value ∙ at))
    ∙ ap (after_replacing t v) (sym (get_or_from_slice_get (operands_of t c.args.op) c.args.operand c.get_operand-new.result 0 c.get_operand-new.ensures.operand))

pub returns-clause-runs : goal.returns-clause-runs
returns-clause-runs g c =
    let x : Folding = folding g.D.HasMeaning.meaning g.D.SideEffects.side_effects g.D.ConstFoldInterface.can_fold g.D.ConstFoldInterface.constants g.D.ConstFoldInterface.accepts g.D.ConstFoldInterface.constant_head g.D.OperandFoldInterface.operand_folds in
    let d = g.met.D.Dialect in
    let t = c.args.ctx.now.tree in
    let laws : AreLawful x = record {
      at_once = d.gives_at_once;
      truly = d.answers_true;
      operands = g.met.D.Dialect.answers_operands;
      makes = d.makes_constants;
      plain = constants_plain _ _ _ _ _ _ d.forwards_operands d.makes_constants;
    } in
    let is = c.in_ok-replace_value_uses_with.ensures.ok
    ∙ ap (λ z. after_replacing t z c.get_operand-new.result) (some_is (sym c.get_result-old.ensures.value ∙ c.requires.answer.listed))
    ∙ ap (after_replacing t c.requires.answer.value) (sym (get_or_from_slice_get (operands_of t c.args.op) c.args.operand c.get_operand-new.result 0 c.get_operand-new.ensures.operand)) in
    subst (KeepsAllRuns g.D.HasMeaning.meaning t) (sym is) (operand_keeps_all x laws t c.well_formed-2.ensures.tree c.args.op c.args.index c.args.operand c.requires.answer c.requires.operand)
