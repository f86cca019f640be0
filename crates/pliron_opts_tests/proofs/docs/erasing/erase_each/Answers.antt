use Rattle.std.proofs.Common.{sym, ◌∙◌}
use Rattle.pliron_theory.proofs.ChangeLemmas.{change_trans}
use Rattle.pliron_pass_rewrites.proofs.StatusLemmas.{unchanged_by_both}
use Rattle.pliron_opts_tests.proofs.docs.erasing.erase_each.Goals as goal

pub returns-in_err-erase_if_unused-clause-change : goal.returns-in_err-erase_if_unused-clause-change
returns-in_err-erase_if_unused-clause-change g c =
    change_trans g.D.HasMeaning.meaning c.args.ctx.now.tree c.loop-last.ctx.tree c.erase_if_unused.new.ctx.tree c.args.root c.loop-last.invariant.change c.in_err-erase_if_unused.ensures.change

pub loop-last-preserved : goal.loop-last-preserved
loop-last-preserved g c = record {
  change = change_trans g.D.HasMeaning.meaning c.args.ctx.now.tree c.loop-last.ctx.tree c.erase_if_unused.new.ctx.tree c.args.root c.loop-last.invariant.change c.in_ok-erase_if_unused.ensures.change;
  same = λ e.
      let both = unchanged_by_both c.loop-last.changed c.in_ok-erase_if_unused.field-0 (sym c.bitor_assign.ensures.after ∙ e) in
      c.in_ok-erase_if_unused.ensures.same both.1 ∙ c.loop-last.invariant.same both.0;
}
