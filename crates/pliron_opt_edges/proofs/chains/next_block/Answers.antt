use Rattle.std.proofs.Common.{sym, ◌∙◌}
use Rattle.std.proofs.lemmas.Bool.{false≢true}
use Rattle.pliron_core.proofs.HoldingLemmas.{some_of}
use Rattle.pliron_opt_edges.proofs.WalkLemmas.{passes, not_bare, not_without, not_one, not_branch}
use Rattle.pliron_opt_edges.proofs.chains.next_block.Goals as goal

pub returns-then-num_argument-ne0-clause-passes_on : goal.returns-then-num_argument-ne0-clause-passes_on
returns-then-num_argument-ne0-clause-passes_on g c =
    not_bare g.D.HasMeaning.meaning.is_branch c.args.ctx.now.tree c.args.block (λ e. c.if-num_argument-ne0.true (c.num_argument.ensures ∙ e))

pub returns-then-num_operand-ne0-clause-passes_on : goal.returns-then-num_operand-ne0-clause-passes_on
returns-then-num_operand-ne0-clause-passes_on g c =
    not_without g.D.HasMeaning.meaning.is_branch c.args.ctx.now.tree c.args.block c.in-Some.jump c.in-Some.ensures.found (λ e. c.if-num_operand-ne0.true (c.num_operand.ensures ∙ e))

pub returns-then-num_successor-ne1-clause-passes_on : goal.returns-then-num_successor-ne1-clause-passes_on
returns-then-num_successor-ne1-clause-passes_on g c =
    not_one g.D.HasMeaning.meaning.is_branch c.args.ctx.now.tree c.args.block c.in-Some.jump c.in-Some.ensures.found (λ e. c.if-num_successor-ne1.true (c.num_successor.ensures ∙ e))

pub returns-then-not-is_branch-clause-passes_on : goal.returns-then-not-is_branch-clause-passes_on
returns-then-not-is_branch-clause-passes_on g c =
    not_branch g.D.HasMeaning.meaning.is_branch c.args.ctx.now.tree c.args.block c.in-Some.jump c.in-Some.ensures.found
    (λ br. let h = some_of _ c.in-Some.ensures.liveness in false≢true (sym c.if-not-is_branch.true ∙ c.is_branch.ensures h.0 h.1 ∙ br h.0 h.1))

pub returns-clause-passes_on : goal.returns-clause-passes_on
returns-clause-passes_on g c =
    passes g.D.HasMeaning.meaning.is_branch c.args.ctx.now.tree c.args.block c.in-Some.jump c.get_successor.result c.in-Some.ensures.found (sym c.num_argument.ensures ∙ c.if-num_argument-ne0.false) (sym c.num_operand.ensures ∙ c.if-num_operand-ne0.false) (sym c.num_successor.ensures ∙ c.if-num_successor-ne1.false) (λ h e. sym (c.is_branch.ensures h e) ∙ c.if-not-is_branch.false) c.get_successor.ensures.successor
