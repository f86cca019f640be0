use Rattle.std.proofs.Common.{◌≤◌, length, arith, sym, ◌∙◌}
use Rattle.pliron_core.specs.Tree.{successors_of}
use Rattle.pliron_laws.proofs.AnswerLemmas.{refuted}
use Rattle.pliron_laws.proofs.ShapeLemmas.{head_at}
use Rattle.pliron_pass_fit.specs.Violation.{ForwardsAt}
use Rattle.pliron_pass_fit.proofs.CheckLemmas.{equal_edge, unequal_edge, index_more, all_edges}
use Rattle.pliron_pass_fit.proofs.operations.check_forwarded.Goals as goal

pub returns-then-not-is_branch-clause-ok : goal.returns-then-not-is_branch-clause-ok
returns-then-not-is_branch-clause-ok g c = λ i b o at branch e. absurd (refuted c.is_branch.result c.if-not-is_branch.true (c.is_branch.ensures o.head (head_at c.args.ctx.now.tree c.args.op o at) ∙ branch))

pub successor_operands-requires-clause-branch : goal.successor_operands-requires-clause-branch
successor_operands-requires-clause-branch g c = λ h is. sym (c.is_branch.ensures h is) ∙ c.if-not-is_branch.false

pub returns-then-len-num_argument-clause-err : goal.returns-then-len-num_argument-clause-err
returns-then-len-num_argument-clause-err g c =
    let t = c.args.ctx.now.tree in
    (c.requires.inside, unequal_edge g.D.HasMeaning.meaning t c.args.op c.loop-i.i c.get_successor.result c.in_ok-values.values.items c.requires.live (λ h is. sym (c.is_branch.ensures h is) ∙ c.if-not-is_branch.false) c.get_successor.ensures.successor c.in_ok-values.ensures.ok (λ e. omega (arith, e)))

pub loop-i-preserved : goal.loop-i-preserved
loop-i-preserved g c =
    let t = c.args.ctx.now.tree in
    index_more (λ j. ForwardsAt g.D.HasMeaning.meaning t c.args.op j) c.loop-i.i (equal_edge g.D.HasMeaning.meaning t c.args.op c.loop-i.i c.get_successor.result c.in_ok-values.values.items c.get_successor.ensures.successor c.in_ok-values.ensures.ok (omega arith)) c.loop-i.invariant

pub returns-clause-ok : goal.returns-clause-ok
returns-clause-ok g c =
    let t = c.args.ctx.now.tree in
    let whole : length (successors_of t c.args.op) ≤ c.loop-i.i = omega arith in
    all_edges g.D.HasMeaning.meaning t c.args.op c.loop-i.i whole c.loop-i.invariant
