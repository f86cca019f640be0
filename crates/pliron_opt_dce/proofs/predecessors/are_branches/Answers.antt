use Rattle.std.proofs.Common.{arith}
use Rattle.std.proofs.lemmas.Option.{slice_get_within}
use Rattle.pliron_core.specs.Tree.{uses_of, successors_of}
use Rattle.pliron_core.proofs.HoldingLemmas.{slice_in, in_slice}
use Rattle.pliron_laws.proofs.AnswerLemmas.{no, yes, refuted}
use Rattle.pliron_opt_dce.specs.Incoming.{BranchesLead}
use Rattle.pliron_opt_dce.proofs.ReadyTests.{head_told}
use Rattle.pliron_opt_dce.proofs.predecessors.are_branches.Goals as goal

pub returns-then-not-is_branch : goal.returns-then-not-is_branch
returns-then-not-is_branch g c = no (BranchesLead g.D.HasMeaning.meaning c.args.ctx.now.tree c.args.block) (λ l.
    let listed = c.well_formed-2.ensures.uses.block_uses.listed c.args.block c.loop-i.i _ c.get_use-user.ensures.listed in
    let i = in_slice (successors_of c.args.ctx.now.tree c.get_use-user.result.0) c.get_use-user.result.1 c.args.block listed in
    refuted c.is_branch.result c.if-not-is_branch.true (head_told g.D.HasMeaning.meaning.is_branch c.args.ctx.now.tree c.get_use-user.result.0 c.is_branch.result c.get_use-user.ensures.liveness c.is_branch.ensures (l c.get_use-user.result.0 i)))

pub returns : goal.returns
returns g c =
    let t = c.args.ctx.now.tree in
    yes (BranchesLead g.D.HasMeaning.meaning t c.args.block) (λ k i.
    let p = slice_in (successors_of t k) c.args.block i in
    let u = c.well_formed-2.ensures.uses.block_uses.complete k p.0 c.args.block p.1 in
    c.loop-i.invariant u.0 _ (let lt = slice_get_within (uses_of c.args.ctx.now.block_uses c.args.block) u.0 _ u.1 in let e2 = c.num_use-i-end.ensures in let e3 = c.loop-i-test.false in omega (arith, lt, e2, e3)) u.1)
