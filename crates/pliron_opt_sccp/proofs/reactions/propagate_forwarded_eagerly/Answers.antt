use Rattle.std.proofs.Common.{inr, [], sym, ◌∙◌}
use Rattle.pliron_laws.proofs.ShapeLemmas.{head_at}
use Rattle.pliron_theory.specs.LatticeValues.{Says}
use Rattle.pliron_opt_sccp.proofs.ReactionLemmas.{one_ahead, on_ok_then}
use Rattle.pliron_opt_sccp.proofs.reactions.propagate_forwarded_eagerly.Goals as goal

pub returns-then-is_open-clause-ok : goal.returns-then-is_open-clause-ok
returns-then-is_open-clause-ok g c =
    let x : Says = record { meaning = g.D.HasMeaning.meaning; can_fold = g.D.ConstFoldInterface.can_fold; can_fold_branch = g.D.BranchOpFoldInterface.can_fold_branch; constants = g.D.ConstFoldInterface.constants; feasible = g.D.BranchOpFoldInterface.feasible; entry_operands = g.D.RegionBranchOpInterface.entry_operands } in
    let t = c.args.ctx.now.tree in
    on_ok_then c.constrain_argument.result
    (λ adds. one_ahead x t c.args.edges.now c.args.tables.now c.args.from.now.value c.args.from.now.op c.args.from.now.place [] c.args.constraints.now.items c.constrain_argument.new.constraints.items c.in-Some.edge c.in-Some.index c.get_successor.result c.requires (λ o at. sym (c.is_branch.ensures o.head (head_at t c.args.from.now.op o at)) ∙ c.if-not-is_branch.false) c.in-Some.ensures c.get_successor.ensures.successor (λ o at. inr (c.is_open.ensures c.if-is_open.true)) adds)
    c.constrain_argument.ensures.ok
