use Rattle.std.proofs.Common.{◌≢◌}
use Rattle.pliron_core.proofs.NextLemmas.{keys_unequal, keys_same}
use Rattle.pliron_laws.specs.EdgeChecks.{HasLawfulEdges, EndsBlockIf}
use Rattle.pliron_laws.proofs.AnswerLemmas.{no, refuted}
use Rattle.pliron_laws.proofs.edges.has_lawful_edges.Goals as goal
use Rattle.pliron_laws.proofs.edges.has_lawful_edges.Goals.{else-ne-via-then-ne+else-not-ends_block, else-ne-via-else-ne}

pub returns-then-not-ends_block : goal.returns-then-not-ends_block
returns-then-not-ends_block c =
    let inner = keys_unequal c.args.op c.args.root c.if-ne.ensures in
    no (HasLawfulEdges c.args.ctx.now.tree c.args.root c.args.op) (λ fit. refuted c.ends_block.result c.if-not-ends_block.true (c.ends_block.ensures.1 (fit.ends inner)))

pub returns : goal.returns
returns c =
    let ends : c.args.op ≢ c.args.root → EndsBlockIf c.args.ctx.now.tree c.args.op =
    elim c.else-ne.branch [
      | else-ne-via-then-ne+else-not-ends_block w ↦ λ inner. w.ends_block.ensures.0 w.if-not-ends_block.false
      | else-ne-via-else-ne w ↦ λ inner. absurd (inner (keys_same c.args.op c.args.root w.if-ne.ensures))
    ] in
    (λ e. record { ends = ends; users = c.op_has_own_users.ensures.0 e }, λ fit. c.op_has_own_users.ensures.1 fit.users)
