use Rattle.std.proofs.Common.{sym, subst}
use Rattle.pliron_laws.specs.Linked.{IsWellLinked}
use Rattle.pliron_dialect_bench.specs.BenchMoves.{bench}
use Rattle.pliron_fuzz.proofs.calls.apply_call.Goals as goal
use Rattle.pliron_fuzz.proofs.calls.apply_call.Goals.{in-Cse+in_ok-status-in-Cse, in-Canonicalize+in_ok-status-in-Canonicalize, in-ThreadEdges+in_ok-status-in-ThreadEdges}

pub returns-clause-linked : goal.returns-clause-linked
returns-clause-linked c =
    elim c.match-call.branch [
      | in-Cse+in_ok-status-in-Cse w ↦ subst (λ z. IsWellLinked bench z.tree c.args.root) (sym w.ctx-is) (w.cse.ensures.links c.args.root c.requires.linked)
      | in-Canonicalize+in_ok-status-in-Canonicalize w ↦ subst (λ z. IsWellLinked bench z.tree c.args.root) (sym w.ctx-is) (w.canonicalize.ensures.links c.args.root c.requires.linked)
      | in-ThreadEdges+in_ok-status-in-ThreadEdges w ↦ subst (λ z. IsWellLinked bench z.tree c.args.root) (sym w.ctx-is) (w.thread_edges.ensures.links c.args.root c.requires.linked)
    ]
