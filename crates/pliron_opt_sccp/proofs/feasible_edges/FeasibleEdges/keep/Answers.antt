use Rattle.std.proofs.Common.{Some, cond, ap, ◌∙◌}
use Rattle.pliron_laws.specs.Tree.{is_one_key}
use Rattle.indexmap.specs.IndexMap.{get}
use Rattle.pliron_opt_sccp.proofs.KeptEdges.{kept_one}
use Rattle.pliron_opt_sccp.proofs.feasible_edges.FeasibleEdges.keep.Goals as goal

pub returns-clause-ok : goal.returns-clause-ok
returns-clause-ok c = λ k b led. kept_one (λ q. get is_one_key c.args.self.now.blocks q) (λ q. get is_one_key c.insert.new.self q) c.args.op c.args.blocks (λ q. c.in_ok-insert.ensures.updates.0 q ∙ ap (λ m. cond (is_one_key c.args.op q) (Some c.args.blocks) (get is_one_key m q)) c.in_ok-count.ensures.ok) k b led
