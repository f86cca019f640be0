use Rattle.pliron_opt_sccp.proofs.Stamps.{stamps_it}
use Rattle.pliron_opt_sccp.proofs.search.stamp.Goals as goal

pub returns-then-num_result-gt0 : goal.returns-then-num_result-gt0
returns-then-num_result-gt0 c = stamps_it c.args.ctx.now.tree c.well_formed-2.ensures.tree c.args.op c.get_result.result c.get_result.ensures.value c.args.tables.now c.stamp_visit.new.self c.stamp_visit.ensures
