use Rattle.std.proofs.Common.{map}
use Rattle.pliron_driver_modules.proofs.PlanLemmas.{asks_nothing, asks_passes}
use Rattle.pliron_driver_modules.proofs.plans.read_plan.Goals as goal

pub returns-then-is_empty : goal.returns-then-is_empty
returns-then-is_empty c =
    asks_nothing (λ name. name.now) c.args.word.now c.new.result.items c.is_empty.result c.is_empty.ensures c.if-is_empty.true c.new.ensures.items

pub returns : goal.returns
returns c =
    asks_passes c.args.word.now (λ plan. plan.runs) (λ plan. plan.nested) (λ plan. map (λ name. name.now) plan.names.items) c.read.result c.read.ensures
