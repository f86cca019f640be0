-- What stops building a function.
use Rattle.pliron_text_llvm_plans.specs.declared.stop.PlanStop.{PlanStop}
use Rattle.pliron_text_llvm_plans.specs.declared.stop.PlanStop.TheVariants.{Keep as KeepPlan, NoMemory as NoMemoryForPlan}
use Rattle.pliron_text_llvm_building.specs.declared.stop.BuildStop.{BuildStop}
use Rattle.pliron_text_llvm_building.specs.declared.stop.BuildStop.TheVariants.{Keep, NoMemory}
use Rattle.pliron_text_llvm_building.specs.declared.stop.KeptForBuilding.TheVariants.{Plan}

-- what stops a plan stops building by it
abbrev pub stop_of_plan : PlanStop → BuildStop
stop_of_plan (KeepPlan place reason) = Keep place (Plan reason)
stop_of_plan NoMemoryForPlan = NoMemory
