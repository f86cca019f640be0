use Rattle.std.proofs.Common.{◌≡◌, ◌++◌, List, Option, length}
use Rattle.pliron_core.specs.declared.attrs.AttrObj.{AttrObj}
use Rattle.pliron_core.specs.Tree.{results_of}
use Rattle.pliron_opt_sccp.specs.Constraints.{Adds}
use Rattle.pliron_opt_sccp.proofs.Constrained.{AnsweredFrom}
use Rattle.pliron_opt_sccp.proofs.constraints.constrain_answers.Given as goal

abbrev pub invariant-loop-answer : goal.invariant-loop-answer
invariant-loop-answer l = ((constants : List AttrObj) → Adds constants l.initial.constraints.items l.constraints.items (AnsweredFrom constants (results_of l.ctx.tree l.op) l.fn.answers.items (length l.rest.items))) × ((deleted : List (Option AttrObj)) × (l.fn.answers.items ≡ l.rest.items ++ deleted))

abbrev pub decreases-loop-answer : goal.decreases-loop-answer
decreases-loop-answer l = length l.rest.items
