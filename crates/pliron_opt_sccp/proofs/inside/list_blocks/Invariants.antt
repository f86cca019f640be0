use Rattle.std.proofs.Common.{drop}
use Rattle.pliron_opt_sccp.specs.declared.inside.Part.TheVariants.{Block}
use Rattle.pliron_opt_sccp.proofs.Going.{IsLeft}
use Rattle.pliron_opt_sccp.proofs.Preorder.{AddsParts}
use Rattle.pliron_opt_sccp.proofs.inside.list_blocks.Given as goal

abbrev pub invariant-loop-i : goal.invariant-loop-i
invariant-loop-i l = IsLeft (AddsParts (λ b. Block b)) l.blocks.items (drop l.i l.blocks.items) l.initial.parts.items l.parts.items
