use Rattle.std.proofs.Common.{◌≡◌, map, take}
use Rattle.pliron_core.specs.Tree.{operands_of, definition_of}
use Rattle.pliron_opt_cfg.specs.Folded.{known_of}
use Rattle.pliron_opt_cfg.proofs.folding.known.known_operands.Given as goal

abbrev pub invariant-loop-i : goal.invariant-loop-i
invariant-loop-i g l = l.attrs.items ≡ map (λ v. known_of g.D.HasMeaning.meaning g.D.ConstFoldInterface.can_fold g.D.ConstFoldInterface.constants l.ctx.tree (definition_of l.ctx.tree v)) (take l.i (operands_of l.ctx.tree l.op))
