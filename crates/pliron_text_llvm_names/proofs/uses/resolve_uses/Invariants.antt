-- What the holes up to here name.
use Rattle.std.proofs.Common.{take}
use Rattle.pliron_text_llvm_names.specs.Uses.{AreTargets}
use Rattle.pliron_text_llvm_names.proofs.uses.resolve_uses.Given as goal

abbrev pub invariant-loop-hole : goal.invariant-loop-hole
invariant-loop-hole l = AreTargets l.text l.definitions (take l.hole-index l.holes) l.targets.items
