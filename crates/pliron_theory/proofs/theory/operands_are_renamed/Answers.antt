use Rattle.pliron_theory.proofs.Renamed.{renamed_keeps}
use Rattle.pliron_theory.proofs.ReplacedKeeps.{replaced_keeps}
use Rattle.pliron_theory.proofs.ConstantData.{constant_keeps}
use Rattle.pliron_theory.proofs.theory.operands_are_renamed.Goals as goal

pub returns : goal.returns
returns c = record { renamed = renamed_keeps; replaced = replaced_keeps; constant = constant_keeps }
