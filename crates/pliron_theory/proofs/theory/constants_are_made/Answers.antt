use Rattle.pliron_theory.proofs.PutKeeps.{put_keeps}
use Rattle.pliron_theory.proofs.ConstantKeeps.{before_well, first_well}
use Rattle.pliron_theory.proofs.theory.constants_are_made.Goals as goal

pub returns : goal.returns
returns c = record {
  put = λ m t t' new w w' h g p longer fresh gives. put_keeps m t' t new w' w h g p longer fresh gives;
  before = λ m t head attr at block w makes plain e w'. (before_well m t head attr w makes plain at block e w').0;
  first = λ m t head attr block w makes plain is w'. (first_well m t head attr w makes plain block is w').0;
}
