use Rattle.pliron_theory.proofs.FollowedFacts.{following, constants_plain}
use Rattle.pliron_theory.proofs.SoundRuns.{names_well}
use Rattle.pliron_theory.proofs.theory.facts_are_followed.Goals as goal

pub returns : goal.returns
returns g c =
    let d = g.met.D.Dialect in
    following _ d.answers_true d.answers_jumps d.forwards_operands.passes (names_well _ _ d.names_operands d.roots) _ _ d.makes_constants (constants_plain _ _ _ _ _ _ d.forwards_operands d.makes_constants)
