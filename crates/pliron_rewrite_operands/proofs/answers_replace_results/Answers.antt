use Rattle.pliron_theory.proofs.FollowedFacts.{constants_plain}
use Rattle.pliron_rewrite_operands.proofs.Whole.{answer_laws}
use Rattle.pliron_rewrite_operands.proofs.answers_replace_results.Goals as goal

pub returns : goal.returns
returns g c =
    let d = g.met.D.Dialect in
    answer_laws _ (record {
      at_once = d.gives_at_once;
      truly = d.answers_true;
      operands = g.met.D.Dialect.answers_operands;
      makes = d.makes_constants;
      plain = constants_plain _ _ _ _ _ _ d.forwards_operands d.makes_constants;
    })
