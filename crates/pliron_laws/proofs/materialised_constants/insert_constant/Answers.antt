use Rattle.std.proofs.Common.{◌++◌, ◌∷◌, [], ap, ◌∙◌}
use Rattle.pliron_laws.proofs.ConstantLemmas.{made_live, made_result}
use Rattle.pliron_laws.proofs.MaterialisedLemmas.{stand_in_is}
use Rattle.pliron_laws.proofs.materialised_constants.insert_constant.Goals as goal

pub get_result-new-requires-clause-live : goal.get_result-new-requires-clause-live
get_result-new-requires-clause-live g c = let f = c.requires.fresh in made_live f.0 c.args.ctx.now.tree c.args.constant f.1 f.2.made f.2.key

pub get_result-new-requires-clause-index : goal.get_result-new-requires-clause-index
get_result-new-requires-clause-index g c = let f = c.requires.fresh in made_result f.0 c.args.ctx.now.tree c.args.constant f.1 f.2.made f.2.key

pub returns-clause-made : goal.returns-clause-made
returns-clause-made g c = λ t head f. c.push_reserved.ensures.items ∙ ap (λ s. c.args.made.now.items ++ s ∷ []) (stand_in_is t c.args.ctx.now.tree c.args.constant c.args.old c.get_result-new.result head f c.get_result-new.ensures.value)
