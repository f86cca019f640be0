use Rattle.pliron_pass_fit.proofs.FitLemmas.{fit}
use Rattle.pliron_pass_fit.proofs.find.check_fit.Goals as goal

pub returns-clause-ok : goal.returns-clause-ok
returns-clause-ok g c = fit g.D.HasMeaning.meaning c.args.ctx.now.tree c.args.root c.requires.live c.in_ok-check_plainly.ensures.ok c.in_ok-check_dominance.ensures.ok
