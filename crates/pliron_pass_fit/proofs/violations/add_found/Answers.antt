use Rattle.std.proofs.Common.{IfSome, subst}
use Rattle.pliron_pass_fit.specs.Violation.{IsViolation}
use Rattle.pliron_pass_fit.proofs.FoundLemmas.{one_more}
use Rattle.pliron_pass_fit.proofs.violations.add_found.Goals as goal

pub returns-clause-found : goal.returns-clause-found
returns-clause-found g c = one_more g.D.HasMeaning.meaning c.args.ctx.now.tree c.args.root c.args.found.now.items c.push.new.self.items c.in-Some.violation c.in_ok-push.ensures.items c.requires.found (subst (λ w. IfSome w (λ v. IsViolation g.D.HasMeaning.meaning c.args.ctx.now.tree c.args.root v)) c.in-Some.is c.requires.violation)
