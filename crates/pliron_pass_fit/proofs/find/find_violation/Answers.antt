use Rattle.pliron_pass_fit.proofs.FitLemmas.{refutes}
use Rattle.pliron_pass_fit.proofs.find.find_violation.Goals as goal

pub returns-in-Err-Found-clause-none : goal.returns-in-Err-Found-clause-none
returns-in-Err-Found-clause-none g c =
    let wrong = rw c.in-Err-Found.field-0-is at c.in-Err-Found.ensures.err in
    (λ e. absurd (cc), λ fit. absurd (refutes c.args.ctx.now.tree c.well_formed-2.ensures.tree c.args.root g.D.HasMeaning.meaning c.in-Err-Found.violation wrong fit))
