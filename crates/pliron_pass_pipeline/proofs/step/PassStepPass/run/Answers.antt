use Rattle.std.proofs.Common.{refl}
use Rattle.pliron_pass_pipeline.proofs.step.PassStepPass.run.Goals as goal

pub returns-in-Sccp-clause-outcome : goal.returns-in-Sccp-clause-outcome
returns-in-Sccp-clause-outcome g c = rw c.in-Sccp.is (refl, c.run.ensures.outcome)

pub returns-in-Dce-clause-outcome : goal.returns-in-Dce-clause-outcome
returns-in-Dce-clause-outcome g c = rw c.in-Dce.is (refl, c.run-in-Dce.ensures.outcome)

pub returns-in-SimplifyCfg-clause-outcome : goal.returns-in-SimplifyCfg-clause-outcome
returns-in-SimplifyCfg-clause-outcome g c = rw c.in-SimplifyCfg.is (refl, c.run-in-SimplifyCfg.ensures.outcome)

pub returns-in-Cse-clause-outcome : goal.returns-in-Cse-clause-outcome
returns-in-Cse-clause-outcome g c = rw c.in-Cse.is (refl, c.run-in-Cse.ensures.outcome)

pub returns-in-Canonicalize-clause-outcome : goal.returns-in-Canonicalize-clause-outcome
returns-in-Canonicalize-clause-outcome g c = rw c.in-Canonicalize.is (refl, c.run-in-Canonicalize.ensures.outcome)

pub returns-in-Combine-clause-outcome : goal.returns-in-Combine-clause-outcome
returns-in-Combine-clause-outcome g c = rw c.in-Combine.is (refl, c.run-in-Combine.ensures.outcome)

pub returns-in-ThreadEdges-clause-outcome : goal.returns-in-ThreadEdges-clause-outcome
returns-in-ThreadEdges-clause-outcome g c = rw c.in-ThreadEdges.is (refl, c.run-in-ThreadEdges.ensures.outcome)
