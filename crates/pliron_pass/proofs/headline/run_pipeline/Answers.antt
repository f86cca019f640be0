use Rattle.std.proofs.Common.{refl}
use Rattle.pliron_pass.specs.Stage.{stage}
use Rattle.pliron_pass.proofs.StageLemmas.{cache_set}
use Rattle.pliron_pass.proofs.headline.run_pipeline.Goals as goal

pub returns-clause-outcome : goal.returns-clause-outcome
returns-clause-outcome g c = record {
  answer = c.in_ok-answer.answer;
  after = stage c.run_pass.new.ctx c.run_pass.new.analyses;
  runs = c.in_ok-answer.ensures.outcome;
  left = cache_set c.run_pass.new.ctx.tree c.run_pass.new.analyses.cache.entries c.retain_preserved.new.self.cache.entries _ c.run_pass.new.analyses.pm_data c.retain_preserved.new.self.pm_data c.retain_preserved.ensures.cache c.retain_preserved.ensures.data;
  says = refl;
}
