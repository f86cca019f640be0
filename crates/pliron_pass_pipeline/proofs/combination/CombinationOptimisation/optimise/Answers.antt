use Rattle.std.proofs.Common.{◌∙◌}
use Rattle.pliron_theory.proofs.ChangeLemmas.{whole_passes}
use Rattle.pliron_pass_pipeline.proofs.CombinationLemmas.{applied, reported}
use Rattle.pliron_pass_pipeline.proofs.combination.CombinationOptimisation.optimise.Goals as goal

pub returns-clause-change : goal.returns-clause-change
returns-clause-change g c = whole_passes g.D.HasMeaning.meaning c.args.ctx.now.tree c.combine.new.ctx.tree c.args.op c.combine.ensures.change

pub returns-clause-accurate : goal.returns-clause-accurate
returns-clause-accurate g c =
    rw c.effect_of.ensures (reported c.args.ctx.now.tree c.combine.new.ctx.tree c.in_ok-combined.combined.count c.in_ok-combined.ensures.accurate c.in_ok-combined.ensures.edges)

pub returns-clause-outcome : goal.returns-clause-outcome
returns-clause-outcome g c =
    let p = c.in_ok-combined.ensures.rewritten in
    rw c.effect_of.ensures (applied _ g.L.Rules.rules c.args.op c.args.ctx.now.tree c.combine.new.ctx.tree c.in_ok-combined.combined p.0 p.2.0 p.2.1 c.in_ok-combined.ensures.none (λ e. c.in_ok-combined.ensures.limit e ∙ c.max_rewrites-limit.ensures))

pub returns-in_err-combined-clause-change : goal.returns-in_err-combined-clause-change
returns-in_err-combined-clause-change g c = whole_passes g.D.HasMeaning.meaning c.args.ctx.now.tree c.combine.new.ctx.tree c.args.op c.combine.ensures.change
