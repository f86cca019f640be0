use Rattle.std.proofs.Common.{rules, ◌≡◌, refl, Err}
use Rattle.pliron_pass.specs.Stage.{stage}
use Rattle.pliron_pass_pipeline.specs.Optimising.{RunsOptimisation.Refused}
use Rattle.pliron_pass_pipeline.proofs.EffectLemmas.{fresh_kept, fresh_none, ran_keeping, ran_losing}
use Rattle.pliron_pass_pipeline.proofs.optimisation.OptimisingPassPass.run.Goals as goal

pub returns-in_err-effect-clause-outcome : goal.returns-in_err-effect-clause-outcome
returns-in_err-effect-clause-outcome g c =
    let e : c.from_residual.result ≡ Err c.in_err-effect.field-0.0 = search rules in
    Refused c.in_err-effect.field-0.0 e c.in_err-effect.ensures.outcome refl refl

pub returns-then-effect-clause-fresh : goal.returns-then-effect-clause-fresh
returns-then-effect-clause-fresh g c =
    let runs = c.in_ok-effect.ensures.change.runs in
    fresh_kept g.E.Kind.PartialEq.eq g.E.AnalysisKind.kind g.E.Analyses.holds g.E.Analyses.reads_edges_alone g.met.E.Analyses.same g.met.E.Analyses.stays g.met.E.Analyses.keeps c.args.ctx.now.tree c.optimise.new.ctx.tree c.well_formed-2.ensures.tree c.well_formed-3.ensures.tree runs.grows runs.fewer c.in_ok-effect.effect c.in_ok-effect.ensures.accurate c.if-effect.true c.args.analyses.now.cache.entries c.keep_edge_kinds.result c.keep_edge_kinds.ensures.changed c.keep_edge_kinds.ensures.kept

pub returns-then-effect-clause-outcome : goal.returns-then-effect-clause-outcome
returns-then-effect-clause-outcome g c =
    ran_keeping g.E.Kind.PartialEq.eq g.E.Analyses.reads_edges_alone g.O.Optimisation.outcome c.args.op (stage c.args.ctx.now c.args.analyses.now) (stage c.optimise.new.ctx c.args.analyses.now) refl refl c.in_ok-effect.effect c.in_ok-effect.ensures.accurate c.if-effect.true c.keep_edge_kinds.result c.in_ok-effect.ensures.outcome c.keep_edge_kinds.ensures.changed c.keep_edge_kinds.ensures.kept c.keep_edge_kinds.ensures.memory

pub returns-else-effect-clause-fresh : goal.returns-else-effect-clause-fresh
returns-else-effect-clause-fresh g c =
    let runs = c.in_ok-effect.ensures.change.runs in
    fresh_none g.E.Kind.PartialEq.eq g.E.AnalysisKind.kind g.E.Analyses.holds g.E.Analyses.reads_edges_alone g.met.E.Analyses.same g.met.E.Analyses.stays g.met.E.Analyses.keeps c.args.ctx.now.tree c.optimise.new.ctx.tree c.well_formed-2.ensures.tree c.well_formed-3.ensures.tree runs.grows runs.fewer c.in_ok-effect.effect c.in_ok-effect.ensures.accurate c.args.analyses.now.cache.entries c.preserving_none.result c.preserving_none.ensures.changed c.preserving_none.ensures.kept

pub returns-else-effect-clause-outcome : goal.returns-else-effect-clause-outcome
returns-else-effect-clause-outcome g c =
    ran_losing g.E.Kind.PartialEq.eq g.E.Analyses.reads_edges_alone g.O.Optimisation.outcome c.args.op (stage c.args.ctx.now c.args.analyses.now) (stage c.optimise.new.ctx c.args.analyses.now) refl refl c.in_ok-effect.effect c.in_ok-effect.ensures.accurate c.if-effect.false c.preserving_none.result c.in_ok-effect.ensures.outcome c.preserving_none.ensures.changed c.preserving_none.ensures.kept
