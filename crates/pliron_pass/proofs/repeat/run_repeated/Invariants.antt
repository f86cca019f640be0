use Rattle.std.proofs.Common.{◌≡◌, ℕ, ◌-◌, ◌≤◌}
use Rattle.pliron_pass.specs.Cache.{IsFresh}
use Rattle.pliron_theory.specs.Change.{IsPassChange}
use Rattle.pliron_pass.specs.Outcome.{RunsPass}
use Rattle.pliron_pass.specs.Repeating.{Repeats}
use Rattle.pliron_pass.specs.Stage.{stage}
use Rattle.pliron_pass.specs.Verifying.{IsFirstFault, verdict_by}
use Rattle.pliron_pass.proofs.repeat.run_repeated.Given as goal

abbrev pub decreases-loop-repeat : goal.decreases-loop-repeat
decreases-loop-repeat g l = l.repeat.max - l.repeat.runs

abbrev pub invariant-loop-repeat : goal.invariant-loop-repeat
invariant-loop-repeat g l = record {
  change : IsPassChange g.P.D.HasMeaning.meaning l.fn.ctx.tree l.ctx.tree l.op;
  fresh : IsFresh g.P.E.Kind.PartialEq.eq g.P.E.AnalysisKind.kind g.P.E.Analyses.holds l.fn.ctx.tree l.fn.analyses.cache.entries → IsFresh g.P.E.Kind.PartialEq.eq g.P.E.AnalysisKind.kind g.P.E.Analyses.holds l.ctx.tree l.analyses.cache.entries;
  ran : Repeats g.P.E.Kind.PartialEq.eq (RunsPass g.P.Pass.name g.P.Pass.outcome (IsFirstFault g.P.D.Dialect.has_interface (verdict_by g.P.D.SideEffects.verdict g.P.D.BlockArgRemoval.verdict g.P.D.ConstFoldInterface.verdict g.P.D.BranchOpFoldInterface.verdict g.P.D.RegionBranchOpInterface.verdict)) g.P.Pass.is_pass_manager) l.op l.fn.repeat.pass (stage l.fn.ctx l.fn.analyses) l.repeat.runs l.repeat.pass (stage l.ctx l.analyses) l.changed;
  max : l.repeat.max ≡ l.fn.repeat.max;
  at_most : l.repeat.runs ≤ l.repeat.max;
}
