use Rattle.std.proofs.Common.{◌≡◌, ℕ, take, drop, length}
use Rattle.pliron_pass.specs.Cache.{IsFresh}
use Rattle.pliron_theory.specs.Change.{IsPassChange}
use Rattle.pliron_pass.specs.Outcome.{RunsPass}
use Rattle.pliron_pass.specs.Stage.{stage}
use Rattle.pliron_pass.specs.Verifying.{IsFirstFault, verdict_by}
use Rattle.pliron_pass.specs.Combined.{RunsEach}
use Rattle.pliron_pass.proofs.passes.run_all.Given as goal

abbrev pub invariant-loop-i : goal.invariant-loop-i
invariant-loop-i g l = record {
  change : IsPassChange g.P.D.HasMeaning.meaning l.fn.ctx.tree l.ctx.tree l.op;
  fresh : IsFresh g.P.E.Kind.PartialEq.eq g.P.E.AnalysisKind.kind g.P.E.Analyses.holds l.fn.ctx.tree l.fn.analyses.cache.entries → IsFresh g.P.E.Kind.PartialEq.eq g.P.E.AnalysisKind.kind g.P.E.Analyses.holds l.ctx.tree l.analyses.cache.entries;
  same_length : length l.passes.items ≡ length l.fn.passes.items;
  rest : drop l.i l.passes.items ≡ drop l.i l.fn.passes.items;
  ran : RunsEach g.P.E.Kind.PartialEq.eq (RunsPass g.P.Pass.name g.P.Pass.outcome (IsFirstFault g.P.D.Dialect.has_interface (verdict_by g.P.D.SideEffects.verdict g.P.D.BlockArgRemoval.verdict g.P.D.ConstFoldInterface.verdict g.P.D.BranchOpFoldInterface.verdict g.P.D.RegionBranchOpInterface.verdict)) g.P.Pass.is_pass_manager) l.op (stage l.fn.ctx l.fn.analyses) (take l.i l.fn.passes.items) (take l.i l.passes.items) (stage l.ctx l.analyses) l.changed;
}
