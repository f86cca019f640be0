use Rattle.std.proofs.Common.{◌≡◌, length, Some}
use Rattle.std.specs.Option.{ForSome}
use Rattle.pliron_core.specs.Tree.{parent_operation_of, In}
use Rattle.pliron_core.specs.Walks.{children}
use Rattle.pliron_core.specs.WalkSteps.{rest_from}
use Rattle.pliron_pass.specs.Cache.{IsFresh}
use Rattle.pliron_theory.specs.Change.{IsPassChange}
use Rattle.pliron_pass.specs.Outcome.{RunsPass}
use Rattle.pliron_pass.specs.Stage.{stage}
use Rattle.pliron_pass.specs.Verifying.{IsFirstFault, verdict_by}
use Rattle.pliron_pass.proofs.NestedLemmas.{HasRun}
use Rattle.pliron_pass.proofs.nested.run_nested.Given as goal

abbrev pub invariant-loop-at : goal.invariant-loop-at
invariant-loop-at g l = record {
  change : IsPassChange g.P.D.HasMeaning.meaning l.fn.ctx.tree l.ctx.tree l.op;
  still : children l.ctx.tree l.op ≡ children l.fn.ctx.tree l.op;
  held : ForSome l.at (λ k. parent_operation_of l.ctx.tree k ≡ Some l.op);
  listed : ForSome l.at (λ k. In k (children l.fn.ctx.tree l.op));
  fresh : IsFresh g.P.E.Kind.PartialEq.eq g.P.E.AnalysisKind.kind g.P.E.Analyses.holds l.fn.ctx.tree l.fn.analyses.cache.entries → IsFresh g.P.E.Kind.PartialEq.eq g.P.E.AnalysisKind.kind g.P.E.Analyses.holds l.ctx.tree l.analyses.cache.entries;
  ran : HasRun g.P.E.Kind.PartialEq.eq (RunsPass g.P.Pass.name g.P.Pass.outcome (IsFirstFault g.P.D.Dialect.has_interface (verdict_by g.P.D.SideEffects.verdict g.P.D.BlockArgRemoval.verdict g.P.D.ConstFoldInterface.verdict g.P.D.BranchOpFoldInterface.verdict g.P.D.RegionBranchOpInterface.verdict)) g.P.Pass.is_pass_manager) (children l.fn.ctx.tree l.op) l.at l.fn.pass (stage l.fn.ctx l.fn.analyses) l.pass (stage l.ctx l.analyses) l.changed;
}

abbrev pub decreases-loop-at : goal.decreases-loop-at
decreases-loop-at g l = length (rest_from l.at (children l.fn.ctx.tree l.op))
