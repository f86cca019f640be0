use Rattle.pliron_laws.proofs.FoldLemmas.{on_err}
use Rattle.pliron_rewrite_rules.specs.Tables.{RuleTables}
use Rattle.pliron_rewrite_rules.proofs.ShownLemmas.{tables}
use Rattle.pliron_opt_combine.proofs.Doing.{done_nothing, done_start, partly_more}
use Rattle.pliron_opt_combine.proofs.sweep.rewrite_rounds.Goals as goal

pub loop-goes_on-init : goal.loop-goes_on-init
loop-goes_on-init g c =
    let x : RuleTables = tables g.D.HasMeaning.meaning g.D.SideEffects.side_effects g.D.ConstFoldInterface.can_fold g.D.ConstFoldInterface.constants g.D.ConstFoldInterface.accepts g.D.ConstFoldInterface.constant_head in
    record {
      done = done_start x g.L.Rules.rules c.args.root c.args.ctx.now.tree c.requires.live c.requires.linked c.args.left (λ k. ⊥) (λ some k term never. absurd never);
      seen = c.requires.seen;
    }

pub rewrite_round-requires-clause-live : goal.rewrite_round-requires-clause-live
rewrite_round-requires-clause-live g c = c.loop-goes_on.invariant.done.way.change.liveness

pub rewrite_round-requires-clause-linked : goal.rewrite_round-requires-clause-linked
rewrite_round-requires-clause-linked g c = c.loop-goes_on.invariant.done.way.links c.args.root c.requires.linked

pub returns-in_err-rest-clause-refused : goal.returns-in_err-rest-clause-refused
returns-in_err-rest-clause-refused g c =
    let x : RuleTables = tables g.D.HasMeaning.meaning g.D.SideEffects.side_effects g.D.ConstFoldInterface.can_fold g.D.ConstFoldInterface.constants g.D.ConstFoldInterface.accepts g.D.ConstFoldInterface.constant_head in
    on_err _ c.from_residual.result (partly_more x g.L.Rules.rules c.args.root c.args.ctx.now.tree c.loop-goes_on.ctx.tree c.rewrite_round.new.ctx.tree c.args.left c.loop-goes_on.rest (λ k. ⊥) c.loop-goes_on.invariant.done c.in_err-rest.ensures.refused)

pub loop-goes_on-preserved : goal.loop-goes_on-preserved
loop-goes_on-preserved g c =
    let x : RuleTables = tables g.D.HasMeaning.meaning g.D.SideEffects.side_effects g.D.ConstFoldInterface.can_fold g.D.ConstFoldInterface.constants g.D.ConstFoldInterface.accepts g.D.ConstFoldInterface.constant_head in
    record {
      done = done_nothing x g.L.Rules.rules c.args.root c.args.ctx.now.tree c.loop-goes_on.ctx.tree c.rewrite_round.new.ctx.tree c.args.left c.loop-goes_on.rest c.in_ok-rest.rest c.loop-goes_on.invariant.done c.in_ok-rest.ensures.ok;
      seen = c.in_ok-rest.ensures.seen;
    }
