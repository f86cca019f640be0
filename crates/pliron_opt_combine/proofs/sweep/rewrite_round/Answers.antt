use Rattle.pliron_laws.proofs.FoldLemmas.{on_err}
use Rattle.pliron_rewrite_rules.specs.Tables.{RuleTables}
use Rattle.pliron_rewrite_rules.proofs.ShownLemmas.{tables}
use Rattle.pliron_opt_combine.proofs.Doing.{done_nothing, done_start, partly_more}
use Rattle.pliron_opt_combine.proofs.sweep.rewrite_round.Goals as goal

pub loop-i-init : goal.loop-i-init
loop-i-init g c =
    let x : RuleTables = tables g.D.HasMeaning.meaning g.D.SideEffects.side_effects g.D.ConstFoldInterface.can_fold g.D.ConstFoldInterface.constants g.D.ConstFoldInterface.accepts g.D.ConstFoldInterface.constant_head in
    record {
      done = done_start x g.L.Rules.rules c.args.root c.args.ctx.now.tree c.requires.live c.requires.linked c.args.left (λ k. ⊥) (λ some k term never. absurd never);
      seen = c.requires.seen;
    }

pub rewrite_at-requires-clause-live : goal.rewrite_at-requires-clause-live
rewrite_at-requires-clause-live g c = c.loop-i.invariant.done.way.change.liveness

pub rewrite_at-requires-clause-linked : goal.rewrite_at-requires-clause-linked
rewrite_at-requires-clause-linked g c = c.loop-i.invariant.done.way.links c.args.root c.requires.linked

pub loop-i-preserved : goal.loop-i-preserved
loop-i-preserved g c =
    let x : RuleTables = tables g.D.HasMeaning.meaning g.D.SideEffects.side_effects g.D.ConstFoldInterface.can_fold g.D.ConstFoldInterface.constants g.D.ConstFoldInterface.accepts g.D.ConstFoldInterface.constant_head in
    record {
      done = done_nothing x g.L.Rules.rules c.args.root c.args.ctx.now.tree c.loop-i.ctx.tree c.rewrite_at.new.ctx.tree c.args.left c.loop-i.rest c.in_ok-rest.rest c.loop-i.invariant.done c.in_ok-rest.ensures.ok;
      seen = c.in_ok-rest.ensures.seen;
    }

pub returns-in_err-rest-clause-refused : goal.returns-in_err-rest-clause-refused
returns-in_err-rest-clause-refused g c =
    let x : RuleTables = tables g.D.HasMeaning.meaning g.D.SideEffects.side_effects g.D.ConstFoldInterface.can_fold g.D.ConstFoldInterface.constants g.D.ConstFoldInterface.accepts g.D.ConstFoldInterface.constant_head in
    on_err _ c.from_residual.result (partly_more x g.L.Rules.rules c.args.root c.args.ctx.now.tree c.loop-i.ctx.tree c.rewrite_at.new.ctx.tree c.args.left c.loop-i.rest (λ k. ⊥) c.loop-i.invariant.done c.in_err-rest.ensures.refused)
