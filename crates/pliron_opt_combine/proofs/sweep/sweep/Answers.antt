use Rattle.std.proofs.Common.{◌+◌, take, arith}
use Rattle.pliron_core.specs.Tree.{In}
use Rattle.pliron_laws.proofs.FoldLemmas.{on_err}
use Rattle.pliron_rewrite_rules.specs.Tables.{RuleTables}
use Rattle.pliron_rewrite_rules.proofs.ShownLemmas.{tables}
use Rattle.pliron_opt_combine.proofs.Doing.{done_as, done_more, done_start, partly_more}
use Rattle.pliron_opt_combine.proofs.Listing.{all_taken, none_taken, read_at, read_in, taken_more}
use Rattle.pliron_opt_combine.proofs.sweep.sweep.Goals as goal

pub loop-i-init : goal.loop-i-init
loop-i-init g c =
    let x : RuleTables = tables g.D.HasMeaning.meaning g.D.SideEffects.side_effects g.D.ConstFoldInterface.can_fold g.D.ConstFoldInterface.constants g.D.ConstFoldInterface.accepts g.D.ConstFoldInterface.constant_head in
    record {
      done = done_start x g.L.Rules.rules c.args.root c.args.ctx.now.tree c.requires.live c.requires.linked c.args.left (λ k. In k (take 0 c.args.ops.now)) (λ some k term i. absurd (none_taken c.args.ops.now k i));
      seen = c.requires.seen;
    }

pub rewrite_operation-requires-clause-live : goal.rewrite_operation-requires-clause-live
rewrite_operation-requires-clause-live g c = c.loop-i.invariant.done.way.change.liveness

pub rewrite_operation-requires-clause-linked : goal.rewrite_operation-requires-clause-linked
rewrite_operation-requires-clause-linked g c = c.loop-i.invariant.done.way.links c.args.root c.requires.linked

pub rewrite_operation-requires-clause-is_seen : goal.rewrite_operation-requires-clause-is_seen
rewrite_operation-requires-clause-is_seen g c =
    let op = c.index-ops-i.result in
    c.loop-i.invariant.done.seen op (c.requires.are_seen op (read_in c.args.ops.now c.loop-i.i op _ (omega arith) c.index-ops-i.is))

pub loop-i-preserved : goal.loop-i-preserved
loop-i-preserved g c =
    let x : RuleTables = tables g.D.HasMeaning.meaning g.D.SideEffects.side_effects g.D.ConstFoldInterface.can_fold g.D.ConstFoldInterface.constants g.D.ConstFoldInterface.accepts g.D.ConstFoldInterface.constant_head in
    let t0 = c.args.ctx.now.tree in
    let ops = c.args.ops.now in
    let n = c.loop-i.i in
    let op = c.index-ops-i.result in
    let at = read_at ops n op _ (omega arith) c.index-ops-i.is in
    let t' = c.rewrite_operation.new.ctx.tree in
    let rest = c.in_ok-rest.rest in
    let more = done_more x g.L.Rules.rules c.args.root t0 c.loop-i.ctx.tree t' c.args.left c.loop-i.rest rest _ _ c.loop-i.invariant.done c.in_ok-rest.ensures.ok in
    record {
      done = done_as x g.L.Rules.rules c.args.root t0 t' c.args.left rest _ (λ k. In k (take (n + 1) ops)) (λ k i. taken_more ops n op at k i) more;
      seen = c.in_ok-rest.ensures.seen;
    }

pub returns-clause-ok : goal.returns-clause-ok
returns-clause-ok g c =
    let x : RuleTables = tables g.D.HasMeaning.meaning g.D.SideEffects.side_effects g.D.ConstFoldInterface.can_fold g.D.ConstFoldInterface.constants g.D.ConstFoldInterface.accepts g.D.ConstFoldInterface.constant_head in
    let ops = c.args.ops.now in
    done_as x g.L.Rules.rules c.args.root c.args.ctx.now.tree c.loop-i.ctx.tree c.args.left c.loop-i.rest _ (λ k. In k ops) (λ k i. all_taken ops c.loop-i.i k (omega arith) i) c.loop-i.invariant.done

pub returns-clause-seen : goal.returns-clause-seen
returns-clause-seen g c = c.loop-i.invariant.seen

pub returns-in_err-rest-clause-refused : goal.returns-in_err-rest-clause-refused
returns-in_err-rest-clause-refused g c =
    let x : RuleTables = tables g.D.HasMeaning.meaning g.D.SideEffects.side_effects g.D.ConstFoldInterface.can_fold g.D.ConstFoldInterface.constants g.D.ConstFoldInterface.accepts g.D.ConstFoldInterface.constant_head in
    on_err _ c.from_residual.result (partly_more x g.L.Rules.rules c.args.root c.args.ctx.now.tree c.loop-i.ctx.tree c.rewrite_operation.new.ctx.tree c.args.left c.loop-i.rest _ c.loop-i.invariant.done c.in_err-rest.ensures.refused)
