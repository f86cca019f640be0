use Rattle.std.proofs.Common.{◌≤◌, length, arith}
use Rattle.pliron_core.specs.Tree.{In, results_of}
use Rattle.pliron_core.proofs.ContainedLemmas.{passed-more, passed-all}
use Rattle.pliron_opt_rotate.proofs.Loops.{none_passed, passed_kept, more_in, last_there}
use Rattle.pliron_opt_rotate.proofs.covering.add_results.Goals as goal

pub loop-i-init : goal.loop-i-init
loop-i-init c = record { kept = λ v i. i; done = none_passed _ _ }

pub loop-i-preserved : goal.loop-i-preserved
loop-i-preserved c =
    let more = more_in c.loop-i.values.items c.push.new.self.items c.get_result.result in
    let e = c.in_ok-push.ensures.items in
    record {
      kept = λ v i. more v e (c.loop-i.invariant.kept v i);
      done = passed-more _ _ c.loop-i.i c.get_result.result (passed_kept _ _ _ c.loop-i.i (λ v i. more v e i) c.loop-i.invariant.done) c.get_result.ensures.value (last_there c.loop-i.values.items c.push.new.self.items c.get_result.result e);
    }

pub returns-clause-kept : goal.returns-clause-kept
returns-clause-kept c = c.loop-i.invariant.kept

pub returns-clause-there : goal.returns-clause-there
returns-clause-there c =
    let whole : length (results_of c.args.ctx.now.tree c.args.op) ≤ c.loop-i.i = omega arith in
    passed-all (λ v. In v c.loop-i.values.items) (results_of c.args.ctx.now.tree c.args.op) c.loop-i.i c.loop-i.invariant.done whole
