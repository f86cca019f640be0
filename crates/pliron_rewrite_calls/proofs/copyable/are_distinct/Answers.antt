use Rattle.std.proofs.Common.{◌≤◌, length, refl, arith, rules}
use Rattle.std.proofs.lemmas.Bool.{false≢true}
use Rattle.pliron_rewrite_calls.proofs.CopyableLemmas.{none_seen, one_seen, seen_twice, all_seen, is_new, is_old}
use Rattle.pliron_rewrite_calls.proofs.copyable.are_distinct.Goals as goal

pub loop-block-init : goal.loop-block-init
loop-block-init c = none_seen c.args.blocks.now c.new-seen.result.keys c.new-seen.ensures.empty

pub returns-then-not-branch-clause-distinct : goal.returns-then-not-branch-clause-distinct
returns-then-not-branch-clause-distinct c =
    let old = is_old _ _ c.in_ok-insert.ensures.added (search rules) in
    (λ f. absurd (false≢true f), λ d. absurd (seen_twice c.args.blocks.now c.loop-block.seen.keys c.loop-block.block-index c.block-item.result c.loop-block-test.true c.block-item.is c.loop-block.invariant old d))

pub loop-block-preserved : goal.loop-block-preserved
loop-block-preserved c =
    let new = is_new _ _ c.in_ok-insert.ensures.added (search rules) in
    one_seen c.args.blocks.now c.loop-block.seen.keys c.loop-block.block-index c.block-item.result c.loop-block-test.true c.block-item.is c.loop-block.invariant c.insert.new.self.keys c.in_ok-insert.ensures.keys new

pub returns-clause-distinct : goal.returns-clause-distinct
returns-clause-distinct c =
    let whole : length c.args.blocks.now ≤ c.loop-block.block-index = omega (arith, c.loop-block-test.false) in
    (λ e. all_seen c.args.blocks.now c.loop-block.seen.keys c.loop-block.block-index whole c.loop-block.invariant, λ d. refl)
