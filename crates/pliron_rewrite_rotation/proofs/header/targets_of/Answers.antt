use Rattle.std.proofs.Common.{◌∷◌, [], ◌++◌, ◌≤◌, length, map, ap, ◌∙◌, arith}
use Rattle.std.proofs.lemmas.List.{take_all}
use Rattle.pliron_core.specs.Tree.{successors_of}
use Rattle.pliron_rewrite_rotation.proofs.OriginalLists.{mapped_more}
use Rattle.pliron_rewrite_rotation.specs.Entering.{led_target}
use Rattle.pliron_rewrite_rotation.proofs.header.targets_of.Goals as goal

pub loop-j-preserved : goal.loop-j-preserved
loop-j-preserved c =
    mapped_more (led_target c.args.header c.args.copy) (successors_of c.args.ctx.now.tree c.args.op) c.loop-j.targets.items _ c.loop-j.j c.get_successor.result (c.in_ok-push.ensures.items ∙ ap (λ x. c.loop-j.targets.items ++ x ∷ []) c.target_of.ensures) c.loop-j.invariant c.get_successor.ensures.successor

pub returns-clause-ok : goal.returns-clause-ok
returns-clause-ok c =
    let le : length (successors_of c.args.ctx.now.tree c.args.op) ≤ c.loop-j.j = omega arith in
    c.loop-j.invariant ∙ ap (map (led_target c.args.header c.args.copy)) (take_all c.loop-j.j (successors_of c.args.ctx.now.tree c.args.op) le)
