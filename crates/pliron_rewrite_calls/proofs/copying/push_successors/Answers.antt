use Rattle.std.proofs.Common.{◌≤◌, length, sym, ap, subst, map, take, arith}
use Rattle.std.proofs.lemmas.List.{take_all}
use Rattle.pliron_core.specs.Tree.{Tree, IsBlock, In, operands_of, successors_of}
use Rattle.pliron_core.proofs.FlatLemmas.{In-slice_get}
use Rattle.pliron_rewrite_calls.specs.CopyTables.{block_or_copy_in}
use Rattle.pliron_rewrite_calls.specs.CopySteps.{HasNames}
use Rattle.pliron_rewrite_calls.proofs.CopyCalls.{names_none, names_live, names_block, successor_next}
use Rattle.pliron_rewrite_calls.proofs.copying.push_successors.Goals as goal

pub loop-j-init : goal.loop-j-init
loop-j-init c =
    subst (λ z. HasNames c.args.ctx.now.tree c.args.ctx.now.tree c.args.copy (operands_of c.args.ctx.now.tree c.args.copy) z) c.requires.bare (names_none c.args.ctx.now.tree c.args.copy)

pub get_successor-requires-clause-live : goal.get_successor-requires-clause-live
get_successor-requires-clause-live c =
    names_live c.args.ctx.now.tree c.loop-j.ctx.tree c.args.copy (operands_of c.args.ctx.now.tree c.args.copy) (map (block_or_copy_in c.args.copies.now) (take c.loop-j.j (successors_of c.args.ctx.now.tree c.args.op))) c.loop-j.invariant c.args.op c.requires.op

pub get_successor-requires-clause-index : goal.get_successor-requires-clause-index
get_successor-requires-clause-index c =
    let same = ap length (c.loop-j.invariant.other_successors c.args.op c.requires.apart) in
    omega (arith, same)

pub push_successor-requires-clause-live : goal.push_successor-requires-clause-live
push_successor-requires-clause-live c =
    names_live c.args.ctx.now.tree c.loop-j.ctx.tree c.args.copy (operands_of c.args.ctx.now.tree c.args.copy) (map (block_or_copy_in c.args.copies.now) (take c.loop-j.j (successors_of c.args.ctx.now.tree c.args.op))) c.loop-j.invariant c.args.copy c.requires.copy

pub push_successor-requires-clause-block : goal.push_successor-requires-clause-block
push_successor-requires-clause-block c =
    let i : In c.get_successor.result (successors_of c.loop-j.ctx.tree c.args.op) = In-slice_get (successors_of c.loop-j.ctx.tree c.args.op) c.loop-j.j c.get_successor.result c.get_successor.ensures.successor in
    let is : IsBlock c.args.ctx.now.tree c.block_or_copy-block.result = subst (IsBlock c.args.ctx.now.tree) (sym c.block_or_copy-block.ensures) (c.requires.blocks c.get_successor.result (subst (In c.get_successor.result) (c.loop-j.invariant.other_successors c.args.op c.requires.apart) i)) in
    names_block c.args.ctx.now.tree c.loop-j.ctx.tree c.args.copy (operands_of c.args.ctx.now.tree c.args.copy) (map (block_or_copy_in c.args.copies.now) (take c.loop-j.j (successors_of c.args.ctx.now.tree c.args.op))) c.loop-j.invariant c.block_or_copy-block.result is

pub loop-j-preserved : goal.loop-j-preserved
loop-j-preserved c =
    successor_next c.args.ctx.now.tree c.loop-j.ctx.tree c.push_successor.new.ctx.tree c.well_formed-2.ensures.tree c.args.op c.args.copy c.loop-j.j c.get_successor.result c.block_or_copy-block.result (block_or_copy_in c.args.copies.now) (operands_of c.args.ctx.now.tree c.args.copy) c.requires.copy c.requires.apart c.loop-j.invariant c.get_successor.ensures.successor c.block_or_copy-block.ensures c.in_ok-push_successor.ensures.ok

pub returns-clause-ok : goal.returns-clause-ok
returns-clause-ok c =
    let all : length (successors_of c.args.ctx.now.tree c.args.op) ≤ c.loop-j.j = omega arith in
    subst (λ z. HasNames c.args.ctx.now.tree c.loop-j.ctx.tree c.args.copy (operands_of c.args.ctx.now.tree c.args.copy) (map (block_or_copy_in c.args.copies.now) z)) (take_all c.loop-j.j (successors_of c.args.ctx.now.tree c.args.op) all) c.loop-j.invariant

pub returns-clause-named : goal.returns-clause-named
returns-clause-named c =
    (map (block_or_copy_in c.args.copies.now) (take c.loop-j.j (successors_of c.args.ctx.now.tree c.args.op)), c.loop-j.invariant)

pub returns-in_err-push_successor-clause-named : goal.returns-in_err-push_successor-clause-named
returns-in_err-push_successor-clause-named c =
    (map (block_or_copy_in c.args.copies.now) (take c.loop-j.j (successors_of c.args.ctx.now.tree c.args.op)), subst (λ (z : Tree). HasNames c.args.ctx.now.tree z c.args.copy (operands_of c.args.ctx.now.tree c.args.copy) (map (block_or_copy_in c.args.copies.now) (take c.loop-j.j (successors_of c.args.ctx.now.tree c.args.op)))) (sym (ap (λ z. z.tree) c.in_err-push_successor.ensures.err)) c.loop-j.invariant)
