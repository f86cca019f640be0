use Rattle.std.proofs.Common.{length, ap, ◌∙◌, subst, map, refl, arith}
use Rattle.std.proofs.lemmas.List.FromFn.{length-range_with_len}
use Rattle.pliron_core.specs.Tree.{In, operands_of, successors_of}
use Rattle.pliron_rewrite_calls.specs.CopyTables.{block_or_copy_in, value_or_copy_in}
use Rattle.pliron_rewrite_calls.proofs.CopyCalls.{connect_step, connect_kept, connect_whole, names_both, names_live, names_block}
use Rattle.pliron_rewrite_calls.proofs.copying.connect.Goals as goal

pub push_operands-requires-clause-op : goal.push_operands-requires-clause-op
push_operands-requires-clause-op g c =
    let s = connect_step g.x c.requires.0 c.args.operations.now c.args.made.now c.requires.1.0 c.requires.1.1.0 c.args.ctx.now.tree c.args.i c.index-operations-i.result c.index-made-i.result c.requires.1.1.1.0 c.index-operations-i.is c.index-made-i.is c.args.copies.now c.requires.1.1.1.1.0 c.requires.1.1.1.1.1 in
    s.live

pub push_operands-requires-clause-copy : goal.push_operands-requires-clause-copy
push_operands-requires-clause-copy g c =
    let s = connect_step g.x c.requires.0 c.args.operations.now c.args.made.now c.requires.1.0 c.requires.1.1.0 c.args.ctx.now.tree c.args.i c.index-operations-i.result c.index-made-i.result c.requires.1.1.1.0 c.index-operations-i.is c.index-made-i.is c.args.copies.now c.requires.1.1.1.1.0 c.requires.1.1.1.1.1 in
    s.copy

pub push_operands-requires-clause-apart : goal.push_operands-requires-clause-apart
push_operands-requires-clause-apart g c =
    let s = connect_step g.x c.requires.0 c.args.operations.now c.args.made.now c.requires.1.0 c.requires.1.1.0 c.args.ctx.now.tree c.args.i c.index-operations-i.result c.index-made-i.result c.requires.1.1.1.0 c.index-operations-i.is c.index-made-i.is c.args.copies.now c.requires.1.1.1.1.0 c.requires.1.1.1.1.1 in
    s.apart

pub push_operands-requires-clause-bare : goal.push_operands-requires-clause-bare
push_operands-requires-clause-bare g c =
    let s = connect_step g.x c.requires.0 c.args.operations.now c.args.made.now c.requires.1.0 c.requires.1.1.0 c.args.ctx.now.tree c.args.i c.index-operations-i.result c.index-made-i.result c.requires.1.1.1.0 c.index-operations-i.is c.index-made-i.is c.args.copies.now c.requires.1.1.1.1.0 c.requires.1.1.1.1.1 in
    s.bare.0

pub push_operands-requires-clause-defined : goal.push_operands-requires-clause-defined
push_operands-requires-clause-defined g c =
    let s = connect_step g.x c.requires.0 c.args.operations.now c.args.made.now c.requires.1.0 c.requires.1.1.0 c.args.ctx.now.tree c.args.i c.index-operations-i.result c.index-made-i.result c.requires.1.1.1.0 c.index-operations-i.is c.index-made-i.is c.args.copies.now c.requires.1.1.1.1.0 c.requires.1.1.1.1.1 in
    s.values

pub returns-in_err-push_operands-clause-copying : goal.returns-in_err-push_operands-clause-copying
returns-in_err-push_operands-clause-copying g c =
    let n = c.in_err-push_operands.ensures.named in
    connect_kept g.x c.requires.0 c.args.operations.now c.args.made.now c.requires.1.0 c.requires.1.1.0 c.args.ctx.now.tree c.args.i c.index-operations-i.result c.index-made-i.result c.requires.1.1.1.0 c.index-operations-i.is c.index-made-i.is c.args.copies.now c.requires.1.1.1.1.0 c.requires.1.1.1.1.1 c.push_operands.new.ctx.tree n.0 (successors_of c.args.ctx.now.tree c.index-made-i.result) n.1

pub push_successors-requires-clause-op : goal.push_successors-requires-clause-op
push_successors-requires-clause-op g c =
    let s = connect_step g.x c.requires.0 c.args.operations.now c.args.made.now c.requires.1.0 c.requires.1.1.0 c.args.ctx.now.tree c.args.i c.index-operations-i.result c.index-made-i.result c.requires.1.1.1.0 c.index-operations-i.is c.index-made-i.is c.args.copies.now c.requires.1.1.1.1.0 c.requires.1.1.1.1.1 in
    let n = c.in_ok-push_operands.ensures.ok in
    names_live c.args.ctx.now.tree c.push_operands.new.ctx.tree c.index-made-i.result (map (value_or_copy_in c.args.copies.now) (operands_of c.args.ctx.now.tree c.index-operations-i.result)) (successors_of c.args.ctx.now.tree c.index-made-i.result) n c.index-operations-i.result s.live

pub push_successors-requires-clause-copy : goal.push_successors-requires-clause-copy
push_successors-requires-clause-copy g c =
    let s = connect_step g.x c.requires.0 c.args.operations.now c.args.made.now c.requires.1.0 c.requires.1.1.0 c.args.ctx.now.tree c.args.i c.index-operations-i.result c.index-made-i.result c.requires.1.1.1.0 c.index-operations-i.is c.index-made-i.is c.args.copies.now c.requires.1.1.1.1.0 c.requires.1.1.1.1.1 in
    let n = c.in_ok-push_operands.ensures.ok in
    names_live c.args.ctx.now.tree c.push_operands.new.ctx.tree c.index-made-i.result (map (value_or_copy_in c.args.copies.now) (operands_of c.args.ctx.now.tree c.index-operations-i.result)) (successors_of c.args.ctx.now.tree c.index-made-i.result) n c.index-made-i.result s.copy

pub push_successors-requires-clause-apart : goal.push_successors-requires-clause-apart
push_successors-requires-clause-apart g c =
    let s = connect_step g.x c.requires.0 c.args.operations.now c.args.made.now c.requires.1.0 c.requires.1.1.0 c.args.ctx.now.tree c.args.i c.index-operations-i.result c.index-made-i.result c.requires.1.1.1.0 c.index-operations-i.is c.index-made-i.is c.args.copies.now c.requires.1.1.1.1.0 c.requires.1.1.1.1.1 in
    s.apart

pub push_successors-requires-clause-bare : goal.push_successors-requires-clause-bare
push_successors-requires-clause-bare g c =
    let s = connect_step g.x c.requires.0 c.args.operations.now c.args.made.now c.requires.1.0 c.requires.1.1.0 c.args.ctx.now.tree c.args.i c.index-operations-i.result c.index-made-i.result c.requires.1.1.1.0 c.index-operations-i.is c.index-made-i.is c.args.copies.now c.requires.1.1.1.1.0 c.requires.1.1.1.1.1 in
    let n = c.in_ok-push_operands.ensures.ok in
    n.successors ∙ s.bare.1

pub push_successors-requires-clause-blocks : goal.push_successors-requires-clause-blocks
push_successors-requires-clause-blocks g c =
    let s = connect_step g.x c.requires.0 c.args.operations.now c.args.made.now c.requires.1.0 c.requires.1.1.0 c.args.ctx.now.tree c.args.i c.index-operations-i.result c.index-made-i.result c.requires.1.1.1.0 c.index-operations-i.is c.index-made-i.is c.args.copies.now c.requires.1.1.1.1.0 c.requires.1.1.1.1.1 in
    let n = c.in_ok-push_operands.ensures.ok in
    λ b j. names_block c.args.ctx.now.tree c.push_operands.new.ctx.tree c.index-made-i.result (map (value_or_copy_in c.args.copies.now) (operands_of c.args.ctx.now.tree c.index-operations-i.result)) (successors_of c.args.ctx.now.tree c.index-made-i.result) n (block_or_copy_in c.args.copies.now b) (s.blocks b (subst (In b) (n.other_successors c.index-operations-i.result s.apart) j))

pub returns-in_err-push_successors-clause-copying : goal.returns-in_err-push_successors-clause-copying
returns-in_err-push_successors-clause-copying g c =
    let n = c.in_ok-push_operands.ensures.ok in
    let q = c.in_err-push_successors.ensures.named in
    connect_kept g.x c.requires.0 c.args.operations.now c.args.made.now c.requires.1.0 c.requires.1.1.0 c.args.ctx.now.tree c.args.i c.index-operations-i.result c.index-made-i.result c.requires.1.1.1.0 c.index-operations-i.is c.index-made-i.is c.args.copies.now c.requires.1.1.1.1.0 c.requires.1.1.1.1.1 c.push_successors.new.ctx.tree (map (value_or_copy_in c.args.copies.now) (operands_of c.args.ctx.now.tree c.index-operations-i.result)) q.0 (names_both c.args.ctx.now.tree c.push_operands.new.ctx.tree c.push_successors.new.ctx.tree c.index-made-i.result (map (value_or_copy_in c.args.copies.now) (operands_of c.args.ctx.now.tree c.index-operations-i.result)) q.0 n (q.1))

pub returns-clause-copying : goal.returns-clause-copying
returns-clause-copying g c =
    let n = c.in_ok-push_operands.ensures.ok in
    connect_kept g.x c.requires.0 c.args.operations.now c.args.made.now c.requires.1.0 c.requires.1.1.0 c.args.ctx.now.tree c.args.i c.index-operations-i.result c.index-made-i.result c.requires.1.1.1.0 c.index-operations-i.is c.index-made-i.is c.args.copies.now c.requires.1.1.1.1.0 c.requires.1.1.1.1.1 c.push_successors.new.ctx.tree (map (value_or_copy_in c.args.copies.now) (operands_of c.args.ctx.now.tree c.index-operations-i.result)) (map (block_or_copy_in c.args.copies.now) (successors_of c.push_operands.new.ctx.tree c.index-operations-i.result)) (names_both c.args.ctx.now.tree c.push_operands.new.ctx.tree c.push_successors.new.ctx.tree c.index-made-i.result (map (value_or_copy_in c.args.copies.now) (operands_of c.args.ctx.now.tree c.index-operations-i.result)) (map (block_or_copy_in c.args.copies.now) (successors_of c.push_operands.new.ctx.tree c.index-operations-i.result)) n (c.in_ok-push_successors.ensures.ok))

pub returns-clause-connected : goal.returns-clause-connected
returns-clause-connected g c =
    let s = connect_step g.x c.requires.0 c.args.operations.now c.args.made.now c.requires.1.0 c.requires.1.1.0 c.args.ctx.now.tree c.args.i c.index-operations-i.result c.index-made-i.result c.requires.1.1.1.0 c.index-operations-i.is c.index-made-i.is c.args.copies.now c.requires.1.1.1.1.0 c.requires.1.1.1.1.1 in
    let n = c.in_ok-push_operands.ensures.ok in
    connect_whole g.x c.requires.0 c.args.operations.now c.args.made.now c.requires.1.0 c.requires.1.1.0 c.args.ctx.now.tree c.args.i c.index-operations-i.result c.index-made-i.result c.requires.1.1.1.0 c.index-operations-i.is c.index-made-i.is c.args.copies.now c.requires.1.1.1.1.0 c.requires.1.1.1.1.1 c.push_successors.new.ctx.tree (map (value_or_copy_in c.args.copies.now) (operands_of c.args.ctx.now.tree c.index-operations-i.result)) (map (block_or_copy_in c.args.copies.now) (successors_of c.push_operands.new.ctx.tree c.index-operations-i.result)) (names_both c.args.ctx.now.tree c.push_operands.new.ctx.tree c.push_successors.new.ctx.tree c.index-made-i.result (map (value_or_copy_in c.args.copies.now) (operands_of c.args.ctx.now.tree c.index-operations-i.result)) (map (block_or_copy_in c.args.copies.now) (successors_of c.push_operands.new.ctx.tree c.index-operations-i.result)) n (c.in_ok-push_successors.ensures.ok)) refl (ap (map (block_or_copy_in c.args.copies.now)) (n.other_successors c.index-operations-i.result s.apart))

pub bounds-made-i : goal.bounds-made-i
bounds-made-i g c =
    let e = ap length c.requires.1.1.0 ∙ length-range_with_len (length g.x.tree.operations) (length c.args.operations.now) in
    let lt = c.requires.1.1.1.0 in
    omega (arith, e, lt)
