use Rattle.std.proofs.Common.{◌≡◌, ◌+◌, ◌≤◌, length, sym, ap, ◌∙◌, subst, arith}
use Rattle.std.proofs.lemmas.List.{length-take-le}
use Rattle.pliron_core.specs.Tree.{Tree, IsBlock, IsLive, head_of, results_of}
use Rattle.pliron_core.proofs.HoldingLemmas.{some_of, not_none}
use Rattle.pliron_rewrite_calls.specs.CopySteps.{IsGrownIn, AreBare}
use Rattle.pliron_rewrite_calls.proofs.CopyCalls.{op_step, op_placed, op_whole}
use Rattle.pliron_rewrite_calls.proofs.copying.make_operation.Goals as goal

pub get_parent_block-requires : goal.get_parent_block-requires
get_parent_block-requires g c =
    let t = c.args.ctx.now.tree in
    let op = c.index-operations-i.result in
    let s = op_step g.x c.requires.1.0 c.args.operations.now c.requires.1.1.0 t c.well_formed-2.ensures.tree c.args.i op c.requires.1.1.1.0 c.index-operations-i.is c.args.copies.now c.requires.1.1.1.1 in
    s.live

pub unreachable-requires : goal.unreachable-requires
unreachable-requires g c =
    let t = c.args.ctx.now.tree in
    let op = c.index-operations-i.result in
    let s = op_step g.x c.requires.1.0 c.args.operations.now c.requires.1.1.0 t c.well_formed-2.ensures.tree c.args.i op c.requires.1.1.1.0 c.index-operations-i.is c.args.copies.now c.requires.1.1.1.1 in
    not_none (sym c.in_default.is ∙ c.get_parent_block.ensures.block ∙ s.placed.1)

pub make_like-requires-clause-live : goal.make_like-requires-clause-live
make_like-requires-clause-live g c =
    let t = c.args.ctx.now.tree in
    let op = c.index-operations-i.result in
    let s = op_step g.x c.requires.1.0 c.args.operations.now c.requires.1.1.0 t c.well_formed-2.ensures.tree c.args.i op c.requires.1.1.1.0 c.index-operations-i.is c.args.copies.now c.requires.1.1.1.1 in
    s.live

pub make_like-requires-clause-to : goal.make_like-requires-clause-to
make_like-requires-clause-to g c =
    let t = c.args.ctx.now.tree in
    let op = c.index-operations-i.result in
    let s = op_step g.x c.requires.1.0 c.args.operations.now c.requires.1.1.0 t c.well_formed-2.ensures.tree c.args.i op c.requires.1.1.1.0 c.index-operations-i.is c.args.copies.now c.requires.1.1.1.1 in
    subst (IsBlock t) (sym c.block_or_copy-to.ensures) (s.target c.in-Some.block (sym c.in-Some.ensures.block))

pub returns-in_err-copy-clause-grown : goal.returns-in_err-copy-clause-grown
returns-in_err-copy-clause-grown g c =
    subst (λ (z : Tree). IsGrownIn g.x.tree z g.x.region) (sym (ap (λ z. z.tree) c.in_err-copy.ensures.refused)) c.requires.1.1.1.1.made.grown

pub returns-in_err-copy-clause-bare : goal.returns-in_err-copy-clause-bare
returns-in_err-copy-clause-bare g c =
    λ bare. subst (λ (z : Tree). AreBare g.x.tree z) (sym (ap (λ z. z.tree) c.in_err-copy.ensures.refused)) bare

pub map_results-requires-clause-op : goal.map_results-requires-clause-op
map_results-requires-clause-op g c =
    let t = c.args.ctx.now.tree in
    let op = c.index-operations-i.result in
    let s = op_step g.x c.requires.1.0 c.args.operations.now c.requires.1.1.0 t c.well_formed-2.ensures.tree c.args.i op c.requires.1.1.1.0 c.index-operations-i.is c.args.copies.now c.requires.1.1.1.1 in
    let hd = some_of (head_of t op) s.live in
    let p = op_placed g.x c.requires.1.0 c.args.operations.now c.requires.1.1.0 t c.well_formed-2.ensures.tree c.args.i op c.requires.1.1.1.0 c.index-operations-i.is c.args.copies.now c.requires.1.1.1.1 c.in-Some.block (sym c.in-Some.ensures.block) hd.0 hd.1 c.block_or_copy-to.result c.block_or_copy-to.ensures c.make_like.new.ctx.tree c.well_formed-3.ensures.tree (c.in_ok-copy.ensures.created hd.0 hd.1) in
    p.live

pub map_results-requires-clause-copy : goal.map_results-requires-clause-copy
map_results-requires-clause-copy g c =
    let t = c.args.ctx.now.tree in
    let op = c.index-operations-i.result in
    let s = op_step g.x c.requires.1.0 c.args.operations.now c.requires.1.1.0 t c.well_formed-2.ensures.tree c.args.i op c.requires.1.1.1.0 c.index-operations-i.is c.args.copies.now c.requires.1.1.1.1 in
    let hd = some_of (head_of t op) s.live in
    let p = op_placed g.x c.requires.1.0 c.args.operations.now c.requires.1.1.0 t c.well_formed-2.ensures.tree c.args.i op c.requires.1.1.1.0 c.index-operations-i.is c.args.copies.now c.requires.1.1.1.1 c.in-Some.block (sym c.in-Some.ensures.block) hd.0 hd.1 c.block_or_copy-to.result c.block_or_copy-to.ensures c.make_like.new.ctx.tree c.well_formed-3.ensures.tree (c.in_ok-copy.ensures.created hd.0 hd.1) in
    subst (IsLive c.make_like.new.ctx.tree) (sym c.in_ok-copy.ensures.key) p.copy

pub map_results-requires-clause-long : goal.map_results-requires-clause-long
map_results-requires-clause-long g c =
    let t = c.args.ctx.now.tree in
    let op = c.index-operations-i.result in
    let s = op_step g.x c.requires.1.0 c.args.operations.now c.requires.1.1.0 t c.well_formed-2.ensures.tree c.args.i op c.requires.1.1.1.0 c.index-operations-i.is c.args.copies.now c.requires.1.1.1.1 in
    let hd = some_of (head_of t op) s.live in
    let p = op_placed g.x c.requires.1.0 c.args.operations.now c.requires.1.1.0 t c.well_formed-2.ensures.tree c.args.i op c.requires.1.1.1.0 c.index-operations-i.is c.args.copies.now c.requires.1.1.1.1 c.in-Some.block (sym c.in-Some.ensures.block) hd.0 hd.1 c.block_or_copy-to.result c.block_or_copy-to.ensures c.make_like.new.ctx.tree c.well_formed-3.ensures.tree (c.in_ok-copy.ensures.created hd.0 hd.1) in
    subst (λ k. length (results_of c.make_like.new.ctx.tree op) ≡ length (results_of c.make_like.new.ctx.tree k)) (sym c.in_ok-copy.ensures.key) p.long

pub returns-in_err-map_results-clause-grown : goal.returns-in_err-map_results-clause-grown
returns-in_err-map_results-clause-grown g c =
    let t = c.args.ctx.now.tree in
    let op = c.index-operations-i.result in
    let s = op_step g.x c.requires.1.0 c.args.operations.now c.requires.1.1.0 t c.well_formed-2.ensures.tree c.args.i op c.requires.1.1.1.0 c.index-operations-i.is c.args.copies.now c.requires.1.1.1.1 in
    let hd = some_of (head_of t op) s.live in
    let p = op_placed g.x c.requires.1.0 c.args.operations.now c.requires.1.1.0 t c.well_formed-2.ensures.tree c.args.i op c.requires.1.1.1.0 c.index-operations-i.is c.args.copies.now c.requires.1.1.1.1 c.in-Some.block (sym c.in-Some.ensures.block) hd.0 hd.1 c.block_or_copy-to.result c.block_or_copy-to.ensures c.make_like.new.ctx.tree c.well_formed-3.ensures.tree (c.in_ok-copy.ensures.created hd.0 hd.1) in
    p.grown

pub returns-in_err-map_results-clause-bare : goal.returns-in_err-map_results-clause-bare
returns-in_err-map_results-clause-bare g c =
    let t = c.args.ctx.now.tree in
    let op = c.index-operations-i.result in
    let s = op_step g.x c.requires.1.0 c.args.operations.now c.requires.1.1.0 t c.well_formed-2.ensures.tree c.args.i op c.requires.1.1.1.0 c.index-operations-i.is c.args.copies.now c.requires.1.1.1.1 in
    let hd = some_of (head_of t op) s.live in
    let p = op_placed g.x c.requires.1.0 c.args.operations.now c.requires.1.1.0 t c.well_formed-2.ensures.tree c.args.i op c.requires.1.1.1.0 c.index-operations-i.is c.args.copies.now c.requires.1.1.1.1 c.in-Some.block (sym c.in-Some.ensures.block) hd.0 hd.1 c.block_or_copy-to.result c.block_or_copy-to.ensures c.make_like.new.ctx.tree c.well_formed-3.ensures.tree (c.in_ok-copy.ensures.created hd.0 hd.1) in
    p.bare

pub returns-clause-grown : goal.returns-clause-grown
returns-clause-grown g c =
    let t = c.args.ctx.now.tree in
    let op = c.index-operations-i.result in
    let s = op_step g.x c.requires.1.0 c.args.operations.now c.requires.1.1.0 t c.well_formed-2.ensures.tree c.args.i op c.requires.1.1.1.0 c.index-operations-i.is c.args.copies.now c.requires.1.1.1.1 in
    let hd = some_of (head_of t op) s.live in
    let p = op_placed g.x c.requires.1.0 c.args.operations.now c.requires.1.1.0 t c.well_formed-2.ensures.tree c.args.i op c.requires.1.1.1.0 c.index-operations-i.is c.args.copies.now c.requires.1.1.1.1 c.in-Some.block (sym c.in-Some.ensures.block) hd.0 hd.1 c.block_or_copy-to.result c.block_or_copy-to.ensures c.make_like.new.ctx.tree c.well_formed-3.ensures.tree (c.in_ok-copy.ensures.created hd.0 hd.1) in
    p.grown

pub returns-clause-bare : goal.returns-clause-bare
returns-clause-bare g c =
    let t = c.args.ctx.now.tree in
    let op = c.index-operations-i.result in
    let s = op_step g.x c.requires.1.0 c.args.operations.now c.requires.1.1.0 t c.well_formed-2.ensures.tree c.args.i op c.requires.1.1.1.0 c.index-operations-i.is c.args.copies.now c.requires.1.1.1.1 in
    let hd = some_of (head_of t op) s.live in
    let p = op_placed g.x c.requires.1.0 c.args.operations.now c.requires.1.1.0 t c.well_formed-2.ensures.tree c.args.i op c.requires.1.1.1.0 c.index-operations-i.is c.args.copies.now c.requires.1.1.1.1 c.in-Some.block (sym c.in-Some.ensures.block) hd.0 hd.1 c.block_or_copy-to.result c.block_or_copy-to.ensures c.make_like.new.ctx.tree c.well_formed-3.ensures.tree (c.in_ok-copy.ensures.created hd.0 hd.1) in
    p.bare

pub returns-clause-key : goal.returns-clause-key
returns-clause-key g c =
    let count = c.requires.1.1.1.1.made.operation_count in
    let le : c.args.i ≤ length c.args.operations.now = (let y = c.requires.1.1.1.0 in omega (arith, y)) in
    c.in_ok-copy.ensures.key ∙ count ∙ ap (λ z. length g.x.tree.operations + z) (length-take-le c.args.i c.args.operations.now le)

pub returns-clause-ok : goal.returns-clause-ok
returns-clause-ok g c =
    let t = c.args.ctx.now.tree in
    let op = c.index-operations-i.result in
    let s = op_step g.x c.requires.1.0 c.args.operations.now c.requires.1.1.0 t c.well_formed-2.ensures.tree c.args.i op c.requires.1.1.1.0 c.index-operations-i.is c.args.copies.now c.requires.1.1.1.1 in
    let hd = some_of (head_of t op) s.live in
    op_whole g.x c.requires.1.0 c.args.operations.now c.requires.1.1.0 t c.well_formed-2.ensures.tree c.args.i op c.requires.1.1.1.0 c.index-operations-i.is c.args.copies.now c.requires.1.1.1.1 c.in-Some.block (sym c.in-Some.ensures.block) hd.0 hd.1 c.block_or_copy-to.result c.block_or_copy-to.ensures c.make_like.new.ctx.tree c.well_formed-3.ensures.tree (c.in_ok-copy.ensures.created hd.0 hd.1) c.in_ok-copy.copy c.map_results.new.copies c.in_ok-copy.ensures.key c.in_ok-map_results.ensures.added
