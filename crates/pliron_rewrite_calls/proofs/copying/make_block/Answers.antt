use Rattle.std.proofs.Common.{◌≡◌, length, sym, ap, ◌∙◌, subst}
use Rattle.pliron_core.specs.Tree.{Tree, IsBlock, IsRegion, arguments_of}
use Rattle.pliron_core.specs.Writes.{block_created}
use Rattle.pliron_rewrite_calls.specs.CopySteps.{IsGrownIn}
use Rattle.pliron_rewrite_calls.proofs.CopyCalls.{block_step, block_whole}
use Rattle.pliron_rewrite_calls.proofs.copying.make_block.Goals as goal

pub num_argument-count-requires : goal.num_argument-count-requires
num_argument-count-requires g c = (block_step g.x c.requires.0 c.args.blocks.now c.requires.1.0 c.args.ctx.now.tree c.well_formed-2.ensures.tree c.args.i c.index-blocks-i.result c.requires.1.1.0 c.index-blocks-i.is c.args.copies.now c.requires.1.1.1.0).stands

pub create-requires : goal.create-requires
create-requires g c = subst (IsRegion c.args.ctx.now.tree) c.requires.1.1.1.1 (block_step g.x c.requires.0 c.args.blocks.now c.requires.1.0 c.args.ctx.now.tree c.well_formed-2.ensures.tree c.args.i c.index-blocks-i.result c.requires.1.1.0 c.index-blocks-i.is c.args.copies.now c.requires.1.1.1.0).into

pub returns-in_err-add_block-clause-grown : goal.returns-in_err-add_block-clause-grown
returns-in_err-add_block-clause-grown g c =
    let t = c.args.ctx.now.tree in
    let s = block_step g.x c.requires.0 c.args.blocks.now c.requires.1.0 t c.well_formed-2.ensures.tree c.args.i c.index-blocks-i.result c.requires.1.1.0 c.index-blocks-i.is c.args.copies.now c.requires.1.1.1.0 in
    let is : c.create.new.ctx.tree ≡ block_created t g.x.region (length (arguments_of t c.index-blocks-i.result)) = c.in_ok-copy.ensures.ok ∙ ap (λ r. block_created t r c.num_argument-count.result) (sym c.requires.1.1.1.1) ∙ ap (λ n. block_created t g.x.region n) c.num_argument-count.ensures in
    subst (λ (z : Tree). IsGrownIn g.x.tree z g.x.region) (sym is) s.grown

pub map_arguments-requires-clause-block : goal.map_arguments-requires-clause-block
map_arguments-requires-clause-block g c =
    let t = c.args.ctx.now.tree in
    let s = block_step g.x c.requires.0 c.args.blocks.now c.requires.1.0 t c.well_formed-2.ensures.tree c.args.i c.index-blocks-i.result c.requires.1.1.0 c.index-blocks-i.is c.args.copies.now c.requires.1.1.1.0 in
    let is : c.create.new.ctx.tree ≡ block_created t g.x.region (length (arguments_of t c.index-blocks-i.result)) = c.in_ok-copy.ensures.ok ∙ ap (λ r. block_created t r c.num_argument-count.result) (sym c.requires.1.1.1.1) ∙ ap (λ n. block_created t g.x.region n) c.num_argument-count.ensures in
    subst (λ (z : Tree). IsBlock z c.index-blocks-i.result) (sym is) s.still

pub map_arguments-requires-clause-copy : goal.map_arguments-requires-clause-copy
map_arguments-requires-clause-copy g c =
    let t = c.args.ctx.now.tree in
    let s = block_step g.x c.requires.0 c.args.blocks.now c.requires.1.0 t c.well_formed-2.ensures.tree c.args.i c.index-blocks-i.result c.requires.1.1.0 c.index-blocks-i.is c.args.copies.now c.requires.1.1.1.0 in
    let is : c.create.new.ctx.tree ≡ block_created t g.x.region (length (arguments_of t c.index-blocks-i.result)) = c.in_ok-copy.ensures.ok ∙ ap (λ r. block_created t r c.num_argument-count.result) (sym c.requires.1.1.1.1) ∙ ap (λ n. block_created t g.x.region n) c.num_argument-count.ensures in
    subst (IsBlock c.create.new.ctx.tree) (sym c.in_ok-copy.ensures.key) (subst (λ (z : Tree). IsBlock z (length t.bodies)) (sym is) s.copy)

pub map_arguments-requires-clause-long : goal.map_arguments-requires-clause-long
map_arguments-requires-clause-long g c =
    let t = c.args.ctx.now.tree in
    let s = block_step g.x c.requires.0 c.args.blocks.now c.requires.1.0 t c.well_formed-2.ensures.tree c.args.i c.index-blocks-i.result c.requires.1.1.0 c.index-blocks-i.is c.args.copies.now c.requires.1.1.1.0 in
    let is : c.create.new.ctx.tree ≡ block_created t g.x.region (length (arguments_of t c.index-blocks-i.result)) = c.in_ok-copy.ensures.ok ∙ ap (λ r. block_created t r c.num_argument-count.result) (sym c.requires.1.1.1.1) ∙ ap (λ n. block_created t g.x.region n) c.num_argument-count.ensures in
    subst (λ k. length (arguments_of c.create.new.ctx.tree c.index-blocks-i.result) ≡ length (arguments_of c.create.new.ctx.tree k)) (sym c.in_ok-copy.ensures.key)
    (subst (λ (z : Tree). length (arguments_of z c.index-blocks-i.result) ≡ length (arguments_of z (length t.bodies))) (sym is) s.long)

pub returns-in_err-map_arguments-clause-grown : goal.returns-in_err-map_arguments-clause-grown
returns-in_err-map_arguments-clause-grown g c =
    let t = c.args.ctx.now.tree in
    let s = block_step g.x c.requires.0 c.args.blocks.now c.requires.1.0 t c.well_formed-2.ensures.tree c.args.i c.index-blocks-i.result c.requires.1.1.0 c.index-blocks-i.is c.args.copies.now c.requires.1.1.1.0 in
    let is : c.create.new.ctx.tree ≡ block_created t g.x.region (length (arguments_of t c.index-blocks-i.result)) = c.in_ok-copy.ensures.ok ∙ ap (λ r. block_created t r c.num_argument-count.result) (sym c.requires.1.1.1.1) ∙ ap (λ n. block_created t g.x.region n) c.num_argument-count.ensures in
    subst (λ (z : Tree). IsGrownIn g.x.tree z g.x.region) (sym is) s.grown

pub returns-clause-grown : goal.returns-clause-grown
returns-clause-grown g c =
    let t = c.args.ctx.now.tree in
    let s = block_step g.x c.requires.0 c.args.blocks.now c.requires.1.0 t c.well_formed-2.ensures.tree c.args.i c.index-blocks-i.result c.requires.1.1.0 c.index-blocks-i.is c.args.copies.now c.requires.1.1.1.0 in
    let is : c.create.new.ctx.tree ≡ block_created t g.x.region (length (arguments_of t c.index-blocks-i.result)) = c.in_ok-copy.ensures.ok ∙ ap (λ r. block_created t r c.num_argument-count.result) (sym c.requires.1.1.1.1) ∙ ap (λ n. block_created t g.x.region n) c.num_argument-count.ensures in
    subst (λ (z : Tree). IsGrownIn g.x.tree z g.x.region) (sym is) s.grown

pub returns-clause-ok : goal.returns-clause-ok
returns-clause-ok g c =
    let t = c.args.ctx.now.tree in
    let is : c.create.new.ctx.tree ≡ block_created t g.x.region (length (arguments_of t c.index-blocks-i.result)) = c.in_ok-copy.ensures.ok ∙ ap (λ r. block_created t r c.num_argument-count.result) (sym c.requires.1.1.1.1) ∙ ap (λ n. block_created t g.x.region n) c.num_argument-count.ensures in
    block_whole g.x c.requires.0 c.args.blocks.now c.requires.1.0 t c.well_formed-2.ensures.tree c.args.i c.index-blocks-i.result c.requires.1.1.0 c.index-blocks-i.is c.args.copies.now c.requires.1.1.1.0 c.create.new.ctx.tree c.in_ok-copy.copy c.add_block.new.self c.map_arguments.new.copies c.well_formed-3.ensures.tree is c.in_ok-copy.ensures.key c.in_ok-add_block.ensures.added c.in_ok-add_block.ensures.values c.in_ok-map_arguments.ensures.added
