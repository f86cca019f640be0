use Rattle.std.proofs.Common.{◌≡◌, ◌∙◌, Some, None, sym, ap}
use Rattle.std.proofs.lemmas.Option.{same_Some}
use Rattle.std.proofs.lemmas.Bool.{false≢true}
use Rattle.pliron_core.proofs.NextLemmas.{keys_unequal, keys_same}
use Rattle.pliron_core.proofs.WalkLemmas.{held_live}
use Rattle.pliron_core.specs.Tree.{parent_of, block_parent_of}
use Rattle.pliron_pass_fit.proofs.ContentsLemmas.{in_tested, position_at}
use Rattle.pliron_pass_fit.proofs.WayLemmas.{holder_on_way, nothing_below, one_below, only_around}
use Rattle.pliron_pass_fit.proofs.nesting.find_around.Goals as goal

pub returns-in_default : goal.returns-in_default
returns-in_default c = λ root user way held a b s.
    let keys = c.args.way.now.keys in
    let h = c.get_parent_op.result in
    false≢true (c.in_default.ensures.found ∙ in_tested keys h (holder_on_way c.args.ctx.now.tree c.well_formed-2.ensures.tree root user c.args.region h keys way c.get_parent_op.ensures.parent held a b s))

pub returns-in_default-get_index : goal.returns-in_default-get_index
returns-in_default-get_index c = λ root user way held a b s.
    let keys = c.args.way.now.keys in
    let h = c.get_parent_op.result in
    let i = c.in-Some.above in
    nothing_below c.args.ctx.now.tree c.well_formed-2.ensures.tree root user c.args.region h keys way c.get_parent_op.ensures.parent i (position_at keys h i (sym c.in-Some.ensures.index)) (sym c.in_default-get_index.ensures.key) a b s

pub get_parent_block-requires : goal.get_parent_block-requires
get_parent_block-requires c =
    let t = c.args.ctx.now.tree in
    let w = c.well_formed-2.ensures.tree in
    let keys = c.args.way.now.keys in
    let h = c.get_parent_op.result in
    let i = c.in-Some.above in
    let x = c.in-Some-get_index.around.now in
    let way = c.requires.way in
    held_live t w x h (one_below t w way.0 way.1 c.args.region h keys way.2 c.get_parent_op.ensures.parent i x (position_at keys h i (sym c.in-Some.ensures.index)) (sym c.in-Some-get_index.ensures.key)).0

pub returns-in_default-get_parent_block : goal.returns-in_default-get_parent_block
returns-in_default-get_parent_block c = λ root user way held a b s.
    let t = c.args.ctx.now.tree in
    let w = c.well_formed-2.ensures.tree in
    let keys = c.args.way.now.keys in
    let h = c.get_parent_op.result in
    let i = c.in-Some.above in
    let x = c.in-Some-get_index.around.now in
    let known = one_below t w root user c.args.region h keys way c.get_parent_op.ensures.parent i x (position_at keys h i (sym c.in-Some.ensures.index)) (sym c.in-Some-get_index.ensures.key) in
    let same = only_around t w root user c.args.region h keys way c.get_parent_op.ensures.parent x known a b s in
    let clash : None ≡ Some b = c.in_default-get_parent_block.ensures.block ∙ ap (λ z. parent_of t z) (sym same) ∙ s.in_block in
    cc

pub returns-then-ne : goal.returns-then-ne
returns-then-ne c = λ root user way held a b s.
    let t = c.args.ctx.now.tree in
    let w = c.well_formed-2.ensures.tree in
    let keys = c.args.way.now.keys in
    let h = c.get_parent_op.result in
    let i = c.in-Some.above in
    let x = c.in-Some-get_index.around.now in
    let known = one_below t w root user c.args.region h keys way c.get_parent_op.ensures.parent i x (position_at keys h i (sym c.in-Some.ensures.index)) (sym c.in-Some-get_index.ensures.key) in
    let same = only_around t w root user c.args.region h keys way c.get_parent_op.ensures.parent x known a b s in
    let block : b ≡ c.in-Some-get_parent_block.block = same_Some b c.in-Some-get_parent_block.block (sym s.in_block ∙ ap (λ z. parent_of t z) same ∙ sym c.in-Some-get_parent_block.ensures.block) in
    keys_unequal c.region_of.result c.args.region c.if-ne.ensures (same_Some c.region_of.result c.args.region (sym c.region_of.ensures ∙ ap (λ z. block_parent_of t z) (sym block) ∙ s.in_region))

pub returns : goal.returns
returns c = λ root user way held.
    let t = c.args.ctx.now.tree in
    let w = c.well_formed-2.ensures.tree in
    let keys = c.args.way.now.keys in
    let h = c.get_parent_op.result in
    let i = c.in-Some.above in
    let x = c.in-Some-get_index.around.now in
    let known = one_below t w root user c.args.region h keys way c.get_parent_op.ensures.parent i x (position_at keys h i (sym c.in-Some.ensures.index)) (sym c.in-Some-get_index.ensures.key) in
    record { holds = known.1; in_block = sym c.in-Some-get_parent_block.ensures.block; in_region = c.region_of.ensures ∙ ap Some (keys_same c.region_of.result c.args.region c.if-ne.ensures) }
