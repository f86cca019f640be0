use Rattle.std.proofs.Common.{◌≡◌, ◌≤◌, ◌∙◌, ◌+◌, ◌++◌, ◌∷◌, [], take, length, IsSome, sym, ap, subst, refl, arith}
use Rattle.std.proofs.lemmas.List.{take_all}
use Rattle.pliron_core.specs.Tree.{In, body_of}
use Rattle.pliron_graph_order.specs.Numbering.{tables_of, IsLeftAt, AreTaken}
use Rattle.pliron_graph_order.proofs.NumberLemmas.{grows_none, take_item, item_split, item_here}
use Rattle.pliron_graph_order.proofs.StepLemmas.{entered_left, step_waits, block_step, IsBlockStep}
use Rattle.pliron_graph_order.proofs.SeenLemmas.{reached_in}
use Rattle.pliron_graph_order.proofs.walk.add_block.Goals as goal

pub all_operations-requires : goal.all_operations-requires
all_operations-requires c =
    let e = c.requires.entered in
    subst IsSome (sym (reached_in c.args.ctx.now.tree c.well_formed-2.ensures.tree e.0 c.args.block e.1.reached)) refl

pub loop-op-init : goal.loop-op-init
loop-op-init c =
    let e = c.requires.entered in
    let n = tables_of c.args.numbering.now in
    record {
      numbered = c.requires.numbered;
      grows = grows_none n;
      left = entered_left c.args.ctx.now.tree c.well_formed-2.ensures.tree n e.0 c.args.block c.args.above e.1;
      taken = λ k i. absurd i;
    }

pub add_regions-requires-clause-live : goal.add_regions-requires-clause-live
add_regions-requires-clause-live c =
    let t = c.args.ctx.now.tree in
    let same : c.deref-op-items.result.now ≡ body_of t c.args.block = c.deref-op-items.ensures.value ∙ c.in_ok-ops.ensures in
    let here : In c.op-item.result (body_of t c.args.block) = subst (In c.op-item.result) same (item_here c.deref-op-items.result.now c.loop-op.op-index c.op-item.result c.loop-op-test.true c.op-item.is) in
    (c.well_formed-2.ensures.tree.joined.all_in_place c.op-item.result c.args.block (c.well_formed-2.ensures.tree.bodies.owned c.op-item.result c.args.block here)).0

pub add_regions-requires-clause-waits : goal.add_regions-requires-clause-waits
add_regions-requires-clause-waits c =
    let t = c.args.ctx.now.tree in
    let e = c.requires.entered in
    let same : c.deref-op-items.result.now ≡ body_of t c.args.block = c.deref-op-items.ensures.value ∙ c.in_ok-ops.ensures in
    let split = item_split c.deref-op-items.result.now c.loop-op.op-index c.op-item.result c.loop-op-test.true c.op-item.is in
    step_waits t c.well_formed-2.ensures.tree (tables_of c.args.numbering.now) (tables_of c.loop-op.numbering) (tables_of c.loop-op.numbering) (tables_of c.loop-op.numbering) e.0 c.args.block c.args.above c.loop-op.now e.1 c.loop-op.invariant.grows
    (take c.loop-op.op-index c.deref-op-items.result.now) split.0 c.op-item.result (sym same ∙ split.1) c.loop-op.invariant.numbered c.loop-op.invariant.left

pub loop-op-preserved : goal.loop-op-preserved
loop-op-preserved c =
    let t = c.args.ctx.now.tree in
    let e = c.requires.entered in
    let items = c.deref-op-items.result.now in
    let i = c.loop-op.op-index in
    let x = c.op-item.result in
    let new = tables_of c.add_operation.new.self in
    let same : items ≡ body_of t c.args.block = c.deref-op-items.ensures.value ∙ c.in_ok-ops.ensures in
    let split = item_split items i x c.loop-op-test.true c.op-item.is in
    let next : take (i + 1) items ≡ take i items ++ x ∷ [] = take_item items i x c.loop-op-test.true c.op-item.is in
    let s = block_step t c.well_formed-2.ensures.tree (tables_of c.args.numbering.now) (tables_of c.loop-op.numbering) (tables_of c.add_regions.new.numbering) new e.0 c.args.block c.args.above c.loop-op.now e.1 c.loop-op.invariant.grows
    (take i items) split.0 x (sym same ∙ split.1) c.loop-op.invariant.numbered c.loop-op.invariant.left c.in_ok-add_regions.ensures.grows c.in_ok-add_regions.ensures.numbered c.in_ok-add_regions.ensures.all c.in_ok-now.now c.in_ok-now.ensures.added c.loop-op.invariant.taken in
    record {
      numbered = s.numbered;
      grows = s.grows;
      left = subst (λ z. IsLeftAt t new c.args.block z c.in_ok-now.now) (sym next) s.left;
      taken = subst (AreTaken t new) (sym next) s.taken;
    }

pub returns-clause-taken : goal.returns-clause-taken
returns-clause-taken c =
    let t = c.args.ctx.now.tree in
    let items = c.deref-op-items.result.now in
    let same : items ≡ body_of t c.args.block = c.deref-op-items.ensures.value ∙ c.in_ok-ops.ensures in
    let all : length items ≤ c.loop-op.op-index = omega (arith, c.loop-op-test.false) in
    subst (AreTaken t (tables_of c.loop-op.numbering)) (take_all c.loop-op.op-index items all ∙ same) c.loop-op.invariant.taken
