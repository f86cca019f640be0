use Rattle.std.proofs.Common.{◌≡◌, ◌+◌, length, ◌++◌, ◌∷◌, [], sym, ap, ◌∙◌, subst}
use Rattle.pliron_core.specs.Tree.{results_of, regions_of}
use Rattle.pliron_text.specs.Building.{AddsOnly}
use Rattle.std.proofs.lemmas.Result.{on_ok_weaker}
use Rattle.pliron_text.specs.Notation.{head_of_text}
use Rattle.pliron_text.specs.Building.{after_appending}
use Rattle.pliron_text.specs.Laid.{IsLaid}
use Rattle.pliron_text.proofs.LaidLemmas.{laid-operation}
use Rattle.pliron_text.proofs.BuildLemmas.{in-read, goes-appended, all_in_place-appended, appended-results, appended-regions}
use Rattle.pliron_text.proofs.build.add_operation.Goals as goal

pub append_operation-requires : goal.append_operation-requires
append_operation-requires c = c.requires.all_in_place.blocks c.index-block.result.now (in-read c.args.built.now.blocks.items c.args.text.now.block c.index-block.result.now c.requires.block c.index-block.ensures)

pub returns-clause-continues : goal.returns-clause-continues
returns-clause-continues c =
    let w = c.append_operation.new.ctx.tree in
    let built = c.args.built.now in
    let more = c.remember_operation.new.built in
    let block = c.index-block.result.now in
    goes-appended c.args.ctx.now.tree c.in_ok-head.head c.args.text.now.results c.args.text.now.regions block c.well_formed-2.ensures.tree w built more c.in_ok-op.ensures.ok c.well_formed-3.ensures.tree
    (in-read built.blocks.items c.args.text.now.block block c.requires.block c.index-block.ensures)
    (subst (λ k. AddsOnly built.operations.items more.operations.items (k ∷ [])) c.in_ok-op.ensures.key c.remember_operation.ensures.operations)
    c.remember_operation.ensures.blocks
    (subst (λ k. AddsOnly built.regions.items more.regions.items (regions_of w k)) c.in_ok-op.ensures.key c.remember_operation.ensures.regions)

pub returns-clause-all_in_place : goal.returns-clause-all_in_place
returns-clause-all_in_place c =
    let w = c.append_operation.new.ctx.tree in
    let built = c.args.built.now in
    let more = c.remember_operation.new.built in
    all_in_place-appended c.args.ctx.now.tree c.in_ok-head.head c.args.text.now.results c.args.text.now.regions c.index-block.result.now c.well_formed-2.ensures.tree w built more c.in_ok-op.ensures.ok c.well_formed-3.ensures.tree c.requires.all_in_place
    (subst (λ k. AddsOnly built.operations.items more.operations.items (k ∷ [])) c.in_ok-op.ensures.key c.remember_operation.ensures.operations)
    c.remember_operation.ensures.blocks
    (subst (λ k. AddsOnly built.regions.items more.regions.items (regions_of w k)) c.in_ok-op.ensures.key c.remember_operation.ensures.regions)
    (subst (λ k. AddsOnly built.values.items more.values.items (results_of w k)) c.in_ok-op.ensures.key c.remember_operation.ensures.values)

pub returns-clause-laid : goal.returns-clause-laid
returns-clause-laid c =
    let u = c.args.ctx.now.tree in
    let w = c.append_operation.new.ctx.tree in
    let built = c.args.built.now in
    let more = c.remember_operation.new.built in
    let o = c.args.text.now in
    let block = c.index-block.result.now in
    let same : w ≡ after_appending u (head_of_text o) o.results o.regions block = c.in_ok-op.ensures.ok ∙ ap (λ h. after_appending u h o.results o.regions block) c.in_ok-head.ensures in
    on_ok_weaker c.remember_operation.result
    (λ key s at root base l.
    subst (λ z. IsLaid s root base 0 0 z more) (sym same)
    (laid-operation s root base u built more o block c.well_formed-2.ensures.tree l at c.requires.block c.index-block.ensures
    (key ∙ ap (λ k. built.operations.items ++ k ∷ []) c.in_ok-op.ensures.key)
    c.remember_operation.ensures.blocks c.remember_operation.ensures.kept_regions))
    c.remember_operation.ensures.operation

pub returns-clause-regions : goal.returns-clause-regions
returns-clause-regions c =
    let o = c.args.text.now in
    let own = appended-regions c.args.ctx.now.tree c.in_ok-head.head o.results o.regions c.index-block.result.now c.well_formed-2.ensures.tree c.append_operation.new.ctx.tree c.in_ok-op.op c.in_ok-op.ensures.ok c.in_ok-op.ensures.key in
    on_ok_weaker c.remember_operation.result (λ e. e ∙ ap (λ n. length c.args.built.now.regions.items + n) own) c.remember_operation.ensures.region_count

pub returns-clause-values : goal.returns-clause-values
returns-clause-values c =
    let o = c.args.text.now in
    let own = appended-results c.args.ctx.now.tree c.in_ok-head.head o.results o.regions c.index-block.result.now c.well_formed-2.ensures.tree c.append_operation.new.ctx.tree c.in_ok-op.op c.in_ok-op.ensures.ok c.in_ok-op.ensures.key in
    on_ok_weaker c.remember_operation.result (λ e. e ∙ ap (λ n. length c.args.built.now.values.items + n) own) c.remember_operation.ensures.value_count
