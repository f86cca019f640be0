use Rattle.std.proofs.Common.{◌≡◌, ◌+◌, ◌++◌, ◌∷◌, [], OnOk, length, refl, sym, ap, ◌∙◌, subst}
use Rattle.pliron_core.specs.Tree.{arguments_of}
use Rattle.pliron_text.specs.Building.{AddsOnly}
use Rattle.std.proofs.lemmas.Result.{on_ok_weaker}
use Rattle.pliron_text.specs.declared.build.BuiltTree.{BuiltTree}
use Rattle.pliron_text.specs.Laid.{IsLaid}
use Rattle.pliron_text.proofs.LaidLemmas.{laid-block}
use Rattle.pliron_text.proofs.BuildLemmas.{in-read, adds-last, adds-none, created-arguments, goes-block, all_in_place-block}
use Rattle.pliron_text.proofs.build.add_block.Goals as goal

pub create-requires : goal.create-requires
create-requires c = c.requires.all_in_place.regions c.index-region.result.now (in-read c.args.built.now.regions.items c.args.text.now.region c.index-region.result.now c.requires.region c.index-region.ensures)

pub returns-in_err-remember-clause-continues : goal.returns-in_err-remember-clause-continues
returns-in_err-remember-clause-continues c =
    let u = c.args.ctx.now.tree in
    let built = c.args.built.now in
    let region = c.index-region.result.now in
    goes-block u region c.args.text.now.arguments c.well_formed-2.ensures.tree c.create.new.ctx.tree built (record { operations = built.operations; blocks = c.remember.new.table; regions = built.regions; values = built.values }) c.in_ok-block.ensures.ok
    (in-read built.regions.items c.args.text.now.region region c.requires.region c.index-region.ensures)
    refl (adds-none built.blocks.items c.remember.new.table.items (length u.bodies ∷ []) c.in_err-remember.ensures.err) refl

pub returns-in_err-remember-clause-all_in_place : goal.returns-in_err-remember-clause-all_in_place
returns-in_err-remember-clause-all_in_place c =
    let u = c.args.ctx.now.tree in
    let v = c.create.new.ctx.tree in
    let built = c.args.built.now in
    all_in_place-block u c.index-region.result.now c.args.text.now.arguments c.well_formed-2.ensures.tree v built (record { operations = built.operations; blocks = c.remember.new.table; regions = built.regions; values = built.values }) c.in_ok-block.ensures.ok c.well_formed-3.ensures.tree c.requires.all_in_place
    refl (adds-none built.blocks.items c.remember.new.table.items (length u.bodies ∷ []) c.in_err-remember.ensures.err) refl
    (adds-none built.values.items built.values.items (arguments_of v (length u.bodies)) refl)

pub returns-clause-continues : goal.returns-clause-continues
returns-clause-continues c =
    let u = c.args.ctx.now.tree in
    let built = c.args.built.now in
    let region = c.index-region.result.now in
    goes-block u region c.args.text.now.arguments c.well_formed-2.ensures.tree c.create.new.ctx.tree built (record { operations = built.operations; blocks = c.remember.new.table; regions = built.regions; values = c.remember_arguments.new.values }) c.in_ok-block.ensures.ok
    (in-read built.regions.items c.args.text.now.region region c.requires.region c.index-region.ensures)
    refl
    (subst (λ k. AddsOnly built.blocks.items c.remember.new.table.items (k ∷ [])) c.in_ok-block.ensures.key (adds-last built.blocks.items c.remember.new.table.items c.in_ok-block.block c.in_ok-remember.ensures.ok))
    refl

pub returns-clause-all_in_place : goal.returns-clause-all_in_place
returns-clause-all_in_place c =
    let u = c.args.ctx.now.tree in
    let v = c.create.new.ctx.tree in
    let built = c.args.built.now in
    all_in_place-block u c.index-region.result.now c.args.text.now.arguments c.well_formed-2.ensures.tree v built (record { operations = built.operations; blocks = c.remember.new.table; regions = built.regions; values = c.remember_arguments.new.values }) c.in_ok-block.ensures.ok c.well_formed-3.ensures.tree c.requires.all_in_place
    refl
    (subst (λ k. AddsOnly built.blocks.items c.remember.new.table.items (k ∷ [])) c.in_ok-block.ensures.key (adds-last built.blocks.items c.remember.new.table.items c.in_ok-block.block c.in_ok-remember.ensures.ok))
    refl
    (subst (λ k. AddsOnly built.values.items c.remember_arguments.new.values.items (arguments_of v k)) c.in_ok-block.ensures.key c.remember_arguments.ensures.added)

pub returns-clause-values : goal.returns-clause-values
returns-clause-values c =
    let u = c.args.ctx.now.tree in
    let v = c.create.new.ctx.tree in
    let count : length (arguments_of v c.in_ok-block.block) ≡ c.args.text.now.arguments =
    ap (λ k. length (arguments_of v k)) c.in_ok-block.ensures.key
    ∙ ap (λ z. length (arguments_of z (length u.bodies))) c.in_ok-block.ensures.ok
    ∙ created-arguments u c.index-region.result.now c.args.text.now.arguments c.well_formed-2.ensures.tree in
    subst (λ n. OnOk c.remember_arguments.result (length c.remember_arguments.new.values.items ≡ length c.args.built.now.values.items + n)) count c.remember_arguments.ensures.count

pub returns-clause-laid : goal.returns-clause-laid
returns-clause-laid c =
    let u = c.args.ctx.now.tree in
    let built = c.args.built.now in
    let more : BuiltTree = record { operations = built.operations; blocks = c.remember.new.table; regions = built.regions; values = c.remember_arguments.new.values } in
    let b = c.args.text.now in
    on_ok_weaker c.remember_arguments.result
    (λ count s at root base l.
    subst (λ z. IsLaid s root base 0 0 z more) (sym c.in_ok-block.ensures.ok)
    (laid-block s root base u built more b c.index-region.result.now c.well_formed-2.ensures.tree l at c.requires.region c.index-region.ensures refl
    (c.in_ok-remember.ensures.ok ∙ ap (λ k. built.blocks.items ++ k ∷ []) c.in_ok-block.ensures.key)
    refl))
    c.remember_arguments.ensures.count
