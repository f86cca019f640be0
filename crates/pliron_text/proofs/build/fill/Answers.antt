use Rattle.std.proofs.Common.{◌≡◌, ◌+◌, ◌<◌, length, sym, subst, arith}
use Rattle.pliron_core.specs.Tree.{In, results_of, regions_of}
use Rattle.std.proofs.lemmas.Result.{on_ok_weaker}
use Rattle.pliron_text.specs.declared.build.BuiltTree.{BuiltTree}
use Rattle.pliron_text.specs.Laid.{HasMoreOperands}
use Rattle.pliron_text.specs.Building.{AddsOnly}
use Rattle.pliron_text.proofs.BuildLemmas.{all_in_place-start}
use Rattle.pliron_text.proofs.LaidLemmas.{begun-grown, begun-results, begun-regions, begun-built, begun-laid, begun-made}
use Rattle.pliron_text.proofs.WiredLemmas.{wired-root}
use Rattle.pliron_text.proofs.build.fill.Goals as goal

pub remember_results-requires : goal.remember_results-requires
remember_results-requires c = (begun-grown c.args.syntax.now c.requires.begun.0 c.args.ctx.now.tree c.args.root c.requires.begun.1).live

pub remember_regions-requires : goal.remember_regions-requires
remember_regions-requires c = (begun-grown c.args.syntax.now c.requires.begun.0 c.args.ctx.now.tree c.args.root c.requires.begun.1).live

pub returns-in_err-remember_results-clause-grown : goal.returns-in_err-remember_results-clause-grown
returns-in_err-remember_results-clause-grown c = λ t b. begun-grown c.args.syntax.now t c.args.ctx.now.tree c.args.root b

pub returns-in_err-remember_regions-clause-grown : goal.returns-in_err-remember_regions-clause-grown
returns-in_err-remember_regions-clause-grown c = λ t b. begun-grown c.args.syntax.now t c.args.ctx.now.tree c.args.root b

pub make_all-requires-clause-first : goal.make_all-requires-clause-first
make_all-requires-clause-first c =
    let s = c.args.syntax.now in
    let u = c.args.ctx.now.tree in
    let root = c.args.root in
    let begun = c.requires.begun in
    let built : BuiltTree = record { operations = c.new.result; blocks = c.new-2.result; regions = c.remember_regions.new.regions; values = c.remember_results.new.values } in
    begun-made s built (length (results_of u root)) (length (regions_of u root)) c.new.ensures.items c.new-2.ensures.items
    (begun-results s begun.0 u root begun.1) (begun-regions s begun.0 u root begun.1)
    (subst (λ z. length c.remember_results.new.values.items ≡ length z + length (results_of u root)) c.new-4.ensures.items c.in_ok-remember_results.ensures.count)
    (subst (λ z. length c.remember_regions.new.regions.items ≡ length z + length (regions_of u root)) c.new-3.ensures.items c.in_ok-remember_regions.ensures.count)

pub make_all-requires-clause-all_in_place : goal.make_all-requires-clause-all_in_place
make_all-requires-clause-all_in_place c =
    let u = c.args.ctx.now.tree in
    let root = c.args.root in
    let built : BuiltTree = record { operations = c.new.result; blocks = c.new-2.result; regions = c.remember_regions.new.regions; values = c.remember_results.new.values } in
    all_in_place-start u built root c.well_formed-2.ensures.tree c.new.ensures.items c.new-2.ensures.items
    (subst (λ z. AddsOnly z c.remember_regions.new.regions.items (regions_of u root)) c.new-3.ensures.items c.in_ok-remember_regions.ensures.added)
    (subst (λ z. AddsOnly z c.remember_results.new.values.items (results_of u root)) c.new-4.ensures.items c.in_ok-remember_results.ensures.added)

pub returns-in_err-make_all-clause-grown : goal.returns-in_err-make_all-clause-grown
returns-in_err-make_all-clause-grown c =
    let u = c.args.ctx.now.tree in
    let root = c.args.root in
    let built : BuiltTree = record { operations = c.new.result; blocks = c.new-2.result; regions = c.remember_regions.new.regions; values = c.remember_results.new.values } in
    let regs = subst (λ z. AddsOnly z c.remember_regions.new.regions.items (regions_of u root)) c.new-3.ensures.items c.in_ok-remember_regions.ensures.added in
    λ t b. (c.in_err-make_all.ensures.continues t root (begun-built c.args.syntax.now t u root b c.well_formed-2.ensures.tree built c.new.ensures.items c.new-2.ensures.items regs)).grown

pub returns-in_err-connect_all-clause-grown : goal.returns-in_err-connect_all-clause-grown
returns-in_err-connect_all-clause-grown c =
    let u = c.args.ctx.now.tree in
    let root = c.args.root in
    let built : BuiltTree = record { operations = c.new.result; blocks = c.new-2.result; regions = c.remember_regions.new.regions; values = c.remember_results.new.values } in
    let regs = subst (λ z. AddsOnly z c.remember_regions.new.regions.items (regions_of u root)) c.new-3.ensures.items c.in_ok-remember_regions.ensures.added in
    λ t b. (c.in_err-connect_all.ensures.continues t root (c.in_ok-make_all.ensures.continues t root (begun-built c.args.syntax.now t u root b c.well_formed-2.ensures.tree built c.new.ensures.items c.new-2.ensures.items regs))).grown

pub add_operands-requires-clause-live : goal.add_operands-requires-clause-live
add_operands-requires-clause-live c =
    let u = c.args.ctx.now.tree in
    let root = c.args.root in
    let begun = c.requires.begun in
    let built : BuiltTree = record { operations = c.new.result; blocks = c.new-2.result; regions = c.remember_regions.new.regions; values = c.remember_results.new.values } in
    let regs = subst (λ z. AddsOnly z c.remember_regions.new.regions.items (regions_of u root)) c.new-3.ensures.items c.in_ok-remember_regions.ensures.added in
    (c.in_ok-connect_all.ensures.continues begun.0 root (c.in_ok-make_all.ensures.continues begun.0 root (begun-built c.args.syntax.now begun.0 u root begun.1 c.well_formed-2.ensures.tree built c.new.ensures.items c.new-2.ensures.items regs))).grown.live

pub add_operands-requires-clause-operands : goal.add_operands-requires-clause-operands
add_operands-requires-clause-operands c = λ x i. subst (λ n. x < n) (sym c.in_ok-make_all.ensures.made.values) (c.requires.sound.root.operands x (subst (In x) c.as_slice.ensures i))

pub returns : goal.returns
returns c =
    let s = c.args.syntax.now in
    let u = c.args.ctx.now.tree in
    let root = c.args.root in
    let v = c.connect_all.new.ctx.tree in
    let w = c.add_operands.new.ctx.tree in
    let more = c.make_all.new.built in
    let built : BuiltTree = record { operations = c.new.result; blocks = c.new-2.result; regions = c.remember_regions.new.regions; values = c.remember_results.new.values } in
    let regs = subst (λ z. AddsOnly z c.remember_regions.new.regions.items (regions_of u root)) c.new-3.ensures.items c.in_ok-remember_regions.ensures.added in
    record {
      grown = λ t b. (c.add_operands.ensures.continues t root (omega arith) (c.in_ok-connect_all.ensures.continues t root (c.in_ok-make_all.ensures.continues t root (begun-built s t u root b c.well_formed-2.ensures.tree built c.new.ensures.items c.new-2.ensures.items regs)))).grown;
      laid = on_ok_weaker c.add_operands.result
          (λ added t b.
          let laid = c.in_ok-make_all.ensures.laid root (length t.bodies) (begun-laid s t u root b built c.new.ensures.items c.new-2.ensures.items) in
          let wired = c.in_ok-connect_all.ensures.wired root (length t.bodies) laid in
          (more, c.in_ok-make_all.ensures.made, wired-root s v w more root (length t.bodies) (length s.operations.items) (length s.root.operands.items) (subst (λ z. HasMoreOperands v w root (length z)) c.as_slice.ensures added) wired))
          c.add_operands.ensures.added;
    }
