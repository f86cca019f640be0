use Rattle.std.proofs.Common.{rules, ◌<◌, length, refl, sym, subst}
use Rattle.std.proofs.lemmas.Option.{slice_get_read}
use Rattle.pliron_text.specs.Notation.{AllBelow}
use Rattle.pliron_text.specs.Laid.{Wires}
use Rattle.pliron_text.proofs.CheckLemmas.{region-below}
use Rattle.pliron_text.proofs.BuildLemmas.{goes-refl, goes-trans}
use Rattle.pliron_text.proofs.build.connect_all.Goals as goal

pub connect-requires-clause-operands : goal.connect-requires-clause-operands
connect-requires-clause-operands c =
    let ops = c.args.syntax.now.operations.items in
    let lt : c.loop-number.number < length ops = search (rules, c.loop-number-test.true) in
    let sound = c.requires.sound c.loop-number.number c.index.result.now (slice_get_read ops (length ops) c.loop-number.number c.index.result.now refl lt c.index.ensures) in
    subst (λ n. AllBelow n c.index.result.now.operands.items) (sym c.requires.made.values) sound.operands

pub connect-requires-clause-successors : goal.connect-requires-clause-successors
connect-requires-clause-successors c =
    let ops = c.args.syntax.now.operations.items in
    let lt : c.loop-number.number < length ops = search (rules, c.loop-number-test.true) in
    let sound = c.requires.sound c.loop-number.number c.index.result.now (slice_get_read ops (length ops) c.loop-number.number c.index.result.now refl lt c.index.ensures) in
    subst (λ n. AllBelow n c.index.result.now.successors.items) (sym c.requires.made.blocks) (region-below c.args.syntax.now sound.block.region c.index.result.now.successors.items sound.own_region)

pub returns-in_err-connect-clause-continues : goal.returns-in_err-connect-clause-continues
returns-in_err-connect-clause-continues c =
    let built = c.args.built.now in
    goes-trans c.args.ctx.now.tree c.loop-number.ctx.tree c.connect.new.ctx.tree built built built c.loop-number.invariant.0 c.in_err-connect.ensures.continues

pub loop-number-preserved : goal.loop-number-preserved
loop-number-preserved c =
    let built = c.args.built.now in (
      goes-trans c.args.ctx.now.tree c.loop-number.ctx.tree c.connect.new.ctx.tree built built built c.loop-number.invariant.0 c.in_ok-connect.ensures.continues,
      c.in_ok-connect.ensures.all_in_place,
      λ root base l.
          let ops = c.args.syntax.now.operations.items in
          let lt : c.loop-number.number < length ops = search (rules, c.loop-number-test.true) in
          c.in_ok-connect.ensures.wired c.args.syntax.now (slice_get_read ops (length ops) c.loop-number.number c.index.result.now refl lt c.index.ensures) root base (c.loop-number.invariant.2 root base l),
    )

pub loop-number-init : goal.loop-number-init
loop-number-init c = (goes-refl c.args.ctx.now.tree c.args.built.now, c.requires.all_in_place, λ root base l. l)

pub returns-clause-wired : goal.returns-clause-wired
returns-clause-wired c = subst (λ n. Wires c.args.syntax.now 0 n c.args.ctx.now.tree c.loop-number.ctx.tree c.args.built.now) (search rules) c.loop-number.invariant.2
