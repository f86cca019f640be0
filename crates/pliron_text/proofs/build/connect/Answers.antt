use Rattle.std.proofs.Common.{subst}
use Rattle.pliron_core.specs.Tree.{In}
use Rattle.std.proofs.lemmas.Result.{on_ok_weaker}
use Rattle.pliron_text.proofs.WiredLemmas.{wired-operation}
use Rattle.pliron_text.proofs.BuildLemmas.{in-read}
use Rattle.pliron_text.proofs.build.connect.Goals as goal

pub add_operands-requires-clause-live : goal.add_operands-requires-clause-live
add_operands-requires-clause-live c = c.requires.all_in_place.operations c.index-op.result.now (in-read c.args.built.now.operations.items c.args.number c.index-op.result.now c.requires.number c.index-op.ensures)

pub add_operands-requires-clause-operands : goal.add_operands-requires-clause-operands
add_operands-requires-clause-operands c = λ x i. c.requires.operands x (subst (In x) c.as_slice.ensures i)

pub add_successors-requires-clause-op : goal.add_successors-requires-clause-op
add_successors-requires-clause-op c = in-read c.args.built.now.operations.items c.args.number c.index-op.result.now c.requires.number c.index-op.ensures

pub add_successors-requires-clause-successors : goal.add_successors-requires-clause-successors
add_successors-requires-clause-successors c = λ x i. c.requires.successors x (subst (In x) c.deref.ensures.value i)

pub returns-clause-continues : goal.returns-clause-continues
returns-clause-continues c =
    let built = c.args.built.now in
    let op = c.index-op.result.now in
    λ t root b. c.add_successors.ensures.continues t root (c.in_ok-add_operands.ensures.continues t root (b.operations op (in-read built.operations.items c.args.number op c.requires.number c.index-op.ensures)) b)

pub returns-clause-wired : goal.returns-clause-wired
returns-clause-wired c = on_ok_weaker c.add_successors.result
    (λ more s at root base l. wired-operation s c.args.ctx.now.tree c.add_operands.new.ctx.tree c.add_successors.new.ctx.tree c.args.built.now c.args.number c.index-op.result.now c.args.text.now c.as_slice.result.now c.deref.result.now at c.requires.number c.index-op.ensures c.as_slice.ensures c.deref.ensures.value c.in_ok-add_operands.ensures.added more root base l)
    c.add_successors.ensures.added

pub returns-in_err-add_operands-clause-continues : goal.returns-in_err-add_operands-clause-continues
returns-in_err-add_operands-clause-continues c = λ t root b. c.in_err-add_operands.ensures.continues t root (b.operations c.index-op.result.now (in-read c.args.built.now.operations.items c.args.number c.index-op.result.now c.requires.number c.index-op.ensures)) b
