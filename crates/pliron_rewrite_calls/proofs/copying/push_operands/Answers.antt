use Rattle.std.proofs.Common.{◌≤◌, length, sym, ap, subst, map, take, arith}
use Rattle.std.proofs.lemmas.List.{take_all}
use Rattle.pliron_core.specs.Tree.{Tree, IsDefined, In, operands_of, successors_of}
use Rattle.pliron_core.proofs.FlatLemmas.{In-slice_get}
use Rattle.pliron_rewrite_calls.specs.CopyTables.{value_or_copy_in}
use Rattle.pliron_rewrite_calls.specs.CopySteps.{HasNames}
use Rattle.pliron_rewrite_calls.proofs.CopyCalls.{names_none, names_live, names_defined, operand_next}
use Rattle.pliron_rewrite_calls.proofs.copying.push_operands.Goals as goal

pub loop-j-init : goal.loop-j-init
loop-j-init c =
    subst (λ z. HasNames c.args.ctx.now.tree c.args.ctx.now.tree c.args.copy z (successors_of c.args.ctx.now.tree c.args.copy)) c.requires.bare (names_none c.args.ctx.now.tree c.args.copy)

pub get_operand-requires-clause-live : goal.get_operand-requires-clause-live
get_operand-requires-clause-live c =
    names_live c.args.ctx.now.tree c.loop-j.ctx.tree c.args.copy (map (value_or_copy_in c.args.copies.now) (take c.loop-j.j (operands_of c.args.ctx.now.tree c.args.op))) (successors_of c.args.ctx.now.tree c.args.copy) c.loop-j.invariant c.args.op c.requires.op

pub get_operand-requires-clause-index : goal.get_operand-requires-clause-index
get_operand-requires-clause-index c =
    let same = ap length (c.loop-j.invariant.other_operands c.args.op c.requires.apart) in
    omega (arith, same)

pub push_operand-requires-clause-live : goal.push_operand-requires-clause-live
push_operand-requires-clause-live c =
    names_live c.args.ctx.now.tree c.loop-j.ctx.tree c.args.copy (map (value_or_copy_in c.args.copies.now) (take c.loop-j.j (operands_of c.args.ctx.now.tree c.args.op))) (successors_of c.args.ctx.now.tree c.args.copy) c.loop-j.invariant c.args.copy c.requires.copy

pub push_operand-requires-clause-value : goal.push_operand-requires-clause-value
push_operand-requires-clause-value c =
    let i : In c.get_operand.result (operands_of c.loop-j.ctx.tree c.args.op) = In-slice_get (operands_of c.loop-j.ctx.tree c.args.op) c.loop-j.j c.get_operand.result c.get_operand.ensures.operand in
    let is : IsDefined c.args.ctx.now.tree c.value_or_copy-value.result = subst (IsDefined c.args.ctx.now.tree) (sym c.value_or_copy-value.ensures) (c.requires.defined c.get_operand.result (subst (In c.get_operand.result) (c.loop-j.invariant.other_operands c.args.op c.requires.apart) i)) in
    names_defined c.args.ctx.now.tree c.loop-j.ctx.tree c.args.copy (map (value_or_copy_in c.args.copies.now) (take c.loop-j.j (operands_of c.args.ctx.now.tree c.args.op))) (successors_of c.args.ctx.now.tree c.args.copy) c.loop-j.invariant c.value_or_copy-value.result is

pub loop-j-preserved : goal.loop-j-preserved
loop-j-preserved c =
    operand_next c.args.ctx.now.tree c.loop-j.ctx.tree c.push_operand.new.ctx.tree c.well_formed-2.ensures.tree c.args.op c.args.copy c.loop-j.j c.get_operand.result c.value_or_copy-value.result (value_or_copy_in c.args.copies.now) (successors_of c.args.ctx.now.tree c.args.copy) c.requires.copy c.requires.apart c.loop-j.invariant c.get_operand.ensures.operand c.value_or_copy-value.ensures c.in_ok-push_operand.ensures.ok

pub returns-clause-ok : goal.returns-clause-ok
returns-clause-ok c =
    let all : length (operands_of c.args.ctx.now.tree c.args.op) ≤ c.loop-j.j = omega arith in
    subst (λ z. HasNames c.args.ctx.now.tree c.loop-j.ctx.tree c.args.copy (map (value_or_copy_in c.args.copies.now) z) (successors_of c.args.ctx.now.tree c.args.copy)) (take_all c.loop-j.j (operands_of c.args.ctx.now.tree c.args.op) all) c.loop-j.invariant

pub returns-clause-named : goal.returns-clause-named
returns-clause-named c =
    (map (value_or_copy_in c.args.copies.now) (take c.loop-j.j (operands_of c.args.ctx.now.tree c.args.op)), c.loop-j.invariant)

pub returns-in_err-push_operand-clause-named : goal.returns-in_err-push_operand-clause-named
returns-in_err-push_operand-clause-named c =
    (map (value_or_copy_in c.args.copies.now) (take c.loop-j.j (operands_of c.args.ctx.now.tree c.args.op)), subst (λ (z : Tree). HasNames c.args.ctx.now.tree z c.args.copy (map (value_or_copy_in c.args.copies.now) (take c.loop-j.j (operands_of c.args.ctx.now.tree c.args.op))) (successors_of c.args.ctx.now.tree c.args.copy)) (sym (ap (λ z. z.tree) c.in_err-push_operand.ensures.err)) c.loop-j.invariant)
