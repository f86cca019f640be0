use Rattle.std.proofs.Common.{◌<◌, ◌≤◌, length, [], take, sym, ap, subst, arith}
use Rattle.pliron_core.specs.Tree.{Tree, successors_of}
use Rattle.pliron_rewrite_calls.specs.CopySteps.{HasNames}
use Rattle.pliron_rewrite_calls.proofs.CopyCalls.{names_none, names_live, names_defined, names_block}
use Rattle.pliron_rewrite_calls.proofs.CopyLists.{there}
use Rattle.pliron_rewrite_calls.proofs.InliningCalls.{value_next, edge_next}
use Rattle.pliron_rewrite_calls.proofs.inlining.add_edge.Goals as goal

pub loop-j-init : goal.loop-j-init
loop-j-init c =
    let t = c.args.ctx.now.tree in
    subst (λ z. HasNames t t c.args.jump [] z) c.requires.no_successors (subst (λ z. HasNames t t c.args.jump z (successors_of t c.args.jump)) c.requires.no_operands (names_none t c.args.jump))

pub push_operand-requires-clause-live : goal.push_operand-requires-clause-live
push_operand-requires-clause-live c = names_live c.args.ctx.now.tree c.loop-j.ctx.tree c.args.jump (take c.loop-j.j c.args.values.now) [] c.loop-j.invariant c.args.jump c.requires.live

pub push_operand-requires-clause-value : goal.push_operand-requires-clause-value
push_operand-requires-clause-value c =
    let lt : c.loop-j.j < length c.args.values.now = omega arith in
    names_defined c.args.ctx.now.tree c.loop-j.ctx.tree c.args.jump (take c.loop-j.j c.args.values.now) [] c.loop-j.invariant c.index-values-j.result (c.requires.values c.index-values-j.result (there c.args.values.now c.loop-j.j c.index-values-j.result lt c.index-values-j.is))

pub loop-j-preserved : goal.loop-j-preserved
loop-j-preserved c =
    let lt : c.loop-j.j < length c.args.values.now = omega arith in
    value_next c.args.ctx.now.tree c.loop-j.ctx.tree c.push_operand.new.ctx.tree c.well_formed-2.ensures.tree c.args.jump c.loop-j.j c.index-values-j.result c.args.values.now c.requires.live lt c.index-values-j.is c.loop-j.invariant c.in_ok-push_operand.ensures.ok

pub push_successor-requires-clause-live : goal.push_successor-requires-clause-live
push_successor-requires-clause-live c = names_live c.args.ctx.now.tree c.loop-j.ctx.tree c.args.jump (take c.loop-j.j c.args.values.now) [] c.loop-j.invariant c.args.jump c.requires.live

pub push_successor-requires-clause-block : goal.push_successor-requires-clause-block
push_successor-requires-clause-block c = names_block c.args.ctx.now.tree c.loop-j.ctx.tree c.args.jump (take c.loop-j.j c.args.values.now) [] c.loop-j.invariant c.args.target c.requires.target

pub returns-in_err-push_operand-clause-named : goal.returns-in_err-push_operand-clause-named
returns-in_err-push_operand-clause-named c = (take c.loop-j.j c.args.values.now, [], subst (λ (z : Tree). HasNames c.args.ctx.now.tree z c.args.jump (take c.loop-j.j c.args.values.now) []) (sym (ap (λ z. z.tree) c.in_err-push_operand.ensures.err)) c.loop-j.invariant)

pub returns-in_err-push_successor-clause-named : goal.returns-in_err-push_successor-clause-named
returns-in_err-push_successor-clause-named c = (take c.loop-j.j c.args.values.now, [], subst (λ (z : Tree). HasNames c.args.ctx.now.tree z c.args.jump (take c.loop-j.j c.args.values.now) []) (sym (ap (λ z. z.tree) c.in_err-push_successor.ensures.err)) c.loop-j.invariant)

pub returns-clause-ok : goal.returns-clause-ok
returns-clause-ok c =
    let le : length c.args.values.now ≤ c.loop-j.j = omega arith in
    edge_next c.args.ctx.now.tree c.loop-j.ctx.tree c.push_successor.new.ctx.tree c.well_formed-2.ensures.tree c.args.jump c.loop-j.j c.args.target c.args.values.now c.requires.live le c.loop-j.invariant c.in_ok-push_successor.ensures.ok

pub returns-clause-named : goal.returns-clause-named
returns-clause-named c =
    let le : length c.args.values.now ≤ c.loop-j.j = omega arith in
    (_, _, edge_next c.args.ctx.now.tree c.loop-j.ctx.tree c.push_successor.new.ctx.tree c.well_formed-2.ensures.tree c.args.jump c.loop-j.j c.args.target c.args.values.now c.requires.live le c.loop-j.invariant c.in_ok-push_successor.ensures.ok)
