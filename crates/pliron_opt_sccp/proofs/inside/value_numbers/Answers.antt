use Rattle.std.proofs.Common.{◌≡◌, ◌++◌, ◌∙◌, [], ap, sym, subst, reverse, arith}
use Rattle.pliron_opt_sccp.specs.declared.inside.Part.TheVariants.{Operation}
use Rattle.pliron_opt_sccp.specs.Inside.{directly_in}
use Rattle.pliron_opt_sccp.proofs.Preorder.{IsOwing, owing_start, owing_stands, owing_step, owing_smaller, owing_end}
use Rattle.pliron_opt_sccp.proofs.UserLists.{no_keys}
use Rattle.pliron_opt_sccp.proofs.inside.value_numbers.Goals as goal

pub loop-part-init : goal.loop-part-init
loop-part-init c =
    let t = c.args.ctx.now.tree in
    let first = c.in_ok-stack_inner.ensures.ok ∙ ap (λ xs. xs ++ reverse (directly_in t (Operation c.args.root))) c.new-stack.ensures.items in
    subst (λ z. IsOwing t c.args.root z c.stack_inner.new.stack.items) (sym (no_keys c.in_ok-numbered.numbered.keys c.in_ok-numbered.ensures.len)) (owing_start t c.well_formed-2.ensures.tree c.args.root c.stack_inner.new.stack.items c.requires first)

pub add_defined-requires : goal.add_defined-requires
add_defined-requires c =
    owing_stands c.args.ctx.now.tree c.well_formed-2.ensures.tree c.args.root c.loop-part.numbered.keys c.in-Some.part c.loop-part.stack.items c.pop.new.self.items c.loop-part.invariant c.in-Some.ensures.items

pub stack_inner-requires-in-Some : goal.stack_inner-requires-in-Some
stack_inner-requires-in-Some c =
    owing_stands c.args.ctx.now.tree c.well_formed-2.ensures.tree c.args.root c.loop-part.numbered.keys c.in-Some.part c.loop-part.stack.items c.pop.new.self.items c.loop-part.invariant c.in-Some.ensures.items

pub loop-part-preserved : goal.loop-part-preserved
loop-part-preserved c =
    owing_step c.args.ctx.now.tree c.well_formed-2.ensures.tree c.args.root c.loop-part.numbered.keys c.add_defined.new.values.keys c.in-Some.part c.loop-part.stack.items c.pop.new.self.items c.stack_inner-in-Some.new.stack.items c.loop-part.invariant c.in-Some.ensures.items c.in_ok-add_defined.ensures.ok c.in_ok-stack_inner-2.ensures.ok

pub loop-part-smaller : goal.loop-part-smaller
loop-part-smaller c =
    owing_smaller c.args.ctx.now.tree c.well_formed-2.ensures.tree c.args.root c.loop-part.numbered.keys c.in-Some.part c.loop-part.stack.items c.pop.new.self.items c.stack_inner-in-Some.new.stack.items c.loop-part.invariant c.in-Some.ensures.items c.in_ok-stack_inner-2.ensures.ok

pub returns-clause-ok : goal.returns-clause-ok
returns-clause-ok c =
    let none : c.loop-part.stack.items ≡ [] = grind (arith) in
    owing_end c.args.ctx.now.tree c.well_formed-2.ensures.tree c.args.root c.loop-part.numbered.keys c.loop-part.stack.items c.loop-part.invariant none
