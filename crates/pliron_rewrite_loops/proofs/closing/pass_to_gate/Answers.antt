use Rattle.std.proofs.Common.{◌≡◌, [], length, sym, ap, subst, arith}
use Rattle.pliron_rewrite_loops.specs.Passing.{MayPass}
use Rattle.pliron_rewrite_loops.proofs.Closed.{gate_passed, by_user}
use Rattle.pliron_rewrite_loops.proofs.closing.pass_to_gate.Goals as goal

pub pass_values-requires : goal.pass_values-requires
pass_values-requires g c =
    let some : c.args.gate.now.users.items ≡ [] → ⊥ = λ e. (let none = ap length e in grind (arith, c.is_empty.ensures, c.if-is_empty.false, none)) in
    subst (λ z. MayPass g.D.HasMeaning.meaning c.args.ctx.now.tree c.args.gate.now.block c.args.values.now z) (sym c.as_slice.ensures.value) (by_user c.args.gate.now.users.items some c.requires)

pub returns-clause-passed : goal.returns-clause-passed
returns-clause-passed g c =
    let some : c.args.gate.now.users.items ≡ [] → ⊥ = λ e. (let none = ap length e in grind (arith, c.is_empty.ensures, c.if-is_empty.false, none)) in
    λ z. gate_passed g.D.HasMeaning.meaning c.args.ctx.now.tree c.pass_values.new.ctx.tree c.args.gate.now.block c.args.values.now c.args.gate.now.users.items c.as_slice.result.now c.as_slice.ensures.value some (c.in_ok-passed.ensures.keeps z) c.in_ok-passed.ensures.besides (c.in_ok-passed.ensures.unused z)
