use Rattle.std.proofs.Common.{subst, arith}
use Rattle.std.specs.Result.{IsOk}
use Rattle.pliron_core.proofs.AgreementLemmas.{no_uses_from-unnamed}
use Rattle.pliron_rewrite_calls.proofs.preparing.hand_over.Goals as goal

pub unreachable-requires : goal.unreachable-requires
unreachable-requires g c =
    let v = c.args.ctx.now in
    let none = no_uses_from-unnamed v.tree.operands v.value_uses c.args.new c.well_formed-2.ensures.uses.value_uses c.requires.unused in
    let ok = subst IsOk c.in-Err.is (c.replace_value_uses_with.ensures.unused none) in absurd (grind arith)
