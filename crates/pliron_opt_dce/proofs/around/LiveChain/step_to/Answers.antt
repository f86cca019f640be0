use Rattle.std.proofs.Common.{◌≡◌, Some, refl, sym, ◌∙◌, subst}
use Rattle.pliron_core.specs.Tree.{IsLive, parent_operation_of}
use Rattle.pliron_core.proofs.EdgeLemmas.{same_key}
use Rattle.pliron_opt_dce.proofs.Reaches.{holds_next, key_differs}
use Rattle.pliron_opt_dce.proofs.around.LiveChain.step_to.Goals as goal

pub returns-then-eq-2 : goal.returns-then-eq-2
returns-then-eq-2 c =
    let t = c.args.ctx.now.tree in
    let same = same_key c.in_ok-above.above c.args.op (sym c.if-eq-2.true ∙ c.eq-2.ensures) in
    (refl, holds_next t c.args.self.at c.args.self.top c.args.op c.requires (key_differs c.args.self.at c.args.self.top c.eq.result c.eq.ensures c.if-eq.false) (subst (λ z. parent_operation_of t c.args.self.at ≡ Some z) same (sym c.in_ok-above.ensures.holder)) (subst (IsLive t) same c.in_ok-above.ensures.live))
