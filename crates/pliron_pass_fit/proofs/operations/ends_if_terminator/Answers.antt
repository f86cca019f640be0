use Rattle.std.proofs.Common.{◌≡◌, Some, None, sym, ◌∙◌, subst}
use Rattle.std.proofs.lemmas.Option.{same_Some}
use Rattle.pliron_core.specs.Tree.{head_of, body_of, last_of}
use Rattle.pliron_pass_fit.proofs.CheckLemmas.{its_head}
use Rattle.pliron_pass_fit.proofs.operations.ends_if_terminator.Goals as goal

pub returns-in-Some : goal.returns-in-Some
returns-in-Some g c =
    let t = c.args.ctx.now.tree in
    let block = c.in-Some.block in
    let head = its_head (head_of t c.args.op) c.requires in (
      λ e b h is term p. subst (λ z. last_of None (body_of t z) ≡ Some c.args.op) (same_Some block b (c.in-Some.ensures.block ∙ p)) (c.is_last.ensures.0 e),
      λ ends. c.is_last.ensures.1 (ends block head.0 head.1 (sym (c.is_terminator.ensures head.0 head.1) ∙ c.if-not-is_terminator.false) (sym c.in-Some.ensures.block)),
    )
