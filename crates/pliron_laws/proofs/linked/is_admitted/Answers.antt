use Rattle.std.proofs.Common.{◌≡◌, true, is_some, Option, Some, None, sym, ◌∙◌, refl, true≢false}
use Rattle.pliron_core.specs.Tree.{head_of}
use Rattle.pliron_laws.specs.Datum.{Head}
use Rattle.pliron_laws.proofs.linked.is_admitted.Goals as goal

its_head : (o : Option Head) → is_some o ≡ true → (h : Head) × (o ≡ Some h)
its_head None e = absurd (true≢false (sym e))
its_head (Some h) e = (h, refl)

pub returns : goal.returns
returns g c =
    let head = its_head (head_of c.args.ctx.now.tree c.args.op) c.requires in
    (λ e h is. sym (c.admits.ensures h is) ∙ e, λ admitted. c.admits.ensures head.0 head.1 ∙ admitted head.0 head.1)
