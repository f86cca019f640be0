use Rattle.std.proofs.Common.{sym, ◌∙◌}
use Rattle.pliron_core.proofs.HoldingLemmas.{not_none}
use Rattle.pliron_opt_inline.proofs.CalleeLemmas.{passes, has_passed}
use Rattle.pliron_opt_inline.proofs.callee.may_stand.Goals as goal

pub returns-in-Some-clause-stays : goal.returns-in-Some-clause-stays
returns-in-Some-clause-stays g c = λ j e.
    let t = c.args.ctx.now.tree in (
      passes g.D.InliningDialect.stays t c.args.op c.never_leaves.result c.never_leaves.ensures.reads,
      has_passed g.D.InliningDialect.stays t c.args.op c.never_leaves.result c.never_leaves.ensures.reads c.requires,
    )
