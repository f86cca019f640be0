use Rattle.std.proofs.Common.{rules}
use Rattle.pliron_opt_inline.specs.Turns.{IsUnderWay}
use Rattle.pliron_opt_inline.proofs.ModuleLemmas.{way_begins, live_in}
use Rattle.pliron_opt_inline.proofs.inlining.inline_planned.Goals as goal

pub inline_bottom_up-requires : goal.inline_bottom_up-requires
inline_bottom_up-requires g c =
    let t = c.args.ctx.now.tree in
    let functions = c.args.plan.now.table.now.functions in
    let way = way_begins g.D.HasMeaning.meaning g.D.InliningDialect.convention t functions (live_in t functions c.requires.live) in
    let planned = c.requires.planned in
    let sizes = c.requires.sizes in
    let nodes = c.requires.nodes in
    search rules
