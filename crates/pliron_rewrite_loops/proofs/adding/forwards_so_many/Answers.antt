use Rattle.std.proofs.Common.{false, true≢false, IsTrue, sym, ◌∙◌}
use Rattle.pliron_rewrite_loops.proofs.ForwardedCounts.{not_many, passes, many}
use Rattle.pliron_rewrite_loops.proofs.adding.forwards_so_many.Goals as goal

pub returns-then-not-is_branch-clause-ok : goal.returns-then-not-is_branch-clause-ok
returns-then-not-is_branch-clause-ok g c = (λ e. absurd (not_true e), λ f. absurd (not_many g.D.HasMeaning.meaning c.args.ctx.now.tree c.args.op c.args.edge c.args.count c.requires.live c.is_branch.result c.is_branch.ensures c.if-not-is_branch.true f))
  where
    not_true : IsTrue false → ⊥
    not_true e = true≢false (sym e)

pub returns-clause-ok : goal.returns-clause-ok
returns-clause-ok g c =
    let m = g.D.HasMeaning.meaning in
    let t = c.args.ctx.now.tree in
    many m t c.args.op c.args.edge c.args.count c.requires.live c.in_ok-values.values.items c.len.result (passes m t c.args.op c.args.edge c.args.count c.requires.live c.is_branch.result c.is_branch.ensures c.if-not-is_branch.false) c.in_ok-values.ensures.ok (c.len.ensures ∙ c.in_ok-values.values.ok.0)
