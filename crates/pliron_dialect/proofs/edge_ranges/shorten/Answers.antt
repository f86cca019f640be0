use Rattle.std.proofs.Common.{◌≡◌, Some, true, ap, sym, ◌∙◌}
use Rattle.pliron_dialect.specs.Counted.{counts_edge}
use Rattle.pliron_dialect.specs.declared.form.Form.TheVariants.{Chooses as ChoosesForm}
use Rattle.pliron_dialect.specs.Roles.{role_at, form_at}
use Rattle.pliron_dialect.proofs.BranchReads.{shortened_set}
use Rattle.pliron_dialect.proofs.edge_ranges.shorten.Goals as goal

pub returns-then-i-len-clause-head : goal.returns-then-i-len-clause-head
returns-then-i-len-clause-head g c = λ h e.
    let read = c.in-Some-Chooses.ensures h e in
    let is = c.in-Some-Chooses.field-0-is in
    let counting = c.in-Some-Chooses.counting in
    let form : Some (ChoosesForm counting) ≡ form_at (role_at g.K.Roles.tables) h.kind = cc in
    let counts : counts_edge counting c.args.i ≡ true = sym c.counts_edge.ensures ∙ c.if-counts_edge.true in
    shortened_set (role_at g.K.Roles.tables) counting c.args.ctx.now.tree c.set_attribute.new.ctx.tree c.args.op c.args.i c.one_fewer-attr.result c.get.result.now c.head-then-i-len.result.now (ap (λ z. z.tree) c.set_attribute.ensures) c.requires.edge counts c.one_fewer-attr.ensures c.head-then-i-len.ensures c.get.ensures h e form
