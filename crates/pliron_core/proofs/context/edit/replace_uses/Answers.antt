use Rattle.std.proofs.Common.{rules, ◌≡◌, sym, ◌∙◌, refl, map}
use Rattle.pliron_core.specs.Uses.{replace_target}
use Rattle.pliron_core.specs.UseTables.{view_of}
use Rattle.pliron_core.proofs.UsedLemmas.{replace-all_same}
use Rattle.pliron_core.proofs.WellLemmas.{well_replace}
use Rattle.pliron_core.proofs.context.edit.replace_uses.Goals as goal

pub returns-then-index-clause-ok : goal.returns-then-index-clause-ok
returns-then-index-clause-ok c = rw (replace-all_same c.args.old c.args.new _ (sym c.index.ensures ∙ c.if-index.true ∙ c.index-2.ensures)) refl

pub invariant_of-ctx-2 : goal.invariant_of-ctx-2
invariant_of-ctx-2 c =
    let r = rw (← c.ctx.view_is, ← c.index-3.ensures, ← c.index-4.ensures) at c.requires in
    let e : c.replace.new.self.targets ≡ map (map (replace_target c.index-3.result c.index-4.result)) (view_of c.ctx.inside).tree.operands = search rules in
    well_replace (view_of c.ctx.inside) c.index-3.result c.index-4.result c.replace.new.self.targets c.replace.new.self.uses c.ctx.invariant r.new e c.replace.ensures.count
