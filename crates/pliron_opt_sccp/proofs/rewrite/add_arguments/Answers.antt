use Rattle.std.proofs.Common.{◌≤◌, ◌+◌, length, sym, ◌∙◌, subst, arith}
use Rattle.pliron_core.specs.Tree.{arguments_of}
use Rattle.pliron_opt_sccp.specs.LatticeTables.{lattice_values_of}
use Rattle.pliron_opt_sccp.proofs.ListedArguments.{AreAdded, added_start, added_known, added_nothing, added_all}
use Rattle.pliron_opt_sccp.proofs.rewrite.add_arguments.Goals.{in-Some+in_ok-push-in-Some, in-None}
use Rattle.pliron_opt_sccp.proofs.rewrite.add_arguments.Goals as goal

pub loop-index-init : goal.loop-index-init
loop-index-init c = added_start c.args.ctx.now.tree (lattice_values_of c.args.tables.now) c.args.block c.args.arguments.now.items

pub loop-index-preserved : goal.loop-index-preserved
loop-index-preserved c =
    let t = c.args.ctx.now.tree in
    let f = lattice_values_of c.args.tables.now in
    let at = c.get_argument.ensures.argument in
    let reached = sym c.is_executable.ensures ∙ c.if-not-is_executable.false in
    elim c.match-branch-2.branch [
      | in-Some+in_ok-push-in-Some w ↦ subst (λ z. AreAdded t f c.args.block c.args.arguments.now.items (c.loop-index.index + 1) z.items) (sym w.arguments-is) (added_known t f c.args.block c.args.arguments.now.items c.loop-index.index c.get_argument.result c.loop-index.arguments.items w.push.new.self.items w.in-Some.attr c.loop-index.invariant at reached (sym w.in-Some.is ∙ c.in_ok-attr.ensures.ok) w.in_ok-push-in-Some.ensures.items)
      | in-None w ↦ subst (λ z. AreAdded t f c.args.block c.args.arguments.now.items (c.loop-index.index + 1) z.items) (sym w.arguments-is) (added_nothing t f c.args.block c.args.arguments.now.items c.loop-index.index c.get_argument.result c.loop-index.arguments.items c.loop-index.invariant at (sym w.in-None.is ∙ c.in_ok-attr.ensures.ok))
    ]

pub returns-clause-ok : goal.returns-clause-ok
returns-clause-ok c =
    let t = c.args.ctx.now.tree in
    let whole : length (arguments_of t c.args.block) ≤ c.loop-index.index = omega arith in
    added_all t (lattice_values_of c.args.tables.now) c.args.block c.args.arguments.now.items c.loop-index.index c.loop-index.arguments.items c.loop-index.invariant whole (sym c.is_executable.ensures ∙ c.if-not-is_executable.false)
