use Rattle.pliron_theory.specs.Keeps.{with_roots}
use Rattle.pliron_theory.proofs.Keeping.{keeps_trans}
use Rattle.pliron_rewrite_loops.proofs.Besides.{besides_refl}
use Rattle.pliron_rewrite_loops.proofs.closing.close_header.Goals as goal

pub returns-in_err-left-clause-closing : goal.returns-in_err-left-clause-closing
returns-in_err-left-clause-closing g c =
    record { middle = c.pass_to_gate-left.new.ctx.tree; tree = c.well_formed-3.ensures.tree; first = c.in_err-left.ensures.besides; then = besides_refl g.D.HasMeaning.meaning c.pass_to_gate-left.new.ctx.tree c.args.body.now.block c.args.body.now.users.items }

pub returns-then-not-branch-clause-closing : goal.returns-then-not-branch-clause-closing
returns-then-not-branch-clause-closing g c =
    record { middle = c.pass_to_gate-left.new.ctx.tree; tree = c.well_formed-3.ensures.tree; first = c.in_ok-left.ensures.besides; then = besides_refl g.D.HasMeaning.meaning c.pass_to_gate-left.new.ctx.tree c.args.body.now.block c.args.body.now.users.items }

pub pass_to_gate-passed-requires : goal.pass_to_gate-passed-requires
pass_to_gate-passed-requires g c = λ k i. (c.in_ok-left.ensures.passed c.if-not-branch.false).keeps.may_pass c.args.body.now.block c.args.values.now c.args.body.now.users.items (c.requires.to_body k i)

pub returns-in_err-passed-clause-closing : goal.returns-in_err-passed-clause-closing
returns-in_err-passed-clause-closing g c =
    record { middle = c.pass_to_gate-left.new.ctx.tree; tree = c.well_formed-3.ensures.tree; first = c.in_ok-left.ensures.besides; then = c.in_err-passed.ensures.besides }

pub returns-in_err-passed-clause-runs : goal.returns-in_err-passed-clause-runs
returns-in_err-passed-clause-runs g c = λ chosen. keeps_trans (with_roots g.D.HasMeaning.meaning chosen) c.args.ctx.now.tree c.pass_to_gate-left.new.ctx.tree c.pass_to_gate-passed.new.ctx.tree (c.in_ok-left.ensures.runs chosen) (c.in_err-passed.ensures.runs chosen)

pub returns-in_err-passed-clause-runs_back : goal.returns-in_err-passed-clause-runs_back
returns-in_err-passed-clause-runs_back g c = λ chosen. keeps_trans (with_roots g.D.HasMeaning.meaning chosen) c.pass_to_gate-passed.new.ctx.tree c.pass_to_gate-left.new.ctx.tree c.args.ctx.now.tree (c.in_err-passed.ensures.runs_back chosen) (c.in_ok-left.ensures.runs_back chosen)

pub returns-clause-closed : goal.returns-clause-closed
returns-clause-closed g c = λ z header covered. c.passed_values_are_closed.ensures c.args.ctx.now.tree c.pass_to_gate-left.new.ctx.tree c.pass_to_gate-passed.new.ctx.tree header c.args.body.now.block c.args.exit.now.block c.args.values.now c.args.body.now.users.items c.args.exit.now.users.items c.well_formed-4.ensures.tree covered (c.in_ok-left.ensures.passed c.if-not-branch.false) (c.in_ok-passed.ensures.passed z)

pub returns-clause-closing : goal.returns-clause-closing
returns-clause-closing g c =
    record { middle = c.pass_to_gate-left.new.ctx.tree; tree = c.well_formed-3.ensures.tree; first = c.in_ok-left.ensures.besides; then = c.in_ok-passed.ensures.besides }

pub returns-clause-runs : goal.returns-clause-runs
returns-clause-runs g c = λ chosen. keeps_trans (with_roots g.D.HasMeaning.meaning chosen) c.args.ctx.now.tree c.pass_to_gate-left.new.ctx.tree c.pass_to_gate-passed.new.ctx.tree (c.in_ok-left.ensures.runs chosen) (c.in_ok-passed.ensures.runs chosen)

pub returns-clause-runs_back : goal.returns-clause-runs_back
returns-clause-runs_back g c = λ chosen. keeps_trans (with_roots g.D.HasMeaning.meaning chosen) c.pass_to_gate-passed.new.ctx.tree c.pass_to_gate-left.new.ctx.tree c.args.ctx.now.tree (c.in_ok-passed.ensures.runs_back chosen) (c.in_ok-left.ensures.runs_back chosen)
