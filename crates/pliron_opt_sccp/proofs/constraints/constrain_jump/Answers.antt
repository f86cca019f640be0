use Rattle.std.proofs.lemmas.Result.{on_ok_weaker}
use Rattle.pliron_theory.specs.LatticeValues.{IsEntryExecutable}
use Rattle.pliron_opt_sccp.proofs.Entered.{under, jump_due, jump_skipped, jump_kept}
use Rattle.pliron_opt_sccp.proofs.constraints.constrain_jump.Goals as goal

pub returns-then-branch-clause-ok : goal.returns-then-branch-clause-ok
returns-then-branch-clause-ok c = on_ok_weaker c.constrain_entry.result
    (λ adds. λ constants f entered. under constants f (λ now. IsEntryExecutable c.args.ctx.now.tree now c.args.block) c.args.constraints.now.items c.constrain_entry.new.constraints.items (adds constants))
    c.constrain_entry.ensures.ok

pub returns-then-branch-clause-entered : goal.returns-then-branch-clause-entered
returns-then-branch-clause-entered c = on_ok_weaker c.constrain_entry.result
    (λ adds. λ constants f entered. jump_due constants f c.args.ctx.now.tree c.args.block c.args.entered.now c.record_entry.new.entered c.in_ok-record_entry.field-0 c.in_ok-record_entry.ensures.ok c.args.constraints.now.items entered c.constrain_entry.new.constraints.items (adds constants))
    c.constrain_entry.ensures.ok

pub returns-else-branch-clause-ok : goal.returns-else-branch-clause-ok
returns-else-branch-clause-ok c = λ constants f entered.
    jump_skipped constants f c.args.ctx.now.tree c.args.block c.args.entered.now c.record_entry.new.entered c.in_ok-record_entry.field-0 c.in_ok-record_entry.ensures.ok c.args.constraints.now.items entered c.if-branch.false

pub returns-else-branch-clause-entered : goal.returns-else-branch-clause-entered
returns-else-branch-clause-entered c = λ constants f entered.
    jump_kept constants f c.args.ctx.now.tree c.args.block c.args.entered.now c.record_entry.new.entered c.in_ok-record_entry.field-0 c.in_ok-record_entry.ensures.ok c.args.constraints.now.items entered c.if-branch.false
