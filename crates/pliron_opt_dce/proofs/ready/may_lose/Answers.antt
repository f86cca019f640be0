use Rattle.std.proofs.Common.{rules, ◌≡◌, Some, true, arith}
use Rattle.pliron_laws.proofs.AnswerLemmas.{no, yes}
use Rattle.pliron_opt_dce.specs.Dead.{MayLose}
use Rattle.pliron_opt_dce.proofs.ReadyTests.{place_answer, allowed_told}
use Rattle.pliron_opt_dce.proofs.ready.may_lose.Goals as goal

pub returns-in_default : goal.returns-in_default
returns-in_default g c = no (MayLose g.D.BlockArgRemoval.removable c.args.ctx.now.tree c.args.block) (λ l.
    let e : c.can_remove_block_args.result ≡ Some true = place_answer g.D.BlockArgRemoval.removable c.args.ctx.now.tree c.args.holder c.args.block c.can_remove_block_args.result (Some true) c.well_formed-2.ensures.tree c.requires.holder c.can_remove_block_args.ensures (l c.args.holder c.requires.holder) in
    grind (arith, c.in_default.is, c.in_default.field-0-is, e))

pub returns-in_default-2 : goal.returns-in_default-2
returns-in_default-2 g c = no (MayLose g.D.BlockArgRemoval.removable c.args.ctx.now.tree c.args.block) (λ l.
    let e : c.can_remove_block_args.result ≡ Some true = place_answer g.D.BlockArgRemoval.removable c.args.ctx.now.tree c.args.holder c.args.block c.can_remove_block_args.result (Some true) c.well_formed-2.ensures.tree c.requires.holder c.can_remove_block_args.ensures (l c.args.holder c.requires.holder) in
    grind (arith, c.in_default.is, e))

pub returns : goal.returns
returns g c =
    let t = c.args.ctx.now.tree in
    let said : c.can_remove_block_args.result ≡ Some true = search (rules, c.in-Some-true) in
    yes (MayLose g.D.BlockArgRemoval.removable t c.args.block) (allowed_told g.D.BlockArgRemoval.removable t c.args.holder c.args.block c.can_remove_block_args.result c.requires.holder c.can_remove_block_args.ensures said)
