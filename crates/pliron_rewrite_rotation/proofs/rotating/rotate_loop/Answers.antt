use Rattle.std.proofs.Common.{sym, subst}
use Rattle.pliron_theory.specs.Keeps.{with_roots}
use Rattle.pliron_theory.proofs.Keeping.{keeps_trans}
use Rattle.pliron_rewrite_loops.specs.Passing.{MayPass}
use Rattle.pliron_rewrite_loops.specs.Closing.{IsHeaderCovered}
use Rattle.pliron_rewrite_rotation.specs.Entering.{MayCopyHeader}
use Rattle.pliron_rewrite_rotation.specs.HeaderCopied.{IsHeaderCopied}
use Rattle.pliron_rewrite_rotation.proofs.Rotated.{may_copy, closed_holders, both_holders}
use Rattle.pliron_rewrite_rotation.proofs.rotating.rotate_loop.Goals as goal

pub close_header-closed-requires-clause-to_body : goal.close_header-closed-requires-clause-to_body
close_header-closed-requires-clause-to_body g c = λ k i. subst (λ z. MayPass g.D.HasMeaning.meaning c.args.ctx.now.tree c.args.rotation.now.body.block z c.args.rotation.now.body.users.items) (sym c.as_slice-values.ensures.value) (c.requires.to_body k i)

pub close_header-closed-requires-clause-to_exit : goal.close_header-closed-requires-clause-to_exit
close_header-closed-requires-clause-to_exit g c = λ k i. subst (λ z. MayPass g.D.HasMeaning.meaning c.args.ctx.now.tree c.args.rotation.now.exit.block z c.args.rotation.now.exit.users.items) (sym c.as_slice-values.ensures.value) (c.requires.to_exit k i)

pub returns-in_err-closed-clause-holders : goal.returns-in_err-closed-clause-holders
returns-in_err-closed-clause-holders g c = closed_holders g.D.HasMeaning.meaning c.args.ctx.now.tree c.close_header-closed.new.ctx.tree c.args.rotation.now c.well_formed-2.ensures.tree c.requires c.in_err-closed.ensures.closing

pub returns-then-not-branch-clause-holders : goal.returns-then-not-branch-clause-holders
returns-then-not-branch-clause-holders g c = closed_holders g.D.HasMeaning.meaning c.args.ctx.now.tree c.close_header-closed.new.ctx.tree c.args.rotation.now c.well_formed-2.ensures.tree c.requires c.in_ok-closed.ensures.closing

pub copy_header-copied-requires : goal.copy_header-copied-requires
copy_header-copied-requires g c =
    let x = c.args.rotation.now in
    let covered = subst (λ z. IsHeaderCovered c.args.ctx.now.tree x.header x.body.block x.exit.block z x.body.users.items x.exit.users.items) (sym c.as_slice-values.ensures.value) c.requires.covered in
    subst (λ z. MayCopyHeader c.close_header-closed.new.ctx.tree x.header z) (sym c.as_slice-entering.ensures.value)
    (may_copy g.D.HasMeaning.meaning c.args.ctx.now.tree c.close_header-closed.new.ctx.tree x c.well_formed-2.ensures.tree c.requires c.in_ok-closed.ensures.closing (c.in_ok-closed.ensures.closed c.if-not-branch.false x.header covered))

pub returns-in_err-copied-clause-holders : goal.returns-in_err-copied-clause-holders
returns-in_err-copied-clause-holders g c = both_holders g.D.HasMeaning.meaning c.args.ctx.now.tree c.close_header-closed.new.ctx.tree c.args.rotation.now c.well_formed-2.ensures.tree c.requires c.in_ok-closed.ensures.closing c.copy_header-copied.new.ctx.tree c.in_err-copied.ensures.holders

pub returns-in_err-copied-clause-runs : goal.returns-in_err-copied-clause-runs
returns-in_err-copied-clause-runs g c = λ chosen. keeps_trans (with_roots g.D.HasMeaning.meaning chosen) c.args.ctx.now.tree c.close_header-closed.new.ctx.tree c.copy_header-copied.new.ctx.tree (c.in_ok-closed.ensures.runs chosen) (c.in_err-copied.ensures.runs chosen)

pub returns-clause-rotated : goal.returns-clause-rotated
returns-clause-rotated g c =
    let x = c.args.rotation.now in
    let q = c.in_ok-copied.ensures.copied in
    record {
      closed = c.close_header-closed.new.ctx.tree;
      closing = c.in_ok-closed.ensures.closing;
      originals = q.0;
      copied = subst (λ z. IsHeaderCopied c.close_header-closed.new.ctx.tree c.copy_header-copied.new.ctx.tree q.0 x.header c.in_ok-copied.field-0 z) c.as_slice-entering.ensures.value q.1;
    }

pub returns-clause-holders : goal.returns-clause-holders
returns-clause-holders g c = both_holders g.D.HasMeaning.meaning c.args.ctx.now.tree c.close_header-closed.new.ctx.tree c.args.rotation.now c.well_formed-2.ensures.tree c.requires c.in_ok-closed.ensures.closing c.copy_header-copied.new.ctx.tree c.in_ok-copied.ensures.holders

pub returns-clause-runs : goal.returns-clause-runs
returns-clause-runs g c = λ chosen. keeps_trans (with_roots g.D.HasMeaning.meaning chosen) c.args.ctx.now.tree c.close_header-closed.new.ctx.tree c.copy_header-copied.new.ctx.tree (c.in_ok-closed.ensures.runs chosen) (c.in_ok-copied.ensures.runs chosen)
