use Rattle.std.proofs.Common.{◌≡◌, ◌+◌, length, Some, slice_get, refl, sym, subst, arith}
use Rattle.std.proofs.lemmas.Option.{slice_get_read}
use Rattle.pliron_theory.specs.LatticeValues.{Says}
use Rattle.pliron_opt_sccp.specs.RewriteSteps.{IsPuttingOn}
use Rattle.pliron_opt_sccp.proofs.ArgumentStep.{putting_start, putting_can, putting_next, putting_end, putting_broken}
use Rattle.pliron_laws.proofs.FoldLemmas.{on_err}
use Rattle.pliron_opt_sccp.proofs.rewrite.put_all.Goals as goal

pub loop-i-init : goal.loop-i-init
loop-i-init g c = putting_start _ _ _ _ _

pub put_argument-requires : goal.put_argument-requires
put_argument-requires g c =
    let s = c.requires.steps in
    let all = c.args.arguments.now in
    let at : slice_get all c.loop-i.i ≡ Some c.index-arguments-i.result = slice_get_read all (length all) c.loop-i.i c.index-arguments-i.result refl c.loop-i-test.true c.index-arguments-i.is in
    record { step = (s.0, s.1, s.2, putting_can _ _ _ _ all c.loop-i.i c.loop-i.status c.loop-i.ctx.tree c.loop-i.invariant c.index-arguments-i.result at s.0 s.1 s.2 s.3) }

pub returns-in_err-put_argument-clause-follows : goal.returns-in_err-put_argument-clause-follows
returns-in_err-put_argument-clause-follows g c = λ t₀ root f₀ s.
    let all = c.args.arguments.now in
    let at : slice_get all c.loop-i.i ≡ Some c.index-arguments-i.result = slice_get_read all (length all) c.loop-i.i c.index-arguments-i.result refl c.loop-i-test.true c.index-arguments-i.is in
    c.put_argument.ensures.follows t₀ root f₀ (putting_can _ _ _ _ all c.loop-i.i c.loop-i.status c.loop-i.ctx.tree c.loop-i.invariant c.index-arguments-i.result at t₀ root f₀ s)

pub loop-i-preserved : goal.loop-i-preserved
loop-i-preserved g c =
    let all = c.args.arguments.now in
    let at : slice_get all c.loop-i.i ≡ Some c.index-arguments-i.result = slice_get_read all (length all) c.loop-i.i c.index-arguments-i.result refl c.loop-i-test.true c.index-arguments-i.is in
    let x : Says = record { meaning = g.D.HasMeaning.meaning; can_fold = g.D.ConstFoldInterface.can_fold; can_fold_branch = g.D.BranchOpFoldInterface.can_fold_branch; constants = g.D.ConstFoldInterface.constants; feasible = g.D.BranchOpFoldInterface.feasible; entry_operands = g.D.RegionBranchOpInterface.entry_operands } in
    let d = g.D.ConstFoldInterface in
    let done = putting_next x d.accepts d.constant_head c.args.ctx.now.tree all c.loop-i.i c.loop-i.status c.loop-i.ctx.tree c.loop-i.invariant c.index-arguments-i.result at c.put_argument.new.ctx.tree c.in_ok-put_argument.field-0 c.in_ok-put_argument.ensures.ok c.in_ok-put_argument.ensures.reported c.put_argument.ensures.stays c.put_argument.ensures.follows in
    subst (λ z. IsPuttingOn x d.accepts d.constant_head c.args.ctx.now.tree all (c.loop-i.i + 1) z c.put_argument.new.ctx.tree) (sym c.bitor_assign.ensures.after) done

pub returns-clause-puts : goal.returns-clause-puts
returns-clause-puts g c =
    let all = c.args.arguments.now in
    λ t₀ root f₀ s known each. putting_end _ _ _ _ all c.loop-i.i c.loop-i.status c.loop-i.ctx.tree c.loop-i.invariant (omega arith) t₀ root f₀ s known each

pub returns-clause-reported : goal.returns-clause-reported
returns-clause-reported g c = c.loop-i.invariant.reported

pub returns-clause-follows : goal.returns-clause-follows
returns-clause-follows g c = c.loop-i.invariant.follows

pub returns-in_err-put_argument-clause-refused : goal.returns-in_err-put_argument-clause-refused
returns-in_err-put_argument-clause-refused g c =
    let all = c.args.arguments.now in
    let d = g.D.ConstFoldInterface in
    on_err _ c.from_residual.result (λ t₀ root f₀ s known each. putting_broken _ d.accepts d.constant_head c.args.ctx.now.tree all c.loop-i.i c.loop-i.status c.loop-i.ctx.tree c.loop-i.invariant c.put_argument.new.ctx.tree c.in_err-put_argument.ensures.refused t₀ root f₀ s known each)
