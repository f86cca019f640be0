use Rattle.std.proofs.Common.{◌≡◌, ◌<◌, ◌+◌, length, sym, ap, subst, arith}
use Rattle.pliron_laws.proofs.FoldLemmas.{on_err}
use Rattle.pliron_rewrite_operands.specs.Answers.{Folding}
use Rattle.pliron_opt_canonicalize.specs.Sites.{index_of, site_of, values_at}
use Rattle.pliron_opt_canonicalize.specs.Steps.{AreDone}
use Rattle.pliron_opt_canonicalize.proofs.Parts.{folding}
use Rattle.pliron_opt_canonicalize.proofs.Doing.{done_as, done_more, done_partly, done_start, index_within, live_site, seen_still, split, values_still}
use Rattle.pliron_opt_canonicalize.proofs.sweep.fold_site.Goals as goal

pub value_count-index-end-requires : goal.value_count-index-end-requires
value_count-index-end-requires g c = live_site c.args.ctx.now.tree c.args.root c.well_formed-2.ensures.tree c.args.site.now c.requires.seen

pub loop-index-init : goal.loop-index-init
loop-index-init g c =
    let x : Folding = folding g.D.HasMeaning.meaning g.D.SideEffects.side_effects g.D.ConstFoldInterface.can_fold g.D.ConstFoldInterface.constants g.D.ConstFoldInterface.accepts g.D.ConstFoldInterface.constant_head g.D.OperandFoldInterface.operand_folds in
    done_start x c.args.root c.args.ctx.now.tree c.requires.live c.requires.linked (λ f. (site_of f ≡ c.args.site.now) × (index_of f < 0)) (λ f u at fold. let lt = at.1 in omega (arith, lt))

pub fold_value-requires-clause-live : goal.fold_value-requires-clause-live
fold_value-requires-clause-live g c = c.loop-index.invariant.way.change.liveness

pub fold_value-requires-clause-linked : goal.fold_value-requires-clause-linked
fold_value-requires-clause-linked g c = c.loop-index.invariant.way.links c.args.root c.requires.linked

pub fold_value-requires-clause-seen : goal.fold_value-requires-clause-seen
fold_value-requires-clause-seen g c = seen_still c.args.ctx.now.tree c.loop-index.ctx.tree c.args.root c.loop-index.invariant.still c.args.site.now c.requires.seen

pub fold_value-requires-clause-index : goal.fold_value-requires-clause-index
fold_value-requires-clause-index g c =
    let same = ap length (values_still c.args.ctx.now.tree c.loop-index.ctx.tree c.args.root c.well_formed-2.ensures.tree c.loop-index.invariant.still c.args.site.now c.requires.seen) in
    omega (arith, same, c.loop-index-test.true, c.value_count-index-end.ensures)

pub loop-index-preserved : goal.loop-index-preserved
loop-index-preserved g c =
    let x : Folding = folding g.D.HasMeaning.meaning g.D.SideEffects.side_effects g.D.ConstFoldInterface.can_fold g.D.ConstFoldInterface.constants g.D.ConstFoldInterface.accepts g.D.ConstFoldInterface.constant_head g.D.OperandFoldInterface.operand_folds in
    let h = c.loop-index.invariant in
    let t0 = c.args.ctx.now.tree in
    let t = c.loop-index.ctx.tree in
    let t' = c.fold_value.new.ctx.tree in
    let root = c.args.root in
    let site = c.args.site.now in
    let n = c.loop-index.index in
    let more = done_more x root t0 t t' (λ f. (site_of f ≡ site) × (index_of f < n)) (λ f. (site_of f ≡ site) × (index_of f ≡ n)) c.loop-index.status c.in_ok-folded.folded h c.in_ok-folded.ensures.ok in
    subst (λ z. AreDone x t0 t' root (λ f. (site_of f ≡ site) × (index_of f < n + 1)) z) (sym c.bitor_assign.ensures.after)
    (done_as x root t0 t' _ (λ f. (site_of f ≡ site) × (index_of f < n + 1)) _ (λ f u at fold. split (index_of f) n (site_of f ≡ site) at.0 at.1) more)

pub returns-clause-ok : goal.returns-clause-ok
returns-clause-ok g c =
    let x : Folding = folding g.D.HasMeaning.meaning g.D.SideEffects.side_effects g.D.ConstFoldInterface.can_fold g.D.ConstFoldInterface.constants g.D.ConstFoldInterface.accepts g.D.ConstFoldInterface.constant_head g.D.OperandFoldInterface.operand_folds in
    let t0 = c.args.ctx.now.tree in
    done_as x c.args.root t0 c.loop-index.ctx.tree _ (λ f. site_of f ≡ c.args.site.now) c.loop-index.status (λ f u at fold. let lt = index_within x c.args.root t0 u f fold in let same = ap (λ z. length (values_at t0 z)) at in (at, omega (arith, lt, same, c.loop-index-test.false, c.value_count-index-end.ensures))) c.loop-index.invariant

pub returns-in_err-folded-clause-refused : goal.returns-in_err-folded-clause-refused
returns-in_err-folded-clause-refused g c =
    let x : Folding = folding g.D.HasMeaning.meaning g.D.SideEffects.side_effects g.D.ConstFoldInterface.can_fold g.D.ConstFoldInterface.constants g.D.ConstFoldInterface.accepts g.D.ConstFoldInterface.constant_head g.D.OperandFoldInterface.operand_folds in
    on_err _ c.from_residual.result (done_partly x c.args.root c.args.ctx.now.tree c.loop-index.ctx.tree c.fold_value.new.ctx.tree _ _ c.loop-index.invariant c.in_err-folded.ensures.refused)
