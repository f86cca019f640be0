use Rattle.std.proofs.Common.{◌≡◌, ◌+◌, length, sym, subst, arith}
use Rattle.pliron_laws.proofs.FoldLemmas.{on_err}
use Rattle.pliron_rewrite_operands.specs.Answers.{Folding}
use Rattle.pliron_opt_canonicalize.specs.Sites.{IsAmong, site_of}
use Rattle.pliron_opt_canonicalize.specs.Steps.{AreDone}
use Rattle.pliron_opt_canonicalize.proofs.Parts.{folding}
use Rattle.pliron_opt_canonicalize.proofs.Doing.{among_all, among_more, done_as, done_more, done_partly, done_start, none_among, read_site, seen_still}
use Rattle.pliron_opt_canonicalize.proofs.sweep.sweep.Goals as goal

pub loop-place-init : goal.loop-place-init
loop-place-init g c =
    let x : Folding = folding g.D.HasMeaning.meaning g.D.SideEffects.side_effects g.D.ConstFoldInterface.can_fold g.D.ConstFoldInterface.constants g.D.ConstFoldInterface.accepts g.D.ConstFoldInterface.constant_head g.D.OperandFoldInterface.operand_folds in
    done_start x c.args.root c.args.ctx.now.tree c.requires.live c.requires.linked (λ f. IsAmong c.args.sites.now 0 (site_of f)) (λ f u at fold. none_among c.args.sites.now (site_of f) at)

pub fold_site-requires-clause-live : goal.fold_site-requires-clause-live
fold_site-requires-clause-live g c = c.loop-place.invariant.way.change.liveness

pub fold_site-requires-clause-linked : goal.fold_site-requires-clause-linked
fold_site-requires-clause-linked g c = c.loop-place.invariant.way.links c.args.root c.requires.linked

pub fold_site-requires-clause-seen : goal.fold_site-requires-clause-seen
fold_site-requires-clause-seen g c =
    let sites = c.args.sites.now in
    let site = c.index-sites-place.result in
    seen_still c.args.ctx.now.tree c.loop-place.ctx.tree c.args.root c.loop-place.invariant.still site (c.requires.listed.seen c.loop-place.place site (read_site sites c.loop-place.place site _ (omega arith) c.index-sites-place.is))

pub loop-place-preserved : goal.loop-place-preserved
loop-place-preserved g c =
    let x : Folding = folding g.D.HasMeaning.meaning g.D.SideEffects.side_effects g.D.ConstFoldInterface.can_fold g.D.ConstFoldInterface.constants g.D.ConstFoldInterface.accepts g.D.ConstFoldInterface.constant_head g.D.OperandFoldInterface.operand_folds in
    let h = c.loop-place.invariant in
    let t0 = c.args.ctx.now.tree in
    let t = c.loop-place.ctx.tree in
    let t' = c.fold_site.new.ctx.tree in
    let root = c.args.root in
    let sites = c.args.sites.now in
    let n = c.loop-place.place in
    let site = c.index-sites-place.result in
    let here = read_site sites n site _ (omega arith) c.index-sites-place.is in
    let more = done_more x root t0 t t' (λ f. IsAmong sites n (site_of f)) (λ f. site_of f ≡ site) c.loop-place.status c.in_ok-folded.folded h c.in_ok-folded.ensures.ok in
    subst (λ z. AreDone x t0 t' root (λ f. IsAmong sites (n + 1) (site_of f)) z) (sym c.bitor_assign.ensures.after)
    (done_as x root t0 t' _ (λ f. IsAmong sites (n + 1) (site_of f)) _ (λ f u at fold. among_more sites n site (site_of f) here at) more)

pub returns-clause-ok : goal.returns-clause-ok
returns-clause-ok g c =
    let x : Folding = folding g.D.HasMeaning.meaning g.D.SideEffects.side_effects g.D.ConstFoldInterface.can_fold g.D.ConstFoldInterface.constants g.D.ConstFoldInterface.accepts g.D.ConstFoldInterface.constant_head g.D.OperandFoldInterface.operand_folds in
    let sites = c.args.sites.now in
    done_as x c.args.root c.args.ctx.now.tree c.loop-place.ctx.tree _ (λ f. IsAmong sites (length sites) (site_of f)) c.loop-place.status (λ f u at fold. among_all sites c.loop-place.place (site_of f) (omega arith) at) c.loop-place.invariant

pub returns-in_err-folded-clause-refused : goal.returns-in_err-folded-clause-refused
returns-in_err-folded-clause-refused g c =
    let x : Folding = folding g.D.HasMeaning.meaning g.D.SideEffects.side_effects g.D.ConstFoldInterface.can_fold g.D.ConstFoldInterface.constants g.D.ConstFoldInterface.accepts g.D.ConstFoldInterface.constant_head g.D.OperandFoldInterface.operand_folds in
    on_err _ c.from_residual.result (done_partly x c.args.root c.args.ctx.now.tree c.loop-place.ctx.tree c.fold_site.new.ctx.tree _ _ c.loop-place.invariant c.in_err-folded.ensures.refused)
