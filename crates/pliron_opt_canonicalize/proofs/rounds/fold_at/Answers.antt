use Rattle.std.proofs.Common.{◌≡◌, arith}
use Rattle.std.proofs.lemmas.Result.{IfOk-weaker}
use Rattle.pliron_rewrite_operands.specs.Answers.{Folding}
use Rattle.pliron_opt_canonicalize.specs.Sites.{IsSeenAt, index_of, site_of}
use Rattle.pliron_opt_canonicalize.proofs.Parts.{folding}
use Rattle.pliron_opt_canonicalize.proofs.Doing.{done_as, done_start, live_site, read_site}
use Rattle.pliron_opt_canonicalize.proofs.rounds.fold_at.Goals as goal

pub returns-then-place-sites-clause-ok : goal.returns-then-place-sites-clause-ok
returns-then-place-sites-clause-ok g c =
    let x : Folding = folding g.D.HasMeaning.meaning g.D.SideEffects.side_effects g.D.ConstFoldInterface.can_fold g.D.ConstFoldInterface.constants g.D.ConstFoldInterface.accepts g.D.ConstFoldInterface.constant_head g.D.OperandFoldInterface.operand_folds in
    done_start x c.args.root c.args.ctx.now.tree c.requires.live c.requires.linked (λ f. ⊥) (λ f u never fold. never)

pub returns-then-index-value_count-clause-ok : goal.returns-then-index-value_count-clause-ok
returns-then-index-value_count-clause-ok g c =
    let x : Folding = folding g.D.HasMeaning.meaning g.D.SideEffects.side_effects g.D.ConstFoldInterface.can_fold g.D.ConstFoldInterface.constants g.D.ConstFoldInterface.accepts g.D.ConstFoldInterface.constant_head g.D.OperandFoldInterface.operand_folds in
    done_start x c.args.root c.args.ctx.now.tree c.requires.live c.requires.linked (λ f. ⊥) (λ f u never fold. never)

pub value_count-requires : goal.value_count-requires
value_count-requires g c =
    let t = c.args.ctx.now.tree in
    let site = c.index-sites-place.result in
    live_site t c.args.root c.well_formed-2.ensures.tree site (c.requires.listed.seen c.args.at.0 site (read_site c.args.sites.now c.args.at.0 site _ (omega arith) c.index-sites-place.is))

pub fold_value-requires-clause-seen : goal.fold_value-requires-clause-seen
fold_value-requires-clause-seen g c =
    let site = c.index-sites-place.result in
    c.requires.listed.seen c.args.at.0 site (read_site c.args.sites.now c.args.at.0 site _ (omega arith) c.index-sites-place.is)

pub returns-clause-ok : goal.returns-clause-ok
returns-clause-ok g c =
    let x : Folding = folding g.D.HasMeaning.meaning g.D.SideEffects.side_effects g.D.ConstFoldInterface.can_fold g.D.ConstFoldInterface.constants g.D.ConstFoldInterface.accepts g.D.ConstFoldInterface.constant_head g.D.OperandFoldInterface.operand_folds in
    let t = c.args.ctx.now.tree in
    IfOk-weaker c.fold_value.result _ _ (λ status done. done_as x c.args.root t c.fold_value.new.ctx.tree _ (λ f. ⊥) status (λ f u never fold. absurd never) done) c.fold_value.ensures.ok
