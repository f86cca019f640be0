use Rattle.std.proofs.Common.{◌∙◌, sym}
use Rattle.pliron_rewrite_rules.specs.Tables.{RuleTables}
use Rattle.pliron_rewrite_rules.proofs.ShownLemmas.{tables}
use Rattle.std.proofs.lemmas.Result.{IfOk-weaker}
use Rattle.pliron_opt_combine.proofs.Doing.{done_as, done_start}
use Rattle.pliron_opt_combine.proofs.Listing.{read_place}
use Rattle.pliron_opt_combine.proofs.sweep.rewrite_at.Goals as goal

pub returns-in_default-clause-ok : goal.returns-in_default-clause-ok
returns-in_default-clause-ok g c =
    let x : RuleTables = tables g.D.HasMeaning.meaning g.D.SideEffects.side_effects g.D.ConstFoldInterface.can_fold g.D.ConstFoldInterface.constants g.D.ConstFoldInterface.accepts g.D.ConstFoldInterface.constant_head in
    done_start x g.L.Rules.rules c.args.root c.args.ctx.now.tree c.requires.live c.requires.linked c.args.left (λ k. ⊥) (λ some k term never. absurd never)

pub rewrite_operation-requires-clause-is_seen : goal.rewrite_operation-requires-clause-is_seen
rewrite_operation-requires-clause-is_seen g c = c.requires.seen c.in-Some.op (read_place c.args.work.now.seen.keys c.args.place c.in-Some.op (sym c.get_index.ensures.key ∙ sym c.copied.ensures ∙ c.in-Some.is))

pub returns-clause-ok : goal.returns-clause-ok
returns-clause-ok g c =
    let x : RuleTables = tables g.D.HasMeaning.meaning g.D.SideEffects.side_effects g.D.ConstFoldInterface.can_fold g.D.ConstFoldInterface.constants g.D.ConstFoldInterface.accepts g.D.ConstFoldInterface.constant_head in
    IfOk-weaker c.rewrite_operation.result _ _ (λ rest done. done_as x g.L.Rules.rules c.args.root c.args.ctx.now.tree c.rewrite_operation.new.ctx.tree c.args.left rest _ (λ k. ⊥) (λ k never. absurd never) done) c.rewrite_operation.ensures.ok
