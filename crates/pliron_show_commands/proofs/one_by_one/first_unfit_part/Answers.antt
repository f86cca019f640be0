use Rattle.std.proofs.Common.{arith, rules, subst}
use Rattle.std.proofs.lemmas.Grind.{common_steps}
use Rattle.pliron_show_commands.proofs.PartLemmas.{IsSearched, search_live, search_continues}
use Rattle.pliron_show_commands.proofs.one_by_one.first_unfit_part.Goals as goal

pub part_violation-requires : goal.part_violation-requires
part_violation-requires g c = search_live g.D.HasMeaning.meaning c.args.ctx.now.tree c.args.root c.well_formed-2.ensures.tree c.in-Some.op c.next.new.self (subst (IsSearched g.D.HasMeaning.meaning c.args.ctx.now.tree c.args.root) c.in-Some.ensures.steps c.loop-op.invariant)

pub loop-op-preserved : goal.loop-op-preserved
loop-op-preserved g c = search_continues g.D.HasMeaning.meaning c.args.ctx.now.tree c.args.root c.in-Some.op c.next.new.self (subst (IsSearched g.D.HasMeaning.meaning c.args.ctx.now.tree c.args.root) c.in-Some.ensures.steps c.loop-op.invariant) (first_of (search rules, grind (arith, common_steps)))
