use Rattle.std.proofs.Common.{sym}
use Rattle.pliron_opt_edges.proofs.WalkLemmas.{way_start, way_found, way_more, way_ended, way_longer}
use Rattle.pliron_opt_edges.proofs.chains.walk.Goals as goal

pub steps-init : goal.steps-init
steps-init g c = way_start g.D.HasMeaning.meaning.is_branch c.args.ctx.now.tree c.args.ends.now c.args.path.now.items c.args.from c.requires.block c.requires.known c.requires.begun

pub returns-in-Some-clause-walked : goal.returns-in-Some-clause-walked
returns-in-Some-clause-walked g c = way_found g.D.HasMeaning.meaning.is_branch c.args.ctx.now.tree c.args.ends.now c.steps.ends c.steps.path.items c.args.from c.steps.at c.steps.invariant c.in-Some.end (sym c.in-Some.ensures)

pub returns-in-Some-clause-more : goal.returns-in-Some-clause-more
returns-in-Some-clause-more g c = c.steps.invariant.more

pub next_block-requires : goal.next_block-requires
next_block-requires g c = c.steps.invariant.block

pub returns-in-None-clause-walked : goal.returns-in-None-clause-walked
returns-in-None-clause-walked g c = way_ended g.D.HasMeaning.meaning.is_branch c.args.ctx.now.tree c.args.ends.now c.steps.ends c.steps.path.items c.args.from c.steps.at c.steps.invariant c.put.new.self c.push.new.self.items c.in_ok-put.ensures.put c.in_ok-push.ensures.items c.in-None.ensures.passes_on

pub returns-in-None-clause-more : goal.returns-in-None-clause-more
returns-in-None-clause-more g c = way_longer g.D.HasMeaning.meaning.is_branch c.args.ctx.now.tree c.args.ends.now c.steps.ends c.steps.path.items c.args.from c.steps.at c.steps.invariant c.put.new.self c.push.new.self.items c.in_ok-put.ensures.put c.in_ok-push.ensures.items

pub steps-preserved : goal.steps-preserved
steps-preserved g c = way_more g.D.HasMeaning.meaning.is_branch c.args.ctx.now.tree c.args.ends.now c.steps.ends c.steps.path.items c.args.from c.steps.at c.steps.invariant c.put.new.self c.push.new.self.items c.in_ok-put.ensures.put c.in_ok-push.ensures.items c.in-Some-next_block.next c.in-Some-next_block.ensures.liveness c.in-Some-next_block.ensures.passes_on
