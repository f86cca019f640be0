use Rattle.pliron_core.specs.Tree.IsInside.{Directly}
use Rattle.pliron_core.proofs.HoldingLemmas.{holder_live}
use Rattle.pliron_core.proofs.AroundLemmas.{held_still, children_kept}
use Rattle.pliron_theory.proofs.ChangeLemmas.{linked_inside, change_widen}
use Rattle.pliron_pass.proofs.nested.run_held.Goals as goal

pub run_pipeline-ran-requires-clause-live : goal.run_pipeline-ran-requires-clause-live
run_pipeline-ran-requires-clause-live g c = (holder_live c.args.ctx.now.tree c.args.op c.args.holder c.well_formed-2.ensures.tree.joined c.requires.held).0

pub run_pipeline-ran-requires-clause-linked : goal.run_pipeline-ran-requires-clause-linked
run_pipeline-ran-requires-clause-linked g c = linked_inside g.P.D.HasMeaning.meaning c.args.ctx.now.tree c.args.holder c.args.op (Directly c.requires.held) c.requires.linked

pub returns-clause-change : goal.returns-clause-change
returns-clause-change g c = change_widen g.P.D.HasMeaning.meaning c.args.ctx.now.tree c.run_pipeline-ran.new.ctx.tree c.args.holder c.args.op c.well_formed-2.ensures.tree c.well_formed-3.ensures.tree c.requires.held c.requires.linked c.run_pipeline-ran.ensures.change

pub returns-clause-held : goal.returns-clause-held
returns-clause-held g c = held_still c.args.ctx.now.tree c.run_pipeline-ran.new.ctx.tree c.args.holder c.args.op c.well_formed-2.ensures.tree c.requires.held c.run_pipeline-ran.ensures.change.inside

pub returns-clause-children : goal.returns-clause-children
returns-clause-children g c = children_kept c.args.ctx.now.tree c.run_pipeline-ran.new.ctx.tree c.args.holder c.args.op c.well_formed-2.ensures.tree c.requires.held c.run_pipeline-ran.ensures.change.inside
