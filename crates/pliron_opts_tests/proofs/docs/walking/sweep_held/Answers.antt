use Rattle.pliron_core.specs.Tree.IsInside.{Directly}
use Rattle.pliron_core.proofs.HoldingLemmas.{holder_live}
use Rattle.pliron_theory.proofs.ChangeLemmas.{linked_inside, change_widen, whole_passes}
use Rattle.pliron_dialect_bench.specs.BenchMoves.{bench}
use Rattle.pliron_opts_tests.proofs.docs.walking.sweep_held.Goals as goal

pub dce-swept-requires-clause-live : goal.dce-swept-requires-clause-live
dce-swept-requires-clause-live c = (holder_live c.args.ctx.now.tree c.args.inner c.args.holder c.well_formed-2.ensures.tree.joined c.requires.held).0

pub dce-swept-requires-clause-linked : goal.dce-swept-requires-clause-linked
dce-swept-requires-clause-linked c = linked_inside bench c.args.ctx.now.tree c.args.holder c.args.inner (Directly c.requires.held) c.requires.linked

pub returns-clause-change : goal.returns-clause-change
returns-clause-change c = change_widen bench c.args.ctx.now.tree c.dce-swept.new.ctx.tree c.args.holder c.args.inner c.well_formed-2.ensures.tree c.well_formed-3.ensures.tree c.requires.held c.requires.linked (whole_passes bench c.args.ctx.now.tree c.dce-swept.new.ctx.tree c.args.inner c.dce-swept.ensures.change)
