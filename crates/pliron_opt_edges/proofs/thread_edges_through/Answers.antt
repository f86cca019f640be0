use Rattle.std.proofs.Common.{◌∙◌, subst}
use Rattle.pliron_core.specs.Tree.{In}
use Rattle.pliron_core.proofs.SameTreeLemmas.{same_refl}
use Rattle.pliron_laws.proofs.FoldLemmas.{on_err}
use Rattle.pliron_theory.proofs.WholeChanges.{whole_refl}
use Rattle.pliron_opt_edges.specs.Moved.{MovesEdges.Nothing}
use Rattle.pliron_opt_edges.proofs.MoveLemmas.{listed_live}
use Rattle.pliron_opt_edges.proofs.thread_edges_through.Goals as goal

pub find_ends-requires : goal.find_ends-requires
find_ends-requires g c = λ k i. listed_live g.D.HasMeaning.meaning.is_branch c.args.ctx.now.tree c.well_formed-2.ensures.tree c.args.op k (subst (In k) (c.as_slice.ensures.value ∙ c.in_ok-branches.ensures.ok) i)

pub returns-in_err-branches-clause-change : goal.returns-in_err-branches-clause-change
returns-in_err-branches-clause-change g c = whole_refl g.D.HasMeaning.meaning c.args.ctx.now.tree c.args.op c.requires.live c.requires.linked

pub returns-in_err-branches-clause-refused : goal.returns-in_err-branches-clause-refused
returns-in_err-branches-clause-refused g c = on_err _ c.from_residual.result (c.args.ctx.now.tree, Nothing, same_refl c.args.ctx.now.tree)

pub returns-in_err-ends-clause-change : goal.returns-in_err-ends-clause-change
returns-in_err-ends-clause-change g c = whole_refl g.D.HasMeaning.meaning c.args.ctx.now.tree c.args.op c.requires.live c.requires.linked

pub returns-in_err-ends-clause-refused : goal.returns-in_err-ends-clause-refused
returns-in_err-ends-clause-refused g c = on_err _ c.from_residual-in_err-ends.result (c.args.ctx.now.tree, Nothing, same_refl c.args.ctx.now.tree)
