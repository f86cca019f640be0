use Rattle.std.proofs.Common.{sym, ap, ◌∙◌, Some}
use Rattle.pliron_core.proofs.EdgeLemmas.{same_key}
use Rattle.pliron_core.proofs.NextLemmas.{keys_differ}
use Rattle.pliron_core.specs.Tree.{body_of}
use Rattle.pliron_opt_edges.proofs.WalkLemmas.{single, other_last}
use Rattle.pliron_opt_edges.proofs.chains.only_operation.Goals as goal

pub returns-then-eq-clause-found : goal.returns-then-eq-clause-found
returns-then-eq-clause-found c =
    let t = c.args.ctx.now.tree in
    let same = same_key c.in-Some.first c.in-Some-get_tail.last (sym c.if-eq.true ∙ c.eq.ensures) in
    single (body_of t c.args.block) c.in-Some.first (sym c.in-Some.ensures.first) (sym c.in-Some-get_tail.ensures.last ∙ ap Some (sym same)) (c.well_formed-2.ensures.tree.bodies.distinct c.args.block)

pub returns-clause-found : goal.returns-clause-found
returns-clause-found c =
    other_last (body_of c.args.ctx.now.tree c.args.block) c.in-Some.first c.in-Some-get_tail.last (sym c.in-Some.ensures.first) (sym c.in-Some-get_tail.ensures.last) (keys_differ c.in-Some.first c.in-Some-get_tail.last (sym c.if-eq.false ∙ c.eq.ensures))
