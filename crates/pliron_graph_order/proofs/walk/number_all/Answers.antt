use Rattle.std.proofs.Common.{◌≡◌, ◌∙◌, ℕ, ap, sym, subst}
use Rattle.pliron_core.specs.Tree.{In, regions_of}
use Rattle.pliron_graph_order.specs.Numbering.{tables_of}
use Rattle.pliron_graph_order.specs.Seen.{IsSeen}
use Rattle.pliron_graph_order.proofs.NumberLemmas.{regions_kept}
use Rattle.pliron_graph_order.proofs.StepLemmas.{start_waits, all_seen}
use Rattle.pliron_graph_order.proofs.walk.number_all.Goals as goal

pub add_regions-requires-clause-waits : goal.add_regions-requires-clause-waits
add_regions-requires-clause-waits c = start_waits c.args.ctx.now.tree c.well_formed-2.ensures.tree c.args.root (tables_of c.in_ok-numbering.numbering) c.in_ok-numbering.ensures.start c.requires.edges

pub returns-clause-all : goal.returns-clause-all
returns-clause-all c =
    let t = c.args.ctx.now.tree in
    let mid = tables_of c.add_regions.new.numbering in
    let n = tables_of c.add_all.new.numbering in
    let root : n.root ≡ c.args.root = c.in_ok-add_all.ensures.grows.root ∙ c.in_ok-add_regions.ensures.grows.root ∙ ap (λ z. z.root) c.in_ok-numbering.ensures.start in
    let starts : (q : ℕ) → In q (regions_of t n.root) → In q n.regions = λ q i. regions_kept mid n c.in_ok-add_all.ensures.grows q (c.in_ok-add_regions.ensures.all q (subst (λ z. In q (regions_of t z)) root i)) in
    λ k s. all_seen t n starts c.in_ok-add_all.ensures.done k (subst (λ z. IsSeen t z k) (sym root) s)
