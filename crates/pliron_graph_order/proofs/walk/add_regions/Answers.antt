use Rattle.std.proofs.Common.{◌≡◌, ◌≤◌, ◌+◌, ◌++◌, ◌∷◌, [], take, length, sym, subst, inl, inr, ⊎_elim, refl, arith}
use Rattle.std.proofs.lemmas.List.{take_all}
use Rattle.pliron_core.specs.Tree.{In, regions_of}
use Rattle.pliron_core.proofs.HoldingLemmas.{in_slice}
use Rattle.pliron_core.proofs.ListLemmas.{In-cases}
use Rattle.pliron_graph_order.specs.Numbering.{tables_of}
use Rattle.pliron_graph_order.proofs.NumberLemmas.{waiting_on, region_grows, region_numbering, regions_kept, grows_both, take_next}
use Rattle.pliron_graph_order.proofs.walk.add_regions.Goals as goal

pub loop-i-preserved : goal.loop-i-preserved
loop-i-preserved c =
    let t = c.args.ctx.now.tree in
    let first = tables_of c.args.numbering.now in
    let old = tables_of c.loop-i.numbering in
    let new = tables_of c.add_region.new.self in
    let r = c.get_region.result in
    let here : In r (regions_of t c.args.op) = in_slice (regions_of t c.args.op) c.loop-i.i r c.get_region.ensures.region in
    let waits = waiting_on t first old c.loop-i.invariant.grows c.requires.numbered.counted c.requires.numbered.parents r c.args.above (c.requires.waits r here) in
    let added = c.in_ok-add_region.ensures.added in
    let grows = region_grows t old new r c.args.above c.loop-i.invariant.numbered waits added in
    record {
      numbered = region_numbering t old new r c.args.above c.loop-i.invariant.numbered waits added;
      grows = grows_both first old new c.loop-i.invariant.grows grows;
      all = λ q i. ⊎_elim
          (λ j. regions_kept old new grows q (c.loop-i.invariant.all q j))
          (λ j. ⊎_elim (λ e. subst (λ z. In z new.regions) (sym e) added.0) (λ z. absurd z) j)
          (In-cases q (take c.loop-i.i (regions_of t c.args.op)) (r ∷ []) (subst (In q) (take_next (regions_of t c.args.op) c.loop-i.i r c.get_region.ensures.region) i));
    }

pub returns-clause-all : goal.returns-clause-all
returns-clause-all c = λ q i.
    let all : length (regions_of c.args.ctx.now.tree c.args.op) ≤ c.loop-i.i = omega (arith, c.loop-i-test.false, c.num_region-i-end.ensures) in
    c.loop-i.invariant.all q (subst (In q) (sym (take_all c.loop-i.i (regions_of c.args.ctx.now.tree c.args.op) all)) i)
