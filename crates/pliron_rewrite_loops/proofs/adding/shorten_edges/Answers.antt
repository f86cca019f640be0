use Rattle.std.proofs.Common.{◌≡◌, ℕ, ◌+◌, ◌≤◌, drop, length, Some, None, IsSome, slice_get, slice_index_or, refl, sym, ap, ◌∙◌, subst, arith}
use Rattle.std.proofs.lemmas.Option.{slice_get_within}
use Rattle.pliron_core.specs.declared.uses.Use.{Use}
use Rattle.pliron_core.specs.Tree.{Tree, uses_of, successors_of}
use Rattle.pliron_rewrite_loops.specs.Lengthening.{EdgesLengthened}
use Rattle.pliron_rewrite_loops.proofs.Longer.{framed_one, same_block_parents}
use Rattle.pliron_rewrite_loops.proofs.EdgeSteps.{none_behind, is_branch, has_place, shortened_back, first_edge}
use Rattle.pliron_rewrite_loops.proofs.adding.shorten_edges.Goals as goal

pub loop-i-init : goal.loop-i-init
loop-i-init g c = record { some = c.requires.lengthened; longer = λ value t l. l; same = refl; parents = refl; within = c.requires.from }

pub get_use-op-requires-clause-live : goal.get_use-op-requires-clause-live
get_use-op-requires-clause-live g c = subst (λ z. IsSome (slice_index_or z c.args.block None)) (sym c.loop-i.invariant.parents) c.requires.block

pub remove_successor_operand-requires-clause-branch : goal.remove_successor_operand-requires-clause-branch
remove_successor_operand-requires-clause-branch g c =
    let m = g.D.HasMeaning.meaning in
    let uses = uses_of c.args.ctx.now.block_uses c.args.block in
    let e : Use = record { user = c.get_use-op.result.0; place = c.get_use-op.result.1 } in
    let at : slice_get uses c.loop-i.i ≡ Some e = ap (λ z. slice_get (uses_of z c.args.block) c.loop-i.i) (sym c.loop-i.invariant.same) ∙ c.get_use-op.ensures.listed in
    let s = c.loop-i.invariant.some in
    let f = first_edge m g.D.Dialect.shortened c.args.count s.0 uses c.loop-i.i e s.1 c.loop-i.ctx.tree at s.2 in
    is_branch m _ _ g.D.Dialect.shortened g.met.D.Dialect.forwards_operands c.args.count s.0 e f.0 c.loop-i.ctx.tree f.2

pub remove_successor_operand-requires-clause-edge : goal.remove_successor_operand-requires-clause-edge
remove_successor_operand-requires-clause-edge g c =
    slice_get_within (successors_of c.loop-i.ctx.tree c.get_use-op.result.0) c.get_use-op.result.1 c.args.block
    (c.well_formed-in-loop-i.ensures.uses.block_uses.listed c.args.block c.loop-i.i (record { user = c.get_use-op.result.0; place = c.get_use-op.result.1 }) c.get_use-op.ensures.listed)

pub remove_successor_operand-requires-clause-place : goal.remove_successor_operand-requires-clause-place
remove_successor_operand-requires-clause-place g c =
    let m = g.D.HasMeaning.meaning in
    let uses = uses_of c.args.ctx.now.block_uses c.args.block in
    let e : Use = record { user = c.get_use-op.result.0; place = c.get_use-op.result.1 } in
    let at : slice_get uses c.loop-i.i ≡ Some e = ap (λ z. slice_get (uses_of z c.args.block) c.loop-i.i) (sym c.loop-i.invariant.same) ∙ c.get_use-op.ensures.listed in
    let s = c.loop-i.invariant.some in
    let f = first_edge m g.D.Dialect.shortened c.args.count s.0 uses c.loop-i.i e s.1 c.loop-i.ctx.tree at s.2 in
    has_place m _ _ g.D.Dialect.shortened g.met.D.Dialect.forwards_operands c.args.count s.0 e f.0 c.loop-i.ctx.tree f.2

pub loop-i-preserved : goal.loop-i-preserved
loop-i-preserved g c =
    let m = g.D.HasMeaning.meaning in
    let sh = g.D.Dialect.shortened in
    let uses = uses_of c.args.ctx.now.block_uses c.args.block in
    let e : Use = record { user = c.get_use-op.result.0; place = c.get_use-op.result.1 } in
    let at : slice_get uses c.loop-i.i ≡ Some e = ap (λ z. slice_get (uses_of z c.args.block) c.loop-i.i) (sym c.loop-i.invariant.same) ∙ c.get_use-op.ensures.listed in
    let next = c.remove_successor_operand.new.ctx.tree in
    let step = λ (value : ℕ) (t : Tree) (l : EdgesLengthened m sh c.args.count value (drop c.loop-i.i uses) t c.loop-i.ctx.tree).
    let f = first_edge m sh c.args.count value uses c.loop-i.i e t c.loop-i.ctx.tree at l in
    let back : next ≡ f.0 = shortened_back m _ _ sh g.met.D.Dialect.forwards_operands c.args.count value e f.0 c.loop-i.ctx.tree f.2 next c.remove_successor_operand.result c.remove_successor_operand.ensures.lost in
    subst (λ z. EdgesLengthened m sh c.args.count value (drop (c.loop-i.i + 1) uses) t z) (sym back) f.1 in
    let s = c.loop-i.invariant.some in
    let f = first_edge m sh c.args.count s.0 uses c.loop-i.i e s.1 c.loop-i.ctx.tree at s.2 in
    let back : next ≡ f.0 = shortened_back m _ _ sh g.met.D.Dialect.forwards_operands c.args.count s.0 e f.0 c.loop-i.ctx.tree f.2 next c.remove_successor_operand.result c.remove_successor_operand.ensures.lost in
    record {
      some = (s.0, s.1, step s.0 s.1 s.2);
      longer = λ value t l. step value t (c.loop-i.invariant.longer value t l);
      same = c.remove_successor_operand.ensures.block_uses ∙ c.loop-i.invariant.same;
      parents = ap (λ z. z.block_parents) back ∙ sym (same_block_parents f.0 c.loop-i.ctx.tree (framed_one m _ _ sh g.met.D.Dialect.forwards_operands c.args.count s.0 e f.0 c.loop-i.ctx.tree f.2)) ∙ c.loop-i.invariant.parents;
      within = let n = c.num_use-i-end.ensures in let l = c.loop-i-test.true in omega (arith, n, l);
    }

pub returns-clause-edges_back : goal.returns-clause-edges_back
returns-clause-edges_back g c = λ value t l.
    let uses = uses_of c.args.ctx.now.block_uses c.args.block in
    let le : length uses ≤ c.loop-i.i = let n = c.num_use-i-end.ensures in let l = c.loop-i-test.false in omega (arith, n, l) in
    subst (λ z. EdgesLengthened g.D.HasMeaning.meaning g.D.Dialect.shortened c.args.count value z t c.loop-i.ctx.tree) (none_behind uses c.loop-i.i le) (c.loop-i.invariant.longer value t l)
