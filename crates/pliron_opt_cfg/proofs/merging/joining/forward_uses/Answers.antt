use Rattle.std.proofs.Common.{◌≡◌, ◌<◌, length, take, Some, sym, subst, ap, ◌∙◌, arith, IsSome, slice_get, ℕ, suc, ◌+◌}
use Rattle.std.proofs.lemmas.Option.{slice_get-get_or}
use Rattle.pliron_core.specs.Tree.{Tree, arguments_of, IsDefined}
use Rattle.pliron_core.specs.Writes.{after_replacing}
use Rattle.pliron_core.proofs.HoldingLemmas.{in_slice}
use Rattle.pliron_rewrite_blocks.specs.Pairs.{forwarded_uses}
use Rattle.pliron_opt_cfg.proofs.PairLemmas.{values_defined, way_of_pair}
use Rattle.pliron_opt_cfg.proofs.JoinLemmas.{forwarded_arguments, forwarded_blocks, forwarded_defined, forwarded_more, second_is}
use Rattle.pliron_opt_cfg.proofs.merging.joining.forward_uses.Goals as goal

add_suc : (n : ℕ) → suc n ≡ n + 1
add_suc n = omega arith

pub get_argument-argument-requires-clause-live : goal.get_argument-argument-requires-clause-live
get_argument-argument-requires-clause-live g c =
    let t = c.args.ctx.now.tree in
    let p = c.args.pair.now in
    subst IsSome (sym (forwarded_blocks t c.loop-i.ctx.tree (take c.loop-i.i (arguments_of t p.second)) p.values.items p.second c.loop-i.invariant)) (second_is g.D.HasMeaning.meaning t c.well_formed-2.ensures.tree p.first p.second p.jump p.values.items c.requires.pair)

pub get_argument-argument-requires-clause-index : goal.get_argument-argument-requires-clause-index
get_argument-argument-requires-clause-index g c =
    let t = c.args.ctx.now.tree in
    let p = c.args.pair.now in
    let same = ap length (forwarded_arguments t c.loop-i.ctx.tree (take c.loop-i.i (arguments_of t p.second)) p.values.items p.second c.loop-i.invariant) in
    let counts = c.requires.pair.counts in
    let ok = p.values.ok.0 in
    omega (arith, same, counts, ok, c.loop-i-test.true, c.len-i-end.ensures)

pub replace_value_uses_with-requires-clause-new : goal.replace_value_uses_with-requires-clause-new
replace_value_uses_with-requires-clause-new g c =
    let m = g.D.HasMeaning.meaning in
    let t = c.args.ctx.now.tree in
    let p = c.args.pair.now in
    let lt : c.loop-i.i < length p.values.items = omega (arith, p.values.ok.0, c.loop-i-test.true, c.len-i-end.ensures) in
    let at = slice_get-get_or p.values.items c.loop-i.i c.index.result.now lt ∙ ap Some (sym c.index.ensures) in
    let liveness = values_defined m t c.well_formed-2.ensures.tree p.first p.second p.jump p.values.items (way_of_pair m t p.first p.second p.jump p.values.items c.requires.pair) c.requires.pair.forwarded c.index.result.now (in_slice p.values.items c.loop-i.i c.index.result.now at) in
    subst (λ (z : Tree). IsDefined z c.index.result.now) (sym c.loop-i.invariant) (forwarded_defined t (take c.loop-i.i (arguments_of t p.second)) p.values.items c.index.result.now liveness)

pub loop-i-preserved : goal.loop-i-preserved
loop-i-preserved g c =
    let t = c.args.ctx.now.tree in
    let p = c.args.pair.now in
    let ps = arguments_of t p.second in
    let v = c.index.result.now in
    let q = c.get_argument-argument.result in
    let lt : c.loop-i.i < length p.values.items = omega (arith, p.values.ok.0, c.loop-i-test.true, c.len-i-end.ensures) in
    let at = slice_get-get_or p.values.items c.loop-i.i v lt ∙ ap Some (sym c.index.ensures) in
    let here = ap (λ l. slice_get l c.loop-i.i) (sym (forwarded_arguments t c.loop-i.ctx.tree (take c.loop-i.i ps) p.values.items p.second c.loop-i.invariant)) ∙ c.get_argument-argument.ensures.argument in
    c.in_ok-replace_value_uses_with.ensures.ok ∙ ap (λ (z : Tree). after_replacing z q v) c.loop-i.invariant ∙ forwarded_more t ps p.values.items c.loop-i.i q v here at ∙ ap (λ n. forwarded_uses t (take n ps) p.values.items) (add_suc c.loop-i.i)
