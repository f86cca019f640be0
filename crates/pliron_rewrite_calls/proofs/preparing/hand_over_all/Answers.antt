use Rattle.std.proofs.Common.{◌≡◌, ⊎_elim, ◌<◌, ◌≤◌, ℕ, suc, ◌+◌, length, take, Some, slice_get, refl, sym, ap, ◌∙◌, subst, arith}
use Rattle.std.proofs.lemmas.List.{take_all}
use Rattle.std.proofs.lemmas.Option.{slice_get_read}
use Rattle.pliron_core.specs.Tree.{Tree, In, operands_of}
use Rattle.pliron_core.specs.Writes.{after_replacing}
use Rattle.pliron_core.proofs.HoldingLemmas.{in_slice}
use Rattle.pliron_rewrite_blocks.specs.Pairs.{forwarded_uses}
use Rattle.pliron_rewrite_calls.proofs.HandedOver.{in_replaced, all_defined, none_yet, one_more}
use Rattle.pliron_rewrite_calls.proofs.preparing.hand_over_all.Goals as goal

pub loop-i-init : goal.loop-i-init
loop-i-init g c = record {
  tree = sym (none_yet c.args.ctx.now.tree c.args.olds.now c.args.news.now);
  unused = λ n v k le e i. c.requires.unused v k (in_slice c.args.news.now n v e) i;
  point = refl;
}

pub hand_over-requires-clause-old : goal.hand_over-requires-clause-old
hand_over-requires-clause-old g c =
    let at = slice_get_read c.args.olds.now (length c.args.olds.now) c.loop-i.i c.index-olds-i.result refl (omega arith) c.index-olds-i.is in
    all_defined c.args.ctx.now.tree c.loop-i.ctx.tree (take c.loop-i.i c.args.olds.now) c.args.news.now c.index-olds-i.result c.loop-i.invariant.tree (c.requires.olds c.index-olds-i.result (in_slice c.args.olds.now c.loop-i.i c.index-olds-i.result at))

pub hand_over-requires-clause-new : goal.hand_over-requires-clause-new
hand_over-requires-clause-new g c =
    let long = c.requires.long in
    let at = slice_get_read c.args.news.now (length c.args.news.now) c.loop-i.i c.index-news-i.result refl (omega (arith, long)) c.index-news-i.is in
    all_defined c.args.ctx.now.tree c.loop-i.ctx.tree (take c.loop-i.i c.args.olds.now) c.args.news.now c.index-news-i.result c.loop-i.invariant.tree (c.requires.news c.index-news-i.result (in_slice c.args.news.now c.loop-i.i c.index-news-i.result at))

pub hand_over-requires-clause-unused : goal.hand_over-requires-clause-unused
hand_over-requires-clause-unused g c =
    let long = c.requires.long in
    let at = slice_get_read c.args.news.now (length c.args.news.now) c.loop-i.i c.index-news-i.result refl (omega (arith, long)) c.index-news-i.is in
    λ k i. c.loop-i.invariant.unused c.loop-i.i c.index-news-i.result k (omega arith) at i

pub loop-i-preserved : goal.loop-i-preserved
loop-i-preserved g c =
    let t = c.args.ctx.now.tree in
    let long = c.requires.long in
    let at = slice_get_read c.args.olds.now (length c.args.olds.now) c.loop-i.i c.index-olds-i.result refl (omega arith) c.index-olds-i.is in
    let to = slice_get_read c.args.news.now (length c.args.news.now) c.loop-i.i c.index-news-i.result refl (omega (arith, long)) c.index-news-i.is in
    let more : suc c.loop-i.i ≡ c.loop-i.i + 1 = omega arith in
    record {
      tree = c.hand_over.ensures.replaced ∙ ap (λ (z : Tree). after_replacing z c.index-olds-i.result c.index-news-i.result) c.loop-i.invariant.tree ∙ one_more t c.args.olds.now c.args.news.now c.loop-i.i c.index-olds-i.result c.index-news-i.result at to ∙ ap (λ n. forwarded_uses t (take n c.args.olds.now) c.args.news.now) more;
      unused = λ n v k le e i. ⊎_elim
          (λ o. c.loop-i.invariant.unused n v k (omega (arith, le)) e o)
          (λ q. let same = c.requires.apart c.loop-i.i n v (to ∙ ap Some (sym q)) e in absurd (omega (arith, le, same)))
          (in_replaced c.loop-i.ctx.tree c.index-olds-i.result c.index-news-i.result k v (subst (λ (z : Tree). In v (operands_of z k)) c.hand_over.ensures.replaced i));
      point = c.hand_over.ensures.point ∙ c.loop-i.invariant.point;
    }

pub returns-clause-replaced : goal.returns-clause-replaced
returns-clause-replaced g c =
    let le : length c.args.olds.now ≤ c.loop-i.i = omega arith in
    c.loop-i.invariant.tree ∙ ap (λ xs. forwarded_uses c.args.ctx.now.tree xs c.args.news.now) (take_all c.loop-i.i c.args.olds.now le)
