use Rattle.std.proofs.Common.{◌≡◌, ◌∙◌, length, take, refl, sym, ap, subst, arith, Some, slice_get, get_or}
use Rattle.std.proofs.lemmas.Option.{slice_get_read, same_Some}
use Rattle.pliron_core.specs.Lists.{In}
use Rattle.pliron_core.specs.Tree.{IsDefined, operands_of}
use Rattle.pliron_core.specs.Writes.{after_replacing}
use Rattle.pliron_laws.proofs.MaterialisedLemmas.{defined_after, unused_after, replaced_more, status_after}
use Rattle.pliron_laws.proofs.materialised_constants.hand_over_all.Goals as goal

pub hand_over-requires-clause-old : goal.hand_over-requires-clause-old
hand_over-requires-clause-old g c =
    let made = c.args.made.now in
    let at : slice_get made c.loop-i.i ≡ Some c.index-made-i.result = slice_get_read made (length made) c.loop-i.i c.index-made-i.result refl c.loop-i-test.true c.index-made-i.is in
    subst (λ s. IsDefined c.loop-i.ctx.tree s.old) c.index-made-i.is (defined_after (take c.loop-i.i made) c.args.ctx.now.tree c.loop-i.ctx.tree c.index-made-i.result.old c.loop-i.invariant.tree (c.requires.defined c.loop-i.i c.index-made-i.result at).0)

pub hand_over-requires-clause-new : goal.hand_over-requires-clause-new
hand_over-requires-clause-new g c =
    let made = c.args.made.now in
    let at : slice_get made c.loop-i.i ≡ Some c.index-made-i-in-loop-i.result = slice_get_read made (length made) c.loop-i.i c.index-made-i-in-loop-i.result refl c.loop-i-test.true c.index-made-i-in-loop-i.is in
    subst (λ s. IsDefined c.loop-i.ctx.tree s.new) c.index-made-i-in-loop-i.is (defined_after (take c.loop-i.i made) c.args.ctx.now.tree c.loop-i.ctx.tree c.index-made-i-in-loop-i.result.new c.loop-i.invariant.tree (c.requires.defined c.loop-i.i c.index-made-i-in-loop-i.result at).1)

pub hand_over-requires-clause-unused : goal.hand_over-requires-clause-unused
hand_over-requires-clause-unused g c = λ k i.
    let made = c.args.made.now in
    let at : slice_get made c.loop-i.i ≡ Some c.index-made-i-in-loop-i.result = slice_get_read made (length made) c.loop-i.i c.index-made-i-in-loop-i.result refl c.loop-i-test.true c.index-made-i-in-loop-i.is in
    let new = c.index-made-i-in-loop-i.result.new in
    let lt = unused_after c.requires.base made c.args.ctx.now.tree c.loop-i.i c.requires.operands c.requires.numbered k new (subst (λ z. In new (operands_of z k)) c.loop-i.invariant.tree (subst (λ s. In s.new (operands_of c.loop-i.ctx.tree k)) (sym c.index-made-i-in-loop-i.is) i)) in
    let e = c.requires.numbered c.loop-i.i c.index-made-i-in-loop-i.result at in
    omega (arith, lt, e)

pub loop-i-preserved : goal.loop-i-preserved
loop-i-preserved g c =
    let made = c.args.made.now in
    let one = c.index-made-i.result in
    let two = c.index-made-i-in-loop-i.result in
    let at : slice_get made c.loop-i.i ≡ Some one = slice_get_read made (length made) c.loop-i.i one refl c.loop-i-test.true c.index-made-i.is in
    let again : slice_get made c.loop-i.i ≡ Some two = slice_get_read made (length made) c.loop-i.i two refl c.loop-i-test.true c.index-made-i-in-loop-i.is in
    let same : two ≡ one = same_Some two one (sym again ∙ at) in
    record {
      status = status_after made c.loop-i.i one at;
      tree = replaced_more made c.args.ctx.now.tree c.loop-i.ctx.tree c.hand_over.new.ctx.tree c.loop-i.i one at c.loop-i.invariant.tree (c.hand_over.ensures.replaced ∙ ap (λ s. after_replacing c.loop-i.ctx.tree s.old (get_or made c.loop-i.i two).new) (sym c.index-made-i.is) ∙ ap (λ s. after_replacing c.loop-i.ctx.tree one.old s.new) (sym c.index-made-i-in-loop-i.is ∙ same));
      point = c.hand_over.ensures.point ∙ c.loop-i.invariant.point;
    }
