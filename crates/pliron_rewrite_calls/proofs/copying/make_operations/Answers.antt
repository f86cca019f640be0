use Rattle.std.proofs.Common.{◌≡◌, ◌≤◌, ◌∷◌, ◌++◌, [], length, refl, sym, ap, ◌∙◌, subst, arith}
use Rattle.std.specs.List.{range_with_len}
use Rattle.std.proofs.lemmas.List.{take_all}
use Rattle.pliron_core.proofs.GrownLemmas.{range_more}
use Rattle.pliron_rewrite_calls.specs.CopySteps.{IsCopying}
use Rattle.pliron_rewrite_calls.proofs.copying.make_operations.Goals as goal

pub loop-i-init : goal.loop-i-init
loop-i-init g c =
    record { copying = c.requires.1.1.1.0; bare = c.requires.1.1.1.1; made = c.new-made.ensures.items; point = refl }

pub loop-i-preserved : goal.loop-i-preserved
loop-i-preserved g c =
    let no = length g.x.tree.operations in
    record {
      copying = c.in_ok-copy.ensures.ok;
      bare = c.in_ok-copy.ensures.bare c.loop-i.invariant.bare;
      made = c.in_ok-push.ensures.items ∙ ap (λ z. z ++ c.in_ok-copy.copy ∷ []) c.loop-i.invariant.made ∙ ap (λ z. range_with_len no c.loop-i.i ++ z ∷ []) c.in_ok-copy.ensures.key ∙ sym (range_more no c.loop-i.i);
      point = c.in_ok-copy.ensures.point ∙ c.loop-i.invariant.point;
    }

pub returns-clause-ok : goal.returns-clause-ok
returns-clause-ok g c =
    let all : length c.args.operations.now ≤ c.loop-i.i = omega arith in
    subst (λ z. IsCopying g.x c.loop-i.ctx.tree g.x.blocks z c.loop-i.copies) (take_all c.loop-i.i c.args.operations.now all) c.loop-i.invariant.copying

pub returns-clause-range : goal.returns-clause-range
returns-clause-range g c =
    let n : c.loop-i.i ≡ length c.args.operations.now = omega arith in
    c.loop-i.invariant.made ∙ ap (range_with_len (length g.x.tree.operations)) n

pub returns-clause-grown : goal.returns-clause-grown
returns-clause-grown g c =
    c.loop-i.invariant.copying.made.grown
