use Rattle.std.proofs.Common.{inr, ⊎_elim, slice_get, sym, ap, subst, ◌∙◌, arith}
use Rattle.std.proofs.lemmas.Option.{slice_get_within}
use Rattle.pliron_core.specs.Tree.{In, operands_of}
use Rattle.pliron_core.proofs.HoldingLemmas.{some_is, slice_in, in_slice}
use Rattle.pliron_opt_dce.proofs.ReadyTests.{less_or_same}
use Rattle.pliron_opt_dce.proofs.erase.push_operands.Goals as goal

pub loop-i-preserved : goal.loop-i-preserved
loop-i-preserved c =
    let more = c.in_ok-push_unless_last.ensures in
    record {
      kept = λ v i. more.kept v (c.loop-i.invariant.kept v i);
      added = λ j v l e. less_or_same c.loop-i.i j l (λ lt. more.kept v (c.loop-i.invariant.added j v lt e)) (λ s. subst (λ z. In z c.push_unless_last.new.values.items) (some_is (sym c.get_operand.ensures.operand ∙ ap (slice_get (operands_of c.args.ctx.now.tree c.args.op)) (sym s) ∙ e)) more.there);
      only = λ v i. ⊎_elim (λ j. c.loop-i.invariant.only v j) (λ e. inr (subst (λ z. In z (operands_of c.args.ctx.now.tree c.args.op)) (sym e) (in_slice (operands_of c.args.ctx.now.tree c.args.op) c.loop-i.i c.get_operand.result c.get_operand.ensures.operand))) (more.only v i);
    }

pub returns-clause-only : goal.returns-clause-only
returns-clause-only c = λ v i. c.loop-i.invariant.only v i

pub returns-clause-adds : goal.returns-clause-adds
returns-clause-adds c = record {
  kept = λ v i. c.loop-i.invariant.kept v i;
  added = λ v i.
      let p = slice_in (operands_of c.args.ctx.now.tree c.args.op) v i in
      c.loop-i.invariant.added p.0 v (let lt = slice_get_within (operands_of c.args.ctx.now.tree c.args.op) p.0 v p.1 in let e2 = c.num_operand-i-end.ensures in let e3 = c.loop-i-test.false in omega (arith, lt, e2, e3)) p.1;
}
