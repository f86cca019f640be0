use Rattle.std.proofs.Common.{slice_get, sym, ap, subst, ◌∙◌, arith}
use Rattle.std.proofs.lemmas.Option.{slice_get_within}
use Rattle.pliron_core.specs.Tree.{In, arguments_of}
use Rattle.pliron_core.proofs.HoldingLemmas.{some_is, slice_in}
use Rattle.pliron_opt_dce.specs.declared.worklist.DeadCandidate.TheVariants.{Argument}
use Rattle.pliron_opt_dce.specs.Dead.{Arg}
use Rattle.pliron_opt_dce.specs.Readiness.{Among}
use Rattle.pliron_opt_dce.specs.Worklist.{items_of}
use Rattle.pliron_opt_dce.proofs.ReadyTests.{less_or_same}
use Rattle.pliron_opt_dce.proofs.WorkLemmas.{among_front, among_last}
use Rattle.pliron_opt_dce.proofs.candidates.push_arguments.Goals as goal

pub loop-i-preserved : goal.loop-i-preserved
loop-i-preserved c =
    let same = c.in_ok-push.ensures.items in
    record {
      kept = λ x i. subst (λ z. Among x (items_of z)) (sym same) (among_front x _ _ (c.loop-i.invariant.kept x i));
      added = λ j v l e. less_or_same c.loop-i.i j l
          (λ lt. subst (λ z. Among (Arg v) (items_of z)) (sym same) (among_front (Arg v) _ _ (c.loop-i.invariant.added j v lt e)))
          (λ s. subst (λ z. Among (Arg z) (items_of c.push.new.self.items)) (some_is (sym c.get_argument.ensures.argument ∙ ap (slice_get (arguments_of c.args.ctx.now.tree c.args.block)) (sym s) ∙ e)) (subst (λ z. Among (Arg c.get_argument.result) (items_of z)) (sym same) (among_last _ (Argument c.get_argument.result))));
    }

pub returns : goal.returns
returns c = record {
  kept = λ x i. c.loop-i.invariant.kept x i;
  added = λ b v e i.
      let xs = arguments_of c.args.ctx.now.tree c.args.block in
      let p = slice_in xs v (subst (λ z. In v (arguments_of c.args.ctx.now.tree z)) e i) in
      c.loop-i.invariant.added p.0 v (let lt = slice_get_within xs p.0 v p.1 in let e2 = c.num_argument-i-end.ensures in let e3 = c.loop-i-test.false in omega (arith, lt, e2, e3)) p.1;
}
