use Rattle.std.proofs.Common.{slice_get, refl, sym, ap, ◌∙◌, subst, arith}
use Rattle.pliron_core.proofs.HoldingLemmas.{some_is, in_slice, slice_in}
use Rattle.std.proofs.lemmas.Option.{slice_get_within}
use Rattle.pliron_opt_dce.proofs.ReadyTests.{no_use, some_use, no_false, less_or_same}
use Rattle.pliron_core.specs.Tree.{In, operands_of, results_of}
use Rattle.pliron_opt_dce.proofs.ready.is_unused.Goals as goal

pub returns-then-num_use-ne0 : goal.returns-then-num_use-ne0
returns-then-num_use-ne0 c = no_false (λ h.
    let u = some_use c.args.ctx.now.tree c.args.ctx.now.value_uses c.get_result.result c.well_formed-2.ensures.uses.value_uses (λ e. grind (arith, c.num_use.ensures, c.if-num_use-ne0.true, e)) in
    h c.get_result.result u.0 (in_slice (results_of c.args.ctx.now.tree c.args.op) c.loop-i.i c.get_result.result c.get_result.ensures.value) u.1)

pub loop-i-preserved : goal.loop-i-preserved
loop-i-preserved c j v user l e i = less_or_same c.loop-i.i j l (λ lt. c.loop-i.invariant j v user lt e i) (λ s. no_use c.args.ctx.now.tree c.args.ctx.now.value_uses c.get_result.result c.well_formed-2.ensures.uses.value_uses (grind (arith, c.num_use.ensures, c.if-num_use-ne0.false)) user (subst (λ z. In z (operands_of c.args.ctx.now.tree user)) (some_is (sym e ∙ ap (slice_get (results_of c.args.ctx.now.tree c.args.op)) s ∙ c.get_result.ensures.value)) i))

pub returns : goal.returns
returns c = ((λ e v user i j. let p = slice_in (results_of c.args.ctx.now.tree c.args.op) v i in c.loop-i.invariant p.0 v user (let lt = slice_get_within (results_of c.args.ctx.now.tree c.args.op) p.0 v p.1 in let e2 = c.num_result-i-end.ensures in let e3 = c.loop-i-test.false in omega (arith, lt, e2, e3)) p.1 j), (λ h. refl))
