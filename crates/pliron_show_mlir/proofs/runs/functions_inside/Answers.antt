use Rattle.std.proofs.Common.{◌≡◌, ◌∙◌, ap, sym, subst, refl, arith, rules, map, get_or}
use Rattle.std.specs.List.{All}
use Rattle.pliron_show_mlir.specs.Functions.{IsRunnableAt}
use Rattle.pliron_show_mlir.proofs.FunctionLemmas.{function_more}
use Rattle.pliron_show_mlir.proofs.runs.functions_inside.Goals.{then-is_live+then-is_function+in_ok-name+in_ok-push, else-is_live}
use Rattle.pliron_show_mlir.proofs.runs.functions_inside.Goals as goal

pub loop-index-preserved : goal.loop-index-preserved
loop-index-preserved c =
    let op-is : c.index-op.result.now ≡ get_or c.in_ok-operations.operations.items c.loop-index.index c.index-op.result.now = search rules in
    elim c.if-is_live.branch [
      | then-is_live+then-is_function+in_ok-name+in_ok-push w ↦ function_more c.args.ctx.now.tree c.args.root c.in-Some.block c.index-op.result.now c.loop-index.index c.in_ok-operations.operations.items
          (λ function. function.index) c.loop-index.functions.items c.if-is_live.functions.items _ (sym c.in-Some.ensures.block) c.in_ok-operations.ensures (omega arith) op-is (w.if-is_function.ensures refl) refl
          (ap (λ fs. fs.items) w.functions-is ∙ w.in_ok-push.ensures.items) c.loop-index.invariant
      | else-is_live w ↦ subst (λ fs. All (IsRunnableAt c.args.ctx.now.tree c.args.root) (map (λ function. function.index) fs.items)) (sym w.functions-is) c.loop-index.invariant
    ]
