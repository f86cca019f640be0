use Rattle.pliron_theory_llvm.proofs.Refining.{kept_refines, refined_composes, swept_refined, erased_refined, renamed_refined}
use Rattle.pliron_theory_llvm.proofs.llvm_refines.Goals as goal

pub returns : goal.returns
returns c = record {
  kept = λ l t u mono a. kept_refines l mono t u a;
  transitive = λ l t u v mono a b. refined_composes l mono t u v a b;
  swept = λ l t u dead dead_block mono w v h gone longer pure. swept_refined l mono t u dead dead_block w v h gone longer pure;
  erased = λ l t op mono w v live contained pure. erased_refined l mono t op w v live contained pure;
  renamed = λ l t u rename mono h same uses less. renamed_refined l mono t u rename h same uses less;
}
