use Rattle.std.proofs.Common.{⊎_elim, subst, arith}
use Rattle.std.proofs.lemmas.Result.{on_ok_weaker}
use Rattle.pliron_core.specs.Tree.{In}
use Rattle.pliron_opt_dce.proofs.LeafLemmas.{leaf_operands}
use Rattle.pliron_opt_dce.proofs.erase.list_operands_within.Goals as goal

pub returns-then-num_region-eq0-clause-all : goal.returns-then-num_region-eq0-clause-all
returns-then-num_region-eq0-clause-all c = on_ok_weaker c.push_operands.result (λ adds. leaf_operands c.args.ctx.now.tree c.well_formed-2.ensures.tree c.args.op (omega (arith, c.num_region.ensures, c.if-num_region-eq0.true)) c.clear.new.self.items c.push_operands.new.values.items adds) c.push_operands.ensures.adds

pub returns-then-num_region-eq0-clause-leaf : goal.returns-then-num_region-eq0-clause-leaf
returns-then-num_region-eq0-clause-leaf c = on_ok_weaker c.push_operands.result (λ only few v i. ⊎_elim (λ j. absurd (subst (In v) c.clear.ensures.items j)) (λ j. j) (only v i)) c.push_operands.ensures.only

pub returns-else-num_region-eq0-clause-leaf : goal.returns-else-num_region-eq0-clause-leaf
returns-else-num_region-eq0-clause-leaf c = on_ok_weaker c.push_operands_within.result (λ all few v i. absurd (omega (arith, c.num_region.ensures, c.if-num_region-eq0.false, few))) c.push_operands_within.ensures
