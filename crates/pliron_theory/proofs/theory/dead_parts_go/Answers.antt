use Rattle.std.proofs.Common.{inr}
use Rattle.pliron_laws.proofs.Records.{op_shows}
use Rattle.pliron_theory.proofs.SweptKeeps.{swept_keeps, gives_now}
use Rattle.pliron_theory.proofs.ErasedKeeps.{erased_keeps}
use Rattle.pliron_theory.proofs.theory.dead_parts_go.Goals as goal

pub returns : goal.returns
returns c = record {
  swept = swept_keeps;
  erased = λ m side_effects t op counts free w w' live contained none. erased_keeps t op w live contained m w' (λ root f i. gives_now m side_effects counts free t op (f.linked.admitted op (inr i)) (λ o e. none o.head (op_shows t op o e).head));
}
