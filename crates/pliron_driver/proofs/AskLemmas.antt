-- What words ask for.
use Rattle.std.proofs.Common.{◌≡◌, ℕ, Bool, List, [], ◌∷◌, Option, Some, None, IfSome, Result, Ok, Err, IfOk, length, get_or, sym, ap, arith}
use Rattle.pliron_pass_pipeline.specs.Pipelines.{IsPipelineOf}
use Rattle.pliron_pass_pipeline.specs.PassSteps.{PassPipelineOf, step_name}
use Rattle.pliron_driver.specs.Plans.{IsPlan}
use Rattle.pliron_driver.specs.Asked.{IsPlanned}

-- a pipeline of the names that a word plans is planned by the word
pub planned : {D E L B K X : Type 0} (word : List ℕ) (runs : Option ℕ) (nested : Bool) (names : List (List ℕ)) (r : Result (Option (PassPipelineOf D E L B K)) X) → IsPlan word runs nested names → IfOk r (λ found. IfSome found (λ pipeline. IsPipelineOf step_name runs nested names pipeline)) → IfOk r (λ found. IfSome found (λ pipeline. IsPlanned word pipeline))
planned word runs nested names (Ok (Some pipeline)) plan is = record { runs = runs; nested = nested; names = names; plan = plan; planned = is }
planned word runs nested names (Ok None) plan is = tt
planned word runs nested names (Err e) plan is = tt

-- a list of one item
pub only_item : {A : Type 0} (xs : List A) (x : A) → length xs ≡ 1 → x ≡ get_or xs 0 x → xs ≡ x ∷ []
only_item [] x e at = absurd (omega arith)
only_item (y ∷ []) x e at = ap (λ z. z ∷ []) (sym at)
only_item (y ∷ z ∷ zs) x e at = absurd (omega arith)
