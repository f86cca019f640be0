-- What words ask for.
use Rattle.std.proofs.Common.{◌≡◌, ℕ, Bool, true, false, List, [], length, nat_eq, Option, None, Result, Ok, Err, IfOk, map, sym, subst, ◌∙◌}
use Rattle.std.proofs.lemmas.Bool.{eqb-true}
use Rattle.std.proofs.lemmas.List.{nil_from_length}
use Rattle.pliron_driver.specs.PipelineTexts.{Plans}
use Rattle.pliron_driver_modules.specs.Outcomes.{AsksFor, AsksFor.Nothing, AsksFor.Passes}

-- an empty word asks for nothing
pub asks_nothing : {A : Type 0} (f : A → List ℕ) (word : List ℕ) (items : List A) (is_empty : Bool) → is_empty ≡ nat_eq (length word) 0 → is_empty ≡ true → items ≡ [] → AsksFor word None false (map f items)
asks_nothing f word items is_empty length_is_0 empty none =
    subst (λ xs. AsksFor word None false (map f xs)) (sym none) (Nothing (nil_from_length word (eqb-true (length word) 0 (sym length_is_0 ∙ empty))))

-- a word that plans passes asks for these
pub asks_passes : {P E : Type 0} (word : List ℕ) (runs : P → Option ℕ) (nested : P → Bool) (names : P → List (List ℕ)) (r : Result P E) → IfOk r (λ plan. Plans true word (runs plan) (nested plan) (names plan)) → IfOk r (λ plan. AsksFor word (runs plan) (nested plan) (names plan))
asks_passes word runs nested names (Ok plan) plans = Passes (runs plan) (nested plan) (names plan) plans
asks_passes word runs nested names (Err e) plans = tt
