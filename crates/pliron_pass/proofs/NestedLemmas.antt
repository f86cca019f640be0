-- Runs on the operations of a list, gone through from its first item on.
use Rattle.std.proofs.Common.{◌≡◌, ℕ, List, [], ◌∷◌, ◌++◌, Bool, Option, Some, None, refl, sym, ap, ◌∙◌, subst, append_assoc, append-nil, Err}
use Rattle.pliron_core.specs.declared.attrs.IRStatus.{IRStatus}
use Rattle.pliron_core.specs.declared.attrs.IRStatus.TheVariants.{Unchanged}
use Rattle.pliron_core.specs.Status.{changed_by_either}
use Rattle.pliron_core.specs.Lists.{In, IsDistinct, first_of, next_in}
use Rattle.pliron_core.specs.WalkSteps.{rest_from}
use Rattle.pliron_core.proofs.NextLemmas.{rest_from-step, rest_from-first}
use Rattle.pliron_laws.specs.declared.fault.OptError.{OptError}
use Rattle.pliron_pass.specs.Stage.{Stage}
use Rattle.pliron_pass.specs.Outcome.{OutcomeOf}
use Rattle.pliron_pass.specs.Combined.{StepsTo, RunsOver, RunsOver.OverNone, RunsOver.OverNext, FailsOver, FailsOver.FailsAt}

module _ {K E P : Type 0} (eq : K → K → Bool) (inner : OutcomeOf P K E) (xs : List ℕ) where
  -- the pass ran on all before `at`
  pub record HasRun (at : Option ℕ) (p : P) (s : Stage K E) (p' : P) (s' : Stage K E) (c : IRStatus) : Type 0 where
    pub done : List ℕ
    pub split : xs ≡ done ++ rest_from at xs
    pub runs : RunsOver eq inner p s done p' s' c

first_left : (xs : List ℕ) (o : Option ℕ) → o ≡ first_of xs None → xs ≡ rest_from o xs
first_left [] o e = subst (λ z. [] ≡ rest_from z []) (sym e) refl
first_left (y ∷ ys) o e = subst (λ z. y ∷ ys ≡ rest_from z (y ∷ ys)) (sym e) (sym (rest_from-first y ys))

module _ {K E P : Type 0} (eq : K → K → Bool) (inner : OutcomeOf P K E) (xs : List ℕ) where
  pub run_none : (o : Option ℕ) (p : P) (s : Stage K E) → o ≡ first_of xs None → HasRun eq inner xs o p s p s Unchanged
  run_none o p s e = record { done = []; split = first_left xs o e; runs = OverNone }

  pub run_more : (y : ℕ) (o : Option ℕ) (p q p' : P) (s u s' : Stage K E) (c d : IRStatus) → IsDistinct xs → In y xs → o ≡ next_in y xs → HasRun eq inner xs (Some y) p s q u c → StepsTo eq inner q p' y u s' d → HasRun eq inner xs o p s p' s' (changed_by_either c d)
  run_more y o p q p' s u s' c d distinct i e h step = record {
    done = h.done ++ y ∷ [];
    split = h.split ∙ ap (λ z. h.done ++ z) (rest_from-step xs y o distinct i e) ∙ sym (append_assoc h.done (y ∷ []) (rest_from o xs));
    runs = OverNext y p' s' d h.runs step;
  }

  pub run_fails : (y : ℕ) (p q p' : P) (s u s' : Stage K E) (c : IRStatus) (e : OptError) → IsDistinct xs → In y xs → HasRun eq inner xs (Some y) p s q u c → inner q p' y u s' (Err e) → FailsOver eq inner xs p p' s s' e
  run_fails y p q p' s u s' c e distinct i h f =
      FailsAt h.done (rest_from (next_in y xs) xs) y q u c (h.split ∙ ap (λ z. h.done ++ z) (rest_from-step xs y (next_in y xs) distinct i refl)) h.runs f

  pub run_all : (p p' : P) (s s' : Stage K E) (c : IRStatus) → HasRun eq inner xs None p s p' s' c → RunsOver eq inner p s xs p' s' c
  run_all p p' s s' c h = subst (λ z. RunsOver eq inner p s z p' s' c) (sym (h.split ∙ append-nil h.done)) h.runs
