-- How commands end.
use Rattle.std.specs.Prelude.{⊤}
use Rattle.std.specs.List.{ends_with as ends_with_all}
use Rattle.std.proofs.Common.{◌≡◌, ◌⊎◌, inl, inr, ℕ, Bool, true, false, if◌then◌else◌, List, [], ◌∷◌, ◌++◌, Option, Some, IfSome, Result, Ok, Err, IfOk, sym, ap, subst, ◌∙◌}
use Rattle.pliron_core.specs.Tree.{Tree}
use Rattle.pliron_core.specs.declared.attrs.IRStatus.{IRStatus}
use Rattle.pliron_laws.specs.Datum.{Datum, Meaning}
use Rattle.pliron_laws.specs.Machine.{run, sight_after}
use Rattle.pliron_pass.specs.Headline.{DoAsBefore}
use Rattle.pliron_evaluator.specs.Evaluator.{sight_of}
use Rattle.pliron_evaluator.specs.declared.evaluator.values.Datum.{Datum as DatumValue}
use Rattle.pliron_evaluator.specs.declared.evaluator.values.Sight.{Sight}
use Rattle.pliron_show_places.proofs.LayoutLemmas.{line_ended}
use Rattle.pliron_driver.specs.Answered.{Reads, Prints, IsOptimised, status_line}
use Rattle.pliron_driver.specs.PipelineTexts.{Plans}
use Rattle.pliron_pass_pipeline.specs.Pipelines.{PipelineOf, IsPipelineOf}
use Rattle.pliron_show_commands.specs.declared.outcome.Outcome.{Outcome}
use Rattle.pliron_show_commands.specs.declared.comparing.Likeness.{Likeness}
use Rattle.pliron_show_commands.specs.declared.comparing.Likeness.TheVariants.{Same, SoFar, Different}
use Rattle.pliron_show_commands.specs.declared.comparing.Sights.{Sights}
use Rattle.pliron_show_commands.specs.Asked.{EndsByPlannedRuns, EndsByPlannedRuns.ByPasses, EndsByPlannedRuns.WithoutPasses, EndsByListWord, EndsByListWord.ByPlan, EndsByListWord.WithoutPlan, EndsByListWord.WithoutText}
use Rattle.pliron_pass_fit.specs.declared.violation.Violation.{Violation}
use Rattle.pliron_show_commands.specs.declared.checking.CheckOutcome.{CheckOutcome}
use Rattle.pliron_show_commands.specs.declared.checking.CheckOutcome.TheVariants.{Fit, FitByParts, Unfit}
use Rattle.pliron_show_commands.specs.CheckOutcome.{IsChecked, IsWholeText, IsTextOfParts, IsUnfitText, IsReportedFit, IsReportedFit.SaysWhole, IsReportedFit.SaysParts, fit_line, parts_line}
use Rattle.pliron_show_commands.specs.Compared.{AreSightsSeen, are_same_sights, are_same_so_far, effects_of_sight, is_start, is_cut_off, EndsWith, EndsCompared, so_far_line, different_line, other_line}
use Rattle.pliron_show_commands.specs.Likeness.{IsLikeness, EndsLike, EndsLike.AreAlike, EndsLike.AreUnlike, last_line, status_for}
use Rattle.pliron_show_commands.specs.Optimised.{IsLaidOut, EndsOptimised}
use Rattle.pliron_show_commands.specs.Outcomes.{EndsEither, EndsEither.Says, EndsEither.Denies, EndsEither.Fails, EndsBadly, EndsBadly.Refuses, IsRefused}
use Rattle.pliron_show_commands.specs.Reports.{FaultsWord}
use Rattle.pliron_show.specs.Faults.{Faults, TextFaults}

pub ends_by : (faults : Faults) (o : Outcome) → (o.status ≡ 0) ⊎ (o.status ≡ 3) → EndsEither faults ⊤ ⊤ o
ends_by faults o (inl e) = Says tt e
ends_by faults o (inr e) = Denies tt e

-- what was found of a text
pub whole_when : (reads : Reads) (m : Meaning) (text : List ℕ) (found : CheckOutcome) → found ≡ Fit → IsChecked reads m text found → IsWholeText reads m text
whole_when reads m text found is said = subst (IsChecked reads m text) is said

pub parts_when : (reads : Reads) (m : Meaning) (text : List ℕ) (found : CheckOutcome) → found ≡ FitByParts → IsChecked reads m text found → IsTextOfParts reads m text
parts_when reads m text found is said = subst (IsChecked reads m text) is said

pub unfit_when : (reads : Reads) (m : Meaning) (text : List ℕ) (found : CheckOutcome) (part : ℕ) (violation : Violation) → found ≡ Unfit part violation → IsChecked reads m text found → IsUnfitText reads m text
unfit_when reads m text found part violation is said =
    (part, violation, subst (IsChecked reads m text) is said)

-- how a check ends
module _ (faults : Faults) (reads : Reads) (m : Meaning) (text : List ℕ) where
  abbrev pub EndsChecked : Outcome → Type 0
  EndsChecked o = EndsEither faults (IsReportedFit reads m text o.output.items) (IsUnfitText reads m text × (o.output.items ≡ [])) o

  pub says_whole : {E : Type 0} (r : Result Outcome E) → IsWholeText reads m text → IfOk r (λ o. o.output.items ≡ fit_line) → IfOk r (λ o. o.status ≡ 0) → IfOk r EndsChecked
  says_whole (Ok o) whole line e = Says (SaysWhole whole line) e
  says_whole (Err x) whole line e = tt

  pub says_parts : {E : Type 0} (r : Result Outcome E) → IsTextOfParts reads m text → IfOk r (λ o. o.output.items ≡ parts_line) → IfOk r (λ o. o.status ≡ 0) → IfOk r EndsChecked
  says_parts (Ok o) parts line e = Says (SaysParts parts line) e
  says_parts (Err x) parts line e = tt

  pub says_unfit : (o : Outcome) → IsUnfitText reads m text → o.output.items ≡ [] → o.status ≡ 3 → EndsChecked o
  says_unfit o unfit none e = Denies (unfit, none) e

-- two runs of one tree before and after
pub are_seen : (reads : Reads) (m : Meaning) (inputs world : List Datum) (steps : ℕ) (ran : ℕ → Tree → Tree → IRStatus → Type 0) (text : List ℕ) (sights : Sights) (before after : Tree) (root : ℕ) (status : IRStatus) → reads text before root → ran root before after status → DoAsBefore m before after → sight_of sights.before ≡ sight_after (run m before root inputs world steps) → sight_of sights.after ≡ sight_after (run m after root inputs world steps) → AreSightsSeen reads m inputs world steps ran text sights
are_seen reads m inputs world steps ran text sights before after root status read runs same first second = record { before = before; after = after; root = root; status = status; read = read; runs = runs; same = same; first = first; second = second }

-- a line behind a text
pub ends_with : (line text first : List ℕ) → text ≡ first ++ line → EndsWith line text
ends_with line text first e = (first, e)

-- whether the same is seen of two runs
module _ (eq : Sight → Sight → Bool) (sights : Sights) where
  pub cut_before : (r : Bool) → r ≡ is_cut_off sights.before → r ≡ true → false ≡ are_same_sights eq sights
  cut_before r is cut = ap (λ b. if b then false else if is_cut_off sights.after then false else eq sights.before sights.after) (sym cut ∙ is)

  pub cut_after : (r s : Bool) → r ≡ is_cut_off sights.before → r ≡ false → s ≡ is_cut_off sights.after → s ≡ true → false ≡ are_same_sights eq sights
  cut_after r s is whole so cut =
      ap (λ b. if b then false else eq sights.before sights.after) (sym cut ∙ so)
      ∙ ap (λ b. if b then false else if is_cut_off sights.after then false else eq sights.before sights.after) (sym whole ∙ is)

  pub compared_whole : (r s e : Bool) → r ≡ is_cut_off sights.before → r ≡ false → s ≡ is_cut_off sights.after → s ≡ false → e ≡ eq sights.before sights.after → e ≡ are_same_sights eq sights
  compared_whole r s e is whole so other equal =
      equal
      ∙ ap (λ b. if b then false else eq sights.before sights.after) (sym other ∙ so)
      ∙ ap (λ b. if b then false else if is_cut_off sights.after then false else eq sights.before sights.after) (sym whole ∙ is)

-- whether nothing differs until a run was cut off
module _ (eq : DatumValue → DatumValue → Bool) where
  pub start_whole : (one other : Sight) (r : Bool) → r ≡ is_cut_off one → r ≡ false → false ≡ is_start eq one other
  start_whole one other r is whole = ap (λ b. if b then ends_with_all eq (effects_of_sight other) (effects_of_sight one) else false) (sym whole ∙ is)

  pub start_cut : (one other : Sight) (r e : Bool) (xs ys : List DatumValue) → r ≡ is_cut_off one → r ≡ true → e ≡ ends_with_all eq xs ys → xs ≡ effects_of_sight other → ys ≡ effects_of_sight one → e ≡ is_start eq one other
  start_cut one other r e xs ys is cut ends of_other of_one =
      ends
      ∙ ap (λ zs. ends_with_all eq zs ys) of_other
      ∙ ap (λ zs. ends_with_all eq (effects_of_sight other) zs) of_one
      ∙ ap (λ b. if b then ends_with_all eq (effects_of_sight other) (effects_of_sight one) else false) (sym cut ∙ is)

  pub so_far_first : (sights : Sights) (r : Bool) → r ≡ is_start eq sights.before sights.after → r ≡ true → true ≡ are_same_so_far eq sights
  so_far_first sights r is so = ap (λ b. if b then true else is_start eq sights.after sights.before) (sym so ∙ is)

  pub so_far_second : (sights : Sights) (r s : Bool) → r ≡ is_start eq sights.before sights.after → r ≡ false → s ≡ is_start eq sights.after sights.before → s ≡ are_same_so_far eq sights
  so_far_second sights r s is not_so second = second ∙ ap (λ b. if b then true else is_start eq sights.after sights.before) (sym not_so ∙ is)

-- the likeness of two runs, and the line that is written of it
module _ (eq : Sight → Sight → Bool) (same_datum : DatumValue → DatumValue → Bool) (sights : Sights) where
  line_of : (b : Bool) → are_same_so_far same_datum sights ≡ b → (text : List ℕ) → EndsWith (if b then so_far_line else different_line) text → EndsWith (other_line same_datum sights) text
  line_of b is text ends = subst (λ c. EndsWith (if c then so_far_line else different_line) text) (sym is) ends

  pub reported_likeness : (likeness : Likeness) (o : Outcome) → IsLikeness eq same_datum sights likeness → EndsWith (last_line likeness) o.output.items → o.status ≡ status_for likeness → EndsLike eq same_datum sights o
  reported_likeness Same o is line e = AreAlike (is, line) e
  reported_likeness SoFar o is line e = AreUnlike (is.0, line_of true is.1 o.output.items line) e
  reported_likeness Different o is line e = AreUnlike (is.0, line_of false is.1 o.output.items line) e

module _ (reads : Reads) (m : Meaning) (inputs world : List Datum) (steps : ℕ) (faults : TextFaults) (eq : Sight → Sight → Bool) (same_datum : DatumValue → DatumValue → Bool) (ran : ℕ → Tree → Tree → IRStatus → Type 0) (text : List ℕ) where
  compared_so : (sights : Sights) (o : Outcome) → AreSightsSeen reads m inputs world steps ran text sights → EndsLike eq same_datum sights o → EndsCompared reads m inputs world steps faults eq same_datum ran text o
  compared_so sights o are (AreAlike (same, line) e) = Says (record { sights = sights; seen_so = are; same_sights = same; written = line }) e
  compared_so sights o are (AreUnlike (other, line) e) = Denies (record { sights = sights; seen_so = are; other_sights = other; written = line }) e

  pub are_compared : {E : Type 0} (sights : Sights) (r : Result Outcome E) → AreSightsSeen reads m inputs world steps ran text sights → IfOk r (EndsLike eq same_datum sights) → IfOk r (EndsCompared reads m inputs world steps faults eq same_datum ran text)
  are_compared sights (Ok o) are ends = compared_so sights o are ends
  are_compared sights (Err e) are ends = tt

-- a line more
pub ended : (laid text : List ℕ) → IsLaidOut text laid → IsLaidOut text (laid ++ 10 ∷ [])
ended laid text e = line_ended laid ∙ e

module _ (reads : Reads) (prints : Prints) (faults : TextFaults) (m : Meaning) (ran : ℕ → Tree → Tree → IRStatus → Type 0) (verifies : Bool) (text : List ℕ) where
  pub is_made : (printed : List ℕ) (status : IRStatus) (o : Outcome) → IsOptimised reads prints m ran text (printed ++ status_line status) → IsLaidOut printed o.output.items → o.status ≡ 0 → EndsOptimised reads prints faults m ran verifies text o
  is_made printed status o made laid e = Says (record { printed = printed; status = status; made = made; laid = laid }) e

-- without an answer
pub ends_badly : {X : Type 0} (faults : Faults) (this that : Outcome → Type 0) (r : Result Outcome X) → IfOk r (EndsBadly faults) → IfOk r (λ o. EndsEither faults (this o) (that o) o)
ends_badly faults this that (Ok o) badly = Fails badly
ends_badly faults this that (Err e) badly = tt

-- where something was refused
pub refused_so : {X : Type 0} (faults : Faults) (this that : Outcome → Type 0) (r : Result Outcome X) → IfOk r IsRefused → IfOk r (λ o. EndsEither faults (this o) (that o) o)
refused_so faults this that (Ok o) refused = Fails (Refuses refused)
refused_so faults this that (Err e) refused = tt

module _ {P D E B K X : Type 0} (name : P → List ℕ) (EndsSo : PipelineOf P D E B K → Outcome → Type 0) where
  pub is_planned : (runs : Option ℕ) (nested : Bool) (names : List (List ℕ)) (pipeline : PipelineOf P D E B K) (found : Option (PipelineOf P D E B K)) (r : Result Outcome X) → found ≡ Some pipeline → IfSome found (IsPipelineOf name runs nested names) → IfOk r (EndsSo pipeline) → IfOk r (EndsByPlannedRuns name EndsSo runs nested names)
  is_planned runs nested names pipeline found (Ok o) is planned ends = ByPasses pipeline (subst (λ f. IfSome f (IsPipelineOf name runs nested names)) is planned) ends
  is_planned runs nested names pipeline found (Err e) is planned ends = tt

  pub no_passes : (runs : Option ℕ) (nested : Bool) (names : List (List ℕ)) (r : Result Outcome X) → IfOk r (EndsBadly FaultsWord) → IfOk r (EndsByPlannedRuns name EndsSo runs nested names)
  no_passes runs nested names (Ok o) bad = WithoutPasses bad
  no_passes runs nested names (Err e) bad = tt

  module _ (faults : Faults) (word : List ℕ) where
    pub is_asked : (runs : Option ℕ) (nested : Bool) (names : List (List ℕ)) (r : Result Outcome X) → Plans true word runs nested names → IfOk r (EndsByPlannedRuns name EndsSo runs nested names) → IfOk r (EndsByListWord name EndsSo faults word)
    is_asked runs nested names (Ok o) plan ends = ByPlan runs nested names plan ends
    is_asked runs nested names (Err e) plan ends = tt

    pub no_plan : (r : Result Outcome X) → IfOk r (EndsBadly FaultsWord) → IfOk r (EndsByListWord name EndsSo faults word)
    no_plan (Ok o) bad = WithoutPlan bad
    no_plan (Err e) bad = tt

    pub no_text : (r : Result Outcome X) → IfOk r (EndsBadly faults) → IfOk r (EndsByListWord name EndsSo faults word)
    no_text (Ok o) bad = WithoutText bad
    no_text (Err e) bad = tt
