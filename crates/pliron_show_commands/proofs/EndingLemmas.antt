-- How commands end without an answer, and what is reported of it.
use Rattle.std.specs.Prelude.{string_bytes}
use Rattle.std.proofs.Common.{◌≡◌, ◌⊎◌, inl, inr, ℕ, List, [], ◌++◌, Result, Ok, Err, IfOk, codes, sym, ap, subst, ◌∙◌, append_assoc, append-nil}
use Rattle.pliron_text.specs.Beginnings.{BeginsWith}
use Rattle.pliron_show_places.specs.Messages.{heading}
use Rattle.pliron_show_commands.specs.declared.outcome.Outcome.{Outcome}
use Rattle.pliron_show_commands.specs.Outcomes.{IsRefused, EndsBadly, EndsBadly.Refuses, EndsBadly.IsFaulty, EndsEither, EndsEither.Fails}
use Rattle.pliron_show_commands.specs.Reports.{FaultsRegion, TellsRefusal}
use Rattle.pliron_show.specs.Faults.{Faults}

-- how reports begin
pub whole_line : (first report : List ℕ) → report ≡ first → BeginsWith report first
whole_line first report e = ([], e ∙ sym (append-nil first))

pub begins_still : (first start rest report : List ℕ) → BeginsWith start first → report ≡ start ++ rest → BeginsWith report first
begins_still first start rest report begins e = (begins.0 ++ rest, e ∙ ap (λ x. x ++ rest) begins.1 ∙ append_assoc first begins.0 rest)

pub region_first : (path start rest report : List ℕ) → start ≡ codes "error: no region `" ++ (path ++ codes "`\n") → report ≡ start ++ rest → FaultsRegion path report
region_first path start rest report is e = (rest, e ∙ ap (λ x. x ++ rest) is)

-- reports of a refusal
pub refused_first : (start reason report : List ℕ) → start ≡ codes "error: refused: " → report ≡ start ++ reason → TellsRefusal report
refused_first start reason report is e = ([], reason, e ∙ ap (λ x. x ++ reason) is)

pub told_still : (start rest report : List ℕ) → TellsRefusal start → report ≡ start ++ rest → TellsRefusal report
told_still start rest report told e = (
  told.0,
  told.1 ++ rest,
  e
      ∙ ap (λ x. x ++ rest) told.2
      ∙ append_assoc told.0 (codes "error: refused: " ++ told.1) rest
      ∙ ap (λ x. told.0 ++ x) (append_assoc (codes "error: refused: ") told.1 rest),
)

told_behind : (before report whole : List ℕ) → TellsRefusal report → whole ≡ before ++ report → TellsRefusal whole
told_behind before report whole told e = (
  before ++ told.0,
  told.1,
  e ∙ ap (λ x. before ++ x) told.2 ∙ sym (append_assoc before told.0 (codes "error: refused: " ++ told.1)),
)

pub told_between : (before told between after report : List ℕ) → TellsRefusal told → between ≡ before ++ told → report ≡ between ++ after → TellsRefusal report
told_between before told between after report is e f = told_still between after report (told_behind before told between is e) f

pub told_use : (wrong report : List ℕ) → wrong ≡ codes "refused: a value of an unreachable block is used" → BeginsWith report (heading (codes "error") wrong) → TellsRefusal report
told_use wrong report is begins = (
  [],
  codes "a value of an unreachable block is used\n" ++ begins.0,
  begins.1 ∙ ap (λ x. heading (codes "error") x ++ begins.0) is,
)

-- outcomes
pub refuses : (o : Outcome) (report : List ℕ) → o.status ≡ 1 → o.output.items ≡ [] → string_bytes o.report ≡ report → TellsRefusal report → IsRefused o
refuses o report status empty is told = record { status = status; empty = empty; told = subst TellsRefusal (sym is) told }

pub refused_badly : {X : Type 0} (faults : Faults) (r : Result Outcome X) → IfOk r IsRefused → IfOk r (EndsBadly faults)
refused_badly faults (Ok o) refused = Refuses refused
refused_badly faults (Err e) refused = tt

pub faulty : (faults : Faults) (o : Outcome) (report : List ℕ) → o.status ≡ 2 → o.output.items ≡ [] → string_bytes o.report ≡ report → faults report → EndsBadly faults o
faulty faults o report status empty is fault = IsFaulty status empty (subst faults (sym is) fault)

-- with reports of two kinds
module _ (one other : Faults) (this that : Type 0) where
  first_kind : (o : Outcome) → EndsBadly one o → EndsBadly (λ x. one x ⊎ other x) o
  first_kind o (Refuses refused) = Refuses refused
  first_kind o (IsFaulty status empty fault) = IsFaulty status empty (inl fault)

  second_kind : (o : Outcome) → EndsBadly other o → EndsBadly (λ x. one x ⊎ other x) o
  second_kind o (Refuses refused) = Refuses refused
  second_kind o (IsFaulty status empty fault) = IsFaulty status empty (inr fault)

  pub text_fails : {X : Type 0} (r : Result Outcome X) → IfOk r (EndsBadly one) → IfOk r (EndsEither (λ x. one x ⊎ other x) this that)
  text_fails (Ok o) bad = Fails (first_kind o bad)
  text_fails (Err e) bad = tt

  pub other_fails : {X : Type 0} (r : Result Outcome X) → IfOk r (EndsBadly other) → IfOk r (EndsEither (λ x. one x ⊎ other x) this that)
  other_fails (Ok o) bad = Fails (second_kind o bad)
  other_fails (Err e) bad = tt
