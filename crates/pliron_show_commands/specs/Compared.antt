-- What is seen of runs before and after passes.
use Rattle.std.specs.Prelude.{◌≡◌, ℕ, Bool, true, false, List, [], ◌∷◌, ◌++◌, codes, if◌then◌else◌}
use Rattle.std.specs.List.{ends_with}
use Rattle.pliron_core.specs.Tree.{Tree}
use Rattle.pliron_core.specs.declared.attrs.IRStatus.{IRStatus}
use Rattle.pliron_laws.specs.Datum.{Datum, Meaning}
use Rattle.pliron_laws.specs.Machine.{run, sight_after}
use Rattle.pliron_pass.specs.Headline.{DoAsBefore}
use Rattle.pliron_evaluator.specs.Evaluator.{sight_of}
use Rattle.pliron_evaluator.specs.declared.evaluator.values.Datum.{Datum as DatumValue}
use Rattle.pliron_evaluator.specs.declared.evaluator.values.Sight.{Sight}
use Rattle.pliron_evaluator.specs.declared.evaluator.values.Sight.TheVariants.{Ended, Trapped, Reached}
use Rattle.pliron_driver.specs.Answered.{Reads}
use Rattle.pliron_show_commands.specs.Outcomes.{EndsEither}
use Rattle.pliron_show.specs.Faults.{TextFaults}
use Rattle.pliron_show_commands.specs.declared.comparing.Sights.{Sights}
use Rattle.pliron_show_commands.specs.declared.outcome.Outcome.{Outcome}

-- the run made no further move
abbrev pub is_cut_off : Sight → Bool
is_cut_off (Ended values effects) = false
is_cut_off (Trapped effects) = false
is_cut_off (Reached effects) = true

-- whether both runs ended or trapped, and the same is seen of them
abbrev pub are_same_sights : (Sight → Sight → Bool) → Sights → Bool
are_same_sights eq sights = if is_cut_off sights.before then false else if is_cut_off sights.after then false else eq sights.before sights.after

-- the effects that were seen, latest first
abbrev pub effects_of_sight : Sight → List DatumValue
effects_of_sight (Ended values effects) = effects.items
effects_of_sight (Trapped effects) = effects.items
effects_of_sight (Reached effects) = effects.items

-- whether the one run was cut off, and the other began with the effects that were seen of it
abbrev pub is_start : (DatumValue → DatumValue → Bool) → (one other : Sight) → Bool
is_start eq one other = if is_cut_off one then ends_with eq (effects_of_sight other) (effects_of_sight one) else false

-- whether a run was cut off, and nothing that was seen until then differs
abbrev pub are_same_so_far : (DatumValue → DatumValue → Bool) → Sights → Bool
are_same_so_far eq sights = if is_start eq sights.before sights.after then true else is_start eq sights.after sights.before

-- the last line of what is written
abbrev pub same_line : List ℕ
same_line = codes "the same before and after" ++ 10 ∷ []

abbrev pub so_far_line : List ℕ
so_far_line = codes "the same as far as the runs went" ++ 10 ∷ []

abbrev pub different_line : List ℕ
different_line = codes "not the same" ++ 10 ∷ []

-- that of runs that aren't the same
abbrev pub other_line : (DatumValue → DatumValue → Bool) → Sights → List ℕ
other_line eq sights = if are_same_so_far eq sights then so_far_line else different_line

-- the text ends with this line; what comes before it is open
abbrev pub EndsWith : (line text : List ℕ) → Type 0
EndsWith line text = (first : List ℕ) × (text ≡ first ++ line)

module _ (reads : Reads) (m : Meaning) (inputs world : List Datum) (steps : ℕ) where
  -- an operation was read of the text, the passes ran on it, and the sights are what is seen of a run of it before and of one after
  pub record AreSightsSeen (ran : ℕ → Tree → Tree → IRStatus → Type 0) (text : List ℕ) (sights : Sights) : Type 0 where
    pub before : Tree
    pub after : Tree
    pub root : ℕ
    pub status : IRStatus
    pub read : reads text before root
    pub runs : ran root before after status
    pub same : DoAsBefore m before after
    pub first : sight_of sights.before ≡ sight_after (run m before root inputs world steps)
    pub second : sight_of sights.after ≡ sight_after (run m after root inputs world steps)

  -- the runs around the passes are the same, and it is written that they are
  pub record AreReportedSame (eq : Sight → Sight → Bool) (ran : ℕ → Tree → Tree → IRStatus → Type 0) (text output : List ℕ) : Type 0 where
    pub sights : Sights
    pub seen_so : AreSightsSeen ran text sights
    pub same_sights : are_same_sights eq sights ≡ true
    pub written : EndsWith same_line output

  -- they are not, and it is written that nothing differs so far exactly where a run was cut off and nothing does
  pub record AreReportedOther (eq : Sight → Sight → Bool) (same_datum : DatumValue → DatumValue → Bool) (ran : ℕ → Tree → Tree → IRStatus → Type 0) (text output : List ℕ) : Type 0 where
    pub sights : Sights
    pub seen_so : AreSightsSeen ran text sights
    pub other_sights : are_same_sights eq sights ≡ false
    pub written : EndsWith (other_line same_datum sights) output

  -- how comparing runs of a text around these passes ends
  abbrev pub EndsCompared : (faults : TextFaults) → (eq : Sight → Sight → Bool) → (same_datum : DatumValue → DatumValue → Bool) → (ran : ℕ → Tree → Tree → IRStatus → Type 0) → (text : List ℕ) → Outcome → Type 0
  EndsCompared faults eq same_datum ran text o = EndsEither (faults text) (AreReportedSame eq ran text o.output.items) (AreReportedOther eq same_datum ran text o.output.items) o
