-- How two runs compare, for proofs inside the crate.
use Rattle.std.specs.Prelude.{◌≡◌, ℕ, Bool, true, false, List}
use Rattle.pliron_evaluator.specs.declared.evaluator.values.Datum.{Datum as DatumValue}
use Rattle.pliron_evaluator.specs.declared.evaluator.values.Sight.{Sight}
use Rattle.pliron_show_commands.specs.Compared.{are_same_sights, are_same_so_far, EndsWith, same_line, so_far_line, different_line, other_line}
use Rattle.pliron_show_commands.specs.declared.comparing.Likeness.{Likeness}
use Rattle.pliron_show_commands.specs.declared.comparing.Likeness.TheVariants.{Same, SoFar, Different}
use Rattle.pliron_show_commands.specs.declared.comparing.Sights.{Sights}
use Rattle.pliron_show_commands.specs.declared.outcome.Outcome.{Outcome}

abbrev pub last_line : Likeness → List ℕ
last_line Same = same_line
last_line SoFar = so_far_line
last_line Different = different_line

-- the exit status of a command that reports it
abbrev pub status_for : Likeness → ℕ
status_for Same = 0
status_for SoFar = 3
status_for Different = 3

module _ (eq : Sight → Sight → Bool) (same_datum : DatumValue → DatumValue → Bool) (sights : Sights) where
  abbrev pub IsLikeness : Likeness → Type 0
  IsLikeness Same = are_same_sights eq sights ≡ true
  IsLikeness SoFar = (are_same_sights eq sights ≡ false) × (are_same_so_far same_datum sights ≡ true)
  IsLikeness Different = (are_same_sights eq sights ≡ false) × (are_same_so_far same_datum sights ≡ false)

  abbrev pub IsReported : List ℕ → Type 0
  IsReported output = (are_same_sights eq sights ≡ true) × EndsWith same_line output

  abbrev pub IsReportedOther : List ℕ → Type 0
  IsReportedOther output = (are_same_sights eq sights ≡ false) × EndsWith (other_line same_datum sights) output

  -- with 0 where they are the same, else with 3
  pub data EndsLike (o : Outcome) : Type 0 where
    AreAlike : IsReported o.output.items → o.status ≡ 0 → EndsLike o
    AreUnlike : IsReportedOther o.output.items → o.status ≡ 3 → EndsLike o
