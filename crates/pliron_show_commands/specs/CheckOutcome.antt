-- What is said of a text whose operation is checked.
use Rattle.std.specs.Prelude.{◌≡◌, ℕ, List, [], ◌∷◌, ◌++◌, codes}
use Rattle.pliron_core.specs.Tree.{Tree}
use Rattle.pliron_laws.specs.Datum.{Meaning}
use Rattle.pliron_theory.specs.Keeps.{IsFit}
use Rattle.pliron_driver.specs.Answered.{Reads}
use Rattle.pliron_pass_fit.specs.Violation.{IsViolation}
use Rattle.pliron_pass_fit.specs.declared.violation.Violation.{Violation}
use Rattle.pliron_show_commands.specs.declared.checking.CheckOutcome.{CheckOutcome}
use Rattle.pliron_show_commands.specs.declared.checking.CheckOutcome.TheVariants.{Unreadable, Fit, FitByParts, Unfit}
use Rattle.pliron_show_commands.specs.declared.outcome.Outcome.{Outcome}
use Rattle.pliron_show_commands.specs.Parts.{IsContainer, AreFitParts, IsFitByParts, IsAtFault}

-- what is written of a text whose operation is fit to run, and of one whose operation is only so by its parts
abbrev pub fit_line : List ℕ
fit_line = codes "well linked and fit to run" ++ 10 ∷ []

abbrev pub parts_line : List ℕ
parts_line = codes "fit to run, each part by itself" ++ 10 ∷ []

module _ (reads : Reads) (m : Meaning) (text : List ℕ) where
  -- an operation was read from the text, and is fit to run
  pub record IsWholeText : Type 0 where
    pub tree : Tree
    pub root : ℕ
    pub read : reads text tree root
    pub fit : IsFit m tree root

  -- one was read from it at which no run begins, and each part inside it is fit to run
  pub record IsTextOfParts : Type 0 where
    pub tree : Tree
    pub root : ℕ
    pub read : reads text tree root
    pub container : IsContainer tree root
    pub parts : AreFitParts m tree root

  -- one was read from it, and is fit as a whole or by its parts
  pub record IsFitText : Type 0 where
    pub tree : Tree
    pub root : ℕ
    pub read : reads text tree root
    pub fit : IsFitByParts m tree root

  -- one was read from it that isn't, since this violation keeps it, or the first such part of it, from being fit to run
  pub record IsUnfitBy (part : ℕ) (violation : Violation) : Type 0 where
    pub tree : Tree
    pub root : ℕ
    pub read : reads text tree root
    pub unfit : IsFitByParts m tree root → ⊥
    pub reported : IsAtFault m tree root part
    pub wrong : IsViolation m tree part violation

  abbrev pub IsUnfitText : Type 0
  IsUnfitText = (part : ℕ) × (violation : Violation) × IsUnfitBy part violation

  -- of a text that is called unreadable nothing is said
  abbrev pub IsChecked : CheckOutcome → Type 0
  IsChecked Unreadable = Unit {0}
  IsChecked Fit = IsWholeText
  IsChecked FitByParts = IsTextOfParts
  IsChecked (Unfit part violation) = IsUnfitBy part violation

  -- it is fit as a whole, or by its parts, and the line that is written says which
  pub data IsReportedFit (output : List ℕ) : Type 0 where
    SaysWhole : IsWholeText → output ≡ fit_line → IsReportedFit output
    SaysParts : IsTextOfParts → output ≡ parts_line → IsReportedFit output

  -- something keeps it from being fit to run, and nothing is to be written
  pub record IsRejected (o : Outcome) : Type 0 where
    pub unfit : IsUnfitText
    pub denied : o.status ≡ 3
    pub empty : o.output.items ≡ []
