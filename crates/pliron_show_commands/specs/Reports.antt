-- What is reported of commands that end without an answer.
use Rattle.std.specs.Prelude.{◌≡◌, ℕ, List, ◌++◌, codes}
use Rattle.pliron_text.specs.Beginnings.{BeginsWith}
use Rattle.pliron_show.specs.Faults.{Faults, error_line}

abbrev pub FaultsGraph : Faults
FaultsGraph report = BeginsWith report (error_line (codes "unreadable graph"))

-- it says of a word that it asks for no passes
abbrev pub FaultsWord : Faults
FaultsWord report = BeginsWith report (error_line (codes "no such passes"))

-- it says that no region has this path
abbrev pub FaultsRegion : (path : List ℕ) → Faults
FaultsRegion path report = BeginsWith report (codes "error: no region `" ++ (path ++ codes "`\n"))

-- it says somewhere that something was refused
abbrev pub TellsRefusal : (report : List ℕ) → Type 0
TellsRefusal report = (before : List ℕ) × (after : List ℕ) × (report ≡ before ++ (codes "error: refused: " ++ after))
