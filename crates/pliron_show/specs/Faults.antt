-- What is reported of texts that are outside a notation.
use Rattle.std.specs.Prelude.{ℕ, List, codes}
use Rattle.pliron_text.specs.Beginnings.{BeginsWith}
use Rattle.pliron_show_places.specs.Messages.{heading}

-- which reports say what is wrong; and which do so of a text
abbrev pub Faults : Type 1
Faults = (report : List ℕ) → Type 0

abbrev pub TextFaults : Type 1
TextFaults = (text : List ℕ) → Faults

-- the first line of a report
abbrev pub error_line : (wrong : List ℕ) → List ℕ
error_line wrong = heading (codes "error") wrong

-- it says of a text that it is unreadable; where and why is open
abbrev pub faults_as_unreadable : TextFaults
faults_as_unreadable text report = BeginsWith report (error_line (codes "unreadable text"))
