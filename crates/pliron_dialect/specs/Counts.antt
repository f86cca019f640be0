-- What attributes count, and what is at one edge.
use Rattle.std.specs.Prelude.{ℕ, List, [], ◌∷◌, Option, Some, None, pos, negsuc}
use Rattle.pliron_core.specs.declared.attrs.AttrObj.{AttrObj}
use Rattle.pliron_core.specs.declared.attrs.AttrObj.TheVariants.{Int, Text as Words}

-- how many operands an attribute counts
abbrev pub counted_by : AttrObj → ℕ
counted_by (Int (pos n)) = n
counted_by (Int (negsuc n)) = 0
counted_by (Words s) = 0

-- the list of one successor, or of none
abbrev pub only_successor : Option ℕ → List ℕ
only_successor None = []
only_successor (Some b) = b ∷ []
