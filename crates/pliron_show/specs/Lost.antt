-- Where runs lose numbers.
use Rattle.std.specs.Prelude.{◌≡◌, ℕ, List, Some}
use Rattle.pliron_core.specs.Tree.{Tree, head_of}
use Rattle.pliron_core.specs.declared.attrs.Head.{Head}
use Rattle.pliron_laws.specs.Datum.{Datum}

-- with which heads operations lose a number of which data
abbrev pub Losses : Type 1
Losses = (head : Head) → (input : List Datum) → Type 0

-- the operation has such a head
abbrev pub LosesAt : Losses → Tree → (op : ℕ) → (input : List Datum) → Type 0
LosesAt loses t op input = (head : Head) × (head_of t op ≡ Some head) × loses head input
