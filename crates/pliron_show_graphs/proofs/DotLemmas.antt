-- What a whole string of the dot language is.
use Rattle.std.proofs.Common.{◌≡◌, ◌++◌, ◌∷◌, [], ℕ, List}
use Rattle.std.specs.List.{flat_map}
use Rattle.std.proofs.lemmas.List.{append_assoc}
use Rattle.pliron_show_graphs.specs.Quoting.{quote, written_byte}

pub quoted_whole : (before text : List ℕ) → (before ++ (34 ∷ flat_map written_byte text)) ++ 34 ∷ [] ≡ before ++ quote text
quoted_whole before text = append_assoc before (34 ∷ flat_map written_byte text) (34 ∷ [])
