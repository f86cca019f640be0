-- Lists of names in which two are equal.
use Rattle.std.specs.Prelude.{◌≡◌, ◌<◌, ℕ, List, Some, slice_get}
use Rattle.pliron_laws.specs.Datum.{Datum}

-- one name stands at two places
abbrev pub HasNamesakes : List Datum → Type 0
HasNamesakes names = (i j : ℕ) × (name : Datum) × (i < j) × (slice_get names i ≡ Some name) × (slice_get names j ≡ Some name)
