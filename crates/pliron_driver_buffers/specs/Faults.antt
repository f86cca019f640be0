-- What is said of a text outside the notation.
use Rattle.std.specs.Prelude.{◌≡◌, ◌+◌, ◌≤◌, ◌⊎◌, ℕ, List, length, take}
use Rattle.pliron_text_positions.specs.LineAndColumn.{line_behind, column_behind}
use Rattle.pliron_driver_buffers.specs.declared.fault.Place.{Place}

abbrev pub no_place : Place
no_place = record { start = 0; len = 0; line = 0; column = 0 }

-- the place is a part of the text, and its line and column are those of its first byte
pub record IsPartOf (text : List ℕ) (place : Place) : Type 0 where
  pub within : place.start + place.len ≤ length text
  pub line : place.line ≡ line_behind (take place.start text)
  pub column : place.column ≡ column_behind (take place.start text)

-- nothing is wrong, or this part of the text is
abbrev pub IsFaultPlace : List ℕ → Place → Type 0
IsFaultPlace text place = (place ≡ no_place) ⊎ IsPartOf text place
