-- A table that knows the place of each member of a list of numbers.
use Rattle.std.specs.Prelude.{◌≡◌, ℕ, ◌+◌, cond, List, nat_eq}
use Rattle.std.specs.List.{list_any, slice_index_or, IsDistinct}
use Rattle.pliron_graph_traversal.specs.Search.{number_in}

-- one more than the place of a member, and 0 of any other number
abbrev pub mark_of_member : List ℕ → ℕ → ℕ
mark_of_member members v = cond (list_any (nat_eq v) members) (number_in nat_eq members v + 1) 0

-- the marks of all numbers, past its end 0, and no member twice
pub record AreMarksOf (members marks : List ℕ) : Type 0 where
  pub at : (v : ℕ) → slice_index_or marks v 0 ≡ mark_of_member members v
  pub distinct : IsDistinct nat_eq members
