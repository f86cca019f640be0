-- Where the free slots of each user are.
use Rattle.std.specs.Prelude.{◌≡◌, ℕ, Bool, true, false, List, [], length, slice_index_or, Vec, vec_len, vec_capacity}
use Rattle.pliron_core.specs.declared.uses.Use.{Use}
use Rattle.pliron_core.specs.declared.use_slots.UseSlot.{UseSlot}
use Rattle.pliron_core.specs.declared.use_slots.Gap.{Gap}
use Rattle.pliron_core.specs.declared.use_slots.Holes.{Holes}
use Rattle.pliron_core.specs.declared.use_slots.Holes.TheVariants.{OneGap, Counted}
use Rattle.pliron_core.specs.UseSlots.{marks, no_gap, HasGap, IsLinked}

-- the free slots of the list are those in the gap, or those that the counts have as free
abbrev pub Tracks : List UseSlot → Holes → Type 0
Tracks row (OneGap gap) = HasGap row gap
Tracks row (Counted counts) = marks row ≡ counts.value

abbrev pub hole_of : List Holes → ℕ → Holes
hole_of holes user = slice_index_or holes user (OneGap no_gap)

abbrev pub gap_in : Holes → Gap
gap_in (OneGap gap) = gap
gap_in (Counted counts) = no_gap

abbrev pub counted_in : Holes → Bool
counted_in (OneGap gap) = false
counted_in (Counted counts) = true

abbrev pub counts_in : Holes → List ℕ
counts_in (OneGap gap) = []
counts_in (Counted counts) = counts.value

-- the gap of a user, whether its slots are counted, and by what
abbrev pub gap_of : List Holes → ℕ → Gap
gap_of holes user = gap_in (hole_of holes user)

abbrev pub is_counted : List Holes → ℕ → Bool
is_counted holes user = counted_in (hole_of holes user)

abbrev pub counts_of : List Holes → ℕ → List ℕ
counts_of holes user = counts_in (hole_of holes user)

-- what is recorded of the free slots of each list is so
pub record HaveHoles (rows : List (List UseSlot)) (holes : List Holes) : Type 0 where
  pub count : length holes ≡ length rows
  pub each : (user : ℕ) → Tracks (slice_index_or rows user []) (hole_of holes user)

pub record AreLinked (rows : List (List UseSlot)) (spans : List Holes) (lists : List (List Use)) : Type 0 where
  pub linked : IsLinked rows lists
  pub holes : HaveHoles rows spans

-- the tables are as long as before, with as much room
abbrev pub KeepRooms : {X Y W Z : Type 0} → (places places' : Vec X Z) → (holes holes' : Vec Y Z) → (uses uses' : Vec W Z) → Type 0
KeepRooms places places' holes holes' uses uses' = (vec_len places' ≡ vec_len places) × (vec_capacity places' ≡ vec_capacity places) × (vec_len holes' ≡ vec_len holes) × (vec_capacity holes' ≡ vec_capacity holes) × (vec_len uses' ≡ vec_len uses) × (vec_capacity uses' ≡ vec_capacity uses)
