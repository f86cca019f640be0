-- How slots and uses are linked.
use Rattle.std.specs.Prelude.{zero, suc, ◌≡◌, ◌≢◌, ◌≤◌, ◌<◌, ℕ, ◌+◌, ◌&&◌, nat_eq, nat_lt, if◌then◌else◌, List, [], ◌∷◌, length, Option, Some, slice_index_or, slice_get, slice_set, take, ◌-◌, map}
use Rattle.std.specs.List.{range_with_len}
use Rattle.pliron_core.specs.declared.uses.Use.{Use}
use Rattle.pliron_core.specs.declared.use_slots.UseSlot.{UseSlot}
use Rattle.pliron_core.specs.declared.use_slots.Gap.{Gap}

-- no target has this key: a slot that names it is free
abbrev pub no_target : ℕ
no_target = 4294967295

-- the targets of a list of slots, in order: what its free slots name is none
abbrev pub targets_held : List UseSlot → List ℕ
targets_held [] = []
targets_held (p ∷ ps) = if nat_eq p.target no_target then targets_held ps else p.target ∷ targets_held ps

abbrev pub targets_in : List (List UseSlot) → List (List ℕ)
targets_in rows = map targets_held rows

-- how many of the first n slots are taken
abbrev pub rank : List UseSlot → ℕ → ℕ
rank [] n = 0
rank (p ∷ ps) zero = 0
rank (p ∷ ps) (suc n) = if nat_eq p.target no_target then rank ps n else suc (rank ps n)

-- 1 for each taken slot of a list, and 0 for each free one
abbrev pub mark_of : UseSlot → ℕ
mark_of p = if nat_eq p.target no_target then 0 else 1

abbrev pub marks : List UseSlot → List ℕ
marks row = map mark_of row

abbrev pub marks_in : List (List UseSlot) → List (List ℕ)
marks_in rows = map marks rows

-- a use, by its index among the taken slots
abbrev pub ranked_use : List (List UseSlot) → Use → Use
ranked_use rows u = record { user = u.user; place = rank (slice_index_or rows u.user []) u.place }

abbrev pub uses_in : List (List UseSlot) → List (List Use) → List (List Use)
uses_in rows lists = map (map (ranked_use rows)) lists

-- the free slots of the list are those in the gap
pub record HasGap (row : List UseSlot) (gap : Gap) : Type 0 where
  pub fits : gap.start + gap.len ≤ length row
  pub free : (n : ℕ) (p : UseSlot) → slice_get row n ≡ Some p → gap.start ≤ n → n < gap.start + gap.len → p.target ≡ no_target
  pub before : (n : ℕ) (p : UseSlot) → slice_get row n ≡ Some p → n < gap.start → p.target ≢ no_target
  pub behind : (n : ℕ) (p : UseSlot) → slice_get row n ≡ Some p → gap.start + gap.len ≤ n → p.target ≢ no_target

abbrev pub no_gap : Gap
no_gap = record { start = 0; len = 0 }

abbrev pub free_place : UseSlot
free_place = record { target = no_target; at = 0 }

-- the slots of so many targets by ascending key, and the uses of so many targets by the user's slots, where each
-- target has one use
abbrev pub places_from : ℕ → ℕ → List UseSlot
places_from first count = map (λ target. record { target = target; at = 0 }) (range_with_len first count)

abbrev pub uses_by : ℕ → ℕ → List (List Use)
uses_by user count = map (λ place. record { user = user; place = place } ∷ []) (range_with_len 0 count)

-- the entry at two indices
abbrev pub at : {X : Type 0} → List (List X) → ℕ → ℕ → Option X
at rows i j = slice_get (slice_index_or rows i []) j

-- the lists with one entry written
abbrev pub put : {X : Type 0} → List (List X) → ℕ → ℕ → X → List (List X)
put rows i j x = slice_set rows i (slice_set (slice_index_or rows i []) j x)

-- the lists without the last entry of one
abbrev pub cut : {X : Type 0} → List (List X) → ℕ → List (List X)
cut rows i = slice_set rows i (take (length (slice_index_or rows i []) - 1) (slice_index_or rows i []))

-- a taken slot and its use name each other
pub record IsLinked (rows : List (List UseSlot)) (lists : List (List Use)) : Type 0 where
  pub used : (user place target i : ℕ) → at rows user place ≡ Some (record { target = target; at = i }) → target ≢ no_target → at lists target i ≡ Some (record { user = user; place = place })
  pub placed : (target i user place : ℕ) → at lists target i ≡ Some (record { user = user; place = place }) → at rows user place ≡ Some (record { target = target; at = i })
  pub few : length lists ≤ no_target

-- a slot of `old` that was passed names `new`
abbrev pub retarget_slot : ℕ → ℕ → ℕ → ℕ → UseSlot → UseSlot
retarget_slot old new first n p = if (nat_eq p.target old && nat_lt p.at n) then (record { target = new; at = first + p.at }) else p
