-- What the world chooses, by a number.
use Rattle.std.specs.Prelude.{ℕ, List, Option, ℤ, pos, negsuc, slice_index_or}
use Rattle.pliron_laws.specs.Datum.{Datum, Move, Give, Visit, Goto, Leave}
use Rattle.pliron_dialect.specs.Roles.{fit_data, data_in, arguments_at, memo_of_unknown_regions}

-- of an operation with regions: a region, or what it gives
abbrev pub region_chosen : (entry_arguments : List ℕ) → (results : ℕ) → ℤ → Datum → Move
region_chosen entry_arguments results (pos i) ds = Visit i (fit_data (slice_index_or entry_arguments i 0) (data_in ds)) memo_of_unknown_regions
region_chosen entry_arguments results (negsuc i) ds = Give (fit_data results (data_in ds))

-- of a terminator: a successor, or the end of the visit, with all of the answer
abbrev pub fork_chosen : Option (List ℕ) → ℤ → (answer ds : Datum) → Move
fork_chosen target_arguments (pos i) answer ds = Goto i (fit_data (arguments_at target_arguments i) (data_in ds))
fork_chosen target_arguments (negsuc i) answer ds = Leave (data_in answer)
