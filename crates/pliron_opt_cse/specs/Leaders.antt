-- The operations that lead others, by their keys.
use Rattle.std.specs.Prelude.{ℕ, nat_eq, List, Option}
use Rattle.std.specs.Cmp.Lexicographic.{pointwise}
use Rattle.indexmap.specs.IndexMap.{get_by}
use Rattle.pliron_opt_cse.specs.declared.leaders.Leaders.{Leaders}

-- the place of the operation that leads those with this key
abbrev pub leader_with : Leaders → List ℕ → Option ℕ
leader_with leaders key = get_by (λ k. pointwise nat_eq key k.items) leaders.places
