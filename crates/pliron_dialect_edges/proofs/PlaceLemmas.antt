-- The place behind the operands of the edges of a branch.
use Rattle.std.proofs.Common.{◌≡◌, inr, ℕ, zero, suc, ◌+◌, ◌-◌, ◌<◌, ◌≤◌, List, Some, length, slice_get, min, ap, ◌∙◌, arith}
use Rattle.pliron_core.specs.declared.attrs.AttrObj.{AttrObj}
use Rattle.pliron_dialect.specs.Counts.{counted_by}
use Rattle.pliron_dialect.specs.Counted.{two_counts, start_of, count_of, start_next, edge_counts_in, count_at, count_past}

next_start : (ns : List ℕ) (j : ℕ) → start_of ns (j + 1) ≡ start_of ns j + count_of ns j
next_start ns j = let e : j + 1 ≡ suc j = omega arith in ap (start_of ns) e ∙ start_next ns j

pub counted_place : (c j k place operands : ℕ) (attrs : List AttrObj) (a : AttrObj) → j < c → slice_get attrs j ≡ Some a → k ≡ min (counted_by a) operands → place ≡ suc (start_of (edge_counts_in c attrs) j) → place ≤ operands → k ≤ operands - place → place + k ≡ suc (start_of (edge_counts_in c attrs) (j + 1))
counted_place c j k place operands attrs a lt is count at within fits =
    let there = count_at c j attrs a lt is in
    let next = next_start (edge_counts_in c attrs) j in omega (arith, there, next, count, at, within, fits)

pub empty_place : (c j place : ℕ) (attrs : List AttrObj) → length attrs ≤ j → place ≡ suc (start_of (edge_counts_in c attrs) j) → place + 0 ≡ suc (start_of (edge_counts_in c attrs) (j + 1))
empty_place c j place attrs past at =
    let there = count_past c j attrs (inr past) in
    let next = next_start (edge_counts_in c attrs) j in omega (arith, there, next, at)

-- the second of two edges forwards all that is behind the first one's
pub last_of_two : (n a e : ℕ) → 0 < a → 0 < e → a ≡ suc (start_of (two_counts n (a - 1)) (suc e))
last_of_two n a zero some later = absurd (omega (arith, later))
last_of_two n a (suc zero) some later = omega (arith, some)
last_of_two n a (suc (suc e)) some later = omega (arith, some)
