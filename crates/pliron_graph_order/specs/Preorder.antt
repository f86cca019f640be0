-- Numbers in the order of their places.
use Rattle.std.specs.Prelude.{◌≡◌, ℕ, suc, ◌+◌, ◌-◌, ◌<◌, ◌≤◌, List, length, get_or}
use Rattle.pliron_graph_dominance.specs.TreeIntervals.{Places}

-- at the place of each number is that number
pub record AreAtPlaces (count : ℕ) (places numbers : List ℕ) : Type 0 where
  pub counted : length numbers ≡ count
  pub at : (v : ℕ) → v < count → get_or numbers (get_or places v 0) 0 ≡ v

-- each place but the first is that of a number other than 0, whose interval ends within all
pub record HaveIndices (numbers : List ℕ) (p : Places) : Type 0 where
  pub counted : length p.places ≡ length numbers
  pub other : (k : ℕ) → 0 < k → k < length numbers → 0 < get_or numbers k 0
  pub low : (k : ℕ) → 0 < k → k < length numbers → get_or numbers k 0 < length numbers
  pub ends : (k : ℕ) → 0 < k → k < length numbers → k + get_or p.sizes (get_or numbers k 0) 0 ≤ length numbers

-- of the first places but the first of all, the operations and the ends of their intervals
pub record ListsInPlace (count : ℕ) (numbers listed : List ℕ) (p : Places) (ops ends : List ℕ) : Type 0 where
  pub ops_counted : suc (length ops) ≡ count
  pub ends_counted : suc (length ends) ≡ count
  pub op : (k : ℕ) → suc k < count → get_or ops k 0 ≡ get_or listed (get_or numbers (suc k) 0 - 1) 0
  pub end : (k : ℕ) → suc k < count → get_or ends k 0 ≡ suc k + get_or p.sizes (get_or numbers (suc k) 0) 0 - 1
