-- What a contract sees of uses.
use Rattle.std.specs.Prelude.{◌≡◌, ℕ, nat_eq, if◌then◌else◌, List, [], Some, slice_index_or, slice_get}
use Rattle.pliron_core.specs.declared.uses.Use.{Use}

-- the targets of each user in order, and the uses of each target in any order, and how many
-- more users and targets take no memory
pub record Table : Type 0 where
  pub targets : List (List ℕ)
  pub uses : List (List Use)
  pub user_room : ℕ
  pub target_room : ℕ

abbrev pub targets_of : Table → ℕ → List ℕ
targets_of s user = slice_index_or s.targets user []

abbrev pub table_uses : Table → ℕ → List Use
table_uses s target = slice_index_or s.uses target []

-- the lists of uses have each use once, and nothing else
pub record AreAgreed (targets : List (List ℕ)) (uses : List (List Use)) : Type 0 where
  pub listed : (target i : ℕ) (u : Use) → slice_get (slice_index_or uses target []) i ≡ Some u → slice_get (slice_index_or targets u.user []) u.place ≡ Some target
  pub once : (target i j : ℕ) (u : Use) → slice_get (slice_index_or uses target []) i ≡ Some u → slice_get (slice_index_or uses target []) j ≡ Some u → i ≡ j
  pub complete : (user place target : ℕ) → slice_get (slice_index_or targets user []) place ≡ Some target → (i : ℕ) × (slice_get (slice_index_or uses target []) i ≡ Some (record { user = user; place = place }))

-- `new` in the place of `old`
abbrev pub replace_target : ℕ → ℕ → ℕ → ℕ
replace_target old new x = if nat_eq x old then new else x
