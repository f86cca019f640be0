-- What a contract sees of linked lists.
use Rattle.std.specs.Prelude.{◌≡◌, ℕ, nat_eq, if◌then◌else◌, List, [], ◌∷◌, Option, Some, None, slice_index_or, ◌⊎◌}

-- the nodes of each list in order, for each node the list that has it, and how many more nodes and
-- lists take no memory
pub record Lists : Type 0 where
  pub lists : List (List ℕ)
  pub owners : List (Option ℕ)
  pub node_room : ℕ
  pub list_room : ℕ

-- the list that has the node
abbrev pub owner_of : Lists → ℕ → Option ℕ
owner_of s node = slice_index_or s.owners node None

-- the nodes of the list, in order
abbrev pub list_of : Lists → ℕ → List ℕ
list_of s l = slice_index_or s.lists l []

-- the first node, or `after` if there is none
abbrev pub first_of : List ℕ → Option ℕ → Option ℕ
first_of [] after = after
first_of (x ∷ xs) after = Some x

-- the last node, or `before` if there is none
abbrev pub last_of : Option ℕ → List ℕ → Option ℕ
last_of before [] = before
last_of before (x ∷ xs) = last_of (Some x) xs

-- the list with the first `x` taken out
abbrev pub without : ℕ → List ℕ → List ℕ
without x [] = []
without x (y ∷ ys) = if nat_eq x y then ys else y ∷ without x ys

-- `x` is inserted directly before the first `at`
abbrev pub put_before : ℕ → ℕ → List ℕ → List ℕ
put_before at x [] = []
put_before at x (y ∷ ys) = if nat_eq at y then x ∷ y ∷ ys else y ∷ put_before at x ys

-- what is directly after `at`
abbrev pub next_in : ℕ → List ℕ → Option ℕ
next_in at [] = None
next_in at (y ∷ ys) = if nat_eq at y then first_of ys None else next_in at ys

-- what is directly before `at`, where the list follows `before`
abbrev pub prev_in : Option ℕ → ℕ → List ℕ → Option ℕ
prev_in before at [] = None
prev_in before at (y ∷ ys) = if nat_eq at y then before else prev_in (Some y) at ys

-- the node directly after this one in its owner's list
abbrev pub next_in_owner : Lists → Option ℕ → ℕ → Option ℕ
next_in_owner s None x = None
next_in_owner s (Some l) x = next_in x (list_of s l)

-- the node directly after this one in the list that has it
abbrev pub next_in_lists : Lists → ℕ → Option ℕ
next_in_lists s x = next_in_owner s (owner_of s x) x

-- the node directly before this one in its owner's list
abbrev pub prev_in_owner : Lists → Option ℕ → ℕ → Option ℕ
prev_in_owner s None x = None
prev_in_owner s (Some l) x = prev_in None x (list_of s l)

-- the node directly before this one in the list that has it
abbrev pub prev_in_lists : Lists → ℕ → Option ℕ
prev_in_lists s x = prev_in_owner s (owner_of s x) x

-- `x` is in the list
abbrev pub In : ℕ → List ℕ → Type 0
In x [] = ⊥
In x (y ∷ ys) = (x ≡ y) ⊎ In x ys

-- nothing is in the list twice
abbrev pub IsDistinct : List ℕ → Type 0
IsDistinct [] = Unit {0}
IsDistinct (x ∷ xs) = (In x xs → ⊥) × IsDistinct xs

-- the nodes of an owner's list are owned by it, and none is there twice
pub record AreOwned (owners : List (Option ℕ)) (lists : List (List ℕ)) : Type 0 where
  pub listed : (x l : ℕ) → slice_index_or owners x None ≡ Some l → In x (slice_index_or lists l [])
  pub owned : (x l : ℕ) → In x (slice_index_or lists l []) → slice_index_or owners x None ≡ Some l
  pub distinct : (l : ℕ) → IsDistinct (slice_index_or lists l [])
