-- Which words ask for a pass pipeline.
use Rattle.std.specs.Prelude.{◌≡◌, ◌≤◌, ◌==◌, ◌↔◌, ℕ, Bool, List, [], ◌++◌, Option, Some, None, IfSome, IsSome, IsTrue, codes, if◌then◌else◌}
use Rattle.std.specs.List.{slice_split}
use Rattle.pliron_text.specs.Beginnings.{BeginsWith}
use Rattle.std.specs.Fmt.{decimal}

abbrev pub repeat_prefix : Option ℕ → List ℕ
repeat_prefix None = []
repeat_prefix (Some n) = codes "repeat:" ++ (decimal n ++ codes ":")

abbrev pub nested_prefix : Bool → List ℕ
nested_prefix nested = if nested then codes "nested:" else []

-- the text is the names joined by commas, after `nested:` where they are for each operation directly inside; and they
-- are exactly where the text begins with `nested:`
pub record IsNameList (text : List ℕ) (nested : Bool) (names : List (List ℕ)) : Type 0 where
  pub list : List ℕ
  pub whole : text ≡ nested_prefix nested ++ list
  pub exact : IsTrue nested ↔ BeginsWith text (codes "nested:")
  pub pieces : names ≡ slice_split (λ b. b == 44) list

-- the word is `repeat:N:` where runs are counted, N from 1 to 64 without a leading zero, and then such a list; and they
-- are counted exactly where the word begins with `repeat:`
pub record IsPlan (word : List ℕ) (runs : Option ℕ) (nested : Bool) (names : List (List ℕ)) : Type 0 where
  pub rest : List ℕ
  pub whole : word ≡ repeat_prefix runs ++ rest
  pub exact : IsSome runs ↔ BeginsWith word (codes "repeat:")
  pub few : IfSome runs (λ n. (1 ≤ n) × (n ≤ 64))
  pub listed : IsNameList rest nested names
