-- How words plan passes, in both spellings.
use Rattle.std.specs.Prelude.{◌≡◌, ◌≤◌, ◌==◌, ℕ, Bool, true, false, List, ◌++◌, Option, Some, None, IsTrue, codes}
use Rattle.std.specs.List.{slice_split}
use Rattle.std.specs.Fmt.{decimal}
use Rattle.pliron_text.specs.Beginnings.{BeginsWith}
use Rattle.pliron_driver.specs.declared.program.pipeline_text.Words.{Words}
use Rattle.pliron_driver.specs.declared.program.pipeline_text.Words.TheVariants.{OfProgram, All}

-- whether words have brackets
abbrev pub has_brackets : Words → Bool
has_brackets OfProgram = false
has_brackets All = true

-- the word says that what the rest says is run once, or at most so many times, from 1 to 64; by brackets where words
-- have them
pub data Counts (brackets : Bool) (word : List ℕ) : Option ℕ → List ℕ → Type 0 where
  Once : (BeginsWith word (codes "repeat:") → ⊥) → (IsTrue brackets → BeginsWith word (codes "repeat<") → ⊥) → Counts brackets word None word
  ByColon : (n : ℕ) (rest : List ℕ) → word ≡ codes "repeat:" ++ (decimal n ++ (codes ":" ++ rest)) → 1 ≤ n → n ≤ 64 → Counts brackets word (Some n) rest
  InBrackets : IsTrue brackets → (n : ℕ) (rest : List ℕ) → word ≡ codes "repeat<" ++ (decimal n ++ (codes ">(" ++ (rest ++ codes ")"))) → 1 ≤ n → n ≤ 64 → Counts brackets word (Some n) rest

-- the text says whether what the list says is run on each operation directly inside
pub data Nests (brackets : Bool) (text : List ℕ) : Bool → List ℕ → Type 0 where
  Itself : (BeginsWith text (codes "nested:") → ⊥) → (IsTrue brackets → BeginsWith text (codes "nested(") → ⊥) → Nests brackets text false text
  EachByColon : (list : List ℕ) → text ≡ codes "nested:" ++ list → Nests brackets text true list
  EachInBrackets : IsTrue brackets → (list : List ℕ) → text ≡ codes "nested(" ++ (list ++ codes ")") → Nests brackets text true list

-- the word says both, and the names are what commas set apart in the list
pub record Plans (brackets : Bool) (word : List ℕ) (runs : Option ℕ) (nested : Bool) (names : List (List ℕ)) : Type 0 where
  pub text : List ℕ
  pub list : List ℕ
  pub counts : Counts brackets word runs text
  pub nests : Nests brackets text nested list
  pub pieces : names ≡ slice_split (λ b. b == 44) list
