-- What operations that do the same have in common, as numbers.
use Rattle.std.specs.Prelude.{ℕ, ℤ, pos, negsuc, Bool, true, false, ◌^◌, ◌/◌, ◌%◌, List, [], ◌∷◌, ◌++◌, Option, None, Some, length}
use Rattle.std.specs.Option.{option_to_list}
use Rattle.pliron_core.specs.declared.attrs.AttrObj.{AttrObj}
use Rattle.pliron_core.specs.declared.attrs.AttrObj.TheVariants.{Int, Text}
use Rattle.pliron_core.specs.declared.attrs.Head.{Head}
use Rattle.pliron_core.specs.Tree.{Tree, head_of, operands_of, results_of, parent_of, block_parent_of, up_from}
use Rattle.pliron_laws.specs.EdgeChecks.{region_around}

-- a natural number in two of 64 bits
abbrev pub size_words : ℕ → List ℕ
size_words n = n % 2 ^ 64 ∷ n / 2 ^ 64 ∷ []

abbrev pub int_words : ℤ → List ℕ
int_words (pos n) = 0 ∷ size_words n
int_words (negsuc n) = 1 ∷ size_words n

abbrev pub attr_words : AttrObj → List ℕ
attr_words (Int number) = 0 ∷ int_words number
attr_words (Text text) = 1 ∷ length text ∷ text

abbrev pub attrs_words : List AttrObj → List ℕ
attrs_words [] = []
attrs_words (x ∷ xs) = attr_words x ++ attrs_words xs

abbrev pub flag_word : Bool → ℕ
flag_word true = 1
flag_word false = 0

abbrev pub head_words : Head → List ℕ
head_words head = head.kind ∷ flag_word head.ssa ∷ length head.attrs ∷ attrs_words head.attrs

abbrev pub head_words_of : Option Head → List ℕ
head_words_of None = []
head_words_of (Some head) = head_words head

-- the operands, or where there are none the region
abbrev pub operand_words : List ℕ → Option ℕ → List ℕ
operand_words [] region = 0 ∷ option_to_list region
operand_words (x ∷ xs) region = length (x ∷ xs) ∷ x ∷ xs

abbrev pub key_words : Tree → ℕ → List ℕ
key_words t k = head_words_of (head_of t k) ++ length (results_of t k) ∷ operand_words (operands_of t k) (region_around t k)
