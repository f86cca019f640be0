-- Words that are types, and words that are values.
use Rattle.std.specs.Prelude.{◌==◌, ◌&&◌, ◌||◌, ℕ, Bool, false, not, nat_eq, List, [], ◌∷◌, length, codes, bytes_eq}
use Rattle.std.specs.List.{list_all, starts_with}
use Rattle.std.specs.Char.{is_ascii_digit}
use Rattle.pliron_text_llvm_syntax.specs.Lexing.{begins_with_digit}

-- one of the words is the name
abbrev pub is_one_of : List (List ℕ) → List ℕ → Bool
is_one_of [] name = false
is_one_of (known ∷ names) name = bytes_eq name known || is_one_of names name

-- ---- types

-- `i` or `b`, and digits
abbrev pub is_integer_type : List ℕ → Bool
is_integer_type [] = false
is_integer_type (first ∷ width) = (first == 105 || first == 98) && not (length width == 0) && list_all is_ascii_digit width

abbrev pub type_words : List (List ℕ)
type_words =
    codes "void" ∷ codes "half" ∷ codes "bfloat" ∷ codes "float" ∷ codes "double" ∷ codes "fp128" ∷ codes "x86_fp80" ∷
    codes "ppc_fp128" ∷ codes "x86_amx" ∷ codes "ptr" ∷ codes "label" ∷ codes "token" ∷ codes "metadata" ∷ codes "target" ∷ []

abbrev pub is_type_word : List ℕ → Bool
is_type_word word = is_integer_type word || is_one_of type_words word

-- ---- values

-- `-` or `+`
abbrev pub is_sign : ℕ → Bool
is_sign byte = byte == 45 || byte == 43

-- `u`, `s` or `f`
abbrev pub is_prefix : ℕ → Bool
is_prefix byte = byte == 117 || byte == 115 || byte == 102

-- a digit first, or behind a sign; or `0x` behind `u`, `s` or `f`
abbrev pub is_number_word : List ℕ → Bool
is_number_word [] = false
is_number_word (first ∷ rest) =
    is_ascii_digit first || (is_sign first && begins_with_digit rest) || (is_prefix first && starts_with nat_eq rest (codes "0x"))

abbrev pub constant_words : List (List ℕ)
constant_words =
    codes "true" ∷ codes "false" ∷ codes "null" ∷ codes "none" ∷ codes "undef" ∷ codes "poison" ∷ codes "zeroinitializer" ∷ []

abbrev pub is_constant_word : List ℕ → Bool
is_constant_word word = is_number_word word || is_one_of constant_words word

-- casts, addresses, and pointers with a signature
abbrev pub address_words : List (List ℕ)
address_words =
    codes "getelementptr" ∷ codes "ptrtoint" ∷ codes "ptrtoaddr" ∷ codes "inttoptr" ∷ codes "bitcast" ∷
    codes "addrspacecast" ∷ codes "trunc" ∷ codes "blockaddress" ∷ codes "ptrauth" ∷ []

abbrev pub operation_words : List (List ℕ)
operation_words =
    codes "add" ∷ codes "sub" ∷ codes "mul" ∷ codes "xor" ∷ codes "shl" ∷ codes "icmp" ∷ codes "fcmp" ∷
    codes "extractelement" ∷ codes "insertelement" ∷ codes "shufflevector" ∷ codes "splat" ∷ []

-- a constant expression
abbrev pub is_expression : List ℕ → Bool
is_expression word = is_one_of address_words word || is_one_of operation_words word

abbrev pub reference_words : List (List ℕ)
reference_words = codes "dso_local_equivalent" ∷ codes "no_cfi" ∷ []

abbrev pub assembly_words : List (List ℕ)
assembly_words = codes "asm" ∷ []

abbrev pub is_value_word : List ℕ → Bool
is_value_word word =
    is_constant_word word || is_expression word || is_one_of reference_words word || is_one_of assembly_words word
