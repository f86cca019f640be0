-- Rules on sums, as a table from views to terms.
use Rattle.std.specs.Prelude.{if◌then◌else◌, nat_eq, ℕ, Bool, List, [], ◌∷◌, Option, Some, None, ℤ, pos}
use Rattle.std.specs.Int.{w64, int_wrap}
use Rattle.pliron_core.specs.declared.attrs.AttrObj.{AttrObj}
use Rattle.pliron_core.specs.declared.attrs.AttrObj.TheVariants.{Int, Text}
use Rattle.pliron_core.specs.declared.attrs.Head.{Head}
use Rattle.pliron_dialect_bench.specs.declared.kind.BenchKind.{BenchKind}
use Rattle.pliron_dialect_bench.specs.declared.kind.BenchKind.TheVariants.{Add, Mul}
use Rattle.pliron_dialect_bench.specs.Bench.{number_of_kind, plain_head}
use Rattle.pliron_dialect_bench.specs.BenchNumbers.{wrapping_sum}
use Rattle.pliron_rewrite_rules.specs.declared.view.Leaf.{Leaf}
use Rattle.pliron_rewrite_rules.specs.declared.view.Leaf.TheVariants.{Unknown, Known}
use Rattle.pliron_rewrite_rules.specs.declared.view.Operand.{Operand}
use Rattle.pliron_rewrite_rules.specs.declared.view.Operand.TheVariants.{Plain, Made}
use Rattle.pliron_rewrite_rules.specs.declared.view.View.{View}
use Rattle.pliron_rewrite_rules.specs.declared.term.Atom.TheVariants.{Named, Constant}
use Rattle.pliron_rewrite_rules.specs.declared.term.Term.{Term}
use Rattle.pliron_rewrite_rules.specs.declared.term.Term.TheVariants.{Make}
use Rattle.pliron_rewrite_rules.specs.Views.{leaf_value, operand_value}
use Rattle.pliron_bench_rules.specs.declared.Addend.{Addend}

-- whether an operation with this head is of the kind
abbrev pub is_kind : BenchKind → Head → Bool
is_kind kind head = nat_eq head.kind (number_of_kind kind)

-- a constant as a number of 64 signed bits, where a text counts as 0
abbrev pub number_of_attribute : AttrObj → ℤ
number_of_attribute (Int n) = int_wrap w64 n
number_of_attribute (Text s) = pos 0

-- the number that an operand is known to be
abbrev pub known_leaf : Leaf → Option ℤ
known_leaf (Unknown v) = None
known_leaf (Known v c) = Some (number_of_attribute c)

abbrev pub known_operand : Operand → Option ℤ
known_operand (Plain leaf) = known_leaf leaf
known_operand (Made v head leaves) = None

abbrev pub part_with : ℕ → Option ℤ → Option Addend
part_with v None = None
part_with v (Some n) = Some (record { value = v; number = n })

-- the value of the first of two leaves, and the number that the second one is known to be
abbrev pub part_of_leaves : List Leaf → Option Addend
part_of_leaves (x ∷ y ∷ []) = part_with (leaf_value x) (known_leaf y)
part_of_leaves _ = None

-- what the operand is the sum of, where the second is known
abbrev pub part_of : Operand → Option Addend
part_of (Plain leaf) = None
part_of (Made v head leaves) = if is_kind Add head then part_of_leaves leaves else None

-- an operation of the kind, of a value and a number
abbrev pub term_with_number : BenchKind → ℕ → ℤ → Term
term_with_number kind v n = Make (plain_head kind) (Named v ∷ Constant (Int n) ∷ [])

-- two numbers become one: `(x + c) + d` is `x + (c + d)`
abbrev pub join_with : Option Addend → Option ℤ → Option Term
join_with (Some part) (Some n) = Some (term_with_number Add part.value (wrapping_sum part.number n))
join_with _ _ = None

abbrev pub join_of : (a b : Operand) → Option Term
join_of a b = join_with (part_of a) (known_operand b)

-- `x + x` is `x * 2`
abbrev pub double_of : (a b : Operand) → Option Term
double_of a b = if nat_eq (operand_value a) (operand_value b) then Some (term_with_number Mul (operand_value a) (pos 2)) else None

abbrev pub first_of_two : Option Term → Option Term → Option Term
first_of_two (Some term) other = Some term
first_of_two None other = other

abbrev pub rules_of_two : Head → (a b : Operand) → Option Term
rules_of_two head a b = if is_kind Add head then first_of_two (join_of a b) (double_of a b) else None

abbrev pub by_operands : Head → List Operand → Option Term
by_operands head (a ∷ b ∷ []) = rules_of_two head a b
by_operands head _ = None

abbrev pub bench_rules : View → Option Term
bench_rules view = by_operands view.head view.operands
