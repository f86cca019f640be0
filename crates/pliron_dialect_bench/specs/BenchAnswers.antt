-- What the dialect answers of its operations, by the words of its tables: side effects, removal, folding, kinds and
-- interfaces.
use Rattle.std.specs.Prelude.{ℕ, Bool, List, Option}
use Rattle.pliron_core.specs.declared.attrs.AttrObj.{AttrObj}
use Rattle.pliron_dialect_bench.specs.declared.kind.BenchKind.{BenchKind}
use Rattle.pliron_dialect_bench.specs.declared.kind.BenchKind.TheVariants.{Const, Br}
use Rattle.pliron_laws.specs.declared.dialect.Interface.{Interface}
use Rattle.pliron_laws.specs.Datum.{Head, Shape}
use Rattle.pliron_laws.specs.Entries.{EntryOperands}
use Rattle.pliron_laws.specs.InPlace.{Outcome}
use Rattle.pliron_laws.specs.OperandFolding.{OperandFolds}
use Rattle.pliron_dialect.specs.Roles.{role_at, allows_at, effects_by, removable_by, folds_by, constants_by, branch_folds_by, feasible_by, entry_operands_by, is_of_number, interfaces_by, constant_head_of}
use Rattle.pliron_dialect.specs.OperandFolds.{operand_folds_by}
use Rattle.pliron_dialect.specs.Outcomes.{outcome_by, branch_outcome_by}
use Rattle.pliron_dialect_bench.specs.Bench.{number_of_kind, is_ssa, is_number_attribute}
use Rattle.pliron_dialect_bench.specs.BenchMoves.{bench_value, bench_tables}

abbrev pub bench_side_effects : Head → Option Bool
bench_side_effects = effects_by (role_at bench_tables)

abbrev pub bench_removable : Head → ℕ → Bool → Option Bool
bench_removable = removable_by (role_at bench_tables)

abbrev pub bench_folds : Head → Bool
bench_folds = folds_by (role_at bench_tables)

abbrev pub bench_constants : Shape → List (Option AttrObj) → List (Option AttrObj)
bench_constants = constants_by (role_at bench_tables)

-- a constant is made of a number within 64 signed bits
abbrev pub bench_accepts : AttrObj → Bool
bench_accepts = is_number_attribute

abbrev pub bench_constant_head : AttrObj → Head
bench_constant_head = constant_head_of (number_of_kind Const) (is_ssa Const)

abbrev pub bench_outcome : Outcome
bench_outcome = outcome_by bench_value (role_at bench_tables) (allows_at bench_tables) is_number_attribute (number_of_kind Const) (is_ssa Const)

abbrev pub bench_operand_folds : OperandFolds
bench_operand_folds = operand_folds_by (role_at bench_tables)

abbrev pub bench_folds_branch : Head → Bool
bench_folds_branch = branch_folds_by (role_at bench_tables)

abbrev pub bench_feasible : Shape → List ℕ → List (Option AttrObj) → List ℕ
bench_feasible = feasible_by (role_at bench_tables)

-- a branch whose edge is known becomes a `br`
abbrev pub bench_branch_outcome : Outcome
bench_branch_outcome = branch_outcome_by bench_value (role_at bench_tables) (allows_at bench_tables) (number_of_kind Br) (is_ssa Br)

abbrev pub bench_entry_operands : EntryOperands
bench_entry_operands = entry_operands_by (role_at bench_tables)

abbrev pub is_of_bench_kind : Head → BenchKind → Bool
is_of_bench_kind = is_of_number number_of_kind

abbrev pub has_bench_interface : Head → Interface → Bool
has_bench_interface = interfaces_by (role_at bench_tables)
