-- The laws of all dialects, as this one keeps them.
use Rattle.pliron_laws.specs.Laws.{KeepsCounts, GivesAtOnce, ForwardsOperands, ActsWithoutArgument}
use Rattle.pliron_laws.specs.Folding.{AnswersTrue, AnswersJumps, MakesConstants, FoldsMonotonely}
use Rattle.pliron_laws.specs.OperandFolding.{AnswersOperands}
use Rattle.pliron_laws.specs.InPlace.{FoldsInPlace}
use Rattle.pliron_laws.specs.Entries.{NamesOperands, RootsNameNone}
use Rattle.pliron_laws.specs.declared.dialect.Interface.TheVariants.{RegionBranch}
use Rattle.pliron_dialect_bench.specs.declared.kind.BenchKind.TheVariants.{Const, Br}
use Rattle.pliron_dialect.specs.Roles.{RolesFit, role_at, allows_at}
use Rattle.pliron_dialect.specs.Parts.{roles_fit, constants_allowed, jumps_allowed, constant_named, jump_named}
use Rattle.pliron_dialect.specs.CountLaws.{keeps_counts, gives_at_once, acts_without_argument, makes_constants, names_operands, roots}
use Rattle.pliron_dialect.specs.FoldLaws.{answers_true, answers_jumps}
use Rattle.pliron_dialect.specs.OperandLaws.{answers_operands}
use Rattle.pliron_dialect.specs.BranchLaws.{SameTests, forwards_operands}
use Rattle.pliron_dialect.specs.Outcomes.{folds_in_place}
use Rattle.pliron_dialect.specs.Monotone.{folds_monotonely}
use Rattle.pliron_dialect_bench.specs.Bench.{number_of_kind, is_ssa, is_number_attribute}
use Rattle.pliron_dialect_bench.specs.BenchMoves.{bench_value, bench_tables, bench, bench_shortened}
use Rattle.pliron_dialect_bench.specs.BenchAnswers.{bench_side_effects, bench_removable, bench_folds, bench_constants, bench_accepts, bench_constant_head, bench_outcome, bench_operand_folds, bench_folds_branch, bench_feasible, bench_branch_outcome, bench_entry_operands, has_bench_interface}
use Rattle.pliron_dialect_bench.specs.BenchFits.{keeps_bench}

bench_fits : RolesFit (allows_at bench_tables) (role_at bench_tables)
bench_fits = roles_fit bench_tables keeps_bench

pub bench_counts : KeepsCounts bench
bench_counts = keeps_counts bench_value (role_at bench_tables) (allows_at bench_tables) bench_fits

pub bench_effects : GivesAtOnce bench bench_side_effects
bench_effects = gives_at_once bench_value (role_at bench_tables) (allows_at bench_tables) bench_fits

pub bench_forwards : ForwardsOperands bench bench_folds (SameTests bench_value (role_at bench_tables) (allows_at bench_tables) number_of_kind) bench_shortened
bench_forwards = forwards_operands bench_value (role_at bench_tables) (allows_at bench_tables) number_of_kind bench_fits

pub bench_arguments : ActsWithoutArgument bench bench_removable
bench_arguments = acts_without_argument bench_value (role_at bench_tables) (allows_at bench_tables)

pub bench_answers : AnswersTrue bench bench_folds bench_constants
bench_answers = answers_true bench_value (role_at bench_tables) (allows_at bench_tables) bench_fits

pub bench_operands : AnswersOperands bench bench_operand_folds
bench_operands = answers_operands bench_value (role_at bench_tables) (allows_at bench_tables) bench_fits

pub bench_jumps : AnswersJumps bench bench_folds_branch bench_feasible
bench_jumps = answers_jumps bench_value (role_at bench_tables) (allows_at bench_tables)

pub bench_in_place : FoldsInPlace bench bench_constants bench_accepts bench_constant_head bench_outcome bench_branch_outcome
bench_in_place = folds_in_place bench_value (role_at bench_tables) (allows_at bench_tables) is_number_attribute (number_of_kind Const) (is_ssa Const) (number_of_kind Br) (is_ssa Br) (jump_named bench_tables keeps_bench) (jumps_allowed bench_tables keeps_bench)

pub bench_makes : MakesConstants bench bench_accepts bench_constant_head
bench_makes = makes_constants bench_value (role_at bench_tables) (allows_at bench_tables) is_number_attribute (number_of_kind Const) (is_ssa Const) (constant_named bench_tables keeps_bench) (constants_allowed bench_tables keeps_bench)

pub bench_names : NamesOperands bench bench_entry_operands (λ h. has_bench_interface h RegionBranch)
bench_names = names_operands bench_value (role_at bench_tables) (allows_at bench_tables) bench_fits

pub bench_roots : RootsNameNone bench (λ h. has_bench_interface h RegionBranch)
bench_roots = roots bench_value (role_at bench_tables) (allows_at bench_tables)

pub bench_monotone : FoldsMonotonely bench bench_folds bench_folds_branch bench_constants bench_feasible
bench_monotone = folds_monotonely bench_value (role_at bench_tables) (allows_at bench_tables) bench_fits
