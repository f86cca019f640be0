use Rattle.std.proofs.Common.{◌≡◌, ◌-◌, ◌∷◌, [], Some, map, refl, sym, subst}
use Rattle.std.specs.Prelude.{pos}
use Rattle.pliron_dialect_bench.specs.declared.kind.BenchKind.TheVariants.{Func, Const, Pair, Sink, Scope, Cbr}
use Rattle.pliron_laws.specs.Datum.{Number, Give, Goto, Leave, datum_of as content_of}
use Rattle.pliron_laws.specs.Tree.{Operation, op_at, shape_of}
use Rattle.pliron_dialect.specs.Counted.{first_edge_count, two_counts, values_of_edge}
use Rattle.pliron_dialect.specs.Roles.{act_of, first_attribute, fit_data as fit_or_empty}
use Rattle.pliron_dialect_bench.specs.BenchMoves.{bench, bench_role, bench_value, edge_taken}
use Rattle.pliron_evaluator.specs.Evaluator.{datum_of_value}
use Rattle.pliron_evaluator.proofs.BenchActs.{acts, by_head, by_operands, by_results, by_entry, by_target}
use Rattle.pliron_evaluator.proofs.evaluator.bench_moves.act.Goals as goal

pub returns-in-Func : goal.returns-in-Func
returns-in-Func c =
    let t = c.args.ctx.now.tree in
    let memo = datum_of_value c.args.memo.now in
    let input = map datum_of_value c.args.input.now in
    acts t c.args.op c.args.kind memo input c.func_move.result _ (by_entry t c.args.op c.args.kind memo input (Leave input) c.num_entry_argument.result Func c.in-Func.is c.num_entry_argument.ensures (λ s. refl)) c.func_move.ensures

pub returns-in-Const : goal.returns-in-Const
returns-in-Const c =
    let t = c.args.ctx.now.tree in
    let memo = datum_of_value c.args.memo.now in
    let input = map datum_of_value c.args.input.now in
    acts t c.args.op c.args.kind memo input c.const_move.result _ (by_head t c.args.op c.args.kind memo input (λ h. Give (content_of (first_attribute h.attrs) ∷ [])) Const c.head.result.now c.in-Const.is c.head.ensures (λ s. refl)) c.const_move.ensures

pub returns-in-Scope : goal.returns-in-Scope
returns-in-Scope c =
    let t = c.args.ctx.now.tree in
    let memo = datum_of_value c.args.memo.now in
    let input = map datum_of_value c.args.input.now in
    acts t c.args.op c.args.kind memo input c.scope_move.result _ (by_entry t c.args.op c.args.kind memo input (Give []) c.num_entry_argument-in-Scope.result Scope c.in-Scope.is c.num_entry_argument-in-Scope.ensures (λ s. refl)) c.scope_move.ensures

pub returns-in-Pair : goal.returns-in-Pair
returns-in-Pair c =
    let t = c.args.ctx.now.tree in
    let memo = datum_of_value c.args.memo.now in
    let input = map datum_of_value c.args.input.now in
    acts t c.args.op c.args.kind memo input c.pair_move.result _ (subst (λ n. (o : Operation) → op_at t c.args.op ≡ Some o → Give (fit_or_empty n (Number (pos 1) ∷ Number (pos 2) ∷ [])) ≡ act_of bench_value (bench_role c.args.kind) (shape_of bench t o) memo input) (sym c.num_result.ensures) (by_results t c.args.op c.args.kind memo input (λ n. Give (fit_or_empty n (Number (pos 1) ∷ Number (pos 2) ∷ []))) Pair c.in-Pair.is (λ s. refl))) c.pair_move.ensures

pub returns-in-Sink : goal.returns-in-Sink
returns-in-Sink c =
    let t = c.args.ctx.now.tree in
    let memo = datum_of_value c.args.memo.now in
    let input = map datum_of_value c.args.input.now in
    acts t c.args.op c.args.kind memo input c.pair_move-in-Sink.result _ (subst (λ n. (o : Operation) → op_at t c.args.op ≡ Some o → Give (fit_or_empty n (Number (pos 1) ∷ Number (pos 2) ∷ [])) ≡ act_of bench_value (bench_role c.args.kind) (shape_of bench t o) memo input) (sym c.num_result-in-Sink.ensures) (by_results t c.args.op c.args.kind memo input (λ n. Give (fit_or_empty n (Number (pos 1) ∷ Number (pos 2) ∷ []))) Sink c.in-Sink.is (λ s. refl))) c.pair_move-in-Sink.ensures

pub returns-in-Cbr : goal.returns-in-Cbr
returns-in-Cbr c =
    let t = c.args.ctx.now.tree in
    let memo = datum_of_value c.args.memo.now in
    let input = map datum_of_value c.args.input.now in
    acts t c.args.op c.args.kind memo input c.cbr_move.result _ (subst (λ n. (o : Operation) → op_at t c.args.op ≡ Some o → Goto (edge_taken input) (values_of_edge (two_counts (first_edge_count c.head-in-Cbr.result.now.attrs) (n - 1)) (edge_taken input) input) ≡ act_of bench_value (bench_role c.args.kind) (shape_of bench t o) memo input) (sym c.num_operand.ensures) (by_operands t c.args.op c.args.kind memo input (λ h n. Goto (edge_taken input) (values_of_edge (two_counts (first_edge_count h.attrs) (n - 1)) (edge_taken input) input)) Cbr c.head-in-Cbr.result.now c.in-Cbr.is c.head-in-Cbr.ensures (λ s. refl))) c.cbr_move.ensures

pub returns-in-Fork : goal.returns-in-Fork
returns-in-Fork c =
    let t = c.args.ctx.now.tree in
    let memo = datum_of_value c.args.memo.now in
    let input = map datum_of_value c.args.input.now in
    acts t c.args.op c.args.kind memo input c.fork_move.result _ (by_target t c.args.op c.args.kind memo input c.in-Fork.is c.requires.kind) c.fork_move.ensures
