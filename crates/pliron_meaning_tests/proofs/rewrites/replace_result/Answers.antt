use Rattle.std.proofs.Common.{rules, IsTrue, ◌≡◌, ap, arith, length}
use Rattle.pliron_core.specs.Tree.{IsLive, head_of, results_of, operands_of, regions_of}
use Rattle.pliron_core.proofs.HoldingLemmas.{some_of}
use Rattle.pliron_laws.specs.Datum.{datum_of}
use Rattle.pliron_meaning_tests.proofs.ReadConstants.{tiny_read}
use Rattle.pliron_meaning_tests.proofs.rewrites.replace_result.Goals as goal

pub replace_result_by_constant-requires-clause-constant : goal.replace_result_by_constant-requires-clause-constant
replace_result_by_constant-requires-clause-constant g c = λ v e.
    let t = c.args.ctx.now.tree in
    let live : IsLive t c.args.op = search rules in
    let is : IsTrue c.makes.result = search rules in
    let head = some_of (head_of t c.args.op) live in
    let made = c.makes.ensures head.0 head.1 is in
    let results : length (results_of t c.args.op) ≡ 1 = omega arith in
    let operands : length (operands_of t c.args.op) ≡ 0 = omega arith in
    let regions : length (regions_of t c.args.op) ≡ 0 = omega arith in
    tiny_read t c.args.op v head.0 _ c.well_formed-2.ensures.tree head.1 made.0 (ap datum_of made.1) results operands regions e
