use Rattle.std.proofs.Common.{◌^◌, ap, ◌∙◌, rules, to_z, unsigned_abs, FitsSigned}
use Rattle.std.specs.Prelude.{pos}
use Rattle.std.specs.Int.{w64, w128, int_rem_euclid}
use Rattle.std.proofs.lemmas.Int.{to_z-of_z}
use Rattle.pliron_dialect_bench.proofs.BenchNumberLemmas.{wrapped_is}
use Rattle.pliron_dialect_bench.proofs.numbers.wrap.Goals as goal

pub returns : goal.returns
returns c =
    let fits : FitsSigned w128 c.rem_euclid-bits.result = search rules in
    let value = c.rem_euclid-bits.ensures.value ∙ ap (λ z. int_rem_euclid z (pos (2 ^ 64))) (to_z-of_z w128 c.args.number c.ranges.number) in
    wrapped_is c.args.number c.rem_euclid-bits.result c.cast_signed.result value (c.cast_signed.ensures ∙ ap (λ z. to_z w64 (unsigned_abs z)) (to_z-of_z w128 c.rem_euclid-bits.result fits))
