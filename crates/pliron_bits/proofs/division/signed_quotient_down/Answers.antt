use Rattle.std.proofs.Common.{◌≡◌, ap, ap₂, ◌∙◌, rules, arith, FitsSigned, to_z, of_z}
use Rattle.std.specs.Int.{w128}
use Rattle.std.proofs.lemmas.Int.{to_z-of_z}
use Rattle.pliron_bits.specs.Numbers.{signed_value}
use Rattle.pliron_bits.specs.Arithmetic.{bits_in_reach, floor_of}
use Rattle.pliron_bits.proofs.QuotientLemmas.{otherwise}
use Rattle.pliron_bits.proofs.division.signed_quotient_down.Goals as goal

pub returns-else-b-eq0-clause-same : goal.returns-else-b-eq0-clause-same
returns-else-b-eq0-clause-same c =
    let fits_first : FitsSigned w128 c.signed_value.result = search rules in
    let fits_second : FitsSigned w128 c.signed_value-else-b-eq0.result = search rules in
    let fits : FitsSigned w128 c.floor.result = search rules in
    let first : to_z w128 (of_z w128 c.signed_value.result) ≡ signed_value c.args.width c.args.a = to_z-of_z w128 c.signed_value.result fits_first ∙ c.signed_value.ensures.same in
    let second : to_z w128 (of_z w128 c.signed_value-else-b-eq0.result) ≡ signed_value c.args.width c.args.b = to_z-of_z w128 c.signed_value-else-b-eq0.result fits_second ∙ c.signed_value-else-b-eq0.ensures.same in
    let quotient : to_z w128 (of_z w128 c.floor.result) ≡ floor_of (signed_value c.args.width c.args.a) (signed_value c.args.width c.args.b) = to_z-of_z w128 c.floor.result fits ∙ c.floor.ensures ∙ ap₂ floor_of first second in
    otherwise c.args.b c.bits_in_reach.result (bits_in_reach c.args.width (floor_of (signed_value c.args.width c.args.a) (signed_value c.args.width c.args.b))) (c.bits_in_reach.ensures.same ∙ ap (bits_in_reach c.args.width) quotient) (omega (arith, c.if-b-eq0.false))
