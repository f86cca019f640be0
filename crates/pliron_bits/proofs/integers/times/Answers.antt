use Rattle.std.proofs.Common.{ap₂, ap, ◌∙◌, ◌*ℤ◌, ◌^◌, lit<, FitsSigned, to_z, of_z}
use Rattle.std.specs.Int.{w128}
use Rattle.std.proofs.lemmas.Int.{to_z-of_z, fits_signed_mul}
use Rattle.pliron_bits.proofs.integers.times.Goals as goal

pub returns : goal.returns
returns c =
    let both : FitsSigned w128 (c.args.a *ℤ c.args.b) = fits_signed_mul w128 c.args.a c.args.b (2 ^ 63) (2 ^ 63) c.requires.first c.requires.second (lit< tt) in
    ap (λ z. to_z w128 (of_z w128 z)) (ap₂ (λ x y. x *ℤ y) (to_z-of_z w128 c.args.a c.ranges.a) (to_z-of_z w128 c.args.b c.ranges.b))
    ∙ to_z-of_z w128 (c.args.a *ℤ c.args.b) both
