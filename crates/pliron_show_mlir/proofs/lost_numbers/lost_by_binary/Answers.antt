use Rattle.std.proofs.Common.{◌∙◌, ◌∷◌, [], ℤ, ap, sym, refl, arith, rules, FitsSigned, to_z, of_z}
use Rattle.std.specs.Int.{w128}
use Rattle.std.proofs.lemmas.Int.{to_z-of_z}
use Rattle.pliron_laws.specs.Datum.{Number}
use Rattle.pliron_show_mlir.proofs.LostLemmas.{two_numbers}
use Rattle.pliron_show_mlir.proofs.lost_numbers.lost_by_binary.Goals as goal

pub returns : goal.returns
returns c =
    let fits_first : FitsSigned w128 c.in_ok-first.first = search rules in
    let fits_second : FitsSigned w128 c.in_ok-second.second = search rules in
    let first : ℤ = to_z w128 (of_z w128 c.in_ok-first.first) in
    let second : ℤ = to_z w128 (of_z w128 c.in_ok-second.second) in (
      first ∷ second ∷ [],
      two_numbers c.args.input.now c.index-input-0.result c.index-input-1.result first second (omega arith) c.index-input-0.is c.index-input-1.is
          (c.in_ok-first.ensures ∙ ap Number (sym (to_z-of_z w128 c.in_ok-first.first fits_first)))
          (c.in_ok-second.ensures ∙ ap Number (sym (to_z-of_z w128 c.in_ok-second.second fits_second))),
      c.if-not-gives_nothing.ensures refl,
    )
