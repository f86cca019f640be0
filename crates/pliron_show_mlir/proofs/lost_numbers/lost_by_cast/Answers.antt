use Rattle.std.proofs.Common.{◌∙◌, ◌∷◌, [], ℤ, ap, sym, refl, arith, rules, FitsSigned, to_z, of_z}
use Rattle.std.specs.Int.{w128}
use Rattle.std.proofs.lemmas.Int.{to_z-of_z}
use Rattle.pliron_laws.specs.Datum.{Number}
use Rattle.pliron_show_mlir.proofs.LostLemmas.{one_number}
use Rattle.pliron_show_mlir.proofs.lost_numbers.lost_by_cast.Goals as goal

pub returns-then-gives_nothing : goal.returns-then-gives_nothing
returns-then-gives_nothing c =
    let fits : FitsSigned w128 c.in_ok-number.number = search rules in
    let number : ℤ = to_z w128 (of_z w128 c.in_ok-number.number) in (
      number ∷ [],
      one_number c.args.input.now c.index-input-0.result number (omega arith) c.index-input-0.is
          (c.in_ok-number.ensures ∙ ap Number (sym (to_z-of_z w128 c.in_ok-number.number fits))),
      c.if-gives_nothing.ensures refl,
    )
