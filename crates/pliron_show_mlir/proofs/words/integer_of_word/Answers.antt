use Rattle.std.proofs.Common.{ap, ◌∙◌, rules, FitsSigned, to_z, of_z}
use Rattle.std.specs.Int.{w128}
use Rattle.std.specs.Str.{trim}
use Rattle.std.proofs.lemmas.Int.{to_z-of_z}
use Rattle.pliron_show_mlir.proofs.WordLemmas.{says_integer}
use Rattle.pliron_show_mlir.proofs.words.integer_of_word.Goals as goal

pub returns : goal.returns
returns c =
    let fits : FitsSigned w128 c.in_ok-value.value = search rules in
    says_integer c.args.word.now c.trim.result.now c.trim-2.result.now c.in_ok-width.width c.in_ok-value.value (to_z w128 (of_z w128 c.in_ok-value.value)) _ c.integer_datum.result
    (c.trim.ensures.trim ∙ ap trim c.value_and_type.ensures.type_name) (c.trim-2.ensures.trim ∙ ap trim c.value_and_type.ensures.value)
    c.in_ok-width.ensures.names c.in_ok-value.ensures (to_z-of_z w128 c.in_ok-value.value fits) c.integer_datum.ensures
