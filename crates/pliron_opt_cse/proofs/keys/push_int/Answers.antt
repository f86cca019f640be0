use Rattle.std.proofs.Common.{◌++◌, ◌∷◌, [], ap, sym, ◌∙◌, append_assoc, FitsSigned, rules}
use Rattle.std.specs.Int.{w128}
use Rattle.std.proofs.lemmas.Int.{to_z-of_z}
use Rattle.pliron_opt_cse.specs.Keys.{int_words, size_words}
use Rattle.pliron_opt_cse.proofs.keys.push_int.Goals as goal

pub returns-then-number-lt0-clause-words : goal.returns-then-number-lt0-clause-words
returns-then-number-lt0-clause-words c =
    let old = c.args.words.now.items in
    let fits : FitsSigned w128 c.args.number = search rules in
    c.in_ok-push_size.ensures.words ∙ ap (λ z. z ++ size_words c.size_below.result) c.in_ok-push.ensures.items ∙ append_assoc old (1 ∷ []) (size_words c.size_below.result) ∙ ap (λ z. old ++ int_words z) (sym c.size_below.ensures ∙ to_z-of_z w128 c.args.number fits)

pub returns-clause-words : goal.returns-clause-words
returns-clause-words c =
    let old = c.args.words.now.items in
    let fits : FitsSigned w128 c.args.number = search rules in
    c.in_ok-push_size-2.ensures.words ∙ ap (λ z. z ++ size_words c.size_of.result) c.in_ok-push-2.ensures.items ∙ append_assoc old (0 ∷ []) (size_words c.size_of.result) ∙ ap (λ z. old ++ int_words z) (sym c.size_of.ensures ∙ to_z-of_z w128 c.args.number fits)
