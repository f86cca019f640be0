-- The cases that were found are as many as the successors but the first.
use Rattle.std.proofs.Common.{◌≡◌, [], None, Some, length, map, sym, ap, ◌∙◌, subst, arith}
use Rattle.std.specs.Prelude.{IfOk, MatchOption}
use Rattle.pliron_text_llvm_classes.specs.FormWords.{words_of_form, cases_from}
use Rattle.pliron_text_llvm_classes.proofs.WordLemmas.{now_of, cases_said}
use Rattle.pliron_text_llvm_classes.proofs.class.switch_cases.Goals as goal

pub returns-then-len-saturating_sub : goal.returns-then-len-saturating_sub
returns-then-len-saturating_sub c =
    let cases-is = c.deref-then-len-saturating_sub.ensures.value in
    subst (λ o. IfOk c.all_bits.result (λ found. MatchOption found (o ≡ None) (λ cases. o ≡ Some cases.items)))
    (sym (
    cases_said
    c.args.width
    c.args.successors
    (words_of_form c.args.form.now)
    c.deref-then-len-saturating_sub.result.now
    (omega (arith, ap length cases-is))
    (ap now_of cases-is ∙ c.in_ok-cases.ensures ∙ ap (cases_from []) (ap now_of c.deref.ensures.value ∙ c.in_ok-words.ensures))
    ))
    c.all_bits.ensures
