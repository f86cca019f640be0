use Rattle.std.proofs.Common.{rules, ◌≡◌, ◌<◌, length, get_or, sym, ap, ◌∙◌, subst, arith}
use Rattle.std.proofs.Common.{⊎_elim}
use Rattle.std.proofs.lemmas.Option.{slice_get_within, get_or_from_slice_get}
use Rattle.std.proofs.lemmas.Bool.{cases_eq}
use Rattle.pliron_text.specs.Notation.{IsSoundOperation}
use Rattle.pliron_text.proofs.syntax.Syntax.are_operations_sound.Goals as goal

pub loop-number-preserved : goal.loop-number-preserved
loop-number-preserved c = λ n o lt at. ⊎_elim
    (λ e. let ops = c.args.self.now.operations.items in
    let same : c.index.result.now ≡ o = c.index.ensures ∙ ap (λ k. get_or ops k c.index.result.now) (sym e) ∙ get_or_from_slice_get ops n o c.index.result.now at in
    subst (IsSoundOperation c.args.self.now n) same (subst (λ k. IsSoundOperation c.args.self.now k c.index.result.now) (sym e) (c.is_operation_sound.ensures c.if-not-is_operation_sound.false)))
    (λ ne. c.loop-number.invariant n o (omega (arith, lt, ne)) at)
    (cases_eq n c.loop-number.number)

pub returns : goal.returns
returns c = λ h n o at.
    let lt : n < length c.args.self.now.operations.items = slice_get_within c.args.self.now.operations.items n o at in
    c.loop-number.invariant n o (search (rules, lt)) at
