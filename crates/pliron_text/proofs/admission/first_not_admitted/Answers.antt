use Rattle.std.proofs.Common.{rules, ◌≡◌, ◌<◌, length, get_or, sym, ap, ◌∙◌, subst, arith, ⊎_elim}
use Rattle.std.proofs.lemmas.Option.{slice_get_within, get_or_from_slice_get}
use Rattle.std.proofs.lemmas.Bool.{cases_eq}
use Rattle.pliron_dialect.specs.Roles.{meaning_by, role_at, allows_at}
use Rattle.pliron_text.specs.Notation.{IsAdmittedText}
use Rattle.pliron_text.proofs.admission.first_not_admitted.Goals as goal

pub loop-number-preserved : goal.loop-number-preserved
loop-number-preserved g c = (
  c.is_admitted-admits_operation.ensures.room,
  λ n o lt at. ⊎_elim
      (λ e. let ops = c.args.syntax.now.operations.items in
      let same : c.index.result.now ≡ o = c.index.ensures ∙ ap (λ k. get_or ops k c.index.result.now) (sym e) ∙ get_or_from_slice_get ops n o c.index.result.now at in
      subst (IsAdmittedText (meaning_by g.K.Roles.tables.value (role_at g.K.Roles.tables) (allows_at g.K.Roles.tables))) same (c.is_admitted-admits_operation.ensures.admitted c.if-not-admits_operation.false))
      (λ ne. c.loop-number.invariant.1 n o (omega (arith, lt, ne)) at)
      (cases_eq n c.loop-number.number),
)

pub returns : goal.returns
returns g c = λ none. record {
  root = c.is_admitted-admits_root.ensures.admitted c.if-not-admits_root.false;
  operations = λ n o at.
      let lt : n < length c.args.syntax.now.operations.items = slice_get_within c.args.syntax.now.operations.items n o at in
      c.loop-number.invariant.1 n o (search (rules, lt)) at;
}
