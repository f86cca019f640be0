use Rattle.std.proofs.Common.{true≢false, sym, ◌∙◌}
use Rattle.pliron_show_commands.proofs.PartLemmas.{some_when, unfit_found, whole_found}
use Rattle.pliron_show_commands.proofs.checking.check_text.Goals as goal

pub returns-in-Some-2 : goal.returns-in-Some-2
returns-in-Some-2 g c = unfit_found g.N.Notation.reads g.N.D.HasMeaning.meaning c.args.text.now _ _ _ _ (some_when _ _ _ c.in-Some.is c.in_ok-root.ensures.text) c.in_ok-found.ensures.none c.in_ok-found.ensures.fault c.in_ok-found.ensures.some c.in-Some-2.is

pub returns-in-None-2 : goal.returns-in-None-2
returns-in-None-2 g c = whole_found g.N.Notation.reads g.N.D.HasMeaning.meaning c.args.text.now _ _ (some_when _ _ _ c.in-Some.is c.in_ok-root.ensures.text) (λ it. true≢false (sym (c.is_container.ensures.1 it) ∙ c.if-is_container.false)) (c.in_ok-found.ensures.none.0 c.in-None-2.is)
