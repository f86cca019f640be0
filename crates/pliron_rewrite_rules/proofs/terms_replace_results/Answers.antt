use Rattle.pliron_rewrite_rules.proofs.Applying.{term_laws}
use Rattle.pliron_rewrite_rules.proofs.ShownLemmas.{lawful}
use Rattle.pliron_rewrite_rules.proofs.terms_replace_results.Goals as goal

pub returns : goal.returns
returns g c =
    let d = g.met.D.Dialect in
    term_laws _ (lawful _ _ _ d.keeps_counts d.gives_at_once d.answers_true d.makes_constants d.forwards_operands)
