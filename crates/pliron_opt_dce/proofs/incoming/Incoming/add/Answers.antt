use Rattle.std.proofs.Common.{sym, ap, ◌∙◌}
use Rattle.std.specs.Option.{option_map}
use Rattle.pliron_laws.specs.Tree.{is_one_key}
use Rattle.indexmap.specs.IndexMap.{get}
use Rattle.pliron_opt_dce.proofs.incoming.Incoming.add.Goals as goal

pub returns-clause-known : goal.returns-clause-known
returns-clause-known g c block edges e inside =
    c.in_ok-is_first.ensures.known block edges (ap (λ z. option_map (λ v. v.items) (get is_one_key z block)) (sym c.note.ensures) ∙ e) inside
