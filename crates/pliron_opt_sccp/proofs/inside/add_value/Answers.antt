use Rattle.std.proofs.Common.{refl}
use Rattle.pliron_opt_sccp.proofs.Numbered.{key_one}
use Rattle.pliron_opt_sccp.proofs.inside.add_value.Goals as goal

pub returns-clause-ok : goal.returns-clause-ok
returns-clause-ok c =
    let old = c.args.values.now.keys in
    let new = c.insert.new.self.keys in
    key_one (λ x y. refl) old new c.args.value c.in_ok-insert.ensures.keys
