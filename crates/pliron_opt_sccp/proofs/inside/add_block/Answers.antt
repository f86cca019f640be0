use Rattle.std.proofs.Common.{nat_eq}
use Rattle.pliron_opt_sccp.proofs.Numbered.{key_one}
use Rattle.pliron_opt_sccp.proofs.UserLists.{and_true}
use Rattle.pliron_opt_sccp.proofs.inside.add_block.Goals as goal

pub returns-clause-ok : goal.returns-clause-ok
returns-clause-ok c =
    let old = c.args.blocks.now.keys in
    let new = c.insert.new.self.keys in
    key_one (λ x y. and_true (nat_eq x y)) old new c.args.block c.in_ok-insert.ensures.keys
