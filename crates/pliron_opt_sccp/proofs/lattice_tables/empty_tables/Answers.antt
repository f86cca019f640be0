use Rattle.std.proofs.Common.{nat_eq, refl, arith}
use Rattle.pliron_opt_sccp.proofs.UserLists.{and_true, distinct_by}
use Rattle.pliron_opt_sccp.proofs.lattice_tables.empty_tables.Goals as goal

pub returns-clause-blocks : goal.returns-clause-blocks
returns-clause-blocks c = distinct_by (λ x y. and_true (nat_eq x y)) c.args.blocks.now.keys c.len.ensures.unique

pub returns-clause-values : goal.returns-clause-values
returns-clause-values c = (distinct_by (λ x y. refl) c.args.values.now.keys c.len-2.ensures.unique, omega (arith, c.len-2.ensures.len, c.len-2.ensures.small))
