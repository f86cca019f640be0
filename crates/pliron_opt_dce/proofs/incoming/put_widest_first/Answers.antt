use Rattle.std.proofs.Common.{◌-◌, ◌^◌, rules}
use Rattle.std.proofs.lemmas.List.Sorted.{IsNonDecreasingBy-from_sort_by_key}
use Rattle.pliron_opt_dce.proofs.incoming.put_widest_first.Goals as goal

pub returns-clause-falling : goal.returns-clause-falling
returns-clause-falling c = IsNonDecreasingBy-from_sort_by_key (λ e. 2 ^ 64 - 1 - e.count) _ c.in_ok-sort_by_key.ensures.sorted (λ a r q k. search rules)
