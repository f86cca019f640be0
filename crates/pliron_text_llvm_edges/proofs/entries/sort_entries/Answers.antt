use Rattle.std.proofs.Common.{rules}
use Rattle.std.proofs.lemmas.List.Sorted.{IsNonDecreasingBy-from_sort_by_key}
use Rattle.pliron_text_llvm_edges.proofs.entries.sort_entries.Goals as goal

pub returns-clause-order : goal.returns-clause-order
returns-clause-order c = IsNonDecreasingBy-from_sort_by_key (λ entry. entry.block) _ c.in_ok-sort_by_key.ensures.sorted (λ a r q k. search rules)
