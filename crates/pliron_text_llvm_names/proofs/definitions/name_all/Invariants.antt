-- The definitions up to here have their names.
use Rattle.std.proofs.Common.{◌≡◌}
use Rattle.pliron_text_llvm_names.proofs.NamingLemmas.{AreNamedUpTo}
use Rattle.pliron_text_llvm_names.proofs.definitions.name_all.Given as goal

abbrev pub invariant-loop-definition : goal.invariant-loop-definition
invariant-loop-definition l = (l.number ≡ l.definition-index) × AreNamedUpTo l.text l.definitions l.definition-index l.next l.table
