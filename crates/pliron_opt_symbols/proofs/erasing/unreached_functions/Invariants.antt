use Rattle.pliron_opt_symbols.specs.Rows.{AreUnlisted}
use Rattle.pliron_opt_symbols.proofs.erasing.unreached_functions.Given as goal

abbrev pub invariant-loop-place : goal.invariant-loop-place
invariant-loop-place l = AreUnlisted l.functions l.search.pre l.place l.gone.items
