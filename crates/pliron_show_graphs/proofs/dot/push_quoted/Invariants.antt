use Rattle.std.proofs.Common.{◌≡◌, ◌++◌, ◌∷◌, take}
use Rattle.std.specs.List.{flat_map}
use Rattle.pliron_show_graphs.specs.Quoting.{written_byte}
use Rattle.pliron_show_graphs.proofs.dot.push_quoted.Given as goal

abbrev pub invariant-loop-byte : goal.invariant-loop-byte
invariant-loop-byte l = l.text.items ≡ l.fn.text.items ++ (34 ∷ flat_map written_byte (take l.byte-index l.value))
