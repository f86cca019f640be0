use Rattle.std.proofs.Common.{◌≡◌, ◌++◌, map, take}
use Rattle.pliron_show_places.specs.Isolated.{blank_of}
use Rattle.pliron_show_places.proofs.isolated.push_blanks.Given as goal

abbrev pub invariant-loop-byte : goal.invariant-loop-byte
invariant-loop-byte l = l.text.items ≡ l.fn.text.items ++ map blank_of (take l.byte-index l.bytes)
