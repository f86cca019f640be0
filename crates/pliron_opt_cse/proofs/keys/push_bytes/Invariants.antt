use Rattle.std.proofs.Common.{◌≡◌, ◌++◌, take}
use Rattle.pliron_opt_cse.proofs.keys.push_bytes.Given as goal

abbrev pub invariant-loop-byte : goal.invariant-loop-byte
invariant-loop-byte l = l.words.items ≡ l.fn.words.items ++ take l.byte-index l.bytes
