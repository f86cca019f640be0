use Rattle.std.proofs.Common.{◌≡◌, ◌+◌, ◌++◌, vec_len, vec_capacity}
use Rattle.pliron_core.specs.Making.{definitions_of}
use Rattle.pliron_core.proofs.arguments.write_definitions.Given as goal

abbrev pub invariant-loop-i : goal.invariant-loop-i
invariant-loop-i l = record {
  items : l.written.items ≡ l.fn.written.items ++ definitions_of l.maker l.i;
  len : vec_len l.written ≡ vec_len l.fn.written + l.i;
  capacity : vec_capacity l.written ≡ vec_capacity l.fn.written;
}
