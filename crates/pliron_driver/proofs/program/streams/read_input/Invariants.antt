use Rattle.std.proofs.Common.{◌≡◌, ◌≤◌, length}
use Rattle.std.specs.Io.KnownBytes.{Consumes}
use Rattle.pliron_driver.proofs.program.streams.read_input.Given as goal

abbrev pub invariant-loop : goal.invariant-loop
invariant-loop g l = (length l.buffer ≡ 4096) × (length l.text.items ≤ 1048577) × Consumes (g.R.Read.remaining l.fn.input) (g.R.Read.remaining l.input) l.text.items
