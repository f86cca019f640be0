use Rattle.std.proofs.Common.{sym}
use Rattle.pliron_opt_rotate.proofs.testing.block_elsewhere.Goals as goal

pub returns-clause-stands : goal.returns-clause-stands
returns-clause-stands c = record {
  in_block = sym c.in-Some.ensures.block;
  in_region = c.is_in.ensures c.if-not-is_in.false;
  apart = c.is_same.ensures.apart c.if-is_same.false;
}
