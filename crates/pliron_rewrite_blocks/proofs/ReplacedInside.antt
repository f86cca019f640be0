-- The uses of a block's argument go to another value.
use Rattle.std.proofs.Common.{sym, subst}
use Rattle.pliron_core.specs.Changes.{IsDefiningOperationInside}
use Rattle.pliron_core.proofs.WriteInsideLemmas.{replaced_inside}
use Rattle.pliron_rewrite_blocks.specs.Inside.{ReplacedInsideLaw}

pub replaced_argument : ReplacedInsideLaw
replaced_argument t op block i p v w holds at = replaced_inside t op p v w.joined (subst (IsDefiningOperationInside t op) (sym (w.joined.arguments block i p at)) holds)
