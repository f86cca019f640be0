use Rattle.std.proofs.Common.{◌<◌, length, arith}
use Rattle.std.proofs.lemmas.Bool.{false≢true}
use Rattle.std.proofs.lemmas.Option.{slice_get_within}
use Rattle.pliron_core.specs.Arguments.{argument_row_of}
use Rattle.pliron_core.proofs.TableLemmas.{at-within}
use Rattle.pliron_core.proofs.arguments.Arguments.is_at.Goals as goal
use Rattle.pliron_core.proofs.arguments.Arguments.is_at.Goals.{else-index-num_blocks-via-then-index-num_blocks+else-i-len, else-index-num_blocks-via-else-index-num_blocks}

pub returns-else-index-num_blocks : goal.returns-else-index-num_blocks
returns-else-index-num_blocks c = elim c.else-index-num_blocks.branch [
  | else-index-num_blocks-via-then-index-num_blocks+else-i-len w ↦ (λ e. absurd (false≢true e), λ e. let h : c.args.i < length (argument_row_of c.args.self.now c.args.block) = slice_get_within _ _ _ e in absurd (omega (arith, h, w.len.ensures, w.if-i-len)))
  | else-index-num_blocks-via-else-index-num_blocks w ↦ (λ e. absurd (false≢true e), λ e. let h : c.args.block < length c.args.self.now.rows = at-within _ _ _ _ e in absurd (omega (arith, h, c.index.ensures, c.num_blocks.ensures, w.if-index-num_blocks)))
]
