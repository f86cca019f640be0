use Rattle.std.proofs.Common.{arith}
use Rattle.pliron_show_mlir.proofs.WordLemmas.{parts_by_first, shorter_behind}
use Rattle.pliron_show_mlir.proofs.words.split_part.Goals as goal

pub returns : goal.returns
returns c = record {
  parts = parts_by_first c.args.word.now c.split_once.result (c.split_once.ensures.byte (omega arith) (λ w o finds. finds));
  shorter = shorter_behind c.args.word.now c.split_once.result (c.split_once.ensures.byte (omega arith) (λ w o finds. finds));
}
