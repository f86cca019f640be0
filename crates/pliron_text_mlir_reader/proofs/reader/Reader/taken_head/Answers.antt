use Rattle.pliron_text_mlir_reader.specs.SaidOf.{said_of, forms_of}
use Rattle.pliron_text_mlir_reader.proofs.TakenLemmas.{taken_by_text}
use Rattle.pliron_text_mlir_reader.proofs.reader.Reader.taken_head.Goals as goal

pub invariant_of-result : goal.invariant_of-result
invariant_of-result c = record {
  taken =
      taken_by_text c.finish.new.self.sheet c.args.tail.now.shape (said_of c.args.self.now) (forms_of c.args.self.now c.args.pending.now c.args.tail.now) c.in_ok-head.head c.requires.from c.requires.to c.in_ok-head.ensures.same;
}
