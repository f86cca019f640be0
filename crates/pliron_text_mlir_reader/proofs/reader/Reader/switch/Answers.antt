use Rattle.std.proofs.lemmas.Option.{MatchOption-at_none}
use Rattle.pliron_text_mlir_reader.specs.SaidOf.{said_of, forms_of}
use Rattle.pliron_text_mlir_reader.proofs.SaidLemmas.{switch_forks}
use Rattle.pliron_text_mlir_reader.proofs.reader.Reader.switch.Goals as goal

pub returns-in-None-clause-same : goal.returns-in-None-clause-same
returns-in-None-clause-same c =
    switch_forks c.fork.new.self.sheet c.args.tail.now.shape (said_of c.args.self.now) (forms_of c.args.self.now c.args.pending.now c.args.tail.now) c.fork.result (MatchOption-at_none _ _ c.in-None.is c.in_ok-counts.ensures) c.fork.ensures.same
