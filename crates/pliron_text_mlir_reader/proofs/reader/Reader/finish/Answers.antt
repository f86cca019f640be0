use Rattle.std.proofs.Common.{rules, ◌≡◌}
use Rattle.pliron_text_mlir_reader.specs.Known.{known_in_quotes}
use Rattle.pliron_text_mlir_reader.specs.SaidOf.{said_of, forms_of}
use Rattle.pliron_text_mlir_reader.specs.Taken.{class_taken}
use Rattle.pliron_text_mlir_reader.proofs.TakenLemmas.{other_taken}
use Rattle.pliron_text_mlir_reader.proofs.reader.Reader.finish.Goals as goal

pub returns-in_default : goal.returns-in_default
returns-in_default c =
    let pending = c.args.pending.now in
    let shape = c.args.tail.now.shape in
    let named : pending.known ≡ known_in_quotes pending.name.now = search rules in
    let class = c.class_taken-class.result in
    let at : class ≡ class_taken pending.known.class shape = c.class_taken-class.ensures.same in
    record {
      same = other_taken c.head.new.self.sheet pending.known shape (said_of c.args.self.now) (forms_of c.args.self.now pending c.args.tail.now) class c.head.result named at
          c.in_default.not-Constant c.in_default.not-Branch c.in_default.not-Switch c.head.ensures.same;
      kind = search rules;
      kept = c.head.ensures.kept;
    }
