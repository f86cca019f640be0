use Rattle.std.proofs.Common.{rules, ◌∙◌, ap}
use Rattle.pliron_text_llvm_reader.specs.Cursors.{place_of, span_between, HasNext}
use Rattle.pliron_text_llvm_reader.proofs.CursorLemmas.{next_end}
use Rattle.pliron_text_llvm_reader.proofs.cursor.StatementCursor.opcode.Goals as goal

pub returns-clause-place : goal.returns-clause-place
returns-clause-place c =
    let left : HasNext c.args.self.now = search rules in
    c.since.ensures ∙ ap (λ n. span_between n c.skip_token.new.self.end) c.place-start.ensures.place
    ∙ ap (span_between (place_of c.args.self.now)) (c.skip_token.ensures.end ∙ next_end c.args.self.now c.args.self.now.end left)
