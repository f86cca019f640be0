use Rattle.std.proofs.Common.{map}
use Rattle.pliron_text_llvm_reader.specs.Bodies.{line_of}
use Rattle.pliron_text_llvm_reader.proofs.BodyLemmas.{lines_read, rows_grown}
use Rattle.pliron_text_llvm_reader.proofs.body.read_lines.Goals as goal

pub loop-line-preserved : goal.loop-line-preserved
loop-line-preserved c = (
  rows_grown c.args.text.now c.loop-line.body.lines.items c.push.new.self.items c.loop-line.body.holes.items c.read_line.new.holes.items c.in_ok-read.read
      c.loop-line.invariant.0 c.in_ok-read.ensures.adds c.in_ok-push.ensures.items,
  lines_read (map line_of c.args.body.now.lines.items) c.loop-line.body.lines.items c.push.new.self.items c.in_ok-read.read c.args.lines.now c.loop-line.line-index _
      c.in_ok-read.ensures.line c.loop-line-test.true c.loop-line.invariant.1 c.in_ok-push.ensures.items,
  c.loop-line.invariant.2,
)
