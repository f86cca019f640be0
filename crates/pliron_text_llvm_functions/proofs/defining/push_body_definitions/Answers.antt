use Rattle.std.proofs.Common.{◌+◌, ◌++◌, ap, refl, rules, arith}
use Rattle.pliron_text_llvm_functions.specs.Bodies.{body_definitions}
use Rattle.pliron_text_llvm_functions.proofs.BodyLemmas.{body_more, given_more, given_all}
use Rattle.pliron_text_llvm_functions.proofs.defining.push_body_definitions.Goals as goal

pub loop-line-preserved : goal.loop-line-preserved
loop-line-preserved c = (
  ap (λ n. n + 1) c.loop-line.invariant.0,
  body_more (c.args.definitions.now.items ++ body_definitions c.args.lines.now) c.loop-line.definitions.items c.push_line.new.definitions.items c.args.lines.now c.loop-line.line-index _ c.loop-line.begins
      c.begins_behind-begins.result c.loop-line.number (c.loop-line.number + 1) (omega arith) c.loop-line.invariant.1 c.in_ok-push_line.ensures.added (search rules) refl,
  given_more c.args.lines.now c.loop-line.line-index _ (omega arith) c.loop-line.invariant.2 c.in_ok-push_line.ensures.given,
)

pub returns-clause-given : goal.returns-clause-given
returns-clause-given c = given_all c.args.lines.now c.loop-line.line-index (omega arith) c.loop-line.invariant.2
