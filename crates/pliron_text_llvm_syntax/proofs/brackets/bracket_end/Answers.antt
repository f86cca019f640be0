use Rattle.std.proofs.Common.{◌<◌, length, arith}
use Rattle.std.proofs.lemmas.Grind.{common_steps}
use Rattle.pliron_text_llvm_syntax.proofs.BracketLemmas.{closes_more, closes_all}
use Rattle.pliron_text_llvm_syntax.proofs.brackets.bracket_end.Goals as goal

pub loop-end-preserved : goal.loop-end-preserved
loop-end-preserved c =
    let some : 0 < length c.loop-end.stack.items = grind (arith, common_steps) in (
      omega (arith, c.in_ok-token.ensures.token, c.loop-end.invariant.0),
      omega (arith, c.in_ok-token.ensures.token),
      closes_more c.args.text.now c.args.stack.now.items c.loop-end.stack.items c.take.new.stack.items c.args.at c.loop-end.end c.in_ok-token.token
          c.loop-end.invariant.2 some c.in_ok-token.ensures.lexed c.in_ok-take.ensures.bracket,
    )

pub returns-in-None-clause-closed : goal.returns-in-None-clause-closed
returns-in-None-clause-closed c =
    closes_all c.args.text.now c.args.stack.now.items c.loop-end.stack.items c.args.at c.loop-end.end c.loop-end.invariant.2 (grind (arith, common_steps))
