use Rattle.std.proofs.Common.{rules, arith, subst}
use Rattle.pliron_text.specs.Notation.{AllBelow}
use Rattle.pliron_text.proofs.syntax.Syntax.is_root_sound.Goals as goal

pub returns : goal.returns
returns c = λ h. record { operands = subst (AllBelow c.args.self.now.values) c.as_slice.ensures (c.are_below.ensures h); no_successors = search (rules, arith) }
