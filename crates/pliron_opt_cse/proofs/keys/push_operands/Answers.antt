use Rattle.pliron_core.specs.Tree.{operands_of}
use Rattle.pliron_laws.specs.EdgeChecks.{region_around}
use Rattle.pliron_opt_cse.proofs.KeyLemmas.{some_operand_words, no_operand_words}
use Rattle.pliron_opt_cse.proofs.keys.push_operands.Goals as goal

pub returns-then-count-eq0-clause-words : goal.returns-then-count-eq0-clause-words
returns-then-count-eq0-clause-words c =
    no_operand_words (operands_of c.args.ctx.now.tree c.args.op) (region_around c.args.ctx.now.tree c.args.op) c.num_operand-count.result c.args.words.now.items c.push.new.self.items c.push_region.new.words.items c.num_operand-count.ensures c.if-count-eq0.true c.in_ok-push.ensures.items c.in_ok-push_region.ensures.words

pub returns-clause-words : goal.returns-clause-words
returns-clause-words c =
    some_operand_words (operands_of c.args.ctx.now.tree c.args.op) (region_around c.args.ctx.now.tree c.args.op) c.num_operand-count.result c.args.words.now.items c.push.new.self.items c.push_values.new.words.items c.num_operand-count.ensures c.if-count-eq0.false c.in_ok-push.ensures.items c.in_ok-push_values.ensures.words
