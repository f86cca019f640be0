use Rattle.std.proofs.Common.{◌+◌, ap}
use Rattle.pliron_text_llvm_names.proofs.NamingLemmas.{named_more}
use Rattle.pliron_text_llvm_names.proofs.definitions.name_all.Goals as goal

pub loop-definition-preserved : goal.loop-definition-preserved
loop-definition-preserved c = (
  ap (λ n. n + 1) c.loop-definition.invariant.0,
  named_more c.args.text.now c.args.definitions.now c.loop-definition.definition-index c.loop-definition.number c.loop-definition.next c.in_ok-next.next _ c.loop-definition.table c.name_definition.new.table
      c.loop-definition.invariant.0 c.loop-definition-test.true c.loop-definition.invariant.1 c.in_ok-next.ensures,
)
