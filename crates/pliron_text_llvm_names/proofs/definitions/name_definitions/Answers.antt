use Rattle.pliron_text_llvm_names.specs.Definitions.{keys_of}
use Rattle.pliron_text_llvm_names.proofs.NamingLemmas.{distinct}
use Rattle.pliron_text_llvm_names.proofs.definitions.name_definitions.Goals as goal

pub returns-in-Ok-clause-distinct : goal.returns-in-Ok-clause-distinct
returns-in-Ok-clause-distinct c = distinct c.name_all.new.table (keys_of c.args.text.now c.args.definitions.now) c.in-Ok.ensures.index
