use Rattle.std.proofs.Common.{refl, ap}
use Rattle.pliron_text_llvm_names.specs.Names.{key_of}
use Rattle.pliron_text_llvm_names.proofs.TableLemmas.{text_put, text_others}
use Rattle.pliron_text_llvm_names.proofs.table.LocalNameTable.put.Goals as goal

pub returns-in_ok-insert-in-Text-clause-put : goal.returns-in_ok-insert-in-Text-clause-put
returns-in_ok-insert-in-Text-clause-put c =
    text_put (record { alloc = c.args.self.now.alloc; numbers = c.args.self.now.numbers; texts = c.insert-in-Text.new.self })
    (key_of c.args.name) c.in-Text.text.now c.in_ok-key-in-Text.key.items c.args.number (ap key_of c.in-Text.is) c.in_ok-key-in-Text.ensures.items c.in_ok-insert-in-Text.ensures.updates.1

pub returns-in_ok-insert-in-Text-clause-others : goal.returns-in_ok-insert-in-Text-clause-others
returns-in_ok-insert-in-Text-clause-others c =
    text_others c.args.self.now (record { alloc = c.args.self.now.alloc; numbers = c.args.self.now.numbers; texts = c.insert-in-Text.new.self })
    (key_of c.args.name) c.in-Text.text.now c.in_ok-key-in-Text.key.items (ap key_of c.in-Text.is) c.in_ok-key-in-Text.ensures.items refl c.in_ok-insert-in-Text.ensures.updates.3
