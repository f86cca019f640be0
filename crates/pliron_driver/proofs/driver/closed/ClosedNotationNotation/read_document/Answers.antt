use Rattle.pliron_driver.proofs.ClosedLemmas.{document_read}
use Rattle.pliron_driver.proofs.driver.closed.ClosedNotationNotation.read_document.Goals as goal

pub returns-clause-text : goal.returns-clause-text
returns-clause-text g c = document_read _ _ _ (λ read. read.root) c.read_document.result c.read_document.ensures.text
