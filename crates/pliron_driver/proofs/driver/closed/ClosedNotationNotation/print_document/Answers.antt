use Rattle.pliron_driver.proofs.ClosedLemmas.{document_printed}
use Rattle.pliron_driver.proofs.driver.closed.ClosedNotationNotation.print_document.Goals as goal

pub returns : goal.returns
returns g c = document_printed _ _ _ (λ printed. printed.items) c.print_document.result c.print_document.ensures
