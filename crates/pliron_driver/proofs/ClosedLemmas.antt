-- What is read and printed by a notation that is closed.
use Rattle.std.proofs.Common.{ℕ, List, Result, Ok, Err, IfOk}
use Rattle.pliron_core.specs.Tree.{Tree}
use Rattle.pliron_driver.specs.Answered.{Reads, Prints}
use Rattle.pliron_driver.specs.Closed.{closed_reads, closed_prints, read_closed, print_closed}

pub document_read : {M E : Type 0} (reads : Reads) (text : List ℕ) (tree : Tree) (root : M → ℕ) (r : Result M E) → IfOk r (λ read. reads text tree (root read)) → IfOk r (λ read. closed_reads reads text tree (root read))
document_read reads text tree root (Ok read) is = read_closed reads text tree (root read) is
document_read reads text tree root (Err e) is = tt

pub document_printed : {S E : Type 0} (prints : Prints) (tree : Tree) (root : ℕ) (bytes : S → List ℕ) (r : Result S E) → IfOk r (λ printed. prints tree root (bytes printed)) → IfOk r (λ printed. closed_prints prints tree root (bytes printed))
document_printed prints tree root bytes (Ok printed) is = print_closed prints tree root (bytes printed) is
document_printed prints tree root bytes (Err e) is = tt
