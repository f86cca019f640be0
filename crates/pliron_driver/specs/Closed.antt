-- What a notation reads and prints, under names that proofs don't open: they have it only from the calls that read and print.
use Rattle.std.specs.Prelude.{ℕ, List}
use Rattle.pliron_core.specs.Tree.{Tree}
use Rattle.pliron_driver.specs.Answered.{Reads, Prints}

-- what the notation reads of the text
pub closed_reads : Reads → Reads
closed_reads reads text tree root = reads text tree root

-- what it prints of the operation
pub closed_prints : Prints → Prints
closed_prints prints tree root text = prints tree root text

-- for the impl of `ClosedNotation` alone
pub read_closed : (reads : Reads) (text : List ℕ) (tree : Tree) (root : ℕ) → reads text tree root → closed_reads reads text tree root
unfolding closed_reads
read_closed reads text tree root is = is

pub print_closed : (prints : Prints) (tree : Tree) (root : ℕ) (text : List ℕ) → prints tree root text → closed_prints prints tree root text
unfolding closed_prints
print_closed prints tree root text is = is
