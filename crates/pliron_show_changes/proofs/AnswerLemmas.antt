-- What is written of an answer.
use Rattle.std.proofs.Common.{◌≡◌, ℕ, List, Bool, IsTrue, subst, sym}
use Rattle.pliron_core.specs.Tree.{Tree}
use Rattle.pliron_show_places.specs.Layout.{words_of}
use Rattle.pliron_driver.specs.Answered.{Reads, Prints}
use Rattle.pliron_show_changes.specs.NamedAnswer.{ReadsAs, IsReadAlike, IsAnswerWritten, IsAnswerWritten.AsItIs, IsAnswerWritten.ByNames, IsWrittenAlike, IsWrittenAlike.Unchanged, IsWrittenAlike.Renamed}

module _ (reads : Reads) (prints : Prints) where
  pub reads_as : (answer text printed : List ℕ) (tree : Tree) (root : ℕ) (is : Bool) → reads text tree root → prints tree root printed → printed ≡ answer → IsTrue is → ReadsAs reads prints answer text
  reads_as answer text printed tree root is read so same h = record { tree = tree; root = root; read = read; printed = subst (prints tree root) same so }

  pub as_it_is : (answer output : List ℕ) → words_of output ≡ words_of answer → IsAnswerWritten reads prints answer output
  as_it_is answer output same = AsItIs same

  pub by_names : (answer text output : List ℕ) → ReadsAs reads prints answer text → words_of output ≡ words_of text → IsAnswerWritten reads prints answer output
  by_names answer text output so same = ByNames text so same

  pub printed_so : (text printed : List ℕ) (tree : Tree) (root : ℕ) → reads text tree root → prints tree root printed → ReadsAs reads prints printed text
  printed_so text printed tree root read so = record { tree = tree; root = root; read = read; printed = so }

  pub read_alike : (answer text first second : List ℕ) (is : Bool) → ReadsAs reads prints first answer → ReadsAs reads prints second text → first ≡ second → IsTrue is → IsReadAlike reads prints answer text
  read_alike answer text first second is of_answer of_text same h = record { printed = first; of_answer = of_answer; of_text = subst (λ printed. ReadsAs reads prints printed text) (sym same) of_text }

  pub unchanged : (answer output : List ℕ) → words_of output ≡ words_of answer → IsWrittenAlike reads prints answer output
  unchanged answer output same = Unchanged same

  pub renamed : (answer text output : List ℕ) → IsReadAlike reads prints answer text → words_of output ≡ words_of text → IsWrittenAlike reads prints answer output
  renamed answer text output alike same = Renamed text alike same
