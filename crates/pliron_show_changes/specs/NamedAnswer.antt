-- What is written of an answer with other names.
use Rattle.std.specs.Prelude.{◌≡◌, ℕ, List}
use Rattle.pliron_core.specs.Tree.{Tree}
use Rattle.pliron_show_places.specs.Layout.{words_of}
use Rattle.pliron_driver.specs.Answered.{Reads, Prints}

module _ (reads : Reads) (prints : Prints) where
  -- the text reads as a tree whose operation is printed as this answer: so it is the answer with other names
  pub record ReadsAs (answer text : List ℕ) : Type 0 where
    pub tree : Tree
    pub root : ℕ
    pub read : reads text tree root
    pub printed : prints tree root answer

  -- what is written has the words of the answer, or of a text that is read as it, in the same order
  pub data IsAnswerWritten (answer output : List ℕ) : Type 0 where
    AsItIs : words_of output ≡ words_of answer → IsAnswerWritten answer output
    ByNames : (text : List ℕ) → ReadsAs answer text → words_of output ≡ words_of text → IsAnswerWritten answer output

  -- both texts read as trees whose operations are printed alike
  pub record IsReadAlike (answer text : List ℕ) : Type 0 where
    pub printed : List ℕ
    pub of_answer : ReadsAs printed answer
    pub of_text : ReadsAs printed text

  -- what is written has the words of the answer, or of a text that is read alike, in the same order
  pub data IsWrittenAlike (answer output : List ℕ) : Type 0 where
    Unchanged : words_of output ≡ words_of answer → IsWrittenAlike answer output
    Renamed : (text : List ℕ) → IsReadAlike answer text → words_of output ≡ words_of text → IsWrittenAlike answer output
