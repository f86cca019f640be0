-- How the parts of a module are printed.
use Rattle.std.specs.Prelude.{◌≡◌, ℕ, List, [], ◌∷◌, ◌++◌}
use Rattle.pliron_text_llvm_syntax.specs.Tokens.{bytes_of_span}
use Rattle.pliron_text_llvm_parts.specs.declared.parts.SheetPart.{SheetPart}
use Rattle.pliron_text_llvm_parts.specs.declared.parts.SheetPart.TheVariants.{Raw, Function}

module _ (text : List ℕ) (IsText : (function : ℕ) → List ℕ → Type 0) where
  -- raw text is printed as it is in the text, and a function by a text that it has
  abbrev pub IsPrintedPart : SheetPart → List ℕ → Type 0
  IsPrintedPart (Raw span) printed = printed ≡ bytes_of_span text span
  IsPrintedPart (Function function) printed = IsText function printed

  -- each part is printed behind those before it
  pub data ArePrintedParts : List SheetPart → List ℕ → Type 0 where
    Nothing : ArePrintedParts [] []
    Behind : {parts : List SheetPart} {printed : List ℕ} (part : SheetPart) (bytes : List ℕ)
        → ArePrintedParts parts printed → IsPrintedPart part bytes → ArePrintedParts (parts ++ part ∷ []) (printed ++ bytes)
