-- Parts that are printed one behind another.
use Rattle.std.proofs.Common.{◌≡◌, ℕ, ◌+◌, ◌<◌, ◌≤◌, List, [], ◌∷◌, ◌++◌, length, get_or, take, sym, ap, ◌∙◌, subst}
use Rattle.std.proofs.lemmas.List.{take_all, take_more}
use Rattle.pliron_text_llvm_parts.specs.declared.parts.SheetPart.{SheetPart}
use Rattle.pliron_text_llvm_parts.specs.PrintedParts.{IsPrintedPart, ArePrintedParts, ArePrintedParts.Nothing, ArePrintedParts.Behind}

module _ (text : List ℕ) (IsText : ℕ → List ℕ → Type 0) where
  pub printed_none : (parts : List SheetPart) (printed : List ℕ) → printed ≡ [] → ArePrintedParts text IsText (take 0 parts) printed
  printed_none parts printed e = subst (ArePrintedParts text IsText []) (sym e) Nothing

  pub printed_more : (parts : List SheetPart) (i : ℕ) (part : SheetPart) (before after : List ℕ) → i < length parts → ArePrintedParts text IsText (take i parts) before
      → part ≡ get_or parts i part → (bytes : List ℕ) × (after ≡ before ++ bytes) × IsPrintedPart text IsText part bytes → ArePrintedParts text IsText (take (i + 1) parts) after
  printed_more parts i part before after less h at more =
      let whole : take i parts ++ part ∷ [] ≡ take (i + 1) parts = ap (λ p. take i parts ++ p ∷ []) at ∙ sym (take_more parts i part less) in
      subst (ArePrintedParts text IsText (take (i + 1) parts)) (sym more.1)
      (subst (λ ps. ArePrintedParts text IsText ps (before ++ more.0)) whole (Behind part more.0 h more.2))

  pub printed_all : (parts : List SheetPart) (i : ℕ) (printed : List ℕ) → length parts ≤ i → ArePrintedParts text IsText (take i parts) printed → ArePrintedParts text IsText parts printed
  printed_all parts i printed past h = subst (λ ps. ArePrintedParts text IsText ps printed) (take_all i parts past) h
