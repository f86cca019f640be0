-- Parts that are printed one after another.
use Rattle.std.proofs.Common.{◌≡◌, ℕ, zero, suc, ◌+◌, ◌<◌, ◌≤◌, List, [], ◌∷◌, ◌++◌, length, map, get_or, drop, sym, ap, ◌∙◌, subst, append_assoc, arith}
use Rattle.std.proofs.lemmas.List.{drop_more, drop_all, append-nil}
use Rattle.pliron_text_llvm_syntax.specs.declared.tokens.ByteSpan.{ByteSpan}
use Rattle.pliron_text_llvm_syntax.specs.Parts.{span_of_part, AreConsecutive}
use Rattle.pliron_text_llvm_syntax.proofs.PartLemmas.{consecutive_le}
use Rattle.pliron_text_llvm_modules.specs.declared.module.ReadPart.{ReadPart}
use Rattle.pliron_text_llvm_modules.specs.Modules.{module_part_of, printed_part, number_behind_part, printed_from}

-- a part between bytes of a text
abbrev pub IsWithin : List ℕ → ReadPart → Type 0
IsWithin text part =
    ((span_of_part (module_part_of part)).start ≤ (span_of_part (module_part_of part)).end)
    × ((span_of_part (module_part_of part)).end ≤ length text)

-- each part is in the text
pub part_within : (text : List ℕ) (start : ℕ) (parts : List ReadPart) (i : ℕ) (part : ReadPart) → AreConsecutive start (length text) (map module_part_of parts)
    → i < length parts → part ≡ get_or parts i part → IsWithin text part
part_within text start [] i part h less is = absurd (omega (arith, less))
part_within text start (first ∷ parts) zero part h less is =
    let span : ByteSpan = span_of_part (module_part_of first) in
    subst (IsWithin text) (sym is) (omega (arith, h.0, h.1), consecutive_le span.end (length text) (map module_part_of parts) h.2)
part_within text start (first ∷ parts) (suc i) part h less is =
    part_within text (span_of_part (module_part_of first)).end parts i part h.2 (omega (arith, less)) is

-- a part more was printed
pub print_step : (text : List ℕ) (texts : List (List ℕ)) (parts : List ReadPart) (i number : ℕ) (part : ReadPart) (out piece after whole : List ℕ) → i < length parts → part ≡ get_or parts i part
    → out ++ printed_from text texts number (drop i parts) ≡ whole
    → piece ≡ printed_part text part (get_or texts number []) → after ≡ out ++ piece
    → after ++ printed_from text texts (number_behind_part number part) (drop (i + 1) parts) ≡ whole
print_step text texts parts i number part out piece after whole less is h piece-is after-is =
    let rest : List ℕ = printed_from text texts (number_behind_part number part) (drop (i + 1) parts) in
    ap (λ bytes. bytes ++ rest) (after-is ∙ ap (λ bytes. out ++ bytes) piece-is)
    ∙ append_assoc out (printed_part text part (get_or texts number [])) rest
    ∙ sym (ap (λ left. out ++ printed_from text texts number left) (drop_more parts i part less ∙ ap (λ first. first ∷ drop (i + 1) parts) (sym is)))
    ∙ h

-- all parts were printed
pub print_end : (text : List ℕ) (texts : List (List ℕ)) (parts : List ReadPart) (i number : ℕ) (out whole : List ℕ) → length parts ≤ i
    → out ++ printed_from text texts number (drop i parts) ≡ whole → out ≡ whole
print_end text texts parts i number out whole past h =
    sym (append-nil out) ∙ sym (ap (λ left. out ++ printed_from text texts number left) (drop_all i parts past)) ∙ h
