-- Texts of functions that are put together.
use Rattle.std.proofs.Common.{◌≡◌, ℕ, List, [], ◌∷◌, ◌++◌, refl, ap, ◌∙◌, append_assoc}
use Rattle.pliron_core.specs.Tree.{Tree}
use Rattle.pliron_text_llvm_sheets.specs.declared.sheet.LlvmSheet.{LlvmSheet}
use Rattle.pliron_text_llvm_printer.specs.PrintedFunctions.{HasFormText, AppendsFunction}

-- four lists behind a first one, one after another
behind_first : (a b c d e : List ℕ) → a ++ b ++ c ++ d ++ e ≡ a ++ (b ++ c ++ d ++ e)
behind_first a b c d e = ap (λ l. l ++ d ++ e) (append_assoc a b c) ∙ ap (λ l. l ++ e) (append_assoc a (b ++ c) d) ∙ append_assoc a (b ++ c ++ d) e

pub appends_function : (sheet : LlvmSheet) (tree : Tree) (function : ℕ) (before header body one two three after : List ℕ) → HasFormText sheet tree function header
    → one ≡ before ++ header → two ≡ one ++ 123 ∷ 10 ∷ [] → three ≡ two ++ body → after ≡ three ++ 125 ∷ [] → AppendsFunction sheet tree function before after
appends_function sheet tree function before header body one two three after has first second third last =
    let whole : after ≡ before ++ (header ++ (123 ∷ 10 ∷ []) ++ body ++ 125 ∷ []) =
    last ∙ ap (λ l. l ++ 125 ∷ []) (third ∙ ap (λ l. l ++ body) (second ∙ ap (λ l. l ++ 123 ∷ 10 ∷ []) first))
    ∙ behind_first before header (123 ∷ 10 ∷ []) body (125 ∷ []) in
    (header ++ (123 ∷ 10 ∷ []) ++ body ++ 125 ∷ [], whole, record { header = header; body = body; before = has; is = refl })
