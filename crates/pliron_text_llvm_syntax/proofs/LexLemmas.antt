-- Ends of comments.
use Rattle.std.proofs.Common.{◌≡◌, ℕ, suc, ◌+◌, ◌<◌, ◌≤◌, Bool, true, false, List, ◌∷◌, length, get_or, drop, refl, sym, ap, ◌∙◌, add-one, drop-cons, arith}
use Rattle.std.specs.Prelude.{◌==◌, ◌&&◌, Option, Some, None, if◌then◌else◌}
use Rattle.std.specs.Option.{option_map}
use Rattle.std.proofs.lemmas.List.{drop_all}
use Rattle.pliron_text_llvm_syntax.specs.Lexing.{closing_len}

shift : (end : ℕ) (len : Option ℕ) → option_map (λ n. end + n) (option_map suc len) ≡ option_map (λ n. end + 1 + n) len
shift end None = refl
shift end (Some n) = ap Some (omega arith)

one_byte : (before byte : ℕ) (text : List ℕ) → (before == 42 && byte == 47) ≡ false → closing_len before (byte ∷ text) ≡ option_map suc (closing_len byte text)
one_byte before byte text other = ap (λ (b : Bool). if b then Some 1 else option_map suc (closing_len byte text)) other

-- a byte that closes nothing
pub closing_more : (before end byte : ℕ) (text : List ℕ) (d : ℕ) → end < length text → byte ≡ get_or text end d → (before == 42 && byte == 47) ≡ false
    → option_map (λ n. end + n) (closing_len before (drop end text)) ≡ option_map (λ n. end + 1 + n) (closing_len byte (drop (end + 1) text))
closing_more before end byte text d less here other =
    let ahead : drop end text ≡ byte ∷ drop (end + 1) text = rw (add-one, drop-cons text end d) (ap (λ b. b ∷ drop (suc end) text) (sym here)) in
    ap (λ xs. option_map (λ n. end + n) (closing_len before xs)) ahead ∙ ap (option_map (λ n. end + n)) (one_byte before byte (drop (end + 1) text) other) ∙ shift end (closing_len byte (drop (end + 1) text))

-- a byte that closes the comment
pub closing_found : (before end byte : ℕ) (text : List ℕ) (d : ℕ) → end < length text → byte ≡ get_or text end d → (before == 42 && byte == 47) ≡ true
    → option_map (λ n. end + n) (closing_len before (drop end text)) ≡ Some (end + 1)
closing_found before end byte text d less here closes =
    let ahead : drop end text ≡ byte ∷ drop (end + 1) text = rw (add-one, drop-cons text end d) (ap (λ b. b ∷ drop (suc end) text) (sym here)) in
    ap (λ xs. option_map (λ n. end + n) (closing_len before xs)) ahead ∙ ap (λ (b : Bool). option_map (λ n. end + n) (if b then Some 1 else option_map suc (closing_len byte (drop (end + 1) text)))) closes

-- no byte is left
pub closing_none : (before end : ℕ) (text : List ℕ) → length text ≤ end → closing_len before (drop end text) ≡ None
closing_none before end text le = ap (closing_len before) (drop_all end text le)
