-- How a text is written without its comments, byte by byte.
use Rattle.std.proofs.Common.{◌≡◌, ◌<◌, ◌≤◌, ◌+◌, ◌∷◌, [], ◌++◌, ℕ, Bool, false, List, length, take, drop, get_or, if◌then◌else◌, sym, subst, ◌∙◌, ◌-◌, ap, arith}
use Rattle.std.proofs.lemmas.List.{append-nil, append_assoc, at_drop_more, at_drop_all, length-drop, take_all}
use Rattle.pliron_show_places.specs.Comments.{is_comment, with_blanks}

-- one byte more is written
pub blanked_more : (text out next : List ℕ) (inside now : Bool) (i byte : ℕ) → i < length text → out ++ with_blanks inside (drop i text) ≡ with_blanks false text → now ≡ is_comment inside (get_or text i 0) (drop (i + 1) text) → byte ≡ (if now then 32 else get_or text i 0) → next ≡ out ++ byte ∷ [] → next ++ with_blanks now (drop (i + 1) text) ≡ with_blanks false text
blanked_more text out next inside now i byte within so_far is shown pushed =
    let rest = drop (i + 1) text in
    let step : with_blanks inside (drop i text) ≡ byte ∷ with_blanks now rest =
    at_drop_more (with_blanks inside) text i 0 within
    ∙ ap (λ n. (if n then 32 else get_or text i 0) ∷ with_blanks n rest) (sym is)
    ∙ ap (λ b. b ∷ with_blanks now rest) (sym shown) in
    ap (λ l. l ++ with_blanks now rest) pushed ∙ append_assoc out (byte ∷ []) (with_blanks now rest) ∙ ap (λ l. out ++ l) (sym step) ∙ so_far

-- all of it is written
pub blanked_whole : (text out : List ℕ) (inside : Bool) (i : ℕ) → length text ≤ i → out ++ with_blanks inside (drop i text) ≡ with_blanks false text → out ≡ with_blanks false text
blanked_whole text out inside i past so_far = sym (append-nil out) ∙ ap (λ l. out ++ l) (sym (at_drop_all (with_blanks inside) text i past)) ∙ so_far

-- what stands behind so many bytes
pub rest_of : (text : List ℕ) (i : ℕ) → take (length text - i) (drop i text) ≡ drop i text
rest_of text i = take_all (length text - i) (drop i text) (subst (λ n. n ≤ length text - i) (sym (length-drop i text)) (omega arith))
