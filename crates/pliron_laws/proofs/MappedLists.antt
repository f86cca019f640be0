-- The images of the items of a list, one after another, as a loop adds them.
use Rattle.std.proofs.Common.{◌≡◌, ℕ, ◌+◌, ◌<◌, ◌≤◌, List, [], ◌∷◌, ◌++◌, length, sym, ap, ◌∙◌, take, get_or, append_assoc, append-nil}
use Rattle.std.specs.List.{flat_map}
use Rattle.std.proofs.lemmas.List.{take_more, take_all}
use Rattle.std.proofs.lemmas.Grind.{flat_map-append}

-- the images of the items so far
pub mapped_more : (f : ℕ → List ℕ) (xs : List ℕ) (i x : ℕ) (before old new : List ℕ) → i < length xs → x ≡ get_or xs i x → old ≡ before ++ flat_map f (take i xs) → new ≡ old ++ f x → new ≡ before ++ flat_map f (take (i + 1) xs)
mapped_more f xs i x before old new lt at is push =
    let one : flat_map f (take (i + 1) xs) ≡ flat_map f (take i xs) ++ f x =
    ap (flat_map f) (take_more xs i x lt ∙ ap (λ z. take i xs ++ z ∷ []) (sym at)) ∙ flat_map-append f (take i xs) (x ∷ []) ∙ ap (λ z. flat_map f (take i xs) ++ z) (append-nil (f x)) in
    push ∙ ap (λ z. z ++ f x) is ∙ append_assoc before (flat_map f (take i xs)) (f x) ∙ ap (λ z. before ++ z) (sym one)

pub mapped_all : (f : ℕ → List ℕ) (xs : List ℕ) (i : ℕ) (before old : List ℕ) → length xs ≤ i → old ≡ before ++ flat_map f (take i xs) → old ≡ before ++ flat_map f xs
mapped_all f xs i before old all is = is ∙ ap (λ z. before ++ flat_map f z) (take_all i xs all)
