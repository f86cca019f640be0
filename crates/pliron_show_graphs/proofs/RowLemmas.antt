-- Rows of a graph, one after the other.
use Rattle.std.proofs.Common.{◌≡◌, ◌++◌, ◌∷◌, [], ℕ, ◌+◌, ◌<◌, List, length, map, take, get_or, sym, ◌∙◌, ap, subst}
use Rattle.std.specs.List.{All}
use Rattle.std.proofs.lemmas.List.{take_more, map_push}
use Rattle.std.proofs.lemmas.List.Elements.{All-push}

module _ {X Y : Type 0} (f : X → Y) where
  pub drawn_more : (rows more : List X) (row : X) (items nodes : List Y) (i : ℕ) (node : Y) → more ≡ rows ++ row ∷ [] → f row ≡ node → items ≡ nodes → i < length items → node ≡ get_or items i node → map f rows ≡ take i nodes → map f more ≡ take (i + 1) nodes
  drawn_more rows more row items nodes i node pushed is same within at so_far =
      let next : take (i + 1) items ≡ take i items ++ node ∷ [] = take_more items i node within ∙ ap (λ x. take i items ++ x ∷ []) (sym at) in
      let next' : take (i + 1) nodes ≡ take i nodes ++ node ∷ [] = subst (λ xs. take (i + 1) xs ≡ take i xs ++ node ∷ []) same next in
      ap (map f) pushed ∙ (map_push f rows row ∙ (ap (λ x. map f rows ++ x ∷ []) is ∙ (ap (λ xs. xs ++ node ∷ []) so_far ∙ sym next')))

module _ {X : Type 0} (P : X → Type 0) where
  pub each_more : (rows more : List X) (row : X) → more ≡ rows ++ row ∷ [] → All P rows → P row → All P more
  each_more rows more row pushed all one = subst (All P) (sym pushed) (All-push P rows row all one)
