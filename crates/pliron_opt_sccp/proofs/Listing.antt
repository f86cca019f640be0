-- Lists of blocks that are found by a stack, or region by region.
use Rattle.std.proofs.Common.{◌≡◌, ℕ, suc, ◌+◌, ◌-◌, ◌<◌, List, [], ◌∷◌, ◌++◌, length, take, reverse, slice_get, Some, refl, sym, ap, ◌∙◌, subst, inl, arith, append_assoc, append-nil, length-append}
use Rattle.std.proofs.lemmas.List.{reverse-append, reverse-reverse}
use Rattle.std.specs.List.{flat_map}
use Rattle.std.proofs.lemmas.List.Concat.{flat_map-append}
use Rattle.pliron_core.specs.Lists.{In}
use Rattle.pliron_core.specs.Tree.{Tree, IsLive, IsBlock, body_of, layout_of, regions_of}
use Rattle.pliron_core.specs.Invariant.{IsTree}
use Rattle.pliron_core.proofs.FlatLemmas.{flat_map-same}
use Rattle.pliron_core.proofs.ListLemmas.{In-right}
use Rattle.pliron_core.proofs.ArgumentLemmas.{take_more}
use Rattle.pliron_opt_sccp.specs.Chain.{blocks_inside}
use Rattle.pliron_opt_sccp.specs.Inside.{blocks_directly_in}
use Rattle.pliron_opt_sccp.proofs.DistinctLists.{inside_nested, inside_block}

-- the blocks of no regions are none
pub none_listed : (t : Tree) (op : ℕ) → length (regions_of t op) ≡ 0 → blocks_directly_in t op ≡ []
none_listed t op few = ap (λ rs. flat_map (λ r. layout_of t r) rs) (none (regions_of t op) few)
  where
    none : (xs : List ℕ) → length xs ≡ 0 → xs ≡ []
    none [] e = refl
    none (x ∷ xs) e = absurd (omega (arith, e))

pub flat_alone : (xs : List ℕ) → flat_map (λ x. x ∷ []) xs ≡ xs
flat_alone [] = refl
flat_alone (x ∷ xs) = ap (λ ys. x ∷ ys) (flat_alone xs)

pub flat_flat : (f g : ℕ → List ℕ) (xs : List ℕ) → flat_map f (flat_map g xs) ≡ flat_map (λ x. flat_map f (g x)) xs
flat_flat f g [] = refl
flat_flat f g (x ∷ xs) = flat_map-append f (g x) (flat_map g xs) ∙ ap (λ ys. flat_map f (g x) ++ ys) (flat_flat f g xs)

-- a block, and the blocks inside its operations
abbrev pub from_here : Tree → ℕ → List ℕ
from_here t b = b ∷ flat_map (λ k. blocks_inside t k) (body_of t b)

-- what was found, and what the stack stands for, is the whole
abbrev pub AreOwing : Tree → ℕ → List ℕ → List ℕ → Type 0
AreOwing t root found stack = found ++ flat_map (λ b. from_here t b) (reverse stack) ≡ blocks_inside t root

module _ (t : Tree) (w : IsTree t) where
  pub inside_from_blocks : (x : ℕ) → IsLive t x → blocks_inside t x ≡ flat_map (λ b. from_here t b) (blocks_directly_in t x)
  inside_from_blocks x live = inside_nested t w x live ∙ sym (flat_flat (λ b. from_here t b) (λ r. layout_of t r) (regions_of t x))

  body_from_blocks : (b : ℕ) → flat_map (λ k. blocks_inside t k) (body_of t b) ≡ flat_map (λ b. from_here t b) (flat_map (λ k. blocks_directly_in t k) (body_of t b))
  body_from_blocks b =
      flat_map-same (λ k. blocks_inside t k) (λ k. flat_map (λ b. from_here t b) (blocks_directly_in t k)) (body_of t b) (λ k i. inside_from_blocks k (w.joined.all_in_place k b (w.bodies.owned k b i)).0)
      ∙ sym (flat_flat (λ b. from_here t b) (λ k. blocks_directly_in t k) (body_of t b))

  pub owing_start : (root : ℕ) (stack : List ℕ) → IsLive t root → stack ≡ reverse (blocks_directly_in t root) → AreOwing t root [] stack
  owing_start root stack live e =
      ap (λ xs. flat_map (λ b. from_here t b) (reverse xs)) e ∙ ap (flat_map (λ b. from_here t b)) (reverse-reverse (blocks_directly_in t root)) ∙ sym (inside_from_blocks root live)

  -- the block on top of the stack comes next
  owing_top : (root b : ℕ) (found stack rest : List ℕ) → stack ≡ rest ++ b ∷ [] → AreOwing t root found stack → found ++ (from_here t b ++ flat_map (λ b. from_here t b) (reverse rest)) ≡ blocks_inside t root
  owing_top root b found stack rest e o =
      ap (λ xs. found ++ flat_map (λ b. from_here t b) xs) (sym (ap reverse e ∙ reverse-append rest (b ∷ []))) ∙ o

  pub owing_inside : (root b : ℕ) (found stack rest : List ℕ) → stack ≡ rest ++ b ∷ [] → AreOwing t root found stack → IsBlock t b
  owing_inside root b found stack rest e o =
      inside_block t w root b (subst (In b) (owing_top root b found stack rest e o) (In-right b found (from_here t b ++ flat_map (λ b. from_here t b) (reverse rest)) (inl refl)))

  pub owing_step : (root b : ℕ) (found more stack rest later : List ℕ) → stack ≡ rest ++ b ∷ [] → AreOwing t root found stack → more ≡ found ++ b ∷ [] → later ≡ rest ++ reverse (flat_map (λ k. blocks_directly_in t k) (body_of t b)) → AreOwing t root more later
  owing_step root b found more stack rest later e o m l =
      let f : ℕ → List ℕ = λ b. from_here t b in
      let inner : List ℕ = flat_map (λ k. blocks_directly_in t k) (body_of t b) in
      let turned : reverse later ≡ inner ++ reverse rest = ap reverse l ∙ reverse-append rest (reverse inner) ∙ ap (λ xs. xs ++ reverse rest) (reverse-reverse inner) in
      let owed : flat_map f (reverse later) ≡ flat_map (λ k. blocks_inside t k) (body_of t b) ++ flat_map f (reverse rest) =
      ap (flat_map f) turned ∙ flat_map-append f inner (reverse rest) ∙ ap (λ xs. xs ++ flat_map f (reverse rest)) (sym (body_from_blocks b)) in
      ap (λ xs. xs ++ flat_map f (reverse later)) m
      ∙ append_assoc found (b ∷ []) (flat_map f (reverse later))
      ∙ ap (λ xs. found ++ b ∷ xs) owed
      ∙ owing_top root b found stack rest e o

  pub owing_smaller : (root b : ℕ) (found more stack rest : List ℕ) → stack ≡ rest ++ b ∷ [] → AreOwing t root found stack → more ≡ found ++ b ∷ [] → length (blocks_inside t root) - length more < length (blocks_inside t root) - length found
  owing_smaller root b found more stack rest e o m =
      let all = ap length (owing_top root b found stack rest e o) in
      let parts = length-append found (from_here t b ++ flat_map (λ b. from_here t b) (reverse rest)) in
      let one = ap length m ∙ length-append found (b ∷ []) in
      omega (arith, all, parts, one)

  pub owing_end : (root : ℕ) (found stack : List ℕ) → AreOwing t root found stack → stack ≡ [] → found ≡ blocks_inside t root
  owing_end root found stack o e =
      sym (append-nil found) ∙ ap (λ xs. found ++ flat_map (λ b. from_here t b) (reverse xs)) (sym e) ∙ o

-- what each item before index i lists was added
pub flat_taken : (f : ℕ → List ℕ) (xs : List ℕ) (i x : ℕ) (before now more : List ℕ) → slice_get xs i ≡ Some x → now ≡ before ++ flat_map f (take i xs) → more ≡ now ++ f x → more ≡ before ++ flat_map f (take (i + 1) xs)
flat_taken f xs i x before now more at so_far grown =
    grown ∙ ap (λ ys. ys ++ f x) so_far ∙ append_assoc before (flat_map f (take i xs)) (f x)
    ∙ ap (λ ys. before ++ ys) (ap (λ ys. flat_map f (take i xs) ++ ys) (sym (append-nil (f x))) ∙ sym (flat_map-append f (take i xs) (x ∷ [])) ∙ ap (flat_map f) (sym (take_more xs i x at) ∙ ap (λ n. take n xs) (add-one i)))
  where
    add-one : (i : ℕ) → suc i ≡ i + 1
    add-one i = omega arith

-- the first item of a list comes off a stack last that was put on it from its end
pub stacked_next : {A : Type 0} (stack before whole rest left more : List A) (x : A) → stack ++ reverse rest ≡ before ++ reverse whole → rest ≡ left ++ x ∷ [] → more ≡ stack ++ x ∷ [] → more ++ reverse left ≡ before ++ reverse whole
stacked_next stack before whole rest left more x so_far e m =
    ap (λ xs. xs ++ reverse left) m ∙ append_assoc stack (x ∷ []) (reverse left) ∙ ap (λ xs. stack ++ xs) (sym (ap reverse e ∙ reverse-append left (x ∷ []))) ∙ so_far
