-- What the links stand for, and how it changes.
use Rattle.std.proofs.Common.{◌≡◌, ◌⊎◌, ℕ, ◌<◌, ◌≤◌, List, [], ◌∷◌, length, get_or, set, Option, Some, None, refl, sym, ap, ◌∙◌, subst, inl, inr, arith}
use Rattle.std.proofs.lemmas.List.{same_lists, get_or-map, length-map, get_or_default, get_or_past, map-set, set-get_or}
use Rattle.pliron_core.specs.declared.links.Node.{Node}
use Rattle.pliron_core.specs.declared.links.Ends.{Ends}
use Rattle.pliron_core.specs.Nodes.{no_node, no_ends, node_at, walk, with_next, with_prev, In, IsRow, IsList, AreSoundLists, lists_of, owners_of}
use Rattle.pliron_core.proofs.ListLemmas.{distinct-length}
use Rattle.pliron_core.proofs.RowLemmas.{walk-row, within-row}

pub walk-list : (nodes : List Node) (l : ℕ) (e : Ends) (xs : List ℕ) → IsList nodes l e xs → walk nodes (length nodes) e.head ≡ xs
walk-list nodes l e xs is =
    ap (walk nodes (length nodes)) is.head ∙ walk-row nodes l None xs (length nodes) (distinct-length (length nodes) xs is.distinct (λ x i. within-row nodes l None xs None x is.row i)) is.row

-- the links determine the lists
pub lists-sound : (nodes : List Node) (ends : List Ends) (lists : List (List ℕ)) → AreSoundLists nodes ends lists → lists ≡ lists_of nodes ends
lists-sound nodes ends lists is =
    same_lists lists (lists_of nodes ends) (sym is.count ∙ sym (length-map ends _)) (λ k d h.
    let within : k < length ends = omega (arith, is.count) in
    get_or_default lists k d [] h ∙ sym (walk-list nodes k _ _ (is.each k within)) ∙ sym (get_or-map (λ e. walk nodes (length nodes) e.head) ends k no_ends d within))

pub IsSound-view : (nodes : List Node) (ends : List Ends) (lists : List (List ℕ)) → AreSoundLists nodes ends lists → AreSoundLists nodes ends (lists_of nodes ends)
IsSound-view nodes ends lists is = subst (AreSoundLists nodes ends) (lists-sound nodes ends lists is) is

pub owners-at : (nodes : List Node) (x : ℕ) → get_or (owners_of nodes) x None ≡ (node_at nodes x).owner
owners-at nodes x =
    elim (cases_lt x) [
      | inl h ↦ get_or-map (λ n. n.owner) nodes x no_node None h
      | inr h ↦ let short : length (owners_of nodes) ≤ x = omega (arith, length-map nodes (λ n. n.owner)) in get_or_past _ x None short ∙ sym (ap (λ n. n.owner) (get_or_past nodes x no_node h))
    ]
  where
    cases_lt : (x : ℕ) → (x < length nodes) ⊎ (length nodes ≤ x)
    cases_lt x = grind arith

pub owners-with_next : (nodes : List Node) (p v : Option ℕ) → owners_of (with_next nodes p v) ≡ owners_of nodes
owners-with_next nodes None v = refl
owners-with_next nodes (Some x) v = map-set (λ n. n.owner) nodes x _ ∙ ap (λ o. set (owners_of nodes) x o) (sym (owners-at nodes x)) ∙ set-get_or (owners_of nodes) x None

pub owners-with_prev : (nodes : List Node) (p v : Option ℕ) → owners_of (with_prev nodes p v) ≡ owners_of nodes
owners-with_prev nodes None v = refl
owners-with_prev nodes (Some x) v = map-set (λ n. n.owner) nodes x _ ∙ ap (λ o. set (owners_of nodes) x o) (sym (owners-at nodes x)) ∙ set-get_or (owners_of nodes) x None

-- a row stays where none of its nodes is written
pub row-same : (nodes new : List Node) (l : ℕ) (b : Option ℕ) (xs : List ℕ) (a : Option ℕ) → length nodes ≤ length new → ((x : ℕ) → In x xs → node_at new x ≡ node_at nodes x) → IsRow nodes l b xs a → IsRow new l b xs a
row-same nodes new l b [] a long same row = tt
row-same nodes new l b (x ∷ xs) a long same row =
    (omega (arith, row.0), same x (inl refl) ∙ row.1, row-same nodes new l (Some x) xs a long (λ y i. same y (inr i)) row.2)
