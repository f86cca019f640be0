-- Edges that come into the lists of their blocks one after another.
use Rattle.std.proofs.Common.{append-nil, ◌≡◌, ◌⊎◌, ℕ, ◌+◌, ◌<◌, ◌≤◌, Bool, true, false, List, [], ◌∷◌, ◌++◌, length, map, get_or, set, take, replicate, refl, sym, ap, ◌∙◌, subst, inl, inr, arith, if◌then◌else◌}
use Rattle.std.specs.Prelude.{◌==◌, filter}
use Rattle.std.proofs.lemmas.Bool.{cases_eq, eq-eqb, ne_eqb}
use Rattle.std.proofs.lemmas.List.{set_past, length-set, length-map, map-set, get_or-map, get_or-set_same, get_or-set_other, take_all, get_or-replicate, length-replicate}
use Rattle.std.proofs.lemmas.List.Elements.{filter_more}
use Rattle.pliron_text_llvm_edges.specs.declared.edges.BlockEdge.{BlockEdge}
use Rattle.pliron_text_llvm_edges.specs.Successors.{edges_to, AreIncomingEdges}
use Rattle.pliron_text_llvm_edges.specs.Incoming.{with_incoming}

-- the list of the block is there
pub incoming_put : {A : Type 0} (f : A → List BlockEdge) (lists : List A) (edge : BlockEdge) (list d : A) → edge.to < length lists → f list ≡ f (get_or lists edge.to d) ++ edge ∷ []
    → map f (set lists edge.to list) ≡ with_incoming edge (map f lists)
incoming_put f lists edge list d less grown =
    map-set f lists edge.to list
    ∙ ap (λ xs. set (map f lists) edge.to xs) (grown ∙ ap (λ xs. xs ++ edge ∷ []) (sym (get_or-map f lists edge.to d [] less)))

-- it isn't
pub incoming_past : {A : Type 0} (f : A → List BlockEdge) (lists : List A) (edge : BlockEdge) → length lists ≤ edge.to → map f lists ≡ with_incoming edge (map f lists)
incoming_past f lists edge past = sym (set_past (map f lists) edge.to _ (omega (arith, past, length-map lists f)))

-- so many lists without an edge
pub incoming_none : (count : ℕ) (edges : List BlockEdge) (lists : List (List BlockEdge)) → lists ≡ replicate count [] → AreIncomingEdges count (take 0 edges) lists
incoming_none count edges lists e =
    (ap length e ∙ length-replicate count [], λ number less. ap (λ ls. get_or ls number []) e ∙ get_or-replicate count number [] [] less)

added_same : (edge : BlockEdge) (number : ℕ) → edge.to ≡ number → (if edge.to == number then edge ∷ [] else []) ≡ edge ∷ []
added_same edge number e = ap (λ b. if b then edge ∷ [] else []) (eq-eqb edge.to number e)

added_other : (edge : BlockEdge) (number : ℕ) → (edge.to ≡ number → ⊥) → (if edge.to == number then edge ∷ [] else []) ≡ []
added_other edge number ne = ap (λ b. if b then edge ∷ [] else []) (ne_eqb edge.to number ne)

-- one list, an edge more
list_more : (count : ℕ) (edges : List BlockEdge) (lists : List (List BlockEdge)) (edge : BlockEdge) (number : ℕ) → number < count → AreIncomingEdges count edges lists
    → get_or (with_incoming edge lists) number [] ≡ edges_to number edges ++ (if edge.to == number then edge ∷ [] else [])
list_more count edges lists edge number less h =
    elim (cases_eq edge.to number) [
      | inl e ↦
          ap (λ n. get_or (set lists n (get_or lists n [] ++ edge ∷ [])) number []) e
          ∙ get_or-set_same lists number (get_or lists number [] ++ edge ∷ []) [] (omega (arith, less, h.0))
          ∙ ap (λ xs. xs ++ edge ∷ []) (h.1 number less)
          ∙ ap (λ xs. edges_to number edges ++ xs) (sym (added_same edge number e))
      | inr ne ↦
          get_or-set_other lists edge.to number (get_or lists edge.to [] ++ edge ∷ []) [] (λ e. ne (sym e))
          ∙ h.1 number less ∙ sym (append-nil (edges_to number edges))
          ∙ ap (λ xs. edges_to number edges ++ xs) (sym (added_other edge number ne))
    ]

-- an edge more
pub incoming_more : (count : ℕ) (edges : List BlockEdge) (i : ℕ) (d : BlockEdge) (before after : List (List BlockEdge)) → i < length edges → AreIncomingEdges count (take i edges) before
    → after ≡ with_incoming (get_or edges i d) before → AreIncomingEdges count (take (i + 1) edges) after
incoming_more count edges i d before after less h grown =
    let edge : BlockEdge = get_or edges i d in (
      ap length grown ∙ length-set before edge.to (get_or before edge.to [] ++ edge ∷ []) ∙ h.0,
      λ number within. ap (λ ls. get_or ls number []) grown ∙ list_more count (take i edges) before edge number within h ∙ sym (filter_more (λ e. e.to == number) edges i d less),
    )

-- all edges
pub incoming_all : (count : ℕ) (edges : List BlockEdge) (i : ℕ) (lists : List (List BlockEdge)) → length edges ≤ i → AreIncomingEdges count (take i edges) lists → AreIncomingEdges count edges lists
incoming_all count edges i lists past h = subst (λ es. AreIncomingEdges count es lists) (take_all i edges past) h
