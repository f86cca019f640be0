-- Values that edges pass, added one after another.
use Rattle.std.proofs.Common.{◌≡◌, ℕ, suc, ◌+◌, ◌<◌, ◌≤◌, List, [], ◌∷◌, ◌++◌, length, map, get_or, take, refl, sym, ap, ◌∙◌, subst, arith}
use Rattle.std.specs.Prelude.{slice_get, Option, Some, None, IfSome}
use Rattle.std.specs.List.{All}
use Rattle.std.specs.Option.{option_map, unwrap_or}
use Rattle.std.proofs.lemmas.Option.{slice_get-get_or, slice_get-map, unwrap_or-slice_get}
use Rattle.std.proofs.lemmas.List.{map-append, take_all, take_more}
use Rattle.std.proofs.lemmas.List.Elements.{All-nil, All-push}
use Rattle.pliron_text_llvm_edges.specs.declared.edges.BlockEdge.{BlockEdge}
use Rattle.pliron_text_llvm_edges.specs.declared.phis.BlockPhi.{BlockPhi}
use Rattle.pliron_text_llvm_trees.specs.declared.passed.TreeEdge.{TreeEdge}
use Rattle.pliron_text_llvm_trees.specs.Passed.{IsPassedTo, IsPassedToNumber, ArePassed, IsTreeEdge, AreTreeEdges}

-- ---- values

pub passed_at : (phis : List BlockPhi) (edge : BlockEdge) (number : ℕ) (d phi : BlockPhi) (found : Option ℕ) → number < length phis → phi ≡ get_or phis number d → IfSome found (λ hole. IsPassedTo edge phi hole)
    → IfSome found (λ hole. IsPassedToNumber phis edge number hole)
passed_at phis edge number d phi None less at h = tt
passed_at phis edge number d phi (Some hole) less at h = (phi, slice_get-get_or phis number d less ∙ ap Some (sym at), h)

pub passed_none : (phis : List BlockPhi) (edge : BlockEdge) (numbers holes : List ℕ) → holes ≡ [] → ArePassed phis edge (take 0 numbers) holes
passed_none phis edge numbers holes e = subst (ArePassed phis edge []) (sym e) tt

append : (phis : List BlockPhi) (edge : BlockEdge) (numbers holes : List ℕ) (number hole : ℕ) → ArePassed phis edge numbers holes → IsPassedToNumber phis edge number hole
    → ArePassed phis edge (numbers ++ number ∷ []) (holes ++ hole ∷ [])
append phis edge [] [] number hole h one = (one, tt)
append phis edge [] (first ∷ holes) number hole h one = absurd h
append phis edge (first ∷ numbers) [] number hole h one = absurd h
append phis edge (first ∷ numbers) (second ∷ holes) number hole h one = (h.0, append phis edge numbers holes number hole h.1 one)

pub passed_more : (phis : List BlockPhi) (edge : BlockEdge) (numbers : List ℕ) (i d : ℕ) (holes after : List ℕ) (hole : ℕ) → i < length numbers → ArePassed phis edge (take i numbers) holes
    → IsPassedToNumber phis edge (get_or numbers i d) hole → after ≡ holes ++ hole ∷ [] → ArePassed phis edge (take (i + 1) numbers) after
passed_more phis edge numbers i d holes after hole less h one grown =
    subst (ArePassed phis edge (take (i + 1) numbers)) (sym grown)
    (subst (λ ns. ArePassed phis edge ns (holes ++ hole ∷ [])) (sym (take_more numbers i d less)) (append phis edge (take i numbers) holes (get_or numbers i d) hole h one))

pub passed_all : (phis : List BlockPhi) (edge : BlockEdge) (numbers : List ℕ) (i : ℕ) (holes : List ℕ) → length numbers ≤ i → ArePassed phis edge (take i numbers) holes → ArePassed phis edge numbers holes
passed_all phis edge numbers i holes past h = subst (λ ns. ArePassed phis edge ns holes) (take_all i numbers past) h

-- ---- the phis of a block

pub into_some : {A : Type 0} (f : A → List ℕ) (lists : List A) (number : ℕ) (list : A) → slice_get lists number ≡ Some list → f list ≡ get_or (map f lists) number []
into_some f lists number list e =
    sym (ap (λ o. unwrap_or (option_map f o) []) e) ∙ sym (ap (λ o. unwrap_or o []) (slice_get-map f lists number)) ∙ unwrap_or-slice_get (map f lists) number []

pub into_none : {A : Type 0} (f : A → List ℕ) (lists : List A) (number : ℕ) → slice_get lists number ≡ None → [] ≡ get_or (map f lists) number []
into_none f lists number e =
    sym (ap (λ o. unwrap_or (option_map f o) []) e) ∙ sym (ap (λ o. unwrap_or o []) (slice_get-map f lists number)) ∙ unwrap_or-slice_get (map f lists) number []

-- ---- edges

pub edges_none : (phis : List BlockPhi) (lists : List (List ℕ)) (edges : List BlockEdge) (found : List TreeEdge) → found ≡ [] → AreTreeEdges phis lists (take 0 edges) found
edges_none phis lists edges found e = (ap (map (λ edge. edge.edge)) e, subst (All (IsTreeEdge phis lists)) (sym e) (All-nil (IsTreeEdge phis lists)))

pub edges_more : (phis : List BlockPhi) (lists : List (List ℕ)) (edges : List BlockEdge) (i : ℕ) (d : BlockEdge) (edge : TreeEdge) (found after : List TreeEdge) → i < length edges
    → AreTreeEdges phis lists (take i edges) found → edge.edge ≡ get_or edges i d → IsTreeEdge phis lists edge → after ≡ found ++ edge ∷ []
    → AreTreeEdges phis lists (take (i + 1) edges) after
edges_more phis lists edges i d edge found after less h at one grown = (
  ap (map (λ edge. edge.edge)) grown
      ∙ map-append (λ edge. edge.edge) found (edge ∷ [])
      ∙ ap (λ xs. xs ++ edge.edge ∷ []) h.0
      ∙ ap (λ x. take i edges ++ x ∷ []) at
      ∙ sym (take_more edges i d less),
  subst (All (IsTreeEdge phis lists)) (sym grown) (All-push (IsTreeEdge phis lists) found edge h.1 one),
)

pub edges_all : (phis : List BlockPhi) (lists : List (List ℕ)) (edges : List BlockEdge) (i : ℕ) (found : List TreeEdge) → length edges ≤ i
    → AreTreeEdges phis lists (take i edges) found → AreTreeEdges phis lists edges found
edges_all phis lists edges i found past h = subst (λ es. AreTreeEdges phis lists es found) (take_all i edges past) h
