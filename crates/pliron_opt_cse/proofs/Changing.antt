-- One merge is what a pass may do to the operation that holds the redundant one.
use Rattle.std.proofs.Common.{ℕ, zero, suc, Bool, List, [], ◌∷◌, Option, refl, sym, subst}
use Rattle.pliron_core.specs.Changes.{IsDefiningOperationInside, IsInsideChange}
use Rattle.pliron_core.specs.Tree.{Tree, IsInside, definition_of, results_of}
use Rattle.pliron_core.specs.Invariant.{IsTree}
use Rattle.pliron_core.specs.Writes.{after_replacing}
use Rattle.pliron_core.proofs.HoldingLemmas.{outside_itself}
use Rattle.pliron_core.proofs.InsideLemmas.{inside_refl, inside_trans}
use Rattle.pliron_core.proofs.WriteInsideLemmas.{replaced_inside}
use Rattle.pliron_core.proofs.EraseInsideLemmas.{erased_inside}
use Rattle.pliron_laws.specs.Datum.{Head, Meaning}
use Rattle.pliron_laws.specs.Laws.{KeepsCounts, GivesAtOnce}
use Rattle.pliron_theory.proofs.KeptPlaces.{inside_forth}
use Rattle.pliron_rewrite_blocks.specs.Links.{KeepsLinks}
use Rattle.pliron_rewrite_blocks.proofs.RewriteLinks.{replaced_links, erased_links}
use Rattle.pliron_rewrite_equals.specs.Redundancy.{IsLeader}
use Rattle.pliron_rewrite_equals.specs.Merging.{replaced_all, results_merged, after_merging}
use Rattle.pliron_rewrite_equals.proofs.Replaced.{places_kept, tree_kept, new_defined}
use Rattle.pliron_rewrite_equals.proofs.Merging.{ArePairs, tree_all, own_pairs, contained_all, merged_lives, deleted}
use Rattle.pliron_opt_cse.specs.CseLaws.{ChangingLaw}
use Rattle.pliron_opt_cse.proofs.Merged.{near_leader}

pub links_all : (m : Meaning) (vs xs : List ℕ) (t : Tree) → KeepsLinks m t (replaced_all t vs xs)
links_all m [] xs t root l = l
links_all m (v ∷ vs) [] t root l = l
links_all m (v ∷ vs) (x ∷ xs) t root l = links_all m vs xs (after_replacing t v x) root (replaced_links m t v x root l)

module _ (side_effects : Head → Option Bool) (a b op : ℕ) where
  pub inside_all : (vs xs : List ℕ) (t : Tree) → IsTree t → ArePairs side_effects a b t vs xs → IsInside t op b → IsInsideChange t (replaced_all t vs xs) op × IsInside (replaced_all t vs xs) op b
  inside_all [] xs t w pairs i = (inside_refl t op, i)
  inside_all (v ∷ vs) [] t w pairs i = (inside_refl t op, i)
  inside_all (v ∷ vs) (x ∷ xs) t w pairs i =
      let p = pairs zero v x refl refl in
      let made : IsDefiningOperationInside t op (definition_of t v) = subst (IsDefiningOperationInside t op) (sym (w.joined.results b p.0 v p.1)) i in
      let r = inside_all vs xs (after_replacing t v x) (tree_kept t v x w (new_defined t v x side_effects a b p.0 w p.1 p.2)) (λ n y z e f. pairs (suc n) y z e f) (inside_forth (places_kept t v x) op b i) in
      (inside_trans t (after_replacing t v x) (replaced_all (after_replacing t v x) vs xs) op (replaced_inside t op v x w.joined made) r.0, r.1)

pub changing : (m : Meaning) (side_effects : Head → Option Bool) → KeepsCounts m → GivesAtOnce m side_effects → ChangingLaw m side_effects
changing m side_effects counts free t op a b w w' live linked inside near = record {
  liveness = ((change.operations op (outside_itself w.joined.rooted live)).0).0;
  linked = links op linked;
  inside = change;
  runs = deleted m side_effects counts free t a b w w' leads;
}
  where
    leads : IsLeader side_effects t a b
    leads = near_leader side_effects t a b w near

    u : Tree
    u = results_merged t a b

    tree : IsTree (results_merged t a b)
    tree = tree_all side_effects a b (results_of t b) (results_of t a) t w (own_pairs side_effects a b t)

    moved : IsInsideChange t (results_merged t a b) op × IsInside (results_merged t a b) op b
    moved = inside_all side_effects a b op (results_of t b) (results_of t a) t w (own_pairs side_effects a b t) inside

    change : IsInsideChange t (after_merging t a b) op
    change = inside_trans t (results_merged t a b) (after_merging t a b) op moved.0 (erased_inside (results_merged t a b) op b tree w'.joined moved.1)

    links : KeepsLinks m t (after_merging t a b)
    links root l = erased_links m (results_merged t a b) b tree w' (merged_lives side_effects t a b w leads) (contained_all side_effects a b t w leads) root (links_all m (results_of t b) (results_of t a) t root l)
