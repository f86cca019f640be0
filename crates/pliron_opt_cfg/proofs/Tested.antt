-- Members of lists of keys, by the test of a set, and what a search from the entry of a region lists.
use Rattle.std.proofs.Common.{◌≡◌, ◌↔◌, ℕ, true, false, nat_eq, ◌&&◌, List, [], ◌∷◌, Option, Some, None, refl, sym, ap, ◌∙◌, subst, inl, inr}
use Rattle.std.specs.List.{list_any}
use Rattle.std.specs.Option.{option_to_list}
use Rattle.std.proofs.lemmas.Bool.{cases_Bool, eq-eqb, false≢true, or_cases}
use Rattle.pliron_core.specs.Tree.{Tree, In, first_of, layout_of}
use Rattle.pliron_graph_traversal.specs.Search.{Orders, IsSearch}
use Rattle.pliron_graph_traversal.specs.Internal.RegionLawful.{in_keys, keys_have, same_key}
use Rattle.pliron_opt_cfg.specs.Visited.{IsReachedIn}
use Rattle.pliron_opt_cfg.specs.Internal.LastFirst.{last_first, reached_alike, alike_reached}

pub tested_in : (xs : List ℕ) (k : ℕ) → list_any (λ y. nat_eq k y && true) xs ≡ true → In k xs
tested_in [] k e = absurd (false≢true e)
tested_in (x ∷ xs) k e = elim (or_cases (nat_eq k x && true) (list_any (λ y. nat_eq k y && true) xs) e) [ inl h ↦ inl (same_key k x h) | inr h ↦ inr (tested_in xs k h) ]

pub in_tested : (xs : List ℕ) (k : ℕ) → In k xs → list_any (λ y. nat_eq k y && true) xs ≡ true
in_tested [] k i = absurd i
in_tested (x ∷ xs) k (inl e) = rw (eq-eqb k x e) refl
in_tested (x ∷ xs) k (inr i) = elim (cases_Bool (nat_eq k x)) [ inl h ↦ rw h refl | inr h ↦ rw h (in_tested xs k i) ]

root_of : (o : Option ℕ) (x : ℕ) → In x (option_to_list o) → o ≡ Some x
root_of None x i = absurd i
root_of (Some y) x (inl e) = ap Some (sym e)
root_of (Some y) x (inr i) = absurd i

of_root : (o : Option ℕ) (x : ℕ) → o ≡ Some x → In x (option_to_list o)
of_root o x e = subst (λ z. In x (option_to_list z)) (sym e) (inl refl)

pub search_lists : (t : Tree) (r : ℕ) (o : Orders ℕ) (items : List ℕ) → IsSearch (λ x y. nat_eq x y && true) (last_first t r) (option_to_list (first_of (layout_of t r) None)) o → items ≡ o.pre → (b : ℕ) → In b items ↔ IsReachedIn t r b
search_lists t r o items s e b = (forth, back)
  where
    forth : In b items → IsReachedIn t r b
    forth i =
        let x = (s.pre_listed b).0 (in_tested o.pre b (subst (In b) e i)) in
        (x.0, root_of (first_of (layout_of t r) None) x.0 (in_keys _ x.0 x.1), reached_alike t r x.0 b x.2)

    back : IsReachedIn t r b → In b items
    back x = subst (In b) (sym e) (tested_in o.pre b ((s.pre_listed b).1 (x.0, keys_have _ x.0 (of_root (first_of (layout_of t r) None) x.0 x.1), alike_reached t r x.0 b x.2)))

pub not_tested : (xs : List ℕ) (k : ℕ) → list_any (λ y. nat_eq k y && true) xs ≡ false → In k xs → ⊥
not_tested xs k e i = false≢true (sym e ∙ in_tested xs k i)
