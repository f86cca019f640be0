-- Rows of callees, one more at a time.
use Rattle.std.proofs.Common.{◌≡◌, ◌⊎◌, inl, inr, ℕ, zero, suc, ◌+◌, ◌<◌, List, [], ◌∷◌, ◌++◌, length, map, Option, Some, None, refl, sym, ap, ◌∙◌, subst, arith, length-append}
use Rattle.std.specs.List.{slice_get}
use Rattle.std.proofs.lemmas.Option.{slice_get_within}
use Rattle.pliron_core.specs.declared.attrs.Head.{Head}
use Rattle.pliron_core.specs.Tree.{Tree}
use Rattle.pliron_core.proofs.HoldingLemmas.{some_is, not_none}
use Rattle.pliron_laws.specs.Datum.{Datum}
use Rattle.pliron_graph_calls.specs.declared.call_sites.CallSite.{CallSite}
use Rattle.pliron_opt_inline.specs.CallGraph.{AreCallees, AreCalleeRows}

pub map_last : {A B : Type 0} (f : A → B) (xs : List A) (x : A) → map f (xs ++ x ∷ []) ≡ map f xs ++ f x ∷ []
map_last f [] x = refl
map_last f (y ∷ ys) x = ap (λ zs. f y ∷ zs) (map_last f ys x)

pub last_or : {A : Type 0} (xs : List A) (d n : A) (i : ℕ) → slice_get (xs ++ d ∷ []) i ≡ Some n → (slice_get xs i ≡ Some n) ⊎ ((i ≡ length xs) × (n ≡ d))
last_or [] d n zero e = inr (refl, sym (some_is e))
last_or [] d n (suc i) e = absurd (not_none e)
last_or (x ∷ xs) d n zero e = inl e
last_or (x ∷ xs) d n (suc i) e = elim (last_or xs d n i e) [ inl a ↦ inl a | inr b ↦ inr (ap suc b.0, b.1) ]

pub row_added : (callee : Head → Option Datum) (t : Tree) (names : List Datum) (fs : List ℕ) (rows : List (List ℕ)) (f : ℕ) (r : List ℕ)
    → AreCalleeRows callee t names fs rows → AreCallees callee t names f r → AreCalleeRows callee t names (fs ++ f ∷ []) (rows ++ r ∷ [])
row_added callee t names fs rows f r all one = record {
  long = length-append rows (r ∷ []) ∙ ap (λ n. n + 1) all.long ∙ sym (length-append fs (f ∷ []));
  each = λ i g row at_f at_r.
      elim (last_or fs f g i at_f) [
        | inl a ↦
            elim (last_or rows r row i at_r) [
              | inl b ↦ all.each i g row a b
              | inr b ↦ let l = all.long in let w = slice_get_within fs i g a in absurd (omega (arith, l, w, b.0))
            ]
        | inr a ↦
            elim (last_or rows r row i at_r) [
              | inl b ↦ let l = all.long in let w = slice_get_within rows i row b in absurd (omega (arith, l, w, a.0))
              | inr b ↦ subst (λ z. AreCallees callee t names z row) (sym a.1) (subst (AreCallees callee t names f) (sym b.1) one)
            ]
      ];
}
