-- What is still to be visited, as items.
use Rattle.std.proofs.Common.{◌≡◌, ◌⊎◌, inl, inr, ⊎_elim, ℕ, zero, suc, ◌+◌, add-one, arith, Contains, take, slice_get, Bool, List, [], ◌∷◌, ◌++◌, Option, Some, None, IfSome, IfNone, map, refl, sym, ap, ◌∙◌, subst}
use Rattle.std.specs.Prelude.{IsPermutation}
use Rattle.std.proofs.lemmas.List.Sorted.{Contains-permutation}
use Rattle.pliron_core.specs.declared.context.Def.{Def}
use Rattle.pliron_core.specs.declared.context.Def.TheVariants.{Result, Argument as Definition}
use Rattle.pliron_core.specs.Changes.{IsDefinedInside}
use Rattle.pliron_core.specs.Tree.{Tree, In, IsDefined, definition_of}
use Rattle.pliron_core.proofs.ArgumentLemmas.{take_more}
use Rattle.pliron_laws.specs.Datum.{Head, Meaning}
use Rattle.pliron_opt_dce.specs.declared.worklist.DeadCandidate.{DeadCandidate}
use Rattle.pliron_opt_dce.specs.Dead.{Item, Op, Arg}
use Rattle.pliron_opt_dce.specs.Readiness.{IsReady, Among, AreRevisited}
use Rattle.pliron_opt_dce.specs.declared.worklist.DeadCandidate.TheVariants.{Operation}
use Rattle.pliron_opt_dce.specs.declared.worklist.Worklist.{Worklist}
use Rattle.pliron_opt_dce.specs.Worklist.{item_of, items_of, pending_candidates, HasReady, KeepsReady}

pub among_split : (x : Item) (cs : List DeadCandidate) (c : DeadCandidate) → Among x (items_of (cs ++ c ∷ [])) → Among x (items_of cs) ⊎ (x ≡ item_of c)
among_split x [] c (inl e) = inr e
among_split x [] c (inr i) = absurd i
among_split x (d ∷ cs) c (inl e) = inl (inl e)
among_split x (d ∷ cs) c (inr i) = ⊎_elim (λ j. inl (inr j)) (λ e. inr e) (among_split x cs c i)

pub among_front : (x : Item) (cs : List DeadCandidate) (c : DeadCandidate) → Among x (items_of cs) → Among x (items_of (cs ++ c ∷ []))
among_front x [] c i = absurd i
among_front x (d ∷ cs) c (inl e) = inl e
among_front x (d ∷ cs) c (inr i) = inr (among_front x cs c i)

pub among_last : (cs : List DeadCandidate) (c : DeadCandidate) → Among (item_of c) (items_of (cs ++ c ∷ []))
among_last [] c = inl refl
among_last (d ∷ cs) c = inr (among_last cs c)

pub among_left : (x : Item) (cs ds : List DeadCandidate) → Among x (items_of cs) → Among x (items_of (cs ++ ds))
among_left x [] ds i = absurd i
among_left x (c ∷ cs) ds (inl e) = inl e
among_left x (c ∷ cs) ds (inr i) = inr (among_left x cs ds i)

pub among_right : (x : Item) (cs ds : List DeadCandidate) → Among x (items_of ds) → Among x (items_of (cs ++ ds))
among_right x [] ds i = i
among_right x (c ∷ cs) ds i = inr (among_right x cs ds i)

pub among_cases : (x : Item) (cs ds : List DeadCandidate) → Among x (items_of (cs ++ ds)) → Among x (items_of cs) ⊎ Among x (items_of ds)
among_cases x [] ds i = inr i
among_cases x (c ∷ cs) ds (inl e) = inl (inl e)
among_cases x (c ∷ cs) ds (inr i) = ⊎_elim (λ j. inl (inr j)) (λ j. inr j) (among_cases x cs ds i)

among_contains : (x : Item) (cs : List DeadCandidate) → Among x (items_of cs) → (c : DeadCandidate) × Contains cs c × (x ≡ item_of c)
among_contains x [] i = absurd i
among_contains x (c ∷ cs) (inl e) = (c, (zero, omega arith, refl), e)
among_contains x (c ∷ cs) (inr i) = let r = among_contains x cs i in (r.0, (suc r.1.0, omega (arith, r.1.1), r.1.2), r.2)

contains_among : (c : DeadCandidate) (cs : List DeadCandidate) → Contains cs c → Among (item_of c) (items_of cs)
contains_among c [] (k, l, e) = absurd (omega (arith, l))
contains_among c (d ∷ cs) (zero, l, e) = inl (ap item_of (sym e))
contains_among c (d ∷ cs) (suc k, l, e) = inr (contains_among c cs (k, omega (arith, l), e))

-- an order changes nothing
pub among_permuted : (x : Item) (cs ds : List DeadCandidate) → IsPermutation cs ds → Among x (items_of cs) → Among x (items_of ds)
among_permuted x cs ds p i =
    let r = among_contains x cs i in
    subst (λ z. Among z (items_of ds)) (sym r.2) (contains_among r.0 ds (Contains-permutation cs ds r.0 p r.1))

-- what isn't ready may go from the list
pub keeps_ready_still : (m : Meaning) (side_effects : Head → Option Bool) (removable : Head → ℕ → Bool → Option Bool) (t : Tree) (root : ℕ) (start old new : List DeadCandidate) (c : DeadCandidate) → old ≡ new ++ c ∷ [] → (IsReady m side_effects removable t root (item_of c) → ⊥) → KeepsReady m side_effects removable t root start old → KeepsReady m side_effects removable t root start new
keeps_ready_still m side_effects removable t root start old new c e n h x r i = ⊎_elim (λ j. j) (λ s. absurd (n (subst (IsReady m side_effects removable t root) s r))) (among_split x new c (subst (λ z. Among x (items_of z)) e (h x r i)))

-- what isn't ready need not come into the round
pub keeps_ready_past : (m : Meaning) (side_effects : Head → Option Bool) (removable : Head → ℕ → Bool → Option Bool) (t : Tree) (root : ℕ) (old now new : List DeadCandidate) (c : DeadCandidate) → (IsReady m side_effects removable t root (item_of c) → ⊥) → KeepsReady m side_effects removable t root (old ++ now) new → KeepsReady m side_effects removable t root ((old ++ c ∷ []) ++ now) new
keeps_ready_past m side_effects removable t root old now new c n h x r i = ⊎_elim (λ j. ⊎_elim (λ k. h x r (among_left x old now k)) (λ s. absurd (n (subst (IsReady m side_effects removable t root) s r))) (among_split x old c j)) (λ j. h x r (among_right x old now j)) (among_cases x (old ++ c ∷ []) now i)

-- what comes into the round is there
pub keeps_ready_more : (m : Meaning) (side_effects : Head → Option Bool) (removable : Head → ℕ → Bool → Option Bool) (t : Tree) (root : ℕ) (old now new : List DeadCandidate) (c : DeadCandidate) → KeepsReady m side_effects removable t root (old ++ now) new → KeepsReady m side_effects removable t root ((old ++ c ∷ []) ++ now) (new ++ c ∷ [])
keeps_ready_more m side_effects removable t root old now new c h x r i = ⊎_elim (λ j. ⊎_elim (λ k. among_front x new c (h x r (among_left x old now k))) (λ s. subst (λ z. Among z (items_of (new ++ c ∷ []))) (sym s) (among_last new c)) (among_split x old c j)) (λ j. among_front x new c (h x r (among_right x old now j))) (among_cases x (old ++ c ∷ []) now i)

-- the parts of what waits: around what lost uses, later, and in the round
module _ (m : Meaning) (side_effects : Head → Option Bool) (removable : Head → ℕ → Bool → Option Bool) (t : Tree) (root : ℕ) (around ls rs : List DeadCandidate) where
  abbrev Kept : (old new : List DeadCandidate) → Type 0
  Kept old new = KeepsReady m side_effects removable t root old new

  pub next_kept : (rest : List DeadCandidate) (found : Option DeadCandidate) → IfSome found (λ next. Kept rs (rest ++ next ∷ [])) → IfSome found (λ next. Kept (around ++ (ls ++ rs)) ((around ++ (ls ++ rest)) ++ next ∷ []))
  next_kept rest None h = tt
  next_kept rest (Some next) h = λ x r i. ⊎_elim
      (λ j. among_left x (around ++ (ls ++ rest)) (next ∷ []) (among_left x around (ls ++ rest) j))
      (λ j. ⊎_elim
      (λ k. among_left x (around ++ (ls ++ rest)) (next ∷ []) (among_right x around (ls ++ rest) (among_left x ls rest k)))
      (λ k. ⊎_elim
      (λ q. among_left x (around ++ (ls ++ rest)) (next ∷ []) (among_right x around (ls ++ rest) (among_right x ls rest q)))
      (λ s. subst (λ z. Among z (items_of ((around ++ (ls ++ rest)) ++ next ∷ []))) (sym s) (among_last (around ++ (ls ++ rest)) next))
      (among_split x rest next (h x r k)))
      (among_cases x ls rs j))
      (among_cases x around (ls ++ rs) i)

  pub none_kept : (rest : List DeadCandidate) (found : Option DeadCandidate) → IfNone found (Kept rs []) → IfNone found (Kept (around ++ (ls ++ rs)) (around ++ (ls ++ rest)))
  none_kept rest (Some next) h = tt
  none_kept rest None h = λ x r i. ⊎_elim (λ j. among_left x around (ls ++ rest) j) (λ j. ⊎_elim (λ k. among_right x around (ls ++ rest) (among_left x ls rest k)) (λ k. absurd (h x r k)) (among_cases x ls rs j)) (among_cases x around (ls ++ rs) i)

  pub later_kept : (new none : List DeadCandidate) → Kept (ls ++ rs) new → Kept (around ++ (ls ++ rs)) (around ++ (none ++ new))
  later_kept new none h x r i = ⊎_elim (λ j. among_left x around (none ++ new) j) (λ j. among_right x around (none ++ new) (among_right x none new (h x r j))) (among_cases x around (ls ++ rs) i)

-- those around that are ready come into the round
pub around_ready : (m : Meaning) (side_effects : Head → Option Bool) (removable : Head → ℕ → Bool → Option Bool) (t : Tree) (root : ℕ) (around ls rs new none : List DeadCandidate) → KeepsReady m side_effects removable t root (around ++ rs) new → KeepsReady m side_effects removable t root (around ++ (ls ++ rs)) (none ++ (ls ++ new))
around_ready m side_effects removable t root around ls rs new none h x r i = among_right x none (ls ++ new) (⊎_elim (λ j. among_right x ls new (h x r (among_left x around rs j))) (λ j. ⊎_elim (λ k. among_left x ls new k) (λ k. among_right x ls new (h x r (among_right x around rs k))) (among_cases x ls rs j)) (among_cases x around (ls ++ rs) i))

-- what is found of all that is ready
module _ (m : Meaning) (side_effects : Head → Option Bool) (removable : Head → ℕ → Bool → Option Bool) (t : Tree) (root : ℕ) (old new : List DeadCandidate) (all : HasReady m side_effects removable t root old) where
  pub next_of_all : (found : Option DeadCandidate) → IfSome found (λ next. KeepsReady m side_effects removable t root old (new ++ next ∷ [])) → IfSome found (λ next. HasReady m side_effects removable t root (new ++ next ∷ []))
  next_of_all None h = tt
  next_of_all (Some next) h = λ x r. h x r (all x r)

  pub none_of_all : (found : Option DeadCandidate) → IfNone found (KeepsReady m side_effects removable t root old new) → IfNone found (new ≡ []) → IfNone found ((x : Item) → IsReady m side_effects removable t root x → ⊥)
  none_of_all (Some next) h e = tt
  none_of_all None h e = λ x r. subst (λ z. Among x (items_of z)) e (h x r (all x r))

-- where no part has any, nothing waits
pub none_waits : (found : Option DeadCandidate) (worklist : Worklist) → worklist.around.ops.items ≡ [] → worklist.later.items ≡ [] → IfNone found (worklist.round.items ≡ []) → IfNone found (pending_candidates worklist ≡ [])
none_waits (Some next) worklist a l r = tt
none_waits None worklist a l r = ap (λ z. map (λ k. Operation k) z ++ (worklist.later.items ++ worklist.round.items)) a ∙ ap (λ z. z ++ worklist.round.items) l ∙ r

-- at the start all waits in the round
pub all_wait : (worklist : Worklist) (items : List DeadCandidate) → worklist.round.items ≡ items → worklist.later.items ≡ [] → worklist.around.ops.items ≡ [] → pending_candidates worklist ≡ items
all_wait worklist items e l a = ap (λ z. map (λ k. Operation k) z ++ (worklist.later.items ++ worklist.round.items)) a ∙ ap (λ z. z ++ worklist.round.items) l ∙ e

-- an operation of the set, as an item
pub among_set : (ks : List ℕ) (k : ℕ) → In k ks → Among (Op k) (items_of (map (λ n. Operation n) ks))
among_set (x ∷ ks) k (inl e) = inl (ap Op e)
among_set (x ∷ ks) k (inr i) = inr (among_set ks k i)
among_set [] k i = absurd i

-- a larger set
pub among_more : (old new : List ℕ) (rest : List DeadCandidate) → ((k : ℕ) → In k old → In k new) → (x : Item) → Among x (items_of (map (λ n. Operation n) old ++ rest)) → Among x (items_of (map (λ n. Operation n) new ++ rest))
among_more old new rest more x i = ⊎_elim (λ j. among_left x (map (λ n. Operation n) new) rest (by old (λ k q. more k q) j)) (λ j. among_right x (map (λ n. Operation n) new) rest j) (among_cases x (map (λ n. Operation n) old) rest i)
  where
    by : (ks : List ℕ) → ((k : ℕ) → In k ks → In k new) → Among x (items_of (map (λ n. Operation n) ks)) → Among x (items_of (map (λ n. Operation n) new))
    by [] h j = absurd j
    by (k ∷ ks) h (inl e) = subst (λ z. Among z (items_of (map (λ n. Operation n) new))) (sym e) (among_set new k (h k (inl refl)))
    by (k ∷ ks) h (inr j) = by ks (λ q y. h q (inr y)) j

pub some_told : {A : Type 0} {o : Option A} {x : A} (P : A → Type 0) → IfSome o P → o ≡ Some x → P x
some_told P i e = subst (λ z. IfSome z P) e i

-- one more value was visited
pub looked_more : (t : Tree) (v : ℕ) (values : List ℕ) (i : ℕ) (old mid new : List DeadCandidate) → AreRevisited t (take i values) (items_of old) → slice_get values i ≡ Some v → ((x : Item) → Among x (items_of old) → Among x (items_of mid)) → ((x : Item) → Among x (items_of mid) → Among x (items_of new)) → ((k : ℕ) → IsDefinedInside t k v → Among (Op k) (items_of new)) → ((k n : ℕ) → definition_of t v ≡ Some (Result k n) → Among (Op k) (items_of mid)) → ((b n : ℕ) → definition_of t v ≡ Some (Definition b n) → Among (Arg v) (items_of mid)) → AreRevisited t (take (i + 1) values) (items_of new)
looked_more t v values i old mid new before at more kept round makers arguments = record {
  makers = λ u k n j d e. ⊎_elim (λ y. all (Op k) (before.makers u k n y d e)) (λ s. kept (Op k) (makers k n (ap (definition_of t) (sym s) ∙ e))) (was u j);
  arguments = λ u b n j d e. ⊎_elim (λ y. all (Arg u) (before.arguments u b n y d e)) (λ s. subst (λ z. Among (Arg z) (items_of new)) (sym s) (kept (Arg v) (arguments b n (ap (definition_of t) (sym s) ∙ e)))) (was u j);
  around = λ u k j d m. ⊎_elim (λ y. all (Op k) (before.around u k y d m)) (λ s. round k (subst (IsDefinedInside t k) s m)) (was u j);
}
  where
    all : (x : Item) → Among x (items_of old) → Among x (items_of new)
    all x y = kept x (more x y)

    in_split : (u : ℕ) (xs : List ℕ) → In u (xs ++ v ∷ []) → In u xs ⊎ (u ≡ v)
    in_split u [] (inl e) = inr e
    in_split u [] (inr j) = absurd j
    in_split u (x ∷ xs) (inl e) = inl (inl e)
    in_split u (x ∷ xs) (inr j) = ⊎_elim (λ q. inl (inr q)) (λ e. inr e) (in_split u xs j)

    was : (u : ℕ) → In u (take (i + 1) values) → In u (take i values) ⊎ (u ≡ v)
    was u j = in_split u (take i values) (subst (In u) (ap (λ n. take n values) (add-one i) ∙ take_more values i v at) j)

-- a value that stands no more needs no look
pub looked_past : (t : Tree) (v : ℕ) (values : List ℕ) (i : ℕ) (items : List Item) → AreRevisited t (take i values) items → slice_get values i ≡ Some v → (IsDefined t v → ⊥) → AreRevisited t (take (i + 1) values) items
looked_past t v values i items before at deleted = record {
  makers = λ u k n j d e. ⊎_elim (λ y. before.makers u k n y d e) (λ s. absurd (deleted (subst (IsDefined t) s d))) (was u j);
  arguments = λ u b n j d e. ⊎_elim (λ y. before.arguments u b n y d e) (λ s. absurd (deleted (subst (IsDefined t) s d))) (was u j);
  around = λ u k j d m. ⊎_elim (λ y. before.around u k y d m) (λ s. absurd (deleted (subst (IsDefined t) s d))) (was u j);
}
  where
    in_split : (u : ℕ) (xs : List ℕ) → In u (xs ++ v ∷ []) → In u xs ⊎ (u ≡ v)
    in_split u [] (inl e) = inr e
    in_split u [] (inr j) = absurd j
    in_split u (x ∷ xs) (inl e) = inl (inl e)
    in_split u (x ∷ xs) (inr j) = ⊎_elim (λ q. inl (inr q)) (λ e. inr e) (in_split u xs j)

    was : (u : ℕ) → In u (take (i + 1) values) → In u (take i values) ⊎ (u ≡ v)
    was u j = in_split u (take i values) (subst (In u) (ap (λ n. take n values) (add-one i) ∙ take_more values i v at) j)

pub same_maker : {d : Option Def} {k n p q : ℕ} → d ≡ Some (Result k n) → d ≡ Some (Result p q) → k ≡ p
same_maker {k = k} {n = n} {p = p} {q = q} e f = let s : Some (Result k n) ≡ Some (Result p q) = sym e ∙ f in cc

pub other_maker : {d : Option Def} {k n p q : ℕ} → d ≡ Some (Result k n) → d ≡ Some (Definition p q) → ⊥
other_maker {k = k} {n = n} {p = p} {q = q} e f = let s : Some (Result k n) ≡ Some (Definition p q) = sym e ∙ f in absurd (cc)
