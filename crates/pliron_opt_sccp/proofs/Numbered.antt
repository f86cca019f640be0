-- Keys that get numbers, one after the other.
use Rattle.std.proofs.Common.{◌≡◌, ◌⊎◌, ◌↔◌, ⊎_elim, inl, inr, ℕ, Bool, true, false, nat_eq, if◌then◌else◌, List, [], ◌∷◌, ◌++◌, refl, sym, ap, ◌∙◌, subst}
use Rattle.std.specs.List.{flat_map, list_any}
use Rattle.pliron_core.specs.Lists.{In}
use Rattle.pliron_core.specs.Tree.{Tree}
use Rattle.pliron_theory.specs.LatticeValues.{Undetermined, NotAConstant}
use Rattle.pliron_opt_sccp.specs.declared.lattice_tables.Tables.{Tables}
use Rattle.pliron_opt_sccp.specs.LatticeTables.{AreNew}
use Rattle.pliron_opt_sccp.specs.Chain.{blocks_inside}
use Rattle.pliron_opt_sccp.specs.Inside.{values_inside}
use Rattle.pliron_opt_sccp.specs.WorklistCounts.{IsUnsearched}
use Rattle.indexmap.specs.IndexSet.{insert_key}
use Rattle.pliron_opt_sccp.specs.Starting.{AddsKeys, keys_added}
use Rattle.pliron_opt_sccp.proofs.Worklists.{any_in, in_any}
use Rattle.pliron_opt_sccp.proofs.UserLists.{any_same, key_added}

pub added-append : (xs ys a : List ℕ) → keys_added (xs ++ ys) a ≡ keys_added ys (keys_added xs a)
added-append [] ys a = refl
added-append (x ∷ xs) ys a = added-append xs ys (if list_any (nat_eq x) a then a else a ++ x ∷ [])

pub keys_none : (xs : List ℕ) → AddsKeys [] xs xs
keys_none xs = refl

pub keys_join : (xs ys a b c : List ℕ) → AddsKeys xs a b → AddsKeys ys b c → AddsKeys (xs ++ ys) a c
keys_join xs ys a b c p q = q ∙ ap (keys_added ys) p ∙ sym (added-append xs ys a)

-- the keys that each item lists
abbrev pub AddsKeysOf : (ℕ → List ℕ) → List ℕ → List ℕ → List ℕ → Type 0
AddsKeysOf f xs a b = AddsKeys (flat_map f xs) a b

pub keys_step : (f : ℕ → List ℕ) (x : ℕ) (a b : List ℕ) → AddsKeys (f x) a b → (rest : List ℕ) (c : List ℕ) → AddsKeysOf f rest b c → AddsKeysOf f (x ∷ rest) a c
keys_step f x a b p rest c q = keys_join (f x) (flat_map f rest) a b c p q

pub one_step : (x : ℕ) (a b : List ℕ) → AddsKeys (x ∷ []) a b → (rest : List ℕ) (c : List ℕ) → AddsKeys rest b c → AddsKeys (x ∷ rest) a c
one_step x a b p rest c q = keys_join (x ∷ []) rest a b c p q

-- one key more
pub key_one : {eq : ℕ → ℕ → Bool} → ((x y : ℕ) → eq x y ≡ nat_eq x y) → (xs ys : List ℕ) (x : ℕ) → ys ≡ insert_key eq xs x → AddsKeys (x ∷ []) xs ys
key_one {eq} same xs ys x e = e ∙ ap (λ b. if b then xs else xs ++ x ∷ []) (any_same (eq x) (nat_eq x) (same x) xs)

-- the keys are those from before and these
pub members : (keys old : List ℕ) (k : ℕ) → In k (keys_added keys old) ↔ (In k old ⊎ In k keys)
members [] old k = (λ i. inl i, λ i. ⊎_elim (λ j. j) (λ j. absurd j) i)
members (x ∷ keys) old k =
    let one = key_added {eq = nat_eq} (λ x y. refl) old (if list_any (nat_eq x) old then old else old ++ x ∷ []) x refl in
    let rest = members keys (if list_any (nat_eq x) old then old else old ++ x ∷ []) k in (
      λ i. ⊎_elim (λ j. ⊎_elim (λ h. inl h) (λ h. inr (inl (sym h))) ((one.members k).0 j)) (λ j. inr (inr j)) (rest.0 i),
      λ i. ⊎_elim (λ j. rest.1 (inl ((one.members k).1 (inl j)))) (λ j. ⊎_elim (λ h. rest.1 (inl ((one.members k).1 (inr (sym h))))) (λ h. rest.1 (inr h)) j) i,
    )

adds : (keys old new : List ℕ) → AddsKeys keys old new → (k : ℕ) → In k new ↔ (In k old ⊎ In k keys)
adds keys old new e k = subst (λ z. In k z ↔ (In k old ⊎ In k keys)) (sym e) (members keys old k)

is_there : (k : ℕ) (xs : List ℕ) → In k xs → list_any (nat_eq k) xs ≡ true
is_there k xs i = in_any k xs i

not_there : (k : ℕ) (xs : List ℕ) → (In k xs → ⊥) → list_any (nat_eq k) xs ≡ false
not_there k xs none = by (list_any (nat_eq k) xs) refl
  where
    by : (b : Bool) → list_any (nat_eq k) xs ≡ b → list_any (nat_eq k) xs ≡ false
    by true e = absurd (none (any_in k xs e))
    by false e = e

-- from nothing, the keys are these
only : (keys new : List ℕ) → AddsKeys keys [] new → (k : ℕ) → In k new → In k keys
only keys new a k i = ⊎_elim (λ z. absurd z) (λ j. j) ((adds keys [] new a k).0 i)

pub unsearched_when : (t : Tree) (root : ℕ) (blocks numbered listed values : List ℕ) (s : Tables) → blocks ≡ blocks_inside t root → AddsKeys blocks [] numbered → ((v : ℕ) → In v listed ↔ In v (values_inside t root)) → AddsKeys listed [] values → AreNew numbered values s → IsUnsearched t root s
unsearched_when t root blocks numbered listed values s e b same v new = record {
  reached = new.reached;
  inside = λ x i. new.facts x ∙ ap (λ c. if c then Undetermined else NotAConstant) (is_there x values ((adds listed [] values v x).1 (inr ((same x).1 i))));
  outside = λ x n. new.facts x ∙ ap (λ c. if c then Undetermined else NotAConstant) (not_there x values (λ i. n ((same x).0 (only listed values v x i))));
  blocks = new.blocks_wait;
  values = new.values_wait;
  numbered = λ x i. new.numbers x ∙ is_there x numbered ((adds blocks [] numbered b x).1 (inr (subst (In x) (sym e) i)));
}
