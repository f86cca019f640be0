-- Knowing more operands keeps each constant that folding answers and adds no block that a branch may go to, whatever
-- the tables compute.
use Rattle.std.proofs.Common.{◌≡◌, ℕ, zero, suc, Bool, true, false, List, [], ◌∷◌, map, Option, Some, None, slice_index_or, IsTrue, refl, ap, sym, subst}
use Rattle.std.specs.Option.{option_map}
use Rattle.std.specs.Prelude.{ℤ}
use Rattle.pliron_core.specs.declared.attrs.Head.{Head}
use Rattle.pliron_core.specs.declared.attrs.AttrObj.{AttrObj}
use Rattle.pliron_core.specs.declared.attrs.AttrObj.TheVariants.{Int}
use Rattle.pliron_core.specs.Lists.{In}
use Rattle.pliron_laws.specs.Datum.{Shape}
use Rattle.pliron_laws.specs.Folding.{KnowsMore, FoldsMonotonely}
use Rattle.pliron_dialect.specs.Roles.{Interpretation, Allows, Role, Constant, Folds, Picks, Opaque, Jumps, Chooses, Leaves, Stops, Acts, Names, Forks, Holds, Stays, AllStay, RoleFits, RolesFit, ResultFits, Grows, complete, folded_by, fact_known, chosen_edge, truth_of, by_role, meaning_by, folds_by, branch_folds_by, constants_by, feasible_by, answers_by, feasible_of, edges_taken, known_as, known_number_at, all_known, with_number, number_computed, left_known, folded_known, picked_known}
use Rattle.pliron_dialect.specs.declared.identity.Identity.{Identity}
use Rattle.pliron_dialect.specs.declared.form.Otherwise.{Otherwise}
use Rattle.pliron_dialect.specs.declared.form.Otherwise.TheVariants.{Says, Never, Traps}
use Rattle.pliron_dialect.specs.Identities.{place_of_one}
use Rattle.pliron_dialect.specs.FoldLaws.{taken_in}

no_less : {A : Type 0} (p : Option A) → Stays p p
no_less None = tt
no_less (Some x) = refl

-- a function of what is known, which knows nothing of nothing, keeps it
kept : {A B : Type 0} (f : Option A → Option B) → f None ≡ None → (p q : Option A) → Stays p q → Stays (f p) (f q)
kept f e None q m = subst (λ x. Stays x (f q)) (sym e) tt
kept f e (Some x) q m = subst (λ y. Stays (f (Some x)) (f y)) (sym m) (no_less (f (Some x)))

more_at : (known more : List (Option AttrObj)) (i : ℕ) → KnowsMore known more → Stays (slice_index_or known i None) (slice_index_or more i None)
more_at [] more i m = tt
more_at (a ∷ known) [] i m = absurd m
more_at (None ∷ known) (b ∷ more) zero m = tt
more_at (Some a ∷ known) (b ∷ more) zero m = m.0
more_at (None ∷ known) (b ∷ more) (suc i) m = more_at known more i m
more_at (Some a ∷ known) (b ∷ more) (suc i) m = more_at known more i m.1

number_more : (known more : List (Option AttrObj)) (i : ℕ) → KnowsMore known more → Stays (known_number_at known i) (known_number_at more i)
number_more known more i m = kept known_as refl (slice_index_or known i None) (slice_index_or more i None) (more_at known more i m)

all_more : (known more : List (Option AttrObj)) → KnowsMore known more → Stays (all_known known) (all_known more)
all_more [] [] m = refl
all_more [] (b ∷ more) m = absurd m
all_more (a ∷ known) [] m = absurd m
all_more (None ∷ known) (b ∷ more) m = tt
all_more (Some a ∷ known) (b ∷ more) m =
    subst (λ x. Stays (with_number (known_as (Some a)) (all_known known)) (with_number (known_as x) (all_known more))) (sym m.0)
    (kept (with_number (known_as (Some a))) refl (all_known known) (all_known more) (all_more known more m.1))

-- ---- constants

alone : (p q : Option AttrObj) → Stays p q → KnowsMore (p ∷ []) (q ∷ [])
alone None q m = tt
alone (Some a) q m = (m, tt)

picked_more : (known more : List (Option AttrObj)) (p q : Option Bool) → KnowsMore known more → Stays p q → Stays (picked_known known p) (picked_known more q)
picked_more known more None q m n = tt
picked_more known more (Some true) q m n = subst (λ x. Stays (picked_known known (Some true)) (picked_known more x)) (sym n) (more_at known more 1 m)
picked_more known more (Some false) q m n = subst (λ x. Stays (picked_known known (Some false)) (picked_known more x)) (sym n) (more_at known more 2 m)

too_few : {P : Type 0} (c e : Option AttrObj) (known : List (Option AttrObj)) (d : Option AttrObj) → KnowsMore (c ∷ e ∷ known) (d ∷ []) → P
too_few None e known d m = absurd m
too_few (Some c) e known d m = absurd m.1

-- what is computed, left or given of operands that are all known stays

computed_more : (result : List ℤ → Option ℤ) (known more : List (Option AttrObj)) → KnowsMore known more → Stays (option_map (λ k. Int k) (number_computed result (all_known known))) (option_map (λ k. Int k) (number_computed result (all_known more)))
computed_more result known more m = kept (λ o. option_map (λ k. Int k) (number_computed result o)) refl (all_known known) (all_known more) (all_more known more m)

one_more : (only : Bool) (result : List ℤ → Option ℤ) (a b : Option AttrObj) → KnowsMore (a ∷ []) (b ∷ []) → Stays (left_known (a ∷ []) (place_of_one only) (option_map (λ k. Int k) (number_computed result (all_known (a ∷ []))))) (left_known (b ∷ []) (place_of_one only) (option_map (λ k. Int k) (number_computed result (all_known (b ∷ [])))))
one_more true result None b m = tt
one_more true result (Some a) b m = subst (Stays (Some a)) (sym m.0) (no_less (Some a))
one_more false result a b m = computed_more result (a ∷ []) (b ∷ []) m

left_more : (i : Identity) (result : List ℤ → Option ℤ) (known more : List (Option AttrObj)) → KnowsMore known more → Stays (folded_known i result known) (folded_known i result more)
left_more i result [] [] m = no_less (folded_known i result [])
left_more i result [] (b ∷ more) m = absurd m
left_more i result (a ∷ known) [] m = absurd m
left_more i result (a ∷ []) (b ∷ []) m = one_more i.only result a b m
left_more i result (None ∷ []) (b ∷ c ∷ more) m = absurd m
left_more i result (Some a ∷ []) (b ∷ c ∷ more) m = absurd m.1
left_more i result (None ∷ c ∷ []) (b ∷ more) m = tt
left_more i result (None ∷ c ∷ e ∷ known) (b ∷ more) m = tt
left_more i result (Some a ∷ None ∷ []) (b ∷ more) m = tt
left_more i result (Some a ∷ c ∷ known) (b ∷ []) m = absurd m.1
left_more i result (Some a ∷ Some c ∷ []) (b ∷ d ∷ []) m = subst (λ x. Stays (folded_known i result (Some a ∷ Some c ∷ [])) (folded_known i result (x ∷ d ∷ []))) (sym m.0) (subst (λ x. Stays (folded_known i result (Some a ∷ Some c ∷ [])) (folded_known i result (Some a ∷ x ∷ []))) (sym m.1.0) (no_less (folded_known i result (Some a ∷ Some c ∷ []))))
left_more i result (Some a ∷ Some c ∷ []) (b ∷ d ∷ e ∷ more) m = absurd m.1.1
left_more i result (Some a ∷ c ∷ e ∷ known) (b ∷ d ∷ []) m = too_few c e known d m.1
left_more i result (Some a ∷ c ∷ e ∷ known) (b ∷ d ∷ f ∷ more) m = computed_more result (Some a ∷ c ∷ e ∷ known) (b ∷ d ∷ f ∷ more) m

-- what is computed of what is known stays where more is known
all_stay : (known more : List (Option AttrObj)) → KnowsMore known more → AllStay (map known_as known) (map known_as more)
all_stay [] [] m = tt
all_stay [] (b ∷ more) m = absurd m
all_stay (a ∷ known) [] m = absurd m
all_stay (None ∷ known) (b ∷ more) m = (tt, all_stay known more m)
all_stay (Some a ∷ known) (b ∷ more) m = (ap known_as m.0, all_stay known more m.1)

fact_more : (knows : Head → List (Option ℤ) → Option ℤ) (h : Head) (known more : List (Option AttrObj)) → Grows knows → KnowsMore known more → Stays (fact_known (knows h) known) (fact_known (knows h) more)
fact_more knows h known more grows m = kept (option_map (λ k. Int k)) refl (knows h (map known_as known)) (knows h (map known_as more)) (grows h (map known_as known) (map known_as more) (all_stay known more m))

fold_more : (otherwise : Otherwise) (n : ℕ) (knows : Head → List (Option ℤ) → Option ℤ) (identity : Head → Identity) (h : Head) (known more : List (Option AttrObj)) → ResultFits otherwise n knows identity → KnowsMore known more → Stays (folded_by otherwise (identity h) (knows h) known) (folded_by otherwise (identity h) (knows h) more)
fold_more Says n knows identity h known more own m = left_more (identity h) (complete knows h) known more m
fold_more Never n knows identity h known more own m = fact_more knows h known more own.0.grows m
fold_more Traps n knows identity h known more own m = fact_more knows h known more own.grows m

role_more : (allows : Allows) (r : Role) (s : Shape) (known more : List (Option AttrObj)) → RoleFits allows r s → KnowsMore known more → KnowsMore (answers_by s.head known r) (answers_by s.head more r)
role_more allows Constant s known more own m = (refl, tt)
role_more allows (Folds n knows identity otherwise) s known more own m = alone _ _ (fold_more otherwise n knows identity s.head known more own m)
role_more allows (Picks truth) s known more own m =
    alone _ _ (picked_more known more (truth_of truth (known_number_at known 0)) (truth_of truth (known_number_at more 0)) m
    (kept (truth_of truth) refl (known_number_at known 0) (known_number_at more 0) (number_more known more 0 m)))
role_more allows Opaque s known more own m = tt
role_more allows Jumps s known more own m = tt
role_more allows (Chooses counting choose) s known more own m = tt
role_more allows Leaves s known more own m = tt
role_more allows Stops s known more own m = tt
role_more allows (Acts says removes act) s known more own m = tt
role_more allows (Names act named) s known more own m = tt
role_more allows (Forks says act) s known more own m = tt
role_more allows (Holds says) s known more own m = tt

constants_more : (allows : Allows) (o : Option Role) (s : Shape) (known more : List (Option AttrObj)) → ((r : Role) → o ≡ Some r → RoleFits allows r s) → KnowsMore known more → KnowsMore (by_role [] (answers_by s.head known) o) (by_role [] (answers_by s.head more) o)
constants_more allows None s known more own m = tt
constants_more allows (Some r) s known more own m = role_more allows r s known more (own r refl) m

-- ---- blocks

taken_more : (targets : List ℕ) (choose : ℤ → Option ℕ) (p q : Option ℤ) (b : ℕ) → Stays p q → In b (edges_taken targets choose q) → In b (edges_taken targets choose p)
taken_more targets choose None q b m h = taken_in targets choose q b h
taken_more targets choose (Some c) q b m h = subst (λ x. In b (edges_taken targets choose x)) m h

role_fewer : (r : Role) (s : Shape) (targets : List ℕ) (known more : List (Option AttrObj)) (b : ℕ) → KnowsMore known more → In b (feasible_of s targets more r) → In b (feasible_of s targets known r)
role_fewer (Chooses counting choose) s targets known more b m h = taken_more targets (chosen_edge counting choose s) (known_number_at known 0) (known_number_at more 0) b (number_more known more 0 m) h
role_fewer _ s targets known more b m h = h

feasible_fewer : (o : Option Role) (s : Shape) (targets : List ℕ) (known more : List (Option AttrObj)) (b : ℕ) → KnowsMore known more → In b (by_role targets (feasible_of s targets more) o) → In b (by_role targets (feasible_of s targets known) o)
feasible_fewer None s targets known more b m h = h
feasible_fewer (Some r) s targets known more b m h = role_fewer r s targets known more b m h

pub folds_monotonely : (value : Interpretation) (roles : ℕ → Option Role) (allows : Allows) → RolesFit allows roles → FoldsMonotonely (meaning_by value roles allows) (folds_by roles) (branch_folds_by roles) (constants_by roles) (feasible_by roles)
unfolding constants_by feasible_by
folds_monotonely value roles allows own = record {
  answers = λ s h f known more l m. constants_more allows (roles s.head.kind) s known more (own s) m;
  jumps = λ s targets h f l known more n m b i. feasible_fewer (roles s.head.kind) s targets known more b m i;
}
