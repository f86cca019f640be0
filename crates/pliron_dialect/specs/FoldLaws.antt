-- What a dialect of roles answers on constants and jumps is true, whatever the interpretation is.
use Rattle.std.proofs.Common.{◌≡◌, inl, inr, ℕ, zero, suc, Bool, true, false, List, [], ◌∷◌, map, take, Option, Some, None, length, slice_get, slice_index_or, IsTrue, refl, ap, ap₂, sym, subst, arith}
use Rattle.std.specs.Option.{option_map, option_or}
use Rattle.std.specs.Prelude.{ℤ}
use Rattle.pliron_core.specs.declared.attrs.Head.{Head}
use Rattle.pliron_core.specs.declared.attrs.AttrObj.{AttrObj}
use Rattle.pliron_core.specs.declared.attrs.AttrObj.TheVariants.{Int}
use Rattle.pliron_core.specs.Lists.{In}
use Rattle.pliron_laws.specs.Datum.{Datum, Empty, Number, Text, Join, datum_of, Shape, Move, Give, Visit, Goto, Leave, Emit, Trap}
use Rattle.pliron_laws.specs.Acting.{AgreeWithKnown}
use Rattle.pliron_laws.specs.Folding.{AnswersTrue, AnswersJumps}
use Rattle.pliron_dialect.specs.Roles.{Interpretation, Role, Constant, Folds, Picks, Opaque, Jumps, Chooses, Leaves, Stops, Acts, Names, Forks, Holds, Allows, RoleFits, RolesFit, ResultFits, give_or_trap, complete, folds_to, folded_by, Stays, AllStay, number_of, numbers_of, first_number, results_given, operand_left, left_known, folded_known, operands_picked, nth_datum, head_without_counts, edge_or, chosen_edge, truth_of, only_edge, by_role, by_form, form_of, act_of, no_act, branches, meaning_by, folds_by, branch_folds_by, constants_by, feasible_by, answers_by, folds_of, folds_branch_of, feasible_of, edges_taken, known_as, known_number_at, all_known, with_number, number_computed, picked_known}
use Rattle.pliron_dialect.specs.Counts.{only_successor}
use Rattle.pliron_dialect.specs.declared.identity.Identity.{Identity}
use Rattle.pliron_dialect.specs.declared.form.Otherwise.{Otherwise}
use Rattle.pliron_dialect.specs.declared.form.Otherwise.TheVariants.{Says, Never, Traps}
use Rattle.pliron_dialect.specs.Identities.{place_of_one, place_between, place_in, place_known, given_between, given_in, given_known}
use Rattle.pliron_dialect.specs.Parts.{Admits, IsQuiet, comes_first, three, both_parts}

-- ---- numbers that are known

abbrev pub AgreesWithKnown : Option ℤ → ℤ → Type 0
AgreesWithKnown None n = Unit {0}
AgreesWithKnown (Some m) n = m ≡ n

pub first_agrees : (known : List (Option AttrObj)) (ds : List Datum) → AgreeWithKnown known ds → AgreesWithKnown (known_number_at known 0) (first_number ds)
first_agrees [] ds h = tt
first_agrees (a ∷ known) [] h = absurd h
first_agrees (None ∷ known) (d ∷ ds) h = tt
first_agrees (Some a ∷ known) (d ∷ ds) h = ap number_of h.0

abbrev AllAgree : Option (List ℤ) → List ℤ → Type 0
AllAgree None ns = Unit {0}
AllAgree (Some ms) ns = ms ≡ ns

one_more_agrees : (n m : ℤ) (o : Option (List ℤ)) (ns : List ℤ) → m ≡ n → AllAgree o ns → AllAgree (with_number (Some m) o) (n ∷ ns)
one_more_agrees n m None ns e a = tt
one_more_agrees n m (Some ms) ns e a = ap₂ (λ x xs. x ∷ xs) e a

all_agree : (known : List (Option AttrObj)) (ds : List Datum) → AgreeWithKnown known ds → AllAgree (all_known known) (numbers_of ds)
all_agree [] [] h = refl
all_agree [] (d ∷ ds) h = absurd h
all_agree (a ∷ known) [] h = absurd h
all_agree (None ∷ known) (d ∷ ds) h = tt
all_agree (Some a ∷ known) (d ∷ ds) h = one_more_agrees (number_of d) _ (all_known known) (numbers_of ds) (ap number_of h.0) (all_agree known ds h.1)

-- ---- constants

-- where the move gives results, they are the known constants
abbrev GivesKnown : List (Option AttrObj) → Move → Type 0
GivesKnown cs (Give ds) = AgreeWithKnown cs ds
GivesKnown cs (Visit i ds memo) = Unit {0}
GivesKnown cs (Goto i ds) = Unit {0}
GivesKnown cs (Leave ds) = Unit {0}
GivesKnown cs (Emit e memo) = Unit {0}
GivesKnown cs Trap = Unit {0}

number_given : (value : Interpretation) (h : Head) (input : List Datum) (o : Option ℤ) → AgreeWithKnown (option_map (λ m. Int m) o ∷ []) (results_given value h input o)
number_given value h input (Some n) = (refl, tt)
number_given value h input None = some_first (value h input)
  where
    some_first : (ds : List Datum) → AgreeWithKnown (None ∷ []) (Rattle.pliron_dialect.specs.Roles.fit_data 1 ds)
    some_first [] = tt
    some_first (d ∷ ds) = tt

nothing_given : (value : Interpretation) (h : Head) (input : List Datum) (o : Option ℤ) → AgreeWithKnown (None ∷ []) (results_given value h input o)
nothing_given value h input (Some n) = tt
nothing_given value h input None = number_given value h input None

folded_given : (value : Interpretation) (h : Head) (input : List Datum) (result : List ℤ → Option ℤ) (o : Option (List ℤ)) → AllAgree o (numbers_of input) → AgreeWithKnown (option_map (λ m. Int m) (number_computed result o) ∷ []) (results_given value h input (result (numbers_of input)))
folded_given value h input result None a = nothing_given value h input (result (numbers_of input))
folded_given value h input result (Some ns) a = subst (λ x. AgreeWithKnown (option_map (λ m. Int m) (result ns) ∷ []) (results_given value h input (result x))) a (number_given value h input (result ns))

known_there : (known : List (Option AttrObj)) (ds : List Datum) (i : ℕ) → AgreeWithKnown known ds → AgreeWithKnown (slice_index_or known i None ∷ []) (nth_datum ds i ∷ [])
known_there [] ds i h = tt
known_there (a ∷ known) [] i h = absurd h
known_there (None ∷ known) (d ∷ ds) zero h = tt
known_there (Some a ∷ known) (d ∷ ds) zero h = (h.0, tt)
known_there (None ∷ known) (d ∷ ds) (suc i) h = known_there known ds i h
known_there (Some a ∷ known) (d ∷ ds) (suc i) h = known_there known ds i h.1

-- the number that is known, or else the one that is computed
found_given : (value : Interpretation) (h : Head) (result : List ℤ → Option ℤ) (n : Option ℤ) (known : List (Option AttrObj)) (first : List Datum) → AgreeWithKnown known first → AgreeWithKnown (option_map (λ m. Int m) (option_or n (number_computed result (all_known known))) ∷ []) (results_given value h first (option_or n (result (numbers_of first))))
found_given value h result (Some n) known first k = (refl, tt)
found_given value h result None known first k = folded_given value h first result (all_known known) (all_agree known first k)

at_place : (value : Interpretation) (h : Head) (result : List ℤ → Option ℤ) (o : Option ℕ) (n : Option ℤ) (known : List (Option AttrObj)) (first : List Datum) → AgreeWithKnown known first → AgreeWithKnown (left_known known o (option_map (λ m. Int m) (option_or n (number_computed result (all_known known)))) ∷ []) (operand_left first o (results_given value h first (option_or n (result (numbers_of first)))))
at_place value h result (Some p) n known first k = known_there known first p k
at_place value h result None n known first k = found_given value h result n known first k

nothing_left : (value : Interpretation) (h : Head) (o : Option ℕ) (n : Option ℤ) (first : List Datum) → AgreeWithKnown (None ∷ []) (operand_left first o (results_given value h first n))
nothing_left value h (Some p) n first = tt
nothing_left value h None n first = nothing_given value h first n

too_long : {P : Type 0} (b : Option AttrObj) (e f : Datum) (first : List Datum) → AgreeWithKnown (b ∷ []) (e ∷ f ∷ first) → P
too_long None e f first k = absurd k
too_long (Some b) e f first k = absurd k.1

too_short : {P : Type 0} (b c : Option AttrObj) (known : List (Option AttrObj)) (e : Datum) → AgreeWithKnown (b ∷ c ∷ known) (e ∷ []) → P
too_short None c known e k = absurd k
too_short (Some b) c known e k = absurd k.1

-- what an operation that folds gives of these data
abbrev folded_data : Interpretation → Head → (List ℤ → Option ℤ) → Identity → List Datum → List Datum
folded_data value h result i first = operand_left first (place_in i first) (results_given value h first (option_or (given_in i first) (result (numbers_of first))))

-- what is left or given of one operand, or of two that are known, is what is known of it
left_given : (value : Interpretation) (h : Head) (result : List ℤ → Option ℤ) (i : Identity) (known : List (Option AttrObj)) (first : List Datum) → AgreeWithKnown known first → AgreeWithKnown (folded_known i result known ∷ []) (folded_data value h result i first)
left_given value h result i [] [] k = folded_given value h [] result (Some []) refl
left_given value h result i [] (d ∷ first) k = absurd k
left_given value h result i (a ∷ known) [] k = absurd k
left_given value h result i (a ∷ []) (d ∷ []) k = at_place value h result (place_of_one i.only) None (a ∷ []) (d ∷ []) k
left_given value h result i (None ∷ []) (d ∷ e ∷ first) k = absurd k
left_given value h result i (Some a ∷ []) (d ∷ e ∷ first) k = absurd k.1
left_given value h result i (None ∷ b ∷ known) (d ∷ []) k = absurd k
left_given value h result i (Some a ∷ b ∷ known) (d ∷ []) k = absurd k.1
left_given value h result i (a ∷ b ∷ c ∷ known) (d ∷ e ∷ f ∷ first) k = folded_given value h (d ∷ e ∷ f ∷ first) result (all_known (a ∷ b ∷ c ∷ known)) (all_agree (a ∷ b ∷ c ∷ known) (d ∷ e ∷ f ∷ first) k)
left_given value h result i (None ∷ b ∷ []) (d ∷ e ∷ []) k = nothing_left value h (place_in i (d ∷ e ∷ [])) _ (d ∷ e ∷ [])
left_given value h result i (Some a ∷ None ∷ []) (d ∷ e ∷ []) k = nothing_left value h (place_in i (d ∷ e ∷ [])) _ (d ∷ e ∷ [])
left_given value h result i (Some a ∷ Some b ∷ []) (d ∷ e ∷ []) k =
    subst (λ o. AgreeWithKnown (left_known (Some a ∷ Some b ∷ []) o (option_map (λ m. Int m) (option_or (given_known i (Some a ∷ Some b ∷ [])) (number_computed result (all_known (Some a ∷ Some b ∷ []))))) ∷ []) (folded_data value h result i (d ∷ e ∷ []))) (sym (ap₂ (place_between i) k.0 k.1.0))
    (subst (λ n. AgreeWithKnown (left_known (Some a ∷ Some b ∷ []) (place_between i d e) (option_map (λ m. Int m) (option_or n (number_computed result (all_known (Some a ∷ Some b ∷ []))))) ∷ []) (folded_data value h result i (d ∷ e ∷ []))) (sym (ap₂ (given_between i) k.0 k.1.0))
    (at_place value h result (place_between i d e) (given_between i d e) (Some a ∷ Some b ∷ []) (d ∷ e ∷ []) k))
left_given value h result i (None ∷ b ∷ []) (d ∷ e ∷ f ∷ first) k = too_long b e f first k
left_given value h result i (Some a ∷ b ∷ []) (d ∷ e ∷ f ∷ first) k = too_long b e f first k.1
left_given value h result i (None ∷ b ∷ c ∷ known) (d ∷ e ∷ []) k = too_short b c known e k
left_given value h result i (Some a ∷ b ∷ c ∷ known) (d ∷ e ∷ []) k = too_short b c known e k.1

where_true : (value : Interpretation) (h : Head) (known : List (Option AttrObj)) (ds : List Datum) (o : Option Bool) → AgreeWithKnown known ds → AgreeWithKnown (picked_known known o ∷ []) (operands_picked value h ds o)
where_true value h known ds (Some true) k = known_there known ds 1 k
where_true value h known ds (Some false) k = known_there known ds 2 k
where_true value h known ds None k = number_given value h ds None

nothing_picked : (value : Interpretation) (h : Head) (ds : List Datum) (o : Option Bool) → AgreeWithKnown (None ∷ []) (operands_picked value h ds o)
nothing_picked value h ds (Some true) = tt
nothing_picked value h ds (Some false) = tt
nothing_picked value h ds None = number_given value h ds None

picked_given : (value : Interpretation) (h : Head) (known : List (Option AttrObj)) (ds : List Datum) (truth : ℤ → Option Bool) (o : Option ℤ) (c : ℤ) → AgreesWithKnown o c → AgreeWithKnown known ds → AgreeWithKnown (picked_known known (truth_of truth o) ∷ []) (operands_picked value h ds (truth c))
picked_given value h known ds truth None c a k = nothing_picked value h ds (truth c)
picked_given value h known ds truth (Some n) c a k = subst (λ x. AgreeWithKnown (picked_known known (truth n) ∷ []) (operands_picked value h ds (truth x))) a (where_true value h known ds (truth n) k)

-- what is computed of what is known is what is given, if anything is
known_stays : (known : List (Option AttrObj)) (first : List Datum) → AgreeWithKnown known first → AllStay (map known_as known) (map Some (numbers_of first))
known_stays [] [] k = tt
known_stays [] (d ∷ first) k = absurd k
known_stays (a ∷ known) [] k = absurd k
known_stays (None ∷ known) (d ∷ first) k = (tt, known_stays known first k)
known_stays (Some a ∷ known) (d ∷ first) k = (ap (λ x. Some (number_of x)) (sym k.0), known_stays known first k.1)

stays_given : (o p : Option ℤ) → Stays o p → GivesKnown (option_map (λ m. Int m) o ∷ []) (give_or_trap p)
stays_given None None e = tt
stays_given None (Some n) e = tt
stays_given (Some m) p e = subst (λ x. GivesKnown (Some (Int m) ∷ []) (give_or_trap x)) (sym e) (refl, tt)

fold_known : (otherwise : Otherwise) (n : ℕ) (value : Interpretation) (h : Head) (identity : Head → Identity) (knows : Head → List (Option ℤ) → Option ℤ) (known : List (Option AttrObj)) (first : List Datum) → ResultFits otherwise n knows identity → AgreeWithKnown known first → GivesKnown (folded_by otherwise (identity h) (knows h) known ∷ []) (folds_to otherwise value h (identity h) (complete knows h) first)
fold_known Says n value h identity knows known first own k = left_given value h (complete knows h) (identity h) known first k
fold_known Never n value h identity knows known first own k = stays_given (knows h (map known_as known)) (complete knows h (numbers_of first)) (own.0.grows h (map known_as known) (map Some (numbers_of first)) (known_stays known first k))
fold_known Traps n value h identity knows known first own k = stays_given (knows h (map known_as known)) (complete knows h (numbers_of first)) (own.grows h (map known_as known) (map Some (numbers_of first)) (known_stays known first k))

fold_quiet : (otherwise : Otherwise) (value : Interpretation) (h : Head) (i : Identity) (result : List ℤ → Option ℤ) (input : List Datum) → IsQuiet (folds_to otherwise value h i result input)
fold_quiet Says value h i result input = tt
fold_quiet Never value h i result input = trap_quiet (result (numbers_of input))
  where
    trap_quiet : (o : Option ℤ) → IsQuiet (give_or_trap o)
    trap_quiet None = tt
    trap_quiet (Some n) = tt
fold_quiet Traps value h i result input = trap_quiet (result (numbers_of input))
  where
    trap_quiet : (o : Option ℤ) → IsQuiet (give_or_trap o)
    trap_quiet None = tt
    trap_quiet (Some n) = tt

role_gives : (value : Interpretation) (allows : Allows) (r : Role) (s : Shape) (known : List (Option AttrObj)) (memo : Datum) (first : List Datum) → RoleFits allows r s → IsTrue (folds_of (form_of r)) → AgreeWithKnown known first → GivesKnown (answers_by s.head known r) (act_of value r s memo first)
role_gives value allows Constant s known memo first own f h = (refl, tt)
role_gives value allows (Folds n knows identity otherwise) s known memo first own f h = fold_known otherwise n value s.head identity knows known first own h
role_gives value allows (Picks truth) s known memo first own f h = picked_given value s.head known first truth (known_number_at known 0) (first_number first) (first_agrees known first h) h
role_gives value allows Opaque s known memo first own f h = grind arith
role_gives value allows Jumps s known memo first own f h = grind arith
role_gives value allows (Chooses counting choose) s known memo first own f h = grind arith
role_gives value allows Leaves s known memo first own f h = grind arith
role_gives value allows Stops s known memo first own f h = grind arith
role_gives value allows (Acts says removes act) s known memo first own f h = grind arith
role_gives value allows (Names act named) s known memo first own f h = grind arith
role_gives value allows (Forks says act) s known memo first own f h = grind arith
role_gives value allows (Holds says) s known memo first own f h = grind arith

answers_given : (value : Interpretation) (allows : Allows) (o : Option Role) (s : Shape) (known : List (Option AttrObj)) (memo : Datum) (first : List Datum) → ((r : Role) → o ≡ Some r → RoleFits allows r s) → IsTrue (by_form false folds_of (option_map form_of o)) → AgreeWithKnown known first → GivesKnown (by_role [] (answers_by s.head known) o) (by_role no_act (act_of value) o s memo first)
answers_given value allows None s known memo first own f h = grind arith
answers_given value allows (Some r) s known memo first own f h = role_gives value allows r s known memo first (own r refl) f h

pub role_quiet : (value : Interpretation) (r : Role) (s : Shape) → IsTrue (folds_of (form_of r)) → (memo : Datum) (input : List Datum) → IsQuiet (act_of value r s memo input)
role_quiet value Constant s f memo input = tt
role_quiet value (Folds n knows identity otherwise) s f memo input = fold_quiet otherwise value s.head (identity s.head) (complete knows s.head) input
role_quiet value (Picks truth) s f memo input = tt
role_quiet value Opaque s f memo input = tt
role_quiet value Jumps s f memo input = tt
role_quiet value (Chooses counting choose) s f memo input = tt
role_quiet value Leaves s f memo input = tt
role_quiet value Stops s f memo input = tt
role_quiet value (Acts says removes act) s f memo input = grind arith
role_quiet value (Names act named) s f memo input = grind arith
role_quiet value (Forks says act) s f memo input = grind arith
role_quiet value (Holds says) s f memo input = tt

folds_quiet : (value : Interpretation) (o : Option Role) (s : Shape) → IsTrue (by_form false folds_of (option_map form_of o)) → (memo : Datum) (input : List Datum) → IsQuiet (by_role no_act (act_of value) o s memo input)
folds_quiet value None s f memo input = tt
folds_quiet value (Some r) s f memo input = role_quiet value r s f memo input

role_answers : (r : Role) (s : Shape) (known : List (Option AttrObj)) → Admits (Some r) s → IsTrue (folds_of (form_of r)) → length (answers_by s.head known r) ≡ s.results
role_answers Constant s known h f = let p = both_parts _ _ h in let q = three s.operands 0 _ p.1 in sym (three s.results 1 _ q.1).0
role_answers (Folds n knows identity otherwise) s known h f = let q = three s.operands n _ h in sym (three s.results 1 _ q.1).0
role_answers (Picks truth) s known h f = let q = three s.operands 3 _ h in sym (three s.results 1 _ q.1).0
role_answers Opaque s known h f = grind arith
role_answers Jumps s known h f = grind arith
role_answers (Chooses counting choose) s known h f = grind arith
role_answers Leaves s known h f = grind arith
role_answers Stops s known h f = grind arith
role_answers (Acts says removes act) s known h f = grind arith
role_answers (Names act named) s known h f = grind arith
role_answers (Forks says act) s known h f = grind arith
role_answers (Holds says) s known h f = grind arith

answer_count : (o : Option Role) (s : Shape) (known : List (Option AttrObj)) → Admits o s → IsTrue (by_form false folds_of (option_map form_of o)) → length (by_role [] (answers_by s.head known) o) ≡ s.results
answer_count None s known h f = grind arith
answer_count (Some r) s known h f = role_answers r s known h f

pub answers_true : (value : Interpretation) (roles : ℕ → Option Role) (allows : Allows) → RolesFit allows roles → AnswersTrue (meaning_by value roles allows) (folds_by roles) (constants_by roles)
unfolding meaning_by folds_by constants_by
answers_true value roles allows own = record {
  counts = λ s h f known l. answer_count (roles s.head.kind) s known (both_parts _ _ h).0 f;
  gives = λ s h f known first l k later memo input ds comes e.
      let at = comes_first _ s first later memo input (folds_quiet value (roles s.head.kind) s f) comes in
      subst (GivesKnown (by_role [] (answers_by s.head known) (roles s.head.kind))) e (subst (λ i. GivesKnown (by_role [] (answers_by s.head known) (roles s.head.kind)) (by_role no_act (act_of value) (roles s.head.kind) s memo i)) (sym at.same_input) (answers_given value allows (roles s.head.kind) s known memo first (own s) f k));
}

-- ---- jumps

role_branches : (r : Role) → IsTrue (folds_branch_of (form_of r)) → IsTrue (branches (form_of r))
role_branches (Chooses counting choose) f = refl
role_branches Jumps f = refl
role_branches Constant f = f
role_branches (Folds n knows identity otherwise) f = f
role_branches (Picks truth) f = f
role_branches Opaque f = f
role_branches Leaves f = f
role_branches Stops f = f
role_branches (Acts says removes act) f = f
role_branches (Names act named) f = f
role_branches (Forks says act) f = f
role_branches (Holds says) f = f

folds_branches : (o : Option Role) → IsTrue (by_form false folds_branch_of (option_map form_of o)) → IsTrue (by_form false branches (option_map form_of o))
folds_branches None f = f
folds_branches (Some r) f = role_branches r f

only_in : (targets : List ℕ) (i b : ℕ) → In b (only_successor (slice_get targets i)) → In b targets
only_in [] i b h = h
only_in (x ∷ targets) zero b (inl e) = inl e
only_in (x ∷ targets) zero b (inr h) = absurd h
only_in (x ∷ targets) (suc i) b h = inr (only_in targets i b h)

get_in : (targets : List ℕ) (i b : ℕ) → slice_get targets i ≡ Some b → In b targets
get_in targets i b e = only_in targets i b (subst (λ o. In b (only_successor o)) (sym e) (inl refl))

edge_in : (targets : List ℕ) (o : Option ℕ) (b : ℕ) → In b (only_edge targets o) → In b targets
edge_in targets None b h = h
edge_in targets (Some i) b h = only_in targets i b h

pub taken_in : (targets : List ℕ) (choose : ℤ → Option ℕ) (p : Option ℤ) (b : ℕ) → In b (edges_taken targets choose p) → In b targets
taken_in targets choose None b h = h
taken_in targets choose (Some c) b h = edge_in targets (choose c) b h

role_in : (r : Role) (s : Shape) (targets : List ℕ) (known : List (Option AttrObj)) (b : ℕ) → In b (feasible_of s targets known r) → In b targets
role_in (Chooses counting choose) s targets known b h = taken_in targets (chosen_edge counting choose s) (known_number_at known 0) b h
role_in Jumps s targets known b h = h
role_in Constant s targets known b h = h
role_in (Folds n knows identity otherwise) s targets known b h = h
role_in (Picks truth) s targets known b h = h
role_in Opaque s targets known b h = h
role_in Leaves s targets known b h = h
role_in Stops s targets known b h = h
role_in (Acts says removes act) s targets known b h = h
role_in (Names act named) s targets known b h = h
role_in (Forks says act) s targets known b h = h
role_in (Holds says) s targets known b h = h

feasible_in : (o : Option Role) (s : Shape) (targets : List ℕ) (known : List (Option AttrObj)) (b : ℕ) → In b (by_role targets (feasible_of s targets known) o) → In b targets
feasible_in None s targets known b h = h
feasible_in (Some r) s targets known b h = role_in r s targets known b h

-- where the move is a jump, it is one to one of these successors
abbrev JumpsWithin : List ℕ → List ℕ → Move → Type 0
JumpsWithin targets blocks (Goto i ds) = (b : ℕ) → slice_get targets i ≡ Some b → In b blocks
JumpsWithin targets blocks (Give ds) = Unit {0}
JumpsWithin targets blocks (Visit i ds memo) = Unit {0}
JumpsWithin targets blocks (Leave ds) = Unit {0}
JumpsWithin targets blocks (Emit e memo) = Unit {0}
JumpsWithin targets blocks Trap = Unit {0}

edge_among : (value : Interpretation) (h : Head) (ds : List Datum) (targets : List ℕ) (o : Option ℕ) (b : ℕ) → slice_get targets (edge_or value h ds o) ≡ Some b → In b (only_edge targets o)
edge_among value h ds targets None b e = get_in targets (edge_or value h ds None) b e
edge_among value h ds targets (Some i) b e = subst (λ x. In b (only_successor x)) (sym e) (inl refl)

edge_within : (value : Interpretation) (h : Head) (ds : List Datum) (targets : List ℕ) (choose : ℤ → Option ℕ) (p : Option ℤ) (c : ℤ) → AgreesWithKnown p c → (b : ℕ) → slice_get targets (edge_or value h ds (choose c)) ≡ Some b → In b (edges_taken targets choose p)
edge_within value h ds targets choose None c a b e = get_in targets (edge_or value h ds (choose c)) b e
edge_within value h ds targets choose (Some n) c a b e = subst (λ x. In b (only_edge targets (choose x))) (sym a) (edge_among value h ds targets (choose c) b e)

role_goes : (value : Interpretation) (r : Role) (s : Shape) (targets : List ℕ) (known : List (Option AttrObj)) (memo : Datum) (first : List Datum) → IsTrue (folds_branch_of (form_of r)) → AgreeWithKnown known first → JumpsWithin targets (feasible_of s targets known r) (act_of value r s memo first)
role_goes value (Chooses counting choose) s targets known memo first f h = edge_within value (head_without_counts counting s) (take 1 first) targets (chosen_edge counting choose s) (known_number_at known 0) (first_number first) (first_agrees known first h)
role_goes value Jumps s targets known memo first f h = grind arith
role_goes value Constant s targets known memo first f h = grind arith
role_goes value (Folds n knows identity otherwise) s targets known memo first f h = grind arith
role_goes value (Picks truth) s targets known memo first f h = grind arith
role_goes value Opaque s targets known memo first f h = grind arith
role_goes value Leaves s targets known memo first f h = grind arith
role_goes value Stops s targets known memo first f h = grind arith
role_goes value (Acts says removes act) s targets known memo first f h = grind arith
role_goes value (Names act named) s targets known memo first f h = grind arith
role_goes value (Forks says act) s targets known memo first f h = grind arith
role_goes value (Holds says) s targets known memo first f h = grind arith

jumps_given : (value : Interpretation) (o : Option Role) (s : Shape) (targets : List ℕ) (known : List (Option AttrObj)) (memo : Datum) (first : List Datum) → IsTrue (by_form false folds_branch_of (option_map form_of o)) → AgreeWithKnown known first → JumpsWithin targets (by_role targets (feasible_of s targets known) o) (by_role no_act (act_of value) o s memo first)
jumps_given value None s targets known memo first f h = tt
jumps_given value (Some r) s targets known memo first f h = role_goes value r s targets known memo first f h

role_branch_quiet : (value : Interpretation) (r : Role) (s : Shape) → IsTrue (branches (form_of r)) → (memo : Datum) (input : List Datum) → IsQuiet (act_of value r s memo input)
role_branch_quiet value Jumps s f memo input = tt
role_branch_quiet value (Chooses counting choose) s f memo input = tt
role_branch_quiet value Constant s f memo input = tt
role_branch_quiet value (Folds n knows identity otherwise) s f memo input = fold_quiet otherwise value s.head (identity s.head) (complete knows s.head) input
role_branch_quiet value (Picks truth) s f memo input = tt
role_branch_quiet value Opaque s f memo input = tt
role_branch_quiet value Leaves s f memo input = tt
role_branch_quiet value Stops s f memo input = tt
role_branch_quiet value (Acts says removes act) s f memo input = grind arith
role_branch_quiet value (Names act named) s f memo input = grind arith
role_branch_quiet value (Forks says act) s f memo input = grind arith
role_branch_quiet value (Holds says) s f memo input = tt

pub branch_quiet : (value : Interpretation) (o : Option Role) (s : Shape) → IsTrue (by_form false branches (option_map form_of o)) → (memo : Datum) (input : List Datum) → IsQuiet (by_role no_act (act_of value) o s memo input)
branch_quiet value None s f memo input = tt
branch_quiet value (Some r) s f memo input = role_branch_quiet value r s f memo input

pub answers_jumps : (value : Interpretation) (roles : ℕ → Option Role) (allows : Allows) → AnswersJumps (meaning_by value roles allows) (branch_folds_by roles) (feasible_by roles)
unfolding meaning_by branch_folds_by feasible_by
answers_jumps value roles allows = record {
  branches = λ s h f. folds_branches (roles s.head.kind) f;
  successors = λ s targets h f l known m b i. feasible_in (roles s.head.kind) s targets known b i;
  goes = λ s targets h f l known first m k later memo input i b ds comes e g.
      let at = comes_first _ s first later memo input (branch_quiet value (roles s.head.kind) s (folds_branches (roles s.head.kind) f)) comes in
      let within = subst (λ x. JumpsWithin targets (by_role targets (feasible_of s targets known) (roles s.head.kind)) (by_role no_act (act_of value) (roles s.head.kind) s memo x)) (sym at.same_input) (jumps_given value (roles s.head.kind) s targets known memo first f k) in
      subst (JumpsWithin targets (by_role targets (feasible_of s targets known) (roles s.head.kind))) e within b g;
}
