-- A dialect of roles keeps the laws on counts, side effects and arguments, and makes true constants.
use Rattle.std.proofs.Common.{◌≡◌, ℕ, zero, suc, ◌<◌, Bool, true, false, true≢false, not, ◌&&◌, nat_eq, List, [], ◌∷◌, Option, Some, None, IsSome, length, slice_get, slice_index_or, IsTrue, refl, sym, ap, ◌∙◌, subst, arith}
use Rattle.std.specs.Option.{option_map}
use Rattle.pliron_dialect.specs.declared.form.Form.{Form}
use Rattle.std.specs.Prelude.{pos, negsuc, ℤ}
use Rattle.std.proofs.lemmas.Option.{same_Some}
use Rattle.pliron_core.specs.declared.attrs.Head.{Head}
use Rattle.pliron_core.specs.declared.attrs.AttrObj.{AttrObj}
use Rattle.pliron_laws.specs.Datum.{Datum, Empty, Number, Text, Join, Shape, Move, Give, Visit}
use Rattle.pliron_laws.specs.Laws.{CountsFit, KeepsCounts, IsGive, GivesAtOnce, ActsWithoutArgument}
use Rattle.pliron_laws.specs.Folding.{MakesConstants, constant_shape}
use Rattle.pliron_laws.specs.Entries.{NamesOperands, RootsNameNone}
use Rattle.pliron_laws.specs.declared.dialect.Interface.TheVariants.{RegionBranch}
use Rattle.pliron_dialect.specs.Identities.{place_in}
use Rattle.pliron_dialect.specs.Roles.{operand_left, Interpretation, Allows, Role, Constant, Folds, Picks, Opaque, Jumps, Chooses, Leaves, Stops, Acts, Names, Forks, Holds, fit_data, results_given, numbers_of, give_or_trap, folds_to, complete, ResultFits, RoleFits, RolesFit, Fits, may_trap, if_said, is_naming, named_by, no_operand, entry_operands_by, constant_head_of, operands_picked, first_number, data_in, first_datum, ask_world_first, effect_act, region_act, region_answer, fork_answer, fork_act, arguments_at, by_role, act_of, no_act, ends_block, branches, meaning_by, effects_by, removable_by, removable_of, no_removal, effects_of, form_of, form_at, by_form, interface_of, interfaces_by}
use Rattle.pliron_dialect.specs.Parts.{Admits, AdmitsAll, same, three, both_parts, both_true}
use Rattle.pliron_laws.specs.Acting.{Act, Comes, ActAlike, MovesAlike}
use Rattle.pliron_laws.specs.Acting.Comes.{Begins, Answered, AnsweredByWorld}
use Rattle.pliron_dialect.specs.declared.form.Otherwise.{Otherwise}
use Rattle.pliron_dialect.specs.declared.form.Otherwise.TheVariants.{Says, Never, Traps}
use Rattle.pliron_dialect.specs.declared.identity.Identity.{Identity}

-- ---- so many data

pub length-fitted : (n : ℕ) (ds : List Datum) → length (fit_data n ds) ≡ n
length-fitted zero ds = refl
length-fitted (suc n) [] = ap suc (length-fitted n [])
length-fitted (suc n) (d ∷ ds) = ap suc (length-fitted n ds)

pub at_fits : (counts : List ℕ) (i : ℕ) (values : List Datum) (n : ℕ) → slice_get counts i ≡ Some n → length (fit_data (slice_index_or counts i 0) values) ≡ n
at_fits [] i values n e = grind arith
at_fits (c ∷ counts) zero values n e = length-fitted c values ∙ same_Some c n e
at_fits (c ∷ counts) (suc i) values n e = at_fits counts i values n e

one_given : (value : Interpretation) (h : Head) (input : List Datum) (o : Option ℤ) → length (results_given value h input o) ≡ 1
one_given value h input None = length-fitted 1 (value h input)
one_given value h input (Some n) = refl

one_picked : (value : Interpretation) (h : Head) (input : List Datum) (o : Option Bool) → length (operands_picked value h input o) ≡ 1
one_picked value h input None = length-fitted 1 (value h input)
one_picked value h input (Some true) = refl
one_picked value h input (Some false) = refl

-- ---- moves that the world decides pass as many values as there are places for

pub asked_fits : (b : Bool) (s : Shape) (memo : Datum) (input : List Datum) (after : Move) → CountsFit b s after → CountsFit b s (ask_world_first memo s input after)
asked_fits b s Empty input after h = tt
asked_fits b s (Number n) input after h = h
asked_fits b s (Text t) input after h = h
asked_fits b s (Join d e) input after h = h

pub effect_fits : (b : Bool) (s : Shape) (memo : Datum) (input : List Datum) → CountsFit b s (effect_act s memo input)
effect_fits b s memo input = asked_fits b s memo input (Give (fit_data s.results (data_in (first_datum input)))) (length-fitted s.results (data_in (first_datum input)))

region_answer_fits : (b : Bool) (s : Shape) (d : Datum) → CountsFit b s (region_answer s d)
region_answer_fits b s (Join (Number (pos i)) ds) = λ n at. at_fits s.entry_arguments i (data_in ds) n at
region_answer_fits b s (Join (Number (negsuc i)) ds) = length-fitted s.results (data_in ds)
region_answer_fits b s (Join (Text t) ds) = length-fitted s.results (Text t ∷ data_in ds)
region_answer_fits b s (Join (Join d e) ds) = length-fitted s.results (Join d e ∷ data_in ds)
region_answer_fits b s (Join Empty ds) = length-fitted s.results (Empty ∷ data_in ds)
region_answer_fits b s (Number n) = length-fitted s.results []
region_answer_fits b s (Text t) = length-fitted s.results []
region_answer_fits b s Empty = length-fitted s.results []

pub region_fits : (b : Bool) (s : Shape) (memo : Datum) (input : List Datum) → CountsFit b s (region_act s memo input)
region_fits b s Empty input = tt
region_fits b s (Number n) input = region_answer_fits b s (first_datum input)
region_fits b s (Text t) input = tt
region_fits b s (Join d e) input = tt

target_fits : (targets : Option (List ℕ)) (i : ℕ) (values : List Datum) (counts : List ℕ) (n : ℕ) → targets ≡ Some counts → slice_get counts i ≡ Some n → length (fit_data (arguments_at targets i) values) ≡ n
target_fits None i values counts n e at = grind arith
target_fits (Some xs) i values counts n e at = at_fits xs i values n (ap (λ z. slice_get z i) (same_Some xs counts e) ∙ at)

fork_answer_fits : (b : Bool) (s : Shape) (d : Datum) → CountsFit b s (fork_answer s d)
fork_answer_fits b s (Join (Number (pos i)) ds) = λ counts n f e at. target_fits s.target_arguments i (data_in ds) counts n e at
fork_answer_fits b s (Join (Number (negsuc i)) ds) = tt
fork_answer_fits b s (Join (Text t) ds) = tt
fork_answer_fits b s (Join (Join d e) ds) = tt
fork_answer_fits b s (Join Empty ds) = tt
fork_answer_fits b s (Number n) = tt
fork_answer_fits b s (Text t) = tt
fork_answer_fits b s Empty = tt

pub fork_fits : (b : Bool) (s : Shape) (memo : Datum) (input : List Datum) → CountsFit b s (fork_act s memo input)
fork_fits b s memo input = asked_fits b s memo input (fork_answer s (first_datum input)) (fork_answer_fits b s (first_datum input))

-- ---- counts

no_successor : (c : ℕ) (x : Bool) → IsTrue (nat_eq c 0 && x) → 0 < c → ⊥
no_successor c x h lt = omega (arith, (three c 0 x h).0, lt)

no_successor_at : (c : ℕ) → IsTrue (nat_eq c 0) → 0 < c → ⊥
no_successor_at c h lt = omega (arith, same c 0 h, lt)

role_ends : (r : Role) (s : Shape) → Admits (Some r) s → 0 < s.successors → IsTrue (ends_block (form_of r))
role_ends Constant s h lt = let p = both_parts _ _ h in let q = three s.operands 0 _ p.1 in let u = three s.results 1 _ q.1 in absurd (no_successor s.successors _ u.1 lt)
role_ends (Folds n knows identity otherwise) s h lt = let q = three s.operands n _ h in let u = three s.results 1 _ q.1 in absurd (no_successor s.successors _ u.1 lt)
role_ends (Picks truth) s h lt = let q = three s.operands 3 _ h in let u = three s.results 1 _ q.1 in absurd (no_successor s.successors _ u.1 lt)
role_ends Opaque s h lt = absurd (no_successor s.successors _ h lt)
role_ends Jumps s h lt = refl
role_ends (Chooses counting choose) s h lt = refl
role_ends Leaves s h lt = refl
role_ends Stops s h lt = refl
role_ends (Acts says removes act) s h lt = absurd (no_successor_at s.successors h lt)
role_ends (Names act named) s h lt = absurd (no_successor_at s.successors h lt)
role_ends (Forks says act) s h lt = refl
role_ends (Holds says) s h lt = absurd (no_successor_at s.successors (both_parts _ _ h).1 lt)

ends : (o : Option Role) (s : Shape) → Admits o s → 0 < s.successors → IsTrue (by_form false ends_block (option_map form_of o))
ends None s h lt = grind arith
ends (Some r) s h lt = role_ends r s h lt

one_left : (input ds : List Datum) (o : Option ℕ) → length ds ≡ 1 → length (operand_left input o ds) ≡ 1
one_left input ds (Some p) e = refl
one_left input ds None e = e

-- what is computed, or a trap
computed_fits : (b : Bool) (s : Shape) (o : Option ℤ) → s.results ≡ 1 → CountsFit b s (give_or_trap o)
computed_fits b s None e = tt
computed_fits b s (Some n) e = sym e

fold_fits : (otherwise : Otherwise) (value : Interpretation) (s : Shape) (i : Identity) (result : List ℤ → Option ℤ) (input : List Datum) → s.results ≡ 1 → CountsFit false s (folds_to otherwise value s.head i result input)
fold_fits Says value s i result input e = one_left input _ (place_in i input) (one_given value s.head input _) ∙ sym e
fold_fits Never value s i result input e = computed_fits false s (result (numbers_of input)) e
fold_fits Traps value s i result input e = computed_fits false s (result (numbers_of input)) e

role_fits : (value : Interpretation) (allows : Allows) (r : Role) (s : Shape) (memo : Datum) (input : List Datum) → Fits allows r s → RoleFits allows r s → CountsFit (branches (form_of r)) s (act_of value r s memo input)
role_fits value allows Constant s memo input h own = let p = both_parts _ _ (both_parts _ _ h).0 in let q = three s.operands 0 _ p.1 in sym (three s.results 1 _ q.1).0
role_fits value allows (Folds n knows identity otherwise) s memo input h own = let q = three s.operands n _ (both_parts _ _ h).0 in fold_fits otherwise value s (identity s.head) (complete knows s.head) input (three s.results 1 _ q.1).0
role_fits value allows (Picks truth) s memo input h own = let q = three s.operands 3 _ (both_parts _ _ h).0 in one_picked value s.head input (truth (first_number input)) ∙ sym (three s.results 1 _ q.1).0
role_fits value allows Opaque s memo input h own = length-fitted s.results (value s.head input)
role_fits value allows Jumps s memo input h own = λ counts n f g at. grind arith
role_fits value allows (Chooses counting choose) s memo input h own = λ counts n f g at. grind arith
role_fits value allows Leaves s memo input h own = tt
role_fits value allows Stops s memo input h own = tt
role_fits value allows (Acts says removes act) s memo input h own = own h memo input
role_fits value allows (Names act named) s memo input h own = own.moves h memo input
role_fits value allows (Forks says act) s memo input h own = own h memo input
role_fits value allows (Holds says) s memo input h own = sym (three s.results 0 _ (both_parts _ _ h).0).0

moves_fit : (value : Interpretation) (allows : Allows) (o : Option Role) (s : Shape) (memo : Datum) (input : List Datum) → AdmitsAll allows o s → ((r : Role) → o ≡ Some r → RoleFits allows r s) → CountsFit (by_form false branches (option_map form_of o)) s (by_role no_act (act_of value) o s memo input)
moves_fit value allows None s memo input h own = tt
moves_fit value allows (Some r) s memo input h own = role_fits value allows r s memo input h (own r refl)

pub keeps_counts : (value : Interpretation) (roles : ℕ → Option Role) (allows : Allows) → RolesFit allows roles → KeepsCounts (meaning_by value roles allows)
unfolding meaning_by
keeps_counts value roles allows own = record {
  successors = λ s h lt. ends (roles s.head.kind) s (both_parts _ _ h).0 lt;
  moves = λ s h first later memo input comes. moves_fit value allows (roles s.head.kind) s memo input h (own s);
}

-- ---- side effects

computed_gives : (o : Option ℤ) → IsSome o → IsGive (give_or_trap o)
computed_gives None h = grind arith
computed_gives (Some n) h = tt

numbers_length : (input : List Datum) → length (numbers_of input) ≡ length input
numbers_length [] = refl
numbers_length (d ∷ input) = ap suc (numbers_length input)

fold_gives : (otherwise : Otherwise) (n : ℕ) (value : Interpretation) (h : Head) (identity : Head → Identity) (knows : Head → List (Option ℤ) → Option ℤ) (input : List Datum) → ResultFits otherwise n knows identity → length input ≡ n → may_trap otherwise ≡ false → IsGive (folds_to otherwise value h (identity h) (complete knows h) input)
fold_gives Says n value h identity knows input own l e = tt
fold_gives Never n value h identity knows input own l e = computed_gives (complete knows h (numbers_of input)) (own.1 h (numbers_of input) (numbers_length input ∙ l))
fold_gives Traps n value h identity knows input own l e = grind arith

said : (says b c : Bool) → if_said says b ≡ Some c → b ≡ c
said true b c e = cc
said false b c e = grind arith

role_gives : (value : Interpretation) (allows : Allows) (r : Role) (s : Shape) (input : List Datum) → Fits allows r s → RoleFits allows r s → length input ≡ s.operands → effects_of (form_of r) ≡ Some false → IsGive (act_of value r s Empty input)
role_gives value allows Constant s input h own l e = tt
role_gives value allows (Folds n knows identity otherwise) s input h own l e = fold_gives otherwise n value s.head identity knows input own (l ∙ (three s.operands n _ (both_parts _ _ h).0).0) (same_Some (may_trap otherwise) false e)
role_gives value allows (Picks truth) s input h own l e = tt
role_gives value allows Opaque s input h own l e = tt
role_gives value allows Jumps s input h own l e = grind arith
role_gives value allows (Chooses counting choose) s input h own l e = grind arith
role_gives value allows Leaves s input h own l e = grind arith
role_gives value allows Stops s input h own l e = grind arith
role_gives value allows (Acts says removes act) s input h own l e = absurd (true≢false (said says true false e))
role_gives value allows (Names act named) s input h own l e = grind arith
role_gives value allows (Forks says act) s input h own l e = absurd (true≢false (said says true false e))
role_gives value allows (Holds says) s input h own l e = tt

gives : (value : Interpretation) (allows : Allows) (o : Option Role) (s : Shape) (input : List Datum) → AdmitsAll allows o s → ((r : Role) → o ≡ Some r → RoleFits allows r s) → length input ≡ s.operands → by_form None effects_of (option_map form_of o) ≡ Some false → IsGive (by_role no_act (act_of value) o s Empty input)
gives value allows None s input h own l e = grind arith
gives value allows (Some r) s input h own l e = role_gives value allows r s input h (own r refl) l e

pub gives_at_once : (value : Interpretation) (roles : ℕ → Option Role) (allows : Allows) → RolesFit allows roles → GivesAtOnce (meaning_by value roles allows) (effects_by roles)
unfolding meaning_by effects_by
gives_at_once value roles allows own = λ s h e first l. gives value allows (roles s.head.kind) s first h (own s) l e

-- ---- operands of visits, and roots

unnamed : {k : ℕ} → None ≡ Some k → ⊥
unnamed e = cc

role_silent : (r : Role) (n i j : ℕ) → is_naming (form_of r) ≡ false → named_by r n i j ≡ None
role_silent (Names act named) n i j e = grind arith
role_silent _ n i j e = refl

silent : (o : Option Role) (n i j : ℕ) → by_form false is_naming (option_map form_of o) ≡ false → by_role no_operand named_by o n i j ≡ None
silent None n i j e = refl
silent (Some r) n i j e = role_silent r n i j e

role_there : (allows : Allows) (r : Role) (s : Shape) (i j k : ℕ) → Fits allows r s → RoleFits allows r s → named_by r s.operands i j ≡ Some k → k < s.operands
role_there allows (Names act named) s i j k h own e = own.there h i j k e
role_there allows _ s i j k h own e = absurd (unnamed e)

there : (allows : Allows) (o : Option Role) (s : Shape) (i j k : ℕ) → AdmitsAll allows o s → ((r : Role) → o ≡ Some r → RoleFits allows r s) → by_role no_operand named_by o s.operands i j ≡ Some k → k < s.operands
there allows None s i j k h own e = absurd (unnamed e)
there allows (Some r) s i j k h own e = role_there allows r s i j k h (own r refl) e

-- what an operation comes to is read off its own transitions
comes_as : (f g : Act) (s : Shape) (first : List Datum) → ((memo : Datum) (input : List Datum) → g s memo input ≡ f s memo input) → (later : Bool) (memo : Datum) (input : List Datum) → Comes f s first later memo input → Comes g s first later memo input
comes_as f g s first same _ _ _ Begins = Begins
comes_as f g s first same _ _ _ (Answered {memo = memo} {input = input} i ds next answer c e) = Answered i ds next answer (comes_as f g s first same _ _ _ c) (same memo input ∙ e)
comes_as f g s first same _ _ _ (AnsweredByWorld {memo = memo} {input = input} effect next answer c e) = AnsweredByWorld effect next answer (comes_as f g s first same _ _ _ c) (same memo input ∙ e)

-- every visit of region i passes as argument j what the operand k had
abbrev Passes : Act → Shape → (i j k : ℕ) → Type 0
Passes act s i j k = (first : List Datum) → length first ≡ s.operands → (later : Bool) (memo : Datum) (input ds : List Datum) (next : Datum) → Comes act s first later memo input → act s memo input ≡ Visit i ds next → (d : Datum) → slice_get ds j ≡ Some d → slice_get first k ≡ Some d

role_passes : (value : Interpretation) (allows : Allows) (r : Role) (s : Shape) (i j k : ℕ) → Fits allows r s → RoleFits allows r s → named_by r s.operands i j ≡ Some k → Passes (act_of value r) s i j k
role_passes value allows (Names act named) s i j k h own e = own.passes h i j k e
role_passes value allows _ s i j k h own e = absurd (unnamed e)

passes : (value : Interpretation) (allows : Allows) (o : Option Role) (s : Shape) (i j k : ℕ) → AdmitsAll allows o s → ((r : Role) → o ≡ Some r → RoleFits allows r s) → by_role no_operand named_by o s.operands i j ≡ Some k → Passes (by_role no_act (act_of value) o) s i j k
passes value allows None s i j k h own e = absurd (unnamed e)
passes value allows (Some r) s i j k h own e = role_passes value allows r s i j k h (own r refl) e

pub names_operands : (value : Interpretation) (roles : ℕ → Option Role) (allows : Allows) → RolesFit allows roles → NamesOperands (meaning_by value roles allows) (entry_operands_by roles) (λ h. interfaces_by roles h RegionBranch)
unfolding meaning_by interfaces_by entry_operands_by
names_operands value roles allows own = record {
  silent = λ s i j no. silent (roles s.head.kind) s.operands i j no;
  there = λ s h i j k e. there allows (roles s.head.kind) s i j k h (own s) e;
  passes = λ s h i j k e first l later memo input ds next comes move d at.
      passes value allows (roles s.head.kind) s i j k h (own s) e first l later memo input ds next (comes_as (meaning_by value roles allows).act (by_role no_act (act_of value) (roles s.head.kind)) s first (λ z x. refl) later memo input comes) move d at;
}

pub roots : (value : Interpretation) (roles : ℕ → Option Role) (allows : Allows) → RootsNameNone (meaning_by value roles allows) (λ h. interfaces_by roles h RegionBranch)
unfolding meaning_by interfaces_by
roots value roles allows = λ h. refl

-- ---- arguments of entry blocks

no_entry : (removes : Bool) → if_said removes false ≡ Some true → ⊥
no_entry true e = cc
no_entry false e = cc

-- arguments of an entry may go only where no region is ever visited
role_holds : (value : Interpretation) (r : Role) → removable_of (form_of r) true ≡ Some true → (s : Shape) (memo : Datum) (input : List Datum) → act_of value r s memo input ≡ Give []
role_holds value (Holds says) e s memo input = refl
role_holds value Constant e s memo input = grind arith
role_holds value (Folds n knows identity otherwise) e s memo input = grind arith
role_holds value (Picks truth) e s memo input = grind arith
role_holds value Opaque e s memo input = grind arith
role_holds value Jumps e s memo input = grind arith
role_holds value (Chooses counting choose) e s memo input = grind arith
role_holds value Leaves e s memo input = grind arith
role_holds value Stops e s memo input = grind arith
role_holds value (Acts says removes act) e s memo input = absurd (no_entry removes e)
role_holds value (Names act named) e s memo input = grind arith
role_holds value (Forks says act) e s memo input = grind arith

entry_holds : (value : Interpretation) (o : Option Role) → by_form no_removal removable_of (option_map form_of o) true ≡ Some true → (s : Shape) (memo : Datum) (input : List Datum) → by_role no_act (act_of value) o s memo input ≡ Give []
entry_holds value None e s memo input = grind arith
entry_holds value (Some r) e s memo input = role_holds value r e s memo input

-- moves that give nothing are alike
gives_alike : {visits : ℕ → List Datum → List Datum → Type 0} {gotos : ℕ → List Datum → ℕ → List Datum → Type 0} → MovesAlike visits gotos (Give []) (Give [])
gives_alike = record {
  give = λ xs e. e;
  visit = λ n xs memo e. grind arith;
  goto = λ n xs e. grind arith;
  leave = λ xs e. grind arith;
  emit = λ d memo e. grind arith;
  traps = λ e. grind arith;
}

moves_alike : {visits : ℕ → List Datum → List Datum → Type 0} {gotos : ℕ → List Datum → ℕ → List Datum → Type 0} (m n : Move) → m ≡ Give [] → n ≡ Give [] → MovesAlike visits gotos m n
moves_alike {visits} {gotos} m n e f = subst (λ x. MovesAlike visits gotos x n) (sym e) (subst (λ x. MovesAlike visits gotos (Give []) x) (sym f) gives_alike)

pub acts_without_argument : (value : Interpretation) (roles : ℕ → Option Role) (allows : Allows) → ActsWithoutArgument (meaning_by value roles allows) (removable_by roles)
unfolding meaning_by removable_by
acts_without_argument value roles allows = λ s h i n j e f le first. record {
  begin = moves_alike _ _ (entry_holds value (roles s.head.kind) e s Empty first) (entry_holds value (roles s.head.kind) e _ Empty first);
  later = λ memo input comes. moves_alike _ _ (entry_holds value (roles s.head.kind) e s memo input) (entry_holds value (roles s.head.kind) e _ memo input);
}

-- ---- constants

pub makes_constants : (value : Interpretation) (roles : ℕ → Option Role) (allows : Allows) (accepts : AttrObj → Bool) (n : ℕ) (ssa : Bool) → roles n ≡ Some Constant → ((attr : AttrObj) → IsTrue (accepts attr) → IsTrue (allows (constant_head_of n ssa attr) 0 1 0 0)) → MakesConstants (meaning_by value roles allows) accepts (constant_head_of n ssa)
unfolding meaning_by
makes_constants value roles allows accepts n ssa e allowed = λ attr h. record {
  admitted = both_true _ _ (subst (λ z. Admits z (constant_shape (constant_head_of n ssa attr))) (sym e) refl) (allowed attr h);
  no_terminator = subst (λ z. by_form false ends_block (option_map form_of z) ≡ false) (sym e) refl;
  gives = subst (λ z. by_role no_act (act_of value) z (constant_shape (constant_head_of n ssa attr)) Empty [] ≡ act_of value Constant (constant_shape (constant_head_of n ssa attr)) Empty []) (sym e) refl;
}
