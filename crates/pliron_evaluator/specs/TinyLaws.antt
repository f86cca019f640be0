-- The small dialect keeps the laws.
use Rattle.std.proofs.Common.{◌≡◌, inl, ℕ, zero, suc, ◌+◌, ◌-◌, ◌<◌, Bool, true, false, ◌&&◌, nat_eq, nat_lt, slice_index_or, if◌then◌else◌, List, [], ◌∷◌, Option, Some, None, length, slice_get, map, IsTrue, refl, ap, sym, ◌∙◌, subst, arith, rules}
use Rattle.std.specs.List.{range_with_len, remove}
use Rattle.std.proofs.lemmas.Option.{same_Some}
use Rattle.pliron_core.specs.declared.attrs.IRStatus.{IRStatus}
use Rattle.pliron_core.specs.declared.attrs.IRStatus.TheVariants.{Unchanged}
use Rattle.pliron_core.specs.Tree.{Tree, In}
use Rattle.pliron_core.specs.Changes.{IsSameTree}
use Rattle.pliron_core.proofs.GrownLemmas.{range_at}
use Rattle.pliron_evaluator.specs.declared.tiny.TinyKind.{TinyKind}
use Rattle.pliron_evaluator.specs.declared.tiny.TinyKind.TheVariants.{Const, Ask, Scope, Br, Both, Twice}
use Rattle.pliron_laws.specs.Datum.{Datum, Empty, Number, Text, Join, datum_of, Head, Shape, Move, Give, Visit, Goto, Leave, Emit, Trap}
use Rattle.pliron_laws.specs.Acting.{Act, Comes, MovesAlike, PassesSame, DropsAt, pick, AgreeWithKnown}
use Rattle.pliron_laws.specs.Acting.Comes.{Begins, Answered, AnsweredByWorld}
use Rattle.pliron_laws.specs.Laws.{Admitted, CountsFit, KeepsCounts, IsGive, GivesAtOnce, ForwardsOperands, LosesOperand, ActsWithoutArgument, fewer_operands, moved_up}
use Rattle.pliron_laws.specs.Folding.{AnswersTrue, AnswersJumps, MakesConstants}
use Rattle.pliron_laws.specs.Outcomes.MaterialisesSome.{Rest}
use Rattle.pliron_laws.specs.Replacing.FoldsBranch.{Kept}
use Rattle.pliron_laws.specs.InPlace.{FoldsInPlace, ReportsChange, PassSameTests}
use Rattle.pliron_laws.specs.PlaceLaws.{pick_all, in_places, moved_places}
use Rattle.pliron_evaluator.specs.Tiny.{first_attribute, first_count, fitted_or_empty, ask_move, scope_move, both_move, twice_move, has_begun, tiny_act_of, admits_of, is_br, is_const, forwarded_along, tiny_kind_of, tiny, tiny_effects_of, tiny_side_effects, tiny_removable_of, tiny_removable, tiny_folds, tiny_constants, tiny_accepts, tiny_constant, tiny_folds_branch, tiny_feasible, tiny_outcome, has_tiny_kind, has_tiny_interface, tiny_shortened}
use Rattle.pliron_dialect.specs.Parts.{below, same}

-- the parts of a test of counts
pub parts : (x y z : Bool) → IsTrue (x && y && z) → IsTrue x × IsTrue y × IsTrue z
parts true true true h = (refl, refl, refl)
parts true true false h = grind arith
parts true false z h = grind arith
parts false y z h = grind arith

-- one of the counts that the dialect asks of an operation
constant_counts : (a b c d : ℕ) → IsTrue (admits_of (Some Const) a b c d) → (a ≡ 0) × (b ≡ 1) × (c ≡ 0) × (d ≡ 0)
constant_counts a b c d h = let p = parts (nat_eq a 0 && nat_eq b 1) (nat_eq c 0) (nat_eq d 0) h in let q = parts true (nat_eq a 0) (nat_eq b 1) p.0 in (same a 0 q.1, same b 1 q.2, same c 0 p.1, same d 0 p.2)

ask_counts : (a b c d : ℕ) → IsTrue (admits_of (Some Ask) a b c d) → (b ≡ 1) × (c ≡ 0)
ask_counts a b c d h = let p = parts (nat_eq a 1 && nat_eq b 1) (nat_eq c 0) (nat_eq d 0) h in let q = parts true (nat_eq a 1) (nat_eq b 1) p.0 in (same b 1 q.2, same c 0 p.1)

scope_counts : (a b c d : ℕ) → IsTrue (admits_of (Some Scope) a b c d) → (b ≡ 0) × (c ≡ 0)
scope_counts a b c d h = let p = parts (nat_eq b 0) (nat_eq c 0) (nat_eq d 1) h in (same b 0 p.0, same c 0 p.1)

both_counts : (a b c d : ℕ) → IsTrue (admits_of (Some Both) a b c d) → (b ≡ 0) × (c ≡ 0)
both_counts a b c d h = let p = parts (nat_eq b 0) (nat_eq c 0) (nat_eq d 2) h in (same b 0 p.0, same c 0 p.1)

pub twice_counts : (a b c d : ℕ) → IsTrue (admits_of (Some Twice) a b c d) → (0 < a) × (b ≡ 0) × (c ≡ 0)
twice_counts a b c d h = let p = parts (nat_lt 0 a && nat_eq b 0) (nat_eq c 0) (nat_eq d 1) h in let q = parts true (nat_lt 0 a) (nat_eq b 0) p.0 in (below 0 a q.1, same b 0 q.2, same c 0 p.1)

branch_counts : (a b c d : ℕ) → IsTrue (admits_of (Some Br) a b c d) → (b ≡ 0) × (c ≡ 1) × (d ≡ 0)
branch_counts a b c d h = let p = parts (nat_eq b 0) (nat_eq c 1) (nat_eq d 0) h in (same b 0 p.0, same c 1 p.1, same d 0 p.2)

none_above : (c : ℕ) → c ≡ 0 → 0 < c → ⊥
none_above c e lt = omega (arith, e, lt)

ends : (k : Option TinyKind) (a b c d : ℕ) → IsTrue (admits_of k a b c d) → 0 < c → IsTrue (is_br k)
ends None a b c d h lt = grind arith
ends (Some Const) a b c d h lt = absurd (none_above c (constant_counts a b c d h).2 lt)
ends (Some Ask) a b c d h lt = absurd (none_above c (ask_counts a b c d h).1 lt)
ends (Some Scope) a b c d h lt = absurd (none_above c (scope_counts a b c d h).1 lt)
ends (Some Br) a b c d h lt = refl
ends (Some Both) a b c d h lt = absurd (none_above c (both_counts a b c d h).1 lt)
ends (Some Twice) a b c d h lt = absurd (none_above c (twice_counts a b c d h).2 lt)

length-fitted : (n : ℕ) (ds : List Datum) → length (fitted_or_empty n ds) ≡ n
length-fitted zero ds = refl
length-fitted (suc n) [] = ap suc (length-fitted n [])
length-fitted (suc n) (d ∷ ds) = ap suc (length-fitted n ds)

ask_fits : (b begun : Bool) (s : Shape) (input : List Datum) → s.results ≡ 1 → CountsFit b s (ask_move begun input)
ask_fits b false s input e = tt
ask_fits b true s input e = sym e

visit_fits : (cs : List ℕ) (input : List Datum) (n : ℕ) → slice_get cs 0 ≡ Some n → length (fitted_or_empty (first_count cs) input) ≡ n
visit_fits [] input n e = grind arith
visit_fits (c ∷ cs) input n e = length-fitted c input ∙ same_Some c n e

scope_fits : (b begun : Bool) (s : Shape) (input : List Datum) → s.results ≡ 0 → CountsFit b s (scope_move begun (first_count s.entry_arguments) input)
scope_fits b false s input e = λ n at. visit_fits s.entry_arguments input n at
scope_fits b true s input e = sym e

counted : (cs : List ℕ) (i n : ℕ) → slice_get cs i ≡ Some n → slice_index_or cs i 0 ≡ n
counted [] i n e = grind arith
counted (c ∷ cs) zero n e = same_Some c n e
counted (c ∷ cs) (suc i) n e = counted cs i n e

passed_fits : (cs : List ℕ) (i n : ℕ) (ds : List Datum) → slice_get cs i ≡ Some n → length (fitted_or_empty (slice_index_or cs i 0) ds) ≡ n
passed_fits cs i n ds e = length-fitted (slice_index_or cs i 0) ds ∙ counted cs i n e

both_fits : (b : Bool) (s : Shape) (memo : Datum) (input : List Datum) → s.results ≡ 0 → CountsFit b s (both_move memo s.entry_arguments input)
both_fits b s Empty input e = λ n at. passed_fits s.entry_arguments 0 n _ at
both_fits b s (Join kept z) input e = λ n at. passed_fits s.entry_arguments 1 n _ at
both_fits b s (Number n) input e = sym e
both_fits b s (Text w) input e = sym e

twice_fits : (b : Bool) (s : Shape) (memo : Datum) (input : List Datum) → s.results ≡ 0 → CountsFit b s (twice_move memo s.entry_arguments input)
twice_fits b s Empty input e = λ n at. passed_fits s.entry_arguments 0 n _ at
twice_fits b s (Join kept z) input e = λ n at. passed_fits s.entry_arguments 0 n _ at
twice_fits b s (Number n) input e = sym e
twice_fits b s (Text w) input e = sym e

fits : (k : Option TinyKind) (s : Shape) (memo : Datum) (input : List Datum) → IsTrue (admits_of k s.operands s.results s.successors (length s.entry_arguments)) → CountsFit (is_br k) s (tiny_act_of k s memo input)
fits None s memo input h = tt
fits (Some Const) s memo input h = sym (constant_counts _ _ _ _ h).1
fits (Some Ask) s memo input h = ask_fits false (has_begun memo) s input (ask_counts s.operands s.results s.successors (length s.entry_arguments) h).0
fits (Some Scope) s memo input h = scope_fits false (has_begun memo) s input (scope_counts s.operands s.results s.successors (length s.entry_arguments) h).0
fits (Some Br) s memo input h = λ cs n e f g. grind arith
fits (Some Both) s memo input h = both_fits false s memo input (both_counts s.operands s.results s.successors (length s.entry_arguments) h).0
fits (Some Twice) s memo input h = twice_fits false s memo input (twice_counts s.operands s.results s.successors (length s.entry_arguments) h).1

pub tiny_counts : KeepsCounts tiny
unfolding tiny
tiny_counts = record {
  successors = λ s h lt. ends (tiny_kind_of s.head.kind) _ _ _ _ h lt;
  moves = λ s h first later memo input comes. fits (tiny_kind_of s.head.kind) s memo input h;
}

gives : (k : Option TinyKind) (s : Shape) (input : List Datum) → tiny_effects_of k ≡ Some false → IsGive (tiny_act_of k s Empty input)
gives None s input e = grind arith
gives (Some Const) s input e = tt
gives (Some Ask) s input e = grind arith
gives (Some Scope) s input e = grind arith
gives (Some Br) s input e = grind arith
gives (Some Both) s input e = grind arith
gives (Some Twice) s input e = grind arith

pub tiny_effects : GivesAtOnce tiny tiny_side_effects
unfolding tiny tiny_side_effects
tiny_effects = λ s h e first l. gives (tiny_kind_of s.head.kind) s first e

-- what is a branch is of the kind `Br`
br_alone : (k : Option TinyKind) → IsTrue (is_br k) → k ≡ Some Br
br_alone None h = grind arith
br_alone (Some Const) h = grind arith
br_alone (Some Ask) h = grind arith
br_alone (Some Scope) h = grind arith
br_alone (Some Br) h = refl
br_alone (Some Both) h = grind arith
br_alone (Some Twice) h = grind arith

no_length : (xs : List ℕ) → length xs ≡ 0 → xs ≡ []
no_length [] e = refl
no_length (x ∷ xs) e = grind arith

no_visit : {i j : ℕ} {ds es : List Datum} {memo : Datum} → Goto i ds ≡ Visit j es memo → ⊥
no_visit e = cc

no_effect : {i : ℕ} {ds : List Datum} {effect memo : Datum} → Goto i ds ≡ Emit effect memo → ⊥
no_effect e = cc

not_later : true ≡ false → ⊥
not_later e = cc

nowhere : (k p : ℕ) → slice_get [] k ≡ Some p → ⊥
nowhere k p e = cc

in_edge : (n i p : ℕ) → In p (forwarded_along i n) → p < n
in_edge n zero p l = in_places n p l
in_edge n (suc i) p l = absurd l

apart : (n i j k l p : ℕ) → slice_get (forwarded_along i n) k ≡ Some p → slice_get (forwarded_along j n) l ≡ Some p → (i ≡ j) × (k ≡ l)
apart n zero zero k l p e f = let a = range_at 0 n k p e in let b = range_at 0 n l p f in (refl, omega (arith, a.0, b.0))
apart n zero (suc j) k l p e f = absurd (nowhere l p f)
apart n (suc i) j k l p e f = absurd (nowhere k p e)

counts_of_branch : (s : Shape) → Admitted tiny s → IsTrue (is_br (tiny_kind_of s.head.kind)) → (s.results ≡ 0) × (s.successors ≡ 1) × (length s.entry_arguments ≡ 0)
unfolding tiny
counts_of_branch s h br = branch_counts s.operands s.results s.successors (length s.entry_arguments) (subst (λ k. IsTrue (admits_of k s.operands s.results s.successors (length s.entry_arguments))) (br_alone _ br) h)

-- the first move of a branch is its only one
goes_at_once : (act : Act) (s : Shape) → ((memo : Datum) (input : List Datum) → act s memo input ≡ Goto 0 input) → (first : List Datum) (later : Bool) (memo : Datum) (input : List Datum) → Comes act s first later memo input → (later ≡ false) × (input ≡ first)
goes_at_once act s goes first later memo input Begins = (refl, refl)
goes_at_once act s goes first later memo input (Answered i ds next answer c e) = absurd (no_visit (sym (goes _ _) ∙ e))
goes_at_once act s goes first later memo input (AnsweredByWorld effect next answer c e) = absurd (no_effect (sym (goes _ _) ∙ e))

-- it passes all operands, and nothing along another edge
passes_all : (n i : ℕ) (first input ds : List Datum) → length first ≡ n → input ≡ first → Goto 0 input ≡ Goto i ds → map Some ds ≡ pick (forwarded_along i n) first
passes_all n i first input ds l same e =
    let here : i ≡ 0 = cc in
    let values : ds ≡ first = cc in
    ap (map Some) values ∙ sym (pick_all first n l) ∙ ap (λ z. pick (forwarded_along z n) first) (sym here)

still_empty : (b : Bool) (j p : ℕ) → [] ≡ map (moved_up p) (if b then remove [] j else [])
still_empty true zero p = refl
still_empty true (suc j) p = refl
still_empty false j p = refl

edge_kept : (n j p k : ℕ) → j < n → p ≡ 0 + j → forwarded_along k (n - 1) ≡ map (moved_up p) (if nat_eq k 0 then remove (forwarded_along k n) j else forwarded_along k n)
edge_kept n j p (suc k) lt e = still_empty (nat_eq (suc k) 0) j p
edge_kept zero j p zero lt e = absurd (omega (arith, lt))
edge_kept (suc m) j p zero lt e =
    let count : suc m - 1 ≡ m = omega arith in
    ap (range_with_len 0) count ∙ sym (moved_places 0 m j (omega (arith, lt))) ∙ ap (λ z. map (moved_up z) (remove (range_with_len 0 (suc m)) j)) (sym e)

-- a jump along the one edge, with one value fewer
goes_alike : (a b : Move) (first others : List Datum) (j : ℕ) → a ≡ Goto 0 first → b ≡ Goto 0 others → others ≡ remove first j → MovesAlike PassesSame (λ k ds l es. (l ≡ k) × DropsAt 0 j k ds es) a b
goes_alike a b first others j e f g = record {
  give = λ ds x. cc;
  visit = λ i ds memo x. absurd (no_visit (sym e ∙ x));
  goto = λ i ds x. let here : i ≡ 0 = cc in let values : ds ≡ first = cc in (0, others, f, (sym here, inl (here, g ∙ ap (λ z. remove z j) (sym values))));
  leave = λ ds x. cc;
  emit = λ y memo x. cc;
  traps = λ x. cc;
}

abbrev SameTests : Head → Head → Type 0
SameTests = PassSameTests tiny tiny_folds tiny_folds_branch has_tiny_kind has_tiny_interface

goes : (s : Shape) → IsTrue (is_br (tiny_kind_of s.head.kind)) → (memo : Datum) (input : List Datum) → tiny_act_of (tiny_kind_of s.head.kind) s memo input ≡ Goto 0 input
goes s br memo input = ap (λ k. tiny_act_of k s memo input) (br_alone _ br)

loses : (s : Shape) → Admitted tiny s → IsTrue (is_br (tiny_kind_of s.head.kind)) → (i j p : ℕ) → slice_get (forwarded_along i s.operands) j ≡ Some p → LosesOperand tiny SameTests s i j p s.head
unfolding tiny
loses s h br (suc i) j p e = absurd (nowhere j p e)
loses s h br zero j p e =
    let at = range_at 0 s.operands j p e in
    let kind = br_alone _ br in
    record {
      same_head = inl refl;
      same_tests = record { terminator = refl; branch = refl; folds = refl; folds_branch = refl; kinds = λ k. refl; interfaces = λ i. refl };
      admitted = subst (λ k. IsTrue (admits_of k (s.operands - 1) s.results s.successors (length s.entry_arguments))) (sym kind) (subst (λ k. IsTrue (admits_of k s.operands s.results s.successors (length s.entry_arguments))) kind h);
      same_edges = λ k. edge_kept s.operands j p k at.1 at.0;
      alike = λ first l. record {
        begin = goes_alike _ _ first (remove first p) j (goes s br Empty first) (goes (fewer_operands s s.head) br Empty (remove first p)) (ap (remove first) (at.0 ∙ omega arith));
        later = λ memo input c. absurd (not_later (goes_at_once _ s (goes s br) first true memo input c).0);
      };
    }

pub tiny_forwards : ForwardsOperands tiny tiny_folds SameTests tiny_shortened
unfolding tiny tiny_folds tiny_shortened
tiny_forwards = record {
  alone = λ s h br. let c = counts_of_branch s h br in (c.0, no_length s.entry_arguments c.2, ap is_const (br_alone _ br));
  some_edge = λ s h br. let c = counts_of_branch s h br in omega (arith, c.1);
  places = λ s h br i p l. in_edge s.operands i p l;
  distinct = λ s h br i j k l p e f. apart s.operands i j k l p e f;
  passes = λ s h br first l later memo input i ds comes e. passes_all s.operands i first input ds l (goes_at_once _ s (goes s br) first later memo input comes).1 (sym (goes s br memo input) ∙ e);
  one_way = λ s h br one first l. (first, goes s br Empty first);
  removal = λ s h br i j p lt e. loses s h br i j p e;
}

entry_kept : (k : Option TinyKind) → tiny_removable_of k true ≡ Some true → ⊥
entry_kept None e = grind arith
entry_kept (Some Const) e = grind arith
entry_kept (Some Ask) e = grind arith
entry_kept (Some Scope) e = grind arith
entry_kept (Some Br) e = grind arith
entry_kept (Some Both) e = grind arith
entry_kept (Some Twice) e = grind arith

pub tiny_arguments : ActsWithoutArgument tiny tiny_removable
unfolding tiny_removable
tiny_arguments = λ s h i n j e f l first. absurd (entry_kept (tiny_kind_of s.head.kind) e)

given : Move → Option (List Datum)
given (Give ds) = Some ds
given (Visit i ds memo) = None
given (Goto i ds) = None
given (Leave ds) = None
given (Emit e memo) = None
given Trap = None

constant_given : (k : Option TinyKind) (s : Shape) (memo : Datum) (input ds : List Datum) → IsTrue (is_const k) → tiny_act_of k s memo input ≡ Give ds → AgreeWithKnown (Some (first_attribute s.head.attrs) ∷ []) ds
unfolding given
constant_given None s memo input ds c e = grind arith
constant_given (Some Const) s memo input ds c e = subst (AgreeWithKnown (Some (first_attribute s.head.attrs) ∷ [])) (same_Some (datum_of (first_attribute s.head.attrs) ∷ []) ds (ap given e)) (refl, tt)
constant_given (Some Ask) s memo input ds c e = grind arith
constant_given (Some Scope) s memo input ds c e = grind arith
constant_given (Some Br) s memo input ds c e = grind arith
constant_given (Some Both) s memo input ds c e = grind arith
constant_given (Some Twice) s memo input ds c e = grind arith

one_result : (k : Option TinyKind) (a b c d : ℕ) → IsTrue (is_const k) → IsTrue (admits_of k a b c d) → 1 ≡ b
one_result None a b c d f h = grind arith
one_result (Some Const) a b c d f h = sym (constant_counts a b c d h).1
one_result (Some Ask) a b c d f h = grind arith
one_result (Some Scope) a b c d f h = grind arith
one_result (Some Br) a b c d f h = grind arith
one_result (Some Both) a b c d f h = grind arith
one_result (Some Twice) a b c d f h = grind arith

pub tiny_answers : AnswersTrue tiny tiny_folds tiny_constants
unfolding tiny tiny_folds tiny_constants
tiny_answers = record {
  counts = λ s h f known l. one_result (tiny_kind_of s.head.kind) _ _ _ _ f h;
  gives = λ s h f known first l k later memo input ds comes e. constant_given (tiny_kind_of s.head.kind) s memo input ds f e;
}

never : IsTrue false → ⊥
never h = grind arith

pub tiny_jumps : AnswersJumps tiny tiny_folds_branch tiny_feasible
unfolding tiny_folds_branch
tiny_jumps = record {
  branches = λ s h f. absurd (never f);
  successors = λ s targets h f. absurd (never f);
  goes = λ s targets h f. absurd (never f);
}

same_tree : (t u : Tree) → u ≡ t → IsSameTree t u
same_tree t u e = subst (IsSameTree t) (sym e) (record { operations = λ k. refl; operands = λ k. refl; successors = λ k. refl; parents = λ k. refl; bodies = λ k. refl; arguments = λ k. refl; block_parents = λ k. refl; layouts = λ k. refl })

accurate : (t t' : Tree) (answer : Option IRStatus) → t' ≡ t → answer ≡ Some Unchanged → ReportsChange answer t t'
accurate t t' answer e f = subst (λ a. ReportsChange a t t') (sym f) (same_tree t t' e)

pub tiny_in_place : FoldsInPlace tiny tiny_constants tiny_accepts tiny_constant tiny_outcome tiny_outcome
unfolding tiny_outcome
tiny_in_place = record {
  constant = λ t t' op known answer o at h. (Rest (same_tree t t' h.0), accurate t t' answer h.0 h.1);
  branch = λ t t' op known answer h. (Kept (same_tree t t' h.0), accurate t t' answer h.0 h.1);
}

pub tiny_makes : MakesConstants tiny tiny_accepts tiny_constant
unfolding tiny tiny_constant
tiny_makes = λ attr h. record { admitted = refl; no_terminator = refl; gives = refl }
