-- What calls, functions, returns and jumps of dialects by roles do.
use Rattle.std.proofs.Common.{◌≡◌, ◌≢◌, ℕ, Bool, false, List, [], ◌∷◌, Option, Some, None, length, map, slice_get, IsTrue, IsSome, refl, ap, sym, ◌∙◌, subst, arith}
use Rattle.std.specs.Prelude.{ℤ, option_map, option_and_then}
use Rattle.std.specs.Option.{option_map_or}
use Rattle.std.proofs.lemmas.Option.{same_Some}
use Rattle.std.proofs.lemmas.List.FromFn.{length-range_with_len}
use Rattle.pliron_core.specs.declared.attrs.Head.{Head}
use Rattle.pliron_core.specs.Tree.{Tree, first_of, head_of, successors_of, regions_of, layout_of, arguments_of, block_parent_of, region_parent_of, op_of_slot}
use Rattle.pliron_core.specs.Invariant.{IsTree}
use Rattle.pliron_laws.specs.Datum.{Datum, Empty, datum_of, Shape, Give, Goto, Leave, Emit, Trap}
use Rattle.pliron_laws.specs.Tree.{Operation, op_at, block_at, block_with, and_block, entry_block, count_arguments, shape_of}
use Rattle.pliron_laws.specs.Replacing.{branch_shape}
use Rattle.pliron_laws.proofs.ShapeLemmas.{head_at}
use Rattle.pliron_laws.proofs.Records.{op_shows, region_entry}
use Rattle.pliron_dialect.specs.declared.form.Otherwise.{Otherwise}
use Rattle.pliron_dialect.specs.declared.form.Otherwise.TheVariants.{Says, Never, Traps}
use Rattle.pliron_dialect.specs.declared.identity.Identity.{Identity}
use Rattle.pliron_dialect.specs.Roles.{Interpretation, Role, Constant, Folds, Picks, Opaque, Jumps, Chooses, Leaves, Stops, Acts, Names, Forks, Holds, Tables, KeepsTables, role_at, by_role, by_form, branches, form_of, act_of, no_act, meaning_by, places_by, chain_of, data_in, effect_of, folds_to, give_or_trap, complete, numbers_of, head_of_kind}
use Rattle.pliron_dialect.specs.Parts.{Admits, both_true, jump_named, jumps_allowed}
use Rattle.pliron_rewrite_inlining.specs.Inlined.{IsJumpTo, Returns, CallsByName, RunsItsRegion, NeverGives}
use Rattle.pliron_dialect_calls.specs.CallTables.{CallTables, KeepsCalls, StaysInside}
use Rattle.pliron_dialect_calls.specs.Conventions.{meaning_of, name_among, callee_in, symbol_in, call_of_name, convention_by}
use Rattle.pliron_dialect_calls.specs.HeadsByRole.{is_leaving, is_jumping, is_staying, is_closing, returns_by, jumps_by, stays_by, closes_by}
use Rattle.pliron_dialect_calls.specs.Inlinable.{IsJumpHead, NeverLeaves}
use Rattle.pliron_dialect_calls.specs.ReadyActs.{in_chain}

-- ---- kinds

pub kind_passing : {K : Type 0} (test : K → Bool) (o : Option K) → IsTrue (option_map_or test o false) → (k : K) × (o ≡ Some k) × IsTrue (test k)
kind_passing test None p = absurd (grind (arith, p))
kind_passing test (Some k) p = (k, refl, p)

place_there : (attributes : List Datum) (name : Datum) (p : Option ℕ) → option_and_then (λ i. slice_get attributes i) p ≡ Some name → IsSome p
place_there attributes name None e = absurd (grind (arith, e))
place_there attributes name (Some i) e = refl

pub kind_naming : {K : Type 0} (place : K → Option ℕ) (attributes : List Datum) (name : Datum) (o : Option K) → option_and_then (λ i. slice_get attributes i) (option_and_then place o) ≡ Some name → (k : K) × (o ≡ Some k) × IsSome (place k)
kind_naming place attributes name None e = absurd (grind (arith, e))
kind_naming place attributes name (Some k) e = (k, refl, place_there attributes name (place k) e)

-- ---- roles

leaving_role : (r : Role) → IsTrue (is_leaving (form_of r)) → r ≡ Leaves
leaving_role Leaves p = refl
leaving_role _ p = absurd (grind (arith, p))

jumping_role : (r : Role) → IsTrue (is_jumping (form_of r)) → r ≡ Jumps
jumping_role Jumps p = refl
jumping_role _ p = absurd (grind (arith, p))

give_stays : (ds es : List Datum) → Give ds ≢ Leave es
give_stays ds es e = grind (arith, e)

goto_stays : (i : ℕ) (ds es : List Datum) → Goto i ds ≢ Leave es
goto_stays i ds es e = grind (arith, e)

trap_stays : (es : List Datum) → Trap ≢ Leave es
trap_stays es e = grind (arith, e)

computed_stays : (x : Option ℤ) (es : List Datum) → give_or_trap x ≢ Leave es
computed_stays None es e = trap_stays es e
computed_stays (Some n) es e = grind (arith, e)

folds_stay : (otherwise : Otherwise) (value : Interpretation) (h : Head) (i : Identity) (result : List ℤ → Option ℤ) (input es : List Datum) → folds_to otherwise value h i result input ≢ Leave es
folds_stay Says value h i result input es e = grind (arith, e)
folds_stay Never value h i result input es e = computed_stays (result (numbers_of input)) es e
folds_stay Traps value h i result input es e = computed_stays (result (numbers_of input)) es e

role_stays : (value : Interpretation) (r : Role) (own : Bool) → (IsTrue own → StaysInside (act_of value r)) → IsTrue (is_staying (form_of r) own) → StaysInside (act_of value r)
role_stays value Constant own keeps p = λ s memo input es e. grind (arith, e)
role_stays value (Folds n knows identity otherwise) own keeps p = λ s memo input es e. folds_stay otherwise value s.head (identity s.head) (complete knows s.head) input es e
role_stays value (Picks truth) own keeps p = λ s memo input es e. grind (arith, e)
role_stays value Opaque own keeps p = λ s memo input es e. grind (arith, e)
role_stays value Jumps own keeps p = λ s memo input es e. goto_stays 0 input es e
role_stays value (Chooses counting choose) own keeps p = λ s memo input es e. grind (arith, e)
role_stays value Leaves own keeps p = absurd (grind (arith, p))
role_stays value Stops own keeps p = λ s memo input es e. trap_stays es e
role_stays value (Acts says removes act) own keeps p = keeps p
role_stays value (Names act named) own keeps p = keeps p
role_stays value (Forks says act) own keeps p = keeps p
role_stays value (Holds says) own keeps p = λ s memo input es e. give_stays [] es e

role_closes : (value : Interpretation) (r : Role) → IsTrue (is_closing (form_of r)) → (s : Shape) (memo : Datum) (input es : List Datum) → act_of value r s memo input ≢ Give es
role_closes value Jumps p s memo input es e = grind (arith, e)
role_closes value (Chooses counting choose) p s memo input es e = grind (arith, e)
role_closes value Leaves p s memo input es e = grind (arith, e)
role_closes value Stops p s memo input es e = grind (arith, e)
role_closes value _ p s memo input es e = absurd (grind (arith, p))

-- ---- entries of regions

block_count : (x : Tree) → IsTree x → (b : ℕ) → count_arguments (block_at x b) ≡ length (arguments_of x b)
unfolding block_at
block_count x w b = go (block_parent_of x b) refl
  where
    go : (o : Option ℕ) → block_parent_of x b ≡ o → count_arguments (block_with x b o) ≡ length (arguments_of x b)
    go None none = ap length (sym (w.joined.unplaced b none).0)
    go (Some r) has = refl

entry_count : (x : Tree) → IsTree x → (op region entry : ℕ) → regions_of x op ≡ region ∷ [] → first_of (layout_of x region) None ≡ Some entry → count_arguments (entry_block x region) ≡ length (arguments_of x entry)
entry_count x w op region entry holds begins =
    let held : region_parent_of x region ≡ Some op = ap op_of_slot (w.joined.regions op 0 region (ap (λ rs. slice_get rs 0) holds)) in
    ap count_arguments (region_entry x region op held) ∙ ap (λ o. count_arguments (and_block x o)) begins ∙ block_count x w entry

-- ---- operations

module _ {K : Type 0} (t : Tables K) where
  head_same : (x : Tree) (op : ℕ) (h : Head) (o : Operation) → head_of x op ≡ Some h → op_at x op ≡ Some o → o.head ≡ h
  head_same x op h o has at = same_Some o.head h (sym (head_at x op o at) ∙ has)

  -- what the operation does is what the role of its kind says
  acts_by : (x : Tree) (op : ℕ) (h : Head) (k : K) → head_of x op ≡ Some h → t.kind_of h.kind ≡ Some k → (o : Operation) → op_at x op ≡ Some o → (memo : Datum) (input : List Datum) → (meaning_of t).act (shape_of (meaning_of t) x o) memo input ≡ act_of t.value (t.role_of k) (shape_of (meaning_of t) x o) memo input
  unfolding meaning_by shape_of
  acts_by x op h k has is o at memo input =
      ap (λ y. by_role no_act (act_of t.value) (role_at t y.kind) (shape_of (meaning_of t) x o) memo input) (head_same x op h o has at)
      ∙ ap (λ z. by_role no_act (act_of t.value) (option_map t.role_of z) (shape_of (meaning_of t) x o) memo input) is

  pub returns : (x : Tree) (op : ℕ) (h : Head) → head_of x op ≡ Some h → IsTrue (returns_by t h) → Returns (meaning_of t) x op
  returns x op h has passes =
      let kind = kind_passing (λ k. is_leaving (form_of (t.role_of k))) (t.kind_of h.kind) passes in
      record {
        live = subst IsSome (sym has) refl;
        leaves = λ o at ds long.
            acts_by x op h kind.0 has kind.1 o at Empty ds
            ∙ ap (λ r. act_of t.value r (shape_of (meaning_of t) x o) Empty ds) (leaving_role (t.role_of kind.0) kind.2);
      }

  pub jumps_to : (x : Tree) (op block : ℕ) (h : Head) → head_of x op ≡ Some h → IsTrue (jumps_by t h) → successors_of x op ≡ block ∷ [] → IsJumpTo (meaning_of t) x op block
  jumps_to x op block h has passes leads =
      let kind = kind_passing (λ k. is_jumping (form_of (t.role_of k))) (t.kind_of h.kind) passes in
      record {
        live = subst IsSome (sym has) refl;
        leads = leads;
        goes = λ o at ds long.
            acts_by x op h kind.0 has kind.1 o at Empty ds
            ∙ ap (λ r. act_of t.value r (shape_of (meaning_of t) x o) Empty ds) (jumping_role (t.role_of kind.0) kind.2);
      }

  pub never_gives : (x : Tree) (op : ℕ) (h : Head) → head_of x op ≡ Some h → IsTrue (closes_by t h) → NeverGives (meaning_of t) x op
  never_gives x op h has passes o at memo input ds e =
      let kind = kind_passing (λ k. is_closing (form_of (t.role_of k))) (t.kind_of h.kind) passes in
      role_closes t.value (t.role_of kind.0) kind.2 (shape_of (meaning_of t) x o) memo input ds (sym (acts_by x op h kind.0 has kind.1 o at memo input) ∙ e)

  pub jump_head : KeepsTables t → (n : ℕ) → IsJumpHead (meaning_of t) n (head_of_kind (t.number_of t.jump) (t.is_ssa t.jump))
  unfolding meaning_by
  jump_head keeps n = record {
    admitted = both_true _ _ (subst (λ z. Admits z (branch_shape (head_of_kind (t.number_of t.jump) (t.is_ssa t.jump)) n 1)) (sym (jump_named t keeps)) refl) (jumps_allowed t keeps n);
    branch = ap (λ z. by_form false branches (option_map form_of z)) (jump_named t keeps);
    goes = λ s same operands results successors ds long.
        ap (λ y. by_role no_act (act_of t.value) (role_at t y.kind) s Empty ds) same
        ∙ ap (λ z. by_role no_act (act_of t.value) z s Empty ds) (jump_named t keeps);
    forwards = λ s same operands successors.
        ap (λ y. length (by_role [] (places_by s 0) (role_at t y.kind))) same
        ∙ ap (λ z. length (by_role [] (places_by s 0) z)) (jump_named t keeps)
        ∙ length-range_with_len 0 s.operands
        ∙ operands;
  }

-- ---- what calls, and what is called

module _ {K : Type 0} (t : Tables K) (c : CallTables K) (keeps : KeepsCalls t c) where
  named_call : (h : Head) (name : Datum) (ds : List Datum) → callee_in t c h ≡ Some name → (convention_by t c).call_of (effect_of h ds) ≡ Some (record { symbol = name; arguments = ds })
  named_call h name ds named =
      ap (λ xs. option_map (call_of_name (data_in (chain_of ds))) (name_among t c.callee_place h.kind xs)) (in_chain (map datum_of h.attrs))
      ∙ ap (option_map (call_of_name (data_in (chain_of ds)))) named
      ∙ ap (λ xs. Some (call_of_name xs name)) (in_chain ds)

  pub calls_by_name : (x : Tree) (op : ℕ) (h : Head) (name : Datum) → head_of x op ≡ Some h → callee_in t c h ≡ Some name → CallsByName (meaning_of t) (convention_by t c) x op name
  unfolding shape_of
  calls_by_name x op h name has named =
      let kind = kind_naming c.callee_place (map datum_of h.attrs) name (t.kind_of h.kind) named in
      let once = keeps.calls kind.0 kind.2 in
      record {
        live = subst IsSome (sym has) refl;
        effect = λ ds. effect_of h ds;
        memo = λ ds. once.memo;
        asks = λ o at ds long.
            acts_by t x op h kind.0 has kind.1 o at Empty ds
            ∙ once.asks (shape_of (meaning_of t) x o) ds
            ∙ ap (λ y. Emit (effect_of y ds) once.memo) (head_same t x op h o has at);
        is_call = λ ds long. named_call h name ds named;
        gives = λ o at ds results long.
            acts_by t x op h kind.0 has kind.1 o at once.memo (chain_of results ∷ [])
            ∙ once.gives (shape_of (meaning_of t) x o) results long;
      }

  entry_arguments : (x : Tree) → IsTree x → (op region entry : ℕ) → regions_of x op ≡ region ∷ [] → first_of (layout_of x region) None ≡ Some entry → (o : Operation) → op_at x op ≡ Some o → (shape_of (meaning_of t) x o).entry_arguments ≡ length (arguments_of x entry) ∷ []
  unfolding shape_of
  entry_arguments x w op region entry holds begins o at =
      ap (map (λ r. count_arguments (entry_block x r))) (sym (op_shows x op o at).regions ∙ holds)
      ∙ ap (λ n. n ∷ []) (entry_count x w op region entry holds begins)

  pub runs_region : (x : Tree) → IsTree x → (op region entry : ℕ) (h : Head) (name : Datum) → head_of x op ≡ Some h → symbol_in t c h ≡ Some name → regions_of x op ≡ region ∷ [] → first_of (layout_of x region) None ≡ Some entry → RunsItsRegion (meaning_of t) x op region (length (arguments_of x entry))
  runs_region x w op region entry h name has named holds begins =
      let kind = kind_naming c.symbol_place (map datum_of h.attrs) name (t.kind_of h.kind) named in
      let once = keeps.functions kind.0 kind.2 in
      record {
        live = subst IsSome (sym has) refl;
        holds = holds;
        memo = λ ds. once.memo;
        visits = λ o at ds long.
            acts_by t x op h kind.0 has kind.1 o at Empty ds
            ∙ once.visits (shape_of (meaning_of t) x o) ds (entry_arguments x w op region entry holds begins o at ∙ ap (λ n. n ∷ []) (sym long));
        leaves = λ o at ds results.
            acts_by t x op h kind.0 has kind.1 o at once.memo results
            ∙ once.leaves (shape_of (meaning_of t) x o) results;
      }

  pub never_leaves : (x : Tree) (op : ℕ) (h : Head) → head_of x op ≡ Some h → IsTrue (stays_by t c h) → NeverLeaves (meaning_of t) x op
  never_leaves x op h has passes o at memo input ds e =
      let kind = kind_passing (λ k. is_staying (form_of (t.role_of k)) (c.stays k)) (t.kind_of h.kind) passes in
      role_stays t.value (t.role_of kind.0) (c.stays kind.0) (keeps.stays kind.0) kind.2 (shape_of (meaning_of t) x o) memo input ds (sym (acts_by t x op h kind.0 has kind.1 o at memo input) ∙ e)
