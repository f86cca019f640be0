-- In dialects by roles: a kind whose own act shows nothing but its kind, its attributes and its operands calls its callee alone.
use Rattle.std.proofs.Common.{◌≡◌, ℕ, Bool, false, List, [], ◌∷◌, Option, Some, None, map, IsTrue, refl, ap, sym, ◌∙◌, arith}
use Rattle.std.specs.Prelude.{ℤ, pos, negsuc, option_map}
use Rattle.std.specs.Option.{option_map_or}
use Rattle.std.proofs.lemmas.Option.{same_Some}
use Rattle.pliron_core.specs.declared.attrs.Head.{Head}
use Rattle.pliron_laws.specs.Datum.{Datum, Empty, Number, Text, Join, datum_of, Shape, Move, Give, Goto, Leave, Emit, Trap}
use Rattle.pliron_laws.specs.Acting.{Act}
use Rattle.pliron_dialect.specs.declared.form.Otherwise.{Otherwise}
use Rattle.pliron_dialect.specs.declared.form.Otherwise.TheVariants.{Says, Never, Traps}
use Rattle.pliron_dialect.specs.declared.identity.Identity.{Identity}
use Rattle.pliron_dialect.specs.Roles.{Interpretation, Tables, Role, Constant, Folds, Picks, Opaque, Jumps, Chooses, Leaves, Stops, Acts, Names, Forks, Holds, act_of, no_act, by_role, role_at, meaning_by, folds_to, give_or_trap, numbers_of, complete, chain_of, data_in, effect_of, effect_act, first_datum, fork_act, fork_answer}
use Rattle.pliron_pass_linked.specs.Calls.{Call}
use Rattle.pliron_dialect_calls.specs.CallTables.{CallTables}
use Rattle.pliron_dialect_calls.specs.Conventions.{meaning_of, name_among, callee_in, call_of_name, convention_by}
use Rattle.pliron_dialect_calls.specs.ReadyActs.{in_chain, visit_and_leave}
use Rattle.pliron_rewrite_symbols.specs.Callers.{CallOnlyCallees}

-- each effect that it shows is the kind with its attributes and some data
abbrev pub ShowsItself : Act → Type 0
ShowsItself act = (s : Shape) (memo : Datum) (input : List Datum) (effect next : Datum) → act s memo input ≡ Emit effect next → (ds : List Datum) × (effect ≡ effect_of s.head ds)

-- what a role says by a table of its own does so; other roles show no effect
abbrev pub OwnActShowsItself : Role → Type 0
OwnActShowsItself (Acts says removes act) = ShowsItself act
OwnActShowsItself (Names act named) = ShowsItself act
OwnActShowsItself (Forks says act) = ShowsItself act
OwnActShowsItself _ = Unit {0}

-- the heads of these kinds
abbrev pub has_kind : {K : Type 0} → Tables K → (K → Bool) → Head → Bool
has_kind t traced h = option_map_or traced (t.kind_of h.kind) false

-- kinds that do so call their callees alone
abbrev pub CallersLaw : {K : Type 0} → Tables K → CallTables K → Type 0
CallersLaw {K} t c = (traced : K → Bool) → ((k : K) → IsTrue (traced k) → OwnActShowsItself (t.role_of k)) → CallOnlyCallees (meaning_of t) (convention_by t c) (callee_in t c) (has_kind t traced)

-- ---- acts

shown : (h : Head) (input : List Datum) (after effect next : Datum) → Emit (effect_of h input) after ≡ Emit effect next → (ds : List Datum) × (effect ≡ effect_of h ds)
shown h input after effect next e = (input, let f : effect_of h input ≡ effect = cc in sym f)

pub effect_itself : ShowsItself effect_act
effect_itself s Empty input effect next e = shown s.head input _ effect next e
effect_itself s (Number n) input effect next e = absurd (grind (arith, e))
effect_itself s (Text x) input effect next e = absurd (grind (arith, e))
effect_itself s (Join x y) input effect next e = absurd (grind (arith, e))

answered_quiet : (s : Shape) (d effect next : Datum) → fork_answer s d ≡ Emit effect next → ⊥
answered_quiet s Empty effect next e = grind (arith, e)
answered_quiet s (Number n) effect next e = grind (arith, e)
answered_quiet s (Text x) effect next e = grind (arith, e)
answered_quiet s (Join (Number (pos i)) ds) effect next e = grind (arith, e)
answered_quiet s (Join (Number (negsuc i)) ds) effect next e = grind (arith, e)
answered_quiet s (Join Empty ds) effect next e = grind (arith, e)
answered_quiet s (Join (Text x) ds) effect next e = grind (arith, e)
answered_quiet s (Join (Join x y) ds) effect next e = grind (arith, e)

pub fork_itself : ShowsItself fork_act
fork_itself s Empty input effect next e = shown s.head input _ effect next e
fork_itself s (Number n) input effect next e = absurd (answered_quiet s (first_datum input) effect next e)
fork_itself s (Text x) input effect next e = absurd (answered_quiet s (first_datum input) effect next e)
fork_itself s (Join x y) input effect next e = absurd (answered_quiet s (first_datum input) effect next e)

pub visit_itself : ShowsItself visit_and_leave
visit_itself s Empty input effect next e = absurd (grind (arith, e))
visit_itself s (Number n) input effect next e = absurd (grind (arith, e))
visit_itself s (Text x) input effect next e = absurd (grind (arith, e))
visit_itself s (Join x y) input effect next e = absurd (grind (arith, e))

-- ---- roles

computed_quiet : (x : Option ℤ) (effect next : Datum) → give_or_trap x ≡ Emit effect next → ⊥
computed_quiet None effect next e = grind (arith, e)
computed_quiet (Some n) effect next e = grind (arith, e)

folds_quiet : (otherwise : Otherwise) (value : Interpretation) (h : Head) (i : Identity) (result : List ℤ → Option ℤ) (input : List Datum) (effect next : Datum) → folds_to otherwise value h i result input ≡ Emit effect next → ⊥
folds_quiet Says value h i result input effect next e = grind (arith, e)
folds_quiet Never value h i result input effect next e = computed_quiet (result (numbers_of input)) effect next e
folds_quiet Traps value h i result input effect next e = computed_quiet (result (numbers_of input)) effect next e

role_itself : (value : Interpretation) (r : Role) → OwnActShowsItself r → ShowsItself (act_of value r)
role_itself value Constant own = λ s memo input effect next e. absurd (grind (arith, e))
role_itself value (Folds n knows identity otherwise) own = λ s memo input effect next e. absurd (folds_quiet otherwise value s.head (identity s.head) (complete knows s.head) input effect next e)
role_itself value (Picks truth) own = λ s memo input effect next e. absurd (grind (arith, e))
role_itself value Opaque own = λ s memo input effect next e. absurd (grind (arith, e))
role_itself value Jumps own = λ s memo input effect next e. absurd (grind (arith, e))
role_itself value (Chooses counting choose) own = λ s memo input effect next e. absurd (grind (arith, e))
role_itself value Leaves own = λ s memo input effect next e. absurd (grind (arith, e))
role_itself value Stops own = λ s memo input effect next e. absurd (grind (arith, e))
role_itself value (Acts says removes act) own = own
role_itself value (Names act named) own = own
role_itself value (Forks says act) own = own
role_itself value (Holds says) own = λ s memo input effect next e. absurd (grind (arith, e))

-- a call in such an effect is that of the callee
own_call : {K : Type 0} (t : Tables K) (c : CallTables K) (h : Head) (ds : List Datum) (call : Call) → (convention_by t c).call_of (effect_of h ds) ≡ Some call → callee_in t c h ≡ Some call.symbol
own_call t c h ds call e = go (name_among t c.callee_place h.kind (map datum_of h.attrs)) (ap (λ xs. option_map (call_of_name (data_in (chain_of ds))) (name_among t c.callee_place h.kind xs)) (sym (in_chain (map datum_of h.attrs))) ∙ e)
  where
    go : (name : Option Datum) → option_map (call_of_name (data_in (chain_of ds))) name ≡ Some call → name ≡ Some call.symbol
    go None f = absurd (grind (arith, f))
    go (Some name) f = ap (λ (x : Call). Some x.symbol) (same_Some (call_of_name (data_in (chain_of ds)) name) call f)

pub callers_by_role : {K : Type 0} (t : Tables K) (c : CallTables K) → CallersLaw t c
unfolding meaning_by
callers_by_role {K} t c traced own s passes memo input effect next call shows is = go (t.kind_of s.head.kind) passes shows
  where
    go : (o : Option K) → IsTrue (option_map_or traced o false) → by_role no_act (act_of t.value) (option_map t.role_of o) s memo input ≡ Emit effect next → callee_in t c s.head ≡ Some call.symbol
    go None p e = absurd (grind (arith, p))
    go (Some k) p e =
        let x = role_itself t.value (t.role_of k) (own k p) s memo input effect next e in
        own_call t c s.head x.0 call (ap (convention_by t c).call_of (sym x.1) ∙ is)
