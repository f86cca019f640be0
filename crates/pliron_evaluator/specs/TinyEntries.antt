-- The small dialect keeps the laws on operands that every visit passes, and on roots.
use Rattle.std.proofs.Common.{◌≡◌, ◌⊎◌, inl, inr, ℕ, zero, suc, ◌<◌, Bool, true, false, ◌&&◌, nat_eq, nat_lt, if◌then◌else◌, List, [], ◌∷◌, Option, Some, None, drop, length, slice_get, IsTrue, refl, ap, sym, ◌∙◌, subst, arith}
use Rattle.std.proofs.lemmas.Option.{same_Some}
use Rattle.pliron_evaluator.specs.declared.tiny.TinyKind.{TinyKind}
use Rattle.pliron_evaluator.specs.declared.tiny.TinyKind.TheVariants.{Const, Ask, Scope, Br, Both, Twice}
use Rattle.pliron_laws.specs.declared.dialect.Interface.TheVariants.{RegionBranch}
use Rattle.pliron_laws.specs.Datum.{Datum, Empty, Number, Text, Join, Shape, Give, Visit, Emit}
use Rattle.pliron_laws.specs.Acting.{Act, Comes}
use Rattle.pliron_laws.specs.Acting.Comes.{Begins, Answered, AnsweredByWorld}
use Rattle.pliron_laws.specs.Laws.{Admitted}
use Rattle.pliron_laws.specs.Entries.{NamesOperands, RootsNameNone}
use Rattle.pliron_evaluator.specs.Tiny.{memo_when_begun, kept_between, fitted_or_empty, both_move, twice_move, tiny_kind_of, is_naming_kind, first_entry_operand, admits_of, tiny_act_of, tiny, tiny_entry_operands, has_tiny_interface}
use Rattle.pliron_evaluator.specs.TinyLaws.{parts, twice_counts}
use Rattle.pliron_dialect.specs.Roles.{first_datum}
use Rattle.pliron_dialect.specs.Parts.{same, below}

-- ---- which operand is named

unsaid : {k : ℕ} → None ≡ Some k → ⊥
unsaid e = cc

silent : (o : Option TinyKind) (n : ℕ) → is_naming_kind o ≡ false → first_entry_operand o n ≡ None
silent None n e = refl
silent (Some Const) n e = refl
silent (Some Ask) n e = refl
silent (Some Scope) n e = refl
silent (Some Br) n e = refl
silent (Some Both) n e = grind arith
silent (Some Twice) n e = grind arith

in_case : (b : Bool) (o : Option ℕ) (k : ℕ) → (if b then o else None) ≡ Some k → IsTrue b × (o ≡ Some k)
in_case true o k e = (refl, e)
in_case false o k e = absurd (unsaid e)

none_but : (b : Bool) (o : Option ℕ) → o ≡ None → (if b then o else None) ≡ None
none_but true o e = e
none_but false o e = refl

-- it is one of the operands
there : (o : Option TinyKind) (n b c d k : ℕ) → IsTrue (admits_of o n b c d) → first_entry_operand o n ≡ Some k → k < n
there None n b c d k h e = absurd (unsaid e)
there (Some Const) n b c d k h e = absurd (unsaid e)
there (Some Ask) n b c d k h e = absurd (unsaid e)
there (Some Scope) n b c d k h e = absurd (unsaid e)
there (Some Br) n b c d k h e = absurd (unsaid e)
there (Some Both) n b c d k h e = let it = in_case (nat_lt 1 n) (Some 1) k e in subst (λ x. x < n) (same_Some 1 k it.1) (below 1 n it.0)
there (Some Twice) n b c d k h e = subst (λ x. x < n) (same_Some 0 k e) ((twice_counts n b c d h).0)

-- it is at its place for the kind
named : (o : Option TinyKind) (n k : ℕ) → first_entry_operand o n ≡ Some k → ((o ≡ Some Both) × (k ≡ 1)) ⊎ ((o ≡ Some Twice) × (k ≡ 0))
named None n k e = absurd (unsaid e)
named (Some Const) n k e = absurd (unsaid e)
named (Some Ask) n k e = absurd (unsaid e)
named (Some Scope) n k e = absurd (unsaid e)
named (Some Br) n k e = absurd (unsaid e)
named (Some Both) n k e = inl (refl, sym (same_Some 1 k (in_case (nat_lt 1 n) (Some 1) k e).1))
named (Some Twice) n k e = inr (refl, sym (same_Some 0 k e))

-- ---- what a memo says

no_visit : {i : ℕ} {ds : List Datum} {next : Datum} → Give [] ≡ Visit i ds next → ⊥
no_visit e = cc

-- an empty memo has the first input beside it, a `Join` keeps what is kept of that
abbrev Holds : (List Datum → Datum) → (first : List Datum) → Datum → (input : List Datum) → Type 0
Holds keeps first Empty input = input ≡ first
Holds keeps first (Join kept e) input = kept ≡ keeps first
Holds keeps first (Number n) input = Unit {0}
Holds keeps first (Text w) input = Unit {0}

after_first : (keeps : List Datum → Datum) (first input answer : List Datum) (next : Datum) → input ≡ first → kept_between (keeps input) ≡ next → Holds keeps first next answer
after_first keeps first input answer next same e = subst (λ z. Holds keeps first z answer) e (ap keeps same)

after_second : (keeps : List Datum → Datum) (first answer : List Datum) (next : Datum) → memo_when_begun ≡ next → Holds keeps first next answer
after_second keeps first answer next e = subst (λ z. Holds keeps first z answer) e tt

abbrev Holding : Act → Shape → (List Datum → Datum) → List Datum → Type 0
Holding act s keeps first = (memo : Datum) (input : List Datum) (i : ℕ) (ds : List Datum) (next : Datum) (answer : List Datum) → Holds keeps first memo input → act s memo input ≡ Visit i ds next → Holds keeps first next answer

holds : (act : Act) (s : Shape) (keeps : List Datum → Datum) (first : List Datum) → Holding act s keeps first → ((memo : Datum) (input : List Datum) (effect next : Datum) → act s memo input ≡ Emit effect next → ⊥) → (later : Bool) (memo : Datum) (input : List Datum) → Comes act s first later memo input → Holds keeps first memo input
holds act s keeps first visits silent later memo input Begins = refl
holds act s keeps first visits silent later memo input (Answered i ds next answer c move) = visits _ _ i ds next answer (holds act s keeps first visits silent _ _ _ c) move
holds act s keeps first visits silent later memo input (AnsweredByWorld effect next answer c move) = absurd (silent _ _ effect next move)

-- ---- what a visit of the first region passes

first_read : (k : ℕ) (first : List Datum) → k < length first → slice_get first k ≡ Some (first_datum (drop k first))
first_read k [] lt = absurd (omega (arith, lt))
first_read zero (d ∷ ds) lt = refl
first_read (suc k) (d ∷ ds) lt = first_read k ds (omega (arith, lt))

alone_read : (n : ℕ) (x d : Datum) → slice_get (fitted_or_empty n (x ∷ [])) 0 ≡ Some d → x ≡ d
alone_read zero x d e = grind arith
alone_read (suc n) x d e = same_Some x d e

no_effect : {i : ℕ} {ds : List Datum} {memo effect next : Datum} → Visit i ds memo ≡ Emit effect next → ⊥
no_effect e = cc

nor_effect : {effect next : Datum} → Give [] ≡ Emit effect next → ⊥
nor_effect e = cc

both_silent : (memo : Datum) (counts : List ℕ) (input : List Datum) (effect next : Datum) → both_move memo counts input ≡ Emit effect next → ⊥
both_silent Empty counts input effect next e = no_effect e
both_silent (Join kept z) counts input effect next e = no_effect e
both_silent (Number n) counts input effect next e = nor_effect e
both_silent (Text w) counts input effect next e = nor_effect e

twice_silent : (memo : Datum) (counts : List ℕ) (input : List Datum) (effect next : Datum) → twice_move memo counts input ≡ Emit effect next → ⊥
twice_silent Empty counts input effect next e = no_effect e
twice_silent (Join kept z) counts input effect next e = no_effect e
twice_silent (Number n) counts input effect next e = nor_effect e
twice_silent (Text w) counts input effect next e = nor_effect e

memo_of : {i j : ℕ} {ds es : List Datum} {memo next : Datum} → Visit i ds memo ≡ Visit j es next → memo ≡ next
memo_of e = cc

region_of : {i j : ℕ} {ds es : List Datum} {memo next : Datum} → Visit i ds memo ≡ Visit j es next → i ≡ j
region_of e = cc

values_of : {i j : ℕ} {ds es : List Datum} {memo next : Datum} → Visit i ds memo ≡ Visit j es next → ds ≡ es
values_of e = cc

abbrev nothing : List Datum → Datum
nothing first = Empty

both_holds : (first : List Datum) (memo : Datum) (counts : List ℕ) (input : List Datum) (i : ℕ) (ds : List Datum) (next : Datum) (answer : List Datum) → Holds nothing first memo input → both_move memo counts input ≡ Visit i ds next → Holds nothing first next answer
both_holds first Empty counts input i ds next answer h e = after_first nothing first input answer next h (memo_of e)
both_holds first (Join kept z) counts input i ds next answer h e = after_second nothing first answer next (memo_of e)
both_holds first (Number n) counts input i ds next answer h e = absurd (no_visit e)
both_holds first (Text w) counts input i ds next answer h e = absurd (no_visit e)

twice_holds : (first : List Datum) (memo : Datum) (counts : List ℕ) (input : List Datum) (i : ℕ) (ds : List Datum) (next : Datum) (answer : List Datum) → Holds first_datum first memo input → twice_move memo counts input ≡ Visit i ds next → Holds first_datum first next answer
twice_holds first Empty counts input i ds next answer h e = after_first first_datum first input answer next h (memo_of e)
twice_holds first (Join kept z) counts input i ds next answer h e = after_second first_datum first answer next (memo_of e)
twice_holds first (Number n) counts input i ds next answer h e = absurd (no_visit e)
twice_holds first (Text w) counts input i ds next answer h e = absurd (no_visit e)

apart : (i : ℕ) → i ≡ 1 → i ≡ 0 → ⊥
apart i e f = omega (arith, e, f)

both_passes : (first : List Datum) → 1 < length first → (memo : Datum) (counts : List ℕ) (input ds : List Datum) (next d : Datum) → Holds nothing first memo input → both_move memo counts input ≡ Visit 0 ds next → slice_get ds 0 ≡ Some d → slice_get first 1 ≡ Some d
both_passes first lt Empty counts input ds next d h e at =
    let read = alone_read _ _ d (ap (λ z. slice_get z 0) (values_of e) ∙ at) in
    first_read 1 first lt ∙ ap (λ z. Some (first_datum (drop 1 z))) (sym h) ∙ ap Some read
both_passes first lt (Join kept z) counts input ds next d h e at = absurd (apart 1 refl (region_of e))
both_passes first lt (Number n) counts input ds next d h e at = absurd (no_visit e)
both_passes first lt (Text w) counts input ds next d h e at = absurd (no_visit e)

twice_passes : (first : List Datum) → 0 < length first → (memo : Datum) (counts : List ℕ) (input ds : List Datum) (next d : Datum) → Holds first_datum first memo input → twice_move memo counts input ≡ Visit 0 ds next → slice_get ds 0 ≡ Some d → slice_get first 0 ≡ Some d
twice_passes first lt Empty counts input ds next d h e at =
    let read = alone_read _ _ d (ap (λ z. slice_get z 0) (values_of e) ∙ at) in
    first_read 0 first lt ∙ ap (λ z. Some (first_datum z)) (sym h) ∙ ap Some read
twice_passes first lt (Join kept z) counts input ds next d h e at =
    let read = alone_read _ _ d (ap (λ z. slice_get z 0) (values_of e) ∙ at) in
    first_read 0 first lt ∙ ap Some (sym h) ∙ ap Some read
twice_passes first lt (Number n) counts input ds next d h e at = absurd (no_visit e)
twice_passes first lt (Text w) counts input ds next d h e at = absurd (no_visit e)

-- ---- the laws

pub at_first : (i j : ℕ) → IsTrue (nat_eq i 0 && nat_eq j 0) → (i ≡ 0) × (j ≡ 0)
at_first i j h = let p = parts true (nat_eq i 0) (nat_eq j 0) h in (same i 0 p.1, same j 0 p.2)

module _ (s : Shape) (first : List Datum) where
  acts : (o : Option TinyKind) → tiny_kind_of s.head.kind ≡ o → (memo : Datum) (input : List Datum) → tiny_act_of o s memo input ≡ tiny.act s memo input
  unfolding tiny
  acts o kind memo input = ap (λ y. tiny_act_of y s memo input) (sym kind)

  both_held : tiny_kind_of s.head.kind ≡ Some Both → (later : Bool) (memo : Datum) (input : List Datum) → Comes tiny.act s first later memo input → Holds nothing first memo input
  both_held kind = holds tiny.act s nothing first (λ z x i ds next answer held m. both_holds first z s.entry_arguments x i ds next answer held (acts (Some Both) kind z x ∙ m)) (λ z x effect next m. both_silent z s.entry_arguments x effect next (acts (Some Both) kind z x ∙ m))

  twice_held : tiny_kind_of s.head.kind ≡ Some Twice → (later : Bool) (memo : Datum) (input : List Datum) → Comes tiny.act s first later memo input → Holds first_datum first memo input
  twice_held kind = holds tiny.act s first_datum first (λ z x i ds next answer held m. twice_holds first z s.entry_arguments x i ds next answer held (acts (Some Twice) kind z x ∙ m)) (λ z x effect next m. twice_silent z s.entry_arguments x effect next (acts (Some Twice) kind z x ∙ m))

  passes : (k : ℕ) → ((tiny_kind_of s.head.kind ≡ Some Both) × (k ≡ 1)) ⊎ ((tiny_kind_of s.head.kind ≡ Some Twice) × (k ≡ 0)) → k < length first → (later : Bool) (memo : Datum) (input ds : List Datum) (next d : Datum) → Comes tiny.act s first later memo input → tiny.act s memo input ≡ Visit 0 ds next → slice_get ds 0 ≡ Some d → slice_get first k ≡ Some d
  passes k (inl (kind, one)) lt later memo input ds next d comes move at =
      ap (slice_get first) one ∙ both_passes first (subst (λ x. x < length first) one lt) memo s.entry_arguments input ds next d (both_held kind later memo input comes) (acts (Some Both) kind memo input ∙ move) at
  passes k (inr (kind, none)) lt later memo input ds next d comes move at =
      ap (slice_get first) none ∙ twice_passes first (subst (λ x. x < length first) none lt) memo s.entry_arguments input ds next d (twice_held kind later memo input comes) (acts (Some Twice) kind memo input ∙ move) at

  passes_at : Admitted tiny s → (i j k : ℕ) → tiny_entry_operands s i j ≡ Some k → length first ≡ s.operands → (later : Bool) (memo : Datum) (input ds : List Datum) (next : Datum) → Comes tiny.act s first later memo input → tiny.act s memo input ≡ Visit i ds next → (d : Datum) → slice_get ds j ≡ Some d → slice_get first k ≡ Some d
  unfolding tiny tiny_entry_operands
  passes_at h i j k e l later memo input ds next comes move d at =
      let it = in_case (nat_eq i 0 && nat_eq j 0) (first_entry_operand (tiny_kind_of s.head.kind) s.operands) k e in
      let place = at_first i j it.0 in
      let inside : k < length first = subst (λ x. k < x) (sym l) (there (tiny_kind_of s.head.kind) s.operands _ _ _ k h it.1) in
      passes k (named (tiny_kind_of s.head.kind) s.operands k it.1) inside later memo input ds next d comes (move ∙ ap (λ x. Visit x ds next) place.0) (ap (slice_get ds) (sym place.1) ∙ at)

pub tiny_names : NamesOperands tiny tiny_entry_operands (λ h. has_tiny_interface h RegionBranch)
unfolding tiny tiny_entry_operands has_tiny_interface
tiny_names = record {
  silent = λ s i j no. none_but (nat_eq i 0 && nat_eq j 0) _ (silent (tiny_kind_of s.head.kind) s.operands no);
  there = λ s h i j k e. there (tiny_kind_of s.head.kind) s.operands _ _ _ k h (in_case (nat_eq i 0 && nat_eq j 0) _ k e).1;
  passes = λ s h i j k e first l later memo input ds next comes move d at. passes_at s first h i j k e l later memo input ds next comes move d at;
}

pub tiny_roots : RootsNameNone tiny (λ h. has_tiny_interface h RegionBranch)
unfolding tiny has_tiny_interface
tiny_roots = λ h. refl
