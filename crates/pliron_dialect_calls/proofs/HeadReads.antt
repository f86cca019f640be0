-- What follows from what was read of the head of an operation.
use Rattle.std.proofs.Common.{◌≡◌, ℕ, Bool, false, List, [], ◌∷◌, Option, Some, None, length, map, slice_get, IsTrue, IsSome, Bor, refl, ap, sym, ◌∙◌, arith}
use Rattle.std.specs.Prelude.{IfSome, option_map, option_and_then}
use Rattle.std.specs.Option.{option_map_or, option_copied}
use Rattle.std.proofs.lemmas.Option.{slice_get-map}
use Rattle.pliron_core.specs.declared.attrs.Head.{Head}
use Rattle.pliron_core.specs.declared.attrs.AttrObj.{AttrObj}
use Rattle.pliron_core.specs.Tree.{Tree, IsLive, first_of, head_of, successors_of, regions_of, layout_of, arguments_of}
use Rattle.pliron_core.specs.Invariant.{IsTree}
use Rattle.pliron_laws.specs.Datum.{datum_of}
use Rattle.pliron_laws.specs.Answers.{ReadsHead}
use Rattle.pliron_dialect.specs.Roles.{Tables}
use Rattle.pliron_rewrite_inlining.specs.Inlined.{IsJumpTo, Returns, CallsByName, RunsItsRegion, NeverGives}
use Rattle.pliron_dialect_calls.specs.CallTables.{CallTables, KeepsCalls}
use Rattle.pliron_dialect_calls.specs.Conventions.{meaning_of, name_among, callee_in, symbol_in, convention_by}
use Rattle.pliron_dialect_calls.specs.HeadsByRole.{returns_by, jumps_by, stays_by, closes_by}
use Rattle.pliron_dialect_calls.specs.Inlinable.{NeverLeaves}
use Rattle.pliron_dialect_calls.proofs.ByRole.{returns, jumps_to, never_gives, calls_by_name, runs_region, never_leaves}

-- ---- names among attributes

mapped_place : (attrs : List AttrObj) (p : Option ℕ) → option_map datum_of (option_and_then (λ i. slice_get attrs i) p) ≡ option_and_then (λ i. slice_get (map datum_of attrs) i) p
mapped_place attrs None = refl
mapped_place attrs (Some i) = sym (slice_get-map datum_of attrs i)

pub name_read : {K : Type 0} (t : Tables K) (place : K → Option ℕ) (x : Tree) (op : ℕ) (k : K) (p : Option ℕ) (a : Option AttrObj) → ReadsHead (λ h. t.kind_of h.kind) x op (Some k) → p ≡ place k → ReadsHead (λ h. option_and_then (λ i. slice_get h.attrs i) p) x op a → ReadsHead (λ h. name_among t place h.kind (map datum_of h.attrs)) x op (option_map datum_of a)
name_read t place x op k p a kind at attribute h has =
    ap (option_map datum_of) (attribute h has)
    ∙ mapped_place h.attrs p
    ∙ ap (option_and_then (λ i. slice_get (map datum_of h.attrs) i)) (at ∙ ap (option_and_then place) (kind h has))

pub no_name_read : {K : Type 0} (t : Tables K) (place : K → Option ℕ) (x : Tree) (op : ℕ) → ReadsHead (λ h. t.kind_of h.kind) x op None → ReadsHead (λ h. name_among t place h.kind (map datum_of h.attrs)) x op None
no_name_read t place x op kind h has = ap (λ o. option_and_then (λ i. slice_get (map datum_of h.attrs) i) (option_and_then place o)) (kind h has)

-- ---- tests of kinds

pub passes_read : {K : Type 0} (t : Tables K) (test : K → Bool) (x : Tree) (op : ℕ) (k : K) (b : Bool) → ReadsHead (λ h. t.kind_of h.kind) x op (Some k) → b ≡ test k → ReadsHead (λ h. option_map_or test (t.kind_of h.kind) false) x op b
passes_read t test x op k b kind is h has = is ∙ ap (λ o. option_map_or test o false) (kind h has)

-- ---- what the operation does

head_there : (x : Tree) (op : ℕ) → IsLive x op → (h : Head) × (head_of x op ≡ Some h)
head_there x op live = go (head_of x op) live
  where
    go : (o : Option Head) → IsSome o → (h : Head) × (o ≡ Some h)
    go None s = absurd (grind (arith, s))
    go (Some h) s = (h, refl)

module _ {K : Type 0} (t : Tables K) (x : Tree) (op : ℕ) (live : IsLive x op) where
  pub returns_read : (b : Bool) → ReadsHead (returns_by t) x op b → IsTrue b → Returns (meaning_of t) x op
  returns_read b reads p = let it = head_there x op live in returns t x op it.0 it.1 (sym (reads it.0 it.1) ∙ p)

  pub jumps_read : (b : Bool) → ReadsHead (jumps_by t) x op b → IsTrue b → (block : ℕ) → successors_of x op ≡ block ∷ [] → IsJumpTo (meaning_of t) x op block
  jumps_read b reads p block leads = let it = head_there x op live in jumps_to t x op block it.0 it.1 (sym (reads it.0 it.1) ∙ p) leads

  pub closes_read : (b : Bool) → ReadsHead (closes_by t) x op b → IsTrue b → NeverGives (meaning_of t) x op
  closes_read b reads p = let it = head_there x op live in never_gives t x op it.0 it.1 (sym (reads it.0 it.1) ∙ p)

  pub stays_read : (c : CallTables K) → KeepsCalls t c → (b : Bool) → ReadsHead (stays_by t c) x op b → IsTrue b → NeverLeaves (meaning_of t) x op
  stays_read c keeps b reads p = let it = head_there x op live in never_leaves t c keeps x op it.0 it.1 (sym (reads it.0 it.1) ∙ p)

  -- of a name behind a reference
  pub calls_read : (c : CallTables K) → KeepsCalls t c → (found : Option (Bor AttrObj)) → ReadsHead (callee_in t c) x op (option_map datum_of (option_copied found)) → IfSome found (λ name. CallsByName (meaning_of t) (convention_by t c) x op (datum_of name.now))
  calls_read c keeps None reads = tt
  calls_read c keeps (Some name) reads = let it = head_there x op live in calls_by_name t c keeps x op it.0 (datum_of name.now) it.1 (sym (reads it.0 it.1))

  pub runs_read : (c : CallTables K) → KeepsCalls t c → IsTree x → (found : Option (Bor AttrObj)) → ReadsHead (symbol_in t c) x op (option_map datum_of (option_copied found)) → IfSome found (λ name. (region entry : ℕ) → regions_of x op ≡ region ∷ [] → first_of (layout_of x region) None ≡ Some entry → RunsItsRegion (meaning_of t) x op region (length (arguments_of x entry)))
  runs_read c keeps w None reads = tt
  runs_read c keeps w (Some name) reads = λ region entry holds begins. let it = head_there x op live in runs_region t c keeps x w op region entry it.0 (datum_of name.now) it.1 (sym (reads it.0 it.1)) holds begins
