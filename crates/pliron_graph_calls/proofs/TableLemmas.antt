-- What a table of names finds, and what a name adds to it.
use Rattle.std.proofs.Common.{◌≡◌, ◌≢◌, ◌<◌, ◌||◌, ◌⊎◌, inl, inr, ℕ, zero, suc, List, [], ◌∷◌, ◌++◌, length, map, get_or, Bool, true, false, not, if◌then◌else◌, Option, Some, None, refl, sym, ap, subst, ◌∙◌, arith}
use Rattle.std.specs.Prelude.{slice_get, position, is_some, MatchOption}
use Rattle.std.specs.List.{list_any}
use Rattle.std.specs.Option.{option_map}
use Rattle.std.proofs.lemmas.Bool.{false≢true}
use Rattle.std.proofs.lemmas.List.Quantifiers.{position-Some}
use Rattle.std.proofs.lemmas.List.Folds.{list_any_at}
use Rattle.std.proofs.lemmas.Option.{slice_get_within, slice_get-get_or, same_Some}
use Rattle.pliron_core.proofs.GrownLemmas.{slice_get_kept}
use Rattle.pliron_laws.specs.Datum.{Datum}
use Rattle.pliron_graph_calls.specs.Names.{attribute_of_name, datum_of_name, names_of}
use Rattle.pliron_graph_calls.specs.Namesakes.{HasNamesakes}
use Rattle.pliron_graph_calls.specs.FunctionNames.{with_name}
use Rattle.pliron_graph_calls.specs.declared.function_name.FunctionName.{FunctionName}
use Rattle.pliron_graph_calls.specs.contracts.function_name.FunctionNamePartialEq.TheImpl.{ghosts as equality}
use Rattle.pliron_graph_calls.proofs.NameLemmas.{data_equal, names_equal}

abbrev data_in : List FunctionName → List Datum
data_in keys = names_of (map attribute_of_name keys)

at_place : (keys : List FunctionName) (i : ℕ) → slice_get (data_in keys) i ≡ option_map datum_of_name (slice_get keys i)
at_place [] i = refl
at_place (k ∷ keys) zero = refl
at_place (k ∷ keys) (suc i) = at_place keys i

-- ---- finding

name_at : (name : FunctionName) (keys : List FunctionName) (i : ℕ) → i < length keys → equality.eq name (get_or keys i name) ≡ true → slice_get (data_in keys) i ≡ Some (datum_of_name name)
name_at name keys i within same =
    at_place keys i ∙ ap (option_map datum_of_name) (slice_get-get_or keys i name within) ∙ ap Some (sym (data_equal name (get_or keys i name) same))

pub found_at : (name : FunctionName) (keys : List FunctionName) (i : ℕ) → position (λ k. equality.eq name k) keys ≡ Some i → slice_get (data_in keys) i ≡ Some (datum_of_name name)
found_at name keys i e =
    let found = position-Some (λ k. equality.eq name k) keys i name e in
    name_at name keys i found.0 found.1

-- a name at a place passes the test
key_at : (name : FunctionName) (keys : List FunctionName) (i : ℕ) (r : Option FunctionName) → slice_get keys i ≡ r → option_map datum_of_name r ≡ Some (datum_of_name name) → list_any (λ k. equality.eq name k) keys ≡ true
key_at name keys i None at same = absurd (grind (arith, same))
key_at name keys i (Some k) at same =
    let within = slice_get_within keys i k at in
    let there = same_Some (get_or keys i name) k (sym (slice_get-get_or keys i name within) ∙ at) in
    list_any_at (λ x. equality.eq name x) keys i name within (subst (λ x. equality.eq name x ≡ true) (sym there) (names_equal name k (sym (same_Some (datum_of_name k) (datum_of_name name) same))))

any_at : (name : FunctionName) (keys : List FunctionName) (i : ℕ) → slice_get (data_in keys) i ≡ Some (datum_of_name name) → list_any (λ k. equality.eq name k) keys ≡ true
any_at name keys i at = key_at name keys i (slice_get keys i) refl (sym (at_place keys i) ∙ at)

pub found_nowhere : (name : FunctionName) (keys : List FunctionName) → list_any (λ k. equality.eq name k) keys ≡ false → (i : ℕ) → slice_get (data_in keys) i ≢ Some (datum_of_name name)
found_nowhere name keys none i at = false≢true (sym none ∙ any_at name keys i at)

-- ---- adding

abbrev StandsIn : FunctionName → List FunctionName → Type 0
StandsIn name keys = (i : ℕ) × (slice_get (data_in keys) i ≡ Some (datum_of_name name))

any_by : (name k : FunctionName) (keys : List FunctionName) (b : Bool) → equality.eq name k ≡ b → (b || list_any (λ x. equality.eq name x) keys) ≡ true → (list_any (λ x. equality.eq name x) keys ≡ true → StandsIn name keys) → StandsIn name (k ∷ keys)
any_by name k keys true e any later = (0, ap Some (sym (data_equal name k e)))
any_by name k keys false e any later = (suc (later any).0, (later any).1)

any_found : (name : FunctionName) (keys : List FunctionName) → list_any (λ k. equality.eq name k) keys ≡ true → StandsIn name keys
any_found name [] any = absurd (false≢true any)
any_found name (k ∷ keys) any = any_by name k keys (equality.eq name k) refl any (λ there. any_found name keys there)

last_at : (names : List Datum) (d : Datum) → slice_get (names ++ d ∷ []) (length names) ≡ Some d
last_at [] d = refl
last_at (n ∷ names) d = last_at names d

pub becomes_namesake : (name : FunctionName) (keys : List FunctionName) → list_any (λ k. equality.eq name k) keys ≡ true → HasNamesakes (data_in keys ++ datum_of_name name ∷ [])
becomes_namesake name keys any =
    let found = any_found name keys any in
    let names = data_in keys in
    (found.0, length names, datum_of_name name, slice_get_within names found.0 (datum_of_name name) found.1, slice_get_kept names (datum_of_name name ∷ []) found.0 (datum_of_name name) found.1, last_at names (datum_of_name name))

-- what stands at a place of a list with one more behind it stands there in the list, or is that one
split_at : (names : List Datum) (d n : Datum) (i : ℕ) → slice_get (names ++ d ∷ []) i ≡ Some n → (slice_get names i ≡ Some n) ⊎ ((i ≡ length names) × (n ≡ d))
split_at [] d n zero at = inr (refl, sym (same_Some d n at))
split_at [] d n (suc i) at = absurd (grind (arith, at))
split_at (m ∷ names) d n zero at = inl at
split_at (m ∷ names) d n (suc i) at = by (split_at names d n i at)
  where
    by : (slice_get names i ≡ Some n) ⊎ ((i ≡ length names) × (n ≡ d)) → (slice_get (m ∷ names) (suc i) ≡ Some n) ⊎ ((suc i ≡ length (m ∷ names)) × (n ≡ d))
    by (inl here) = inl here
    by (inr last) = inr (ap suc last.0, last.1)

pub stays_apart : (names : List Datum) (d : Datum) → ((i : ℕ) → slice_get names i ≢ Some d) → (HasNamesakes names → ⊥) → HasNamesakes (names ++ d ∷ []) → ⊥
stays_apart names d new apart (i, j, n, before, at_i, at_j) = by (split_at names d n i at_i) (split_at names d n j at_j)
  where
    by : (slice_get names i ≡ Some n) ⊎ ((i ≡ length names) × (n ≡ d)) → (slice_get names j ≡ Some n) ⊎ ((j ≡ length names) × (n ≡ d)) → ⊥
    by (inl a) (inl b) = apart (i, j, n, before, a, b)
    by (inl a) (inr b) = new i (a ∙ ap Some b.1)
    by (inr a) (inl b) = omega (arith, before, a.0, slice_get_within names j n b)
    by (inr a) (inr b) = omega (arith, before, a.0, b.0)

-- ---- a set that takes a name

one_more : (keys : List FunctionName) (name : FunctionName) → data_in (keys ++ name ∷ []) ≡ data_in keys ++ datum_of_name name ∷ []
one_more [] name = refl
one_more (k ∷ keys) name = ap (λ ds. datum_of_name k ∷ ds) (one_more keys name)

not_there : (b is_new : Bool) → is_new ≡ not b → is_new ≡ true → b ≡ false
not_there true is_new e new = absurd (false≢true (sym e ∙ new))
not_there false is_new e new = refl

there : (b is_new : Bool) → is_new ≡ not b → is_new ≡ false → b ≡ true
there true is_new e old = refl
there false is_new e old = absurd (false≢true (sym old ∙ e))

pub taken_apart : (name : FunctionName) (old new : List FunctionName) (is_new : Bool) → is_new ≡ not (list_any (equality.eq name) old) → new ≡ (if list_any (equality.eq name) old then old else old ++ name ∷ []) → is_new ≡ true
    → (HasNamesakes (data_in old) → ⊥) → HasNamesakes (data_in new) → ⊥
taken_apart name old new is_new says made added apart bad =
    let absent = not_there (list_any (equality.eq name) old) is_new says added in
    let behind = made ∙ ap (λ b. if b then old else old ++ name ∷ []) absent in
    stays_apart (data_in old) (datum_of_name name) (found_nowhere name old absent) apart (subst HasNamesakes (ap data_in behind ∙ one_more old name) bad)

-- the name that the attribute is, beside these
pub taken_twice : (name : FunctionName) (old : List FunctionName) (is_new : Bool) (names : List Datum) (symbol : Option Datum) (d : Datum) → is_new ≡ not (list_any (equality.eq name) old) → is_new ≡ false
    → names ≡ data_in old → symbol ≡ Some d → datum_of_name name ≡ d → HasNamesakes (names ++ with_name symbol [])
taken_twice name old is_new names symbol d says kept is named same =
    subst (λ o. HasNamesakes (names ++ with_name o [])) (sym named)
    (subst (λ ns. HasNamesakes (ns ++ d ∷ [])) (sym is)
    (subst (λ x. HasNamesakes (data_in old ++ x ∷ [])) same (becomes_namesake name old (there (list_any (equality.eq name) old) is_new says kept))))

-- ---- what a table answers

pub finds : (name : FunctionName) (keys : List FunctionName) (r : Option ℕ) (names : List Datum) (d : Datum) → r ≡ position (equality.eq name) keys → is_some r ≡ list_any (equality.eq name) keys → names ≡ data_in keys → datum_of_name name ≡ d
    → MatchOption r ((i : ℕ) → slice_get names i ≢ Some d) (λ i. slice_get names i ≡ Some d)
finds name keys None names d at found is same = λ i there.
    found_nowhere name keys (sym found) i (subst (λ ns. slice_get ns i ≡ Some (datum_of_name name)) is (there ∙ ap Some (sym same)))
finds name keys (Some i) names d at found is same = subst (λ ns. slice_get ns i ≡ Some d) (sym is) (found_at name keys i (sym at) ∙ ap Some same)
