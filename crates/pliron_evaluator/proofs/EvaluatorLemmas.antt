-- What the lists of the evaluator stand for.
use Rattle.std.proofs.Common.{◌≡◌, ◌≢◌, ℕ, suc, ◌<◌, ◌≤◌, ◌+◌, ◌-◌, if◌then◌else◌, cond, Bool, true, false, nat_eq, List, [], ◌∷◌, ◌++◌, length, get_or, take, drop, map, Option, Some, None, refl, sym, ap, ◌∙◌, arith, append_assoc}
use Rattle.std.proofs.lemmas.List.{drop_more, take_more, map-append, length-map, drop_all, drop-drop, append-nil}
use Rattle.std.specs.HashMap.{HashMap, get, Updates}
use Rattle.std.specs.Option.{option_map}
use Rattle.pliron_laws.specs.Datum.{Datum, Empty}
use Rattle.pliron_laws.specs.States.{Environment, environment_with, bind, prepend_optional, data_of}
use Rattle.pliron_evaluator.specs.declared.evaluator.values.Datum.{Datum as DatumValue}
use Rattle.pliron_evaluator.specs.Tiny.{fitted_or_empty}
use Rattle.pliron_evaluator.specs.Evaluator.{datum_of_value, environment_of}
use Rattle.pliron_dialect.specs.Roles.{first_datum}

-- at a place of a list
pub drop_at : {X : Type 0} (xs : List X) (i : ℕ) (x : X) → i < length xs → x ≡ get_or xs i x → drop i xs ≡ x ∷ drop (i + 1) xs
drop_at xs i x lt e = drop_more xs i x lt ∙ ap (λ z. z ∷ drop (i + 1) xs) (sym e)

pub take_at : {X : Type 0} (xs : List X) (i : ℕ) (x : X) → i < length xs → x ≡ get_or xs i x → take (i + 1) xs ≡ take i xs ++ x ∷ []
take_at xs i x lt e = take_more xs i x lt ∙ ap (λ z. take i xs ++ z ∷ []) (sym e)

same_question : (v w : ℕ) → nat_eq v w ≡ nat_eq w v
same_question v w = grind arith

chosen : (b c : Bool) (d : DatumValue) (o : Option DatumValue) → b ≡ c → option_map datum_of_value (cond b (Some d) o) ≡ (if c then Some (datum_of_value d) else option_map datum_of_value o)
chosen true c d o e = ap (λ z. if z then Some (datum_of_value d) else option_map datum_of_value o) e
chosen false c d o e = ap (λ z. if z then Some (datum_of_value d) else option_map datum_of_value o) e

-- what is put into the map is bound
pub bound_so : {S : Type 0} (m n : HashMap ℕ DatumValue S) (v : ℕ) (d x : DatumValue) → datum_of_value d ≡ datum_of_value x → Updates nat_eq m n v (Some d) → environment_of n ≡ environment_with (environment_of m) v (datum_of_value x)
unfolding environment_with
bound_so m n v d x copied updates =
    let each : (w : ℕ) → environment_of n w ≡ environment_with (environment_of m) v (datum_of_value d) w = λ w. ap (option_map datum_of_value) (updates.0 w) ∙ chosen (nat_eq v w) (nat_eq w v) d (get nat_eq m w) (same_question v w) in
    (λ i w. each w i) ∙ ap (environment_with (environment_of m) v) copied

-- one binding more
module _ {S : Type 0} where
  pub bind_more : (m n : HashMap ℕ DatumValue S) (vs : List ℕ) (ds : List DatumValue) (i v : ℕ) (x : DatumValue) → i < length vs → i < length ds → v ≡ get_or vs i v → x ≡ get_or ds i x → environment_of n ≡ environment_with (environment_of m) v (datum_of_value x) → bind (environment_of m) (drop i vs) (map datum_of_value (drop i ds)) ≡ bind (environment_of n) (drop (i + 1) vs) (map datum_of_value (drop (i + 1) ds))
  bind_more m n vs ds i v x lt lt' e f g =
      ap (λ z. bind (environment_of m) z (map datum_of_value (drop i ds))) (drop_at vs i v lt e)
      ∙ ap (λ z. bind (environment_of m) (v ∷ drop (i + 1) vs) (map datum_of_value z)) (drop_at ds i x lt' f)
      ∙ ap (λ z. bind z (drop (i + 1) vs) (map datum_of_value (drop (i + 1) ds))) (sym g)

pub bind_done : (env : Environment) (vs : List ℕ) (ds : List DatumValue) (i : ℕ) → length vs ≤ i → length ds ≤ i → bind env (drop i vs) (map datum_of_value (drop i ds)) ≡ Some env
bind_done env vs ds i le le' =
    ap (λ z. bind env z (map datum_of_value (drop i ds))) (drop_all i vs le) ∙ ap (λ z. bind env [] (map datum_of_value z)) (drop_all i ds le')

bind_unequal : (env : Environment) (vs : List ℕ) (ds : List Datum) → length vs ≢ length ds → bind env vs ds ≡ None
bind_unequal env [] [] n = absurd (n refl)
bind_unequal env [] (d ∷ ds) n = refl
bind_unequal env (v ∷ vs) [] n = refl
bind_unequal env (v ∷ vs) (d ∷ ds) n = bind_unequal (environment_with env v d) vs ds (λ e. n (ap suc e))

pub bind_refused : (env : Environment) (vs : List ℕ) (ds : List DatumValue) → length vs ≢ length ds → bind env vs (map datum_of_value ds) ≡ None
bind_refused env vs ds n = bind_unequal env vs (map datum_of_value ds) (λ e. n (e ∙ length-map ds datum_of_value))

-- the data found so far, and then those of the rest
abbrev pub prepend : List Datum → Option (List Datum) → Option (List Datum)
prepend ds None = None
prepend ds (Some es) = Some (ds ++ es)

found_first : (ds : List Datum) (d : Datum) (o : Option (List Datum)) → prepend ds (prepend_optional (Some d) o) ≡ prepend (ds ++ d ∷ []) o
found_first ds d None = refl
found_first ds d (Some es) = ap Some (sym (append_assoc ds (d ∷ []) es))

pub data_more : (env : Environment) (vs : List ℕ) (i v : ℕ) (d : DatumValue) (ds after : List DatumValue) → i < length vs → v ≡ get_or vs i v → Some (datum_of_value d) ≡ env v → after ≡ ds ++ d ∷ [] → prepend (map datum_of_value ds) (data_of env (drop i vs)) ≡ prepend (map datum_of_value after) (data_of env (drop (i + 1) vs))
data_more env vs i v d ds after lt e found g =
    ap (λ z. prepend (map datum_of_value ds) (data_of env z)) (drop_at vs i v lt e)
    ∙ ap (λ o. prepend (map datum_of_value ds) (prepend_optional o (data_of env (drop (i + 1) vs)))) (sym found)
    ∙ found_first (map datum_of_value ds) (datum_of_value d) (data_of env (drop (i + 1) vs))
    ∙ ap (λ z. prepend z (data_of env (drop (i + 1) vs))) (sym (map-append datum_of_value ds (d ∷ [])))
    ∙ ap (λ z. prepend (map datum_of_value z) (data_of env (drop (i + 1) vs))) (sym g)

-- a datum at a place of the input, or none
pub datum_in : (xs : List DatumValue) (i : ℕ) (x d : DatumValue) → i < length xs → x ≡ get_or xs i x → datum_of_value d ≡ datum_of_value x → datum_of_value d ≡ first_datum (map datum_of_value (drop i xs))
datum_in xs i x d lt e copied = copied ∙ sym (ap (λ z. first_datum (map datum_of_value z)) (drop_at xs i x lt e))

pub no_datum : (xs : List DatumValue) (i : ℕ) → length xs ≤ i → Empty ≡ first_datum (map datum_of_value (drop i xs))
no_datum xs i le = sym (ap (λ z. first_datum (map datum_of_value z)) (drop_all i xs le))

-- one copy more
pub copies_more : (xs copies after : List DatumValue) (i : ℕ) (x d : DatumValue) → i < length xs → x ≡ get_or xs i x → datum_of_value d ≡ datum_of_value x → after ≡ copies ++ d ∷ [] → map datum_of_value copies ≡ map datum_of_value (take i xs) → map datum_of_value after ≡ map datum_of_value (take (i + 1) xs)
copies_more xs copies after i x d lt e copied g so_far =
    ap (map datum_of_value) g ∙ map-append datum_of_value copies (d ∷ []) ∙ ap (λ z. z ++ datum_of_value d ∷ []) so_far ∙ ap (λ z. map datum_of_value (take i xs) ++ z ∷ []) copied ∙ sym (map-append datum_of_value (take i xs) (x ∷ [])) ∙ ap (map datum_of_value) (sym (take_at xs i x lt e))

drop_one : (xs : List DatumValue) → drop 1 (map datum_of_value xs) ≡ map datum_of_value (drop 1 xs)
drop_one [] = refl
drop_one (x ∷ xs) = refl

pub tiny_begins : (n : ℕ) (ds : List Datum) → fitted_or_empty (suc n) ds ≡ first_datum ds ∷ fitted_or_empty n (drop 1 ds)
tiny_begins n [] = refl
tiny_begins n (d ∷ ds) = refl

-- data that are cut or filled, datum by datum
module _ (fit : ℕ → List Datum → List Datum) (first : List Datum → Datum) where
  pub fitted_more : ((n : ℕ) (ds : List Datum) → fit (suc n) ds ≡ first ds ∷ fit n (drop 1 ds)) → (n i : ℕ) (xs ds after : List DatumValue) (d : DatumValue) → i < n → datum_of_value d ≡ first (map datum_of_value (drop i xs)) → after ≡ ds ++ d ∷ [] → map datum_of_value ds ++ fit (n - i) (map datum_of_value (drop i xs)) ≡ map datum_of_value after ++ fit (n - (i + 1)) (map datum_of_value (drop (i + 1) xs))
  fitted_more begins n i xs ds after d lt here g =
      let count : n - i ≡ suc (n - (i + 1)) = omega arith in
      let further : drop 1 (map datum_of_value (drop i xs)) ≡ map datum_of_value (drop (i + 1) xs) = drop_one (drop i xs) ∙ ap (map datum_of_value) (drop-drop 1 i xs) in
      ap (λ z. map datum_of_value ds ++ fit z (map datum_of_value (drop i xs))) count
      ∙ ap (λ z. map datum_of_value ds ++ z) (begins (n - (i + 1)) (map datum_of_value (drop i xs)))
      ∙ ap (λ z. map datum_of_value ds ++ (z ∷ fit (n - (i + 1)) (drop 1 (map datum_of_value (drop i xs))))) (sym here)
      ∙ ap (λ z. map datum_of_value ds ++ (datum_of_value d ∷ fit (n - (i + 1)) z)) further
      ∙ sym (append_assoc (map datum_of_value ds) (datum_of_value d ∷ []) (fit (n - (i + 1)) (map datum_of_value (drop (i + 1) xs))))
      ∙ ap (λ z. z ++ fit (n - (i + 1)) (map datum_of_value (drop (i + 1) xs))) (sym (map-append datum_of_value ds (d ∷ [])))
      ∙ ap (λ z. map datum_of_value z ++ fit (n - (i + 1)) (map datum_of_value (drop (i + 1) xs))) (sym g)

  pub fitted_done : ((ds : List Datum) → fit 0 ds ≡ []) → (n i : ℕ) (xs ds : List DatumValue) → n ≤ i → map datum_of_value ds ++ fit (n - i) (map datum_of_value (drop i xs)) ≡ map datum_of_value ds
  fitted_done ends n i xs ds le =
      let count : n - i ≡ 0 = omega arith in
      ap (λ z. map datum_of_value ds ++ fit z (map datum_of_value (drop i xs))) count ∙ ap (λ z. map datum_of_value ds ++ z) (ends (map datum_of_value (drop i xs))) ∙ append-nil (map datum_of_value ds)
