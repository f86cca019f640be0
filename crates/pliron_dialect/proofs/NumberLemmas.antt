-- Numbers that are known.
use Rattle.std.proofs.Common.{◌≡◌, ℕ, zero, suc, ◌<◌, ◌≤◌, Bool, true, false, List, [], ◌∷◌, ◌++◌, length, take, map, Option, Some, None, IsSome, IsTrue, refl, ap, ap₂, sym, ◌∙◌, subst, arith}
use Rattle.std.proofs.lemmas.Option.{same_Some}
use Rattle.std.specs.Prelude.{ℤ, is_some, option_map, slice_index_or}
use Rattle.pliron_core.specs.declared.attrs.AttrObj.{AttrObj}
use Rattle.pliron_core.specs.declared.attrs.AttrObj.TheVariants.{Int}
use Rattle.pliron_laws.specs.Datum.{Head}
use Rattle.pliron_dialect.specs.Roles.{known_as, known_number_at, with_number, all_known, number_computed, complete}

-- ---- the numbers of the first operands

with_more : (n m : ℤ) (ns : List ℤ) (o : Option (List ℤ)) → o ≡ Some (ns ++ m ∷ []) → with_number (Some n) o ≡ Some (n ∷ ns ++ m ∷ [])
with_more n m ns o e = ap (with_number (Some n)) e

first_known : (o : Option ℤ) (p : Option (List ℤ)) (ns : List ℤ) → with_number o p ≡ Some ns → (n : ℤ) × (ms : List ℤ) × (o ≡ Some n) × (p ≡ Some ms) × (ns ≡ n ∷ ms)
first_known (Some n) (Some ms) ns e = (n, ms, refl, refl, sym (same_Some (n ∷ ms) ns e))
first_known (Some n) None ns e = grind arith
first_known None (Some ms) ns e = grind arith
first_known None None ns e = grind arith

-- one more that is known
pub more_known : (known : List (Option AttrObj)) (j : ℕ) (ns : List ℤ) (m : ℤ) → j < length known → all_known (take j known) ≡ Some ns → Some m ≡ known_number_at known j → all_known (take (suc j) known) ≡ Some (ns ++ m ∷ [])
more_known [] j ns m lt e f = absurd (omega (arith, lt))
more_known (a ∷ known) zero ns m lt e f =
    ap (λ z. with_number z (Some [])) (sym f) ∙ ap (λ z. Some (z ++ m ∷ [])) (same_Some [] ns e)
more_known (a ∷ known) (suc j) ns m lt e f =
    let p = first_known (known_as a) (all_known (take j known)) ns e in
    ap (λ z. with_number z (all_known (take (suc j) known))) p.2 ∙ ap (with_number (Some p.0)) (more_known known j p.1 m (omega (arith, lt)) p.3 f) ∙ ap (λ z. Some (z ++ m ∷ [])) (sym p.4)

-- one that is not
without : (o : Option ℤ) → with_number o None ≡ None
without None = refl
without (Some n) = refl

without_first : (p : Option (List ℤ)) → with_number None p ≡ None
without_first None = refl
without_first (Some ns) = refl

pub none_known : (known : List (Option AttrObj)) (j : ℕ) → j < length known → None ≡ known_number_at known j → all_known known ≡ None
none_known [] j lt f = absurd (omega (arith, lt))
none_known (a ∷ known) zero lt f = ap (λ z. with_number z (all_known known)) (sym f) ∙ without_first (all_known known)
none_known (a ∷ known) (suc j) lt f = ap (with_number (known_as a)) (none_known known j (omega (arith, lt)) f) ∙ without (known_as a)

-- ---- what is known of each

pub more_read : (known : List (Option AttrObj)) (j : ℕ) (m : Option ℤ) → j < length known → m ≡ known_number_at known j → map known_as (take (suc j) known) ≡ map known_as (take j known) ++ m ∷ []
more_read [] j m lt e = absurd (omega (arith, lt))
more_read (a ∷ known) zero m lt e = ap (λ x. x ∷ []) (sym e)
more_read (a ∷ known) (suc j) m lt e = ap (λ xs. known_as a ∷ xs) (more_read known j m (omega (arith, lt)) e)

-- ---- whether all are

-- where all are known, what is known is their numbers
pub known_numbers : (known : List (Option AttrObj)) (ns : List ℤ) → all_known known ≡ Some ns → map Some ns ≡ map known_as known
known_numbers [] ns e = ap (map Some) (sym (same_Some [] ns e))
known_numbers (a ∷ known) ns e =
    let p = first_known (known_as a) (all_known known) ns e in
    ap (map Some) p.4 ∙ ap₂ (λ x xs. x ∷ xs) (sym p.2) (known_numbers known p.1 p.3)

pub computed_all : (knows : Head → List (Option ℤ) → Option ℤ) (h : Head) (known : List (Option AttrObj)) → is_some (all_known known) ≡ true → knows h (map known_as known) ≡ number_computed (complete knows h) (all_known known)
computed_all knows h known e = by_option (all_known known) refl e
  where
    by_option : (o : Option (List ℤ)) → all_known known ≡ o → is_some o ≡ true → knows h (map known_as known) ≡ number_computed (complete knows h) o
    by_option None f g = grind arith
    by_option (Some ns) f g = ap (knows h) (sym (known_numbers known ns f))

pub computed_none : (knows : Head → List (Option ℤ) → Option ℤ) (h : Head) (known : List (Option AttrObj)) → is_some (all_known known) ≡ false → None ≡ number_computed (complete knows h) (all_known known)
computed_none knows h known e = by_option (all_known known) e
  where
    by_option : (o : Option (List ℤ)) → is_some o ≡ false → None ≡ number_computed (complete knows h) o
    by_option None g = refl
    by_option (Some ns) g = grind arith

some_there : (o : Option (List ℤ)) → IsSome o → (ns : List ℤ) × (o ≡ Some ns)
some_there None s = grind arith
some_there (Some ns) s = (ns, refl)

pub one_more_known : (known : List (Option AttrObj)) (j : ℕ) (m : ℤ) → j < length known → IsSome (all_known (take j known)) → Some m ≡ known_number_at known j → IsSome (all_known (take (suc j) known))
one_more_known known j m lt all one =
    let ns = some_there (all_known (take j known)) all in
    subst IsSome (sym (more_known known j ns.0 m lt ns.1 one)) refl

pub one_unknown : (known : List (Option AttrObj)) (j : ℕ) → j < length known → None ≡ known_number_at known j → false ≡ is_some (all_known known)
one_unknown known j lt e = ap is_some (sym (none_known known j lt e))
