-- What may become what, by sorts of data: what is whole stays, and poison is the least.
use Rattle.std.proofs.Common.{◌≡◌, inl, inr, ℕ, zero, suc, Bool, true, false, true≢false, List, [], ◌∷◌, take, drop, IsTrue, refl, sym, ap, ◌∙◌, subst, arith}
use Rattle.std.specs.Prelude.{pos, negsuc}
use Rattle.pliron_core.specs.declared.attrs.AttrObj.{AttrObj}
use Rattle.pliron_core.specs.declared.attrs.AttrObj.TheVariants.{Int, Text as Words}
use Rattle.pliron_laws.specs.Datum.{Datum, Empty, Number, Text, Join, datum_of, Move, Give, Visit, Goto, Leave, Emit, Trap}
use Rattle.pliron_dialect.specs.Roles.{fit_data, chain_of, nth_datum, first_datum}
use Rattle.pliron_dialect.specs.Counted.{values_of_edge, count_of, start_of}
use Rattle.pliron_theory_refinement.specs.Refinement.{IsPreorder, AllMayBecome, MoveMayBecome}
use Rattle.pliron_theory_llvm.specs.Llvm.{Llvm, meant, may_become, is_poison, IsFlatOnIntegers, elements_may}
use Rattle.pliron_theory_llvm.proofs.SameData.{both, parts, itself, same_is}

-- ---- sorts

abbrev is_chain : Datum → Bool
is_chain Empty = false
is_chain (Number n) = false
is_chain (Text s) = false
is_chain (Join a b) = true

constant_poison : (a : AttrObj) → is_poison (datum_of a) ≡ false
constant_poison (Int n) = refl
constant_poison (Words s) = refl

constant_chain : (a : AttrObj) → is_chain (datum_of a) ≡ false
constant_chain (Int n) = refl
constant_chain (Words s) = refl

pub no_poison : {P : Type 0} (d : Datum) → is_poison d ≡ false → d ≡ Empty → P
no_poison d other e = absurd (true≢false (sym (ap is_poison e) ∙ other))

no_chain : {P : Type 0} (d a b : Datum) → is_chain d ≡ false → d ≡ Join a b → P
no_chain d a b other e = absurd (true≢false (sym (ap is_chain e) ∙ other))

-- no constant is poison or a chain
pub meant_poison : (l : Llvm) (d : Datum) → meant l d ≡ Empty → d ≡ Empty
meant_poison l Empty e = refl
meant_poison l (Number (pos n)) e = no_poison (Number (pos n)) refl e
meant_poison l (Number (negsuc form)) e = no_poison (datum_of (l.constant form)) (constant_poison (l.constant form)) e
meant_poison l (Text s) e = no_poison (Text s) refl e
meant_poison l (Join a b) e = no_poison (Join a b) refl e

meant_chain : (l : Llvm) (d a b : Datum) → meant l d ≡ Join a b → d ≡ Join a b
meant_chain l Empty a b e = no_chain Empty a b refl e
meant_chain l (Number (pos n)) a b e = no_chain (Number (pos n)) a b refl e
meant_chain l (Number (negsuc form)) a b e = no_chain (datum_of (l.constant form)) a b (constant_chain (l.constant form)) e
meant_chain l (Text s) a b e = no_chain (Text s) a b refl e
meant_chain l (Join c d) a b e = e

abbrev pub AllMay : Llvm → List Datum → List Datum → Type 0
AllMay l ds es = AllMayBecome (may_become l) ds es

abbrev pub Moves : Llvm → Move → Move → Type 0
Moves l a b = MoveMayBecome (may_become l) (elements_may (may_become l)) a b

module _ (l : Llvm) (flat : IsFlatOnIntegers l.order) where
  -- ---- one datum

  pub become_itself : (d : Datum) → IsTrue (may_become l d d)
  become_itself d = flat.preorder.reflexive (meant l d)

  pub become_preorder : IsPreorder (may_become l)
  become_preorder = record { reflexive = become_itself; transitive = λ a b c h k. flat.preorder.transitive (meant l a) (meant l b) (meant l c) h k }

  pub poison_may : (d : Datum) → IsTrue (may_become l Empty d)
  poison_may d = flat.from_poison (meant l d)

  pub chain_stays : (a b e : Datum) → IsTrue (may_become l (Join a b) e) → e ≡ Join a b
  chain_stays a b e h = meant_chain l e a b (sym (flat.from_whole (Join a b) (meant l e) refl h))

  -- what is neither poison nor a chain becomes neither
  pub stays_no_poison : {P : Type 0} (d : Datum) → is_poison d ≡ false → IsTrue (may_become l d Empty) → P
  stays_no_poison d other h = no_poison d other (meant_poison l d (flat.to_poison (meant l d) h))

  pub stays_no_chain : {P : Type 0} (d a b : Datum) → is_poison d ≡ false → is_chain d ≡ false → IsTrue (may_become l d (Join a b)) → P
  stays_no_chain {P} d a b no_p no_c h = elim (flat.to_whole (meant l d) (Join a b) refl h) as (λ x. P) [ inl e ↦ no_poison d no_p (meant_poison l d e) | inr e ↦ no_chain d a b no_c (meant_chain l d a b e) ]

  -- ---- chains

  pub chain_may : (ds es : List Datum) → AllMay l ds es → IsTrue (elements_may (may_become l) (chain_of ds) (chain_of es))
  chain_may [] [] a = refl
  chain_may [] (e ∷ es) a = absurd a
  chain_may (d ∷ ds) [] a = absurd a
  chain_may (d ∷ ds) (e ∷ es) a = both (may_become l d e) (elements_may (may_become l) (chain_of ds) (chain_of es)) a.0 (chain_may ds es a.1)

  pub elements_itself : (d : Datum) → IsTrue (elements_may (may_become l) d d)
  elements_itself Empty = refl
  elements_itself (Number n) = itself (Number n)
  elements_itself (Text s) = itself (Text s)
  elements_itself (Join a b) = both (may_become l a a) (elements_may (may_become l) b b) (become_itself a) (elements_itself b)

  elements_transitive : (a b c : Datum) → IsTrue (elements_may (may_become l) a b) → IsTrue (elements_may (may_become l) b c) → IsTrue (elements_may (may_become l) a c)
  elements_transitive Empty b c h k = subst (λ z. IsTrue (elements_may (may_become l) z c)) (sym (same_is Empty b h)) k
  elements_transitive (Number n) b c h k = subst (λ z. IsTrue (elements_may (may_become l) z c)) (sym (same_is (Number n) b h)) k
  elements_transitive (Text s) b c h k = subst (λ z. IsTrue (elements_may (may_become l) z c)) (sym (same_is (Text s) b h)) k
  elements_transitive (Join a others) Empty c h k = grind arith
  elements_transitive (Join a others) (Number n) c h k = grind arith
  elements_transitive (Join a others) (Text s) c h k = grind arith
  elements_transitive (Join a others) (Join b bs) Empty h k = grind arith
  elements_transitive (Join a others) (Join b bs) (Number n) h k = grind arith
  elements_transitive (Join a others) (Join b bs) (Text s) h k = grind arith
  elements_transitive (Join a others) (Join b bs) (Join c cs) h k =
      let p = parts (may_become l a b) (elements_may (may_become l) others bs) h in
      let q = parts (may_become l b c) (elements_may (may_become l) bs cs) k in
      both (may_become l a c) (elements_may (may_become l) others cs) (become_preorder.transitive a b c p.0 q.0) (elements_transitive others bs cs p.1 q.1)

  pub elements_preorder : IsPreorder (elements_may (may_become l))
  elements_preorder = record { reflexive = elements_itself; transitive = elements_transitive }

  -- ---- lists

  pub all_itself : (ds : List Datum) → AllMay l ds ds
  all_itself [] = tt
  all_itself (d ∷ ds) = (become_itself d, all_itself ds)

  pub move_itself : (a : Move) → Moves l a a
  move_itself Trap = tt
  move_itself (Give ds) = all_itself ds
  move_itself (Visit i ds memo) = (refl, all_itself ds, refl)
  move_itself (Goto i ds) = (refl, all_itself ds)
  move_itself (Leave ds) = all_itself ds
  move_itself (Emit e memo) = (elements_itself e, refl)

  pub fit_poison : (n : ℕ) (es : List Datum) → AllMay l (fit_data n []) (fit_data n es)
  fit_poison zero es = tt
  fit_poison (suc n) [] = (poison_may Empty, fit_poison n [])
  fit_poison (suc n) (e ∷ es) = (poison_may e, fit_poison n es)

  pub fit_may : (n : ℕ) (ds es : List Datum) → AllMay l ds es → AllMay l (fit_data n ds) (fit_data n es)
  fit_may zero ds es a = tt
  fit_may (suc n) [] [] a = (poison_may Empty, fit_poison n [])
  fit_may (suc n) [] (e ∷ es) a = absurd a
  fit_may (suc n) (d ∷ ds) [] a = absurd a
  fit_may (suc n) (d ∷ ds) (e ∷ es) a = (a.0, fit_may n ds es a.1)

  pub nth_may : (ds es : List Datum) (i : ℕ) → AllMay l ds es → IsTrue (may_become l (nth_datum ds i) (nth_datum es i))
  nth_may [] [] i a = become_itself (nth_datum [] i)
  nth_may [] (e ∷ es) i a = absurd a
  nth_may (d ∷ ds) [] i a = absurd a
  nth_may (d ∷ ds) (e ∷ es) zero a = a.0
  nth_may (d ∷ ds) (e ∷ es) (suc i) a = nth_may ds es i a.1

  pub first_may : (ds es : List Datum) → AllMay l ds es → IsTrue (may_become l (first_datum ds) (first_datum es))
  first_may [] [] a = become_itself Empty
  first_may [] (e ∷ es) a = absurd a
  first_may (d ∷ ds) [] a = absurd a
  first_may (d ∷ ds) (e ∷ es) a = a.0

  take_may : (n : ℕ) (ds es : List Datum) → AllMay l ds es → AllMay l (take n ds) (take n es)
  take_may zero ds es a = tt
  take_may (suc n) [] [] a = tt
  take_may (suc n) [] (e ∷ es) a = absurd a
  take_may (suc n) (d ∷ ds) [] a = absurd a
  take_may (suc n) (d ∷ ds) (e ∷ es) a = (a.0, take_may n ds es a.1)

  drop_may : (n : ℕ) (ds es : List Datum) → AllMay l ds es → AllMay l (drop n ds) (drop n es)
  drop_may zero ds es a = a
  drop_may (suc n) [] [] a = tt
  drop_may (suc n) [] (e ∷ es) a = absurd a
  drop_may (suc n) (d ∷ ds) [] a = absurd a
  drop_may (suc n) (d ∷ ds) (e ∷ es) a = drop_may n ds es a.1

  pub edge_may : (ns : List ℕ) (i : ℕ) (ds es : List Datum) → AllMay l ds es → AllMay l (values_of_edge ns i ds) (values_of_edge ns i es)
  edge_may ns i ds es a = take_may (count_of ns i) _ _ (drop_may (start_of ns i) _ _ (drop_may 1 ds es a))
