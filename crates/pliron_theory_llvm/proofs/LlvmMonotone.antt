-- LLVM's operations are monotone: where an operand is poison, its becoming anything makes a result no less defined.
use Rattle.std.proofs.Common.{◌≡◌, ◌⊎◌, inl, inr, ℕ, zero, suc, ◌&&◌, ◌||◌, nat_eq, Bool, true, false, true≢false, List, [], ◌∷◌, map, Option, Some, None, IsTrue, refl, sym, ap, ap₂, ◌∙◌, subst, arith}
use Rattle.std.specs.Prelude.{ℤ, pos}
use Rattle.std.specs.Option.{option_map}
use Rattle.pliron_core.specs.declared.attrs.Head.{Head}
use Rattle.pliron_core.specs.declared.attrs.AttrObj.{AttrObj}
use Rattle.pliron_laws.specs.Datum.{Datum, Empty, Number, Text, Join, datum_of, Shape, Move, Give, Leave}
use Rattle.pliron_bits.specs.declared.operators.BinaryOperator.{BinaryOperator}
use Rattle.pliron_bits.specs.declared.operators.BinaryOperator.TheVariants.{Add, Subtract, Multiply, UnsignedDivide, SignedDivide, UnsignedRemainder, SignedRemainder, ShiftLeft, LogicalShiftRight, ArithmeticShiftRight, And, Or, Xor, UnsignedMinimum, SignedMinimum, UnsignedMaximum, SignedMaximum, UnsignedDivideUp, SignedDivideUp, SignedDivideDown}
use Rattle.pliron_bits.specs.Operators.{binary, predicate_of_number}
use Rattle.pliron_bits.specs.declared.operators.Cast.{Cast as CastKind}
use Rattle.pliron_dialect.specs.declared.form.Counting.TheVariants.{OfEach}
use Rattle.pliron_dialect.specs.Roles.{number_of, fit_data, data_in, first_datum, first_attribute, effect_of, edge_chosen, edge_counts_of, region_answer, fork_answer, effect_act}
use Rattle.pliron_dialect_mlir.specs.declared.kind.Class.{Class}
use Rattle.pliron_dialect_mlir.specs.declared.kind.Class.TheVariants.{Constant, Select, Opaque, Jump, Branch, Switch, Leave as LeaveClass, Unreachable, Effect, Local, Call, Regions, Root, Function, Module, Fork, Compare, Cast, Binary}
use Rattle.pliron_dialect_mlir.specs.ClassNumbers.{class_of_number}
use Rattle.pliron_dialect_mlir.specs.Data.{is_width, bits_of_width, bits_at, some_if, truth, is_one, number}
use Rattle.pliron_dialect_mlir.specs.Heads.{attribute_at, width_at, flags_at}
use Rattle.pliron_dialect_mlir.specs.Classes.{computed_by, compared_by, cast_by, of_one, of_two, cast_of, truth_of_two, branch_edge, switch_edge}
use Rattle.pliron_theory_refinement.specs.Refinement.{ActsMonotonely}
use Rattle.pliron_theory_llvm.specs.Llvm.{Llvm, meant, may_become, is_poison, IsFlatOnIntegers, or_poison, computed_move, may_be, is_negative_one, is_least, division_fails, operator_fails, select_result, trap_if, goes_by, is_undefined, llvm_act, act_by_class, llvm, elements_may, IsMonotone}
use Rattle.pliron_theory_llvm.proofs.SameData.{both}
use Rattle.pliron_theory_llvm.proofs.LlvmOrder.{AllMay, Moves, no_poison, become_itself, poison_may, chain_stays, stays_no_poison, stays_no_chain, chain_may, all_itself, move_itself, fit_poison, fit_may, nth_may, first_may, edge_may}

-- ---- no integer of any width

number_zero : (w : ℕ) → nat_eq 0 (suc w) ≡ false
number_zero w = grind arith

no_bits : (w : ℕ) → bits_at w (pos 0) ≡ None
no_bits zero = refl
no_bits (suc w) = of_width (is_width (suc w)) (nat_eq 0 (suc w)) _ (number_zero w)
  where
    of_width : (x y z : Bool) → y ≡ false → some_if {A = ℕ} (x && (y && z)) 0 ≡ None
    of_width false y z e = refl
    of_width true true z e = absurd (true≢false e)
    of_width true false z e = refl

-- ---- undefined behaviour

trap_may : (l : Llvm) (f f' : Bool) (x y : Move) → (f ≡ false → f' ≡ false) → Moves l x y → Moves l (trap_if f x) (trap_if f' y)
trap_may l true f' x y g k = tt
trap_may l false true x y g k = absurd (true≢false (g refl))
trap_may l false false x y g k = k

weaken : (s p a b p' a' b' : Bool) → (p ≡ false → p' ≡ false) → (a ≡ false → a' ≡ false) → (b ≡ false → b' ≡ false) → (p || (s && (a && b))) ≡ false → (p' || (s && (a' && b'))) ≡ false
weaken s true a b p' a' b' f g h e = absurd (true≢false e)
weaken false false a b p' a' b' f g h e = subst (λ z. (z || false) ≡ false) (sym (f refl)) refl
weaken true false true true p' a' b' f g h e = absurd (true≢false e)
weaken true false false b p' a' b' f g h e = subst (λ z. (z || (a' && b')) ≡ false) (sym (f refl)) (subst (λ z. (z && b') ≡ false) (sym (g refl)) refl)
weaken true false true false p' a' b' f g h e = subst (λ z. (z || (a' && b')) ≡ false) (sym (f refl)) (subst (λ z. (a' && z) ≡ false) (sym (h refl)) (none a'))
  where
    none : (x : Bool) → (x && false) ≡ false
    none true = refl
    none false = refl

module _ (l : Llvm) (flat : IsFlatOnIntegers l.order) where
  -- ---- integers

  -- a datum is no integer, or means the same afterwards
  meant_bits : (w : ℕ) (d e : Datum) → IsTrue (may_become l d e) → (bits_at w (number_of (meant l d)) ≡ None) ⊎ (meant l d ≡ meant l e)
  meant_bits w d e h = by_sort (meant l d) h
    where
      by_sort : (x : Datum) → IsTrue (l.order x (meant l e)) → (bits_at w (number_of x) ≡ None) ⊎ (x ≡ meant l e)
      by_sort Empty k = inl (no_bits w)
      by_sort (Number n) k = inr (flat.from_whole (Number n) (meant l e) refl k)
      by_sort (Text s) k = inl (no_bits w)
      by_sort (Join a b) k = inl (no_bits w)

  abbrev of_bits_two : (w : ℕ) (f : ℕ → ℕ → Option ℕ) (g : ℕ → ℤ) (x y : Datum) → Datum
  of_bits_two w f g x y = or_poison (option_map g (of_two f (bits_at w (number_of x)) (bits_at w (number_of y))))

  abbrev of_bits_one : (w : ℕ) (f : ℕ → Option ℕ) (g : ℕ → ℤ) (x : Datum) → Datum
  of_bits_one w f g x = or_poison (option_map g (of_one f (bits_at w (number_of x))))

  first_no_bits : (f : ℕ → ℕ → Option ℕ) (g : ℕ → ℤ) (o p : Option ℕ) → o ≡ None → or_poison (option_map g (of_two f o p)) ≡ Empty
  first_no_bits f g None p e = refl
  first_no_bits f g (Some a) p e = ap (λ z. or_poison (option_map g (of_two f z p))) e

  second_no_bits : (f : ℕ → ℕ → Option ℕ) (g : ℕ → ℤ) (o p : Option ℕ) → p ≡ None → or_poison (option_map g (of_two f o p)) ≡ Empty
  second_no_bits f g None p e = refl
  second_no_bits f g (Some a) p e = ap (λ z. or_poison (option_map g (of_two f (Some a) z))) e

  poisoned : (x y : Datum) → x ≡ Empty → IsTrue (may_become l x y)
  poisoned x y e = subst (λ z. IsTrue (may_become l z y)) (sym e) (poison_may l flat y)

  two_may : (w : ℕ) (f : ℕ → ℕ → Option ℕ) (g : ℕ → ℤ) (d d' e e' : Datum) → IsTrue (may_become l d e) → IsTrue (may_become l d' e') → IsTrue (may_become l (of_bits_two w f g (meant l d) (meant l d')) (of_bits_two w f g (meant l e) (meant l e')))
  two_may w f g d d' e e' h h' = by_first (meant_bits w d e h) (meant_bits w d' e' h')
    where
      by_first : (bits_at w (number_of (meant l d)) ≡ None) ⊎ (meant l d ≡ meant l e) → (bits_at w (number_of (meant l d')) ≡ None) ⊎ (meant l d' ≡ meant l e') → IsTrue (may_become l (of_bits_two w f g (meant l d) (meant l d')) (of_bits_two w f g (meant l e) (meant l e')))
      by_first (inl p) q = poisoned _ _ (first_no_bits f g (bits_at w (number_of (meant l d))) (bits_at w (number_of (meant l d'))) p)
      by_first (inr p) (inl q) = poisoned _ _ (second_no_bits f g (bits_at w (number_of (meant l d))) (bits_at w (number_of (meant l d'))) q)
      by_first (inr p) (inr q) = subst (λ z. IsTrue (may_become l (of_bits_two w f g (meant l d) (meant l d')) z)) (ap₂ (of_bits_two w f g) p q) (become_itself l flat (of_bits_two w f g (meant l d) (meant l d')))

  one_may : (w : ℕ) (f : ℕ → Option ℕ) (g : ℕ → ℤ) (d e : Datum) → IsTrue (may_become l d e) → IsTrue (may_become l (of_bits_one w f g (meant l d)) (of_bits_one w f g (meant l e)))
  one_may w f g d e h = by (meant_bits w d e h)
    where
      by : (bits_at w (number_of (meant l d)) ≡ None) ⊎ (meant l d ≡ meant l e) → IsTrue (may_become l (of_bits_one w f g (meant l d)) (of_bits_one w f g (meant l e)))
      by (inl p) = poisoned _ _ (ap (λ o. or_poison (option_map g (of_one f o))) p)
      by (inr p) = subst (λ z. IsTrue (may_become l (of_bits_one w f g (meant l d)) z)) (ap (of_bits_one w f g) p) (become_itself l flat (of_bits_one w f g (meant l d)))

  binary_may : (operator : BinaryOperator) (h : Head) (ds es : List Datum) → AllMay l ds es → Moves l (computed_move l (computed_by operator) h ds) (computed_move l (computed_by operator) h es)
  binary_may operator h [] [] a = (poison_may l flat Empty, tt)
  binary_may operator h [] (e ∷ es) a = absurd a
  binary_may operator h (d ∷ ds) [] a = absurd a
  binary_may operator h (d ∷ []) (e ∷ []) a = (poison_may l flat Empty, tt)
  binary_may operator h (d ∷ []) (e ∷ e' ∷ es) a = absurd a.1
  binary_may operator h (d ∷ d' ∷ ds) (e ∷ []) a = absurd a.1
  binary_may operator h (d ∷ d' ∷ []) (e ∷ e' ∷ []) a = (two_may (width_at h.attrs 0) (binary operator (flags_at h.attrs 1) (bits_of_width (width_at h.attrs 0))) (number (width_at h.attrs 0)) d d' e e' a.0 a.1.0, tt)
  binary_may operator h (d ∷ d' ∷ []) (e ∷ e' ∷ e'' ∷ es) a = absurd a.1.1
  binary_may operator h (d ∷ d' ∷ d'' ∷ ds) (e ∷ e' ∷ []) a = absurd a.1.1
  binary_may operator h (d ∷ d' ∷ d'' ∷ ds) (e ∷ e' ∷ e'' ∷ es) a = (poison_may l flat Empty, tt)

  compare_may : (h : Head) (ds es : List Datum) → AllMay l ds es → Moves l (computed_move l compared_by h ds) (computed_move l compared_by h es)
  compare_may h [] [] a = (poison_may l flat Empty, tt)
  compare_may h [] (e ∷ es) a = absurd a
  compare_may h (d ∷ ds) [] a = absurd a
  compare_may h (d ∷ []) (e ∷ []) a = (poison_may l flat Empty, tt)
  compare_may h (d ∷ []) (e ∷ e' ∷ es) a = absurd a.1
  compare_may h (d ∷ d' ∷ ds) (e ∷ []) a = absurd a.1
  compare_may h (d ∷ d' ∷ []) (e ∷ e' ∷ []) a = (two_may (width_at h.attrs 0) (truth_of_two (predicate_of_number (attribute_at h.attrs 1)) (bits_of_width (width_at h.attrs 0))) (number 1) d d' e e' a.0 a.1.0, tt)
  compare_may h (d ∷ d' ∷ []) (e ∷ e' ∷ e'' ∷ es) a = absurd a.1.1
  compare_may h (d ∷ d' ∷ d'' ∷ ds) (e ∷ e' ∷ []) a = absurd a.1.1
  compare_may h (d ∷ d' ∷ d'' ∷ ds) (e ∷ e' ∷ e'' ∷ es) a = (poison_may l flat Empty, tt)

  cast_may : (cast : CastKind) (h : Head) (ds es : List Datum) → AllMay l ds es → Moves l (computed_move l (cast_by cast) h ds) (computed_move l (cast_by cast) h es)
  cast_may cast h [] [] a = (poison_may l flat Empty, tt)
  cast_may cast h [] (e ∷ es) a = absurd a
  cast_may cast h (d ∷ ds) [] a = absurd a
  cast_may cast h (d ∷ []) (e ∷ []) a = (one_may (width_at h.attrs 0) (cast_of cast (flags_at h.attrs 2) (width_at h.attrs 0) (width_at h.attrs 1)) (number (width_at h.attrs 1)) d e a.0, tt)
  cast_may cast h (d ∷ []) (e ∷ e' ∷ es) a = absurd a.1
  cast_may cast h (d ∷ d' ∷ ds) (e ∷ []) a = absurd a.1
  cast_may cast h (d ∷ d' ∷ ds) (e ∷ e' ∷ es) a = (poison_may l flat Empty, tt)

  -- ---- divisions

  may_be_less : (property : ℕ → Bool) (w : ℕ) (d e : Datum) → IsTrue (may_become l d e) → may_be property w (meant l d) ≡ false → may_be property w (meant l e) ≡ false
  may_be_less property w d e h k = by_sort (meant l d) h k
    where
      of_text : (s : List ℕ) (y : Datum) → IsTrue (l.order (Text s) y) → may_be property w y ≡ false
      of_text s Empty m = no_poison (Text s) refl (flat.to_poison (Text s) m)
      of_text s (Number n) m = elim (flat.to_whole (Text s) (Number n) refl m) as (λ x. may_be property w (Number n) ≡ false) [ inl q ↦ no_poison (Text s) refl q | inr q ↦ ap (may_be property w) (sym q) ]
      of_text s (Text t) m = refl
      of_text s (Join a b) m = refl

      by_sort : (x : Datum) → IsTrue (l.order x (meant l e)) → may_be property w x ≡ false → may_be property w (meant l e) ≡ false
      by_sort Empty m n = absurd (true≢false n)
      by_sort (Number n) m p = subst (λ z. may_be property w z ≡ false) (flat.from_whole (Number n) (meant l e) refl m) p
      by_sort (Text s) m p = of_text s (meant l e) m
      by_sort (Join a b) m p = subst (λ z. may_be property w z ≡ false) (flat.from_whole (Join a b) (meant l e) refl m) p

  divides_still : (is_signed : Bool) (w : ℕ) (ds es : List Datum) → AllMay l ds es → division_fails is_signed w (map (meant l) ds) ≡ false → division_fails is_signed w (map (meant l) es) ≡ false
  divides_still is_signed w [] [] a k = refl
  divides_still is_signed w [] (e ∷ es) a k = absurd a
  divides_still is_signed w (d ∷ ds) [] a k = absurd a
  divides_still is_signed w (d ∷ []) (e ∷ []) a k = refl
  divides_still is_signed w (d ∷ []) (e ∷ e' ∷ es) a k = absurd a.1
  divides_still is_signed w (d ∷ d' ∷ ds) (e ∷ []) a k = absurd a.1
  divides_still is_signed w (d ∷ d' ∷ []) (e ∷ e' ∷ []) a k =
      weaken is_signed (may_be (nat_eq 0) w (meant l d')) (may_be (is_negative_one w) w (meant l d')) (may_be (is_least w) w (meant l d)) (may_be (nat_eq 0) w (meant l e')) (may_be (is_negative_one w) w (meant l e')) (may_be (is_least w) w (meant l e))
      (may_be_less (nat_eq 0) w d' e' a.1.0) (may_be_less (is_negative_one w) w d' e' a.1.0) (may_be_less (is_least w) w d e a.0) k
  divides_still is_signed w (d ∷ d' ∷ []) (e ∷ e' ∷ e'' ∷ es) a k = absurd a.1.1
  divides_still is_signed w (d ∷ d' ∷ d'' ∷ ds) (e ∷ e' ∷ []) a k = absurd a.1.1
  divides_still is_signed w (d ∷ d' ∷ d'' ∷ ds) (e ∷ e' ∷ e'' ∷ es) a k = refl

  fails_still : (o : BinaryOperator) (w : ℕ) (ds es : List Datum) → AllMay l ds es → operator_fails o w (map (meant l) ds) ≡ false → operator_fails o w (map (meant l) es) ≡ false
  fails_still UnsignedDivide w ds es a k = divides_still false w ds es a k
  fails_still UnsignedDivideUp w ds es a k = divides_still false w ds es a k
  fails_still UnsignedRemainder w ds es a k = divides_still false w ds es a k
  fails_still SignedDivide w ds es a k = divides_still true w ds es a k
  fails_still SignedDivideUp w ds es a k = divides_still true w ds es a k
  fails_still SignedDivideDown w ds es a k = divides_still true w ds es a k
  fails_still SignedRemainder w ds es a k = divides_still true w ds es a k
  fails_still Add w ds es a k = refl
  fails_still Subtract w ds es a k = refl
  fails_still Multiply w ds es a k = refl
  fails_still ShiftLeft w ds es a k = refl
  fails_still LogicalShiftRight w ds es a k = refl
  fails_still ArithmeticShiftRight w ds es a k = refl
  fails_still And w ds es a k = refl
  fails_still Or w ds es a k = refl
  fails_still Xor w ds es a k = refl
  fails_still UnsignedMinimum w ds es a k = refl
  fails_still SignedMinimum w ds es a k = refl
  fails_still UnsignedMaximum w ds es a k = refl
  fails_still SignedMaximum w ds es a k = refl

  -- ---- choices

  picked_may : (ds es : List Datum) (o : Option Bool) → AllMay l ds es → IsTrue (may_become l (select_result ds o) (select_result es o))
  picked_may ds es (Some true) a = nth_may l flat ds es 1 a
  picked_may ds es (Some false) a = nth_may l flat ds es 2 a
  picked_may ds es None a = poison_may l flat Empty

  select_may : (ds es : List Datum) → AllMay l ds es → IsTrue (may_become l (select_result ds (truth (number_of (meant l (first_datum ds))))) (select_result es (truth (number_of (meant l (first_datum es))))))
  select_may ds es a = by (meant_bits 1 (first_datum ds) (first_datum es) (first_may l flat ds es a))
    where
      by : (bits_at 1 (number_of (meant l (first_datum ds))) ≡ None) ⊎ (meant l (first_datum ds) ≡ meant l (first_datum es)) → IsTrue (may_become l (select_result ds (truth (number_of (meant l (first_datum ds))))) (select_result es (truth (number_of (meant l (first_datum es))))))
      by (inl p) = poisoned _ _ (ap (λ o. select_result ds (option_map is_one o)) p)
      by (inr p) = subst (λ z. IsTrue (may_become l (select_result ds (truth (number_of (meant l (first_datum ds))))) (select_result es (truth (number_of z))))) p (picked_may ds es (truth (number_of (meant l (first_datum ds)))) a)

  goes_may : (choose : ℕ → List AttrObj → ℤ → Option ℕ) (s : Shape) (ds es : List Datum) → AllMay l ds es → Moves l (goes_by l choose s ds (meant l (first_datum ds))) (goes_by l choose s es (meant l (first_datum es)))
  goes_may choose s ds es a = by_sort (meant l (first_datum ds)) (first_may l flat ds es a)
    where
      by_sort : (x : Datum) → IsTrue (l.order x (meant l (first_datum es))) → Moves l (goes_by l choose s ds x) (goes_by l choose s es (meant l (first_datum es)))
      by_sort Empty h = tt
      by_sort (Text t) h = tt
      by_sort (Join x y) h = tt
      by_sort (Number n) h = subst (λ z. Moves l (goes_by l choose s ds (Number n)) (goes_by l choose s es z)) (flat.from_whole (Number n) (meant l (first_datum es)) refl h) (refl, edge_may l flat (edge_counts_of OfEach s) (edge_chosen l.value OfEach choose s (Number n ∷ [])) ds es a)

  -- ---- answers of the world

  effect_may : (h : Head) (ds es : List Datum) → AllMay l ds es → IsTrue (elements_may (may_become l) (effect_of h ds) (effect_of h es))
  effect_may h ds es a = both _ _ (become_itself l flat (Number (pos h.kind))) (both _ _ (become_itself l flat _) (chain_may l flat ds es a))

  answered_may : (n : ℕ) (ds es : List Datum) → AllMay l ds es → AllMay l (fit_data n (data_in (first_datum ds))) (fit_data n (data_in (first_datum es)))
  answered_may n ds es a = by_sort (first_datum ds) (first_may l flat ds es a)
    where
      by_sort : (x : Datum) → IsTrue (may_become l x (first_datum es)) → AllMay l (fit_data n (data_in x)) (fit_data n (data_in (first_datum es)))
      by_sort Empty h = fit_poison l flat n _
      by_sort (Number m) h = fit_poison l flat n _
      by_sort (Text t) h = fit_poison l flat n _
      by_sort (Join x y) h = subst (λ z. AllMay l (fit_data n (data_in (Join x y))) (fit_data n (data_in z))) (sym (chain_stays l flat x y (first_datum es) h)) (all_itself l flat _)

  -- the answer that says what is next: poison, the same chain, or no chain
  next_may : (f : Datum → Move) (otherwise : Move) → ((n : ℤ) → f (Number n) ≡ otherwise) → ((t : List ℕ) → f (Text t) ≡ otherwise) → (x y : Datum) → IsTrue (may_become l x y) → Moves l (trap_if (is_poison x) (f x)) (trap_if (is_poison y) (f y))
  next_may f otherwise numbers texts x y h = by_sort x y h
    where
      alike : (a b : Move) → a ≡ otherwise → b ≡ otherwise → Moves l a b
      alike a b p q = subst (λ z. Moves l z b) (sym p) (subst (λ z. Moves l otherwise z) (sym q) (move_itself l flat otherwise))

      by_sort : (x y : Datum) → IsTrue (may_become l x y) → Moves l (trap_if (is_poison x) (f x)) (trap_if (is_poison y) (f y))
      by_sort Empty y h = tt
      by_sort (Join a b) y h = subst (λ z. Moves l (f (Join a b)) (trap_if (is_poison z) (f z))) (sym (chain_stays l flat a b y h)) (move_itself l flat (f (Join a b)))
      by_sort (Number n) Empty h = stays_no_poison l flat (Number n) refl h
      by_sort (Number n) (Join a b) h = stays_no_chain l flat (Number n) a b refl refl h
      by_sort (Number n) (Number m) h = alike _ _ (numbers n) (numbers m)
      by_sort (Number n) (Text t) h = alike _ _ (numbers n) (texts t)
      by_sort (Text s) Empty h = stays_no_poison l flat (Text s) refl h
      by_sort (Text s) (Join a b) h = stays_no_chain l flat (Text s) a b refl refl h
      by_sort (Text s) (Number m) h = alike _ _ (texts s) (numbers m)
      by_sort (Text s) (Text t) h = alike _ _ (texts s) (texts t)

  region_next : (s : Shape) (ds es : List Datum) → AllMay l ds es → Moves l (trap_if (is_poison (first_datum ds)) (region_answer s (first_datum ds))) (trap_if (is_poison (first_datum es)) (region_answer s (first_datum es)))
  region_next s ds es a = next_may (region_answer s) (Give (fit_data s.results [])) (λ n. refl) (λ t. refl) (first_datum ds) (first_datum es) (first_may l flat ds es a)

  fork_next : (s : Shape) (ds es : List Datum) → AllMay l ds es → Moves l (trap_if (is_poison (first_datum ds)) (fork_answer s (first_datum ds))) (trap_if (is_poison (first_datum es)) (fork_answer s (first_datum es)))
  fork_next s ds es a = next_may (fork_answer s) (Leave []) (λ n. refl) (λ t. refl) (first_datum ds) (first_datum es) (first_may l flat ds es a)

-- ---- the classes

module _ (l : Llvm) (mono : IsMonotone l) where
  effect_acts : (s : Shape) (memo : Datum) (ds es : List Datum) → AllMay l ds es → Moves l (trap_if (is_undefined l s memo ds) (effect_act s memo ds)) (trap_if (is_undefined l s memo es) (effect_act s memo es))
  effect_acts s Empty ds es a = trap_may l (l.undefined s.head ds) (l.undefined s.head es) _ _ (mono.undefined s.head ds es a) (effect_may l mono.flat s.head ds es a, refl)
  effect_acts s (Number n) ds es a = answered_may l mono.flat s.results ds es a
  effect_acts s (Text t) ds es a = answered_may l mono.flat s.results ds es a
  effect_acts s (Join x y) ds es a = answered_may l mono.flat s.results ds es a

  root_acts : (s : Shape) (memo : Datum) (ds es : List Datum) → AllMay l ds es → Moves l (llvm_act l Root s memo ds) (llvm_act l Root s memo es)
  root_acts s Empty ds es a = (refl, fit_may l mono.flat _ ds es a, refl)
  root_acts s (Number n) ds es a = a
  root_acts s (Text t) ds es a = a
  root_acts s (Join x y) ds es a = a

  plain : (x : Bool) → (x || false) ≡ x
  plain true = refl
  plain false = refl

  -- before anything is asked
  asks_may : (s : Shape) (ds es : List Datum) (x y : Move) → AllMay l ds es → Moves l x y → Moves l (trap_if (l.undefined s.head ds || false) x) (trap_if (l.undefined s.head es || false) y)
  asks_may s ds es x y a k = trap_may l _ _ x y (λ e. plain (l.undefined s.head es) ∙ mono.undefined s.head ds es a (sym (plain (l.undefined s.head ds)) ∙ e)) k

  acts : (class : Class) (s : Shape) (memo : Datum) (ds es : List Datum) → AllMay l ds es → Moves l (llvm_act l class s memo ds) (llvm_act l class s memo es)
  acts Constant s memo ds es a = all_itself l mono.flat (datum_of (first_attribute s.head.attrs) ∷ [])
  acts (Binary operator) s memo ds es a = trap_may l _ _ _ _ (fails_still l mono.flat operator (width_at s.head.attrs 0) ds es a) (binary_may l mono.flat operator s.head ds es a)
  acts Compare s memo ds es a = compare_may l mono.flat s.head ds es a
  acts (Cast cast) s memo ds es a = cast_may l mono.flat cast s.head ds es a
  acts Select s memo ds es a = (select_may l mono.flat ds es a, tt)
  acts Opaque s memo ds es a = trap_may l _ _ _ _ (mono.undefined s.head ds es a) (mono.value s.head s.results ds es a)
  acts Effect s memo ds es a = effect_acts s memo ds es a
  acts Local s memo ds es a = effect_acts s memo ds es a
  acts Call s memo ds es a = effect_acts s memo ds es a
  acts Jump s memo ds es a = (refl, a)
  acts Branch s memo ds es a = goes_may l mono.flat branch_edge s ds es a
  acts Switch s memo ds es a = goes_may l mono.flat switch_edge s ds es a
  acts LeaveClass s memo ds es a = a
  acts Unreachable s memo ds es a = tt
  acts Regions s Empty ds es a = asks_may s ds es _ _ a (effect_may l mono.flat s.head ds es a, refl)
  acts Regions s (Number n) ds es a = region_next l mono.flat s ds es a
  acts Regions s (Text t) ds es a = (chain_may l mono.flat ds es a, refl)
  acts Regions s (Join x y) ds es a = tt
  acts Root s memo ds es a = root_acts s memo ds es a
  acts Function s memo ds es a = root_acts s memo ds es a
  acts Module s memo ds es a = all_itself l mono.flat _
  acts Fork s Empty ds es a = asks_may s ds es _ _ a (effect_may l mono.flat s.head ds es a, refl)
  acts Fork s (Number n) ds es a = fork_next l mono.flat s ds es a
  acts Fork s (Text t) ds es a = fork_next l mono.flat s ds es a
  acts Fork s (Join x y) ds es a = fork_next l mono.flat s ds es a

  by_class : (o : Option Class) (s : Shape) (memo : Datum) (ds es : List Datum) → AllMay l ds es → Moves l (act_by_class l o s memo ds) (act_by_class l o s memo es)
  by_class None s memo ds es a = tt
  by_class (Some class) s memo ds es a = acts class s memo ds es a

  pub llvm_monotone : ActsMonotonely (may_become l) (elements_may (may_become l)) (llvm l)
  llvm_monotone = λ s memo ds es a. by_class (class_of_number s.head.kind) s memo ds es a
