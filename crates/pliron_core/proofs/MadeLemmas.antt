-- What makes each value, where what stands as an argument is made by its place.
use Rattle.std.proofs.Common.{◌≡◌, ◌≢◌, ◌⊎◌, ℕ, zero, suc, ◌+◌, ◌-◌, ◌<◌, ◌≤◌, List, [], ◌∷◌, ◌++◌, length, get_or, Option, Some, None, refl, sym, ap, ◌∙◌, subst, inl, inr, arith, length-append, drop, remove, set}
use Rattle.std.specs.List.{slice_get, range_with_len}
use Rattle.std.proofs.lemmas.Bool.{cases_eq}
use Rattle.std.proofs.lemmas.List.{length-set}
use Rattle.std.proofs.lemmas.List.FromFn.{length-map-range_with_len}
use Rattle.std.proofs.lemmas.Option.{slice_get-get_or, slice_get_within}
use Rattle.pliron_core.specs.declared.uses.Use.{Use}
use Rattle.pliron_core.specs.declared.context.Def.{Def}
use Rattle.pliron_core.specs.declared.context.Def.TheVariants.{Result, Argument}
use Rattle.pliron_core.specs.UseSlots.{at}
use Rattle.pliron_core.specs.Uses.{AreAgreed}
use Rattle.pliron_core.specs.Lists.{In}
use Rattle.pliron_core.specs.Writes.{argument_definitions_from, argument_definitions}
use Rattle.pliron_core.specs.Arguments.{Makers, definition_now, definitions_now, IsFree, AreNumbered, AreApart, AreMade}
use Rattle.pliron_core.proofs.GapLemmas.{same}
use Rattle.pliron_core.proofs.TableLemmas.{at-within, at-same, at-other, set-other}
use Rattle.pliron_core.proofs.MemberLemmas.{in_at}
use Rattle.pliron_core.proofs.PlaceLemmas.{push-cases, push-last, push-kept, at-push_cases, at-pushed, at-kept}
use Rattle.pliron_core.proofs.UserLemmas.{at-more}
use Rattle.pliron_core.proofs.GrownLemmas.{get_last, range_at, slice_get_kept, slice_get_added, mapped_range_get}
use Rattle.pliron_core.proofs.ArgumentLemmas.{StandOnce, numbered_at, numbered_other, length_numbered, slice_get_drop, removed_below, removed_above}

-- as many definitions as are written
pub length-defined : (written : List Def) (uses : List (List Use)) → length written ≡ length uses → length (definitions_now written uses) ≡ length written
length-defined [] uses n = refl
length-defined (d ∷ ds) [] n = absurd (omega (arith, n))
length-defined (d ∷ ds) (us ∷ uses) n = ap suc (length-defined ds uses (omega (arith, n)))

-- what makes a value
pub defined-at : (written : List Def) (uses : List (List Use)) (v : ℕ) (d : Def) → length written ≡ length uses → slice_get written v ≡ Some d → slice_get (definitions_now written uses) v ≡ Some (definition_now d (get_or uses v []))
defined-at [] uses v d n e = absurd (cc)
defined-at (x ∷ ds) [] v d n e = absurd (omega (arith, n))
defined-at (x ∷ ds) (us ∷ uses) zero d n e = ap (λ z. Some (definition_now z us)) (same e)
defined-at (x ∷ ds) (us ∷ uses) (suc v) d n e = defined-at ds uses v d (omega (arith, n)) e

-- a value stands at some place, or is an argument of no block
pub liveness-or_free : (rows : List (List ℕ)) (uses : List (List Use)) → AreAgreed rows uses → (v : ℕ) → ((block : ℕ) × (i : ℕ) × (at rows block i ≡ Some v)) ⊎ IsFree rows v
liveness-or_free rows uses agreed v = go (get_or uses v []) refl
  where
    go : (list : List Use) → get_or uses v [] ≡ list → ((block : ℕ) × (i : ℕ) × (at rows block i ≡ Some v)) ⊎ IsFree rows v
    go (u ∷ us) is = inl (u.user, u.place, agreed.listed v 0 u (ap (λ l. slice_get l 0) is))
    go [] is = inr (λ b i e. let l = agreed.complete b i v e in let there : slice_get [] l.0 ≡ Some (let u : Use = record { user = b; place = i } in u) = ap (λ l'. slice_get l' l.0) (sym is) ∙ l.1 in absurd (cc))

module _ {A : Type 0} where
  -- lists that are as long and have the same at each index
  pub same-lists : (xs ys : List A) → length xs ≡ length ys → ((k : ℕ) → slice_get xs k ≡ slice_get ys k) → xs ≡ ys
  same-lists [] [] n each = refl
  same-lists [] (y ∷ ys) n each = absurd (omega (arith, n))
  same-lists (x ∷ xs) [] n each = absurd (omega (arith, n))
  same-lists (x ∷ xs) (y ∷ ys) n each = let e : x ≡ y = same (each 0) in ap (λ z. z ∷ xs) e ∙ ap (λ l. y ∷ l) (same-lists xs ys (omega (arith, n)) (λ k. each (suc k)))

  -- the same more behind lists that are as long
  pub same-more : (xs ys zs : List A) (k : ℕ) → length xs ≡ length ys → slice_get xs k ≡ slice_get ys k → slice_get (xs ++ zs) k ≡ slice_get (ys ++ zs) k
  same-more [] [] zs k n e = refl
  same-more [] (y ∷ ys) zs k n e = absurd (omega (arith, n))
  same-more (x ∷ xs) [] zs k n e = absurd (omega (arith, n))
  same-more (x ∷ xs) (y ∷ ys) zs zero n e = e
  same-more (x ∷ xs) (y ∷ ys) zs (suc k) n e = same-more xs ys zs k (omega (arith, n)) e

  pub missing : (xs ys : List A) (k : ℕ) → length xs ≡ length ys → slice_get ys k ≡ None → slice_get xs k ≡ None
  missing [] ys k n e = refl
  missing (x ∷ xs) [] k n e = absurd (omega (arith, n))
  missing (x ∷ xs) (y ∷ ys) zero n e = absurd (cc)
  missing (x ∷ xs) (y ∷ ys) (suc k) n e = missing xs ys k (omega (arith, n)) e

module _ (rows : List (List ℕ)) (written : List Def) (uses : List (List Use)) (agreed : AreAgreed rows uses) (count : length written ≡ length uses) where
  abbrev pub now : List Def
  now = definitions_now written uses

  -- what makes a value that is an argument of no block is what is written of it
  pub defined-free : (v : ℕ) → IsFree rows v → slice_get now v ≡ slice_get written v
  defined-free v free = go (slice_get written v) refl
    where
      none : (list : List Use) → get_or uses v [] ≡ list → list ≡ []
      none [] is = refl
      none (u ∷ us) is = absurd (free u.user u.place (agreed.listed v 0 u (ap (λ l. slice_get l 0) is)))

      go : (o : Option Def) → slice_get written v ≡ o → slice_get now v ≡ slice_get written v
      go (Some d) e = defined-at written uses v d count e ∙ ap (λ l. Some (definition_now d l)) (none (get_or uses v []) refl) ∙ sym e
      go None e = missing now written v (length-defined written uses count) e ∙ sym e

  -- a list that has the place of each argument, and what is written of any other value, says what
  -- makes each value
  pub defined-is : (all : List Def) → length all ≡ length written → AreNumbered rows all → ((v : ℕ) → IsFree rows v → slice_get all v ≡ slice_get written v) → definitions_now written uses ≡ all
  defined-is all n argument_definitions_from free = same-lists now all (length-defined written uses count ∙ sym n) each
    where
      first : (v : ℕ) (list : List Use) (o : Option Def) → get_or uses v [] ≡ list → slice_get written v ≡ o → (block i : ℕ) → at rows block i ≡ Some v → slice_get now v ≡ slice_get all v
      first v [] o is e b i h = let l = agreed.complete b i v h in let there : slice_get [] l.0 ≡ Some (let u : Use = record { user = b; place = i } in u) = ap (λ l'. slice_get l' l.0) (sym is) ∙ l.1 in absurd (cc)
      first v (u ∷ us) (Some d) is e b i h = defined-at written uses v d count e ∙ ap (λ l. Some (definition_now d l)) is ∙ sym (argument_definitions_from u.user u.place v (agreed.listed v 0 u (ap (λ l. slice_get l 0) is)))
      first v (u ∷ us) None is e b i h = missing now written v (length-defined written uses count) e ∙ sym (missing all written v n e)

      each : (v : ℕ) → slice_get now v ≡ slice_get all v
      each v = elim (liveness-or_free rows uses agreed v) [
        | inl s ↦ first v (get_or uses v []) (slice_get written v) refl refl s.0 s.1 s.2
        | inr f ↦ defined-free v f ∙ sym (free v f)
      ]

  -- and then it is what makes each value by these tables
  pub made-is : (all : List Def) → length all ≡ length written → AreNumbered rows all → ((v : ℕ) → IsFree rows v → slice_get all v ≡ slice_get written v) → AreApart rows written → AreMade rows written uses
  made-is all n argument_definitions_from free apart = record { apart = apart; count = count; numbered = subst (AreNumbered rows) (sym (defined-is all n argument_definitions_from free)) argument_definitions_from }

-- two lists that end otherwise are the same elsewhere
push-other : {A : Type 0} (xs : List A) (x y : A) (k : ℕ) → k ≢ length xs → slice_get (xs ++ x ∷ []) k ≡ slice_get (xs ++ y ∷ []) k
push-other [] x y zero ne = absurd (ne refl)
push-other [] x y (suc k) ne = refl
push-other (z ∷ zs) x y zero ne = refl
push-other (z ∷ zs) x y (suc k) ne = push-other zs x y k (λ e. ne (ap suc e))

-- an argument stands at one place
pub liveness-once : (rows : List (List ℕ)) (all : List Def) → AreNumbered rows all → (b b' i i' v : ℕ) → at rows b i ≡ Some v → at rows b' i' ≡ Some v → (b ≡ b') × (i ≡ i')
liveness-once rows all is b b' i i' v e f =
    let g : Some (Argument b i) ≡ Some (Argument b' i') = sym (is b i v e) ∙ is b' i' v f in
    (cc, cc)

set-there : {A : Type 0} (xs : List A) (k : ℕ) (x : A) → k < length xs → slice_get (set xs k x) k ≡ Some x
set-there [] k x h = absurd (omega (arith, h))
set-there (y ∷ ys) zero x h = refl
set-there (y ∷ ys) (suc k) x h = set-there ys k x (omega (arith, h))

module _ (rows : List (List ℕ)) (written : List Def) (uses : List (List Use)) (agreed : AreAgreed rows uses) (is : AreMade rows written uses) where
  abbrev before : List Def
  before = definitions_now written uses

  long : length before ≡ length written
  long = length-defined written uses is.count

  -- an argument is a value
  pub argument-within : (block i v : ℕ) → at rows block i ≡ Some v → v < length written
  argument-within block i v e = let l = agreed.complete block i v e in let h = at-within uses v l.0 _ l.1 in omega (arith, h, is.count)

  module _ (more : List Def) (uses' : List (List Use)) (count : length uses' ≡ length uses + length more) where
    counted : length (written ++ more) ≡ length uses'
    counted = omega (arith, length-append written more, is.count, count)

    grown : length (before ++ more) ≡ length (written ++ more)
    grown = omega (arith, length-append written more, length-append before more, long)

    still-free : (v : ℕ) → IsFree rows v → slice_get (before ++ more) v ≡ slice_get (written ++ more) v
    still-free v free = same-more before written more v long (defined-free rows written uses agreed is.count v free)

    -- what was an argument is written as before
    apart-more : AreApart rows (written ++ more)
    apart-more v op i e b k f =
        let d = slice_get-get_or written v (Argument 0 0) (argument-within b k v f) in
        is.apart v op i (d ∙ sym (slice_get_kept written more v _ d) ∙ e) b k f

    -- more values that are no arguments
    pub made-more : AreAgreed rows uses' → (definitions_now (written ++ more) uses' ≡ before ++ more) × AreMade rows (written ++ more) uses'
    made-more agreed' =
        let argument_definitions_from : AreNumbered rows (before ++ more) = λ b i v e. slice_get_kept before more v _ (is.numbered b i v e) in
        (defined-is rows (written ++ more) uses' agreed' counted (before ++ more) grown argument_definitions_from still-free, made-is rows (written ++ more) uses' agreed' counted (before ++ more) grown argument_definitions_from still-free apart-more)

  -- a new block, and its arguments
  module _ (n : ℕ) (uses' : List (List Use)) where
    abbrev made-here : List Def
    made-here = argument_definitions (length rows) n

    abbrev grown-rows : List (List ℕ)
    grown-rows = rows ++ range_with_len (length before) n ∷ []

    block-numbered : AreNumbered grown-rows (before ++ made-here)
    block-numbered b i v e = elim (get_last rows (range_with_len (length before) n) [] b) [
      | inl same_row ↦ slice_get_kept before made-here v _ (is.numbered b i v (ap (λ r. slice_get r i) (sym same_row) ∙ e))
      | inr new ↦
          let r = range_at (length before) n i v (ap (λ r. slice_get r i) (sym new.0) ∙ e) in
          let z : 0 + i ≡ i = omega arith in
          ap (slice_get (before ++ made-here)) r.0 ∙ slice_get_added before made-here i ∙ mapped_range_get (λ k. Argument (length rows) k) 0 n i r.1 ∙ ap (λ k. Some (Argument (length rows) k)) z ∙ ap (λ k. Some (Argument k i)) (sym new.2)
    ]

    block-apart : AreApart grown-rows (written ++ made-here)
    block-apart v op j e b i f = elim (get_last rows (range_with_len (length before) n) [] b) [
      | inl same_row ↦ apart-more-at v op j e b i (ap (λ r. slice_get r i) (sym same_row) ∙ f)
      | inr new ↦
          let r = range_at (length before) n i v (ap (λ r. slice_get r i) (sym new.0) ∙ f) in
          let z : v ≡ length written + i = omega (arith, r.0, long) in
          let g : Some (Result op j) ≡ Some (Argument (length rows) (0 + i)) = sym e ∙ ap (slice_get (written ++ made-here)) z ∙ slice_get_added written made-here i ∙ mapped_range_get (λ k. Argument (length rows) k) 0 n i r.1 in
          absurd (cc)
    ]
      where
        apart-more-at : (v op j : ℕ) → slice_get (written ++ made-here) v ≡ Some (Result op j) → (b i : ℕ) → at rows b i ≡ Some v → ⊥
        apart-more-at v op j e b i f =
            let d = slice_get-get_or written v (Argument 0 0) (argument-within b i v f) in
            is.apart v op j (d ∙ sym (slice_get_kept written made-here v _ d) ∙ e) b i f

    pub made-block : length uses' ≡ length uses + n → AreAgreed grown-rows uses' → (definitions_now (written ++ made-here) uses' ≡ before ++ made-here) × AreMade grown-rows (written ++ made-here) uses'
    made-block count agreed' =
        let m : length made-here ≡ n = length-map-range_with_len (λ k. Argument (length rows) k) 0 n in
        let count' : length uses' ≡ length uses + length made-here = omega (arith, count, m) in
        let free : (v : ℕ) → IsFree grown-rows v → slice_get (before ++ made-here) v ≡ slice_get (written ++ made-here) v = λ v f. still-free made-here uses' count' v (λ b i e. f b i (at-more rows (range_with_len (length before) n ∷ []) b i v e)) in
        let c = counted made-here uses' count' in
        let g = grown made-here uses' count' in
        (defined-is grown-rows (written ++ made-here) uses' agreed' c (before ++ made-here) g block-numbered free, made-is grown-rows (written ++ made-here) uses' agreed' c (before ++ made-here) g block-numbered free block-apart)

  -- one more argument
  module _ (block : ℕ) (block_within : block < length rows) where
    abbrev added : List Def
    added = before ++ Argument block (length (get_or rows block [])) ∷ []

    abbrev written-added : List Def
    written-added = written ++ Argument block 0 ∷ []

    abbrev rows-pushed : List (List ℕ)
    rows-pushed = set rows block (get_or rows block [] ++ length before ∷ [])

    pushed-numbered : AreNumbered rows-pushed added
    pushed-numbered b i v e = elim (at-push_cases rows block (length before) v b i block_within e) [
      | inl k ↦ ap (slice_get added) (sym k.2) ∙ push-last before _ ∙ ap (λ n. Some (Argument block n)) (sym k.1) ∙ ap (λ z. Some (Argument z i)) (sym k.0)
      | inr k ↦ push-kept before _ _ v (is.numbered b i v k)
    ]

    pushed-free : (v : ℕ) → IsFree rows-pushed v → slice_get added v ≡ slice_get written-added v
    pushed-free v free = same-more before written (Argument block (length (get_or rows block [])) ∷ []) v long (defined-free rows written uses agreed is.count v (λ b i e. free b i (at-kept rows block (length before) v b i block_within e))) ∙ push-other written _ _ v (λ e. free block (length (get_or rows block [])) (at-pushed rows block (length before) block_within ∙ ap Some (long ∙ sym e)))

    pushed-apart : AreApart rows-pushed written-added
    pushed-apart v op j e b i f = elim (push-cases written (Argument block 0) (Result op j) v e) [
      | inl k ↦ absurd (cc)
      | inr k ↦ elim (at-push_cases rows block (length before) v b i block_within f) [
        | inl g ↦ let h = slice_get_within written v _ k in omega (arith, h, g.2, long)
        | inr g ↦ is.apart v op j k b i g
      ]
    ]

    pub made-pushed : (uses' : List (List Use)) → length uses' ≡ length uses + 1 → AreAgreed rows-pushed uses' → (definitions_now written-added uses' ≡ added) × AreMade rows-pushed written-added uses'
    made-pushed uses' n agreed' =
        let c : length written-added ≡ length uses' = omega (arith, length-append written (Argument block 0 ∷ []), is.count, n) in
        let g : length added ≡ length written-added = omega (arith, length-append written (Argument block 0 ∷ []), length-append before (Argument block (length (get_or rows block [])) ∷ []), long) in
        (defined-is rows-pushed written-added uses' agreed' c added g pushed-numbered pushed-free, made-is rows-pushed written-added uses' agreed' c added g pushed-numbered pushed-free pushed-apart)

  -- an argument goes
  module _ (block i value : ℕ) (there : at rows block i ≡ Some value) where
    abbrev row : List ℕ
    row = get_or rows block []

    abbrev later : List ℕ
    later = drop (i + 1) row

    abbrev rows-left : List (List ℕ)
    rows-left = set rows block (remove row i)

    abbrev written-left : List Def
    written-left = set written value (Argument block i)

    abbrev after : List Def
    after = argument_definitions_from before block i later

    within : block < length rows
    within = at-within rows block i value there

    at-later : (m v : ℕ) → slice_get later m ≡ Some v → at rows block (i + 1 + m) ≡ Some v
    at-later m v e = sym (slice_get_drop row (i + 1) m) ∙ e

    once : StandOnce later
    once m n v e f = let s = liveness-once rows before is.numbered block block (i + 1 + m) (i + 1 + n) v (at-later m v e) (at-later n v f) in omega (arith, s.1)

    -- what is no later argument of the block keeps its place
    kept : (b j v : ℕ) → at rows b j ≡ Some v → (b ≡ block → i < j → ⊥) → slice_get after v ≡ Some (Argument b j)
    kept b j v e out = numbered_other before block i later v not_later ∙ is.numbered b j v e
      where
        not_later : In v later → ⊥
        not_later l = let p = in_at later v l in let s = liveness-once rows before is.numbered b block j (i + 1 + p.0) v e (at-later p.0 v p.1) in out s.0 (omega (arith, s.1))

    renumbered : (j v : ℕ) → i ≤ j → at rows block (suc j) ≡ Some v → slice_get after v ≡ Some (Argument block j)
    renumbered j v le e =
        let z : i + 1 + (j - i) ≡ suc j = omega (arith, le) in
        let y : i + (j - i) ≡ j = omega (arith, le) in
        numbered_at before block i later (j - i) v (Argument block (suc j)) once (slice_get_drop row (i + 1) (j - i) ∙ ap (slice_get row) z ∙ e) (is.numbered block (suc j) v e) ∙ ap (λ n. Some (Argument block n)) y

    left : (j : ℕ) → at rows-left block j ≡ slice_get (remove row i) j
    left j = at-same rows block (remove row i) j within

    left-numbered : AreNumbered rows-left after
    left-numbered b j v e = elim (cases_eq b block) [
      | inr ne ↦ kept b j v (sym (at-other rows block b (remove row i) j ne) ∙ e) (λ s lt. ne s)
      | inl s ↦ at_block (sym (left j) ∙ ap (λ z. at rows-left z j) (sym s) ∙ e) (order j) ∙ ap (λ z. Some (Argument z j)) (sym s)
    ]
      where
        order : (j : ℕ) → (j < i) ⊎ (i ≤ j)
        order j = grind arith

        at_block : slice_get (remove row i) j ≡ Some v → (j < i) ⊎ (i ≤ j) → slice_get after v ≡ Some (Argument block j)
        at_block f (inl lt) = kept block j v (sym (removed_below row i j lt) ∙ f) (λ s gt. omega (arith, lt, gt))
        at_block f (inr le) = renumbered j v le (sym (removed_above row i j le) ∙ f)

    left-free : (v : ℕ) → IsFree rows-left v → slice_get after v ≡ slice_get written-left v
    left-free v free = elim (liveness-or_free rows uses agreed v) [
      | inr f ↦ numbered_other before block i later v (λ l. let p = in_at later v l in f block (i + 1 + p.0) (at-later p.0 v p.1)) ∙ defined-free rows written uses agreed is.count v f ∙ sym (set-other written value v (Argument block i) (λ e. f block i (there ∙ ap Some (sym e))))
      | inl s ↦ stood s.0 s.1 s.2 (cases_eq s.0 block)
    ]
      where
        order : (j : ℕ) → (j < i) ⊎ ((j ≡ i) ⊎ ((n : ℕ) × (j ≡ suc n) × (i ≤ n)))
        order j = elim (sides j) [ inl a ↦ inl a | inr b ↦ elim (split j b) [ inl e ↦ inr (inl e) | inr p ↦ inr (inr p) ] ]
          where
            sides : (j : ℕ) → (j < i) ⊎ (i ≤ j)
            sides j = grind arith

            last : (n : ℕ) → (i ≤ n) ⊎ (n < i)
            last n = grind arith

            split : (j : ℕ) → i ≤ j → (j ≡ i) ⊎ ((n : ℕ) × (j ≡ suc n) × (i ≤ n))
            split zero le = inl (omega (arith, le))
            split (suc n) le = elim (last n) [ inl f ↦ inr (n, refl, f) | inr g ↦ inl (omega (arith, g, le)) ]

        at_block : (j : ℕ) → at rows block j ≡ Some v → (j < i) ⊎ ((j ≡ i) ⊎ ((n : ℕ) × (j ≡ suc n) × (i ≤ n))) → slice_get after v ≡ slice_get written-left v
        at_block j e (inl lt) = absurd (free block j (left j ∙ removed_below row i j lt ∙ e))
        at_block j e (inr (inl f)) =
            let e' : at rows block i ≡ Some v = ap (at rows block) (sym f) ∙ e in
            let g : value ≡ v = same (sym there ∙ e') in
            kept block i v e' (λ s lt. omega (arith, lt)) ∙ sym (ap (slice_get written-left) (sym g) ∙ set-there written value (Argument block i) (argument-within block i value there))
        at_block j e (inr (inr p)) = absurd (free block p.0 (left p.0 ∙ removed_above row i p.0 p.2 ∙ ap (at rows block) (sym p.1) ∙ e))

        stood : (b j : ℕ) → at rows b j ≡ Some v → (b ≡ block) ⊎ (b ≢ block) → slice_get after v ≡ slice_get written-left v
        stood b j e (inr ne) = absurd (free b j (at-other rows block b (remove row i) j ne ∙ e))
        stood b j e (inl s) = at_block j (ap (λ z. at rows z j) (sym s) ∙ e) (order j)

    left-apart : AreApart rows-left written-left
    left-apart v op j e b k f = elim (cases_eq v value) [
      | inl s ↦
          let g : Some (Result op j) ≡ Some (Argument block i) = sym e ∙ ap (slice_get written-left) s ∙ set-there written value (Argument block i) (argument-within block i value there) in
          absurd (cc)
      | inr ne ↦ stood (is.apart v op j (sym (set-other written value v (Argument block i) ne) ∙ e)) (cases_eq b block)
    ]
      where
        order : (k : ℕ) → (k < i) ⊎ (i ≤ k)
        order k = grind arith

        at_block : IsFree rows v → slice_get (remove row i) k ≡ Some v → (k < i) ⊎ (i ≤ k) → ⊥
        at_block free g (inl lt) = free block k (sym (removed_below row i k lt) ∙ g)
        at_block free g (inr le) = free block (suc k) (sym (removed_above row i k le) ∙ g)

        stood : IsFree rows v → (b ≡ block) ⊎ (b ≢ block) → ⊥
        stood free (inr ne) = free b k (sym (at-other rows block b (remove row i) k ne) ∙ f)
        stood free (inl s) = at_block free (sym (left k) ∙ ap (λ z. at rows-left z k) (sym s) ∙ f) (order k)

    pub made-removed : (uses' : List (List Use)) → length uses' ≡ length uses → AreAgreed rows-left uses' → (definitions_now written-left uses' ≡ after) × AreMade rows-left written-left uses'
    made-removed uses' n agreed' =
        let c : length written-left ≡ length uses' = length-set written value (Argument block i) ∙ is.count ∙ sym n in
        let g : length after ≡ length written-left = length_numbered before block i later ∙ long ∙ sym (length-set written value (Argument block i)) in
        (defined-is rows-left written-left uses' agreed' c after g left-numbered left-free, made-is rows-left written-left uses' agreed' c after g left-numbered left-free left-apart)

  -- all arguments of a block go
  module _ (block : ℕ) (within : block < length rows) where
    abbrev cleared : List (List ℕ)
    cleared = set rows block []

    abbrev written-cleared : List Def
    written-cleared = argument_definitions_from written block 0 (get_or rows block [])

    cleared-numbered : AreNumbered cleared before
    cleared-numbered b j v e = elim (cases_eq b block) [
      | inr ne ↦ is.numbered b j v (sym (at-other rows block b [] j ne) ∙ e)
      | inl s ↦ let f : slice_get [] j ≡ Some v = sym (at-same rows block [] j within) ∙ ap (λ z. at cleared z j) (sym s) ∙ e in absurd (cc)
    ]

    once-row : StandOnce (get_or rows block [])
    once-row m n v e f = (liveness-once rows before is.numbered block block m n v e f).1

    cleared-free : (v : ℕ) → IsFree cleared v → slice_get before v ≡ slice_get written-cleared v
    cleared-free v free = elim (liveness-or_free rows uses agreed v) [
      | inr f ↦ defined-free rows written uses agreed is.count v f ∙ sym (numbered_other written block 0 (get_or rows block []) v (λ l. let p = in_at (get_or rows block []) v l in f block p.0 p.1))
      | inl s ↦ stood s.0 s.1 s.2 (cases_eq s.0 block)
    ]
      where
        stood : (b j : ℕ) → at rows b j ≡ Some v → (b ≡ block) ⊎ (b ≢ block) → slice_get before v ≡ slice_get written-cleared v
        stood b j e (inr ne) = absurd (free b j (at-other rows block b [] j ne ∙ e))
        stood b j e (inl s) =
            let e' : at rows block j ≡ Some v = ap (λ z. at rows z j) (sym s) ∙ e in
            let d = slice_get-get_or written v (Argument 0 0) (argument-within block j v e') in
            let z : 0 + j ≡ j = omega arith in
            is.numbered block j v e' ∙ sym (numbered_at written block 0 (get_or rows block []) j v _ once-row e' d ∙ ap (λ n. Some (Argument block n)) z)

    cleared-apart : AreApart cleared written-cleared
    cleared-apart v op j e b k f = elim (cases_eq b block) [
      | inl s ↦ let g : slice_get [] k ≡ Some v = sym (at-same rows block [] k within) ∙ ap (λ z. at cleared z k) (sym s) ∙ f in absurd (cc)
      | inr ne ↦ stood ne (sym (at-other rows block b [] k ne) ∙ f)
    ]
      where
        stood : b ≢ block → at rows b k ≡ Some v → ⊥
        stood ne g =
            let out : In v (get_or rows block []) → ⊥ = λ l. let p = in_at (get_or rows block []) v l in ne (liveness-once rows before is.numbered b block k p.0 v g p.1).0 in
            is.apart v op j (sym (numbered_other written block 0 (get_or rows block []) v out) ∙ e) b k g

    pub made-cleared : (uses' : List (List Use)) → length uses' ≡ length uses → AreAgreed cleared uses' → (definitions_now written-cleared uses' ≡ before) × AreMade cleared written-cleared uses'
    made-cleared uses' n agreed' =
        let k = length_numbered written block 0 (get_or rows block []) in
        let c : length written-cleared ≡ length uses' = k ∙ is.count ∙ sym n in
        let g : length before ≡ length written-cleared = long ∙ sym k in
        (defined-is cleared written-cleared uses' agreed' c before g cleared-numbered cleared-free, made-is cleared written-cleared uses' agreed' c before g cleared-numbered cleared-free cleared-apart)

-- as many values as are written
pub length-uses-defined : (rows : List (List ℕ)) (written : List Def) (uses : List (List Use)) → AreMade rows written uses → length uses ≡ length (definitions_now written uses)
length-uses-defined rows written uses is = sym is.count ∙ sym (length-defined written uses is.count)

-- what makes a value that is written as a result
pub result-made : (rows : List (List ℕ)) (written : List Def) (uses : List (List Use)) (v : ℕ) (d : Def) (op i : ℕ) → AreAgreed rows uses → AreMade rows written uses → slice_get written v ≡ Some d → d ≡ Result op i → Some d ≡ slice_get (definitions_now written uses) v
result-made rows written uses v d op i agreed is e f = sym (defined-free rows written uses agreed is.count v (is.apart v op i (e ∙ ap Some f)) ∙ e)

-- what makes a value without uses, and one with a use
pub unused-made : (written : List Def) (uses : List (List Use)) (v : ℕ) (d : Def) → length written ≡ length uses → slice_get written v ≡ Some d → length (get_or uses v []) ≡ 0 → Some d ≡ slice_get (definitions_now written uses) v
unused-made written uses v d n e none = sym (defined-at written uses v d n e ∙ ap (λ l. Some (definition_now d l)) (empty (get_or uses v []) none))
  where
    empty : (list : List Use) → length list ≡ 0 → list ≡ []
    empty [] z = refl
    empty (u ∷ us) z = absurd (omega (arith, z))

pub used-made : (written : List Def) (uses : List (List Use)) (v : ℕ) (u : Use) → length written ≡ length uses → v < length written → slice_get (get_or uses v []) 0 ≡ Some u → Some (Argument u.user u.place) ≡ slice_get (definitions_now written uses) v
used-made written uses v u n h first = sym (defined-at written uses v _ n (slice_get-get_or written v (Argument 0 0) h) ∙ used (get_or uses v []) first)
  where
    used : (list : List Use) → slice_get list 0 ≡ Some u → Some (definition_now (get_or written v (Argument 0 0)) list) ≡ Some (Argument u.user u.place)
    used [] f = absurd (cc)
    used (x ∷ xs) f = ap (λ (y : Use). Some (Argument y.user y.place)) (same f)

pub same-makers : {r r' : List (List ℕ)} {d d' : List Def} → r ≡ r' → d ≡ d' → (let x : Makers = record { rows = r; definitions = d } in x) ≡ record { rows = r'; definitions = d' }
same-makers e f = rw (e, f) refl
