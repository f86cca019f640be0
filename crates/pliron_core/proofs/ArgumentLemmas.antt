-- The invariant of a tree is kept where an argument comes or goes, or an attribute is replaced.
use Rattle.std.proofs.Common.{◌≡◌, ◌≢◌, ◌⊎◌, ℕ, zero, suc, ◌+◌, ◌-◌, ◌<◌, ◌≤◌, true, false, List, [], ◌∷◌, ◌++◌, length, Option, Some, None, IsSome, is_some, refl, sym, ap, ◌∙◌, subst, inl, inr, arith, slice_get, slice_set, take, drop, remove, true≢false}
use Rattle.std.proofs.lemmas.Bool.{cases_eq}
use Rattle.std.proofs.lemmas.List.{get_or-set_other, get_or-set_same, length-set}
use Rattle.pliron_core.specs.declared.attrs.Head.{Head}
use Rattle.pliron_core.specs.declared.attrs.AttrObj.{AttrObj}
use Rattle.pliron_core.specs.declared.context.Def.{Def}
use Rattle.pliron_core.specs.declared.context.Def.TheVariants.{Result, Argument}
use Rattle.pliron_core.specs.declared.context.OperationEntry.{OperationEntry}
use Rattle.pliron_core.specs.declared.context.RegionSlot.{RegionSlot}
use Rattle.pliron_core.specs.Tree.{Tree, In, IsListedBy, slot_of, IsLive, IsBlock, IsDefined, IsMadeBy, head_of, row_of, results_of, regions_of, operands_of, successors_of, arguments_of, block_parent_of, definition_of, no_entry}
use Rattle.pliron_core.specs.Invariant.{HaveSameKeys, IsJoined}
use Rattle.pliron_core.specs.Writes.{argument_definitions_from, argument_pushed, argument_removed, with_attribute}
use Rattle.pliron_core.proofs.TreeLemmas.{live-within, live_dead, in_slice, in_at, within-some}
use Rattle.pliron_core.proofs.CreatedLemmas.{defined_kept}
use Rattle.pliron_core.proofs.TableLemmas.{set-same, set-other}
use Rattle.pliron_core.proofs.PlaceLemmas.{push-last, push-kept, at-push_cases, at-kept}

-- values that are not renumbered keep their definition
pub numbered_other : (ds : List Def) (b i : ℕ) (vs : List ℕ) (v : ℕ) → (In v vs → ⊥) → slice_get (argument_definitions_from ds b i vs) v ≡ slice_get ds v
numbered_other ds b i [] v out = refl
numbered_other ds b i (x ∷ xs) v out = numbered_other (slice_set ds x (Argument b i)) b (suc i) xs v (λ j. out (inr j)) ∙ set-other ds x v (Argument b i) (λ e. out (inl e))

abbrev pub StandOnce : List ℕ → Type 0
StandOnce vs = (m n v : ℕ) → slice_get vs m ≡ Some v → slice_get vs n ≡ Some v → m ≡ n

pub once_tail : (x : ℕ) (xs : List ℕ) → StandOnce (x ∷ xs) → StandOnce xs
once_tail x xs once m n v e f = let g : suc m ≡ suc n = once (suc m) (suc n) v e f in omega (arith, g)

pub once_head : (x : ℕ) (xs : List ℕ) → StandOnce (x ∷ xs) → In x xs → ⊥
once_head x xs once i = let p = in_at xs x i in let g : 0 ≡ suc p.0 = once 0 (suc p.0) x refl p.1 in omega (arith, g)

-- the ones that are have their index
pub numbered_at : (ds : List Def) (b i : ℕ) (vs : List ℕ) (m v : ℕ) (d : Def) → StandOnce vs → slice_get vs m ≡ Some v → slice_get ds v ≡ Some d → slice_get (argument_definitions_from ds b i vs) v ≡ Some (Argument b (i + m))
numbered_at ds b i [] m v d once e f = absurd (grind arith)
numbered_at ds b i (x ∷ xs) zero v d once e f =
    let s : x ≡ v = cc in
    let z : i ≡ i + 0 = omega arith in
    numbered_other (slice_set ds x (Argument b i)) b (suc i) xs v (λ j. once_head x xs once (subst (λ y. In y xs) (sym s) j)) ∙ ap (slice_get (slice_set ds x (Argument b i))) (sym s) ∙ set-same ds x (Argument b i) d (ap (slice_get ds) s ∙ f) ∙ ap (λ n. Some (Argument b n)) z
numbered_at ds b i (x ∷ xs) (suc m) v d once e f =
    let ne : v ≢ x = λ s. once_head x xs once (in_slice xs m x (e ∙ ap Some s)) in
    let z : suc i + m ≡ i + suc m = omega arith in
    numbered_at (slice_set ds x (Argument b i)) b (suc i) xs m v d (once_tail x xs once) e (set-other ds x v (Argument b i) ne ∙ f) ∙ ap (λ n. Some (Argument b n)) z

pub length_numbered : (ds : List Def) (b i : ℕ) (vs : List ℕ) → length (argument_definitions_from ds b i vs) ≡ length ds
length_numbered ds b i [] = refl
length_numbered ds b i (x ∷ xs) = length_numbered (slice_set ds x (Argument b i)) b (suc i) xs ∙ length-set ds x (Argument b i)

-- one more is renumbered
pub numbered_more : (ds : List Def) (b i : ℕ) (vs : List ℕ) (v : ℕ) → argument_definitions_from ds b i (vs ++ v ∷ []) ≡ slice_set (argument_definitions_from ds b i vs) v (Argument b (i + length vs))
numbered_more ds b i [] v = let z : i ≡ i + 0 = omega arith in ap (λ n. slice_set ds v (Argument b n)) z
numbered_more ds b i (x ∷ xs) v = let z : suc i + length xs ≡ i + suc (length xs) = omega arith in numbered_more (slice_set ds x (Argument b i)) b (suc i) xs v ∙ ap (λ n. slice_set (argument_definitions_from (slice_set ds x (Argument b i)) b (suc i) xs) v (Argument b n)) z

pub slice_get_drop : {A : Type 0} (xs : List A) (i m : ℕ) → slice_get (drop i xs) m ≡ slice_get xs (i + m)
slice_get_drop xs zero m = ap (slice_get xs) (omega arith)
slice_get_drop [] (suc i) m = refl
slice_get_drop (x ∷ xs) (suc i) m = let z : suc (i + m) ≡ suc i + m = omega arith in slice_get_drop xs i m ∙ ap (slice_get (x ∷ xs)) z

pub removed_below : {A : Type 0} (xs : List A) (i k : ℕ) → k < i → slice_get (remove xs i) k ≡ slice_get xs k
removed_below xs zero k h = absurd (omega arith)
removed_below [] (suc i) k h = refl
removed_below (x ∷ xs) (suc i) zero h = refl
removed_below (x ∷ xs) (suc i) (suc k) h = removed_below xs i k (omega (arith, h))

pub removed_above : {A : Type 0} (xs : List A) (i k : ℕ) → i ≤ k → slice_get (remove xs i) k ≡ slice_get xs (suc k)
removed_above [] zero k h = refl
removed_above (x ∷ xs) zero k h = refl
removed_above [] (suc i) k h = refl
removed_above (x ∷ xs) (suc i) zero h = absurd (omega (arith, h))
removed_above (x ∷ xs) (suc i) (suc k) h = removed_above xs i k (omega (arith, h))

-- one more of a list
pub take_more : {A : Type 0} (xs : List A) (m : ℕ) (x : A) → slice_get xs m ≡ Some x → take (suc m) xs ≡ take m xs ++ x ∷ []
take_more [] m x e = absurd (grind arith)
take_more (y ∷ ys) zero x e = let f : y ≡ x = cc in ap (λ z. z ∷ []) f
take_more (y ∷ ys) (suc m) x e = ap (λ l. y ∷ l) (take_more ys m x e)

pub length_taken : {A : Type 0} (xs : List A) (m : ℕ) (x : A) → slice_get xs m ≡ Some x → length (take m xs) ≡ m
length_taken [] m x e = absurd (grind arith)
length_taken (y ∷ ys) zero x e = refl
length_taken (y ∷ ys) (suc m) x e = ap suc (length_taken ys m x e)

-- one more value of a row is numbered
pub number_next : (ds : List Def) (b j : ℕ) (row : List ℕ) (v : ℕ) → slice_get row j ≡ Some v → slice_set (argument_definitions_from ds b 0 (take j row)) v (Argument b j) ≡ argument_definitions_from ds b 0 (take (j + 1) row)
number_next ds b j row v e =
    let n : 0 + length (take j row) ≡ j = omega (arith, length_taken row j v e) in
    let k : suc j ≡ j + 1 = omega arith in
    ap (λ q. slice_set (argument_definitions_from ds b 0 (take j row)) v (Argument b q)) (sym n) ∙ sym (numbered_more ds b 0 (take j row) v) ∙ ap (argument_definitions_from ds b 0) (sym (take_more row j v e)) ∙ ap (λ q. argument_definitions_from ds b 0 (take q row)) k

module _ (t : Tree) (block i : ℕ) (keys : HaveSameKeys t) (w : IsJoined t) (is : IsBlock t block) (unused : (k v : ℕ) → slice_get (arguments_of t block) i ≡ Some v → In v (operands_of t k) → ⊥) where
  abbrev pub u : Tree
  u = argument_removed t block i

  moved : List ℕ
  moved = drop (i + 1) (arguments_of t block)

  block_lt : block < length t.arguments
  block_lt = let h = within-some t.block_parents block is in omega (arith, h, keys.block_parents, keys.arguments)

  own : arguments_of u block ≡ remove (arguments_of t block) i
  own = get_or-set_same t.arguments block _ [] block_lt

  other : (b : ℕ) → b ≢ block → arguments_of u b ≡ arguments_of t b
  other b ne = get_or-set_other t.arguments block b _ [] ne

  once : StandOnce (arguments_of t block)
  once m n v e f = let g : Some (Argument block m) ≡ Some (Argument block n) = sym (w.arguments block m v e) ∙ w.arguments block n v f in cc

  once_moved : StandOnce (drop (i + 1) (arguments_of t block))
  once_moved m n v e f = let g = once (i + 1 + m) (i + 1 + n) v (sym (slice_get_drop (arguments_of t block) (i + 1) m) ∙ e) (sym (slice_get_drop (arguments_of t block) (i + 1) n) ∙ f) in omega (arith, g)

  -- a value whose definition is not that of a later argument keeps it
  kept : (v : ℕ) (d : Def) → definition_of t v ≡ Some d → ((j : ℕ) → i < j → d ≢ Argument block j) → definition_of u v ≡ Some d
  kept v d e ne = numbered_other t.definitions block i (drop (i + 1) (arguments_of t block)) v out ∙ e
    where
      out : In v (drop (i + 1) (arguments_of t block)) → ⊥
      out j =
          let p = in_at (drop (i + 1) (arguments_of t block)) v j in
          let f = w.arguments block (i + 1 + p.0) v (sym (slice_get_drop (arguments_of t block) (i + 1) p.0) ∙ p.1) in
          let g : Some d ≡ Some (Argument block (i + 1 + p.0)) = sym e ∙ f in
          let h : d ≡ Argument block (i + 1 + p.0) = cc in
          ne (i + 1 + p.0) (omega arith) h

  renumbered : (j v : ℕ) → i ≤ j → slice_get (arguments_of t block) (suc j) ≡ Some v → definition_of u v ≡ Some (Argument block j)
  renumbered j v le e =
      let z : i + 1 + (j - i) ≡ suc j = omega (arith, le) in
      let y : i + (j - i) ≡ j = omega (arith, le) in
      numbered_at t.definitions block i (drop (i + 1) (arguments_of t block)) (j - i) v (Argument block (suc j)) once_moved (slice_get_drop (arguments_of t block) (i + 1) (j - i) ∙ ap (slice_get (arguments_of t block)) z ∙ e) (w.arguments block (suc j) v e) ∙ ap (λ n. Some (Argument block n)) y

  apart : (b c j k : ℕ) → b ≢ c → Argument b j ≢ Argument c k
  apart b c j k ne e = let f : b ≡ c = cc in ne f

  arguments_back : (b j v : ℕ) → slice_get (arguments_of u b) j ≡ Some v → (b ≡ block) ⊎ (b ≢ block) → definition_of u v ≡ Some (Argument b j)
  arguments_back b j v e (inr ne) = kept v (Argument b j) (w.arguments b j v (ap (λ l. slice_get l j) (sym (other b ne)) ∙ e)) (λ k lt. apart b block j k ne)
  arguments_back b j v e (inl s) = elim (order j) [
    | inl lt ↦ here (kept v (Argument block j) (w.arguments block j v (sym (removed_below (arguments_of t block) i j lt) ∙ at_block)) (λ k gt f. let g : j ≡ k = cc in omega (arith, g, lt, gt)))
    | inr le ↦ here (renumbered j v le (sym (removed_above (arguments_of t block) i j le) ∙ at_block))
  ]
    where
      order : (j : ℕ) → (j < i) ⊎ (i ≤ j)
      order j = grind arith

      at_block : slice_get (remove (arguments_of t block) i) j ≡ Some v
      at_block = ap (λ l. slice_get l j) (sym own) ∙ ap (λ z. slice_get (arguments_of u z) j) (sym s) ∙ e

      here : definition_of u v ≡ Some (Argument block j) → definition_of u v ≡ Some (Argument b j)
      here f = f ∙ ap (λ z. Some (Argument z j)) (sym s)

  defined : (k v : ℕ) → In v (operands_of t k) → (o : Option Def) → definition_of t v ≡ o → IsMadeBy t v o → IsDefined u v
  defined k v used None e x = absurd x
  defined k v used (Some (Result op j)) e x = subst (IsMadeBy u v) (sym (kept v (Result op j) e (λ n lt f. cc))) x
  defined k v used (Some (Argument b j)) e x = elim (cases_eq b block) [
    | inr ne ↦ subst (IsMadeBy u v) (sym (kept v (Argument b j) e (λ n lt. apart b block j n ne))) (ap (λ l. slice_get l j) (other b ne) ∙ x)
    | inl s ↦ at_block (ap (λ z. slice_get (arguments_of t z) j) (sym s) ∙ x) (e ∙ ap (λ z. Some (Argument z j)) s) (order j)
  ]
    where
      order : (j : ℕ) → (j < i) ⊎ (i ≤ j)
      order j = grind arith

      later : (n : ℕ) → j ≡ suc n → i ≤ n → slice_get (arguments_of t block) j ≡ Some v → IsDefined u v
      later n f le y =
          let z : slice_get (arguments_of t block) (suc n) ≡ Some v = ap (slice_get (arguments_of t block)) (sym f) ∙ y in
          subst (IsMadeBy u v) (sym (renumbered n v le z)) (ap (λ l. slice_get l n) own ∙ removed_above (arguments_of t block) i n le ∙ z)

      split : (j : ℕ) → i ≤ j → (j ≡ i) ⊎ ((n : ℕ) × (j ≡ suc n) × (i ≤ n))
      split zero le = inl (omega (arith, le))
      split (suc n) le = elim (last n) [ inl f ↦ inr (n, refl, f) | inr g ↦ inl (omega (arith, g, le)) ]
        where
          last : (n : ℕ) → (i ≤ n) ⊎ (n < i)
          last n = grind arith

      at_block : slice_get (arguments_of t block) j ≡ Some v → definition_of t v ≡ Some (Argument block j) → (j < i) ⊎ (i ≤ j) → IsDefined u v
      at_block y d (inl lt) = subst (IsMadeBy u v) (sym (kept v (Argument block j) d (λ n gt f. let g : j ≡ n = cc in omega (arith, g, lt, gt)))) (ap (λ l. slice_get l j) own ∙ removed_below (arguments_of t block) i j lt ∙ y)
      at_block y d (inr le) = elim (split j le) [
        | inl f ↦ absurd (unused k v (ap (slice_get (arguments_of t block)) (sym f) ∙ y) used)
        | inr p ↦ later p.0 p.1 p.2 y
      ]

  pub kept_argument_removed : IsJoined (argument_removed t block i)
  kept_argument_removed = record {
    all_in_place = w.all_in_place;
    placed = w.placed;
    regions = w.regions;
    results = λ k j v e. kept v (Result k j) (w.results k j v e) (λ n lt f. cc);
    arguments = λ b j v e. arguments_back b j v e (cases_eq b block);
    operands = λ k v j. defined k v j (definition_of t v) refl (w.operands k v j);
    successors = w.successors;
    ordered = w.ordered;
    erased = w.erased;
    unplaced = λ b e. let x = w.unplaced b e in (other b (λ s. let f : true ≡ false = sym is ∙ ap (λ z. is_some (block_parent_of t z)) (sym s) ∙ ap is_some e in true≢false f) ∙ x.0, x.1);
    rooted = w.rooted;
  }

-- one more argument
module _ (t : Tree) (block : ℕ) (keys : HaveSameKeys t) (w : IsJoined t) (is : IsBlock t block) where
  abbrev pushed : Tree
  pushed = argument_pushed t block

  pushed_within : block < length t.arguments
  pushed_within = let h = within-some t.block_parents block is in omega (arith, h, keys.block_parents, keys.arguments)

  define : (v : ℕ) (d : Def) → definition_of t v ≡ Some d → definition_of pushed v ≡ Some d
  define v d e = push-kept t.definitions _ d v e

  argument_back : (b i v : ℕ) → slice_get (arguments_of pushed b) i ≡ Some v → definition_of pushed v ≡ Some (Argument b i)
  argument_back b i v e = elim (at-push_cases t.arguments block (length t.definitions) v b i pushed_within e) [
    | inl c ↦ ap (slice_get pushed.definitions) (sym c.2) ∙ push-last t.definitions _ ∙ ap (λ n. Some (Argument block n)) (sym c.1) ∙ ap (λ z. Some (Argument z i)) (sym c.0)
    | inr c ↦ define v (Argument b i) (w.arguments b i v c)
  ]

  pub kept_argument_pushed : IsJoined (argument_pushed t block)
  kept_argument_pushed = record {
    all_in_place = w.all_in_place;
    placed = w.placed;
    regions = w.regions;
    results = λ k j v e. define v (Result k j) (w.results k j v e);
    arguments = argument_back;
    operands = λ k v i. defined_kept t pushed v (define v) (λ j n e. e) (λ b n e. at-kept t.arguments block (length t.definitions) v b n pushed_within e) (w.operands k v i);
    successors = w.successors;
    ordered = w.ordered;
    erased = w.erased;
    unplaced = λ b e. let x = w.unplaced b e in (get_or-set_other t.arguments block b _ [] (λ s. let f : true ≡ false = sym is ∙ ap (λ z. is_some (block_parent_of t z)) (sym s) ∙ ap is_some e in true≢false f) ∙ x.0, x.1);
    rooted = w.rooted;
  }

-- an operation's own part is replaced by one with the same results and regions, and a head
module _ (t : Tree) (op : ℕ) (entry : OperationEntry) (w : IsJoined t) (live : IsLive t op) (headed : IsSome entry.head) (results : entry.results ≡ results_of t op) (regions : entry.regions ≡ regions_of t op) where
  abbrev pub changed : Tree
  changed = record t { operations = slice_set t.operations op entry }

  same : (k : ℕ) → (results_of changed k ≡ results_of t k) × (regions_of changed k ≡ regions_of t k)
  same k = elim (cases_eq k op) [
    | inl e ↦ let f : row_of changed k ≡ entry = ap (row_of changed) e ∙ get_or-set_same t.operations op entry no_entry (live-within t op live) in (ap (λ z. z.results) f ∙ results ∙ ap (results_of t) (sym e), ap (λ z. z.regions) f ∙ regions ∙ ap (regions_of t) (sym e))
    | inr ne ↦ let f : row_of changed k ≡ row_of t k = get_or-set_other t.operations op k entry no_entry ne in (ap (λ z. z.results) f, ap (λ z. z.regions) f)
  ]

  lives : (k : ℕ) → IsLive t k → IsLive changed k
  lives k l = elim (cases_eq k op) [
    | inl e ↦ subst (λ z. IsSome z.head) (sym (ap (row_of changed) e ∙ get_or-set_same t.operations op entry no_entry (live-within t op live))) headed
    | inr ne ↦ subst (λ z. IsSome z.head) (sym (get_or-set_other t.operations op k entry no_entry ne)) l
  ]

  dead : (k : ℕ) → head_of changed k ≡ None → (operands_of t k ≡ []) × (successors_of t k ≡ []) × (row_of changed k ≡ no_entry)
  dead k e = elim (cases_eq k op) [
    | inl s ↦ absurd (live_dead changed k (lives k (subst (IsLive t) (sym s) live)) e)
    | inr ne ↦ let f : row_of changed k ≡ row_of t k = get_or-set_other t.operations op k entry no_entry ne in let x = w.erased k (ap (λ z. z.head) (sym f) ∙ e) in (x.0, x.1, f ∙ x.2)
  ]

  listed : (r : ℕ) (o : Option RegionSlot) → IsListedBy t r o → IsListedBy changed r o
  listed r None i = i
  listed r (Some s) i = ap (λ l. slice_get l s.index) (same s.op).1 ∙ i

  pub kept_entry : IsJoined (record t { operations = slice_set t.operations op entry })
  kept_entry = record {
    all_in_place = λ x b e. let s = w.all_in_place x b e in (lives x s.0, s.1);
    placed = λ b r e. listed r (slot_of t r) (w.placed b r e);
    regions = λ k i r e. w.regions k i r (ap (λ l. slice_get l i) (sym (same k).1) ∙ e);
    results = λ k i v e. w.results k i v (ap (λ l. slice_get l i) (sym (same k).0) ∙ e);
    arguments = w.arguments;
    operands = λ k v i. defined_kept t changed v (λ d e. e) (λ j n e. ap (λ l. slice_get l n) (same j).0 ∙ e) (λ b n e. e) (w.operands k v i);
    successors = w.successors;
    ordered = w.ordered;
    erased = dead;
    unplaced = w.unplaced;
    rooted = w.rooted;
  }

pub headed_attribute : (h : Option Head) (i : ℕ) (attr : AttrObj) → IsSome h → IsSome (with_attribute h i attr)
headed_attribute None i attr s = s
headed_attribute (Some h) i attr s = refl
