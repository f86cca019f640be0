-- A call whose place a jump to led-back copies took is inlined.
use Rattle.std.proofs.Common.{◌≡◌, ◌≢◌, ◌⊎◌, inl, inr, ⊎_elim, ℕ, zero, suc, ◌+◌, ◌-◌, ◌<◌, ◌≤◌, Bool, List, [], ◌∷◌, ◌++◌, length, Option, Some, None, IsSome, is_some, refl, sym, ap, ◌∙◌, subst, arith}
use Rattle.std.specs.List.{flat_map, range_with_len}
use Rattle.std.proofs.lemmas.Bool.{cases_eq, cases_lt}
use Rattle.std.proofs.lemmas.List.{length-map, get_or_past}
use Rattle.std.proofs.lemmas.Option.{slice_get_within}
use Rattle.pliron_core.specs.declared.attrs.Head.{Head}
use Rattle.pliron_core.specs.declared.context.Def.{Def}
use Rattle.pliron_core.specs.declared.context.Def.TheVariants.{Result, Argument}
use Rattle.pliron_core.specs.Invariant.{IsTree}
use Rattle.pliron_core.specs.Tree.{Tree, In, IsDistinct, IsLive, IsBlock, first_of, head_of, operands_of, results_of, parent_of, body_of, arguments_of, layout_of, definition_of}
use Rattle.pliron_core.proofs.FlatLemmas.{flat_map-In, distinct-flat_map, distinct-indices}
use Rattle.pliron_core.proofs.HoldingLemmas.{some_is, slice_in}
use Rattle.pliron_core.proofs.LastLemmas.{last_in}
use Rattle.pliron_core.proofs.ListLemmas.{In-cases, distinct-join, distinct-apart}
use Rattle.pliron_core.proofs.TreeLemmas.{live-within, block-within}
use Rattle.pliron_laws.specs.Datum.{Datum, Empty, Move, Meaning, Goto, Leave}
use Rattle.pliron_laws.proofs.ShapeLemmas.{live_at}
use Rattle.pliron_pass_linked.specs.Calls.{CallingConvention}
use Rattle.pliron_rewrite_inlining.specs.Inlined.{InlinedCall, Returns, IsFreshKey, IsReturnReplaced, HasNewJump, IsCallInlined}
use Rattle.pliron_rewrite_inlining.specs.InlinedBeside.{IsNewJump, AreCopiesBeside}
use Rattle.pliron_rewrite_inlining.proofs.CallerSteps.{stays_at, shape_same}
use Rattle.pliron_dialect_calls.specs.Inlinable.{IsJumpHead, NeverLeaves}
use Rattle.pliron_rewrite_calls.specs.Copying.{original_by, parts_of, originals_of, operations_of}
use Rattle.pliron_rewrite_calls.specs.Inlining.{IsInlined}
use Rattle.pliron_rewrite_calls.specs.InliningSteps.{HasSamePlaces, IsSameAt, IsJumpRow}
use Rattle.pliron_rewrite_calls.proofs.CopyLists.{old_itself, new_item, original_in, original_apart}
use Rattle.pliron_rewrite_calls.proofs.Growing.{no_some, past_row}
use Rattle.pliron_rewrite_calls.proofs.InlinedCopies.{IsDone, o, parts, is_between_of, between_is, new_past, places, olds_new, stays_on, led_on, parent_on, arguments_on, never_left, jump_goes, jump_fits, block_copy}

-- ---- values of copies have originals of their own

index_is : (k i j n : ℕ) → ◌≡◌ {A = Option Def} (Some (Result k i)) (Some (Result j n)) → i ≡ n
index_is k i j n e = cc

place_is : (b i c n : ℕ) → ◌≡◌ {A = Option Def} (Some (Argument b i)) (Some (Argument c n)) → i ≡ n
place_is b i c n e = cc

result_of : (k i j n : ℕ) → ◌≡◌ {A = Option Def} (Some (Result k i)) (Some (Result j n)) → k ≡ j
result_of k i j n e = cc

argument_of : (b i c n : ℕ) → ◌≡◌ {A = Option Def} (Some (Argument b i)) (Some (Argument c n)) → b ≡ c
argument_of b i c n e = cc

both_makers : (b i k n : ℕ) → ◌≡◌ {A = Option Def} (Some (Argument b i)) (Some (Result k n)) → ⊥
both_makers b i k n e = cc

module _ (t : Tree) (w : IsTree t) (blocks : List ℕ) (apart : IsDistinct blocks) where
  abbrev arguments : List ℕ
  arguments = flat_map (λ b. arguments_of t b) blocks

  abbrev operations : List ℕ
  operations = operations_of t blocks

  abbrev results : List ℕ
  results = flat_map (λ k. results_of t k) (operations_of t blocks)

  argument_here : (b v : ℕ) → In v (arguments_of t b) → (i : ℕ) × (definition_of t v ≡ Some (Argument b i))
  argument_here b v j = let s = slice_in (arguments_of t b) v j in (s.0, w.joined.arguments b s.0 v s.1)

  result_here : (k v : ℕ) → In v (results_of t k) → (i : ℕ) × (definition_of t v ≡ Some (Result k i))
  result_here k v j = let s = slice_in (results_of t k) v j in (s.0, w.joined.results k s.0 v s.1)

  operations_apart : IsDistinct operations
  operations_apart = distinct-flat_map (λ b. body_of t b) blocks apart (λ b i. w.bodies.distinct b) (λ b c k i j p q. some_is (sym (w.bodies.owned k b p) ∙ w.bodies.owned k c q))

  arguments_apart : IsDistinct arguments
  arguments_apart = distinct-flat_map (λ b. arguments_of t b) blocks apart
      (λ b y. distinct-indices (arguments_of t b) (λ i j v p q. place_is b i b j (sym (w.joined.arguments b i v p) ∙ w.joined.arguments b j v q)))
      (λ b c v i j p q. let y = argument_here b v p in let z = argument_here c v q in argument_of b y.0 c z.0 (sym y.1 ∙ z.1))

  results_apart : IsDistinct results
  results_apart = distinct-flat_map (λ k. results_of t k) operations operations_apart
      (λ k y. distinct-indices (results_of t k) (λ i j v p q. index_is k i k j (sym (w.joined.results k i v p) ∙ w.joined.results k j v q)))
      (λ k l v i j p q. let y = result_here k v p in let z = result_here l v q in result_of k y.0 l z.0 (sym y.1 ∙ z.1))

  pub values_apart : IsDistinct (parts_of t blocks).values
  values_apart = distinct-join arguments results arguments_apart results_apart (λ v i j.
      let p = flat_map-In (λ b. arguments_of t b) blocks v i in
      let q = flat_map-In (λ k. results_of t k) operations v j in
      let y = argument_here p.0 v p.2 in
      let z = result_here q.0 v q.2 in
      both_makers p.0 y.0 q.0 z.0 (sym y.1 ∙ z.1))

  value_less : (v : ℕ) → In v (parts_of t blocks).values → v < length t.definitions
  value_less v i = ⊎_elim
      (λ j. let p = flat_map-In (λ b. arguments_of t b) blocks v j in let y = argument_here p.0 v p.2 in slice_get_within t.definitions v (Argument p.0 y.0) y.1)
      (λ j. let p = flat_map-In (λ k. results_of t k) operations v j in let y = result_here p.0 v p.2 in slice_get_within t.definitions v (Result p.0 y.0) y.1)
      (In-cases v arguments results i)

  abbrev xs : List ℕ
  xs = (parts_of t blocks).values

  pub values_own : (v z : ℕ) → IsFreshKey t v → IsFreshKey t z → (originals_of t blocks).value v ≡ (originals_of t blocks).value z → v ≡ z
  values_own v z le le' e = elim (cases_lt v (length t.definitions + length xs)) [
    | inl lt ↦ elim (cases_lt z (length t.definitions + length xs)) [
      | inl lt' ↦ original_apart xs (length t.definitions) v z values_apart le lt le' lt' e
      | inr ge' ↦ absurd (let f = in_less v le lt in let g = itself z le' ge' in omega (arith, f, g, e, le'))
    ]
    | inr ge ↦ elim (cases_lt z (length t.definitions + length xs)) [
      | inl lt' ↦ absurd (let f = in_less z le' lt' in let g = itself v le ge in omega (arith, f, g, e, le))
      | inr ge' ↦ sym (itself v le ge) ∙ e ∙ itself z le' ge'
    ]
  ]
    where
      in_less : (y : ℕ) → IsFreshKey t y → y < length t.definitions + length xs → original_by xs (length t.definitions) y < length t.definitions
      in_less y p q = value_less (original_by xs (length t.definitions) y) (original_in xs (length t.definitions) y p q)

      itself : (y : ℕ) → IsFreshKey t y → length t.definitions + length xs ≤ y → original_by xs (length t.definitions) y ≡ y
      itself y p q = new_item xs (length t.definitions) y p ∙ get_or_past xs (y - length t.definitions) y (omega (arith, p, q))

-- ---- bodies

jumps_same : (x : InlinedCall) (xs : List ℕ) → ((k : ℕ) → In k xs → (k ≢ x.call) × (k ≢ x.jump)) → HasNewJump x xs xs
jumps_same x [] each = tt
jumps_same x (k ∷ xs) each = let p = each k (inl refl) in inl (p.0, p.1, refl, jumps_same x xs (λ j i. each j (inr i)))

jumps_put : (x : InlinedCall) (front : List ℕ) → ((k : ℕ) → In k front → (k ≢ x.call) × (k ≢ x.jump)) → HasNewJump x (front ++ x.call ∷ x.jump ∷ []) (front ++ x.new ∷ [])
jumps_put x [] each = inr (refl, refl, refl, refl)
jumps_put x (k ∷ front) each = let p = each k (inl refl) in inl (p.0, p.1, refl, jumps_put x front (λ j i. each j (inr i)))

first_stays : (xs ys : List ℕ) (k : ℕ) → In k xs → first_of (xs ++ ys) None ≡ first_of xs None
first_stays [] ys k i = absurd i
first_stays (y ∷ rest) ys k i = refl

some_data : (n : ℕ) → (ds : List Datum) × (length ds ≡ n)
some_data zero = ([], refl)
some_data (suc n) = let r = some_data n in (Empty ∷ r.0, ap suc r.1)

not_both : (i : ℕ) (ds es : List Datum) → ◌≡◌ {A = Move} (Leave ds) (Goto i es) → ⊥
not_both i ds es e = cc

-- a jump of u, and to what it passes its operands
record IsJumpOf (m : Meaning) (u : Tree) (k : ℕ) : Type 0 where
  head : Head
  values : List ℕ
  target : ℕ
  jumps : IsJumpHead m (length values) head
  row : IsJumpRow u k head values (target ∷ [])
  many : length (arguments_of u target) ≡ length values

module _ (m : Meaning) (c : CallingConvention) (returns : Head → Bool) (t u : Tree) (call callee : ℕ) (symbol : Datum) (d : IsDone m c returns t u call callee symbol) where
  abbrev x : InlinedCall
  x = parts m c returns t u call callee symbol d

  abbrev blocks : List ℕ
  blocks = layout_of t d.may.inlinable.region

  old_on : (k : ℕ) → k < length t.operations → k ≢ call → k ≢ d.may.prepared.jump → IsSameAt t u k
  old_on k lt nc nj =
      let f = d.copies.operation_count in
      let s = stays_on m c returns t u call callee symbol d k (omega (arith, f, lt)) (λ i. let g = olds_new m c returns t u call callee symbol d k i in omega (arith, g, lt)) nc nj in
      record {
        row = s.row ∙ d.copies.rows k lt;
        operands = s.operands ∙ d.copies.operands k lt;
        successors = s.successors ∙ d.copies.successors k lt;
        parent = s.parent ∙ d.copies.parents k lt;
      }

  old_live : (k : ℕ) → IsLive t k → k ≢ call → k ≢ d.may.prepared.jump → IsSameAt t u k
  old_live k live nc nj = old_on k (live-within t k live) nc nj

  block_in : d.may.prepared.block < length t.bodies
  block_in = block-within t d.may.prepared.block d.tree.keys (ap is_some d.in_region)

  jump_there : parent_of t d.may.prepared.jump ≡ Some d.may.prepared.block
  jump_there = d.tree.bodies.owned d.may.prepared.jump d.may.prepared.block (last_in (body_of t d.may.prepared.block) d.may.prepared.jump d.may.prepared.last)

  body_old : (b : ℕ) → b < length t.bodies → body_of d.made b ≡ body_of t b
  body_old b lt = d.is_made.bodies b ∙ d.returns_led.bodies b (λ i. let f = d.all_new b i in omega (arith, f, lt)) ∙ d.copies.bodies b lt

  split : body_of t d.may.prepared.block ≡ d.replaced.front ++ call ∷ d.may.prepared.jump ∷ []
  split = sym (body_old d.may.prepared.block block_in) ∙ d.replaced.before

  bodies : (b : ℕ) → IsBlock t b → HasNewJump x (body_of t b) (body_of u b)
  bodies b is = elim (cases_eq b d.may.prepared.block) [
    | inl e ↦ subst (λ z. HasNewJump x (body_of t z) (body_of u z)) (sym e) (subst (λ z. HasNewJump x z (body_of u d.may.prepared.block)) (sym split) (subst (HasNewJump x (d.replaced.front ++ call ∷ d.may.prepared.jump ∷ [])) (sym d.replaced.now) (jumps_put x d.replaced.front (λ k i. (λ f. out k i (inl f), λ f. out k i (inr (inl f)))))))
    | inr ne ↦
        let same : body_of u b ≡ body_of t b = d.replaced.bodies b ne ∙ body_old b (block-within t b d.tree.keys is) in
        subst (HasNewJump x (body_of t b)) (sym same) (jumps_same x (body_of t b) (λ k i. (λ f. ne (some_is (sym (d.tree.bodies.owned k b i) ∙ ap (parent_of t) f ∙ d.may.prepared.holds)), λ f. ne (some_is (sym (d.tree.bodies.owned k b i) ∙ ap (parent_of t) f ∙ jump_there)))))
  ]
    where
      out : (k : ℕ) → In k d.replaced.front → In k (call ∷ d.may.prepared.jump ∷ []) → ⊥
      out k i j = distinct-apart d.replaced.front (call ∷ d.may.prepared.jump ∷ []) (subst IsDistinct split (d.tree.bodies.distinct d.may.prepared.block)) k i j

  its_places : HasSamePlaces d.copied u
  its_places = places m c returns t u call callee symbol d

  new_row : IsJumpRow u d.new d.head (operands_of t call) (d.entry ∷ [])
  new_row = record {
    row = d.replaced.row ∙ d.is_made.jump.row;
    operands = d.replaced.operands ∙ d.is_made.jump.operands;
    successors = d.replaced.successors ∙ d.is_made.jump.successors;
  }

  layout_old : (r : ℕ) → first_of (layout_of u r) None ≡ first_of (layout_of t r) None
  layout_old r = elim (cases_eq r d.region) [
    | inl e ↦ ap (λ z. first_of (layout_of u z) None) e ∙ ap (λ z. first_of z None) (its_places.layouts d.region ∙ d.copies.last) ∙ first_stays (layout_of t d.region) (range_with_len (length t.bodies) (length blocks)) d.may.prepared.block (d.tree.layouts.listed d.may.prepared.block d.region d.in_region) ∙ ap (λ z. first_of (layout_of t z) None) (sym e)
    | inr ne ↦ ap (λ z. first_of z None) (its_places.layouts r ∙ d.copies.layouts r ne)
  ]

  pub call_inlined : IsCallInlined m c t u x symbol
  call_inlined = record {
    calls = d.may.calls;
    plain = d.may.plain;
    jumps = d.may.prepared.jumps;
    passes = d.may.prepared.passes;
    used_there = d.may.prepared.used_there;
    fits = d.may.prepared.fits;
    callee = d.may.inlinable.runs;
    entry = d.may.inlinable.first ∙ ap Some (sym d.entry_is);
    takes = ap (λ z. length (arguments_of t z)) d.entry_is ∙ d.may.inlinable.takes;
    enters = jump_goes m u d.new d.entry d.head (operands_of t call) d.jumps new_row;
    operands_passed = new_row.operands;
    entry_copied = is_between_of (length t.bodies) (length d.copied.bodies) d.entry d.entry_new d.entry_in;
    copies = λ b e. let p = between_is (length t.bodies) (length d.copied.bodies) b e in block_copy m c returns t u call callee symbol d b p.0 p.1;
    apart = values_own t d.tree blocks (d.tree.layouts.distinct d.may.inlinable.region);
    deleted = (ap (λ z. z.head) d.replaced.gone.0, ap (λ z. z.head) d.replaced.gone.1);
    bodies = bodies;
    arguments = λ b is. its_places.arguments b ∙ d.copies.arguments b (block-within t b d.tree.keys is);
    block_parents = λ b is. its_places.block_parents b ∙ d.copies.block_parents b (block-within t b d.tree.keys is);
    entries = λ k r i. layout_old r;
    rows = λ k live nc nj. (old_live k live nc nj).row;
    operands = λ k live nc nj. (old_live k live nc nj).operands;
    successors = λ k live nc nj. (old_live k live nc nj).successors;
    parents = λ k live nc nj. (old_live k live nc nj).parent;
  }

  -- ---- what is live

  -- an operation that stood before
  record IsOld (k : ℕ) : Type 0 where
    live : IsLive t k
    not_call : k ≢ call
    not_jump : k ≢ d.may.prepared.jump

  -- one of a copied block: a copy, or a jump in the place of a return
  record IsNew (k : ℕ) : Type 0 where
    from : length t.operations ≤ k
    block : ℕ
    le : length t.bodies ≤ block
    lt : block < length d.copied.bodies
    parent : parent_of u k ≡ Some block
    either : (In k (body_of d.copied block) × (In k d.olds → ⊥) × (k < length d.copied.operations)) ⊎ ((length d.copied.operations ≤ k) × (k < length d.led.operations))

  dead : (k : ℕ) → head_of u k ≡ None → IsLive u k → ⊥
  dead k e l = no_some (head_of u k) e l

  kind : (k : ℕ) → IsLive u k → IsOld k ⊎ IsNew k ⊎ (k ≡ d.new)
  kind k live = elim (cases_lt k (length t.operations)) [
    | inl lt ↦
        let nc : k ≢ call = λ e. dead k (ap (head_of u) e ∙ ap (λ z. z.head) d.replaced.gone.0) live in
        let nj : k ≢ d.may.prepared.jump = λ e. dead k (ap (head_of u) e ∙ ap (λ z. z.head) d.replaced.gone.1) live in
        inl (record { live = subst (λ z. IsSome z.head) (old_on k lt nc nj).row live; not_call = nc; not_jump = nj })
    | inr ge ↦ elim (cases_lt k (length d.led.operations)) [
      | inl less ↦ inr (inl (made k ge less live))
      | inr past ↦ inr (inr (let a = live-within u k live in let b = d.replaced.count in let e = d.is_made.count in let f = d.is_made.key in omega (arith, a, b, e, f, past)))
    ]
  ]
    where
      made : (k : ℕ) → length t.operations ≤ k → k < length d.led.operations → IsLive u k → IsNew k
      made k ge less live = elim (cases_lt k (length d.copied.operations)) [
        | inl lt ↦
            let on = led_on m c returns t u call callee symbol d k ge less in
            let out : In k d.olds → ⊥ = λ i. dead k (ap (λ z. z.head) (on.row ∙ d.returns_led.gone k i)) live in
            let s = d.returns_led.others k lt out in
            let p = d.grown.placed k ge (subst (λ z. IsSome z.head) (on.row ∙ s.row) live) in
            record {
              from = ge;
              block = p.0;
              le = p.2;
              lt = block-within d.copied p.0 d.copied_tree.keys (d.copied_tree.joined.all_in_place k p.0 p.1).1;
              parent = on.parent ∙ s.parent ∙ p.1;
              either = inl (d.copied_tree.bodies.listed k p.0 p.1, out, lt);
            }
        | inr past ↦
            let on = led_on m c returns t u call callee symbol d k ge less in
            let p = d.returns_led.stands k past less in
            record {
              from = ge;
              block = p.0;
              le = d.all_new p.0 p.1;
              lt = block-within d.copied p.0 d.copied_tree.keys (subst IsSome (its_places.block_parents p.0) (d.done_tree.joined.all_in_place k p.0 (on.parent ∙ p.2)).1);
              parent = on.parent ∙ p.2;
              either = inr (past, less);
            }
      ]

  -- ---- jumps

  after_in : d.may.prepared.after < length t.bodies
  after_in = block-within t d.may.prepared.after d.tree.keys (ap is_some (d.may.prepared.beside ∙ d.in_region))

  new_jump : IsJumpOf m u d.new
  new_jump = record {
    head = d.head;
    values = operands_of t call;
    target = d.entry;
    jumps = d.jumps;
    row = new_row;
    many = sym (ap length (arguments_on m c returns t u call callee symbol d d.entry d.entry_new d.entry_in) ∙ length-map (arguments_of u d.entry) (o m c returns t u call callee symbol d).value) ∙ ap (λ z. length (arguments_of t z)) d.entry_is ∙ d.may.inlinable.takes;
  }

  never_replaced : (k j : ℕ) → NeverLeaves m t j → Returns m t j → ⊥
  never_replaced k j never r =
      let y = live_at t j r.live in
      let ds = some_data (length y.0.operands) in
      never y.0 y.1 Empty ds.0 ds.0 (r.leaves y.0 y.1 ds.0 ds.1)

  old_returns : (k : ℕ) → IsOld k → IsReturnReplaced m t u x k → ⊥
  old_returns k p r =
      let lt = live-within t k p.live in
      let f = d.copies.operation_count in
      let same : x.originals.operation k ≡ k = ap (o m c returns t u call callee symbol d).operation (old_itself d.olds (length d.copied.operations) k (omega (arith, f, lt))) ∙ old_itself (parts_of t blocks).operations (length t.operations) k lt in
      let ret : Returns m t k = subst (Returns m t) same r.returns in
      let y = live_at t k p.live in
      let ds = some_data (length y.0.operands) in
      let s = stays_at m c t u x symbol d.tree d.done_tree call_inlined k y.0 y.1 p.not_call p.not_jump in
      let shape = shape_same m c t u x symbol d.tree d.done_tree call_inlined k y.0 s in
      not_both 0 ds.0 ds.0 (sym (ret.leaves y.0 y.1 ds.0 ds.1) ∙ ap (λ z. m.act z Empty ds.0) (sym shape) ∙ r.jumps.goes y.0 s.other ds.0 ds.1)

  jump_of : (k : ℕ) → IsNewJump m t u x k → IsJumpOf m u k
  jump_of k (inl e) = subst (IsJumpOf m u) (sym e) new_jump
  jump_of k (inr r) = ⊎_elim
      (λ p. absurd (old_returns k p r))
      (λ q. ⊎_elim
      (λ p. ⊎_elim
      (λ y.
      let same : x.originals.operation k ≡ (o m c returns t u call callee symbol d).operation k = ap (o m c returns t u call callee symbol d).operation (old_itself d.olds (length d.copied.operations) k y.2) in
      absurd (never_replaced k ((o m c returns t u call callee symbol d).operation k) (never_left m c returns t u call callee symbol d p.block p.le p.lt k y.0 y.1) (subst (Returns m t) same r.returns)))
      (λ y. led k y.0 y.1 r)
      p.either)
      (λ e. subst (IsJumpOf m u) (sym e) new_jump)
      q)
      (kind k r.jumps.live)
    where
      led : (k : ℕ) → length d.copied.operations ≤ k → k < length d.led.operations → IsReturnReplaced m t u x k → IsJumpOf m u k
      led k le lt r =
          let j = d.returns_led.jumps k le lt in
          let on = led_on m c returns t u call callee symbol d k (let f = d.copies.operation_count in omega (arith, f, le)) lt in
          let operands = on.operands ∙ j.jump.operands in
          record {
            head = j.head;
            values = operands_of d.copied (original_by d.olds (length d.copied.operations) k);
            target = d.may.prepared.after;
            jumps = j.jumps;
            row = record { row = on.row ∙ j.jump.row; operands = operands; successors = on.successors ∙ j.jump.successors };
            many = ap length (its_places.arguments d.may.prepared.after ∙ d.copies.arguments d.may.prepared.after after_in) ∙ d.may.prepared.fits ∙ sym r.count ∙ ap length operands;
          }

  pub copies_beside : AreCopiesBeside m t u x
  copies_beside = record {
    block = d.may.prepared.block;
    region = d.region;
    holds = d.may.prepared.holds;
    in_region = d.in_region;
    target = d.may.prepared.beside ∙ d.in_region;
    beside = λ b e. let p = between_is (length t.bodies) (length d.copied.bodies) b e in parent_on m c returns t u call callee symbol d b p.0 p.1;
    absent = λ b e. let p = between_is (length t.bodies) (length d.copied.bodies) b e in get_or_past t.block_parents b None (let f = d.tree.keys.block_parents in let g = p.0 in omega (arith, f, g));
    absent_jump = ap (λ z. z.head) (past_row t d.new (let f = new_past m c returns t u call callee symbol d in let g = d.copies.operation_count in omega (arith, f, g)));
    apart = λ b y e f same.
        let p = between_is (length t.bodies) (length d.copied.bodies) b e in
        let q = between_is (length t.bodies) (length d.copied.bodies) y f in
        let n = d.copies.block_count in
        let p1 = p.1 in
        let q1 = q.1 in
        original_apart blocks (length t.bodies) b y (d.tree.layouts.distinct d.may.inlinable.region) p.0 (omega (arith, n, p1)) q.0 (omega (arith, n, q1)) same;
    blocks = λ b is. elim (cases_lt b (length t.bodies)) [
      | inl lt ↦ inl (subst IsSome (its_places.block_parents b ∙ d.copies.block_parents b lt) is)
      | inr ge ↦ inr (is_between_of (length t.bodies) (length d.copied.bodies) b ge (block-within d.copied b d.copied_tree.keys (subst IsSome (its_places.block_parents b) is)))
    ];
    operations = λ k live. ⊎_elim
        (λ p. inl p.live)
        (λ q. inr (⊎_elim (λ p. inr (p.block, is_between_of (length t.bodies) (length d.copied.bodies) p.block p.le p.lt, p.parent)) (λ e. inl e) q))
        (kind k live);
    childless = λ k n. ap (λ z. z.regions) (jump_of k n).row.row;
    no_results = λ k n. ap (λ z. z.results) (jump_of k n).row.row;
    fits = λ k n. let j = jump_of k n in jump_fits m u k j.target j.head j.values j.jumps j.row j.many;
  }

  pub inlined : IsInlined m c t u call callee symbol
  inlined = record {
    parts = x;
    of_call = refl;
    of_callee = refl;
    inlined = call_inlined;
    copies = copies_beside;
    grows = let a = d.copies.operation_count in let b = d.returns_led.count in let e = d.is_made.count in let f = d.replaced.count in omega (arith, a, b, e, f);
    fewer = λ k lt live. ⊎_elim (λ p. p.live) (λ q. ⊎_elim (λ p. absurd (let f = p.from in omega (arith, f, lt))) (λ e. absurd (let f = new_past m c returns t u call callee symbol d in let g = d.copies.operation_count in omega (arith, e, f, g, lt))) q) (kind k live);
  }
