-- Once the copies are led back and the new jump is made, the call may be replaced.
use Rattle.std.proofs.Common.{◌≡◌, ◌≢◌, inl, inr, ℕ, ◌<◌, ◌≤◌, Bool, List, [], ◌∷◌, length, map, Some, None, IsSome, is_some, slice_get, refl, sym, ap, ◌∙◌, subst, arith}
use Rattle.std.proofs.lemmas.Bool.{cases_eq, cases_lt}
use Rattle.std.proofs.lemmas.Option.{slice_get_within}
use Rattle.pliron_core.specs.declared.attrs.Head.{Head}
use Rattle.pliron_core.specs.declared.context.Def.TheVariants.{Result}
use Rattle.pliron_core.specs.Invariant.{IsTree}
use Rattle.pliron_core.specs.Tree.{Tree, In, IsLive, IsBlock, first_of, last_of, next_in, up_from, head_of, operands_of, successors_of, results_of, regions_of, parent_of, body_of, block_parent_of, layout_of}
use Rattle.pliron_core.specs.Reads.{next_of}
use Rattle.pliron_core.proofs.HoldingLemmas.{some_is, slice_in}
use Rattle.pliron_core.proofs.StandingLemmas.{used_live}
use Rattle.pliron_core.proofs.TreeLemmas.{live-within, block-within}
use Rattle.pliron_laws.specs.Datum.{Datum, Meaning}
use Rattle.pliron_pass_linked.specs.Calls.{CallingConvention}
use Rattle.pliron_rewrite_copies.specs.Copies.{Originals}
use Rattle.pliron_rewrite_copies.proofs.Maps.{in_map}
use Rattle.pliron_rewrite_calls.specs.CopyTables.{block_or_copy_in}
use Rattle.pliron_rewrite_calls.specs.Copying.{original_by, parts_of, originals_of}
use Rattle.pliron_rewrite_calls.specs.CopySteps.{MayCopy}
use Rattle.pliron_rewrite_calls.specs.Inlining.{MayInline, IsInlined}
use Rattle.pliron_rewrite_calls.specs.InliningSteps.{IsSameAt, IsJumpMade, AreReturnsBare, AreReturnsLed, AreCopiesLed, IsCallReplaced}
use Rattle.pliron_rewrite_calls.proofs.CopyLists.{old_itself, original_in}
use Rattle.pliron_rewrite_calls.proofs.Growing.{no_some, new_only}
use Rattle.pliron_rewrite_calls.proofs.InliningAsked.{may_copy, returns_bare, after_block, not_empty, call_is_inlined}
use Rattle.pliron_rewrite_calls.proofs.JumpsMade.{as_before_both, jump_apart}
use Rattle.pliron_rewrite_calls.proofs.ReturnLoops.{AreReady, copies_new}

-- what the replacing of the call asks
pub record MayReplace (v : Tree) (block call jump new : ℕ) : Type 0 where
  pub holds : parent_of v call ≡ Some block
  pub behind : next_of v call ≡ Some jump
  pub last : last_of None (body_of v block) ≡ Some jump
  pub plain : regions_of v call ≡ []
  pub bare : (results_of v jump ≡ []) × (regions_of v jump ≡ [])
  pub used_there : (k x : ℕ) → In x (results_of v call) → In x (operands_of v k) → k ≡ jump
  pub stands : IsLive v new
  pub free : parent_of v new ≡ None
  pub childless : regions_of v new ≡ []

module _ (m : Meaning) (c : CallingConvention) (returns : Head → Bool) (t : Tree) (call callee : ℕ) (symbol : Datum) (may : MayInline m c returns t call callee symbol) (w : IsTree t) where
  module _ (region entry new : ℕ) (v : Tree) (wv : IsTree v) (in_region : block_parent_of t may.prepared.block ≡ Some region) (l : AreCopiesLed m returns t v region (layout_of t may.inlinable.region) may.prepared.after (operands_of t call) entry new) where
    abbrev os : List ℕ
    os = layout_of t may.inlinable.region

    abbrev o : Originals
    o = originals_of t (layout_of t may.inlinable.region)

    abbrev led : Tree
    led = l.led_back.led

    abbrev olds : List ℕ
    olds = l.led_back.olds

    ready : AreReady t l.copied region (layout_of t may.inlinable.region) l.copies
    ready = record { before = w; tree = l.tree; distinct = w.layouts.distinct may.inlinable.region; copied = l.are_copied; known = l.known; grown = l.grown }

    returns_led : AreReturnsLed m returns l.copied l.led_back.led may.prepared.after (map (block_or_copy_in l.copies) (layout_of t may.inlinable.region)) l.led_back.olds
    returns_led = l.led_back.returns_led

    made : IsJumpMade l.led_back.led v new l.led_back.head (operands_of t call) (block_or_copy_in l.copies entry ∷ [])
    made = l.led_back.made

    -- ---- what stood stays

    copies_new_here : (b : ℕ) → In b (map (block_or_copy_in l.copies) (layout_of t may.inlinable.region)) → length t.bodies ≤ b
    copies_new_here = copies_new t l.copied region (layout_of t may.inlinable.region) l.copies ready

    olds_new : (k : ℕ) → In k l.led_back.olds → length t.operations ≤ k
    olds_new k i = let f = returns_led.from k i in new_only t l.copied region w l.grown l.tree k f.block f.holds (copies_new_here f.block f.listed)

    stays : (k : ℕ) → k < length t.operations → IsSameAt t v k
    stays k lt =
        let n = l.are_copied.operation_count in
        let p = returns_led.count in
        let q = made.key in
        let copied : IsSameAt t l.copied k = record { row = l.are_copied.rows k lt; operands = l.are_copied.operands k lt; successors = l.are_copied.successors k lt; parent = l.are_copied.parents k lt } in
        as_before_both t l.copied v k copied
        (as_before_both l.copied led v k (returns_led.others k (omega (arith, n, lt)) (λ i. let f = olds_new k i in omega (arith, f, lt)))
        (made.others k (λ e. omega (arith, e, q, p, n, lt))))

    body_stays : (b : ℕ) → b < length t.bodies → body_of v b ≡ body_of t b
    body_stays b lt = made.bodies b ∙ returns_led.bodies b (λ i. let f = copies_new_here b i in omega (arith, f, lt)) ∙ l.are_copied.bodies b lt

    call_in : call < length t.operations
    call_in = live-within t call may.calls.live

    jump_in : may.prepared.jump < length t.operations
    jump_in = live-within t may.prepared.jump may.prepared.jumps.live

    block_in : may.prepared.block < length t.bodies
    block_in = block-within t may.prepared.block w.keys (ap is_some in_region)

    holds : parent_of v call ≡ Some may.prepared.block
    holds = (stays call call_in).parent ∙ may.prepared.holds

    behind : next_of v call ≡ Some may.prepared.jump
    behind = ap (λ p. up_from p (λ b. next_in call (body_of v b))) holds ∙ ap (next_in call) (body_stays may.prepared.block block_in) ∙ sym (ap (λ p. up_from p (λ b. next_in call (body_of t b))) may.prepared.holds) ∙ may.prepared.behind

    last : last_of None (body_of v may.prepared.block) ≡ Some may.prepared.jump
    last = ap (last_of None) (body_stays may.prepared.block block_in) ∙ may.prepared.last

    new_lives : IsLive v new
    new_lives = subst IsSome (sym (ap (λ z. z.head) made.jump.row)) refl

    apart : call ≢ may.prepared.jump
    apart = jump_apart v may.prepared.block call may.prepared.jump new wv holds behind last made.free new_lives

    -- ---- nothing new uses what stood

    fresh : (k x : ℕ) → length t.operations ≤ k → In x (operands_of l.copied k) → length t.definitions ≤ x
    fresh k x ge i =
        let live = used_live l.copied l.tree.joined k x i in
        let copy = l.are_copied.copies k ge (live-within l.copied k live) in
        let p = l.grown.placed k ge live in
        let less = block-within l.copied p.0 l.tree.keys (l.tree.joined.all_in_place k p.0 p.1).1 in
        let ge' = p.2 in
        let home : block_parent_of t (o.block p.0) ≡ Some may.inlinable.region = w.layouts.owned (o.block p.0) may.inlinable.region (original_in os (length t.bodies) p.0 ge' (let n = l.are_copied.block_count in omega (arith, n, less))) in
        let there : In (o.operation k) (body_of t (o.block p.0)) = subst (In (o.operation k)) (sym (l.are_copied.block_copies p.0 ge' less).body) (in_map o.operation (body_of l.copied p.0) k (l.tree.bodies.listed k p.0 p.1)) in
        let own = may.inlinable.own (o.block p.0) (o.operation k) (o.value x) home there (subst (In (o.value x)) (sym copy.same.operands) (in_map o.value (operands_of l.copied k) x i)) in
        elim (cases_lt x (length t.definitions)) [
          | inl lt ↦ absurd (l.are_copied.named k x ge i (subst (λ z. In z (parts_of t os).values) (old_itself (parts_of t os).values (length t.definitions) x lt) own))
          | inr past ↦ past
        ]

    fresh_after : (k x : ℕ) → length t.operations ≤ k → k ≢ new → In x (operands_of v k) → length t.definitions ≤ x
    fresh_after k x ge ne i =
        let at = made.others k ne in
        let live = used_live v wv.joined k x i in
        let less : k < length l.led_back.led.operations = let a = live-within v k live in let b = made.count in let e = made.key in omega (arith, a, b, e, ne) in
        elim (cases_lt k (length l.copied.operations)) [
          | inl lt ↦
              let out : In k l.led_back.olds → ⊥ = λ j. no_some (head_of v k) (ap (λ z. z.head) (at.row ∙ returns_led.gone k j)) live in
              fresh k x ge (subst (In x) (at.operands ∙ (returns_led.others k lt out).operands) i)
          | inr past ↦
              let j = returns_led.jumps k past less in
              let here = original_in olds (length l.copied.operations) k past (let f = returns_led.count in omega (arith, f, less)) in
              fresh (original_by olds (length l.copied.operations) k) x (olds_new (original_by olds (length l.copied.operations) k) here) (subst (In x) (at.operands ∙ j.jump.operands) i)
        ]

    used_there : (k x : ℕ) → In x (results_of v call) → In x (operands_of v k) → k ≡ may.prepared.jump
    used_there k x i j =
        let r : In x (results_of t call) = subst (In x) (ap (λ z. z.results) (stays call call_in).row) i in
        let s = slice_in (results_of t call) x r in
        let old = slice_get_within t.definitions x (Result call s.0) (w.joined.results call s.0 x s.1) in
        elim (cases_lt k (length t.operations)) [
          | inl lt ↦ may.prepared.used_there k x r (subst (In x) (stays k lt).operands j)
          | inr ge ↦ elim (cases_eq k new) [
            | inl e ↦ absurd (apart (may.prepared.used_there call x r (subst (In x) (ap (operands_of v) e ∙ made.jump.operands) j)))
            | inr ne ↦ absurd (let f = fresh_after k x ge ne j in omega (arith, f, old))
          ]
        ]

    pub may_replace : MayReplace v may.prepared.block call may.prepared.jump new
    may_replace = record {
      holds = holds;
      behind = behind;
      last = last;
      plain = ap (λ z. z.regions) (stays call call_in).row ∙ may.plain;
      bare = (ap (λ z. z.results) (stays may.prepared.jump jump_in).row ∙ may.prepared.bare.0, ap (λ z. z.regions) (stays may.prepared.jump jump_in).row ∙ may.prepared.bare.1);
      used_there = used_there;
      stands = new_lives;
      free = made.free;
      childless = ap (λ z. z.regions) made.jump.row;
    }

  -- ---- in the words of the call

  -- what it reads is what may be inlined
  module _ (block jump after region inner : ℕ) (blocks : List ℕ) (at : Some block ≡ parent_of t call) (next : Some jump ≡ next_of t call) (up : Some region ≡ block_parent_of t block) (to : slice_get (successors_of t jump) 0 ≡ Some after) (has : slice_get (regions_of t callee) 0 ≡ Some inner) (listed : blocks ≡ layout_of t inner) where
    block_is : block ≡ may.prepared.block
    block_is = some_is (at ∙ may.prepared.holds)

    jump_is : jump ≡ may.prepared.jump
    jump_is = some_is (next ∙ may.prepared.behind)

    after_is : after ≡ may.prepared.after
    after_is = some_is (sym to ∙ ap (λ k. slice_get (successors_of t k) 0) jump_is ∙ ap (λ xs. slice_get xs 0) may.prepared.jumps.leads)

    blocks_are : blocks ≡ layout_of t may.inlinable.region
    blocks_are = listed ∙ ap (layout_of t) (some_is (sym has ∙ ap (λ xs. slice_get xs 0) may.inlinable.runs.holds))

    in_region : block_parent_of t may.prepared.block ≡ Some region
    in_region = sym (ap (block_parent_of t) block_is) ∙ sym up

    pub copies_may : MayCopy (record { tree = t; blocks = blocks; region = region })
    copies_may = subst (λ (xs : List ℕ). MayCopy (record { tree = t; blocks = xs; region = region })) (sym blocks_are) (may_copy m c returns t call callee symbol may w region in_region)

    pub bare_blocks : (b : ℕ) → In b blocks → AreReturnsBare returns t b
    bare_blocks b i = returns_bare m c returns t call callee symbol may w b (subst (In b) blocks_are i)

    pub after_is_block : IsBlock t after
    after_is_block = subst (IsBlock t) (sym after_is) (after_block m c returns t call callee symbol may w)

    pub some_blocks : 0 < length blocks
    some_blocks = subst (λ (xs : List ℕ). 0 < length xs) (sym blocks_are) (not_empty m c returns t call callee symbol may w)

    pub each_block : (b : ℕ) → In b blocks → IsBlock t b
    each_block = copies_may.live

    module _ (entry new : ℕ) (v : Tree) (wv : IsTree v) (l : AreCopiesLed m returns t v region blocks after (operands_of t call) entry new) where
      these : AreCopiesLed m returns t v region (layout_of t may.inlinable.region) may.prepared.after (operands_of t call) entry new
      these = subst (λ z. AreCopiesLed m returns t v region (layout_of t may.inlinable.region) z (operands_of t call) entry new) after_is (subst (λ (xs : List ℕ). AreCopiesLed m returns t v region xs after (operands_of t call) entry new) blocks_are l)

      pub replaceable : MayReplace v block call jump new
      replaceable = subst (λ b. MayReplace v b call jump new) (sym block_is) (subst (λ k. MayReplace v may.prepared.block call k new) (sym jump_is) (may_replace region entry new v wv in_region these))

      pub it_is_inlined : (u : Tree) → IsTree u → first_of blocks None ≡ Some entry → IsCallReplaced v u block call jump new → IsInlined m c t u call callee symbol
      it_is_inlined u wu first r =
          let first' : first_of (layout_of t may.inlinable.region) None ≡ Some entry = sym (ap (λ xs. first_of xs None) blocks_are) ∙ first in
          let r' : IsCallReplaced v u may.prepared.block call may.prepared.jump new = subst (λ b. IsCallReplaced v u b call may.prepared.jump new) block_is (subst (λ k. IsCallReplaced v u block call k new) jump_is r) in
          call_is_inlined m c returns t call callee symbol may w region entry new in_region v u wu first' these r'
