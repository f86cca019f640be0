-- What inlining a call asks of its steps, and that they make it.
use Rattle.std.proofs.Common.{◌≡◌, ◌⊎◌, inl, ⊎_elim, ℕ, ◌+◌, ◌<◌, ◌≤◌, Bool, List, [], ◌∷◌, length, map, Some, None, is_some, refl, sym, ap, ◌∙◌, subst, arith}
use Rattle.pliron_core.specs.declared.attrs.Head.{Head}
use Rattle.pliron_core.specs.Invariant.{IsTree}
use Rattle.pliron_core.specs.Tree.{Tree, In, IsBlock, first_of, last_of, operands_of, results_of, regions_of, body_of, block_parent_of, layout_of}
use Rattle.pliron_core.proofs.HoldingLemmas.{some_is, not_none}
use Rattle.pliron_core.proofs.NeighbourLemmas.{first_of-In}
use Rattle.pliron_core.proofs.TreeLemmas.{block-within}
use Rattle.pliron_laws.specs.Datum.{Datum, Meaning}
use Rattle.pliron_pass_linked.specs.Calls.{CallingConvention}
use Rattle.pliron_rewrite_copies.proofs.Maps.{in_map}
use Rattle.pliron_rewrite_calls.specs.CopyTables.{block_or_copy_in}
use Rattle.pliron_rewrite_calls.specs.Copying.{originals_of}
use Rattle.pliron_rewrite_calls.specs.CopySteps.{MayCopy}
use Rattle.pliron_rewrite_calls.specs.Inlining.{ReturnsAsMany, StaysWithin, MayBeCopied, MayInline, IsInlined}
use Rattle.pliron_rewrite_calls.specs.InliningSteps.{AreReturnsBare, AreCopiesLed, IsCallReplaced}
use Rattle.pliron_rewrite_calls.proofs.CopyLists.{original_in, original_apart}
use Rattle.pliron_rewrite_calls.proofs.InlinedCopies.{IsDone}
use Rattle.pliron_rewrite_calls.proofs.InlinedParts.{inlined}
use Rattle.pliron_rewrite_calls.proofs.ReturnLoops.{AreReady, copy_of, copies_new}

childless_in : (m : Meaning) (returns : Head → Bool) (t : Tree) (n : ℕ) (xs : List ℕ) → MayBeCopied m returns t n xs → (k : ℕ) → In k xs → regions_of t k ≡ []
childless_in m returns t n [] p k i = absurd i
childless_in m returns t n (x ∷ []) p k i = ⊎_elim (λ e. ap (regions_of t) e ∙ p.0) (λ z. absurd z) i
childless_in m returns t n (x ∷ y ∷ ys) p k i = ⊎_elim (λ e. ap (regions_of t) e ∙ p.0) (childless_in m returns t n (y ∷ ys) p.2 k) i

end_of : (m : Meaning) (returns : Head → Bool) (t : Tree) (n : ℕ) (xs : List ℕ) → MayBeCopied m returns t n xs → (k : ℕ) → last_of None xs ≡ Some k → (regions_of t k ≡ []) × (ReturnsAsMany m returns t n k ⊎ StaysWithin m returns t k)
end_of m returns t n [] p k e = absurd p
end_of m returns t n (x ∷ []) p k e = subst (λ z. (regions_of t z ≡ []) × (ReturnsAsMany m returns t n z ⊎ StaysWithin m returns t z)) (some_is e) p
end_of m returns t n (x ∷ y ∷ ys) p k e = end_of m returns t n (y ∷ ys) p.2 k e

module _ (m : Meaning) (c : CallingConvention) (returns : Head → Bool) (t : Tree) (call callee : ℕ) (symbol : Datum) (may : MayInline m c returns t call callee symbol) (w : IsTree t) where
  pub returns_bare : (b : ℕ) → In b (layout_of t may.inlinable.region) → AreReturnsBare returns t b
  returns_bare b i k h last head is =
      let e = end_of m returns t (length (results_of t call)) (body_of t b) (may.inlinable.copied b (w.layouts.owned b may.inlinable.region i)) k last in
      ⊎_elim (λ q. (q.bare, e.0)) (λ q. absurd (q.no_return h head is)) e.1

  pub may_copy : (region : ℕ) → block_parent_of t may.prepared.block ≡ Some region → MayCopy (record { tree = t; blocks = layout_of t may.inlinable.region; region = region })
  may_copy region e = record {
    tree = w;
    live = λ b i. ap is_some (w.layouts.owned b may.inlinable.region i);
    apart = w.layouts.distinct may.inlinable.region;
    childless = λ b k i j. childless_in m returns t (length (results_of t call)) (body_of t b) (may.inlinable.copied b (w.layouts.owned b may.inlinable.region i)) k j;
    into = w.joined.placed may.prepared.block region e;
  }

  pub after_block : IsBlock t may.prepared.after
  after_block = w.joined.successors may.prepared.jump may.prepared.after (subst (In may.prepared.after) (sym may.prepared.jumps.leads) (inl refl))

  pub not_empty : 0 < length (layout_of t may.inlinable.region)
  not_empty = go (layout_of t may.inlinable.region) may.inlinable.first
    where
      go : (xs : List ℕ) → first_of xs None ≡ Some may.inlinable.entry → 0 < length xs
      go [] e = absurd (not_none e)
      go (x ∷ xs) e = omega arith

  module _ (region entry new : ℕ) (in_region : block_parent_of t may.prepared.block ≡ Some region) (v u : Tree) (wu : IsTree u) (first : first_of (layout_of t may.inlinable.region) None ≡ Some entry) (l : AreCopiesLed m returns t v region (layout_of t may.inlinable.region) may.prepared.after (operands_of t call) entry new) (r : IsCallReplaced v u may.prepared.block call may.prepared.jump new) where
    abbrev os : List ℕ
    os = layout_of t may.inlinable.region

    abbrev copy : ℕ → ℕ
    copy = block_or_copy_in l.copies

    ready : AreReady t l.copied region (layout_of t may.inlinable.region) l.copies
    ready = record { before = w; tree = l.tree; distinct = w.layouts.distinct may.inlinable.region; copied = l.are_copied; known = l.known; grown = l.grown }

    of_copy : (b : ℕ) → In b (layout_of t may.inlinable.region) → (length t.bodies ≤ block_or_copy_in l.copies b) × ((originals_of t (layout_of t may.inlinable.region)).block (block_or_copy_in l.copies b) ≡ b) × IsBlock l.copied (block_or_copy_in l.copies b)
    of_copy = copy_of t l.copied region (layout_of t may.inlinable.region) l.copies ready

    among : (b : ℕ) → IsBlock l.copied b → b < length t.bodies + length (layout_of t may.inlinable.region)
    among b is = let x = block-within l.copied b l.tree.keys is in let y = l.are_copied.block_count in omega (arith, x, y)

    all : (b : ℕ) → length t.bodies ≤ b → b < length l.copied.bodies → In b (map (block_or_copy_in l.copies) (layout_of t may.inlinable.region))
    all b le lt =
        let n = l.are_copied.block_count in
        let under : b < length t.bodies + length os = omega (arith, n, lt) in
        let i = original_in os (length t.bodies) b le under in
        let p = of_copy ((originals_of t os).block b) i in
        let same : copy ((originals_of t os).block b) ≡ b = original_apart os (length t.bodies) (copy ((originals_of t os).block b)) b (w.layouts.distinct may.inlinable.region) p.0 (among (copy ((originals_of t os).block b)) p.2) le under p.1 in
        subst (λ z. In z (map copy os)) same (in_map copy os ((originals_of t os).block b) i)

    entry_in : In entry (layout_of t may.inlinable.region)
    entry_in = first_of-In entry (layout_of t may.inlinable.region) first

    done : IsDone m c returns t u call callee symbol
    done = record {
      may = may;
      tree = w;
      region = region;
      in_region = in_region;
      copied = l.copied;
      copied_tree = l.tree;
      copies = l.are_copied;
      grown = l.grown;
      led = l.led_back.led;
      blocks = map (block_or_copy_in l.copies) (layout_of t may.inlinable.region);
      olds = l.led_back.olds;
      returns_led = l.led_back.returns_led;
      all_new = copies_new t l.copied region (layout_of t may.inlinable.region) l.copies ready;
      all = all;
      made = v;
      new = new;
      head = l.led_back.head;
      jumps = l.led_back.jumps;
      entry = block_or_copy_in l.copies entry;
      entry_new = (of_copy entry entry_in).0;
      entry_in = block-within l.copied (block_or_copy_in l.copies entry) l.tree.keys (of_copy entry entry_in).2;
      entry_is = (of_copy entry entry_in).1 ∙ some_is (sym first ∙ may.inlinable.first);
      is_made = l.led_back.made;
      replaced = r;
      done_tree = wu;
    }

    pub call_is_inlined : IsInlined m c t u call callee symbol
    call_is_inlined = inlined m c returns t u call callee symbol done
