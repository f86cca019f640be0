-- Uses that were dominated are so after a call was inlined, those of the copy as those of the callee.
use Rattle.std.proofs.Common.{◌≡◌, inl, inr, ⊎_elim, ℕ, true, List, [], ◌∷◌, ◌++◌, map, Option, Some, None, IsSome, refl, sym, ap, ap₂, ◌∙◌, subst}
use Rattle.pliron_core.specs.declared.context.Def.{Def}
use Rattle.pliron_core.specs.declared.context.Def.TheVariants.{Result, Argument}
use Rattle.pliron_core.specs.Tree.{Tree, In, IsBlock, IsWithin, first_of, regions_of, parent_of, body_of, block_parent_of, layout_of, definition_of, up_from}
use Rattle.pliron_core.specs.Invariant.{IsTree}
use Rattle.pliron_core.proofs.HoldingLemmas.{some_is, not_none, in_slice, slot_is}
use Rattle.pliron_core.proofs.ListLemmas.{In-left}
use Rattle.pliron_core.proofs.NeighbourLemmas.{first_of-In}
use Rattle.pliron_laws.specs.Datum.{Datum, Meaning}
use Rattle.pliron_laws.specs.Paths.{Path}
use Rattle.pliron_laws.specs.Root.{defining_block, HasPassed, IsDominated}
use Rattle.pliron_pass_linked.specs.Calls.{CallingConvention}
use Rattle.pliron_rewrite_copies.proofs.Maps.{from_map, map_append, head_same, tail_same, not_empty}
use Rattle.pliron_rewrite_inlining.specs.Inlined.{InlinedCall, HasNewJump, IsCallInlined}
use Rattle.pliron_rewrite_inlining.proofs.InlinedWays.{ways_back, CopyWay, copy_ways}

-- what stands before an operation that was there stood before it
pub split_back : (x : InlinedCall) (xs ys done rest : List ℕ) (k : ℕ) → HasNewJump x xs ys → (k ≡ x.new → ⊥) → ys ≡ done ++ k ∷ rest → (rest' : List ℕ) × (xs ≡ done ++ k ∷ rest')
split_back x [] [] [] rest k j new e = absurd (nothing e)
  where
    nothing : [] ≡ k ∷ rest → ⊥
    nothing q = cc
split_back x [] [] (d ∷ done) rest k j new e = absurd (nothing e)
  where
    nothing : [] ≡ d ∷ (done ++ k ∷ rest) → ⊥
    nothing q = cc
split_back x [] (y ∷ ys) done rest k j new e = absurd j
split_back x (a ∷ xs) [] done rest k j new e = absurd j
split_back x (a ∷ xs) (y ∷ ys) [] rest k (inl j) new e = let f : y ≡ k = cc in (xs, ap (λ z. z ∷ xs) (sym j.2 ∙ f))
split_back x (a ∷ xs) (y ∷ ys) (d ∷ done) rest k (inl j) new e =
    let f : y ≡ d = cc in
    let g : ys ≡ done ++ k ∷ rest = cc in
    let r = split_back x xs ys done rest k j.3 new g in
    (r.0, ap₂ (λ z l. z ∷ l) (sym j.2 ∙ f) r.1)
split_back x (a ∷ xs) (y ∷ ys) [] rest k (inr j) new e = let f : y ≡ k = cc in absurd (new (sym f ∙ j.2))
split_back x (a ∷ xs) (y ∷ ys) (d ∷ []) rest k (inr j) new e = absurd (longer (sym j.3 ∙ tail e))
  where
    tail : y ∷ ys ≡ d ∷ k ∷ rest → ys ≡ k ∷ rest
    tail q = cc

    longer : [] ≡ k ∷ rest → ⊥
    longer q = cc
split_back x (a ∷ xs) (y ∷ ys) (d ∷ b ∷ done) rest k (inr j) new e = absurd (longer (sym j.3 ∙ tail e))
  where
    tail : y ∷ ys ≡ d ∷ b ∷ (done ++ k ∷ rest) → ys ≡ b ∷ (done ++ k ∷ rest)
    tail q = cc

    longer : [] ≡ b ∷ (done ++ k ∷ rest) → ⊥
    longer q = cc

-- what stands before the new jump stood before the call
pub new_split_back : (x : InlinedCall) (xs ys done rest : List ℕ) → HasNewJump x xs ys → (In x.new xs → ⊥) → ys ≡ done ++ x.new ∷ rest → (rest' : List ℕ) × (xs ≡ done ++ x.call ∷ rest')
new_split_back x [] [] [] rest j out e = absurd (not_empty x.new rest e)
new_split_back x [] [] (d ∷ done) rest j out e = absurd (not_empty d (done ++ x.new ∷ rest) e)
new_split_back x [] (y ∷ ys) done rest j out e = absurd j
new_split_back x (a ∷ xs) [] done rest j out e = absurd j
new_split_back x (a ∷ xs) (y ∷ ys) [] rest (inl j) out e = absurd (out (inl (sym (head_same y x.new ys rest e) ∙ j.2)))
new_split_back x (a ∷ xs) (y ∷ ys) (d ∷ done) rest (inl j) out e =
    let r = new_split_back x xs ys done rest j.3 (λ i. out (inr i)) (tail_same y d ys (done ++ x.new ∷ rest) e) in
    (r.0, ap₂ (λ z l. z ∷ l) (sym j.2 ∙ head_same y d ys (done ++ x.new ∷ rest) e) r.1)
new_split_back x (a ∷ xs) (y ∷ ys) [] rest (inr j) out e = (xs, ap (λ z. z ∷ xs) j.0)
new_split_back x (a ∷ xs) (y ∷ ys) (d ∷ []) rest (inr j) out e = absurd (not_empty x.new rest (sym j.3 ∙ tail_same y d ys (x.new ∷ rest) e))
new_split_back x (a ∷ xs) (y ∷ ys) (d ∷ b ∷ done) rest (inr j) out e = absurd (not_empty b (done ++ x.new ∷ rest) (sym j.3 ∙ tail_same y d ys (b ∷ (done ++ x.new ∷ rest)) e))

module _ (m : Meaning) (c : CallingConvention) (t u : Tree) (x : InlinedCall) (symbol : Datum) (w : IsTree t) (w' : IsTree u) (h : IsCallInlined m c t u x symbol) (a : ℕ) (holds : parent_of t x.call ≡ Some a) (target : block_parent_of t x.after ≡ block_parent_of t a) (apart : (b : ℕ) → x.copied b ≡ true → IsBlock t b → ⊥) where
  -- a value that is used elsewhere, as the call's results aren't, was passed where it is passed on a way that passes no less
  passed_after : (v : ℕ) (d : Option Def) → ((q i : ℕ) → d ≡ Some (Result q i) → parent_of u q ≡ parent_of t q) → (before passed done : List ℕ) (b : ℕ) → ((z : ℕ) → In z before → In z passed) → HasPassed t d before b done → HasPassed u d passed b done
  passed_after v None same before passed done b more p = p
  passed_after v (Some (Argument z i)) same before passed done b more p = ⊎_elim (λ e. inl e) (λ j. inr (more z j)) p
  passed_after v (Some (Result q i)) same before passed done b more p = ⊎_elim (λ j. inl j) (λ j. inr (j.0, same q i refl ∙ j.1, more j.0 j.2)) p

  -- a use that was dominated is, where an operation is in the place of what was around it, behind what stood before that,
  -- and what defines the value stands as before
  pub still_dominated : (user user' v around : ℕ) (y : IsDominated t user v) → IsWithin u around user' → parent_of u around ≡ parent_of t y.around
      → ((done rest : List ℕ) → body_of u y.block ≡ done ++ around ∷ rest → (rest' : List ℕ) × (body_of t y.block ≡ done ++ y.around ∷ rest'))
      → definition_of u v ≡ definition_of t v → ((q i : ℕ) → definition_of t v ≡ Some (Result q i) → parent_of u q ≡ parent_of t q) → IsDominated u user' v
  still_dominated user user' v around y within stands old same_def same_parent = record {
    around = around;
    holds = within;
    block = y.block;
    region = y.region;
    in_block = stands ∙ y.in_block;
    in_region = h.block_parents y.block here ∙ y.in_region;
    defined = ap (λ d. up_from (defining_block u d) (λ b. block_parent_of u b)) same_def ∙ home (definition_of t v) refl y.defined;
    passes = λ entry passed done rest first way split. subst (λ d. HasPassed u d passed y.block done) (sym same_def) (passes entry passed done rest first way split);
  }
    where
      here : IsBlock t y.block
      here = subst IsSome (sym y.in_region) refl

      home : (d : Option Def) → definition_of t v ≡ d → up_from (defining_block t d) (λ b. block_parent_of t b) ≡ Some y.region → up_from (defining_block u d) (λ b. block_parent_of u b) ≡ Some y.region
      home None e f = absurd (not_none f)
      home (Some (Argument b i)) e f = h.block_parents b (subst IsSome (sym f) refl) ∙ f
      home (Some (Result q i)) e f = ap (λ o. up_from o (λ b. block_parent_of u b)) (same_parent q i e) ∙ go (parent_of t q) f
        where
          go : (o : Option ℕ) → up_from o (λ b. block_parent_of t b) ≡ Some y.region → up_from o (λ b. block_parent_of u b) ≡ Some y.region
          go None g = absurd (not_none g)
          go (Some b) g = h.block_parents b (subst IsSome (sym g) refl) ∙ g

      first_before : (entry : ℕ) → first_of (layout_of u y.region) None ≡ Some entry → first_of (layout_of t y.region) None ≡ Some entry
      first_before entry e = let s = slot_is t y.region (w.joined.placed y.block y.region y.in_region) in sym (h.entries s.0.op y.region (in_slice (regions_of t s.0.op) s.0.index y.region s.2)) ∙ e

      passes : (entry : ℕ) (passed done rest : List ℕ) → first_of (layout_of u y.region) None ≡ Some entry → Path u entry y.block passed → body_of u y.block ≡ done ++ around ∷ rest → HasPassed u (definition_of t v) passed y.block done
      passes entry passed done rest first way split = ⊎_elim
          (λ z. passed_after v (definition_of t v) same_parent z.1.before passed done y.block z.1.fewer (y.passes entry z.1.before done b.0 (first_before entry first) z.1.path b.1))
          (λ z. absurd (apart y.block z.0 here))
          (ways_back m c t u x symbol w w' h a holds target entry y.block passed (subst IsSome (sym (w.layouts.owned entry y.region (first_of-In entry (layout_of t y.region) (first_before entry first)))) refl) way)
        where
          b : (rest' : List ℕ) × (body_of t y.block ≡ done ++ y.around ∷ rest')
          b = old done rest split

  -- a value of a copied block, and the one that it is a copy of
  pub data IsValueCopy (v : ℕ) : Type 0 where
    CopiedArgument : (d i : ℕ) → x.copied d ≡ true → definition_of u v ≡ Some (Argument d i) → definition_of t (x.originals.value v) ≡ Some (Argument (x.originals.block d) i) → IsValueCopy v
    CopiedResult : (q i d : ℕ) → x.copied d ≡ true → parent_of u q ≡ Some d → parent_of t (x.originals.operation q) ≡ Some (x.originals.block d) → definition_of u v ≡ Some (Result q i) → definition_of t (x.originals.value v) ≡ Some (Result (x.originals.operation q) i) → IsValueCopy v

  -- copied blocks, and operations in them, have originals of their own; the blocks are beside the call
  module _ (blocks_apart : (d e : ℕ) → x.copied d ≡ true → x.copied e ≡ true → x.originals.block d ≡ x.originals.block e → d ≡ e)
      (operations_apart : (k j d e : ℕ) → x.copied d ≡ true → x.copied e ≡ true → parent_of u k ≡ Some d → parent_of u j ≡ Some e → x.originals.operation k ≡ x.originals.operation j → k ≡ j)
      (to : ℕ) (beside : (b : ℕ) → x.copied b ≡ true → block_parent_of u b ≡ Some to) where
    passed_copy : (v b : ℕ) → IsValueCopy v → x.copied b ≡ true → (inner done : List ℕ) → ((d : ℕ) → In d inner → x.copied d ≡ true) → ((q : ℕ) → In q done → parent_of u q ≡ Some b)
        → HasPassed t (definition_of t (x.originals.value v)) (map x.originals.block inner) (x.originals.block b) (map x.originals.operation done) → HasPassed u (definition_of u v) inner b done
    passed_copy v b (CopiedArgument d i copied du dt) e inner done copies stands p = subst (λ z. HasPassed u z inner b done) (sym du) (⊎_elim
        (λ f. inl (blocks_apart d b copied e f))
        (λ j. let y = from_map x.originals.block inner (x.originals.block d) j in inr (subst (λ z. In z inner) (blocks_apart y.0 d (copies y.0 y.1) copied y.2) y.1))
        (subst (λ z. HasPassed t z (map x.originals.block inner) (x.originals.block b) (map x.originals.operation done)) dt p))
    passed_copy v b (CopiedResult q i d copied home original du dt) e inner done copies stands p = subst (λ z. HasPassed u z inner b done) (sym du) (⊎_elim
        (λ j. let y = from_map x.originals.operation done (x.originals.operation q) j in inl (subst (λ z. In z done) (operations_apart y.0 q b d e copied (stands y.0 y.1) home y.2) y.1))
        (λ j. let y = from_map x.originals.block inner j.0 j.2 in inr (d, home, subst (λ z. In z inner) (blocks_apart y.0 d (copies y.0 y.1) copied (y.2 ∙ some_is (sym j.1 ∙ original))) y.1))
        (subst (λ z. HasPassed t z (map x.originals.block inner) (x.originals.block b) (map x.originals.operation done)) dt p))

    more_passed : (v b : ℕ) (d : Option Def) (inner outer done : List ℕ) → HasPassed u d inner b done → HasPassed u d (inner ++ outer) b done
    more_passed v b None inner outer done p = p
    more_passed v b (Some (Argument z i)) inner outer done p = ⊎_elim (λ e. inl e) (λ j. inr (In-left z inner outer j)) p
    more_passed v b (Some (Result q i)) inner outer done p = ⊎_elim (λ j. inl j) (λ j. inr (j.0, j.1, In-left j.0 inner outer j.2)) p

    home_of_copy : (v : ℕ) → IsValueCopy v → up_from (defining_block u (definition_of u v)) (λ d. block_parent_of u d) ≡ Some to
    home_of_copy v (CopiedArgument d i copied du dt) = ap (λ z. up_from (defining_block u z) (λ d. block_parent_of u d)) du ∙ beside d copied
    home_of_copy v (CopiedResult q i d copied home original du dt) = ap (λ z. up_from (defining_block u z) (λ d. block_parent_of u d)) du ∙ ap (λ z. up_from z (λ d. block_parent_of u d)) home ∙ beside d copied

    -- a use in a copy is dominated as its original in the callee is
    pub copy_dominated : (k v b : ℕ) → x.copied b ≡ true → parent_of u k ≡ Some b → IsValueCopy v → (y : IsDominated t (x.originals.operation k) (x.originals.value v)) → y.around ≡ x.originals.operation k → y.block ≡ x.originals.block b → ((e : ℕ) → first_of (layout_of u to) None ≡ Some e → IsBlock t e) → IsDominated u k v
    copy_dominated k v b copied stands value y around block entry_there = record {
      around = k;
      holds = inl refl;
      block = b;
      region = to;
      in_block = stands;
      in_region = beside b copied;
      defined = home_of_copy v value;
      passes = λ entry passed done rest first way split. passes entry passed done rest (entry_there entry first) way split;
    }
      where
        passes : (entry : ℕ) (passed done rest : List ℕ) → IsBlock t entry → Path u entry b passed → body_of u b ≡ done ++ k ∷ rest → HasPassed u (definition_of u v) passed b done
        passes entry passed done rest there way split = subst (λ l. HasPassed u (definition_of u v) l b done) (sym z.split) (more_passed v b (definition_of u v) z.inner (a ∷ z.outer) done (passed_copy v b value copied z.inner done z.copies (λ q i. w'.bodies.owned q b (subst (In q) (sym split) (In-left q done (k ∷ rest) i))) p))
          where
            z : CopyWay m c t u x symbol w w' h a holds target apart b passed
            z = copy_ways m c t u x symbol w w' h a holds target apart entry b passed there way copied

            original : block_parent_of t (x.originals.block b) ≡ Some x.region
            original = (h.copies b copied).original

            region : y.region ≡ x.region
            region = some_is (sym y.in_region ∙ ap (block_parent_of t) block ∙ original)

            p : HasPassed t (definition_of t (x.originals.value v)) (map x.originals.block z.inner) (x.originals.block b) (map x.originals.operation done)
            p = subst (λ d. HasPassed t (definition_of t (x.originals.value v)) (map x.originals.block z.inner) d (map x.originals.operation done)) block (y.passes (x.originals.block x.entry) (map x.originals.block z.inner) (map x.originals.operation done) (map x.originals.operation rest) (ap (λ r. first_of (layout_of t r) None) region ∙ h.entry) (subst (λ d. Path t (x.originals.block x.entry) d (map x.originals.block z.inner)) (sym block) z.path)
                (ap (body_of t) block ∙ (h.copies b copied).body ∙ ap (map x.originals.operation) split ∙ map_append x.originals.operation done (k ∷ rest) ∙ ap (λ q. map x.originals.operation done ++ q ∷ map x.originals.operation rest) (sym around)))
