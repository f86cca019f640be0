-- The steps of a walk over a tree.
use Rattle.std.proofs.Common.{◌≡◌, ◌⊎◌, ℕ, zero, suc, ◌+◌, ◌-◌, ◌<◌, ◌≤◌, true, false, List, [], ◌∷◌, ◌++◌, length, drop, get_or, Option, Some, None, refl, sym, ap, ◌∙◌, subst, inl, inr, arith, append_assoc, append-nil}
use Rattle.std.specs.List.{flat_map, slice_get}
use Rattle.std.specs.Option.{is_some, IfSome, ForSome, option_map_or}
use Rattle.std.proofs.lemmas.List.{get_or_past, get_or_default, drop_all}
use Rattle.std.proofs.lemmas.List.Concat.{flat_map-append}
use Rattle.std.proofs.lemmas.Option.{slice_get_within, slice_get_read}
use Rattle.pliron_core.specs.declared.context.RegionSlot.{RegionSlot}
use Rattle.pliron_core.specs.declared.context.OperationEntry.{OperationEntry}
use Rattle.pliron_core.specs.Lists.{In, IsDistinct, Lists, first_of, next_in, next_in_lists, next_in_owner}
use Rattle.pliron_core.specs.Tree.{Tree, IsLive, IsBlock, IsRegion, IsListedBy, IsInside, IsWithin, no_entry, row_of, regions_of, parent_of, body_of, layout_of, block_parent_of, slot_of, parent_operation_of}
use Rattle.pliron_core.specs.Tree.IsInside.{Directly, Deeper}
use Rattle.pliron_core.specs.Invariant.{IsTree}
use Rattle.pliron_core.specs.Walks.{children_of_region, children, contents, preorder}
use Rattle.pliron_core.specs.WalkSteps.{rest_after, rest_from, blocks_in, blocks_from, first_in_blocks, first_in_regions, IsFollowedBy}
use Rattle.pliron_core.proofs.ListLemmas.{distinct-apart, split_at, next_in-split}
use Rattle.pliron_core.proofs.FlatLemmas.{flat_map-drop, first_of-pieces}
use Rattle.pliron_core.proofs.ForestLemmas as forest
use Rattle.pliron_core.proofs.WalkLemmas.{HasPlace, place_listed, forest_of, holder-children, distinct-children, contents-children, contents-inside, distinct-preorder, In-preorder, inside_live, live_within, contents-shorter, length-contents}
use Rattle.pliron_core.proofs.NextLemmas.{or_next, first_of-or_append, or_next-some, or_next-none, or_found, or_passed, next_in-rest, rest_after-parts, rest_from-next, rest_from-first, next_in-member, rest_from-step, next_in-slice_get}

some_block : (t : Tree) (b r : ℕ) → block_parent_of t b ≡ Some r → IsBlock t b
some_block t b r e = ap is_some e

-- the parts of a list around the place of x
shape : (a b c d e f : List ℕ) (x : ℕ) → a ++ ((b ++ ((c ++ x ∷ d) ++ e)) ++ f) ≡ (a ++ (b ++ c)) ++ x ∷ (d ++ (e ++ f))
shape a b c d e f x = simp append_assoc

-- after an empty block the same comes first, from the next block on
pub record IsPassed (t : Tree) (b : ℕ) (next : Option ℕ) : Type 0 where
  pub liveness : ForSome next (λ c. IsBlock t c)
  pub first : first_in_blocks t (Some b) ≡ first_in_blocks t next
  pub shorter : length (blocks_from t next) < length (blocks_from t (Some b))

drop-slice_get : (xs : List ℕ) (i x : ℕ) → slice_get xs i ≡ Some x → drop i xs ≡ x ∷ drop (i + 1) xs
drop-slice_get [] i x e = absurd (cc)
drop-slice_get (y ∷ ys) zero x e = let s : y ≡ x = cc in ap (λ z. z ∷ ys) s
drop-slice_get (y ∷ ys) (suc i) x e =
    let one : suc i + 1 ≡ suc (i + 1) = omega arith in drop-slice_get ys i x e ∙ ap (λ n. x ∷ drop n (y ∷ ys)) (sym one)

module _ (t : Tree) (w : IsTree t) where
  pub block_within : (b : ℕ) → IsBlock t b → b < length t.block_parents
  block_within b is =
      elim (cases b) [
        | inl lt ↦ lt
        | inr le ↦ let none : is_some (block_parent_of t b) ≡ false = ap is_some (get_or_past t.block_parents b None le) in absurd (cc)
      ]
    where
      cases : (b : ℕ) → (b < length t.block_parents) ⊎ (length t.block_parents ≤ b)
      cases b = grind arith

  pub parent_within : (x b : ℕ) → parent_of t x ≡ Some b → b < length t.block_parents
  parent_within x b e = block_within b (w.joined.all_in_place x b e).1

  pub region_slot : (r : ℕ) → IsRegion t r → r < length t.slots
  region_slot r is = go (slot_of t r) refl is
    where
      go : (o : Option RegionSlot) → slot_of t r ≡ o → IsListedBy t r o → r < length t.slots
      go None s h = absurd h
      go (Some slot) s h = slice_get_within t.slots r slot s

  pub slot_within : (b r : ℕ) → block_parent_of t b ≡ Some r → r < length t.slots
  slot_within b r e = region_slot r (w.joined.placed b r e)

  -- the slot of a region, as it is read
  pub slot_read : (r : ℕ) (s : RegionSlot) → IsRegion t r → s ≡ get_or t.slots r s → (slot_of t r ≡ Some s) × (slice_get (regions_of t s.op) s.index ≡ Some r)
  slot_read r s is read =
      let e : slot_of t r ≡ Some s = slice_get_read t.slots (length t.slots) r s refl (region_slot r is) read in (e, subst (IsListedBy t r) e is)

  pub no_region_after : (k i : ℕ) → i + 1 ≡ length (regions_of t k) → first_in_regions t k (i + 1) ≡ None
  no_region_after k i e =
      ap (λ rs. first_of (flat_map (λ r. children_of_region t r) rs) None) (drop_all (i + 1) (regions_of t k) (omega (arith, e)))

  pub region_within : (k i r : ℕ) → slice_get (regions_of t k) i ≡ Some r → r < length t.layouts
  region_within k i r e =
      let lt = slice_get_within t.slots r _ (w.joined.regions k i r e) in omega (arith, lt, w.keys.slots)

  -- the links up from an operation
  pub place_read : (x b r : ℕ) (s : RegionSlot) → parent_of t x ≡ Some b → block_parent_of t b ≡ Some r → s ≡ get_or t.slots r s → HasPlace t x s.op
  place_read x b r s e f g =
      record { block = b; region = r; index = s.index; parent = e; in_region = f; slot = slice_get_read t.slots (length t.slots) r s refl (slot_within b r f) g }

  blocks_from-region : (r : ℕ) (o : Option ℕ) → ((b : ℕ) → o ≡ Some b → In b (layout_of t r)) → blocks_from t o ≡ rest_from o (layout_of t r)
  blocks_from-region r None within = refl
  blocks_from-region r (Some b) within = ap (λ o. b ∷ rest_after b (blocks_in t o)) (w.layouts.owned b r (within b refl))

  member_of_next : (x z : ℕ) (xs : List ℕ) → next_in x xs ≡ Some z → In z xs
  member_of_next x z [] e = absurd (cc)
  member_of_next x z (y ∷ ys) e = inr (next_in-member x y z ys e)

  pub blocks_from-next : (b r : ℕ) → block_parent_of t b ≡ Some r → blocks_from t (next_in b (layout_of t r)) ≡ rest_after b (layout_of t r)
  blocks_from-next b r e =
      blocks_from-region r (next_in b (layout_of t r)) (λ c f. member_of_next b c (layout_of t r) f) ∙ rest_from-next b (layout_of t r) (w.layouts.distinct r) (w.layouts.listed b r e)

  pub blocks_from-first : (r : ℕ) → blocks_from t (first_of (layout_of t r) None) ≡ layout_of t r
  blocks_from-first r = go (layout_of t r) refl
    where
      go : (xs : List ℕ) → layout_of t r ≡ xs → blocks_from t (first_of xs None) ≡ xs
      go [] e = refl
      go (y ∷ ys) e =
          ap (λ o. y ∷ rest_after y (blocks_in t o)) (w.layouts.owned y r (subst (In y) (sym e) (inl refl))) ∙ ap (λ zs. y ∷ rest_after y zs) e ∙ rest_from-first y ys

  pub first_block : (r b : ℕ) → first_of (layout_of t r) None ≡ Some b → IsBlock t b
  first_block r b e = go (layout_of t r) refl e
    where
      go : (xs : List ℕ) → layout_of t r ≡ xs → first_of xs None ≡ Some b → IsBlock t b
      go [] e f = absurd (cc)
      go (y ∷ ys) e f = let s : y ≡ b = cc in some_block t b r (w.layouts.owned b r (subst (In b) (sym e) (inl (sym s))))

  -- the next block, by the links of the blocks
  module _ (s : Lists) (lists : s.lists ≡ t.layouts) (owners : s.owners ≡ t.block_parents) where
    next_is : (b r : ℕ) → block_parent_of t b ≡ Some r → next_in_lists s b ≡ next_in b (layout_of t r)
    next_is b r e =
        ap (λ o. next_in_owner s o b) (ap (λ z. get_or z b None) owners ∙ e) ∙ ap (λ z. next_in b (get_or z r [])) lists

    pub next_block : (b c : ℕ) → next_in_lists s b ≡ Some c → IsBlock t c
    next_block b c e = go (block_parent_of t b) refl
      where
        go : (o : Option ℕ) → block_parent_of t b ≡ o → IsBlock t c
        go None f = let none : next_in_lists s b ≡ None = ap (λ o. next_in_owner s o b) (ap (λ z. get_or z b None) owners ∙ f) in absurd (cc)
        go (Some r) f = some_block t c r (w.layouts.owned c r (member_of_next b c (layout_of t r) (sym (next_is b r f) ∙ e)))

    pub blocks_next : (b : ℕ) → IsBlock t b → blocks_from t (Some b) ≡ b ∷ blocks_from t (next_in_lists s b)
    blocks_next b is = go (block_parent_of t b) refl
      where
        go : (o : Option ℕ) → block_parent_of t b ≡ o → blocks_from t (Some b) ≡ b ∷ blocks_from t (next_in_lists s b)
        go None f = let none : is_some (block_parent_of t b) ≡ false = ap is_some f in absurd (cc)
        go (Some r) f =
            ap (λ o. b ∷ rest_after b (blocks_in t o)) f ∙ ap (λ zs. b ∷ zs) (sym (ap (blocks_from t) (next_is b r f) ∙ blocks_from-next b r f))

  -- what comes next among the children, by the place
  pub next_child : (x k : ℕ) (p : HasPlace t x k) → next_in x (children t k) ≡ or_next (next_in x (body_of t p.block)) (or_next (first_of (flat_map (λ b. body_of t b) (rest_after p.block (layout_of t p.region))) None) (first_in_regions t k (suc p.index)))
  next_child x k p =
      let body = rest_after-parts x (body_of t p.block) (w.bodies.distinct p.block) (w.bodies.listed x p.block p.parent) in
      let blocks = rest_after-parts p.block (layout_of t p.region) (w.layouts.distinct p.region) (w.layouts.listed p.block p.region p.in_region) in
      let regions = flat_map-drop (λ r. children_of_region t r) (regions_of t k) p.index p.region (place_listed t w x k p) in
      let later_blocks = flat_map (λ b. body_of t b) (rest_after p.block (layout_of t p.region)) in
      let later_regions = flat_map (λ r. children_of_region t r) (drop (suc p.index) (regions_of t k)) in
      let rest = rest_after x (body_of t p.block) in
      let here : children_of_region t p.region ≡ flat_map (λ b. body_of t b) blocks.0 ++ ((body.0 ++ x ∷ rest) ++ later_blocks) =
      ap (flat_map (λ b. body_of t b)) blocks.1 ∙ flat_map-append (λ b. body_of t b) blocks.0 (p.block ∷ rest_after p.block (layout_of t p.region)) ∙ ap (λ zs. flat_map (λ b. body_of t b) blocks.0 ++ (zs ++ later_blocks)) body.1 in
      let whole : children t k ≡ (regions.0 ++ (flat_map (λ b. body_of t b) blocks.0 ++ body.0)) ++ x ∷ (rest ++ (later_blocks ++ later_regions)) =
      regions.1 ∙ ap (λ zs. regions.0 ++ (zs ++ later_regions)) here ∙ shape regions.0 (flat_map (λ b. body_of t b) blocks.0) body.0 rest later_blocks later_regions x in
      ap (next_in x) whole ∙ next_in-split x _ _ (λ i. distinct-apart _ _ (subst IsDistinct whole (distinct-children t w k)) x i (inl refl)) ∙ first_of-or_append rest (later_blocks ++ later_regions) ∙ ap (λ o. or_next o (first_of (later_blocks ++ later_regions) None)) (sym (next_in-rest x (body_of t p.block))) ∙ ap (or_next (next_in x (body_of t p.block))) (first_of-or_append later_blocks later_regions)

  -- the first child is the first of the contents
  pub first_child : (op : ℕ) → first_of (contents t op) None ≡ first_of (children t op) None
  first_child op = ap (λ zs. first_of zs None) (contents-children t w op) ∙ first_of-pieces (λ c. contents t c) (children t op) None

  -- what follows an operation and its contents is its next sibling, or what follows its holder
  pub goes_up : (root x k : ℕ) (o : Option ℕ) → parent_operation_of t x ≡ Some k → IsFollowedBy (preorder t root) (preorder t k) o → IsFollowedBy (preorder t root) (preorder t x) (or_next (next_in x (children t k)) o)
  goes_up root x k o e g =
      let s = split_at x (children t k) (holder-children t w x k e) in
      let pieces = λ (xs : List ℕ). flat_map (λ c. preorder t c) xs in
      let split : contents t k ≡ pieces s.0 ++ (preorder t x ++ pieces s.1) = forest.descend-split _ _ _ (forest_of t w) x k s.0 s.1 s.2 in
      let next : next_in x (children t k) ≡ first_of s.1 None = ap (next_in x) s.2 ∙ next_in-split x s.0 s.1 (λ i. distinct-apart s.0 (x ∷ s.1) (subst IsDistinct s.2 (distinct-children t w k)) x i (inl refl)) in (
        g.0 ++ (k ∷ pieces s.0),
        pieces s.1 ++ g.1,
        g.2 ∙ ap (λ zs. g.0 ++ ((k ∷ zs) ++ g.1)) split ∙ simp append_assoc,
        first_of-or_append (pieces s.1) g.1 ∙ ap (λ z. or_next z (first_of g.1 None)) (first_of-pieces (λ c. contents t c) s.1 None ∙ sym next) ∙ ap (or_next (next_in x (children t k))) g.3,
      )

  pub continues-root : (root : ℕ) → IsFollowedBy (preorder t root) (preorder t root) None
  continues-root root = ([], [], sym (append-nil (preorder t root)), refl)

  pub continues : (root x : ℕ) → IsWithin t root x → (o : Option ℕ) × IsFollowedBy (preorder t root) (preorder t x) o
  continues root x (inl e) = (None, subst (λ z. IsFollowedBy (preorder t root) (preorder t z) None) (sym e) (continues-root root))
  continues root x (inr (Directly e)) = (or_next (next_in x (children t root)) None, goes_up root x root None e (continues-root root))
  continues root x (inr (Deeper p e u)) = let r = continues root p (inr u) in (or_next (next_in x (children t p)) r.0, goes_up root x p r.0 e r.1)

  -- the next of the walk, when that is found
  pub next_walked : (root x : ℕ) (o : Option ℕ) → IsFollowedBy (preorder t root) (preorder t x) o → next_in x (preorder t root) ≡ or_next (first_of (children t x) None) o
  next_walked root x o g =
      let whole : preorder t root ≡ g.0 ++ x ∷ (contents t x ++ g.1) = g.2 in
      ap (next_in x) whole ∙ next_in-split x g.0 (contents t x ++ g.1) (λ i. distinct-apart g.0 (x ∷ (contents t x ++ g.1)) (subst IsDistinct whole (distinct-preorder t w root)) x i (inl refl)) ∙ first_of-or_append (contents t x) g.1 ∙ ap (λ z. or_next z (first_of g.1 None)) (first_child x) ∙ ap (or_next (first_of (children t x) None)) g.3

  -- what comes next on a walk stands inside its root
  pub next_inside : (root x z : ℕ) → next_in x (preorder t root) ≡ Some z → IsInside t root z
  next_inside root x z e = contents-inside t w root z (next_in-member x root z (contents t root) e)

  -- the row of an operation, as it is read
  pub row_read : (k : ℕ) (e : OperationEntry) → IsLive t k → e ≡ get_or t.operations k e → e ≡ row_of t k
  row_read k e live read = read ∙ get_or_default t.operations k e no_entry (live_within t w k live)

  -- an empty block is passed
  pub passed : (s : Lists) → s.lists ≡ t.layouts → s.owners ≡ t.block_parents → (b : ℕ) (next : Option ℕ) → IsBlock t b → is_some (first_of (body_of t b) None) ≡ false → next ≡ next_in_lists s b → IsPassed t b next
  passed s lists owners b next is none e =
      let from : blocks_from t (Some b) ≡ b ∷ blocks_from t next = blocks_next s lists owners b is ∙ ap (λ o. b ∷ blocks_from t o) (sym e) in
      record {
        liveness = λ c f. next_block s lists owners b c (sym e ∙ f);
        first = ap (λ zs. first_of (flat_map (λ b. body_of t b) zs) None) from ∙ first_of-or_append (body_of t b) (flat_map (λ b. body_of t b) (blocks_from t next)) ∙ or_next-none (first_of (body_of t b) None) _ none;
        shorter = omega (arith, ap length from);
      }

  pub block_found : (s : Lists) → s.lists ≡ t.layouts → s.owners ≡ t.block_parents → (b : ℕ) → IsBlock t b → is_some (first_of (body_of t b) None) ≡ true → first_in_blocks t (Some b) ≡ first_of (body_of t b) None
  block_found s lists owners b is some =
      ap (λ zs. first_of (flat_map (λ b. body_of t b) zs) None) (blocks_next s lists owners b is) ∙ first_of-or_append (body_of t b) (flat_map (λ b. body_of t b) (blocks_from t (next_in_lists s b))) ∙ or_next-some (first_of (body_of t b) None) _ some

  -- the operations of a region, from its first block on
  pub first_in_region : (r : ℕ) (o first : Option ℕ) → o ≡ first_of (layout_of t r) None → first ≡ first_in_blocks t o → first ≡ first_of (children_of_region t r) None
  first_in_region r o first e f =
      f ∙ ap (λ z. first_in_blocks t z) e ∙ ap (λ zs. first_of (flat_map (λ b. body_of t b) zs) None) (blocks_from-first r)

  pub region_found : (k i r : ℕ) (first : Option ℕ) → slice_get (regions_of t k) i ≡ Some r → first ≡ first_of (children_of_region t r) None → is_some first ≡ true → first_in_regions t k i ≡ first
  region_found k i r first e f some =
      ap (λ zs. first_of (flat_map (λ r. children_of_region t r) zs) None) (drop-slice_get (regions_of t k) i r e) ∙ first_of-or_append (children_of_region t r) _ ∙ or_found first _ _ f some

  pub region_passed : (k i r : ℕ) (first : Option ℕ) → slice_get (regions_of t k) i ≡ Some r → first ≡ first_of (children_of_region t r) None → is_some first ≡ false → first_in_regions t k i ≡ first_in_regions t k (i + 1)
  region_passed k i r first e f none =
      ap (λ zs. first_of (flat_map (λ r. children_of_region t r) zs) None) (drop-slice_get (regions_of t k) i r e) ∙ first_of-or_append (children_of_region t r) _ ∙ or_passed first _ _ f none

  -- one step up falls
  pub up_smaller : (k : ℕ) (o : Option ℕ) → o ≡ parent_operation_of t k → option_map_or (λ z. suc (length t.operations - length (contents t z))) o 0 < suc (length t.operations - length (contents t k))
  up_smaller k None e = omega arith
  up_smaller k (Some p) e =
      let a = contents-shorter t w k p (sym e) in let b = length-contents t w p in omega (arith, a, b)

  -- the next sibling, by where it is found
  pub next_in_body : (s : Lists) → s.lists ≡ t.bodies → s.owners ≡ t.parents → (x b : ℕ) → parent_of t x ≡ Some b → next_in_lists s x ≡ next_in x (body_of t b)
  next_in_body s lists owners x b e =
      ap (λ o. next_in_owner s o x) (ap (λ z. get_or z x None) owners ∙ e) ∙ ap (λ z. next_in x (get_or z b [])) lists

  pub found_in_body : (x k : ℕ) (p : HasPlace t x k) (n : Option ℕ) → n ≡ next_in x (body_of t p.block) → is_some n ≡ true → n ≡ next_in x (children t k)
  found_in_body x k p n e some = sym (next_child x k p ∙ or_found n _ _ e some)

  pub found_in_region : (x k : ℕ) (p : HasPlace t x k) (n m : Option ℕ) → n ≡ next_in x (body_of t p.block) → is_some n ≡ false → m ≡ first_of (flat_map (λ b. body_of t b) (rest_after p.block (layout_of t p.region))) None → is_some m ≡ true → m ≡ next_in x (children t k)
  found_in_region x k p n m e none f some =
      sym (next_child x k p ∙ or_passed n _ _ e none ∙ or_found m _ _ f some)

  pub found_later : (x k : ℕ) (p : HasPlace t x k) (n m q : Option ℕ) → n ≡ next_in x (body_of t p.block) → is_some n ≡ false → m ≡ first_of (flat_map (λ b. body_of t b) (rest_after p.block (layout_of t p.region))) None → is_some m ≡ false → q ≡ first_in_regions t k (p.index + 1) → q ≡ next_in x (children t k)
  found_later x k p n m q e none f none2 g =
      let one : p.index + 1 ≡ suc p.index = omega arith in
      sym (next_child x k p ∙ or_passed n _ _ e none ∙ or_passed m _ _ f none2 ∙ sym (g ∙ ap (λ i. first_in_regions t k i) one))

  -- the first of the blocks after this one
  pub first_after_block : (s : Lists) → s.lists ≡ t.layouts → s.owners ≡ t.block_parents → (b r : ℕ) (o m : Option ℕ) → block_parent_of t b ≡ Some r → o ≡ next_in_lists s b → m ≡ first_in_blocks t o → m ≡ first_of (flat_map (λ b. body_of t b) (rest_after b (layout_of t r))) None
  first_after_block s lists owners b r o m f e g =
      g ∙ ap (λ z. first_in_blocks t z) (e ∙ next_is s lists owners b r f) ∙ ap (λ zs. first_of (flat_map (λ b. body_of t b) zs) None) (blocks_from-next b r f)

  -- what follows, found beside or further up
  pub found_beside : (root x k : ℕ) (n : Option ℕ) → parent_operation_of t x ≡ Some k → IsWithin t root k → n ≡ next_in x (children t k) → is_some n ≡ true → IsFollowedBy (preorder t root) (preorder t x) n
  found_beside root x k n e u f some =
      let g = continues root k u in
      subst (IsFollowedBy (preorder t root) (preorder t x)) (or_found n _ g.0 f some) (goes_up root x k g.0 e g.1)

  pub found_above : (root x k : ℕ) (n : Option ℕ) → parent_operation_of t x ≡ Some k → n ≡ next_in x (children t k) → is_some n ≡ false → (o : Option ℕ) → IsFollowedBy (preorder t root) (preorder t k) o → IsFollowedBy (preorder t root) (preorder t x) o
  found_above root x k n e f none o g =
      subst (IsFollowedBy (preorder t root) (preorder t x)) (or_passed n _ o f none) (goes_up root x k o e g)

  -- the same of the next, if there is one
  pub next_inside-if : (root x : ℕ) (o : Option ℕ) → o ≡ next_in x (preorder t root) → IfSome o (λ z. IsInside t root z)
  next_inside-if root x None e = tt
  next_inside-if root x (Some z) e = next_inside root x z (sym e)

  pub next_live-if : (root x : ℕ) (o : Option ℕ) → o ≡ next_in x (preorder t root) → IfSome o (λ z. IsLive t z)
  next_live-if root x None e = tt
  next_live-if root x (Some z) e = inside_live t w root z (next_inside root x z (sym e))

-- For loops `while let Some(x) = at { .. at = x.next_in_preorder(root, ctx); }`. With
-- `length (rest_from at (preorder t root))` as measure, and an invariant over `rest_from at (preorder t root)`.
module _ (t : Tree) (w : IsTree t) (root : ℕ) where
  -- at first all is left
  pub walk_start : rest_from (Some root) (preorder t root) ≡ preorder t root
  walk_start = rest_from-first root (contents t root)

  -- a step takes one
  pub walk_step : (x : ℕ) (o : Option ℕ) → IsWithin t root x → o ≡ next_in x (preorder t root) → rest_from (Some x) (preorder t root) ≡ x ∷ rest_from o (preorder t root)
  walk_step x o u e = rest_from-step (preorder t root) x o (distinct-preorder t w root) ((In-preorder t w root x).1 u) e

  -- by indices
  pub walk_index : (i x : ℕ) → slice_get (preorder t root) i ≡ Some x → next_in x (preorder t root) ≡ slice_get (preorder t root) (i + 1)
  walk_index i x e = next_in-slice_get (preorder t root) i x (distinct-preorder t w root) e
