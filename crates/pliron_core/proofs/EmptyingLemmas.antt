-- A block is emptied, one operation after the other, and goes.
use Rattle.std.proofs.Common.{◌≡◌, ◌≢◌, ◌⊎◌, ℕ, zero, suc, ◌<◌, ◌≤◌, Bool, true, false, nat_eq, List, [], ◌∷◌, length, get_or, Option, Some, None, IsSome, refl, sym, ap, ◌∙◌, subst, inl, inr, arith, slice_get, slice_set, true≢false, if◌then◌else◌}
use Rattle.std.proofs.lemmas.Bool.{cases_eq, eq-eqb, ne_eqb}
use Rattle.std.proofs.lemmas.List.{get_or-set_other, get_or-set_same, length-set, ext_get_or}
use Rattle.pliron_core.specs.declared.context.Def.{Def}
use Rattle.pliron_core.specs.declared.context.Def.TheVariants.{Result, Argument}
use Rattle.pliron_core.specs.Tree.{Tree, In, IsLive, IsBlock, IsWithin, IsInside, Directly, Deeper, IsDefinedWithin, HoldsBlock, op_of_slot, no_entry, operands_of, successors_of, parent_of, body_of, block_parent_of, definition_of, region_parent_of, block_parent_operation_of, parent_operation_of, without, last_of}
use Rattle.pliron_core.specs.Invariant.{IsJoined, IsTree}
use Rattle.pliron_core.specs.Writes.{taken_from, taken_out}
use Rattle.pliron_core.specs.Erased.{is_met, is_met_above, after_clearing, uses_dropped, blank_at, is_in_operation, IsInOperation, IsBlockWithin, IsDefinedInBlock, IsSelfContainedBlock, block_emptied, block_taken_out, block_erased}
use Rattle.pliron_core.specs.Dismantling.{IsUnused, IsUnusedBlock}
use Rattle.pliron_core.proofs.BlankLemmas.{length-blanked, blanked_gone, blanked_kept}
use Rattle.pliron_core.proofs.LastLemmas.{last_in}
use Rattle.pliron_core.proofs.TreeLemmas.{live-within, block-within, live_dead}
use Rattle.pliron_core.proofs.PlacedLemmas.{taken-parents}
use Rattle.pliron_core.proofs.WithinLemmas.{holder_steps, holder_from, met_here, met_below, within_is, in_block_is, is_in_block, stands_met, is_listed_from, not_own_holder}
use Rattle.pliron_core.proofs.WalkLemmas.{inside_trans, not_inside-itself}
use Rattle.pliron_core.proofs.ClearingLemmas.{IsClearing, op_gone, block_gone, region_gone, clearing_none, clearing_trans, block_holder_was, holder_was, cleared_all, detached_blocks}
use Rattle.pliron_core.proofs.DescentLemmas.{set_default, taken-operations, taken-operands, taken-successors, taken-block_parents}
use Rattle.pliron_core.proofs.DropLemmas.{dropped_gone}
use Rattle.pliron_core.proofs.ErasedLemmas.{taken-slots, taken-definitions, taken-block_parent_operation, cleared_dropped, dropped-operand, dropped-successor}

-- after the drop nothing in the block is used any more
module _ (t : Tree) (block : ℕ) (w : IsTree t) (is : IsJoined (uses_dropped t block)) where
  still : (k : ℕ) → IsInOperation (uses_dropped t block) block k → IsInOperation t block k
  still k s = in_block_is t block k (is_in_block (uses_dropped t block) block k is s)

  still_block : (b : ℕ) → IsBlockWithin (uses_dropped t block) block b → IsBlockWithin t block b
  still_block b (inl e) = inl e
  still_block b (inr h) = inr (h.0, h.1, still h.0 h.2)

  still_made : (d : Option Def) → IsDefinedInBlock (uses_dropped t block) block d → IsDefinedInBlock t block d
  still_made None m = m
  still_made (Some (Result k i)) m = still k m
  still_made (Some (Argument b i)) m = still_block b m

  outside : (x : ℕ) → op_gone t (is_in_operation t block) x ≡ false → IsInOperation t block x → ⊥
  outside x e s = true≢false (sym (is_in_block t block x w.joined s) ∙ e)

  unused-after : IsSelfContainedBlock t block → IsUnusedBlock (uses_dropped t block) block
  unused-after c = record {
    bare = λ k s. dropped_gone t (is_in_operation t block) k (is_in_block (uses_dropped t block) block k is s);
    values = λ x v i m. let s = dropped-operand t (is_in_operation t block) x v i in outside x s.0 (c.values x v s.1 (still_made (definition_of t v) m));
    blocks = λ x b i m. let s = dropped-successor t (is_in_operation t block) x b i in outside x s.0 (c.blocks x b s.1 (still_block b m));
  }

pub unused_block : (t : Tree) (block : ℕ) (u : Tree) → IsTree t → IsTree u → u ≡ uses_dropped t block → IsSelfContainedBlock t block → IsUnusedBlock u block
unused_block t block u w is e c = subst (λ z. IsUnusedBlock z block) (sym e) (unused-after t block w (subst IsJoined e is.joined) c)

-- operations, blocks and regions that go with the block, and the bodies that change
abbrev pub touched : Tree → ℕ → ℕ → Bool
touched t block b = if nat_eq block b then true else block_gone t (is_in_operation t block) b

touched_not : (t : Tree) (block b : ℕ) → touched t block b ≡ false → (b ≢ block) × (block_gone t (is_in_operation t block) b ≡ false)
touched_not t block b e = go (nat_eq block b) refl e
  where
    go : (g : Bool) → nat_eq block b ≡ g → (if g then true else block_gone t (is_in_operation t block) b) ≡ false → (b ≢ block) × (block_gone t (is_in_operation t block) b ≡ false)
    go true f h = absurd (true≢false h)
    go false f h = (λ s. true≢false (sym (eq-eqb block block refl) ∙ ap (nat_eq block) (sym s) ∙ f), h)

pub record IsEmptying (t : Tree) (block : ℕ) (u : Tree) : Type 0 where
  pub tree : IsTree u
  pub clearing : IsClearing (op_gone t (is_in_operation t block)) (block_gone t (is_in_operation t block)) (touched t block) (region_gone t (is_in_operation t block)) t u
  pub operands : (x v : ℕ) → In v (operands_of u x) → In v (operands_of t x)
  pub successors : (x b : ℕ) → In b (successors_of u x) → In b (successors_of t x)

pub emptying_start : (t : Tree) (block : ℕ) → IsTree t → IsEmptying t block t
emptying_start t block w = record { tree = w; clearing = clearing_none _ _ _ _ t; operands = λ x v i. i; successors = λ x b i. i }

no_members : (xs : List ℕ) → ((x : ℕ) → In x xs → ⊥) → xs ≡ []
no_members [] n = refl
no_members (x ∷ xs) n = absurd (n x (inl refl))

taken-holder : (u : Tree) (c : ℕ) (o : Option ℕ) (x y : ℕ) → parent_operation_of (taken_from u c o) x ≡ Some y → parent_operation_of u x ≡ Some y
taken-holder u c None x y e = e
taken-holder u c (Some b) x y e =
    let s = holder_steps (taken_from u c (Some b)) x y e in
    go s.0 s.1 s.2 (cases_eq x c)
  where
    go : (d : ℕ) → parent_of (taken_from u c (Some b)) x ≡ Some d → block_parent_operation_of u d ≡ Some y → (x ≡ c) ⊎ (x ≢ c) → parent_operation_of u x ≡ Some y
    go d f g (inl s) = absurd (let h : None ≡ Some d = sym (set_default u.parents None c) ∙ ap (parent_of (taken_from u c (Some b))) (sym s) ∙ f in cc)
    go d f g (inr ne) = holder_from u x d (sym (get_or-set_other u.parents c x None None ne) ∙ f) ∙ g

taken-block_count : (u : Tree) (c : ℕ) (o : Option ℕ) → length (taken_from u c o).bodies ≡ length u.bodies
taken-block_count u c None = refl
taken-block_count u c (Some b) = length-set _ _ _

taken-arguments : (u : Tree) (c : ℕ) (o : Option ℕ) → (taken_from u c o).arguments ≡ u.arguments
taken-arguments u c None = refl
taken-arguments u c (Some b) = refl

taken-layouts : (u : Tree) (c : ℕ) (o : Option ℕ) → (taken_from u c o).layouts ≡ u.layouts
taken-layouts u c None = refl
taken-layouts u c (Some b) = refl

taken-parent_other : (u : Tree) (c : ℕ) (o : Option ℕ) (k : ℕ) → k ≢ c → parent_of (taken_from u c o) k ≡ parent_of u k
taken-parent_other u c None k ne = refl
taken-parent_other u c (Some b) k ne = get_or-set_other u.parents c k None None ne

is_met_first : (h : ℕ → Option ℕ) (c n : ℕ) → c < n → is_met h (nat_eq c) n (Some c) ≡ true
is_met_first h c zero lt = absurd (omega arith)
is_met_first h c (suc n) lt = ap (λ b. if b then true else is_met h (nat_eq c) n (h c)) (eq-eqb c c refl)

-- a list of a cleared table has what it had, or nothing
cleared_in : (deleted : ℕ → Bool) (xs : List (List ℕ)) (k v : ℕ) → In v (get_or (blank_at deleted [] xs) k []) → In v (get_or xs k [])
cleared_in deleted xs k v i = go (deleted k) refl
  where
    go : (b : Bool) → deleted k ≡ b → In v (get_or xs k [])
    go true e = absurd (subst (In v) (blanked_gone deleted [] xs k e) i)
    go false e = subst (In v) (blanked_kept deleted [] xs k e) i

cleared_shorter : (deleted : ℕ → Bool) (xs : List (List ℕ)) (k : ℕ) → length (get_or (blank_at deleted [] xs) k []) ≤ length (get_or xs k [])
cleared_shorter deleted xs k = go (deleted k) refl
  where
    go : (b : Bool) → deleted k ≡ b → length (get_or (blank_at deleted [] xs) k []) ≤ length (get_or xs k [])
    go true e = let h : length (get_or (blank_at deleted [] xs) k []) ≡ 0 = ap length (blanked_gone deleted [] xs k e) in omega (arith, h)
    go false e = let h : length (get_or (blank_at deleted [] xs) k []) ≡ length (get_or xs k []) = ap length (blanked_kept deleted [] xs k e) in omega (arith, h)

without_shorter : (x : ℕ) (xs : List ℕ) → In x xs → length (without x xs) < length xs
without_shorter x [] i = absurd i
without_shorter x (y ∷ ys) i = go (cases_eq x y) i (without_shorter x ys)
  where
    go : (x ≡ y) ⊎ (x ≢ y) → In x (y ∷ ys) → (In x ys → length (without x ys) < length ys) → length (if nat_eq x y then ys else y ∷ without x ys) < suc (length ys)
    go (inl s) j rest = let h : length (if nat_eq x y then ys else y ∷ without x ys) ≡ length ys = ap (λ b. length (if b then ys else y ∷ without x ys)) (eq-eqb x y s) in omega (arith, h)
    go (inr ne) (inl e) rest = absurd (ne e)
    go (inr ne) (inr j) rest = let h : length (if nat_eq x y then ys else y ∷ without x ys) ≡ suc (length (without x ys)) = ap (λ b. length (if b then ys else y ∷ without x ys)) (ne_eqb x y ne) in let k = rest j in omega (arith, h, k)

none_met : (h : ℕ → Option ℕ) (p : ℕ → Bool) (n : ℕ) → is_met h p n None ≡ false
none_met h p zero = refl
none_met h p (suc n) = refl

module _ (t : Tree) (block : ℕ) (w : IsTree t) where
  abbrev p : ℕ → Bool
  p = is_in_operation t block

  -- the block stands not inside what stands in it
  pub block_stays : block_gone t (is_in_operation t block) block ≡ false
  block_stays = go (block_parent_operation_of t block) refl
    where
      here : (y : ℕ) → block_parent_operation_of t block ≡ Some y → op_gone t (is_in_operation t block) y ≡ true → ⊥
      here y e g =
          let s = in_block_is t block y g in
          let held : parent_operation_of t s.0 ≡ Some y = holder_from t s.0 block s.1 ∙ e in
          elim s.2 [
            | inl same ↦ not_own_holder t s.0 w.joined (held ∙ ap Some same)
            | inr inside ↦ not_inside-itself t w y (inside_trans t y s.0 y (Directly held) inside)
          ]

      no : (b : Bool) (y : ℕ) → block_parent_operation_of t block ≡ Some y → op_gone t (is_in_operation t block) y ≡ b → b ≡ false
      no true y e g = absurd (here y e g)
      no false y e g = refl

      go : (o : Option ℕ) → block_parent_operation_of t block ≡ o → is_met_above t (is_in_operation t block) o ≡ false
      go None e = none_met (parent_operation_of t) (is_in_operation t block) (length t.operations)
      go (Some y) e = no (op_gone t (is_in_operation t block) y) y e refl

  module _ (u : Tree) (d : IsEmptying t block u) (c : ℕ) (last : last_of None (body_of u block) ≡ Some c) where
    pub last_parent : parent_of u c ≡ Some block
    last_parent = d.tree.bodies.owned c block (last_in (body_of u block) c last)

    pub last_live : IsLive u c
    last_live = (d.tree.joined.all_in_place c block last_parent).0

    last_gone : op_gone t (is_in_operation t block) c ≡ true
    last_gone =
        let s = d.clearing.stays c last_live in
        met_here t (is_in_operation t block) w.joined c (live-within t c s.0) (stands_met t block c (sym s.1 ∙ last_parent))

    taken_holder_was : (x y : ℕ) → parent_operation_of (taken_out u c) x ≡ Some y → parent_operation_of t x ≡ Some y
    taken_holder_was x y e = holder_was t u (is_in_operation t block) (touched t block) w d.tree d.clearing x y (taken-holder u c (parent_of u c) x y e)

    inside_gone : (k : ℕ) → IsInside (taken_out u c) c k → op_gone t (is_in_operation t block) k ≡ true
    inside_gone k (Directly e) = met_below t (is_in_operation t block) w.joined k c (taken_holder_was k c e) last_gone
    inside_gone k (Deeper y e i) = met_below t (is_in_operation t block) w.joined k y (taken_holder_was k y e) (inside_gone y i)

    -- what goes with c, goes with the block
    within_gone : (k : ℕ) → IsWithin (taken_out u c) c k → op_gone t (is_in_operation t block) k ≡ true
    within_gone k (inl e) = ap (op_gone t (is_in_operation t block)) e ∙ last_gone
    within_gone k (inr i) = inside_gone k i

    gone_goes : (k : ℕ) → op_gone (taken_out u c) (nat_eq c) k ≡ true → op_gone t (is_in_operation t block) k ≡ true
    gone_goes k e = within_gone k (within_is (taken_out u c) c k e)

    holder_in_t : (b y : ℕ) → block_parent_operation_of (taken_out u c) b ≡ Some y → block_parent_operation_of t b ≡ Some y
    holder_in_t b y e = block_holder_was t u (is_in_operation t block) (touched t block) w d.tree d.clearing b y (sym (taken-block_parent_operation u c (parent_of u c) b) ∙ e)

    in_block : (b : ℕ) → HoldsBlock (taken_out u c) c b → IsBlockWithin t block b
    in_block b h = inr (h.0, holder_in_t b h.0 h.1, in_block_is t block h.0 (within_gone h.0 h.2))

    made_in_block : (o : Option Def) → IsDefinedWithin (taken_out u c) c o → IsDefinedInBlock t block o
    made_in_block None m = m
    made_in_block (Some (Result k i)) m = in_block_is t block k (within_gone k m)
    made_in_block (Some (Argument b i)) m = in_block b m

    operand_was : (x v : ℕ) → In v (operands_of (taken_out u c) x) → In v (operands_of t x)
    operand_was x v i = d.operands x v (subst (λ z. In v (get_or z x [])) (taken-operands u c (parent_of u c)) i)

    successor_was : (x b : ℕ) → In b (successors_of (taken_out u c) x) → In b (successors_of t x)
    successor_was x b i = d.successors x b (subst (λ z. In b (get_or z x [])) (taken-successors u c (parent_of u c)) i)

    pub taken_unused : IsUnusedBlock t block → IsUnused (taken_out u c) c
    taken_unused n = record {
      bare = λ k i.
          let b = n.bare k (in_block_is t block k (within_gone k i)) in
          (no_members (operands_of (taken_out u c) k) (λ v j. subst (In v) b.0 (operand_was k v j)), no_members (successors_of (taken_out u c) k) (λ v j. subst (In v) b.1 (successor_was k v j)));
      values = λ x v i m. n.values x v (operand_was x v i) (subst (λ z. IsDefinedInBlock t block (slice_get z v)) d.clearing.definitions (subst (λ z. IsDefinedInBlock t block (slice_get z v)) (taken-definitions u c (parent_of u c)) (made_in_block (definition_of (taken_out u c) v) m)));
      blocks = λ x b i h. n.blocks x b (successor_was x b i) (in_block b h);
    }

    pub taken_live : IsLive (taken_out u c) c
    taken_live = subst (λ z. IsSome (get_or z c no_entry).head) (sym (taken-operations u c (parent_of u c))) last_live

    pub taken_free : parent_of (taken_out u c) c ≡ None
    taken_free = taken-parents u c (parent_of u c) d.tree.joined refl

    goes_not : (k : ℕ) → op_gone t (is_in_operation t block) k ≡ false → op_gone (taken_out u c) (nat_eq c) k ≡ false
    goes_not k e = go (op_gone (taken_out u c) (nat_eq c) k) refl
      where
        go : (b : Bool) → op_gone (taken_out u c) (nat_eq c) k ≡ b → b ≡ false
        go false f = refl
        go true f = absurd (true≢false (sym (gone_goes k f) ∙ e))

    -- what is held by no operation that goes with the block, is held by none that goes with c
    held_not : (o q : Option ℕ) → ((y : ℕ) → o ≡ Some y → q ≡ Some y) → is_met_above t (is_in_operation t block) q ≡ false → is_met_above (taken_out u c) (nat_eq c) o ≡ false
    held_not None q up e = none_met (parent_operation_of (taken_out u c)) (nat_eq c) (length (taken_out u c).operations)
    held_not (Some y) q up e = goes_not y (sym (ap (is_met_above t (is_in_operation t block)) (up y refl)) ∙ e)

    block_goes_not : (b : ℕ) → block_gone t (is_in_operation t block) b ≡ false → block_gone (taken_out u c) (nat_eq c) b ≡ false
    block_goes_not b e = held_not (block_parent_operation_of (taken_out u c) b) (block_parent_operation_of t b) (holder_in_t b) e

    region_goes_not : (r : ℕ) → region_gone t (is_in_operation t block) r ≡ false → region_gone (taken_out u c) (nat_eq c) r ≡ false
    region_goes_not r e = held_not (region_parent_of (taken_out u c) r) (region_parent_of t r) (λ y f. sym (ap (λ z. op_of_slot (slice_get z r)) (taken-slots u c (parent_of u c) ∙ d.clearing.slots)) ∙ f) e

    root_goes : op_gone (taken_out u c) (nat_eq c) c ≡ true
    root_goes = is_met_first (parent_operation_of (taken_out u c)) c (length (taken_out u c).operations) (subst (λ z. c < length z) (sym (taken-operations u c (parent_of u c))) (live-within u c last_live))

    not_c : (k : ℕ) → op_gone (taken_out u c) (nat_eq c) k ≡ false → k ≢ c
    not_c k e s = true≢false (sym root_goes ∙ ap (op_gone (taken_out u c) (nat_eq c)) (sym s) ∙ e)

    body_after : (b : ℕ) → b ≢ block → body_of (taken_out u c) b ≡ body_of u b
    body_after b ne = ap (λ o. body_of (taken_from u c o) b) last_parent ∙ get_or-set_other u.bodies block b _ [] ne

    body_here : body_of (taken_out u c) block ≡ without c (body_of u block)
    body_here = ap (λ o. body_of (taken_from u c o) block) last_parent ∙ get_or-set_same u.bodies block _ [] (block-within u block d.tree.keys (d.tree.joined.all_in_place c block last_parent).1)

    taken_cleared : IsClearing (op_gone t (is_in_operation t block)) (block_gone t (is_in_operation t block)) (touched t block) (region_gone t (is_in_operation t block)) u (after_clearing (taken_out u c) (nat_eq c))
    taken_cleared = record {
      count = length-blanked _ _ _ ∙ ap length (taken-operations u c (parent_of u c));
      block_count = length-blanked _ _ _ ∙ taken-block_count u c (parent_of u c);
      slots = taken-slots u c (parent_of u c);
      definitions = taken-definitions u c (parent_of u c);
      rows = λ k e. blanked_kept (op_gone (taken_out u c) (nat_eq c)) no_entry (taken_out u c).operations k (goes_not k e) ∙ ap (λ z. get_or z k no_entry) (taken-operations u c (parent_of u c));
      operands = λ k e. blanked_kept (op_gone (taken_out u c) (nat_eq c)) [] (taken_out u c).operands k (goes_not k e) ∙ ap (λ z. get_or z k []) (taken-operands u c (parent_of u c));
      successors = λ k e. blanked_kept (op_gone (taken_out u c) (nat_eq c)) [] (taken_out u c).successors k (goes_not k e) ∙ ap (λ z. get_or z k []) (taken-successors u c (parent_of u c));
      parents = λ k e. blanked_kept (op_gone (taken_out u c) (nat_eq c)) None (taken_out u c).parents k (goes_not k e) ∙ taken-parent_other u c (parent_of u c) k (not_c k (goes_not k e));
      contents = λ b e. let s = touched_not t block b e in blanked_kept (block_gone (taken_out u c) (nat_eq c)) [] (taken_out u c).bodies b (block_goes_not b s.1) ∙ body_after b s.0;
      arguments = λ b e. blanked_kept (block_gone (taken_out u c) (nat_eq c)) [] (taken_out u c).arguments b (block_goes_not b e) ∙ ap (λ z. get_or z b []) (taken-arguments u c (parent_of u c));
      block_parents = λ b e. blanked_kept (block_gone (taken_out u c) (nat_eq c)) None (taken_out u c).block_parents b (block_goes_not b e) ∙ ap (λ z. get_or z b None) (taken-block_parents u c (parent_of u c));
      layouts = λ r e. blanked_kept (region_gone (taken_out u c) (nat_eq c)) [] (taken_out u c).layouts r (region_goes_not r e) ∙ ap (λ z. get_or z r []) (taken-layouts u c (parent_of u c));
      stays = λ k l. stays k l (op_gone (taken_out u c) (nat_eq c) k) refl;
      placed = λ b r e. placed b r e (block_gone (taken_out u c) (nat_eq c) b) refl;
    }
      where
        stays : (k : ℕ) → IsLive (after_clearing (taken_out u c) (nat_eq c)) k → (g : Bool) → op_gone (taken_out u c) (nat_eq c) k ≡ g → IsLive u k × (parent_of (after_clearing (taken_out u c) (nat_eq c)) k ≡ parent_of u k)
        stays k l true f = absurd (live_dead (after_clearing (taken_out u c) (nat_eq c)) k l (ap (λ z. z.head) (blanked_gone (op_gone (taken_out u c) (nat_eq c)) no_entry (taken_out u c).operations k f)))
        stays k l false f = (
          subst (λ z. IsSome z.head) (blanked_kept (op_gone (taken_out u c) (nat_eq c)) no_entry (taken_out u c).operations k f ∙ ap (λ z. get_or z k no_entry) (taken-operations u c (parent_of u c))) l,
          blanked_kept (op_gone (taken_out u c) (nat_eq c)) None (taken_out u c).parents k f ∙ taken-parent_other u c (parent_of u c) k (not_c k f),
        )

        placed : (b r : ℕ) → block_parent_of (after_clearing (taken_out u c) (nat_eq c)) b ≡ Some r → (g : Bool) → block_gone (taken_out u c) (nat_eq c) b ≡ g → block_parent_of u b ≡ Some r
        placed b r e true f = absurd (let h : None ≡ Some r = sym (blanked_gone (block_gone (taken_out u c) (nat_eq c)) None (taken_out u c).block_parents b f) ∙ e in cc)
        placed b r e false f = ap (λ z. get_or z b None) (sym (taken-block_parents u c (parent_of u c))) ∙ sym (blanked_kept (block_gone (taken_out u c) (nat_eq c)) None (taken_out u c).block_parents b f) ∙ e

    pub emptying_next : (v : Tree) → v ≡ after_clearing (taken_out u c) (nat_eq c) → IsTree v → IsEmptying t block v
    emptying_next v e is = record {
      tree = is;
      clearing = clearing_trans _ _ _ _ t u v d.clearing (subst (IsClearing (op_gone t (is_in_operation t block)) (block_gone t (is_in_operation t block)) (touched t block) (region_gone t (is_in_operation t block)) u) (sym e) taken_cleared);
      operands = λ x y i. operand_was x y (cleared_in (op_gone (taken_out u c) (nat_eq c)) (taken_out u c).operands x y (subst (λ z. In y (operands_of z x)) e i));
      successors = λ x y i. successor_was x y (cleared_in (op_gone (taken_out u c) (nat_eq c)) (taken_out u c).successors x y (subst (λ z. In y (successors_of z x)) e i));
    }

    pub emptying_falls : (v : Tree) → v ≡ after_clearing (taken_out u c) (nat_eq c) → length (body_of v block) < length (body_of u block)
    emptying_falls v e =
        let shorter : length (body_of (after_clearing (taken_out u c) (nat_eq c)) block) ≤ length (body_of (taken_out u c) block) = cleared_shorter (block_gone (taken_out u c) (nat_eq c)) (taken_out u c).bodies block in
        let less : length (without c (body_of u block)) < length (body_of u block) = without_shorter c (body_of u block) (last_in (body_of u block) c last) in
        let h : length (body_of v block) ≡ length (body_of (after_clearing (taken_out u c) (nat_eq c)) block) = ap (λ z. length (body_of z block)) e in
        let k : length (body_of (taken_out u c) block) ≡ length (without c (body_of u block)) = ap length body_here in
        omega (arith, shorter, less, h, k)

  -- the block stands empty
  module _ (u : Tree) (d : IsEmptying t block u) (empty : body_of u block ≡ []) where
    none_live : (k : ℕ) → is_in_operation t block k ≡ true → IsLive u k → ⊥
    none_live k e l = subst (In k) empty (d.tree.bodies.listed k block ((d.clearing.stays k l).1 ∙ is_listed_from t block k e))

    emptied_body : (b : ℕ) → body_of u b ≡ get_or (slice_set (after_clearing t (is_in_operation t block)).bodies block []) b []
    emptied_body b = elim (cases_eq b block) [
      | inl s ↦ ap (body_of u) s ∙ empty ∙ sym (ap (λ z. get_or (slice_set (after_clearing t (is_in_operation t block)).bodies block []) z []) s ∙ set_default (after_clearing t (is_in_operation t block)).bodies [] block)
      | inr ne ↦ other ne (block_gone t (is_in_operation t block) b) refl ∙ sym (get_or-set_other (after_clearing t (is_in_operation t block)).bodies block b [] [] ne)
    ]
      where
        other : b ≢ block → (g : Bool) → block_gone t (is_in_operation t block) b ≡ g → body_of u b ≡ body_of (after_clearing t (is_in_operation t block)) b
        other ne true e = (detached_blocks t u (is_in_operation t block) (touched t block) w d.tree d.clearing none_live b e).1 ∙ sym (blanked_gone (block_gone t (is_in_operation t block)) [] t.bodies b e)
        other ne false e = d.clearing.contents b (ap (λ q. if q then true else block_gone t (is_in_operation t block) b) (ne_eqb block b (λ s. ne (sym s))) ∙ e) ∙ sym (blanked_kept (block_gone t (is_in_operation t block)) [] t.bodies b e)

    pub emptying_end : u ≡ block_emptied t block
    emptying_end =
        cleared_all t u (is_in_operation t block) (touched t block) w d.tree d.clearing none_live
        ∙ ap (λ z. record (after_clearing t (is_in_operation t block)) { bodies = z }) (ext_get_or [] u.bodies (slice_set (after_clearing t (is_in_operation t block)).bodies block []) (d.clearing.block_count ∙ sym (length-blanked _ _ _) ∙ sym (length-set _ _ _)) (λ b lt. emptied_body b))

-- what the removal of the block asks
module _ (t : Tree) (block : ℕ) (w : IsTree t) (n : IsUnusedBlock t block) (u : Tree) (e : u ≡ block_emptied t block) where
  pub emptied_block : IsBlock t block → IsBlock u block
  emptied_block is = subst IsSome (sym (ap (λ z. block_parent_of z block) e ∙ blanked_kept (block_gone t (is_in_operation t block)) None t.block_parents block (block_stays t block w))) is

  pub emptied_body_of : body_of u block ≡ []
  emptied_body_of = ap (λ z. body_of z block) e ∙ set_default (after_clearing t (is_in_operation t block)).bodies [] block

  pub emptied_not_named : (x : ℕ) → In block (successors_of u x) → ⊥
  emptied_not_named x i = n.blocks x block (cleared_in (op_gone t (is_in_operation t block)) t.successors x block (subst (λ z. In block (successors_of z x)) e i)) (inl refl)

  pub emptied_unnamed : (x v i : ℕ) → In v (operands_of u x) → definition_of u v ≡ Some (Argument block i) → ⊥
  emptied_unnamed x v i j f = n.values x v (cleared_in (op_gone t (is_in_operation t block)) t.operands x v (subst (λ z. In v (operands_of z x)) e j)) (subst (IsDefinedInBlock t block) (sym f ∙ ap (λ z. definition_of z v) e) (inl refl))

-- the whole, from before the drop
pub block_done : (t : Tree) (block : ℕ) (u v : Tree) → u ≡ uses_dropped t block → v ≡ block_emptied u block → block_taken_out v block ≡ block_erased t block
block_done t block u v e f =
    ap (λ z. block_taken_out z block) (f ∙ ap (λ z. block_emptied z block) e ∙ ap {A = Tree} (λ (z : Tree). record z { bodies = slice_set z.bodies block [] }) (cleared_dropped t (is_in_operation t block)))
