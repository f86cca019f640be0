-- Trees that only get more.
use Rattle.std.proofs.Common.{◌≡◌, ◌⊎◌, ℕ, zero, suc, ◌<◌, ◌≤◌, List, [], ◌∷◌, ◌++◌, length, get_or, Option, Some, None, IsSome, is_some, refl, sym, ap, ◌∙◌, subst, inl, inr, ⊎_elim, arith, slice_get, slice_set, true≢false}
use Rattle.std.proofs.lemmas.List.{get_or_past}
use Rattle.std.proofs.lemmas.Option.{slice_get_within, slice_get-get_or, get_or_from_slice_get, slice_get_cases}
use Rattle.pliron_core.specs.declared.attrs.Head.{Head}
use Rattle.pliron_core.specs.declared.context.RegionSlot.{RegionSlot}
use Rattle.pliron_core.specs.Tree.{Tree, IsLive, IsBlock, IsRegion, IsDefined, no_entry, row_of, results_of, regions_of, parent_of, arguments_of, block_parent_of, slot_of, op_of_slot, up_from, region_parent_of, block_parent_operation_of, parent_operation_of}
use Rattle.pliron_core.specs.Invariant.{HaveSameKeys}
use Rattle.pliron_core.specs.Writes.{after_creating, block_created, operand_pushed, successor_pushed}
use Rattle.pliron_core.proofs.GrownLemmas.{slice_get_kept}
use Rattle.pliron_core.proofs.TableLemmas.{set-other}
use Rattle.pliron_core.proofs.HoldingLemmas.{not_none, slot_is, region_by, holder_is, holder_by}
use Rattle.pliron_core.proofs.CreatedLemmas.{defined_kept}
use Rattle.pliron_text.specs.Building.{KeepsEntries, IsExtended, IsKept, after_appending}

pub keeps-more : {A : Type 0} (xs ys zs : List A) → KeepsEntries xs ys → KeepsEntries xs (ys ++ zs)
keeps-more xs ys zs h k x e = slice_get_kept ys zs k x (h k x e)

pub keeps-set : {A : Type 0} (xs ys : List A) (i : ℕ) (y : A) → length xs ≤ i → KeepsEntries xs ys → KeepsEntries xs (slice_set ys i y)
keeps-set xs ys i y le h k x e = set-other ys i k y (λ s. let lt : k < length xs = slice_get_within xs k x e in omega (arith, lt, s, le)) ∙ h k x e

pub keeps-trans : {A : Type 0} (xs ys zs : List A) → KeepsEntries xs ys → KeepsEntries ys zs → KeepsEntries xs zs
keeps-trans xs ys zs h g k x e = g k x (h k x e)

-- what a table that is kept reads, or it read the default before
pub keeps-at : {A : Type 0} (xs ys : List A) (k : ℕ) (d : A) → KeepsEntries xs ys → (get_or ys k d ≡ get_or xs k d) ⊎ (get_or xs k d ≡ d)
keeps-at xs ys k d h = ⊎_elim
    (λ p. inl (get_or_from_slice_get ys k p.0 d (h k p.0 p.2) ∙ sym (get_or_from_slice_get xs k p.0 d p.2)))
    (λ p. inr (get_or_past xs k d p.0))
    (slice_get_cases xs k).1

pub keeps-old : {A : Type 0} (xs ys : List A) (k : ℕ) (d : A) → k < length xs → KeepsEntries xs ys → get_or ys k d ≡ get_or xs k d
keeps-old xs ys k d lt h = get_or_from_slice_get ys k (get_or xs k d) d (h k (get_or xs k d) (slice_get-get_or xs k d lt))

pub keeps-some : {A : Type 0} (xs ys : List (Option A)) (k : ℕ) (b : A) → KeepsEntries xs ys → get_or xs k None ≡ Some b → get_or ys k None ≡ Some b
keeps-some xs ys k b h e = ⊎_elim (λ s. s ∙ e) (λ n. absurd (not_none (sym n ∙ e))) (keeps-at xs ys k None h)

pub keeps-length : {A : Type 0} (xs ys : List A) → KeepsEntries xs ys → length xs ≤ length ys
keeps-length [] ys h = omega arith
keeps-length (x ∷ xs) ys h =
    let at : slice_get (x ∷ xs) (length xs) ≡ Some (get_or (x ∷ xs) (length xs) x) = slice_get-get_or (x ∷ xs) (length xs) x (omega arith) in
    let lt = slice_get_within ys (length xs) (get_or (x ∷ xs) (length xs) x) (h (length xs) (get_or (x ∷ xs) (length xs) x) at) in omega (arith, lt)

nothing_at : {A : Type 0} (i : ℕ) (v : A) → slice_get {X = A} [] i ≡ Some v → ⊥
nothing_at zero v e = not_none e
nothing_at (suc i) v e = not_none e

pub more-refl : (t : Tree) → IsExtended t t
more-refl t = record { operations = λ k x e. e; parents = λ k x e. e; arguments = λ k x e. e; block_parents = λ k x e. e; slots = λ k x e. e; definitions = λ k x e. e }

pub more-trans : (t u v : Tree) → IsExtended t u → IsExtended u v → IsExtended t v
more-trans t u v m n = record {
  operations = keeps-trans t.operations u.operations v.operations m.operations n.operations;
  parents = keeps-trans t.parents u.parents v.parents m.parents n.parents;
  arguments = keeps-trans t.arguments u.arguments v.arguments m.arguments n.arguments;
  block_parents = keeps-trans t.block_parents u.block_parents v.block_parents m.block_parents n.block_parents;
  slots = keeps-trans t.slots u.slots v.slots m.slots n.slots;
  definitions = keeps-trans t.definitions u.definitions v.definitions m.definitions n.definitions;
}

-- what stands in the one stands in the other
module _ (t u : Tree) (m : IsExtended t u) where
  pub more-row : (k : ℕ) → IsLive t k → row_of u k ≡ row_of t k
  more-row k live = ⊎_elim (λ s. s) (λ n. absurd (true≢false (sym (subst (λ z. IsSome z.head) n live)))) (keeps-at t.operations u.operations k no_entry m.operations)

  pub more-live : (k : ℕ) → IsLive t k → IsLive u k
  more-live k live = subst (λ z. IsSome z.head) (sym (more-row k live)) live

  pub more-parent : (k b : ℕ) → parent_of t k ≡ Some b → parent_of u k ≡ Some b
  more-parent k b e = keeps-some t.parents u.parents k b m.parents e

  pub more-block_parent : (b r : ℕ) → block_parent_of t b ≡ Some r → block_parent_of u b ≡ Some r
  more-block_parent b r e = keeps-some t.block_parents u.block_parents b r m.block_parents e

  pub more-block : (b : ℕ) → IsBlock t b → IsBlock u b
  more-block b is = go (block_parent_of t b) refl is
    where
      go : (o : Option ℕ) → block_parent_of t b ≡ o → IsSome o → IsBlock u b
      go None e s = absurd (true≢false (sym s))
      go (Some r) e s = ap is_some (more-block_parent b r e)

  more-region_list : (k i r : ℕ) → slice_get (regions_of t k) i ≡ Some r → slice_get (regions_of u k) i ≡ Some r
  more-region_list k i r e = ⊎_elim (λ s. ap (λ z. slice_get z.regions i) s ∙ e) (λ n. absurd (nothing_at i r (sym (ap (λ z. slice_get z.regions i) n) ∙ e))) (keeps-at t.operations u.operations k no_entry m.operations)

  more-result_list : (k i v : ℕ) → slice_get (results_of t k) i ≡ Some v → slice_get (results_of u k) i ≡ Some v
  more-result_list k i v e = ⊎_elim (λ s. ap (λ z. slice_get z.results i) s ∙ e) (λ n. absurd (nothing_at i v (sym (ap (λ z. slice_get z.results i) n) ∙ e))) (keeps-at t.operations u.operations k no_entry m.operations)

  more-argument_list : (b i v : ℕ) → slice_get (arguments_of t b) i ≡ Some v → slice_get (arguments_of u b) i ≡ Some v
  more-argument_list b i v e = ⊎_elim (λ s. ap (λ z. slice_get z i) s ∙ e) (λ n. absurd (nothing_at i v (sym (ap (λ z. slice_get z i) n) ∙ e))) (keeps-at t.arguments u.arguments b [] m.arguments)

  pub more-region : (r : ℕ) → IsRegion t r → IsRegion u r
  more-region r is = let s = slot_is t r is in region_by u r s.0 (m.slots r s.0 s.1) (more-region_list s.0.op s.0.index r s.2)

  pub more-defined : (v : ℕ) → IsDefined t v → IsDefined u v
  more-defined v is = defined_kept t u v (λ d e. m.definitions v d e) (λ k i e. more-result_list k i v e) (λ b i e. more-argument_list b i v e) is

  pub more-region_parent : (r h : ℕ) → region_parent_of t r ≡ Some h → region_parent_of u r ≡ Some h
  more-region_parent r h e = go (slot_of t r) refl e
    where
      go : (o : Option RegionSlot) → slot_of t r ≡ o → op_of_slot o ≡ Some h → region_parent_of u r ≡ Some h
      go None s f = absurd (not_none f)
      go (Some slot) s f = ap op_of_slot (m.slots r slot s) ∙ f

  pub more-block_parent_operation : (b h : ℕ) → block_parent_operation_of t b ≡ Some h → block_parent_operation_of u b ≡ Some h
  more-block_parent_operation b h e = go (block_parent_of t b) refl
    where
      go : (o : Option ℕ) → block_parent_of t b ≡ o → block_parent_operation_of u b ≡ Some h
      go None s = absurd (not_none (sym (ap (λ o. up_from o (λ r. region_parent_of t r)) s) ∙ e))
      go (Some r) s = ap (λ o. up_from o (λ q. region_parent_of u q)) (more-block_parent b r s) ∙ more-region_parent r h (sym (ap (λ o. up_from o (λ q. region_parent_of t q)) s) ∙ e)

  pub more-holder : (x h : ℕ) → parent_operation_of t x ≡ Some h → parent_operation_of u x ≡ Some h
  more-holder x h e = let p = holder_is t x h e in holder_by u x p.0 h (more-parent x p.0 p.1) (more-block_parent_operation p.0 h p.2)

-- each step of the building gives more
pub more-appended : (u : Tree) (head : Head) (results regions block : ℕ) → HaveSameKeys u → IsExtended u (after_appending u head results regions block)
more-appended u head results regions block keys = record {
  operations = keeps-more u.operations u.operations _ (λ k x e. e);
  parents = keeps-set u.parents _ (length u.operations) (Some block) (let s = keys.parents in omega (arith, s)) (keeps-more u.parents u.parents _ (λ k x e. e));
  arguments = λ k x e. e;
  block_parents = λ k x e. e;
  slots = keeps-more u.slots u.slots _ (λ k x e. e);
  definitions = keeps-more u.definitions u.definitions _ (λ k x e. e);
}

pub more-created : (u : Tree) (head : Head) (results regions : ℕ) → IsExtended u (after_creating u head results regions)
more-created u head results regions = record {
  operations = keeps-more u.operations u.operations _ (λ k x e. e);
  parents = keeps-more u.parents u.parents _ (λ k x e. e);
  arguments = λ k x e. e;
  block_parents = λ k x e. e;
  slots = keeps-more u.slots u.slots _ (λ k x e. e);
  definitions = keeps-more u.definitions u.definitions _ (λ k x e. e);
}

pub more-block_created : (u : Tree) (region arguments : ℕ) → IsExtended u (block_created u region arguments)
more-block_created u region arguments = record {
  operations = λ k x e. e;
  parents = λ k x e. e;
  arguments = keeps-more u.arguments u.arguments _ (λ k x e. e);
  block_parents = keeps-more u.block_parents u.block_parents _ (λ k x e. e);
  slots = λ k x e. e;
  definitions = keeps-more u.definitions u.definitions _ (λ k x e. e);
}

pub more-operand : (u : Tree) (op value : ℕ) → IsExtended u (operand_pushed u op value)
more-operand u op value = record { operations = λ k x e. e; parents = λ k x e. e; arguments = λ k x e. e; block_parents = λ k x e. e; slots = λ k x e. e; definitions = λ k x e. e }

pub more-successor : (u : Tree) (op block : ℕ) → IsExtended u (successor_pushed u op block)
more-successor u op block = record { operations = λ k x e. e; parents = λ k x e. e; arguments = λ k x e. e; block_parents = λ k x e. e; slots = λ k x e. e; definitions = λ k x e. e }

-- and leaves what t has
pub kept-created : (t : Tree) (head : Head) (results regions : ℕ) → IsKept t (after_creating t head results regions)
kept-created t head results regions = record {
  more = more-created t head results regions;
  operands = keeps-more t.operands t.operands _ (λ k x e. e);
  successors = keeps-more t.successors t.successors _ (λ k x e. e);
  bodies = λ k x e. e;
  layouts = keeps-more t.layouts t.layouts _ (λ k x e. e);
}

pub kept-appended : (t u : Tree) (head : Head) (results regions block : ℕ) → HaveSameKeys u → length t.bodies ≤ block → IsKept t u → IsKept t (after_appending u head results regions block)
kept-appended t u head results regions block keys le kept = record {
  more = more-trans t u (after_appending u head results regions block) kept.more (more-appended u head results regions block keys);
  operands = keeps-more t.operands u.operands _ kept.operands;
  successors = keeps-more t.successors u.successors _ kept.successors;
  bodies = keeps-set t.bodies u.bodies block _ le kept.bodies;
  layouts = keeps-more t.layouts u.layouts _ kept.layouts;
}

pub kept-block_created : (t u : Tree) (region arguments : ℕ) → length t.layouts ≤ region → IsKept t u → IsKept t (block_created u region arguments)
kept-block_created t u region arguments le kept = record {
  more = more-trans t u (block_created u region arguments) kept.more (more-block_created u region arguments);
  operands = kept.operands;
  successors = kept.successors;
  bodies = keeps-more t.bodies u.bodies _ kept.bodies;
  layouts = keeps-set t.layouts u.layouts region _ le kept.layouts;
}

pub kept-operand : (t u : Tree) (op value : ℕ) → length t.operands ≤ op → IsKept t u → IsKept t (operand_pushed u op value)
kept-operand t u op value le kept = record {
  more = more-trans t u (operand_pushed u op value) kept.more (more-operand u op value);
  operands = keeps-set t.operands u.operands op _ le kept.operands;
  successors = kept.successors;
  bodies = kept.bodies;
  layouts = kept.layouts;
}

pub kept-successor : (t u : Tree) (op block : ℕ) → length t.successors ≤ op → IsKept t u → IsKept t (successor_pushed u op block)
kept-successor t u op block le kept = record {
  more = more-trans t u (successor_pushed u op block) kept.more (more-successor u op block);
  operands = kept.operands;
  successors = keeps-set t.successors u.successors op _ le kept.successors;
  bodies = kept.bodies;
  layouts = kept.layouts;
}
