-- An operation is taken apart step by step.
use Rattle.std.proofs.Common.{◌≡◌, ◌≢◌, ◌⊎◌, ℕ, zero, suc, Bool, true, nat_eq, List, [], ◌∷◌, get_or, Option, Some, None, IsSome, refl, sym, ap, ◌∙◌, subst, inl, inr, slice_get, slice_set}
use Rattle.std.proofs.lemmas.Bool.{cases_eq, eq-eqb, ne_eqb}
use Rattle.std.proofs.lemmas.List.{get_or-set_other, get_or-set_same, length-set}
use Rattle.pliron_core.specs.declared.context.Def.{Def}
use Rattle.pliron_core.specs.declared.context.Def.TheVariants.{Result, Argument}
use Rattle.pliron_core.specs.Tree.{Tree, In, IsLive, IsDefinedWithin, no_entry, row_of, head_of, parent_of, block_parent_of, definition_of, block_parent_operation_of, parent_operation_of}
use Rattle.pliron_core.specs.Invariant.{IsTree}
use Rattle.pliron_core.specs.Writes.{taken_from, taken_out}
use Rattle.pliron_core.specs.Erased.{is_met_above, after_clearing, block_taken_from}
use Rattle.pliron_core.specs.Dismantling.{IsStep, Down, LessBlock, LessRegion, Up, IsUnused, IsUnnamed, IsMadeAt, after_dismantling, region_popped}
use Rattle.pliron_core.proofs.TreeLemmas.{live-within, live_dead}
use Rattle.pliron_core.proofs.WithinLemmas.{block_steps, holder_steps, holder_from, holder_live, not_own_holder, met_below, met_here, met_up, within_is, equal_from}
use Rattle.pliron_core.proofs.BlankLemmas.{is_blanked}
use Rattle.pliron_core.proofs.ClearingLemmas.{IsClearing, op_gone, block_gone, region_gone, clearing_none, clearing_trans, set_kept, block_holder_was, holder_was, holder_is, region_parent_same, cleared_all, detached_blocks}

pub set_none_some : (xs : List (Option ℕ)) (i k q : ℕ) → get_or (slice_set xs i None) k None ≡ Some q → get_or xs k None ≡ Some q
set_none_some [] i k q e = e
set_none_some (x ∷ xs) zero zero q e = absurd (cc)
set_none_some (x ∷ xs) zero (suc k) q e = e
set_none_some (x ∷ xs) (suc i) zero q e = e
set_none_some (x ∷ xs) (suc i) (suc k) q e = set_none_some xs i k q e

pub set_default : {A : Type 0} (xs : List A) (d : A) (i : ℕ) → get_or (slice_set xs i d) i d ≡ d
set_default [] d i = refl
set_default (x ∷ xs) d zero = refl
set_default (x ∷ xs) d (suc i) = set_default xs d i

-- an empty block leaves
clearing_block : (ops blocks bodies regions : ℕ → Bool) (t : Tree) (b r : ℕ) → block_parent_of t b ≡ Some r → blocks b ≡ true → regions r ≡ true → IsClearing ops blocks bodies regions t (block_taken_from t b (Some r))
clearing_block ops blocks bodies regions t b r at gb gr = record {
  count = refl;
  block_count = refl;
  slots = refl;
  definitions = refl;
  rows = λ k e. refl;
  operands = λ k e. refl;
  successors = λ k e. refl;
  parents = λ k e. refl;
  contents = λ x e. refl;
  arguments = λ x e. set_kept t.arguments [] blocks b [] x gb e;
  block_parents = λ x e. set_kept t.block_parents None blocks b None x gb e;
  layouts = λ q e. set_kept t.layouts [] regions r _ q gr e;
  stays = λ k l. (l, refl);
  placed = λ x q e. set_none_some t.block_parents b x q e;
}

popped_head : (t : Tree) (op k : ℕ) → IsLive t op → head_of (region_popped t op) k ≡ head_of t k
popped_head t op k live = elim (cases_eq k op) [
  | inl s ↦ ap (head_of (region_popped t op)) s ∙ ap (λ z. z.head) (get_or-set_same t.operations op _ no_entry (live-within t op live)) ∙ ap (head_of t) (sym s)
  | inr ne ↦ ap (λ z. z.head) (get_or-set_other t.operations op k _ no_entry ne)
]

-- the last region goes
clearing_region : (ops blocks bodies regions : ℕ → Bool) (t : Tree) (op : ℕ) → IsLive t op → ops op ≡ true → IsClearing ops blocks bodies regions t (region_popped t op)
clearing_region ops blocks bodies regions t op live g = record {
  count = length-set _ _ _;
  block_count = refl;
  slots = refl;
  definitions = refl;
  rows = λ k e. set_kept t.operations no_entry ops op _ k g e;
  operands = λ k e. refl;
  successors = λ k e. refl;
  parents = λ k e. refl;
  contents = λ x e. refl;
  arguments = λ x e. refl;
  block_parents = λ x e. refl;
  layouts = λ q e. refl;
  stays = λ k l. (subst IsSome (popped_head t op k live) l, refl);
  placed = λ x q e. e;
}

-- an operation goes, out of the block that has it
gone_row : (t : Tree) (op k : ℕ) → IsLive (after_dismantling t op) k → (k ≢ op) × (row_of (after_dismantling t op) k ≡ row_of t k)
gone_row t op k l = go (cases_eq k op)
  where
    go : (k ≡ op) ⊎ (k ≢ op) → (k ≢ op) × (row_of (after_dismantling t op) k ≡ row_of t k)
    go (inl s) = absurd (live_dead (after_dismantling t op) op (subst (IsLive (after_dismantling t op)) s l) (ap (λ z. z.head) (set_default t.operations no_entry op)))
    go (inr ne) = (ne, get_or-set_other t.operations op k no_entry no_entry ne)

clearing_up : (ops blocks bodies regions : ℕ → Bool) (t : Tree) (op : ℕ) (o : Option ℕ) → ops op ≡ true → ((b : ℕ) → o ≡ Some b → bodies b ≡ true) → IsClearing ops blocks bodies regions t (after_dismantling (taken_from t op o) op)
clearing_up ops blocks bodies regions t op None g h = record {
  count = length-set _ _ _;
  block_count = refl;
  slots = refl;
  definitions = refl;
  rows = λ k e. set_kept t.operations no_entry ops op _ k g e;
  operands = λ k e. refl;
  successors = λ k e. refl;
  parents = λ k e. refl;
  contents = λ x e. refl;
  arguments = λ x e. refl;
  block_parents = λ x e. refl;
  layouts = λ q e. refl;
  stays = λ k l. (subst (λ z. IsSome z.head) (gone_row t op k l).1 l, refl);
  placed = λ x q e. e;
}
clearing_up ops blocks bodies regions t op (Some b) g h = record {
  count = length-set _ _ _;
  block_count = length-set _ _ _;
  slots = refl;
  definitions = refl;
  rows = λ k e. set_kept t.operations no_entry ops op _ k g e;
  operands = λ k e. refl;
  successors = λ k e. refl;
  parents = λ k e. set_kept t.parents None ops op None k g e;
  contents = λ x e. set_kept t.bodies [] bodies b _ x (h b refl) e;
  arguments = λ x e. refl;
  block_parents = λ x e. refl;
  layouts = λ q e. refl;
  stays = λ k l. let r = gone_row (taken_from t op (Some b)) op k l in (subst (λ z. IsSome z.head) r.1 l, get_or-set_other t.parents op k None None r.0);
  placed = λ x q e. e;
}

pub taken-operations : (t : Tree) (op : ℕ) (o : Option ℕ) → (taken_from t op o).operations ≡ t.operations
taken-operations t op None = refl
taken-operations t op (Some b) = refl

pub taken-block_parents : (t : Tree) (op : ℕ) (o : Option ℕ) → (taken_from t op o).block_parents ≡ t.block_parents
taken-block_parents t op None = refl
taken-block_parents t op (Some b) = refl

pub taken-operands : (t : Tree) (op : ℕ) (o : Option ℕ) → (taken_from t op o).operands ≡ t.operands
taken-operands t op None = refl
taken-operands t op (Some b) = refl

pub taken-successors : (t : Tree) (op : ℕ) (o : Option ℕ) → (taken_from t op o).successors ≡ t.successors
taken-successors t op None = refl
taken-successors t op (Some b) = refl

-- where the way stands: at a live operation that is to go, or at its end
abbrev pub IsPlace : Tree → ℕ → Tree → Option ℕ → Type 0
IsPlace t op u None = head_of u op ≡ None
IsPlace t op u (Some k) = IsLive u k × (op_gone t (nat_eq op) k ≡ true)

pub record IsDescent (t : Tree) (op : ℕ) (at : Option ℕ) (u : Tree) : Type 0 where
  pub tree : IsTree u
  pub clearing : IsClearing (op_gone t (nat_eq op)) (block_gone t (nat_eq op)) (block_gone t (nat_eq op)) (region_gone t (nat_eq op)) t u
  pub operands : u.operands ≡ t.operands
  pub successors : u.successors ≡ t.successors
  pub place : IsPlace t op u at

module _ (t : Tree) (op : ℕ) (w : IsTree t) (live : IsLive t op) (free : parent_of t op ≡ None) where
  abbrev ops : ℕ → Bool
  ops = op_gone t (nat_eq op)

  abbrev blocks : ℕ → Bool
  blocks = block_gone t (nat_eq op)

  abbrev regions : ℕ → Bool
  regions = region_gone t (nat_eq op)

  root_gone : op_gone t (nat_eq op) op ≡ true
  root_gone = met_here t (nat_eq op) w.joined op (live-within t op live) (eq-eqb op op refl)

  pub descent_start : IsDescent t op (Some op) t
  descent_start = record { tree = w; clearing = clearing_none _ _ _ _ t; operands = refl; successors = refl; place = (live, root_gone) }

  module _ (u : Tree) (k : ℕ) (d : IsDescent t op (Some k) u) where
    held_was : (b : ℕ) → block_parent_operation_of u b ≡ Some k → block_parent_operation_of t b ≡ Some k
    held_was b e = block_holder_was t u (nat_eq op) blocks w d.tree d.clearing b k e

    made_within : (o : Option Def) → IsMadeAt u k o → IsDefinedWithin t op o
    made_within None m = m
    made_within (Some (Result j i)) m = within_is t op j (ap (op_gone t (nat_eq op)) m ∙ d.place.1)
    made_within (Some (Argument b i)) m = (k, held_was b m, within_is t op k d.place.1)

    pub descent_unnamed : IsUnused t op → IsUnnamed u k
    descent_unnamed n = record {
      values = λ x v i m. n.values x v (subst (λ z. In v (get_or z x [])) d.operands i) (made_within (definition_of t v) (subst (IsMadeAt u k) (ap (λ z. slice_get z v) d.clearing.definitions) m));
      blocks = λ x b i e. n.blocks x b (subst (λ z. In b (get_or z x [])) d.successors i) (k, held_was b e, within_is t op k d.place.1);
      operands = ap (λ z. get_or z k []) d.operands ∙ (n.bare k (within_is t op k d.place.1)).0;
      successors = ap (λ z. get_or z k []) d.successors ∙ (n.bare k (within_is t op k d.place.1)).1;
    }

    -- what stands above it, if it isn't the root
    above : (b : ℕ) → parent_of u k ≡ Some b → (y : ℕ) × (block_parent_operation_of u b ≡ Some y) × (op_gone t (nat_eq op) y ≡ true)
    above b e =
        let was : parent_of t k ≡ Some b = sym (d.clearing.stays k d.place.0).1 ∙ e in
        let ne : op ≢ k = λ s. let f : None ≡ Some b = sym free ∙ ap (parent_of t) s ∙ was in cc in
        let up = met_up t (nat_eq op) w.joined k (live-within t k (d.clearing.stays k d.place.0).0) (ne_eqb op k ne) d.place.1 in
        let held = holder_is t u (nat_eq op) blocks w d.tree d.clearing k up.0 d.place.0 up.1 in
        (up.0, sym (holder_from u k b e) ∙ held, up.2)

    bodies_gone : (b : ℕ) → parent_of u k ≡ Some b → block_gone t (nat_eq op) b ≡ true
    bodies_gone b e = let a = above b e in ap (is_met_above t (nat_eq op)) (block_holder_was t u (nat_eq op) blocks w d.tree d.clearing b a.0 a.1) ∙ a.2

    -- where the way ends, the root is gone
    root_only : parent_operation_of u k ≡ None → k ≡ op
    root_only e = go (cases_eq k op)
      where
        go : (k ≡ op) ⊎ (k ≢ op) → k ≡ op
        go (inl s) = s
        go (inr ne) =
            let up = met_up t (nat_eq op) w.joined k (live-within t k (d.clearing.stays k d.place.0).0) (ne_eqb op k (λ s. ne (sym s))) d.place.1 in
            let held = holder_is t u (nat_eq op) blocks w d.tree d.clearing k up.0 d.place.0 up.1 in
            absurd (let f : None ≡ Some up.0 = sym e ∙ held in cc)

    step_clearing : (o : Option ℕ) (v : Tree) → IsStep u k o v → IsClearing ops blocks blocks regions u v
    step_clearing o v (Down c to l h e) = subst (IsClearing ops blocks blocks regions u) (sym e) (clearing_none ops blocks blocks regions u)
    step_clearing o v (LessBlock b to h n e) =
        let s = block_steps u b k h in
        let gb : block_gone t (nat_eq op) b ≡ true = ap (is_met_above t (nat_eq op)) (held_was b h) ∙ d.place.1 in
        let gr : region_gone t (nat_eq op) s.0 ≡ true = ap (is_met_above t (nat_eq op)) (sym (region_parent_same t u (nat_eq op) blocks w d.tree d.clearing s.0) ∙ s.2) ∙ d.place.1 in
        subst (IsClearing ops blocks blocks regions u) (sym (e ∙ ap (block_taken_from u b) s.1)) (clearing_block ops blocks blocks regions u b s.0 s.1 gb gr)
    step_clearing o v (LessRegion r to last n e) = subst (IsClearing ops blocks blocks regions u) (sym e) (clearing_region ops blocks blocks regions u k d.place.0 d.place.1)
    step_clearing o v (Up to n e) = subst (IsClearing ops blocks blocks regions u) (sym e) (clearing_up ops blocks blocks regions u k (parent_of u k) d.place.1 bodies_gone)

    step_operands : (o : Option ℕ) (v : Tree) → IsStep u k o v → v.operands ≡ u.operands
    step_operands o v (Down c to l h e) = ap (λ z. z.operands) e
    step_operands o v (LessBlock b to h n e) = let s = block_steps u b k h in ap (λ z. z.operands) (e ∙ ap (block_taken_from u b) s.1)
    step_operands o v (LessRegion r to last n e) = ap (λ z. z.operands) e
    step_operands o v (Up to n e) = ap (λ z. z.operands) e ∙ taken-operands u k (parent_of u k)

    step_successors : (o : Option ℕ) (v : Tree) → IsStep u k o v → v.successors ≡ u.successors
    step_successors o v (Down c to l h e) = ap (λ z. z.successors) e
    step_successors o v (LessBlock b to h n e) = let s = block_steps u b k h in ap (λ z. z.successors) (e ∙ ap (block_taken_from u b) s.1)
    step_successors o v (LessRegion r to last n e) = ap (λ z. z.successors) e
    step_successors o v (Up to n e) = ap (λ z. z.successors) e ∙ taken-successors u k (parent_of u k)

    step_place : (o : Option ℕ) (v : Tree) → IsStep u k o v → IsPlace t op v o
    step_place o v (Down c to l h e) = subst (IsPlace t op v) (sym to) (subst (λ z. IsLive z c) (sym e) l, met_below t (nat_eq op) w.joined c k (holder_was t u (nat_eq op) blocks w d.tree d.clearing c k h) d.place.1)
    step_place o v (LessBlock b to h n e) = subst (IsPlace t op v) (sym to) (let s = block_steps u b k h in subst (λ z. IsLive z k) (sym (e ∙ ap (block_taken_from u b) s.1)) d.place.0, d.place.1)
    step_place o v (LessRegion r to last n e) = subst (IsPlace t op v) (sym to) (subst (λ z. IsLive z k) (sym e) (subst IsSome (sym (popped_head u k k d.place.0)) d.place.0), d.place.1)
    step_place o v (Up to n e) = subst (IsPlace t op v) (sym to) (subst (λ z. IsPlace t op z (parent_operation_of u k)) (sym e) (go (parent_operation_of u k) refl))
      where
        row : (y : ℕ) → y ≢ k → row_of (after_dismantling (taken_out u k) k) y ≡ row_of u y
        row y ne = get_or-set_other (taken_out u k).operations k y no_entry no_entry ne ∙ ap (λ z. get_or z y no_entry) (taken-operations u k (parent_of u k))

        go : (q : Option ℕ) → parent_operation_of u k ≡ q → IsPlace t op (after_dismantling (taken_out u k) k) q
        go None f = subst (λ z. head_of (after_dismantling (taken_out u k) k) z ≡ None) (root_only f) (ap (λ z. z.head) (set_default (taken_out u k).operations no_entry k))
        go (Some y) f =
            let ne : y ≢ k = λ s. not_own_holder u k d.tree.joined (f ∙ ap Some s) in
            let b = holder_steps u k y f in
            let a = above b.0 b.1 in
            let z : Some a.0 ≡ Some y = sym a.1 ∙ b.2 in
            let same : a.0 ≡ y = cc in
            (subst (λ z. IsSome z.head) (sym (row y ne)) (holder_live u k y d.tree.joined f).1, ap (op_gone t (nat_eq op)) (sym same) ∙ a.2)

    pub descent_step : (o : Option ℕ) (v : Tree) → IsTree v → IsStep u k o v → IsDescent t op o v
    descent_step o v is s = record {
      tree = is;
      clearing = clearing_trans ops blocks blocks regions t u v d.clearing (step_clearing o v s);
      operands = step_operands o v s ∙ d.operands;
      successors = step_successors o v s ∙ d.successors;
      place = step_place o v s;
    }

  pub descent_end : (u : Tree) → IsDescent t op None u → u ≡ after_clearing t (nat_eq op)
  descent_end u d =
      cleared_all t u (nat_eq op) blocks w d.tree d.clearing none ∙ ap (λ z. record (after_clearing t (nat_eq op)) { bodies = z })
      (is_blanked blocks [] t.bodies u.bodies d.clearing.block_count (λ b g. (detached_blocks t u (nat_eq op) blocks w d.tree d.clearing none b g).1) d.clearing.contents)
    where
      none : (k : ℕ) → nat_eq op k ≡ true → IsLive u k → ⊥
      none k e l = live_dead u op (subst (IsLive u) (equal_from op k e) l) d.place
