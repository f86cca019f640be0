-- Trees from which a part has gone.
use Rattle.std.proofs.Common.{◌≡◌, ℕ, zero, suc, ◌<◌, Bool, true, false, List, [], ◌∷◌, length, get_or, Option, Some, None, is_some, refl, sym, ap, ◌∙◌, subst, inl, arith, slice_get, slice_set, true≢false}
use Rattle.std.proofs.lemmas.List.{get_or-set_other}
use Rattle.pliron_core.specs.declared.context.Def.{Def}
use Rattle.pliron_core.specs.declared.context.RegionSlot.{RegionSlot}
use Rattle.pliron_core.specs.declared.context.OperationEntry.{OperationEntry}
use Rattle.pliron_core.specs.Tree.{Tree, In, IsLive, climb, op_of_slot, no_entry, row_of, head_of, operands_of, successors_of, parent_of, body_of, arguments_of, block_parent_of, layout_of, region_parent_of, block_parent_operation_of, parent_operation_of}
use Rattle.pliron_core.specs.Invariant.{IsTree}
use Rattle.pliron_core.specs.Erased.{is_met_above, after_clearing}
use Rattle.pliron_core.proofs.BlankLemmas.{is_blanked}
use Rattle.pliron_core.proofs.TreeLemmas.{live-within, live_dead}
use Rattle.pliron_core.proofs.WithinLemmas.{block_steps, holder_steps, holder_from, block_holder_from, block_holder_live, region_has, region_parent_live, met_up}

-- operations, blocks and regions that go, with the operations for which the test holds
abbrev pub op_gone : Tree → (ℕ → Bool) → ℕ → Bool
op_gone t p k = is_met_above t p (Some k)

abbrev pub block_gone : Tree → (ℕ → Bool) → ℕ → Bool
block_gone t p b = is_met_above t p (block_parent_operation_of t b)

abbrev pub region_gone : Tree → (ℕ → Bool) → ℕ → Bool
region_gone t p r = is_met_above t p (region_parent_of t r)

-- only what is in these sets has changed, and it has only lost what it had
pub record IsClearing (ops blocks bodies regions : ℕ → Bool) (t u : Tree) : Type 0 where
  pub count : length u.operations ≡ length t.operations
  pub block_count : length u.bodies ≡ length t.bodies
  pub slots : u.slots ≡ t.slots
  pub definitions : u.definitions ≡ t.definitions
  pub rows : (k : ℕ) → ops k ≡ false → row_of u k ≡ row_of t k
  pub operands : (k : ℕ) → ops k ≡ false → operands_of u k ≡ operands_of t k
  pub successors : (k : ℕ) → ops k ≡ false → successors_of u k ≡ successors_of t k
  pub parents : (k : ℕ) → ops k ≡ false → parent_of u k ≡ parent_of t k
  pub contents : (b : ℕ) → bodies b ≡ false → body_of u b ≡ body_of t b
  pub arguments : (b : ℕ) → blocks b ≡ false → arguments_of u b ≡ arguments_of t b
  pub block_parents : (b : ℕ) → blocks b ≡ false → block_parent_of u b ≡ block_parent_of t b
  pub layouts : (r : ℕ) → regions r ≡ false → layout_of u r ≡ layout_of t r
  pub stays : (k : ℕ) → IsLive u k → IsLive t k × (parent_of u k ≡ parent_of t k)
  pub placed : (b r : ℕ) → block_parent_of u b ≡ Some r → block_parent_of t b ≡ Some r

pub clearing_none : (ops blocks bodies regions : ℕ → Bool) (t : Tree) → IsClearing ops blocks bodies regions t t
clearing_none ops blocks bodies regions t = record {
  count = refl;
  block_count = refl;
  slots = refl;
  definitions = refl;
  rows = λ k e. refl;
  operands = λ k e. refl;
  successors = λ k e. refl;
  parents = λ k e. refl;
  contents = λ b e. refl;
  arguments = λ b e. refl;
  block_parents = λ b e. refl;
  layouts = λ r e. refl;
  stays = λ k l. (l, refl);
  placed = λ b r e. e;
}

pub clearing_trans : (ops blocks bodies regions : ℕ → Bool) (t u v : Tree) → IsClearing ops blocks bodies regions t u → IsClearing ops blocks bodies regions u v → IsClearing ops blocks bodies regions t v
clearing_trans ops blocks bodies regions t u v a b = record {
  count = b.count ∙ a.count;
  block_count = b.block_count ∙ a.block_count;
  slots = b.slots ∙ a.slots;
  definitions = b.definitions ∙ a.definitions;
  rows = λ k e. b.rows k e ∙ a.rows k e;
  operands = λ k e. b.operands k e ∙ a.operands k e;
  successors = λ k e. b.successors k e ∙ a.successors k e;
  parents = λ k e. b.parents k e ∙ a.parents k e;
  contents = λ x e. b.contents x e ∙ a.contents x e;
  arguments = λ x e. b.arguments x e ∙ a.arguments x e;
  block_parents = λ x e. b.block_parents x e ∙ a.block_parents x e;
  layouts = λ r e. b.layouts r e ∙ a.layouts r e;
  stays = λ k l. let s = b.stays k l in let r = a.stays k s.0 in (r.0, s.1 ∙ r.1);
  placed = λ x r e. a.placed x r (b.placed x r e);
}

-- a write in the set leaves alone what is not
pub set_kept : {A : Type 0} (xs : List A) (d : A) (deleted : ℕ → Bool) (i : ℕ) (x : A) (k : ℕ) → deleted i ≡ true → deleted k ≡ false → get_or (slice_set xs i x) k d ≡ get_or xs k d
set_kept xs d deleted i x k e f = get_or-set_other xs i k x d (λ s. true≢false (sym e ∙ ap deleted (sym s) ∙ f))

-- trees with equal tables
tables_same : (a1 b1 : List OperationEntry) (a2 b2 a3 b3 : List (List ℕ)) (a4 b4 : List (Option ℕ)) (a5 b5 a6 b6 : List (List ℕ)) (a7 b7 : List (Option ℕ)) (a8 b8 : List (List ℕ)) (a9 b9 : List RegionSlot) (a10 b10 : List Def)
    → a1 ≡ b1 → a2 ≡ b2 → a3 ≡ b3 → a4 ≡ b4 → a5 ≡ b5 → a6 ≡ b6 → a7 ≡ b7 → a8 ≡ b8 → a9 ≡ b9 → a10 ≡ b10
    → ◌≡◌ {A = Tree} (record { operations = a1; operands = a2; successors = a3; parents = a4; bodies = a5; arguments = a6; block_parents = a7; layouts = a8; slots = a9; definitions = a10 }) (record { operations = b1; operands = b2; successors = b3; parents = b4; bodies = b5; arguments = b6; block_parents = b7; layouts = b8; slots = b9; definitions = b10 })
tables_same a1 b1 a2 b2 a3 b3 a4 b4 a5 b5 a6 b6 a7 b7 a8 b8 a9 b9 a10 b10 e1 e2 e3 e4 e5 e6 e7 e8 e9 e10 = cc

pub tree_same : (t u : Tree) → t.operations ≡ u.operations → t.operands ≡ u.operands → t.successors ≡ u.successors → t.parents ≡ u.parents → t.bodies ≡ u.bodies → t.arguments ≡ u.arguments → t.block_parents ≡ u.block_parents → t.layouts ≡ u.layouts → t.slots ≡ u.slots → t.definitions ≡ u.definitions → t ≡ u
tree_same t u = tables_same t.operations u.operations t.operands u.operands t.successors u.successors t.parents u.parents t.bodies u.bodies t.arguments u.arguments t.block_parents u.block_parents t.layouts u.layouts t.slots u.slots t.definitions u.definitions

not_live : (t : Tree) (k : ℕ) → (IsLive t k → ⊥) → head_of t k ≡ None
not_live t k n = go (head_of t k) refl
  where
    go : (o : Option _) → head_of t k ≡ o → o ≡ None
    go None e = refl
    go (Some h) e = absurd (n (ap is_some e))

module _ (t u : Tree) (p bodies : ℕ → Bool) (wt : IsTree t) (wu : IsTree u) (c : IsClearing (op_gone t p) (block_gone t p) bodies (region_gone t p) t u) where
  pub region_parent_same : (r : ℕ) → region_parent_of u r ≡ region_parent_of t r
  region_parent_same r = ap (λ z. op_of_slot (slice_get z r)) c.slots

  pub block_holder_was : (b y : ℕ) → block_parent_operation_of u b ≡ Some y → block_parent_operation_of t b ≡ Some y
  block_holder_was b y e = let s = block_steps u b y e in block_holder_from t b s.0 (c.placed b s.0 s.1) ∙ sym (region_parent_same s.0) ∙ s.2

  pub holder_was : (x y : ℕ) → parent_operation_of u x ≡ Some y → parent_operation_of t x ≡ Some y
  holder_was x y e =
      let s = holder_steps u x y e in
      let k = c.stays x (wu.joined.all_in_place x s.0 s.1).0 in
      holder_from t x s.0 (sym k.1 ∙ s.1) ∙ block_holder_was s.0 y s.2

  pub holder_is : (x y : ℕ) → IsLive u x → parent_operation_of t x ≡ Some y → parent_operation_of u x ≡ Some y
  holder_is x y l e =
      let s = holder_steps t x y e in
      let at : parent_of u x ≡ Some s.0 = (c.stays x l).1 ∙ s.1 in
      go s.0 at s.2 (block_parent_of u s.0) refl
    where
      go : (b : ℕ) → parent_of u x ≡ Some b → block_parent_operation_of t b ≡ Some y → (o : Option ℕ) → block_parent_of u b ≡ o → parent_operation_of u x ≡ Some y
      go b f g None k = absurd (true≢false (sym (wu.joined.all_in_place x b f).1 ∙ ap is_some k))
      go b f g (Some r) k = holder_from u x b f ∙ block_holder_from u b r k ∙ region_parent_same r ∙ sym (block_holder_from t b r (c.placed b r k)) ∙ g

  live-below : (x : ℕ) → IsLive u x → x < length t.operations
  live-below x l = let h = live-within u x l in let n = c.count in omega (arith, h, n)

  -- once the operations of the test are gone, so are all
  gone_dead : ((k : ℕ) → p k ≡ true → IsLive u k → ⊥) → (n k : ℕ) → climb (parent_operation_of u) n (Some k) ≡ None → op_gone t p k ≡ true → IsLive u k → ⊥
  gone_dead none zero k e g l = cc
  gone_dead none (suc n) k e g l = go (p k) refl (λ y f. gone_dead none n y (ap (climb (parent_operation_of u) n) (sym f) ∙ e))
    where
      go : (b : Bool) → p k ≡ b → ((y : ℕ) → parent_operation_of u k ≡ Some y → op_gone t p y ≡ true → IsLive u y → ⊥) → ⊥
      go true f up = none k f l
      go false f up =
          let s = met_up t p wt.joined k (live-below k l) f g in
          let h = holder_is k s.0 l s.1 in
          let b = holder_steps u k s.0 h in
          up s.0 h s.2 (block_holder_live u b.0 s.0 wu.joined b.2)

  module _ (none : (k : ℕ) → p k ≡ true → IsLive u k → ⊥) where
    pub all_dead : (k : ℕ) → op_gone t p k ≡ true → head_of u k ≡ None
    all_dead k g = not_live u k (gone_dead none (wu.joined.rooted k).0 k (wu.joined.rooted k).1 g)

    no_parent : (k : ℕ) → head_of u k ≡ None → parent_of u k ≡ None
    no_parent k e = go (parent_of u k) refl
      where
        go : (o : Option ℕ) → parent_of u k ≡ o → o ≡ None
        go None f = refl
        go (Some b) f = absurd (true≢false (sym (wu.joined.all_in_place k b f).0 ∙ ap is_some e))

    -- no block of an operation that is gone stands
    not_placed : (b r : ℕ) → block_parent_of u b ≡ Some r → region_gone t p r ≡ true → ⊥
    not_placed b r e g =
        let is = wu.joined.placed b r e in
        let y = region_has u r is in
        let held : region_parent_of t r ≡ Some y.0 = sym (region_parent_same r) ∙ y.1 in
        live_dead u y.0 (region_parent_live u r y.0 wu.joined is y.1) (all_dead y.0 (ap (is_met_above t p) (sym held) ∙ g))

    no_holder : (b : ℕ) → block_gone t p b ≡ true → block_parent_of u b ≡ None
    no_holder b g = go (block_parent_of u b) refl
      where
        go : (o : Option ℕ) → block_parent_of u b ≡ o → o ≡ None
        go None f = refl
        go (Some r) f = absurd (not_placed b r f (ap (is_met_above t p) (sym (block_holder_from t b r (c.placed b r f))) ∙ g))

    no_layout : (r : ℕ) → region_gone t p r ≡ true → layout_of u r ≡ []
    no_layout r g = go (layout_of u r) refl
      where
        go : (xs : List ℕ) → layout_of u r ≡ xs → xs ≡ []
        go [] f = refl
        go (x ∷ xs) f = absurd (not_placed x r (wu.layouts.owned x r (subst (In x) (sym f) (inl refl))) g)

    pub detached_blocks : (b : ℕ) → block_gone t p b ≡ true → (arguments_of u b ≡ []) × (body_of u b ≡ [])
    detached_blocks b g = wu.joined.unplaced b (no_holder b g)

    pub cleared_all : u ≡ record (after_clearing t p) { bodies = u.bodies }
    cleared_all = tree_same u (record (after_clearing t p) { bodies = u.bodies })
        (is_blanked (op_gone t p) no_entry t.operations u.operations c.count (λ k g. (wu.joined.erased k (all_dead k g)).2) c.rows)
        (is_blanked (op_gone t p) [] t.operands u.operands (wu.keys.operands ∙ c.count ∙ sym wt.keys.operands) (λ k g. (wu.joined.erased k (all_dead k g)).0) c.operands)
        (is_blanked (op_gone t p) [] t.successors u.successors (wu.keys.successors ∙ c.count ∙ sym wt.keys.successors) (λ k g. (wu.joined.erased k (all_dead k g)).1) c.successors)
        (is_blanked (op_gone t p) None t.parents u.parents (wu.keys.parents ∙ c.count ∙ sym wt.keys.parents) (λ k g. no_parent k (all_dead k g)) c.parents)
        refl
        (is_blanked (block_gone t p) [] t.arguments u.arguments (wu.keys.arguments ∙ c.block_count ∙ sym wt.keys.arguments) (λ b g. (detached_blocks b g).0) c.arguments)
        (is_blanked (block_gone t p) None t.block_parents u.block_parents (wu.keys.block_parents ∙ c.block_count ∙ sym wt.keys.block_parents) no_holder c.block_parents)
        (is_blanked (region_gone t p) [] t.layouts u.layouts (sym wu.keys.slots ∙ ap length c.slots ∙ wt.keys.slots) no_layout c.layouts)
        c.slots c.definitions
