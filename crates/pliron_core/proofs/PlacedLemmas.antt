-- The invariant of a tree is kept where an operation comes to stand in a block, or leaves it.
use Rattle.std.proofs.Common.{◌≡◌, ◌≢◌, ◌⊎◌, ℕ, ◌<◌, true, false, List, [], length, get_or, Option, Some, None, IsSome, is_some, refl, sym, ap, ◌∙◌, subst, inl, inr, ⊎_elim, arith, slice_set, true≢false}
use Rattle.std.proofs.lemmas.Bool.{cases_eq}
use Rattle.std.proofs.lemmas.List.{get_or-set_other, get_or-set_same}
use Rattle.pliron_core.specs.Tree.{Tree, IsLive, IsBlock, IsRooted, IsInside, Directly, Deeper, HoldsBlock, climb, up_from, parent_operation_of, block_parent_operation_of, parent_of, block_parent_of}
use Rattle.pliron_core.specs.Invariant.{HaveSameKeys, IsJoined}
use Rattle.pliron_core.specs.Writes.{after_placing, taken_from}
use Rattle.pliron_core.proofs.TreeLemmas.{live-within, within-some, outside_climb, rooted_cut}
use Rattle.pliron_core.proofs.RootLemmas.{rooted-put}

pub kept_put : (t : Tree) (op block : ℕ) (body : List ℕ) → HaveSameKeys t → IsJoined t → IsLive t op → IsBlock t block → parent_of t op ≡ None → (HoldsBlock t op block → ⊥) → IsJoined (after_placing t op block body)
kept_put t op block body keys w live is free out = record {
  all_in_place = λ x b e. stand x b e (cases_eq x op);
  placed = w.placed;
  regions = w.regions;
  results = w.results;
  arguments = w.arguments;
  operands = w.operands;
  successors = w.successors;
  ordered = w.ordered;
  erased = w.erased;
  unplaced = λ b e. let x = w.unplaced b e in (x.0, get_or-set_other t.bodies block b body [] (other b e) ∙ x.1);
  rooted = root (block_parent_operation_of t block) refl;
}
  where
    lt : op < length t.parents
    lt = let h = live-within t op live in omega (arith, h, keys.parents)

    other : (b : ℕ) → block_parent_of t b ≡ None → b ≢ block
    other b e s = let l : IsSome (block_parent_of t b) = subst (λ z. IsSome (block_parent_of t z)) (sym s) is in let m : is_some (block_parent_of t b) ≡ false = ap is_some e in absurd (true≢false (sym l ∙ m))

    stand : (x b : ℕ) → get_or (slice_set t.parents op (Some block)) x None ≡ Some b → (x ≡ op) ⊎ (x ≢ op) → IsLive t x × IsBlock t b
    stand x b e (inr ne) = w.all_in_place x b (sym (get_or-set_other t.parents op x (Some block) None ne) ∙ e)
    stand x b e (inl s) =
        let f : Some block ≡ Some b = sym (ap (λ z. get_or (slice_set t.parents op (Some block)) z None) s ∙ get_or-set_same t.parents op (Some block) None lt) ∙ e in
        let g : block ≡ b = cc in
        (subst (IsLive t) (sym s) live, subst (IsBlock t) g is)

    t' : Tree
    t' = after_placing t op block body

    hold : (o : Option ℕ) → Option ℕ
    hold o = up_from o (λ b. block_parent_operation_of t b)

    same : (x : ℕ) → x ≢ op → parent_operation_of t' x ≡ parent_operation_of t x
    same x ne = ap hold (get_or-set_other t.parents op x (Some block) None ne)

    own : parent_operation_of t' op ≡ block_parent_operation_of t block
    own = ap hold (get_or-set_same t.parents op (Some block) None lt)

    root : (o : Option ℕ) → block_parent_operation_of t block ≡ o → IsRooted (parent_operation_of t')
    root None e = rooted_cut (parent_operation_of t) (parent_operation_of t') (λ x. ⊎_elim (λ s. inr (ap (parent_operation_of t') s ∙ own ∙ e)) (λ ne. inl (same x ne)) (cases_eq x op)) w.rooted
    root (Some a) e = rooted-put (parent_operation_of t) (parent_operation_of t') op a same (own ∙ e) (λ n f. outside_climb t op block out n (ap (climb (parent_operation_of t) n) e ∙ f)) w.rooted

pub kept_taken : (t : Tree) (op : ℕ) (o : Option ℕ) → IsJoined t → parent_of t op ≡ o → IsJoined (taken_from t op o)
kept_taken t op None w e = w
kept_taken t op (Some d) w e = record {
  all_in_place = λ x b f. w.all_in_place x b (free x b f (cases_eq x op));
  placed = w.placed;
  regions = w.regions;
  results = w.results;
  arguments = w.arguments;
  operands = w.operands;
  successors = w.successors;
  ordered = w.ordered;
  erased = w.erased;
  unplaced = λ b f. let x = w.unplaced b f in (x.0, get_or-set_other t.bodies d b _ [] (other b f) ∙ x.1);
  rooted = rooted_cut (parent_operation_of t) (parent_operation_of t') (λ x. ⊎_elim (λ s. inr (ap hold (ap (λ z. get_or (slice_set t.parents op None) z None) s ∙ own))) (λ ne. inl (ap hold (get_or-set_other t.parents op x None None ne))) (cases_eq x op)) w.rooted;
}
  where
    t' : Tree
    t' = taken_from t op (Some d)

    hold : (o : Option ℕ) → Option ℕ
    hold o = up_from o (λ b. block_parent_operation_of t b)

    lt : op < length t.parents
    lt = let l : IsSome (parent_of t op) = ap is_some e in within-some t.parents op l

    own : get_or (slice_set t.parents op None) op None ≡ None
    own = get_or-set_same t.parents op None None lt

    other : (b : ℕ) → block_parent_of t b ≡ None → b ≢ d
    other b f s = let x : true ≡ false = sym (w.all_in_place op d e).1 ∙ ap (λ z. is_some (block_parent_of t z)) (sym s) ∙ ap is_some f in absurd (true≢false x)

    free : (x b : ℕ) → get_or (slice_set t.parents op None) x None ≡ Some b → (x ≡ op) ⊎ (x ≢ op) → parent_of t x ≡ Some b
    free x b f (inl s) = let y : None ≡ Some b = sym (ap (λ z. get_or (slice_set t.parents op None) z None) s ∙ own) ∙ f in grind arith
    free x b f (inr ne) = sym (get_or-set_other t.parents op x None None ne) ∙ f

-- what stands in no block is above no block of another operation's: it is met nowhere on the way up
pub taken-parents : (t : Tree) (op : ℕ) (o : Option ℕ) → IsJoined t → parent_of t op ≡ o → parent_of (taken_from t op o) op ≡ None
taken-parents t op None w e = e
taken-parents t op (Some d) w e = get_or-set_same t.parents op None None (let l : IsSome (parent_of t op) = ap is_some e in within-some t.parents op l)

-- fewer holders, fewer things inside
pub inside_fewer : (t u : Tree) (p x : ℕ) → ((y z : ℕ) → parent_operation_of u y ≡ Some z → parent_operation_of t y ≡ Some z) → IsInside u p x → IsInside t p x
inside_fewer t u p x less (Directly e) = Directly (less x p e)
inside_fewer t u p x less (Deeper q e i) = Deeper q (less x q e) (inside_fewer t u p q less i)

pub taken_outside : (t : Tree) (op : ℕ) (o : Option ℕ) (block : ℕ) → parent_of t op ≡ o → HoldsBlock (taken_from t op o) op block → HoldsBlock t op block
taken_outside t op None block e h = h
taken_outside t op (Some d) block e h = (h.0, h.1, ⊎_elim (λ s. inl s) (λ i. inr (inside_fewer t (taken_from t op (Some d)) op h.0 less i)) h.2)
  where
    less : (y z : ℕ) → parent_operation_of (taken_from t op (Some d)) y ≡ Some z → parent_operation_of t y ≡ Some z
    less y z f = elim (cases_eq y op) [
      | inl s ↦
          let lt : op < length t.parents = let l : IsSome (parent_of t op) = ap is_some e in within-some t.parents op l in
          let own : parent_of (taken_from t op (Some d)) y ≡ None = ap (parent_of (taken_from t op (Some d))) s ∙ get_or-set_same t.parents op None None lt in
          let g : None ≡ Some z = sym (ap (λ q. up_from q (λ b. block_parent_operation_of t b)) own) ∙ f in
          absurd (cc)
      | inr ne ↦ ap (λ q. up_from q (λ b. block_parent_operation_of t b)) (sym (get_or-set_other t.parents op y None None ne)) ∙ f
    ]

-- what isn't above an operation is above no block that has it
pub before_outside : (t : Tree) (op at block : ℕ) → parent_of t at ≡ Some block → (IsInside t op at → ⊥) → HoldsBlock t op block → ⊥
before_outside t op at block e out h =
    let f : parent_operation_of t at ≡ Some h.0 = ap (λ q. up_from q (λ b. block_parent_operation_of t b)) e ∙ h.1 in
    ⊎_elim (λ s. out (Directly (f ∙ ap Some s))) (λ i. out (Deeper h.0 f i)) h.2
