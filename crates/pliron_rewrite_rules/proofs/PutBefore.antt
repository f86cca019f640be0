-- A new operation with operands, in no block, and just before another one.
use Rattle.std.proofs.Common.{◌≡◌, ◌≢◌, ◌⊎◌, inl, inr, ⊎_elim, ℕ, ◌+◌, ◌<◌, ◌≤◌, Bool, true, false, true≢false, nat_eq, if◌then◌else◌, List, [], ◌∷◌, ◌++◌, length, Option, Some, None, IsSome, is_some, refl, sym, ap, ◌∙◌, subst, arith, length-append}
use Rattle.std.proofs.lemmas.Bool.{cases_eq, eq-eqb}
use Rattle.std.proofs.lemmas.Bool.Decides.{eqb_tells}
use Rattle.std.proofs.lemmas.List.{get_or-set_other, get_or-set_same, get_or_past}
use Rattle.pliron_core.specs.declared.attrs.Head.{Head}
use Rattle.pliron_core.specs.declared.context.Def.{Def}
use Rattle.pliron_core.specs.declared.context.Def.TheVariants.{Result, Argument}
use Rattle.pliron_core.specs.Lists.{In, put_before}
use Rattle.pliron_core.specs.Tree.{Tree, IsDefined, IsMadeBy, no_entry, row_of, head_of, operands_of, successors_of, regions_of, parent_of, body_of, definition_of}
use Rattle.pliron_core.specs.Invariant.{IsTree}
use Rattle.pliron_core.specs.Writes.{after_creating, after_placing}
use Rattle.pliron_core.proofs.BesideLemmas.{IsBeside, created_beside}
use Rattle.pliron_core.proofs.GrownLemmas.{get_grown, get_last, get_last_same, slice_get_added}
use Rattle.pliron_core.proofs.HoldingLemmas.{maker_is, result_live, in_slice}
use Rattle.pliron_laws.proofs.ConstantLemmas.{new_row}
use Rattle.pliron_laws.proofs.ConstantLemmas.{made_defined as constant_defined}
use Rattle.pliron_laws.proofs.LinkedLemmas.{tree_created, tree_placed}
use Rattle.pliron_theory.specs.Sweeping.{swept, is_maker_dead, IsSwept, AreAway}
use Rattle.pliron_theory.proofs.SweptLists.{swept_all}
use Rattle.pliron_theory.proofs.SweptParts.{block_place_of}
use Rattle.pliron_theory.proofs.MadeKeeps.{it_is, it_is_not, not_it, swept_put}
use Rattle.pliron_rewrite_rules.specs.Insertions.{after_making}

module _ (t : Tree) (head : Head) (operands : List ℕ) (w : IsTree t) where
  pub made_row : row_of (after_making t head operands) (length t.operations) ≡ new_row t head
  made_row = get_last_same t.operations (new_row t head) no_entry

  pub made_operands : operands_of (after_making t head operands) (length t.operations) ≡ operands
  made_operands = ap (operands_of (after_making t head operands)) (sym w.keys.operands) ∙ get_last_same t.operands operands []

  pub made_successors : successors_of (after_making t head operands) (length t.operations) ≡ []
  made_successors = get_grown t.successors [] (length t.operations) ∙ get_or_past t.successors (length t.operations) [] (omega (arith, w.keys.successors))

  pub made_definition : definition_of (after_making t head operands) (length t.definitions) ≡ Some (Result (length t.operations) 0)
  made_definition =
      let n : length t.definitions + 0 ≡ length t.definitions = omega arith in
      ap (definition_of (after_making t head operands)) (sym n) ∙ slice_get_added t.definitions (Result (length t.operations) 0 ∷ []) 0

  pub made_beside : IsBeside t (after_making t head operands) (length t.operations)
  made_beside =
      let s = created_beside t head 1 0 w in
      record {
        fresh = s.fresh;
        no_operands = s.no_operands;
        no_successors = s.no_successors;
        no_parent = s.no_parent;
        loose = s.loose;
        key = s.key;
        place = s.place;
        operations = s.operations;
        operands = λ k ne. others k ne;
        successors = s.successors;
        parents = s.parents;
        bodies = s.bodies;
        arguments = s.arguments;
        block_parents = s.block_parents;
        layouts = s.layouts;
        slots = s.slots;
        definitions = s.definitions;
      }
    where
      others : (k : ℕ) → k ≢ length t.operations → operands_of (after_making t head operands) k ≡ operands_of t k
      others k ne = elim (get_last t.operands operands [] k) [ inl e ↦ e | inr e ↦ absurd (ne (e.2 ∙ w.keys.operands)) ]

  pub made_defined : (v : ℕ) → IsDefined t v → IsDefined (after_making t head operands) v
  made_defined v is = constant_defined t (after_creating t head 1 0) v head refl is

  -- a tree stays one
  pub tree_made : ((v : ℕ) → In v operands → IsDefined t v) → IsTree (after_making t head operands)
  tree_made defined = record {
    keys = record { operands = omega (arith, w.keys.operands, length-append t.operands (operands ∷ []), length-append t.operations (new_row t head ∷ [])); successors = c.keys.successors; parents = c.keys.parents; arguments = c.keys.arguments; block_parents = c.keys.block_parents; slots = c.keys.slots };
    joined = record {
      all_in_place = c.joined.all_in_place;
      placed = c.joined.placed;
      regions = c.joined.regions;
      results = c.joined.results;
      arguments = c.joined.arguments;
      operands = λ k v i. made_defined v (⊎_elim
          (λ e. defined v (subst (In v) (ap (operands_of (after_making t head operands)) e ∙ made_operands) i))
          (λ ne. w.joined.operands k v (subst (In v) (made_beside.operands k ne) i))
          (cases_eq k (length t.operations)));
      successors = c.joined.successors;
      ordered = c.joined.ordered;
      erased = λ k e. (names_none k e, (c.joined.erased k e).1, (c.joined.erased k e).2);
      unplaced = c.joined.unplaced;
      rooted = c.joined.rooted;
    };
    bodies = c.bodies;
    layouts = c.layouts;
  }
    where
      c : IsTree (after_creating t head 1 0)
      c = tree_created t head w

      names_none : (k : ℕ) → head_of (after_making t head operands) k ≡ None → operands_of (after_making t head operands) k ≡ []
      names_none k e = ⊎_elim
          (λ same. absurd (some_none (sym (ap (head_of (after_making t head operands)) same ∙ ap (λ z. z.head) made_row) ∙ e)))
          (λ ne. made_beside.operands k ne ∙ sym (get_grown t.operands [] k) ∙ (c.joined.erased k e).0)
          (cases_eq k (length t.operations))
        where
          some_none : Some head ≡ None → ⊥
          some_none f = cc

  -- just before an operation of the block
  module _ (at block : ℕ) (here : parent_of t at ≡ Some block) where
    abbrev n : ℕ
    n = length t.operations

    abbrev body : List ℕ
    body = put_before at (length t.operations) (body_of t block)

    abbrev u : Tree
    u = after_placing (after_making t head operands) (length t.operations) block (put_before at (length t.operations) (body_of t block))

    s : IsBeside t (after_making t head operands) (length t.operations)
    s = made_beside

    pub absent : (b : ℕ) → In (length t.operations) (body_of t b) → ⊥
    absent b i = let f : None ≡ Some b = sym s.no_parent ∙ w.bodies.owned (length t.operations) b i in absurd (cc)

    old_one : (b k : ℕ) → In k (body_of t b) → nat_eq n k ≡ false
    old_one b k i = not_it n k (λ e. absent b (subst (λ z. In z (body_of t b)) e i))

    range : block < length t.bodies
    range = go (cases block (length t.bodies))
      where
        cases : (a c : ℕ) → (a < c) ⊎ (c ≤ a)
        cases a c = grind arith

        go : (block < length t.bodies) ⊎ (length t.bodies ≤ block) → block < length t.bodies
        go (inl lt) = lt
        go (inr le) = absurd (subst (In at) (get_or_past t.bodies block [] le) (w.bodies.listed at block here))

    pub body_here : body_of (after_placing (after_making t head operands) (length t.operations) block (put_before at (length t.operations) (body_of t block))) block ≡ put_before at (length t.operations) (body_of t block)
    body_here = get_or-set_same t.bodies block body [] range

    pub body_there : (b : ℕ) → b ≢ block → body_of (after_placing (after_making t head operands) (length t.operations) block (put_before at (length t.operations) (body_of t block))) b ≡ body_of t b
    body_there b ne = get_or-set_other t.bodies block b body [] ne

    pub put_parent : parent_of (after_placing (after_making t head operands) (length t.operations) block (put_before at (length t.operations) (body_of t block))) (length t.operations) ≡ Some block
    put_parent = get_or-set_same (after_making t head operands).parents n (Some block) None s.place

    pub old_parent : (k : ℕ) → k ≢ length t.operations → parent_of (after_placing (after_making t head operands) (length t.operations) block (put_before at (length t.operations) (body_of t block))) k ≡ parent_of t k
    old_parent k ne = get_or-set_other (after_making t head operands).parents n k (Some block) None ne ∙ s.parents k ne

    bodies : (b : ℕ) → body_of t b ≡ swept (nat_eq n) (body_of u b)
    bodies b = elim (cases_eq b block) [
      | inl e ↦ ap (body_of t) e ∙ sym (swept_put at n (body_of t block) (absent block) (w.bodies.listed at block here)) ∙ ap (swept (nat_eq n)) (sym body_here) ∙ ap (λ z. swept (nat_eq n) (body_of u z)) (sym e)
      | inr ne ↦ sym (swept_all (nat_eq n) (body_of t b) (λ k i. old_one b k i)) ∙ ap (swept (nat_eq n)) (sym (body_there b ne))
    ]

    pub old_maker : (v : ℕ) → IsDefined t v → is_maker_dead (nat_eq (length t.operations)) (λ b. false) (definition_of (after_placing (after_making t head operands) (length t.operations) block (put_before at (length t.operations) (body_of t block))) v) ≡ false
    old_maker v is = let x = maker_is t v is in ap (is_maker_dead (nat_eq n) (λ b. false)) (s.definitions v x.0 x.1) ∙ go x.0 x.2
      where
        go : (y : Def) → IsMadeBy t v (Some y) → is_maker_dead (nat_eq n) (λ b. false) (Some y) ≡ false
        go (Argument b i) e = refl
        go (Result k i) e = not_it n k (λ f.
            let live = result_live t w.joined k i v e in
            let none : IsSome (row_of t n).head = subst (λ z. IsSome (head_of t z)) f live in
            true≢false (sym none ∙ ap (λ z. is_some z.head) s.fresh))

    pub tree_put : ((v : ℕ) → In v operands → IsDefined t v) → IsTree (after_placing (after_making t head operands) (length t.operations) block (put_before at (length t.operations) (body_of t block)))
    tree_put defined = tree_placed (after_making t head operands) n at block (tree_made defined) (ap (λ z. is_some z.head) made_row) s.loose (get_grown t.parents None at ∙ here) (ap (λ z. z.regions) made_row)

    module _ (w' : IsTree (after_placing (after_making t head operands) (length t.operations) block (put_before at (length t.operations) (body_of t block)))) where
      pub put_swept : IsSwept (after_placing (after_making t head operands) (length t.operations) block (put_before at (length t.operations) (body_of t block))) t (nat_eq (length t.operations)) (λ b. false)
      put_swept = record {
        rows = λ k l. sym (s.operations k (it_is_not n k l));
        operands = λ k l. sym (s.operands k (it_is_not n k l));
        successors = λ k l. sym (s.successors k (it_is_not n k l));
        parents = λ k l. sym (old_parent k (it_is_not n k l));
        bodies = λ b l. bodies b;
        arguments = λ b l. sym (s.arguments b);
        block_parents = λ b l. sym (s.block_parents b);
        layouts = λ k r l i. sym (s.layouts r) ∙ sym (swept_all (λ b. false) _ (λ b j. refl));
        holders = λ k b e l. refl;
        block_holders = λ b k e l. not_it n k (λ f.
            let p = block_place_of u w' b k e in
            let i : In p.region (regions_of u k) = in_slice (regions_of u k) p.index p.region p.listed in
            subst (In p.region) (ap (regions_of u) f ∙ ap (λ z. z.regions) made_row) i);
        entries = λ k r b l i e. refl;
        values = λ k v l i. old_maker v (w.joined.operands k v (subst (In v) (s.operands k (it_is_not n k l)) i));
        targets = λ k b l i. refl;
      }

    pub put_away : AreAway t (nat_eq (length t.operations)) (λ b. false)
    put_away = record {
      parents = λ k e. ap (parent_of t) (it_is n k e) ∙ s.no_parent;
      operands = λ k e. ap (operands_of t) (it_is n k e) ∙ s.no_operands;
      successors = λ k e. ap (successors_of t) (it_is n k e) ∙ s.no_successors;
      regions = λ k e. ap (regions_of t) (it_is n k e) ∙ ap (λ z. z.regions) s.fresh;
      blocks = λ b e. absurd (true≢false (sym e));
    }
