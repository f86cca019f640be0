-- Making an operation that gives at once and putting it into a block keeps what roots do.
use Rattle.std.proofs.Common.{◌≡◌, ◌≢◌, inl, inr, ⊎_elim, ℕ, ◌<◌, ◌≤◌, true, false, true≢false, nat_eq, if◌then◌else◌, List, [], ◌∷◌, length, Option, Some, None, IsSome, is_some, refl, sym, ap, ◌∙◌, subst}
use Rattle.std.proofs.lemmas.Bool.{cases_eq, eq-eqb, ne_eqb}
use Rattle.std.proofs.lemmas.Bool.Decides.{eqb_tells}
use Rattle.std.proofs.lemmas.List.{get_or-set_other, get_or-set_same}
use Rattle.pliron_core.specs.declared.context.Def.{Def}
use Rattle.pliron_core.specs.declared.context.Def.TheVariants.{Result, Argument}
use Rattle.pliron_core.specs.declared.attrs.Head.{Head}
use Rattle.pliron_core.specs.Lists.{In, last_of, put_before}
use Rattle.pliron_core.specs.Tree.{Tree, IsLive, IsDefined, IsMadeBy, row_of, head_of, operands_of, successors_of, regions_of, parent_of, body_of, definition_of}
use Rattle.pliron_core.specs.Invariant.{IsTree}
use Rattle.pliron_core.specs.Writes.{after_placing}
use Rattle.pliron_core.proofs.BesideLemmas.{IsBeside}
use Rattle.pliron_core.proofs.HoldingLemmas.{some_is, maker_is, result_live, in_slice}
use Rattle.pliron_core.proofs.NeighbourLemmas.{last_of-In}
use Rattle.pliron_laws.specs.Datum.{Meaning}
use Rattle.pliron_laws.specs.Linked.{IsAdmitted}
use Rattle.pliron_theory.specs.Keeps.{KeepsRuns}
use Rattle.pliron_theory.specs.Sweeping.{keep, swept, is_maker_dead, IsSwept, AreAway, ArePut, GivesNow}
use Rattle.pliron_theory.proofs.SweptLists.{swept_all}
use Rattle.pliron_theory.proofs.SweptParts.{block_place_of}
use Rattle.pliron_theory.proofs.PutStays.{no_block_dead}
use Rattle.pliron_theory.proofs.PutKeeps.{KeepsReads, put_keeps, put_reads}

pub it_is : (n k : ℕ) → nat_eq n k ≡ true → k ≡ n
it_is n k e = ⊎_elim (λ y. sym y.1) (λ x. absurd (true≢false (sym e ∙ x.0))) (eqb_tells n k)

pub it_is_not : (n k : ℕ) → nat_eq n k ≡ false → k ≢ n
it_is_not n k e f = absurd (true≢false (sym (eq-eqb n k (sym f)) ∙ e))

pub not_it : (n k : ℕ) → k ≢ n → nat_eq n k ≡ false
not_it n k ne = ⊎_elim (λ y. absurd (ne (sym y.1))) (λ x. x.0) (eqb_tells n k)

-- what is put before `at` comes before it, so it stands last only where nothing stood
pub swept_put : (at n : ℕ) (xs : List ℕ) → (In n xs → ⊥) → In at xs → swept (nat_eq n) (put_before at n xs) ≡ xs
swept_put at n [] f i = refl
swept_put at n (x ∷ xs) f i = ⊎_elim
    (λ y. ap (λ b. swept (nat_eq n) (if b then n ∷ x ∷ xs else x ∷ put_before at n xs)) y.0 ∙ ap (λ b. keep b n (swept (nat_eq n) (x ∷ xs))) (eq-eqb n n refl) ∙ swept_all (nat_eq n) (x ∷ xs) (λ k j. not_it n k (λ e. f (subst (λ z. In z (x ∷ xs)) e j))))
    (λ u. ap (λ b. swept (nat_eq n) (if b then n ∷ x ∷ xs else x ∷ put_before at n xs)) u.0 ∙ ap (λ b. keep b x (swept (nat_eq n) (put_before at n xs))) (ne_eqb n x (λ e. f (inl e))) ∙ ap (λ l. x ∷ l) (swept_put at n xs (λ j. f (inr j)) (⊎_elim (λ e. absurd (u.1 e)) (λ j. j) i)))
    (eqb_tells at x)

pub put_not_last : (at n : ℕ) (xs : List ℕ) (before : Option ℕ) → (In n xs → ⊥) → (before ≡ Some n → ⊥) → last_of before (put_before at n xs) ≡ Some n → ⊥
put_not_last at n [] before f b e = b e
put_not_last at n (x ∷ xs) before f b e = ⊎_elim
    (λ y. f (last_member (x ∷ xs) (Some n) (ap (λ z. last_of before (if z then n ∷ x ∷ xs else x ∷ put_before at n xs)) (sym y.0) ∙ e)))
    (λ u. put_not_last at n xs (Some x) (λ i. f (inr i)) (λ g. f (inl (sym (some_is g)))) (ap (λ z. last_of before (if z then n ∷ x ∷ xs else x ∷ put_before at n xs)) (sym u.0) ∙ e))
    (eqb_tells at x)
  where
    last_member : (ys : List ℕ) (o : Option ℕ) → last_of o (x ∷ xs) ≡ Some n → In n (x ∷ xs)
    last_member ys o g = last_of-In n (x ∷ xs) g

-- d is t with one more operation n, which stands in no block and is then put into the block
module _ (m : Meaning) (t d : Tree) (n block : ℕ) (body : List ℕ) (w : IsTree t) (w' : IsTree (after_placing d n block body)) (s : IsBeside t d n) (range : block < length d.bodies) (swept_is : swept (nat_eq n) body ≡ body_of t block) (last : last_of None body ≡ Some n → body_of t block ≡ []) (no_operands : operands_of d n ≡ []) (no_successors : successors_of d n ≡ []) (childless : regions_of d n ≡ []) where
  absent : (b k : ℕ) → In k (body_of t b) → nat_eq n k ≡ false
  absent b k i = not_it n k (λ e. let f : None ≡ Some b = sym s.no_parent ∙ ap (parent_of t) (sym e) ∙ w.bodies.owned k b i in absurd (cc))

  body_here : body_of (after_placing d n block body) block ≡ body
  body_here = get_or-set_same d.bodies block body [] range

  body_there : (b : ℕ) → b ≢ block → body_of (after_placing d n block body) b ≡ body_of t b
  body_there b ne = get_or-set_other d.bodies block b body [] ne ∙ s.bodies b

  bodies : (b : ℕ) → body_of t b ≡ swept (nat_eq n) (body_of (after_placing d n block body) b)
  bodies b = elim (cases_eq b block) [
    | inl e ↦ ap (body_of t) e ∙ sym swept_is ∙ ap (swept (nat_eq n)) (sym body_here) ∙ ap (λ z. swept (nat_eq n) (body_of (after_placing d n block body) z)) (sym e)
    | inr ne ↦ sym (swept_all (nat_eq n) (body_of t b) (λ k i. absent b k i)) ∙ ap (swept (nat_eq n)) (sym (body_there b ne))
  ]

  old_maker : (v : ℕ) → IsDefined t v → is_maker_dead (nat_eq n) no_block_dead (definition_of d v) ≡ false
  old_maker v is = let x = maker_is t v is in ap (is_maker_dead (nat_eq n) no_block_dead) (s.definitions v x.0 x.1) ∙ go x.0 x.2
    where
      go : (y : Def) → IsMadeBy t v (Some y) → is_maker_dead (nat_eq n) no_block_dead (Some y) ≡ false
      go (Argument b i) e = refl
      go (Result k i) e = not_it n k (λ f.
          let live : IsLive t k = result_live t w.joined k i v e in
          let none : IsSome (row_of t n).head = subst (λ z. IsSome (head_of t z)) f live in
          true≢false (sym none ∙ ap (λ z. is_some z.head) s.fresh))

  put_swept : IsSwept (after_placing d n block body) t (nat_eq n) no_block_dead
  put_swept = record {
    rows = λ k l. sym (s.operations k (it_is_not n k l));
    operands = λ k l. sym (s.operands k (it_is_not n k l));
    successors = λ k l. sym (s.successors k (it_is_not n k l));
    parents = λ k l. sym (get_or-set_other d.parents n k (Some block) None (it_is_not n k l) ∙ s.parents k (it_is_not n k l));
    bodies = λ b l. bodies b;
    arguments = λ b l. sym (s.arguments b);
    block_parents = λ b l. sym (s.block_parents b);
    layouts = λ k r l i. sym (s.layouts r) ∙ sym (swept_all no_block_dead _ (λ b j. refl));
    holders = λ k b e l. refl;
    block_holders = λ b k e l. not_it n k (λ f.
        let p = block_place_of (after_placing d n block body) w' b k e in
        let i : In p.region (regions_of d k) = in_slice (regions_of d k) p.index p.region p.listed in
        subst (In p.region) (ap (regions_of d) f ∙ childless) i);
    entries = λ k r b l i e. refl;
    values = λ k v l i. old_maker v (w.joined.operands k v (subst (In v) (s.operands k (it_is_not n k l)) i));
    targets = λ k b l i. refl;
  }

  put_away : AreAway t (nat_eq n) no_block_dead
  put_away = record {
    parents = λ k e. ap (parent_of t) (it_is n k e) ∙ s.no_parent;
    operands = λ k e. ap (operands_of t) (it_is n k e) ∙ s.no_operands;
    successors = λ k e. ap (successors_of t) (it_is n k e) ∙ s.no_successors;
    regions = λ k e. ap (regions_of t) (it_is n k e) ∙ ap (λ z. z.regions) s.fresh;
    blocks = λ b e. absurd (true≢false (sym e));
  }

  module _ (admitted : IsAdmitted m (after_placing d n block body) n) (plain : (x : Head) → head_of d n ≡ Some x → m.is_terminator x ≡ false) (gives : GivesNow m (after_placing d n block body) n) (fresh : length t.operations ≤ n) (longer : length t.operations ≤ length d.operations) where
    ends : (b : ℕ) → last_of None (body_of (after_placing d n block body) b) ≡ Some n → body_of t b ≡ []
    ends b f = elim (cases_eq b block) [
      | inl e ↦ ap (body_of t) e ∙ last (ap (last_of None) (sym body_here) ∙ ap (λ z. last_of None (body_of (after_placing d n block body) z)) (sym e) ∙ f)
      | inr ne ↦ absurd (true≢false (sym (eq-eqb n n refl) ∙ absent b n (subst (In n) (body_there b ne) (last_of-In n (body_of (after_placing d n block body) b) f))))
    ]

    are_put : ArePut m (after_placing d n block body) t (nat_eq n)
    are_put = record {
      operands = λ k e. ap (operands_of d) (it_is n k e) ∙ no_operands;
      successors = λ k e. ap (successors_of d) (it_is n k e) ∙ no_successors;
      regions = λ k e. ap (regions_of d) (it_is n k e) ∙ childless;
      admitted = λ k e. subst (IsAdmitted m (after_placing d n block body)) (sym (it_is n k e)) admitted;
      plain = λ k x e f. plain x (ap (head_of d) (sym (it_is n k e)) ∙ f);
      last = λ b k e f. ends b (f ∙ ap Some (it_is n k e));
    }

    all_fresh : (k : ℕ) → nat_eq n k ≡ true → length t.operations ≤ k
    all_fresh k e = subst (λ z. length t.operations ≤ z) (sym (it_is n k e)) fresh

    all_give : (k : ℕ) → nat_eq n k ≡ true → GivesNow m (after_placing d n block body) k
    all_give k e = subst (GivesNow m (after_placing d n block body)) (sym (it_is n k e)) gives

    pub made_keeps : KeepsRuns m t (after_placing d n block body)
    made_keeps = put_keeps m (after_placing d n block body) t (nat_eq n) w' w put_swept put_away are_put longer all_fresh all_give

    pub made_reads : KeepsReads m t (after_placing d n block body)
    made_reads = put_reads m (after_placing d n block body) t (nat_eq n) w' w put_swept put_away are_put longer all_fresh all_give
