-- Walks along chains.
use Rattle.std.proofs.Common.{◌≡◌, ◌≢◌, ◌⊎◌, inl, inr, ⊎_elim, ℕ, zero, suc, ◌+◌, ◌<◌, ◌≤◌, Bool, true, List, [], ◌∷◌, ◌++◌, length, drop, cond, Option, Some, None, is_some, IsSome, slice_get, refl, sym, ap, ◌∙◌, subst, arith}
use Rattle.std.proofs.lemmas.Bool.{cases_Bool, cases_eq}
use Rattle.std.proofs.lemmas.List.{drop_all}
use Rattle.pliron_core.specs.Tree.{Tree, In, IsDistinct, IsBlock, first_of, last_of, operands_of, successors_of, body_of, arguments_of}
use Rattle.pliron_core.proofs.HoldingLemmas.{some_is, not_none}
use Rattle.pliron_core.proofs.ListLemmas.{decide_in, In-cases}
use Rattle.pliron_core.proofs.NeighbourLemmas.{last_of-In}
use Rattle.pliron_laws.specs.Datum.{Head}
use Rattle.pliron_laws.specs.Answers.{HeadPasses}
use Rattle.pliron_laws.specs.Tree.{is_one_key}
use Rattle.pliron_opt_edges.specs.declared.chains.ChainEnds.{ChainEnds}
use Rattle.pliron_opt_edges.specs.Chains.{PassesOn, PassesOnTo}
use Rattle.pliron_opt_edges.specs.Ends.{known_end, IsKnownRightly, AreKnownRightly, KnowsMoreEnds, IsWalked, IsOnChain, IsFilling, AreEndsFound}
use Rattle.pliron_opt_edges.proofs.ChainLemmas.{one_of, steps_more, ends_behind, ring_endless, endless_before}

-- ---- the block behind

pub single : (xs : List ℕ) (j : ℕ) → first_of xs None ≡ Some j → last_of None xs ≡ Some j → IsDistinct xs → xs ≡ j ∷ []
single [] j f l d = absurd (not_none f)
single (x ∷ []) j f l d = ap (λ z. z ∷ []) (some_is f)
single (x ∷ y ∷ ys) j f l d = absurd (d.0 (subst (λ z. In z (y ∷ ys)) (sym (some_is f)) (last_of-In j (y ∷ ys) l)))

pub none_in : {A : Type 0} (xs : List A) → length xs ≡ 0 → xs ≡ []
none_in [] e = refl
none_in (x ∷ xs) e = grind arith

pub one_in : (xs : List ℕ) (x : ℕ) → length xs ≡ 1 → slice_get xs 0 ≡ Some x → xs ≡ x ∷ []
one_in [] x e g = absurd (omega (arith, e))
one_in (y ∷ []) x e g = ap (λ z. z ∷ []) (some_is g)
one_in (y ∷ z ∷ xs) x e g = absurd (omega (arith, e))

pub empty_alone : (xs : List ℕ) → first_of xs None ≡ None → (k : ℕ) → xs ≡ k ∷ [] → ⊥
empty_alone xs f k e = not_none (sym f ∙ ap (λ z. first_of z None) e)

pub other_last : (xs : List ℕ) (j l : ℕ) → first_of xs None ≡ Some j → last_of None xs ≡ Some l → j ≢ l → (k : ℕ) → xs ≡ k ∷ [] → ⊥
other_last xs j l f g ne k e = ne (some_is (sym f ∙ ap (λ z. first_of z None) e ∙ sym (ap (last_of None) e) ∙ g))

module _ (is_branch : Head → Bool) (t : Tree) (block : ℕ) where
  pub passes : (jump c : ℕ) → body_of t block ≡ jump ∷ [] → length (arguments_of t block) ≡ 0 → length (operands_of t jump) ≡ 0 → length (successors_of t jump) ≡ 1 → HeadPasses is_branch t jump → slice_get (successors_of t jump) 0 ≡ Some c → PassesOn is_branch t block c
  passes jump c body a o s br g = (
    jump,
    record {
      body = body;
      no_arguments = none_in (arguments_of t block) a;
      branch = br;
      no_operands = none_in (operands_of t jump) o;
      leads = one_in (successors_of t jump) c s g;
    },
  )

  pub not_alone : ((k : ℕ) → body_of t block ≡ k ∷ [] → ⊥) → (c : ℕ) → PassesOn is_branch t block c → ⊥
  not_alone other c p = other p.0 p.1.body

  pub not_bare : (length (arguments_of t block) ≡ 0 → ⊥) → (c : ℕ) → PassesOn is_branch t block c → ⊥
  not_bare ne c p = ne (ap length p.1.no_arguments)

  module _ (jump : ℕ) (body : body_of t block ≡ jump ∷ []) where
    same_jump : (c : ℕ) (p : PassesOn is_branch t block c) → p.0 ≡ jump
    same_jump c p = one_of p.0 jump (sym p.1.body ∙ body)

    pub not_without : (length (operands_of t jump) ≡ 0 → ⊥) → (c : ℕ) → PassesOn is_branch t block c → ⊥
    not_without ne c p = ne (ap (λ z. length (operands_of t z)) (sym (same_jump c p)) ∙ ap length p.1.no_operands)

    pub not_one : (length (successors_of t jump) ≡ 1 → ⊥) → (c : ℕ) → PassesOn is_branch t block c → ⊥
    not_one ne c p = ne (ap (λ z. length (successors_of t z)) (sym (same_jump c p)) ∙ ap length p.1.leads)

    pub not_branch : (HeadPasses is_branch t jump → ⊥) → (c : ℕ) → PassesOn is_branch t block c → ⊥
    not_branch ne c p = ne (subst (HeadPasses is_branch t) (same_jump c p) p.1.branch)

-- ---- what is known

one_key : (x y : ℕ) → is_one_key x y ≡ true → x ≡ y
one_key x y e = grind arith

own_key : (x y : ℕ) → x ≡ y → is_one_key x y ≡ true
own_key x y e = grind arith

-- more is known of one block
module _ (ends ends' : ChainEnds) (block : ℕ) (end : Option ℕ) (at : (b : ℕ) → known_end ends' b ≡ cond (is_one_key block b) (Some end) (known_end ends b)) where
  pub known_there : (b : ℕ) → block ≡ b → known_end ends' b ≡ Some end
  known_there b e = at b ∙ ap (λ z. cond z (Some end) (known_end ends b)) (own_key block b e)

  pub known_else : (b : ℕ) → block ≢ b → known_end ends' b ≡ known_end ends b
  known_else b ne = elim (cases_Bool (is_one_key block b)) [
    | inl e ↦ absurd (ne (one_key block b e))
    | inr e ↦ at b ∙ ap (λ z. cond z (Some end) (known_end ends b)) e
  ]

  pub known_more : KnowsMoreEnds ends ends'
  known_more b is = elim (cases_Bool (is_one_key block b)) [
    | inl e ↦ ap is_some (at b ∙ ap (λ z. cond z (Some end) (known_end ends b)) e)
    | inr e ↦ subst IsSome (sym (at b ∙ ap (λ z. cond z (Some end) (known_end ends b)) e)) is
  ]

module _ (is_branch : Head → Bool) (t : Tree) where
  -- what holds of a block holds of those that lead to it
  right_before : (j b c : ℕ) (end : Option ℕ) → PassesOnTo is_branch t j b c → IsKnownRightly is_branch t c (Some end) → IsKnownRightly is_branch t b (Some end)
  right_before j b c None s r = endless_before is_branch t j b c s r
  right_before j b c (Some d) s r = ends_behind is_branch t j r.0 b c d s r.1

  right_at : (b : ℕ) (o : Option (Option ℕ)) (end : Option ℕ) → o ≡ Some end → IsKnownRightly is_branch t b o → IsKnownRightly is_branch t b (Some end)
  right_at b o end e r = subst (IsKnownRightly is_branch t b) e r

  pub way_start : (ends : ChainEnds) (path : List ℕ) (from : ℕ) → IsBlock t from → AreKnownRightly is_branch t ends → path ≡ [] → IsOnChain is_branch t ends ends path from from
  way_start ends path from block known none = record {
    block = block;
    begun = inr refl;
    lead = λ b i. absurd (subst (In b) none i);
    marked = λ b i. absurd (subst (In b) none i);
    others = λ b no. known b;
    more = λ b is. is;
  }

  module _ (ends now : ChainEnds) (way : List ℕ) (from at : ℕ) (on : IsOnChain is_branch t ends now way from at) where
    -- the end of the chain is known where the walk stands
    pub way_found : (end : Option ℕ) → known_end now at ≡ Some end → IsWalked is_branch t now way from end
    way_found end e = record {
      start = ⊎_elim (λ i. on_way from i) (λ s. subst (λ z. IsKnownRightly is_branch t z (Some end)) (sym s) here) on.begun;
      there = ⊎_elim (λ i. ap is_some (on.marked from i)) (λ s. ap is_some (ap (known_end now) s ∙ e)) on.begun;
      on_path = on_way;
      marked = on.marked;
      others = on.others;
    }
      where
        ring : In at way → IsKnownRightly is_branch t at (Some end)
        ring i =
            let s = on.lead at i in
            let none : None ≡ end = some_is (sym (on.marked at i) ∙ e) in
            subst (λ z. IsKnownRightly is_branch t at (Some z)) none (ring_endless is_branch t s.0 at s.1)

        here : IsKnownRightly is_branch t at (Some end)
        here = ⊎_elim ring (λ no. right_at at (known_end now at) end e (on.others at no)) (decide_in at way)

        on_way : (b : ℕ) → In b way → IsKnownRightly is_branch t b (Some end)
        on_way b i = let s = on.lead b i in right_before (suc s.0) b at end s.1 here

    -- one block more is on the way
    module _ (now' : ChainEnds) (way' : List ℕ) (put : (b : ℕ) → known_end now' b ≡ cond (is_one_key at b) (Some None) (known_end now b)) (pushed : way' ≡ way ++ at ∷ []) where
      split : (b : ℕ) → In b way' → In b way ⊎ (b ≡ at)
      split b i = ⊎_elim (λ k. inl k) (λ k. ⊎_elim (λ s. inr s) (λ z. absurd z) k) (In-cases b way (at ∷ []) (subst (In b) pushed i))

      kept : (b : ℕ) → In b way → In b way'
      kept b i = subst (In b) (sym pushed) (left way i)
        where
          left : (xs : List ℕ) → In b xs → In b (xs ++ at ∷ [])
          left [] j = absurd j
          left (x ∷ xs) (inl s) = inl s
          left (x ∷ xs) (inr j) = inr (left xs j)

      last : In at way'
      last = subst (In at) (sym pushed) (right way)
        where
          right : (xs : List ℕ) → In at (xs ++ at ∷ [])
          right [] = inl refl
          right (x ∷ xs) = inr (right xs)

      marked' : (b : ℕ) → In b way' → known_end now' b ≡ Some None
      marked' b i = ⊎_elim
          (λ k. elim (cases_eq at b) [ inl s ↦ known_there now now' at None put b s | inr ne ↦ known_else now now' at None put b ne ∙ on.marked b k ])
          (λ s. known_there now now' at None put b (sym s))
          (split b i)

      others' : (b : ℕ) → (In b way' → ⊥) → IsKnownRightly is_branch t b (known_end now' b)
      others' b out =
          let ne : at ≢ b = λ s. out (subst (λ z. In z way') s last) in
          subst (IsKnownRightly is_branch t b) (sym (known_else now now' at None put b ne)) (on.others b (λ i. out (kept b i)))

      pub way_longer : KnowsMoreEnds ends now'
      way_longer b is = known_more now now' at None put b (on.more b is)

      begun' : In from way'
      begun' = ⊎_elim (λ i. kept from i) (λ s. subst (λ z. In z way') (sym s) last) on.begun

      pub way_more : (next : ℕ) → IsBlock t next → PassesOn is_branch t at next → IsOnChain is_branch t ends now' way' from next
      way_more next block p = record {
        block = block;
        begun = inl begun';
        lead = λ b i. ⊎_elim
            (λ k. let s = on.lead b k in (suc s.0, steps_more is_branch t (suc s.0) b at next s.1 p))
            (λ s. (zero, subst (λ z. PassesOnTo is_branch t (suc zero) z next) (sym s) (next, p, refl)))
            (split b i);
        marked = marked';
        others = others';
        more = way_longer;
      }

      -- the chain ends where the walk stands
      pub way_ended : ((c : ℕ) → PassesOn is_branch t at c → ⊥) → IsWalked is_branch t now' way' from (Some at)
      way_ended none = record {
        start = on_way from begun';
        there = ap is_some (marked' from begun');
        on_path = on_way;
        marked = marked';
        others = others';
      }
        where
          here : IsKnownRightly is_branch t at (Some (Some at))
          here = (zero, (refl, none))

          on_way : (b : ℕ) → In b way' → IsKnownRightly is_branch t b (Some (Some at))
          on_way b i = ⊎_elim
              (λ k. let s = on.lead b k in right_before (suc s.0) b at (Some at) s.1 here)
              (λ s. subst (λ z. IsKnownRightly is_branch t z (Some (Some at))) (sym s) here)
              (split b i)

  drop_at : (xs : List ℕ) (i x : ℕ) → slice_get xs i ≡ Some x → drop i xs ≡ x ∷ drop (i + 1) xs
  drop_at [] i x e = absurd (not_none e)
  drop_at (y ∷ ys) zero x e = ap (λ z. z ∷ ys) (some_is e)
  drop_at (y ∷ ys) (suc i) x e =
      let one : suc i + 1 ≡ suc (i + 1) = omega arith in drop_at ys i x e ∙ ap (λ n. x ∷ drop n (y ∷ ys)) (sym one)

  -- ---- what the walk found is put down

  module _ (ends : ChainEnds) (way : List ℕ) (from end : ℕ) (walked : IsWalked is_branch t ends way from (Some end)) where
    pub fill_start : IsFilling is_branch t ends ends way from 0
    fill_start = record {
      right = λ b. ⊎_elim (λ i. inr i) (λ no. inl (walked.others b no)) (decide_in b way);
      there = walked.there;
      more = λ b is. is;
    }

    pub fill_more : (now now' : ChainEnds) (i x : ℕ) → IsFilling is_branch t ends now way from i → slice_get way i ≡ Some x → ((b : ℕ) → known_end now' b ≡ cond (is_one_key x b) (Some (Some end)) (known_end now b)) → IsFilling is_branch t ends now' way from (i + 1)
    fill_more now now' i x on is put = record {
      right = λ b. elim (cases_eq x b) [
        | inl s ↦ inl (subst (IsKnownRightly is_branch t b) (sym (known_there now now' x (Some end) put b s)) (walked.on_path b (subst (λ z. In z way) s there)))
        | inr ne ↦ ⊎_elim
            (λ r. inl (subst (IsKnownRightly is_branch t b) (sym (known_else now now' x (Some end) put b ne)) r))
            (λ k. ⊎_elim (λ s. absurd (ne (sym s))) (λ j. inr j) (subst (In b) (drop_at way i x is) k))
            (on.right b)
      ];
      there = known_more now now' x (Some end) put from on.there;
      more = λ b is. known_more now now' x (Some end) put b (on.more b is);
    }
      where
        in_list : (xs : List ℕ) (i : ℕ) → slice_get xs i ≡ Some x → In x xs
        in_list [] i e = absurd (not_none e)
        in_list (y ∷ ys) zero e = inl (some_is (sym e))
        in_list (y ∷ ys) (suc i) e = inr (in_list ys i e)

        there : In x way
        there = in_list way i is

    pub fill_end : (now : ChainEnds) (i : ℕ) → length way ≤ i → IsFilling is_branch t ends now way from i → AreKnownRightly is_branch t now
    fill_end now i past on = λ b. ⊎_elim (λ r. r) (λ k. absurd (subst (In b) (drop_all i way past) k)) (on.right b)

  -- what ends nowhere is known so already
  pub endless_known : (ends : ChainEnds) (way : List ℕ) (from : ℕ) → IsWalked is_branch t ends way from None → AreKnownRightly is_branch t ends
  endless_known ends way from walked b = ⊎_elim (λ i. subst (IsKnownRightly is_branch t b) (sym (walked.marked b i)) (walked.on_path b i)) (λ no. walked.others b no) (decide_in b way)

  -- ---- the blocks of a list, one after the other

  pub found_start : (ends : ChainEnds) (blocks : List ℕ) → AreKnownRightly is_branch t ends → AreEndsFound is_branch t ends ends blocks 0
  found_start ends blocks known = record { right = known; there = λ n b lt e. absurd (omega (arith, lt)); more = λ b is. is }

  pub found_more : (ends now now' : ChainEnds) (blocks : List ℕ) (i x : ℕ) → AreEndsFound is_branch t ends now blocks i → slice_get blocks i ≡ Some x → AreKnownRightly is_branch t now' → IsSome (known_end now' x) → KnowsMoreEnds now now' → AreEndsFound is_branch t ends now' blocks (i + 1)
  found_more ends now now' blocks i x on at right there more = record {
    right = right;
    there = λ n b lt e. elim (cases_eq n i) [
      | inl s ↦ subst (λ z. IsSome (known_end now' z)) (some_is (sym at ∙ ap (slice_get blocks) (sym s) ∙ e)) there
      | inr ne ↦ more b (on.there n b (omega (arith, lt, ne)) e)
    ];
    more = λ b is. more b (on.more b is);
  }

  pub none_known : (ends : ChainEnds) → ((b : ℕ) → known_end ends b ≡ None) → AreKnownRightly is_branch t ends
  none_known ends none b = subst (IsKnownRightly is_branch t b) (sym (none b)) tt

-- the successors of one operation more are known
pub listed_more : (t : Tree) (now now' : ChainEnds) (ops : List ℕ) (i op : ℕ) → ((n k b : ℕ) → n < i → slice_get ops n ≡ Some k → In b (successors_of t k) → IsSome (known_end now b)) → slice_get ops i ≡ Some op → ((b : ℕ) → In b (successors_of t op) → IsSome (known_end now' b)) → KnowsMoreEnds now now' → (n k b : ℕ) → n < i + 1 → slice_get ops n ≡ Some k → In b (successors_of t k) → IsSome (known_end now' b)
listed_more t now now' ops i op before at there more n k b lt e j = elim (cases_eq n i) [
  | inl s ↦ there b (subst (λ z. In b (successors_of t z)) (some_is (sym e ∙ ap (slice_get ops) s ∙ at)) j)
  | inr ne ↦ more b (before n k b (omega (arith, lt, ne)) e j)
]
