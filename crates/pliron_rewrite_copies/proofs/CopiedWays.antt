-- Paths into copies: they come by the header, and have their like in the tree without copies.
use Rattle.std.proofs.Common.{◌≡◌, ◌≢◌, ◌⊎◌, inl, inr, ⊎_elim, ℕ, List, [], ◌∷◌, ◌++◌, map, Option, Some, None, refl, sym, ap, ◌∙◌, subst, append-nil}
use Rattle.std.proofs.lemmas.Bool.{cases_eq}
use Rattle.pliron_core.specs.Tree.{Tree, In, first_of, block_parent_of, layout_of}
use Rattle.pliron_core.specs.Invariant.{IsTree}
use Rattle.pliron_core.proofs.ListLemmas.{In-cases, decide_in}
use Rattle.pliron_laws.specs.Paths.{Path, Leads}
use Rattle.pliron_rewrite_copies.specs.Copies.{Originals, HasOriginals, AreClosedCopies}
use Rattle.pliron_rewrite_copies.proofs.Maps.{from_map, map_append}
use Rattle.pliron_rewrite_copies.proofs.Covered.{path_forth}

-- the blocks of a path are in one region
pub way_region : (t : Tree) (a b : ℕ) (before : List ℕ) → Path t a b before → (z : ℕ) → In z (b ∷ before) → block_parent_of t z ≡ block_parent_of t b
way_region t a b before p z (inl e) = ap (block_parent_of t) e
way_region t a b [] p z (inr i) = absurd i
way_region t a b (c ∷ before) p z (inr i) = way_region t a c before p.1 z i ∙ sym p.0.same_region

pub way_append : (t : Tree) (a b c : ℕ) (first later : List ℕ) → Path t a b first → Path t b c later → Path t a c (later ++ first)
way_append t a b c first [] p q = subst (λ x. Path t a x first) q p
way_append t a b c first (d ∷ later) p q = (q.0, way_append t a b d first later p q.1)

-- the part of a path up to a block that it passed
pub way_to : (t : Tree) (a c d : ℕ) (before : List ℕ) → Path t a c before → In d before → (part : List ℕ) × Path t a d part × ((z : ℕ) → In z (d ∷ part) → In z before)
way_to t a c d [] p i = absurd i
way_to t a c d (b ∷ before) p (inl e) = (before, subst (λ x. Path t a x before) (sym e) p.1, λ z j. subst (λ x. In z (x ∷ before)) e j)
way_to t a c d (b ∷ before) p (inr i) =
    let x = way_to t a b d before p.1 i in
    (x.0, x.1, λ z j. inr (x.2 z j))

-- the part of a path up to where it first comes to a copy of a block
pub record ComesToCopy (t : Tree) (f : ℕ → ℕ) (a target : ℕ) : Type 0 where
  pub block : ℕ
  pub part : List ℕ
  pub path : Path t a block part
  pub is_copy : f block ≡ target
  pub none_before : (z : ℕ) → In z part → f z ≢ target

pub comes_to_copy : (t : Tree) (f : ℕ → ℕ) (a c target : ℕ) (before : List ℕ) → Path t a c before → In target (map f (c ∷ before)) → ComesToCopy t f a target
comes_to_copy t f a c target [] p i = record { block = c; part = []; path = p; is_copy = ⊎_elim (λ e. sym e) (λ j. absurd j) i; none_before = λ z j. absurd j }
comes_to_copy t f a c target (b ∷ before) p i = ⊎_elim
    (λ j. comes_to_copy t f a b target before p.1 j)
    (λ out. record {
      block = c;
      part = b ∷ before;
      path = p;
      is_copy = ⊎_elim (λ e. sym e) (λ j. absurd (out j)) i;
      none_before = λ z j e. out (subst (λ x. In x (map f (b ∷ before))) e (into (b ∷ before) z j));
    })
    (decide_in target (map f (b ∷ before)))
  where
    into : (xs : List ℕ) (z : ℕ) → In z xs → In (f z) (map f xs)
    into [] z k = absurd k
    into (x ∷ xs) z (inl e) = inl (ap f e)
    into (x ∷ xs) z (inr k) = inr (into xs z k)

module _ (u : Tree) (o : Originals) (copy header : ℕ → ℕ) (root : ℕ) (c : AreClosedCopies u o copy header root) (region entry : ℕ) (entered : first_of (layout_of u region) None ≡ Some entry) where
  -- a path to a block of a copy passes its header
  pub by_header : (n b : ℕ) (before : List ℕ) → Path u entry b before → n ≢ 0 → copy b ≡ n → In (header n) (b ∷ before)
  by_header n b [] p ne e = inl (sym (sym p ∙ c.entries region entry entered (λ z. ne (sym e ∙ ap copy (sym p) ∙ z)) ∙ ap header (ap copy p ∙ e)))
  by_header n b (x ∷ before) p ne e = ⊎_elim
      (λ s. inr (by_header n x before p.1 ne s))
      (λ d. inl (sym (c.entered x b p.0 (λ z. ne (sym e ∙ z)) (λ s. d (s ∙ e)) ∙ ap header e)))
      (cases_eq (copy x) n)

  -- and goes on in the copy from where it last did
  pub record EndsInCopy (n b : ℕ) (before : List ℕ) : Type 0 where
    pub first : List ℕ
    pub later : List ℕ
    pub path : Path u entry (header n) first
    pub in_copy : Path u (header n) b later
    pub copies : (z : ℕ) → In z later → In z before × (copy z ≡ n)

  pub ends_in_copy : (n b : ℕ) (before : List ℕ) → Path u entry b before → n ≢ 0 → copy b ≡ n → EndsInCopy n b before
  ends_in_copy n b [] p ne e =
      let s : header n ≡ b = sym (sym p ∙ c.entries region entry entered (λ z. ne (sym e ∙ ap copy (sym p) ∙ z)) ∙ ap header (ap copy p ∙ e)) in
      record { first = []; later = []; path = p ∙ sym s; in_copy = s; copies = λ z i. absurd i }
  ends_in_copy n b (x ∷ before) p ne e = ⊎_elim
      (λ s.
      let r = ends_in_copy n x before p.1 ne s in
      record { first = r.first; later = x ∷ r.later; path = r.path; in_copy = (p.0, r.in_copy); copies = λ z i. more r s z i })
      (λ d.
      let s : header n ≡ b = sym (c.entered x b p.0 (λ z. ne (sym e ∙ z)) (λ s. d (s ∙ e)) ∙ ap header e) in
      record { first = x ∷ before; later = []; path = subst (λ y. Path u entry y (x ∷ before)) (sym s) p; in_copy = s; copies = λ z i. absurd i })
      (cases_eq (copy x) n)
    where
      more : (r : EndsInCopy n x before) → copy x ≡ n → (z : ℕ) → In z (x ∷ r.later) → In z (x ∷ before) × (copy z ≡ n)
      more r s z (inl q) = (inl q, ap copy q ∙ s)
      more r s z (inr i) = let k = r.copies z i in (inr k.0, k.1)

  -- some path to the header of a copy misses all else that is in the copy
  pub misses_copy : (n b : ℕ) (before : List ℕ) → Path u entry b before → n ≢ 0 → copy b ≡ n → b ≡ header n → (part : List ℕ) × Path u entry b part × ((z : ℕ) → In z part → copy z ≢ n)
  misses_copy n b before p ne e s =
      let f = comes_to_copy u (λ x. x) entry b b before p (inl refl) in
      let same = f.is_copy in (
        f.part,
        subst (λ x. Path u entry x f.part) same f.path,
        λ z i q.
            let k = way_to u entry f.block z f.part f.path i in
            f.none_before (header n) (k.2 (header n) (by_header n z k.0 k.1 ne q)) (sym s),
      )

  module _ (t : Tree) (w : IsTree t) (w' : IsTree u) (h : HasOriginals t u o) where
    -- a path to a block in the region of b, and in its copy if b is in one, has its like before, which passes the original of b
    -- only if the path passes b
    pub record HasLike (b d : ℕ) (before : List ℕ) : Type 0 where
      pub blocks : List ℕ
      pub path : Path t (o.block entry) (o.block d) blocks
      pub passes : In (o.block b) blocks → In b before

    pub has_like : (b d : ℕ) (before : List ℕ) → block_parent_of u b ≡ Some region → block_parent_of u d ≡ Some region → (copy b ≢ 0 → copy d ≡ copy b) → Path u entry d before → HasLike b d before
    has_like b d before rb rd same p = ⊎_elim alone copied (cases_eq (copy b) 0)
      where
        here : (z : ℕ) → In z before → block_parent_of u z ≡ Some region
        here z i = way_region u entry d before p z (inr i) ∙ rd

        alone : copy b ≡ 0 → HasLike b d before
        alone e = record {
          blocks = map o.block before;
          path = path_forth t u o w w' h entry d before p;
          passes = λ i.
              let k = from_map o.block before (o.block b) i in
              subst (λ z. In z before) (sym (c.apart b k.0 region rb (here k.0 k.1) (sym k.2) (inr e))) k.1;
        }

        copied : copy b ≢ 0 → HasLike b d before
        copied ne = record {
          blocks = map o.block e.later ++ map o.block f.part;
          path = way_append t (o.block entry) (o.block (header (copy b))) (o.block d) (map o.block f.part) (map o.block e.later)
              (subst (λ x. Path t (o.block entry) x (map o.block f.part)) f.is_copy (path_forth t u o w w' h entry f.block f.part f.path))
              (path_forth t u o w w' h (header (copy b)) d e.later e.in_copy);
          passes = λ i. ⊎_elim later first (In-cases (o.block b) (map o.block e.later) (map o.block f.part) i);
        }
          where
            e : EndsInCopy (copy b) d before
            e = ends_in_copy (copy b) d before p ne (same ne)

            f : ComesToCopy u o.block entry (o.block (header (copy b)))
            f = comes_to_copy u o.block entry (header (copy b)) (o.block (header (copy b))) e.first e.path (inl refl)

            later : In (o.block b) (map o.block e.later) → In b before
            later i =
                let k = from_map o.block e.later (o.block b) i in
                let q = e.copies k.0 k.1 in
                subst (λ z. In z before) (c.apart k.0 b region (here k.0 q.0) rb k.2 (inl q.1)) q.0

            -- the header's class
            in_part : (z : ℕ) → In z f.part → block_parent_of u z ≡ Some region
            in_part z i = way_region u entry f.block f.part f.path z (inr i) ∙ to_header ∙ rd
              where
                from_entry : (y : ℕ) (xs : List ℕ) → Path u entry y xs → block_parent_of u y ≡ block_parent_of u entry
                from_entry y [] q = ap (block_parent_of u) (sym q)
                from_entry y (x ∷ xs) q = q.0.same_region ∙ from_entry x xs q.1

                to_header : block_parent_of u f.block ≡ block_parent_of u d
                to_header = from_entry f.block f.part f.path ∙ sym (from_entry d before p)

            first : In (o.block b) (map o.block f.part) → In b before
            first i =
                let k = from_map o.block f.part (o.block b) i in
                absurd (out k.0 k.1 k.2)
              where
                out : (z : ℕ) → In z f.part → o.block z ≡ o.block b → ⊥
                out z j q = ⊎_elim
                    (λ zero. ne (ap copy (sym (c.apart z b region (in_part z j) rb q (inr zero))) ∙ zero))
                    (λ nz.
                    let x = way_to u entry f.block z f.part f.path j in
                    f.none_before (header (copy z)) (x.2 (header (copy z)) (by_header (copy z) z x.0 x.1 nz refl)) (c.headers z b region (in_part z j) rb q nz))
                    (cases_eq (copy z) 0)
