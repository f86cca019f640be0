-- A root does the same with another branch that acts alike in the place of a branch.
use Rattle.std.proofs.Common.{◌≡◌, ◌≢◌, inl, inr, ⊎_elim, ℕ, Bool, true, false, true≢false, nat_eq, List, [], ◌∷◌, ◌++◌, length, Option, Some, None, IsSome, is_some, slice_get, refl, sym, ap, ap₂, ◌∙◌, subst, arith}
use Rattle.std.proofs.lemmas.Bool.{cases_eq, eq-eqb}
use Rattle.pliron_core.specs.Tree.{Tree, In, IsDistinct, IsLive, first_of, head_of, successors_of, results_of, regions_of, parent_of, body_of, block_parent_of, layout_of, region_parent_of, op_of_slot}
use Rattle.pliron_core.specs.Invariant.{IsTree}
use Rattle.pliron_core.proofs.ListLemmas.{In-right, distinct-apart}
use Rattle.pliron_core.proofs.HoldingLemmas.{some_is, some_of, slice_in}
use Rattle.pliron_laws.specs.Datum.{Datum, Empty, Head, Meaning}
use Rattle.pliron_laws.specs.Tree.{Operation, Block, op_at, block_with, block_at, and_block, entry_block, count_arguments, shape_of}
use Rattle.pliron_laws.specs.States.{bind, data_of}
use Rattle.pliron_laws.specs.Machine.{entry_in, block_in, step}
use Rattle.pliron_laws.specs.Agree.{Agree}
use Rattle.pliron_laws.specs.Acting.{ActAlike, PassesSame, JumpsSame}
use Rattle.pliron_laws.specs.Replacing.{JumpsTo}
use Rattle.pliron_theory.specs.Renaming.{RunReaches}
use Rattle.pliron_theory.specs.Keeps.{IsFit}
use Rattle.pliron_theory.specs.Rebranching.{IsRebranched, ActsInPlace}
use Rattle.pliron_theory.proofs.Simulation.{anything_kept}
use Rattle.pliron_theory.proofs.Lockstep.{EnvsTied}
use Rattle.pliron_theory.proofs.Bound.{IsReady}
use Rattle.pliron_laws.proofs.Records.{op_shows, operation_of, make_op, no_op, region_entry}
use Rattle.pliron_theory.proofs.Alike.{alike_refl, shape_same, SameBut, bind_same, data_same}
use Rattle.pliron_theory.proofs.Substitute.{placed_all, Comparison, Begun, Starts, Enters, Substitutes, FirstAlike, Reads, substituted_agree}
use Rattle.pliron_theory.proofs.Reached.{reached_kept, reached_start}
use Rattle.pliron_theory.proofs.Reading.{ready_when_reached}
use Rattle.pliron_theory.proofs.Keys.{is_not, not_is}

abbrev pub none_gone : ℕ → Bool
none_gone v = false

abbrev pub pick_key : Bool → ℕ → ℕ → ℕ
pick_key true p q = p
pick_key false p q = q

is_key : (p k : ℕ) → nat_eq p k ≡ true → k ≡ p
is_key p k q = ⊎_elim (λ s. s) (λ ne. absurd (true≢false (sym q ∙ not_is p k ne))) (cases_eq k p)

-- two keys change their places
abbrev pub exchanged : ℕ → ℕ → ℕ → ℕ
exchanged p q k = pick_key (nat_eq p k) q (pick_key (nat_eq q k) p k)

pub exchanged_first : (p q : ℕ) → exchanged p q p ≡ q
exchanged_first p q = ap (λ z. pick_key z q (pick_key (nat_eq q p) p p)) (eq-eqb p p refl)

pub exchanged_second : (p q : ℕ) → q ≢ p → exchanged p q q ≡ p
exchanged_second p q ne = ap (λ z. pick_key z q (pick_key (nat_eq q q) p q)) (not_is p q ne) ∙ ap (λ z. pick_key z p q) (eq-eqb q q refl)

pub exchanged_other : (p q k : ℕ) → k ≢ p → k ≢ q → exchanged p q k ≡ k
exchanged_other p q k np nq = ap (λ z. pick_key z q (pick_key (nat_eq q k) p k)) (not_is p k np) ∙ ap (λ z. pick_key z p k) (not_is q k nq)

abbrev pub jumping : Bool → List ℕ → List ℕ → ℕ → List Datum → ℕ → List Datum → Type 0
jumping true targets targets' = JumpsTo targets targets'
jumping false targets targets' = JumpsSame

module _ (m : Meaning) (t t' : Tree) (a op new : ℕ) (front : List ℕ) (w : IsTree t) (w' : IsTree t') (h : IsRebranched t t' a op new front) where
  abbrev pub comparison : Comparison
  comparison = record { places = λ k. None; swap = exchanged op new; Own = λ rest. Unit {0}; Env = SameBut none_gone; visits = λ k. PassesSame; gotos = λ k. jumping (nat_eq op k) (successors_of t op) (successors_of t' new) }

  pub op_in : parent_of t op ≡ Some a
  op_in = w.bodies.owned op a (subst (In op) (sym h.split) (In-right op front (op ∷ []) (inl refl)))

  pub op_live : IsLive t op
  op_live = (w.joined.all_in_place op a op_in).0

  pub new_in : parent_of t' new ≡ Some a
  new_in = w'.bodies.owned new a (subst (In new) (sym h.put) (In-right new front (new ∷ []) (inl refl)))

  pub new_live : IsLive t' new
  new_live = (w'.joined.all_in_place new a new_in).0

  not_live : (u : Tree) (k : ℕ) → head_of u k ≡ None → IsLive u k → ⊥
  not_live u k e l = true≢false (sym l ∙ ap is_some e)

  pub apart : new ≢ op
  apart e = not_live t new h.fresh (subst (IsLive t) (sym e) op_live)

  pub live_old : (k : ℕ) → IsLive t k → k ≢ new
  live_old k l e = not_live t new h.fresh (subst (IsLive t) e l)

  pub live_new : (k : ℕ) → IsLive t' k → k ≢ op
  live_new k l e = not_live t' op h.deleted (subst (IsLive t') e l)

  body_live : (c k : ℕ) → In k (body_of t c) → k ≢ new
  body_live c k i = live_old k (w.joined.all_in_place k c (w.bodies.owned k c i)).0

  placed_free : (xs : List ℕ) → (In op xs → ⊥) → ((k : ℕ) → In k xs → k ≢ new) → placed_all (λ k. None) (exchanged op new) xs ≡ xs
  placed_free [] f g = refl
  placed_free (x ∷ xs) f g = ap₂ (λ p q. p ∷ q) (exchanged_other op new x (λ e. f (inl (sym e))) (g x (inl refl))) (placed_free xs (λ i. f (inr i)) (λ k i. g k (inr i)))

  placed_end : (xs : List ℕ) → (In op xs → ⊥) → ((k : ℕ) → In k xs → k ≢ new) → placed_all (λ k. None) (exchanged op new) (xs ++ op ∷ []) ≡ xs ++ new ∷ []
  placed_end [] f g = ap (λ k. k ∷ []) (exchanged_first op new)
  placed_end (x ∷ xs) f g = ap₂ (λ p q. p ∷ q) (exchanged_other op new x (λ e. f (inl (sym e))) (g x (inl refl))) (placed_end xs (λ i. f (inr i)) (λ k i. g k (inr i)))

  front_in : (k : ℕ) → In k front → In k (body_of t a)
  front_in k i = subst (In k) (sym h.split) (left front i)
    where
      left : (xs : List ℕ) → In k xs → In k (xs ++ op ∷ [])
      left [] j = absurd j
      left (x ∷ xs) (inl e) = inl e
      left (x ∷ xs) (inr j) = inr (left xs j)

  body_placed : (c : ℕ) → body_of t' c ≡ placed_all (λ k. None) (exchanged op new) (body_of t c)
  body_placed c = elim (cases_eq c a) [
    | inl e ↦ ap (body_of t') e ∙ h.put ∙ sym (placed_end front (λ i. distinct-apart front (op ∷ []) (subst IsDistinct h.split (w.bodies.distinct a)) op i (inl refl)) (λ k i. body_live a k (front_in k i))) ∙ ap (placed_all (λ k. None) (exchanged op new)) (sym h.split ∙ ap (body_of t) (sym e))
    | inr ne ↦ h.bodies c ne ∙ sym (placed_free (body_of t c) (λ i. ne (some_is (sym (w.bodies.owned op c i) ∙ op_in))) (λ k i. body_live c k i))
  ]

  abbrev SameBlock : Option Block → Option Block → Type 0
  SameBlock None None = Unit {0}
  SameBlock None (Some y) = ⊥
  SameBlock (Some x) None = ⊥
  SameBlock (Some x) (Some y) = (y.operations ≡ placed_all (λ k. None) (exchanged op new) x.operations) × (y.arguments ≡ x.arguments)

  block_same : (c : ℕ) → SameBlock (block_at t c) (block_at t' c)
  unfolding block_at
  block_same c = subst (λ x. SameBlock (block_at t c) (block_with t' c x)) (sym (h.block_parents c)) (go (block_parent_of t c))
    where
      go : (x : Option ℕ) → SameBlock (block_with t c x) (block_with t' c x)
      go None = tt
      go (Some r) = (body_placed c, h.arguments c)

  entry_same : (k i r : ℕ) → k ≢ op → k ≢ new → slice_get (regions_of t k) i ≡ Some r → SameBlock (entry_block t r) (entry_block t' r)
  entry_same k i r np nq e =
      let here : region_parent_of t r ≡ Some k = ap op_of_slot (w.joined.regions k i r e) in
      let there : region_parent_of t' r ≡ Some k = ap op_of_slot (w'.joined.regions k i r (ap (λ z. slice_get z.regions i) (h.rows k np nq) ∙ e)) in
      subst (λ x. SameBlock x (entry_block t' r)) (sym (region_entry t r k here)) (subst (λ x. SameBlock (and_block t (first_of (layout_of t r) None)) x) (sym (region_entry t' r k there)) (subst (λ y. SameBlock (and_block t (first_of (layout_of t r) None)) (and_block t' y)) (sym (ap (λ xs. first_of xs None) (h.layouts r))) (go (first_of (layout_of t r) None))))
    where
      go : (x : Option ℕ) → SameBlock (and_block t x) (and_block t' x)
      go None = tt
      go (Some c) = block_same c

  count_same : (x y : Option Block) → SameBlock x y → count_arguments x ≡ count_arguments y
  count_same None None s = refl
  count_same None (Some y) s = absurd s
  count_same (Some x) None s = absurd s
  count_same (Some x) (Some y) s = ap length (sym s.1)

  pub shape_kept : (k : ℕ) (o : Operation) → k ≢ op → k ≢ new → op_at t k ≡ Some o → shape_of m t o ≡ shape_of m t' o
  shape_kept k o np nq e =
      shape_same m t t' o (λ r i. let j = slice_in o.regions r i in count_same _ _ (entry_same k j.0 r np nq (ap (λ x. slice_get x j.0) (op_shows t k o e).regions ∙ j.1))) (λ c i. count_same _ _ (block_same c))

  shape_parts : (u : Tree) (o o' : Operation) → o'.head ≡ o.head → o'.operands ≡ o.operands → o'.results ≡ o.results → o'.successors ≡ o.successors → o'.regions ≡ o.regions → shape_of m u o' ≡ shape_of m u o
  unfolding shape_of
  shape_parts u o o' p q r s v = cc

  -- what the record of an operation that stays shows after
  pub record ShowsSame (o o' : Operation) : Type 0 where
    pub head : o'.head ≡ o.head
    pub operands : o'.operands ≡ o.operands
    pub results : o'.results ≡ o.results
    pub successors : o'.successors ≡ o.successors
    pub regions : o'.regions ≡ o.regions

  pub shows_same : (k : ℕ) (o o' : Operation) → k ≢ op → k ≢ new → op_at t k ≡ Some o → op_at t' k ≡ Some o' → ShowsSame o o'
  shows_same k o o' np nq e e' =
      let s = op_shows t k o e in
      let s' = op_shows t' k o' e' in
      record {
        head = some_is (sym s'.head ∙ ap (λ z. z.head) (h.rows k np nq) ∙ s.head);
        operands = sym s'.operands ∙ h.operands k np nq ∙ s.operands;
        results = sym s'.results ∙ ap (λ z. z.results) (h.rows k np nq) ∙ s.results;
        successors = sym s'.successors ∙ h.successors k np nq ∙ s.successors;
        regions = sym s'.regions ∙ ap (λ z. z.regions) (h.rows k np nq) ∙ s.regions;
      }

  pub shapes : (k : ℕ) (o o' : Operation) → k ≢ op → k ≢ new → op_at t k ≡ Some o → op_at t' k ≡ Some o' → shape_of m t o ≡ shape_of m t' o'
  shapes k o o' np nq e e' = let x = shows_same k o o' np nq e e' in shape_kept k o np nq e ∙ sym (shape_parts t' o o' x.head x.operands x.results x.successors x.regions)

  enters : (x y : Option Block) (ds es : List Datum) → SameBlock x y → es ≡ ds → Enters m t t' comparison x y ds es
  enters None None ds es s q = tt
  enters None (Some y) ds es s q = s
  enters (Some x) None ds es s q = s
  enters (Some x) (Some y) ds es s q =
      (s.0, tt, λ env env' e. subst (λ vs. EnvsTied (SameBut none_gone) (bind env x.arguments ds) (bind env' vs es)) (sym s.1) (subst (λ z. EnvsTied (SameBut none_gone) (bind env x.arguments ds) (bind env' x.arguments z)) (sym q) (bind_same none_gone x.arguments env env' ds e)))

  -- an operation stays under its key, or is the branch
  old_key : (k : ℕ) (o : Operation) → op_at t k ≡ Some o → k ≢ new
  old_key k o e = live_old k (subst IsSome (sym (op_shows t k o e).head) refl)

  swap_other : (k : ℕ) (o o' : Operation) → k ≢ op → op_at t k ≡ Some o → op_at t' (exchanged op new k) ≡ Some o' → op_at t' k ≡ Some o'
  swap_other k o o' np e e' = ap (op_at t') (sym (exchanged_other op new k np (old_key k o e))) ∙ e'

  swap_op : (k : ℕ) (o' : Operation) → k ≡ op → op_at t' (exchanged op new k) ≡ Some o' → op_at t' new ≡ Some o'
  swap_op k o' s e' = ap (op_at t') (sym (ap (exchanged op new) s ∙ exchanged_first op new)) ∙ e'

  substitutes : Substitutes m t t' comparison
  substitutes = record {
    own_rest = λ k rest u. tt;
    absent = λ k l e. elim (cases_eq k new) [
      | inl s ↦ no_op t' (exchanged op new k) (ap (head_of t') (ap (exchanged op new) s ∙ exchanged_second op new apart) ∙ h.deleted)
      | inr nq ↦ elim (cases_eq k op) [
        | inl s ↦ absurd (there op op_live (ap (op_at t) (sym s) ∙ e))
        | inr np ↦ no_op t' (exchanged op new k) (ap (head_of t') (exchanged_other op new k np nq) ∙ ap (λ z. z.head) (h.rows k np nq) ∙ not_there k e (head_of t k) refl)
      ]
    ];
    other = λ k o l e. elim (cases_eq k op) [
      | inl s ↦ let x = some_of (head_of t' new) new_live in (operation_of t' new x.0, ap (op_at t') (ap (exchanged op new) s ∙ exchanged_first op new) ∙ make_op t' new x.0 x.1)
      | inr np ↦ (operation_of t' k o.head, ap (op_at t') (exchanged_other op new k np (old_key k o e)) ∙ make_op t' k o.head (ap (λ z. z.head) (h.rows k np (old_key k o e)) ∙ (op_shows t k o e).head))
    ];
    results = λ k o o' l e e' env env' ds s. elim (cases_eq k op) [
      | inl q ↦
          let x : o.results ≡ [] = sym (op_shows t k o e).results ∙ ap (results_of t) q ∙ h.no_results in
          let y : o'.results ≡ o.results = sym (op_shows t' new o' (swap_op k o' q e')).results ∙ h.new_no_results ∙ sym x in
          subst (λ vs. EnvsTied (SameBut none_gone) (bind env o.results ds) (bind env' vs ds)) (sym y) (bind_same none_gone o.results env env' ds s)
      | inr np ↦ subst (λ vs. EnvsTied (SameBut none_gone) (bind env o.results ds) (bind env' vs ds)) (sym (shows_same k o o' np (old_key k o e) e (swap_other k o o' np e e')).results) (bind_same none_gone o.results env env' ds s)
    ];
    entries = λ k o o' l e e' i ds es v. elim (cases_eq k op) [
      | inl q ↦
          let x : o.regions ≡ [] = sym (op_shows t k o e).regions ∙ ap (regions_of t) q ∙ h.childless in
          let y : o'.regions ≡ [] = sym (op_shows t' new o' (swap_op k o' q e')).regions ∙ h.new_childless in
          subst (λ rs. Enters m t t' comparison (entry_in t (slice_get rs i)) (entry_in t' (slice_get o'.regions i)) ds es) (sym x) (subst (λ rs. Enters m t t' comparison (entry_in t (slice_get [] i)) (entry_in t' (slice_get rs i)) ds es) (sym y) tt)
      | inr np ↦ subst (λ rs. Enters m t t' comparison (entry_in t (slice_get o.regions i)) (entry_in t' (slice_get rs i)) ds es) (sym (shows_same k o o' np (old_key k o e) e (swap_other k o o' np e e')).regions) (entry k o np (old_key k o e) e i ds es v (slice_get o.regions i) refl)
    ];
    targets = λ k o o' l e e' i j ds es v. goes k o o' e e' i j ds es (nat_eq op k) refl v;
  }
    where
      there : (k : ℕ) → IsLive t k → op_at t k ≡ None → ⊥
      there k l e = let x = some_of (head_of t k) l in let n : None ≡ Some (operation_of t k x.0) = sym e ∙ make_op t k x.0 x.1 in absurd (cc)

      not_there : (k : ℕ) → op_at t k ≡ None → (x : Option Head) → head_of t k ≡ x → head_of t k ≡ None
      not_there k e None q = q
      not_there k e (Some x) q = absurd (there k (ap is_some q) e)

      entry : (k : ℕ) (o : Operation) → k ≢ op → k ≢ new → op_at t k ≡ Some o → (i : ℕ) (ds es : List Datum) → es ≡ ds → (x : Option ℕ) → slice_get o.regions i ≡ x → Enters m t t' comparison (entry_in t x) (entry_in t' x) ds es
      entry k o np nq oe i ds es q None e = tt
      entry k o np nq oe i ds es q (Some r) e = enters (entry_block t r) (entry_block t' r) ds es (entry_same k i r np nq (ap (λ z. slice_get z i) (op_shows t k o oe).regions ∙ e)) q

      target : (x y : Option ℕ) → y ≡ x → (ds es : List Datum) → es ≡ ds → Enters m t t' comparison (block_in t x) (block_in t' y) ds es
      target x y e ds es q = subst (λ z. Enters m t t' comparison (block_in t x) (block_in t' z) ds es) (sym e) (go x)
        where
          go : (x : Option ℕ) → Enters m t t' comparison (block_in t x) (block_in t' x) ds es
          go None = tt
          go (Some c) = enters (block_at t c) (block_at t' c) ds es (block_same c) q

      goes : (k : ℕ) (o o' : Operation) → op_at t k ≡ Some o → op_at t' (exchanged op new k) ≡ Some o' → (i j : ℕ) (ds es : List Datum) (z : Bool) → nat_eq op k ≡ z → jumping z (successors_of t op) (successors_of t' new) i ds j es → Enters m t t' comparison (block_in t (slice_get o.successors i)) (block_in t' (slice_get o'.successors j)) ds es
      goes k o o' e e' i j ds es true q v =
          let s = is_key op k q in
          target (slice_get o.successors i) (slice_get o'.successors j) (ap (λ l. slice_get l j) (sym (op_shows t' new o' (swap_op k o' s e')).successors) ∙ v.0 ∙ ap (λ l. slice_get l i) (ap (successors_of t) (sym s) ∙ (op_shows t k o e).successors)) ds es v.1
      goes k o o' e e' i j ds es false q v =
          let np = is_not op k q in
          target (slice_get o.successors i) (slice_get o'.successors j) (ap₂ (λ l n. slice_get l n) (shows_same k o o' np (old_key k o e) e (swap_other k o o' np e e')).successors v.0) ds es v.1

  first_same : (k : ℕ) (o o' : Operation) → nat_eq op k ≡ false → shape_of m t o ≡ shape_of m t' o' → (x y : Option (List Datum)) → x ≡ y → FirstAlike m t t' comparison k o o' x y
  first_same k o o' q s None None e = tt
  first_same k o o' q s None (Some y) e = grind arith
  first_same k o o' q s (Some x) None e = grind arith
  first_same k o o' q s (Some x) (Some y) e = subst (λ z. ActAlike m.act PassesSame (jumping z (successors_of t op) (successors_of t' new)) (shape_of m t o) (shape_of m t' o') x y) (sym q) (alike_refl m.act (shape_of m t o) (shape_of m t' o') x y s (some_is e))

  first_some : (k : ℕ) (o o' : Operation) (x y : Option (List Datum)) (p q : List Datum) → x ≡ Some p → y ≡ Some q → ActAlike m.act PassesSame (jumping (nat_eq op k) (successors_of t op) (successors_of t' new)) (shape_of m t o) (shape_of m t' o') p q → FirstAlike m t t' comparison k o o' x y
  first_some k o o' x y p q e f r = subst (λ z. FirstAlike m t t' comparison k o o' z y) (sym e) (subst (λ z. FirstAlike m t t' comparison k o o' (Some p) z) (sym f) r)

  module _ (root : ℕ) (f : IsFit m t root) (alike : ActsInPlace m t t' root op new) (left : root ≢ op) where
    reads : Reads m t t' comparison (RunReaches m t root) (λ s. Unit {0})
    reads s s' i j r k rest o o' e none l oe oe' = elim (cases_eq k op) [ inl q ↦ branch q | inr np ↦ stays np ]
      where
        stays : k ≢ op → FirstAlike m t t' comparison k o o' (data_of s.environment o.operands) (data_of s'.environment o'.operands)
        stays np =
            let nq = old_key k o oe in
            let g = swap_other k o o' np oe oe' in
            first_same k o o' (not_is op k np) (shapes k o o' np nq oe g) (data_of s.environment o.operands) (data_of s'.environment o'.operands)
            (data_same none_gone s.environment s'.environment r.environment o.operands (λ v q. refl) ∙ ap (data_of s'.environment) (sym (shows_same k o o' np nq oe g).operands))

        branch : k ≡ op → FirstAlike m t t' comparison k o o' (data_of s.environment o.operands) (data_of s'.environment o'.operands)
        branch q =
            let y : IsReady t w root m f.linked.edges f.defined s k rest = ready_when_reached m t root w f s i k rest e none in
            let input : data_of s.environment o.operands ≡ Some y.input = ap (data_of s.environment) (sym (op_shows t k o oe).operands) ∙ y.has_data in
            let x = alike s rest o o' y.input i (e ∙ ap (λ z. z ∷ rest) q) none (ap (op_at t) (sym q) ∙ oe) (swap_op k o' q oe') input in
            first_some k o o' (data_of s.environment o.operands) (data_of s'.environment o'.operands) y.input x.0 input (sym (data_same none_gone s.environment s'.environment r.environment o'.operands (λ v z. refl)) ∙ x.1)
            (subst (λ z. ActAlike m.act PassesSame (jumping z (successors_of t op) (successors_of t' new)) (shape_of m t o) (shape_of m t' o') y.input x.0) (sym (ap (nat_eq op) q ∙ eq-eqb op op refl)) x.2)

    pub rebranched_agree : Agree m t t' root
    rebranched_agree =
        substituted_agree m t t' comparison substitutes (RunReaches m t root) (λ s. Unit {0}) reads (λ s s' i r k rest l e q. grind arith) root (reached_kept m t root) (anything_kept (step m t')) (record {
          stays = refl;
          same = exchanged_other op new root left (live_old root f.live);
          own = tt;
          empty = λ v g. refl;
          alike = λ inputs. begun inputs;
          left = λ inputs world. reached_start m t root inputs world;
          right = λ inputs world. tt;
        })
      where
        begun : (inputs : List Datum) → Begun m t t' comparison root Empty inputs
        begun inputs =
            let hd = some_of (head_of t root) f.live in
            let o = operation_of t root hd.0 in
            let oe = make_op t root hd.0 hd.1 in
            let nq = live_old root f.live in
            let oe' = make_op t' root hd.0 (ap (λ z. z.head) (h.rows root left nq) ∙ hd.1) in
            Starts o (operation_of t' root hd.0) oe (ap (op_at t') (exchanged_other op new root left nq) ∙ oe') (subst (λ z. ActAlike m.act PassesSame (jumping z (successors_of t op) (successors_of t' new)) (shape_of m t o) (shape_of m t' (operation_of t' root hd.0)) inputs inputs) (sym (not_is op root left)) (alike_refl m.act _ _ inputs inputs (shapes root o (operation_of t' root hd.0) left nq oe oe') refl)) refl
