-- What the tests of a callee come to.
use Rattle.std.proofs.Common.{◌≡◌, ◌≢◌, ◌⊎◌, ◌↔◌, inl, inr, ⊎_elim, ℕ, Bool, true, false, List, [], ◌∷◌, ◌++◌, length, Option, Some, None, IsSome, is_some, IsTrue, refl, sym, ap, ◌∙◌, subst, arith}
use Rattle.std.specs.List.{flat_map, slice_get}
use Rattle.std.proofs.lemmas.Bool.{false≢true}
use Rattle.pliron_core.specs.declared.attrs.Head.{Head}
use Rattle.pliron_core.specs.declared.context.Def.{Def}
use Rattle.pliron_core.specs.declared.context.Def.TheVariants.{Result, Argument}
use Rattle.pliron_core.specs.Invariant.{IsTree}
use Rattle.pliron_core.specs.Reads.{next_of}
use Rattle.pliron_core.specs.Tree.{Tree, In, IsDistinct, IsLive, IsMadeBy, IsDefined, up_from, first_of, next_in, head_of, operands_of, successors_of, results_of, regions_of, parent_of, body_of, arguments_of, block_parent_of, layout_of, definition_of}
use Rattle.pliron_core.proofs.ContainedLemmas.{next_in_body}
use Rattle.pliron_core.proofs.FlatLemmas.{In-flat_map, flat_map-In}
use Rattle.pliron_core.proofs.HoldingLemmas.{some_is, not_none, some_of, in_slice, slice_in}
use Rattle.pliron_core.proofs.ListLemmas.{In-left, In-right, In-cases}
use Rattle.pliron_core.proofs.NeighbourLemmas.{next_in-first, next_in-other}
use Rattle.pliron_laws.specs.Answers.{ReadsHead, HeadPasses}
use Rattle.pliron_laws.specs.Datum.{Meaning}
use Rattle.pliron_laws.specs.EdgeChecks.{region_around}
use Rattle.pliron_dialect_calls.specs.Inlinable.{NeverLeaves}
use Rattle.pliron_rewrite_inlining.specs.Inlined.{RunsItsRegion}
use Rattle.pliron_rewrite_calls.specs.Copying.{parts_of, operations_of}
use Rattle.pliron_rewrite_calls.specs.Inlining.{IsInlinable, MayBeCopied}
use Rattle.pliron_opt_inline.specs.Copying.{FitsInCopy, EndsCopy, EndsCopyByHead, IsBlockCopyable, IsBlockCopyableByHead}

up_some : (o : Option ℕ) (f : ℕ → Option ℕ) (r : ℕ) → up_from o f ≡ Some r → (b : ℕ) × (o ≡ Some b) × (f b ≡ Some r)
up_some None f r e = absurd (not_none e)
up_some (Some b) f r e = (b, refl, e)

result_key : (k j i l : ℕ) → Some (Result k i) ≡ Some (Result j l) → k ≡ j
result_key k j i l e = cc

argument_key : (k j i l : ℕ) → Some (Argument k i) ≡ Some (Argument j l) → k ≡ j
argument_key k j i l e = cc

no_argument : (k j i l : ℕ) → Some (Result k i) ≡ Some (Argument j l) → ⊥
no_argument k j i l e = absurd (cc)

-- the values of a region are the arguments of its blocks, and the results of the operations in them
module _ (t : Tree) (w : IsTree t) (region : ℕ) where
  op_listed : (k : ℕ) → region_around t k ≡ Some region → In k (operations_of t (layout_of t region))
  op_listed k e =
      let x = up_some (parent_of t k) (λ b. block_parent_of t b) region e in
      In-flat_map (λ b. body_of t b) (layout_of t region) x.0 k (w.layouts.listed x.0 region x.2) (w.bodies.listed k x.0 x.1)

  listed_op : (k : ℕ) → In k (operations_of t (layout_of t region)) → region_around t k ≡ Some region
  listed_op k i =
      let x = flat_map-In (λ b. body_of t b) (layout_of t region) k i in
      ap (λ o. up_from o (λ b. block_parent_of t b)) (w.bodies.owned k x.0 x.2) ∙ w.layouts.owned x.0 region x.1

  given : (v : ℕ) → In v (flat_map (λ k. results_of t k) (operations_of t (layout_of t region))) → (k : ℕ) × (i : ℕ) × (definition_of t v ≡ Some (Result k i)) × In k (operations_of t (layout_of t region))
  given v i =
      let x = flat_map-In (λ k. results_of t k) (operations_of t (layout_of t region)) v i in
      let at = slice_in (results_of t x.0) v x.2 in
      (x.0, at.0, w.joined.results x.0 at.0 v at.1, x.1)

  taken : (v : ℕ) → In v (flat_map (λ b. arguments_of t b) (layout_of t region)) → (b : ℕ) × (i : ℕ) × (definition_of t v ≡ Some (Argument b i)) × In b (layout_of t region)
  taken v i =
      let x = flat_map-In (λ b. arguments_of t b) (layout_of t region) v i in
      let at = slice_in (arguments_of t x.0) v x.2 in
      (x.0, at.0, w.joined.arguments x.0 at.0 v at.1, x.1)

  abbrev Own : ℕ → Type 0
  Own v = In v (parts_of t (layout_of t region)).values

  own_cases : {P : Type 0} (v : ℕ) → Own v
      → (In v (flat_map (λ b. arguments_of t b) (layout_of t region)) → P)
      → (In v (flat_map (λ k. results_of t k) (operations_of t (layout_of t region))) → P) → P
  own_cases v i f g =
      ⊎_elim f g (In-cases v (flat_map (λ b. arguments_of t b) (layout_of t region)) (flat_map (λ k. results_of t k) (operations_of t (layout_of t region))) i)

  pub result_of_region : (v k i : ℕ) → IsDefined t v → definition_of t v ≡ Some (Result k i) → (region_around t k ≡ Some region) ↔ Own v
  result_of_region v k i made def = (
    λ e. In-right v (flat_map (λ b. arguments_of t b) (layout_of t region)) (flat_map (λ j. results_of t j) (operations_of t (layout_of t region)))
        (In-flat_map (λ j. results_of t j) (operations_of t (layout_of t region)) k v (op_listed k e) (in_slice (results_of t k) i v (subst (IsMadeBy t v) def made))),
    λ own. own_cases v own
        (λ a. let x = taken v a in absurd (no_argument k x.0 i x.1 (sym def ∙ x.2)))
        (λ a. let x = given v a in subst (λ z. region_around t z ≡ Some region) (result_key x.0 k x.1 i (sym x.2 ∙ def)) (listed_op x.0 x.3)),
  )

  pub argument_of_region : (v b i : ℕ) → IsDefined t v → definition_of t v ≡ Some (Argument b i) → (block_parent_of t b ≡ Some region) ↔ Own v
  argument_of_region v b i made def = (
    λ e. In-left v (flat_map (λ c. arguments_of t c) (layout_of t region)) (flat_map (λ k. results_of t k) (operations_of t (layout_of t region)))
        (In-flat_map (λ c. arguments_of t c) (layout_of t region) b v (w.layouts.listed b region e) (in_slice (arguments_of t b) i v (subst (IsMadeBy t v) def made))),
    λ own. own_cases v own
        (λ a. let x = taken v a in subst (λ z. block_parent_of t z ≡ Some region) (argument_key x.0 b x.1 i (sym x.2 ∙ def)) (w.layouts.owned x.0 region x.3))
        (λ a. let x = given v a in absurd (no_argument x.0 b x.1 i (sym x.2 ∙ def))),
  )

-- what a test of a head answers
module _ (f : Head → Bool) (t : Tree) (k : ℕ) (b : Bool) (reads : ReadsHead f t k b) where
  pub passes : b ≡ true → HeadPasses f t k
  passes e h is = sym (reads h is) ∙ e

  pub has_passed : IsLive t k → HeadPasses f t k → b ≡ true
  has_passed live p = let h = some_of (head_of t k) live in reads h.0 h.1 ∙ p h.0 h.1

  pub fails : IsLive t k → b ≡ false → HeadPasses f t k → ⊥
  fails live e p = false≢true (sym e ∙ has_passed live p)

  pub fails_at : b ≡ false → (h : Head) → head_of t k ≡ Some h → IsTrue (f h) → ⊥
  fails_at e h is p = false≢true (sym e ∙ reads h is ∙ p)

-- what holds by what is behind an operation
pub by_next : {P : Type 0} (o : Option ℕ) → (o ≡ None → P) → ((j : ℕ) → o ≡ Some j → P) → P
by_next None f g = f refl
by_next (Some j) f g = g j refl

pub first_none : (xs : List ℕ) (o : Option ℕ) → o ≡ first_of xs None → o ≡ None → xs ≡ []
first_none [] o e n = refl
first_none (x ∷ xs) o e n = absurd (not_none (sym n ∙ e))

pub first_some : (xs : List ℕ) (o : Option ℕ) (x : ℕ) → o ≡ first_of xs None → o ≡ Some x → xs ≢ []
first_some xs o x e s empty = not_none (sym (ap (λ ys. first_of ys None) empty) ∙ sym e ∙ s)

-- the operations of a block that fits, in their order
module _ (m : Meaning) (returns : Head → Bool) (t : Tree) (results : ℕ) where
  pub record FitsBefore (xs : List ℕ) (k : ℕ) : Type 0 where
    pub childless : regions_of t k ≡ []
    pub ends : next_in k xs ≡ None → EndsCopy m returns t results k
    pub stands : (j : ℕ) → next_in k xs ≡ Some j → NeverLeaves m t k

  in_turn : (xs : List ℕ) → xs ≢ [] → IsDistinct xs → ((k : ℕ) → In k xs → FitsBefore xs k) → MayBeCopied m returns t results xs
  in_turn [] some d each = absurd (some refl)
  in_turn (k ∷ []) some d each = let x = each k (inl refl) in (x.childless, x.ends (next_in-first k k [] refl))
  in_turn (k ∷ j ∷ ks) some d each =
      let x = each k (inl refl) in
      let apart : (i : ℕ) → In i (j ∷ ks) → i ≢ k = λ i a e. d.0 (subst (λ z. In z (j ∷ ks)) e a) in (
        x.childless,
        x.stands j (next_in-first k k (j ∷ ks) refl),
        in_turn (j ∷ ks) (λ e. not_nil j ks e) d.1 (λ i a.
            let y = each i (inr a) in
            let same = next_in-other i k (j ∷ ks) (apart i a) in
            record { childless = y.childless; ends = λ e. y.ends (same ∙ e); stands = λ l e. y.stands l (same ∙ e) }),
      )
    where
      not_nil : (x : ℕ) (xs : List ℕ) → x ∷ xs ≡ [] → ⊥
      not_nil x xs e = absurd (cc)

  pub copied_in_turn : (w : IsTree t) (region b : ℕ) → IsBlockCopyable m returns t results region b → MayBeCopied m returns t results (body_of t b)
  copied_in_turn w region b fit = in_turn (body_of t b) fit.some (w.bodies.distinct b) (λ k i.
      let x = fit.each k i in
      let same = next_in_body t w k b i in
      record { childless = x.childless; ends = λ e. x.ends (same ∙ e); stands = λ j e. x.stands j (same ∙ e) })

  pub inlinable : (w : IsTree t) (operands callee region entry : ℕ) → RunsItsRegion m t callee region operands → first_of (layout_of t region) None ≡ Some entry → length (arguments_of t entry) ≡ operands
      → ((b : ℕ) → block_parent_of t b ≡ Some region → IsBlockCopyable m returns t results region b) → IsInlinable m returns t callee operands results
  inlinable w operands callee region entry runs first takes blocks = record {
    region = region;
    runs = runs;
    entry = entry;
    first = first;
    takes = takes;
    own = λ b k v e i. ((blocks b e).each k i).values v;
    inside = λ b k s e i. ((blocks b e).each k i).blocks s;
    copied = λ b e. copied_in_turn w region b (blocks b e);
  }

-- by heads, and by what the operation does
pub record FitsBothWays (m : Meaning) (returns stays closes : Head → Bool) (t : Tree) (results region k : ℕ) : Type 0 where
  pub by_head : FitsInCopy (EndsCopyByHead returns stays closes t results) (λ j. HeadPasses stays t j) t region k
  pub by_doing : FitsInCopy (EndsCopy m returns t results) (NeverLeaves m t) t region k

pub record IsFitBothWays (m : Meaning) (returns stays closes : Head → Bool) (t : Tree) (results region b : ℕ) : Type 0 where
  pub by_head : IsBlockCopyableByHead returns stays closes t results region b
  pub by_doing : IsBlockCopyable m returns t results region b

pub no_length : (xs : List ℕ) → length xs ≡ 0 → xs ≡ []
no_length [] e = refl
no_length (x ∷ xs) e = absurd (omega (arith, e))

pub only_one : (xs : List ℕ) (x : ℕ) → length xs ≡ 1 → slice_get xs 0 ≡ Some x → xs ≡ x ∷ []
only_one [] x n e = absurd (omega (arith, n))
only_one (y ∷ []) x n e = ap (λ z. z ∷ []) (some_is e)
only_one (y ∷ z ∷ zs) x n e = absurd (omega (arith, n))

pub same_head : (x y : ℕ) → x ∷ [] ≡ y ∷ [] → x ≡ y
same_head x y e = cc

pub head_named : {A : Type 0} (f : Head → Option A) (t : Tree) (k : ℕ) (a : A) → ReadsHead f t k (Some a) → (h : Head) → head_of t k ≡ Some h → IsSome (f h)
head_named f t k a reads h is = ap is_some (sym (reads h is))

pub head_unnamed : {A : Type 0} (f : Head → Option A) (t : Tree) (k : ℕ) → IsLive t k → ReadsHead f t k None → ((h : Head) → head_of t k ≡ Some h → IsSome (f h)) → ⊥
head_unnamed f t k live reads named = let h = some_of (head_of t k) live in false≢true (ap is_some (reads h.0 h.1) ∙ named h.0 h.1)

-- what stands in a function of one region with an entry
module _ (m : Meaning) (t : Tree) (callee region entry operands : ℕ) (one : regions_of t callee ≡ region ∷ []) (first : first_of (layout_of t region) None ≡ Some entry) where
  pub same_region : (r : ℕ) → regions_of t callee ≡ r ∷ [] → r ≡ region
  same_region r e = same_head r region (sym e ∙ one)

  pub same_entry : (r b : ℕ) → regions_of t callee ≡ r ∷ [] → first_of (layout_of t r) None ≡ Some b → b ≡ entry
  same_entry r b e f = some_is (sym f ∙ ap (λ z. first_of (layout_of t z) None) (same_region r e) ∙ first)

  pub runs_it : ((r b : ℕ) → regions_of t callee ≡ r ∷ [] → first_of (layout_of t r) None ≡ Some b → RunsItsRegion m t callee r (length (arguments_of t b))) → length (arguments_of t entry) ≡ operands → RunsItsRegion m t callee region operands
  runs_it runs takes = subst (RunsItsRegion m t callee region) takes (runs region entry one first)
