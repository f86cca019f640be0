-- The folds inside an operation, listed one after the other.
use Rattle.std.proofs.Common.{◌≡◌, ◌⊎◌, inl, inr, ℕ, zero, suc, ◌+◌, ◌-◌, ◌≤◌, ◌<◌, Bool, true, false, cond, List, [], ◌∷◌, ◌++◌, length, map, filter, take, drop, Option, Some, None, slice_get, slice_range, refl, sym, ap, ◌∙◌, subst, arith, IsTrue, true≢false, append-nil, append_assoc, length-append, length-drop, take_all}
use Rattle.std.proofs.lemmas.List.{take-append-le, drop-append-le}
use Rattle.std.proofs.Math.Seq.{drop-append_seam}
use Rattle.std.specs.List.{flat_map}
use Rattle.pliron_core.specs.Lists.{next_in}
use Rattle.pliron_core.specs.Tree.{Tree, IsInside, head_of, operands_of, parent_of}
use Rattle.pliron_core.specs.Invariant.{IsTree}
use Rattle.pliron_core.specs.Walks.{contents, preorder}
use Rattle.pliron_core.specs.WalkSteps.{rest_from}
use Rattle.pliron_core.proofs.HoldingLemmas.{some_is, not_none}
use Rattle.pliron_core.proofs.NeighbourLemmas.{next_in-first, next_in-other}
use Rattle.pliron_core.proofs.WalkLemmas.{contents-inside, distinct-contents, not_inside-itself}
use Rattle.pliron_core.specs.declared.attrs.AttrObj.{AttrObj}
use Rattle.pliron_laws.specs.Datum.{Head}
use Rattle.pliron_laws.proofs.Records.{operation_of, make_op}
use Rattle.pliron_theory.specs.LatticeValues.{LatticeValues, Says, operand_constants, lattice_constant}
use Rattle.pliron_opt_sccp.specs.declared.rewrite.Fold.{Fold}
use Rattle.pliron_opt_sccp.specs.declared.rewrite.Folds.{Folds}
use Rattle.pliron_opt_sccp.specs.Chain.{is_reached, has_passing_head, both}
use Rattle.pliron_opt_sccp.specs.RewriteSteps.{IsConstantFold, AreEachFold}
use Rattle.pliron_opt_sccp.specs.Listed.{is_folding, AllOf, alone_if, AddsFold, AreFolds}
use Rattle.pliron_opt_sccp.proofs.Constrained.{handed_more}
use Rattle.pliron_theory.proofs.Listing.{IsListing, listing_start, listing_step, listing_smaller, listing_end}

-- one more at the end
at_end : {A : Type 0} (xs : List A) (x : A) (i : ℕ) (y : A) → slice_get (xs ++ x ∷ []) i ≡ Some y → (slice_get xs i ≡ Some y) ⊎ (y ≡ x)
at_end [] x zero y e = inr (sym (some_is e))
at_end [] x (suc i) y e = absurd (not_none e)
at_end (z ∷ zs) x zero y e = inl e
at_end (z ∷ zs) x (suc i) y e = at_end zs x i y e

pub each_more : {A : Type 0} (P : A → Type 0) (old new : List A) (x : A) → new ≡ old ++ x ∷ [] → AllOf old P → P x → AllOf new P
each_more P old new x e all one i y at = elim (at_end old x i y (ap (λ xs. slice_get xs i) (sym e) ∙ at)) [ inl h ↦ all i y h | inr s ↦ subst P (sym s) one ]

pub each_none : {A : Type 0} (P : A → Type 0) (xs : List A) → xs ≡ [] → AllOf xs P
each_none P xs e i x at = absurd (not_none (ap (λ ys. slice_get ys i) (sym e) ∙ at))

filter_alone : (p : ℕ → Bool) (xs : List ℕ) → flat_map (λ k. alone_if (p k) k) xs ≡ filter p xs
filter_alone p [] = refl
filter_alone p (x ∷ xs) = go (filter_alone p xs) (p x)
  where
    go : flat_map (λ k. alone_if (p k) k) xs ≡ filter p xs → (b : Bool) → alone_if b x ++ flat_map (λ k. alone_if (p k) k) xs ≡ cond b (x ∷ filter p xs) (filter p xs)
    go rest true = ap (λ ys. x ∷ ys) rest
    go rest false = rest

both_parts : (a b : Bool) → IsTrue (both a b) → IsTrue a × IsTrue b
both_parts true b e = (refl, e)
both_parts false b e = absurd (true≢false (sym e))

passing_head : (can_fold : Head → Bool) (o : Option Head) → IsTrue (has_passing_head can_fold o) → (h : Head) × (o ≡ Some h) × IsTrue (can_fold h)
passing_head can_fold None e = absurd (true≢false (sym e))
passing_head can_fold (Some h) e = (h, refl, e)

reached_parent : (f : LatticeValues) (o : Option ℕ) → IsTrue (is_reached f o) → (b : ℕ) × (o ≡ Some b) × IsTrue (f.is_executable b)
reached_parent f None e = absurd (true≢false (sym e))
reached_parent f (Some b) e = (b, refl, e)

both_false : (b : Bool) → both b false ≡ false
both_false true = refl
both_false false = refl

-- a part stays where the list goes on
range_stays : {A : Type 0} (xs more : List A) (a b : ℕ) → a ≤ b → b ≤ length xs → slice_range (xs ++ more) a b ≡ slice_range xs a b
range_stays xs more a b rising within =
    ap (take (b - a)) (drop-append-le a xs more (omega arith)) ∙ take-append-le (b - a) (drop a xs) more (rw (length-drop a xs) omega arith)

-- what is added is the part from there to the end
range_added : {A : Type 0} (xs more all : List A) → all ≡ xs ++ more → slice_range all (length xs) (length all) ≡ more
range_added xs more all e =
    ap (λ z. slice_range z (length xs) (length z)) e ∙ ap (take (length (xs ++ more) - length xs)) (drop-append_seam xs more) ∙ take_all _ more (rw (length-append xs more) omega arith)

grows : {A : Type 0} (xs more all : List A) → all ≡ xs ++ more → length xs ≤ length all
grows xs more all e = rw (e, length-append xs more) omega arith

module _ (x : Says) (t : Tree) (f : LatticeValues) (k : ℕ) where
  pub no_block : parent_of t k ≡ None → is_folding x.can_fold t f k ≡ false
  no_block e = ap (λ o. both (has_passing_head x.can_fold (head_of t k)) (is_reached f o)) e ∙ both_false (has_passing_head x.can_fold (head_of t k))

  pub not_reached : (b : ℕ) → parent_of t k ≡ Some b → f.is_executable b ≡ false → is_folding x.can_fold t f k ≡ false
  not_reached b e no_one = ap (λ o. both (has_passing_head x.can_fold (head_of t k)) (is_reached f o)) e ∙ ap (both (has_passing_head x.can_fold (head_of t k))) no_one ∙ both_false (has_passing_head x.can_fold (head_of t k))

  pub not_foldable : (h : Head) → head_of t k ≡ Some h → x.can_fold h ≡ false → is_folding x.can_fold t f k ≡ false
  not_foldable h e no_fold = ap (λ o. both (has_passing_head x.can_fold o) (is_reached f (parent_of t k))) e ∙ ap (λ c. both c (is_reached f (parent_of t k))) no_fold

  module _ (old new : Folds) (fold : Fold) (more : List (Option AttrObj)) (longer : new.known.items ≡ old.known.items ++ more) (e : new.rows.items ≡ old.rows.items ++ fold ∷ []) where
    fold_stays : (one : Fold) → IsConstantFold x t f old.known.items one → IsConstantFold x t f new.known.items one
    fold_stays one is = record {
      operation = is.operation;
      at = is.at;
      liveness = is.liveness;
      folds = is.folds;
      rising = is.rising;
      within = let m = grows old.known.items more new.known.items longer in let w = is.within in omega arith;
      known_is = ap (λ z. slice_range z one.start one.end) longer ∙ range_stays old.known.items more one.start one.end is.rising is.within ∙ is.known_is;
    }

    pub adds_fold : IsTrue (is_folding x.can_fold t f k) → fold.op ≡ k → fold.start ≡ length old.known.items → fold.end ≡ length new.known.items → more ≡ operand_constants f (operands_of t k) → AddsFold x t f k old new
    adds_fold folding same start end is = record {
      operations = ap (map (λ fold. fold.op)) e ∙ map_last old.rows.items ∙ ap (λ z. map (λ fold. fold.op) old.rows.items ++ z ∷ []) same ∙ ap (λ b. map (λ fold. fold.op) old.rows.items ++ alone_if b k) (sym folding);
      each = λ all. each_more (IsConstantFold x t f new.known.items) old.rows.items new.rows.items fold e (λ i one at. fold_stays one (all i one at)) (subst (IsConstantFold x t f new.known.items) fold_is added);
    }
      where
        map_last : (xs : List Fold) → map (λ z. z.op) (xs ++ fold ∷ []) ≡ map (λ z. z.op) xs ++ fold.op ∷ []
        map_last [] = refl
        map_last (y ∷ ys) = ap (λ zs. y.op ∷ zs) (map_last ys)

        parts : IsTrue (has_passing_head x.can_fold (head_of t k)) × IsTrue (is_reached f (parent_of t k))
        parts = both_parts (has_passing_head x.can_fold (head_of t k)) (is_reached f (parent_of t k)) folding

        there : Fold
        there = record { op = k; start = length old.known.items; end = length new.known.items }

        fold_is : there ≡ fold
        fold_is =
            ap (λ z. record { op = z; start = length old.known.items; end = length new.known.items }) (sym same) ∙ ap (λ z. record { op = fold.op; start = z; end = length new.known.items }) (sym start) ∙ ap (λ z. record { op = fold.op; start = fold.start; end = z }) (sym end)

        added : IsConstantFold x t f new.known.items there
        added =
            let h = passing_head x.can_fold (head_of t k) parts.0 in
            record {
              operation = operation_of t k h.0;
              at = make_op t k h.0 h.1;
              liveness = reached_parent f (parent_of t k) parts.1;
              folds = h.2;
              rising = grows old.known.items more new.known.items longer;
              within = omega arith;
              known_is = range_added old.known.items more new.known.items longer ∙ is;
            }

  pub adds_none : (old : Folds) → is_folding x.can_fold t f k ≡ false → AddsFold x t f k old old
  adds_none old e = record {
    operations = sym (ap (λ b. map (λ fold. fold.op) old.rows.items ++ alone_if b k) e ∙ append_nil (map (λ fold. fold.op) old.rows.items));
    each = λ all. all;
  }
    where
      append_nil : (xs : List ℕ) → xs ++ [] ≡ xs
      append_nil [] = refl
      append_nil (y ∷ ys) = ap (λ zs. y ∷ zs) (append_nil ys)

-- what is known of the first operands is added one by one
pub known_start : (f : LatticeValues) (xs : List ℕ) (old : List (Option AttrObj)) → old ≡ old ++ operand_constants f (take 0 xs)
known_start f xs old = sym (append-nil old)

pub known_step : (f : LatticeValues) (xs : List ℕ) (old : List (Option AttrObj)) (i x : ℕ) (before after : List (Option AttrObj)) (a : Option AttrObj) → slice_get xs i ≡ Some x → before ≡ old ++ operand_constants f (take i xs) → a ≡ lattice_constant (f.lattice_value x) → after ≡ before ++ a ∷ [] → after ≡ old ++ operand_constants f (take (i + 1) xs)
known_step f xs old i x before after a at so_far is grown =
    grown ∙ ap (λ z. z ++ a ∷ []) so_far ∙ append_assoc old (operand_constants f (take i xs)) (a ∷ []) ∙ ap (λ z. old ++ z) (handed_more f xs i x (operand_constants f (take i xs)) (operand_constants f (take i xs) ++ a ∷ []) a at refl is refl)

abbrev lists : Says → Tree → LatticeValues → ℕ → List ℕ
lists x t f k = alone_if (is_folding x.can_fold t f k) k

-- the folds of the operations before `at` are listed
pub record IsFoldListing (x : Says) (t : Tree) (root : ℕ) (f : LatticeValues) (folds : Folds) (at : Option ℕ) : Type 0 where
  pub listing : IsListing (lists x t f) (contents t root) [] (map (λ fold. fold.op) folds.rows.items) at
  pub each : AreEachFold x t f folds

module _ (x : Says) (t : Tree) (root : ℕ) (f : LatticeValues) (w : IsTree t) where
  pub folds_start : (folds : Folds) (at : Option ℕ) → folds.rows.items ≡ [] → at ≡ next_in root (preorder t root) → IsFoldListing x t root f folds at
  folds_start folds at none e = record {
    listing = subst (λ z. IsListing (lists x t f) (contents t root) [] (map (λ fold. fold.op) z) at) (sym none) (listing_start (lists x t f) (contents t root) [] at (e ∙ next_in-first root root (contents t root) refl));
    each = each_none (IsConstantFold x t f folds.known.items) folds.rows.items none;
  }

  pub folds_inside : (folds : Folds) (at : Option ℕ) (k : ℕ) → IsFoldListing x t root f folds at → at ≡ Some k → IsInside t root k
  folds_inside folds at k l e = contents-inside t w root k (l.listing.within k e)

  next_is : (k : ℕ) (o : Option ℕ) → IsInside t root k → o ≡ next_in k (preorder t root) → o ≡ next_in k (contents t root)
  next_is k o i e = e ∙ next_in-other k root (contents t root) (λ s. not_inside-itself t w root (subst (IsInside t root) s i))

  pub folds_step : (folds more : Folds) (at o : Option ℕ) (k : ℕ) → IsFoldListing x t root f folds at → at ≡ Some k → o ≡ next_in k (preorder t root) → AddsFold x t f k folds more → IsFoldListing x t root f more o
  folds_step folds more at o k l e n a = record {
    listing = listing_step (lists x t f) (contents t root) [] (map (λ fold. fold.op) folds.rows.items) (map (λ fold. fold.op) more.rows.items) at o k (distinct-contents t w root) l.listing e (next_is k o (folds_inside folds at k l e) n) a.operations;
    each = a.each l.each;
  }

  pub folds_smaller : (folds : Folds) (at o : Option ℕ) (k : ℕ) → IsFoldListing x t root f folds at → at ≡ Some k → o ≡ next_in k (preorder t root) → length (rest_from o (contents t root)) < length (rest_from at (contents t root))
  folds_smaller folds at o k l e n =
      listing_smaller (lists x t f) (contents t root) [] (map (λ fold. fold.op) folds.rows.items) at o k (distinct-contents t w root) l.listing e (next_is k o (folds_inside folds at k l e) n)

  pub folds_end : (folds : Folds) (at : Option ℕ) → IsFoldListing x t root f folds at → at ≡ None → AreFolds x t root f folds
  folds_end folds at l e = record {
    operations = listing_end (lists x t f) (contents t root) [] (map (λ fold. fold.op) folds.rows.items) at l.listing e ∙ filter_alone (λ k. is_folding x.can_fold t f k) (contents t root);
    each = l.each;
  }
