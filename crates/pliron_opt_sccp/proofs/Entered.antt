-- Blocks that were entered whole, which jumps need not ask again.
use Rattle.std.proofs.Common.{◌≡◌, ◌↔◌, inl, inr, ⊎_elim, ℕ, ◌+◌, ◌≤◌, Bool, true, false, true≢false, nat_eq, List, length, Option, Some, None, slice_get, refl, sym, ap, ◌∙◌, subst, arith, position}
use Rattle.std.specs.List.{list_any}
use Rattle.std.specs.HashSet.{HashSet}
use Rattle.std.proofs.lemmas.List.Folds.{list_any_at}
use Rattle.std.proofs.lemmas.List.Quantifiers.{position-Some}
use Rattle.pliron_core.specs.declared.attrs.AttrObj.{AttrObj}
use Rattle.pliron_core.specs.Tree.{Tree}
use Rattle.pliron_theory.specs.LatticeValues.{LatticeValues, IsEntryExecutable}
use Rattle.pliron_opt_sccp.specs.declared.constraints.Constraint.{Constraint}
use Rattle.pliron_opt_sccp.specs.declared.lattice_tables.Tables.{Tables}
use Rattle.pliron_opt_sccp.specs.declared.lattice_tables.BlockState.TheVariants.{NotExecutable}
use Rattle.pliron_opt_sccp.specs.LatticeCells.{table_at, is_marked_executable}
use Rattle.pliron_opt_sccp.specs.LatticeTables.{lattice_value_in, lattice_values_of, lowest_lattice_values, is_executable}
use Rattle.pliron_opt_sccp.specs.Settling.{AreAtMost}
use Rattle.pliron_opt_sccp.specs.Lowering.{IsApplied}
use Rattle.pliron_opt_sccp.specs.Constraints.{SatisfiesAll, Adds, AddsUnder, AreEntriesExecutable, AreEntriesExecutableWhere, EachBefore, RecordsEntry}
use Rattle.pliron_opt_sccp.proofs.Constrained.{past, more}
use Rattle.pliron_opt_sccp.proofs.Settled.{varies_still}

entered_lower : (t : Tree) (f g : LatticeValues) (b : ℕ) → AreAtMost g f → IsEntryExecutable t f b → IsEntryExecutable t g b
entered_lower t f g b below (reached, varies) = (below.is_executable b reached, λ v i. varies_still (f.lattice_value v) (g.lattice_value v) (below.lattice_value v) (varies v i))

-- facts that fall enter as much
pub are_entered_lower : {S : Type 0} (t : Tree) (f g : LatticeValues) (blocks : HashSet ℕ S) → AreAtMost g f → AreEntriesExecutable t f blocks → AreEntriesExecutable t g blocks
are_entered_lower t f g blocks below entered b i = entered_lower t f g b below (entered b i)

-- what no branch asks leaves the blocks as they are
pub entered_where : {S : Type 0} (constants : List AttrObj) (t : Tree) (f : LatticeValues) (constraints : List Constraint) (blocks : HashSet ℕ S) → AreEntriesExecutable t f blocks → AreEntriesExecutableWhere constants t f constraints blocks
entered_where constants t f constraints blocks entered now below m = are_entered_lower t f now blocks below entered

-- and so where more is asked
pub where_more : {S : Type 0} (constants : List AttrObj) (t : Tree) (f : LatticeValues) (P : LatticeValues → Type 0) (constraints constraints' : List Constraint) (blocks : HashSet ℕ S) → Adds constants constraints constraints' P → AreEntriesExecutableWhere constants t f constraints blocks → AreEntriesExecutableWhere constants t f constraints' blocks
where_more constants t f P constraints constraints' blocks adds entered now below m = entered now below ((adds now).0 m).0

-- all blocks that are reached have numbers
numbered_at : {A : Type 0} (test : A → Bool) (keys : List ℕ) (b : ℕ) (d : A) (table : List A) → test d ≡ false → test (table_at d table (position (nat_eq b) keys)) ≡ true → list_any (nat_eq b) keys ≡ true
numbered_at test keys b d table none so = by (position (nat_eq b) keys) refl
  where
    by : (o : Option ℕ) → position (nat_eq b) keys ≡ o → list_any (nat_eq b) keys ≡ true
    by None e = absurd (true≢false (sym (ap (λ z. test (table_at d table z)) (sym e) ∙ so) ∙ none))
    by (Some n) e = let p = position-Some (nat_eq b) keys n 0 e in list_any_at (nat_eq b) keys n 0 p.0 p.1

pub lowest_below : (s : Tables) → AreAtMost (lowest_lattice_values s) (lattice_values_of s)
lowest_below s = record {
  is_executable = λ b r. numbered_at is_marked_executable s.blocks.keys b NotExecutable s.marks.items refl r;
  lattice_value = λ v. inr (inl refl);
}

-- what is added for facts at or below some
module _ (constants : List AttrObj) (f : LatticeValues) where
  pub under : (P : LatticeValues → Type 0) (a b : List Constraint) → Adds constants a b P → AddsUnder f constants a b P
  under P a b p now below = p now

  pub under_as : (P R : LatticeValues → Type 0) (a b : List Constraint) → AddsUnder f constants a b P → ((now : LatticeValues) → P now ↔ R now) → AddsUnder f constants a b R
  under_as P R a b p same now below = (λ m. let z = (p now below).0 m in (z.0, (same now).0 z.1), λ m. (p now below).1 (m.0, (same now).1 m.1))

  module _ (xs : List ℕ) (Q : LatticeValues → ℕ → ℕ → Type 0) where
    pub under_start : (a : List Constraint) → AddsUnder f constants a a (λ now. EachBefore xs 0 (Q now))
    under_start a now below = (λ m. (m, λ j x lt at. absurd (omega (arith, lt))), λ m. m.0)

    pub under_next : (i x : ℕ) (a b c : List Constraint) → slice_get xs i ≡ Some x → AddsUnder f constants a b (λ now. EachBefore xs i (Q now)) → AddsUnder f constants b c (λ now. Q now i x) → AddsUnder f constants a c (λ now. EachBefore xs (i + 1) (Q now))
    under_next i x a b c at p q now below = (
      λ m. let y = (q now below).0 m in let z = (p now below).0 y.0 in (z.0, (more constants xs Q now i x at).0 (z.1, y.1)),
      λ m. let r = (more constants xs Q now i x at).1 m.1 in (q now below).1 ((p now below).1 (m.0, r.0), r.1),
    )

    pub under_end : (i : ℕ) (a b : List Constraint) → length xs ≤ i → AddsUnder f constants a b (λ now. EachBefore xs i (Q now)) → AddsUnder f constants a b (λ now. (j x : ℕ) → slice_get xs j ≡ Some x → Q now j x)
    under_end i a b all p = under_as (λ now. EachBefore xs i (Q now)) (λ now. (j x : ℕ) → slice_get xs j ≡ Some x → Q now j x) a b p
        (λ now. (λ m j x at. m j x (let l = past xs j x at in omega (arith, all, l)) at, λ m j x lt at. m j x at))

  -- one jump: it is asked, or the block is entered by what was asked before
  module _ {S : Type 0} (t : Tree) (block : ℕ) (blocks blocks' : HashSet ℕ S) (due : Bool) (notes : RecordsEntry block blocks blocks' due) (a : List Constraint) (entered : AreEntriesExecutableWhere constants t f a blocks) where
    noted : (b : List Constraint) → ((now : LatticeValues) → SatisfiesAll constants now b → SatisfiesAll constants now a) → ((now : LatticeValues) → AreAtMost now f → SatisfiesAll constants now b → IsEntryExecutable t now block) → AreEntriesExecutableWhere constants t f b blocks'
    noted b more here now below m c i = ⊎_elim
        (λ old. entered now below (more now m) c old)
        (λ e. subst (IsEntryExecutable t now) (sym e) (here now below m))
        (notes.1 c i)

    pub jump_due : (b : List Constraint) → Adds constants a b (λ now. IsEntryExecutable t now block) → AreEntriesExecutableWhere constants t f b blocks'
    jump_due b p = noted b (λ now m. ((p now).0 m).0) (λ now below m. ((p now).0 m).1)

    pub jump_skipped : due ≡ false → AddsUnder f constants a a (λ now. IsEntryExecutable t now block)
    jump_skipped skips now below = (λ m. (m, entered now below m block (notes.0 skips)), λ m. m.0)

    pub jump_kept : due ≡ false → AreEntriesExecutableWhere constants t f a blocks'
    jump_kept skips = noted a (λ now m. m) (λ now below m. entered now below m block (notes.0 skips))

-- where all that is asked is met
pub entered_now : {S : Type 0} (constants : List AttrObj) (t : Tree) (s u : Tables) (constraints : List Constraint) (blocks : HashSet ℕ S) → AreEntriesExecutableWhere constants t (lattice_values_of s) constraints blocks → IsApplied constants constraints s u → AreEntriesExecutable t (lattice_values_of u) blocks
entered_now constants t s u constraints blocks entered applied = entered (lattice_values_of u) applied.lowered.below applied.met

-- the facts of other tables are the same, or fell
pub entered_same : {S : Type 0} (t : Tree) (s u : Tables) (blocks : HashSet ℕ S) → ((v : ℕ) → lattice_value_in u v ≡ lattice_value_in s v) → ((b : ℕ) → is_executable u b ≡ is_executable s b) → AreEntriesExecutable t (lattice_values_of s) blocks → AreEntriesExecutable t (lattice_values_of u) blocks
entered_same t s u blocks facts reached entered = are_entered_lower t (lattice_values_of s) (lattice_values_of u) blocks (record { is_executable = λ b r. reached b ∙ r; lattice_value = λ v. inr (inr (facts v)) }) entered
