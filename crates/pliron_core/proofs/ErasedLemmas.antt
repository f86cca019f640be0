-- What erasing an operation asks, and what it leaves.
use Rattle.std.proofs.Common.{◌≡◌, ℕ, Bool, true, false, nat_eq, [], length, get_or, Option, Some, None, IsSome, refl, sym, ap, ◌∙◌, subst, slice_get, true≢false}
use Rattle.std.proofs.lemmas.Bool.{eq-eqb}
use Rattle.std.proofs.lemmas.List.{get_or-set_other}
use Rattle.pliron_core.specs.declared.context.Def.{Def}
use Rattle.pliron_core.specs.declared.context.Def.TheVariants.{Result, Argument}
use Rattle.pliron_core.specs.Tree.{Tree, In, IsLive, IsWithin, IsDefinedWithin, HoldsBlock, no_entry, up_from, operands_of, successors_of, parent_of, definition_of, block_parent_operation_of, parent_operation_of}
use Rattle.pliron_core.specs.Invariant.{IsJoined, IsTree}
use Rattle.pliron_core.specs.Writes.{taken_from, taken_out}
use Rattle.pliron_core.specs.Erased.{is_met_above, after_clearing, after_erasing, names_dropped, blank_at, IsSelfContained}
use Rattle.pliron_core.specs.Dismantling.{IsUnused}
use Rattle.pliron_core.proofs.ChainLemmas.{is_met_same}
use Rattle.pliron_core.proofs.BlankLemmas.{blanked_twice}
use Rattle.pliron_core.proofs.PlacedLemmas.{taken-parents}
use Rattle.pliron_core.proofs.WithinLemmas.{is_within, within_is}
use Rattle.pliron_core.proofs.ClearingLemmas.{op_gone}
use Rattle.pliron_core.proofs.DescentLemmas.{taken-operations, taken-operands, taken-successors}
use Rattle.pliron_core.proofs.DropLemmas.{dropped_gone, dropped_kept}

pub taken-slots : (t : Tree) (op : ℕ) (o : Option ℕ) → (taken_from t op o).slots ≡ t.slots
taken-slots t op None = refl
taken-slots t op (Some b) = refl

pub taken-definitions : (t : Tree) (op : ℕ) (o : Option ℕ) → (taken_from t op o).definitions ≡ t.definitions
taken-definitions t op None = refl
taken-definitions t op (Some b) = refl

pub taken-block_parent_operation : (t : Tree) (op : ℕ) (o : Option ℕ) (b : ℕ) → block_parent_operation_of (taken_from t op o) b ≡ block_parent_operation_of t b
taken-block_parent_operation t op None b = refl
taken-block_parent_operation t op (Some c) b = refl

-- the tests at op and below see no difference
pub taken-met : (t : Tree) (op : ℕ) (o x : Option ℕ) → is_met_above (taken_from t op o) (nat_eq op) x ≡ is_met_above t (nat_eq op) x
taken-met t op None x = refl
taken-met t op (Some b) x = is_met_same (parent_operation_of t) (parent_operation_of (taken_from t op (Some b))) (nat_eq op) (length t.operations) x same
  where
    same : (z : ℕ) → nat_eq op z ≡ false → parent_operation_of (taken_from t op (Some b)) z ≡ parent_operation_of t z
    same z e = ap (λ p. up_from p (λ c. block_parent_operation_of t c)) (get_or-set_other t.parents op z None None (λ s. true≢false (sym (eq-eqb op op refl) ∙ ap (nat_eq op) (sym s) ∙ e)))

-- a tree that clears what already names nothing
pub cleared_dropped : (t : Tree) (p : ℕ → Bool) → after_clearing (names_dropped t p) p ≡ after_clearing t p
cleared_dropped t p =
    ap (λ z. record (after_clearing t p) { operands = z; successors = blank_at (op_gone t p) [] (blank_at (op_gone t p) [] t.successors) }) (blanked_twice (op_gone t p) [] t.operands)
    ∙ ap (λ z. record (after_clearing t p) { successors = z }) (blanked_twice (op_gone t p) [] t.successors)

-- names that are left after a drop were there before, and none are left where the test holds
pub dropped-operand : (t : Tree) (p : ℕ → Bool) (x v : ℕ) → In v (operands_of (names_dropped t p) x) → (op_gone t p x ≡ false) × In v (operands_of t x)
dropped-operand t p x v i = go (op_gone t p x) refl
  where
    go : (g : Bool) → op_gone t p x ≡ g → (op_gone t p x ≡ false) × In v (operands_of t x)
    go true e = absurd (subst (In v) (dropped_gone t p x e).0 i)
    go false e = (e, subst (In v) (dropped_kept t p x e).0 i)

pub dropped-successor : (t : Tree) (p : ℕ → Bool) (x b : ℕ) → In b (successors_of (names_dropped t p) x) → (op_gone t p x ≡ false) × In b (successors_of t x)
dropped-successor t p x b i = go (op_gone t p x) refl
  where
    go : (g : Bool) → op_gone t p x ≡ g → (op_gone t p x ≡ false) × In b (successors_of t x)
    go true e = absurd (subst (In b) (dropped_gone t p x e).1 i)
    go false e = (e, subst (In b) (dropped_kept t p x e).1 i)

module _ (t : Tree) (op : ℕ) (w : IsTree t) (live : IsLive t op) (o : Option ℕ) (at : parent_of t op ≡ o) where
  abbrev free : Tree
  free = taken_from t op o

  abbrev bare : Tree
  bare = names_dropped (taken_from t op o) (nat_eq op)

  ready-live : IsLive (names_dropped (taken_from t op o) (nat_eq op)) op
  ready-live = subst (λ z. IsSome (get_or z op no_entry).head) (sym (taken-operations t op o)) live

  ready-free : parent_of (names_dropped (taken_from t op o) (nat_eq op)) op ≡ None
  ready-free = taken-parents t op o w.joined at

  -- what stood within op before, and what stands within it now
  now_gone : (k : ℕ) → op_gone (taken_from t op o) (nat_eq op) k ≡ op_gone t (nat_eq op) k
  now_gone k = taken-met t op o (Some k)

  module _ (is : IsJoined (names_dropped (taken_from t op o) (nat_eq op))) where
    was_gone : (k : ℕ) → IsWithin (names_dropped (taken_from t op o) (nat_eq op)) op k → op_gone (taken_from t op o) (nat_eq op) k ≡ true
    was_gone k i = is_within (names_dropped (taken_from t op o) (nat_eq op)) op k is ready-live i

    was_within : (k : ℕ) → IsWithin (names_dropped (taken_from t op o) (nat_eq op)) op k → IsWithin t op k
    was_within k i = within_is t op k (sym (now_gone k) ∙ was_gone k i)

    was_held : (b : ℕ) → HoldsBlock (names_dropped (taken_from t op o) (nat_eq op)) op b → HoldsBlock t op b
    was_held b h = (h.0, sym (taken-block_parent_operation t op o b) ∙ h.1, was_within h.0 h.2)

    was_made : (d : Option Def) → IsDefinedWithin (names_dropped (taken_from t op o) (nat_eq op)) op d → IsDefinedWithin t op d
    was_made None m = m
    was_made (Some (Result k i)) m = was_within k m
    was_made (Some (Argument b i)) m = was_held b m

    outside : (x : ℕ) → op_gone (taken_from t op o) (nat_eq op) x ≡ false → IsWithin t op x → ⊥
    outside x e i = true≢false (sym (is_within t op x w.joined live i) ∙ sym (now_gone x) ∙ e)

    ready-unused : IsSelfContained t op → IsUnused (names_dropped (taken_from t op o) (nat_eq op)) op
    ready-unused c = record {
      bare = λ k i. dropped_gone (taken_from t op o) (nat_eq op) k (was_gone k i);
      values = λ x v i m.
          let s = dropped-operand (taken_from t op o) (nat_eq op) x v i in
          outside x s.0 (c.values x v (subst (λ z. In v (get_or z x [])) (taken-operands t op o) s.1) (was_made (definition_of t v) (subst (λ z. IsDefinedWithin (names_dropped (taken_from t op o) (nat_eq op)) op (slice_get z v)) (taken-definitions t op o) m)));
      blocks = λ x b i h.
          let s = dropped-successor (taken_from t op o) (nat_eq op) x b i in
          outside x s.0 (c.blocks x b (subst (λ z. In b (get_or z x [])) (taken-successors t op o) s.1) (was_held b h));
    }

-- what the taking apart asks
pub erase_live : (t : Tree) (op : ℕ) (v : Tree) → IsTree t → IsLive t op → v ≡ names_dropped (taken_out t op) (nat_eq op) → IsLive v op
erase_live t op v w live e = subst (λ z. IsLive z op) (sym e) (ready-live t op w live (parent_of t op) refl)

pub erase_free : (t : Tree) (op : ℕ) (v : Tree) → IsTree t → IsLive t op → v ≡ names_dropped (taken_out t op) (nat_eq op) → parent_of v op ≡ None
erase_free t op v w live e = ap (λ z. parent_of z op) e ∙ ready-free t op w live (parent_of t op) refl

pub erase_unused : (t : Tree) (op : ℕ) (v : Tree) → IsTree t → IsLive t op → IsSelfContained t op → IsTree v → v ≡ names_dropped (taken_out t op) (nat_eq op) → IsUnused v op
erase_unused t op v w live c is e = subst (λ z. IsUnused z op) (sym e) (ready-unused t op w live (parent_of t op) refl (subst IsJoined e is.joined) c)

pub erase_done : (t : Tree) (op : ℕ) (v : Tree) → v ≡ names_dropped (taken_out t op) (nat_eq op) → after_clearing v (nat_eq op) ≡ after_erasing t op
erase_done t op v e = ap (λ z. after_clearing z (nat_eq op)) e ∙ cleared_dropped (taken_out t op) (nat_eq op)

pub taken-live : (t : Tree) (op : ℕ) → IsLive t op → IsLive (taken_out t op) op
taken-live t op live = subst (λ z. IsSome (get_or z op no_entry).head) (sym (taken-operations t op (parent_of t op))) live
