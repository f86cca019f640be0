-- Each whole rewrite leaves fewer things.
use Rattle.std.proofs.Common.{◌≡◌, ◌≢◌, ◌⊎◌, inl, inr, ℕ, ◌<◌, ◌≤◌, Bool, true, false, nat_eq, [], length, Option, Some, None, slice_get, slice_index_or, remove, refl, sym, ap, ◌∙◌, subst, arith}
use Rattle.std.proofs.lemmas.Bool.{cases_eq}
use Rattle.std.proofs.lemmas.List.{get_or-set_other, get_or-set_same, get_or_past, length-set}
use Rattle.std.proofs.lemmas.List.Edits.{length-remove}
use Rattle.std.proofs.lemmas.Option.{slice_get_within}
use Rattle.pliron_core.specs.Tree.{Tree, IsLive, arguments_of, parent_of}
use Rattle.pliron_core.specs.Invariant.{IsTree}
use Rattle.pliron_core.specs.Writes.{taken_from, argument_removed}
use Rattle.pliron_core.specs.Erased.{after_erasing, after_clearing, IsSelfContained}
use Rattle.pliron_core.proofs.BlankLemmas.{length-blanked}
use Rattle.pliron_core.proofs.TreeLemmas.{cases_lt}
use Rattle.pliron_core.proofs.HoldingLemmas.{some_of}
use Rattle.pliron_core.proofs.WithinLemmas.{is_within}
use Rattle.pliron_core.specs.Tree.{head_of}
use Rattle.pliron_theory.proofs.ErasedKeeps.{block_erased_with, erased_swept, erased_gone, as_many}
use Rattle.pliron_opt_dce.specs.Measures.{things}
use Rattle.pliron_opt_dce.proofs.MeasureLemmas.{fewer_things}

arguments_as_many : (t : Tree) (op : ℕ) (o : Option ℕ) → length (after_clearing (taken_from t op o) (nat_eq op)).arguments ≡ length t.arguments
arguments_as_many t op None = length-blanked _ [] t.arguments
arguments_as_many t op (Some b) = length-blanked _ [] t.arguments

pub erased_less : (t : Tree) (op : ℕ) → IsTree t → IsTree (after_erasing t op) → (live : IsLive t op) → IsSelfContained t op → ((k : ℕ) → IsLive (after_erasing t op) k → IsLive t k) → things (after_erasing t op) < things t
erased_less t op w w' live contained before = fewer_things t (after_erasing t op) (as_many t op w live contained (parent_of t op) refl) (arguments_as_many t op (parent_of t op)) before most (inl (op, live, deleted))
  where
    most : (b : ℕ) → length (arguments_of (after_erasing t op) b) ≤ length (arguments_of t b)
    most b = go (block_erased_with t op b) refl
      where
        go : (x : Bool) → block_erased_with t op b ≡ x → length (arguments_of (after_erasing t op) b) ≤ length (arguments_of t b)
        go true d = let e = ap length (w'.joined.unplaced b ((erased_gone t op w live contained).blocks b d)).0 in omega (arith, e)
        go false l = let e = ap length ((erased_swept t op w live contained).arguments b l) in omega (arith, e)

    deleted : IsLive (after_erasing t op) op → ⊥
    deleted l =
        let y = some_of (head_of (after_erasing t op) op) l in
        let f : None ≡ Some y.0 = sym ((erased_gone t op w live contained).operations op (is_within t op op w.joined live (inl refl))) ∙ y.1 in
        absurd (cc)

pub removed_less : (t u : Tree) (block index v : ℕ) → length u.operations ≡ length t.operations → u.arguments ≡ t.arguments → slice_get (arguments_of t block) index ≡ Some v → ((k : ℕ) → IsLive (argument_removed u block index) k → IsLive t k) → things (argument_removed u block index) < things t
removed_less t u block index v eo ea at before = fewer_things t (argument_removed u block index) eo (length-set u.arguments block (remove (arguments_of u block) index) ∙ ap length ea) before most (inr (block, strict))
  where
    same : arguments_of u block ≡ arguments_of t block
    same = ap (λ z. slice_index_or z block []) ea

    has_block : block < length u.arguments
    has_block = go (cases_lt block (length u.arguments))
      where
        go : (block < length u.arguments) ⊎ (length u.arguments ≤ block) → block < length u.arguments
        go (inl lt) = lt
        go (inr le) = absurd (nothing (ap (λ z. slice_get z index) (sym (get_or_past u.arguments block [] le) ∙ same) ∙ at))
          where
            nothing : slice_get {X = ℕ} [] index ≡ Some v → ⊥
            nothing e = grind arith

    here : arguments_of (argument_removed u block index) block ≡ remove (arguments_of t block) index
    here = get_or-set_same u.arguments block (remove (arguments_of u block) index) [] has_block ∙ ap (λ z. remove z index) same

    strict : length (arguments_of (argument_removed u block index) block) < length (arguments_of t block)
    strict = let e = ap length here in let l = length-remove (arguments_of t block) index (slice_get_within (arguments_of t block) index v at) in omega (arith, e, l)

    most : (b : ℕ) → length (arguments_of (argument_removed u block index) b) ≤ length (arguments_of t b)
    most b = go (cases_eq b block)
      where
        go : (b ≡ block) ⊎ (b ≢ block) → length (arguments_of (argument_removed u block index) b) ≤ length (arguments_of t b)
        go (inl q) = subst (λ z. length (arguments_of (argument_removed u block index) z) ≤ length (arguments_of t z)) (sym q) (let s = strict in omega (arith, s))
        go (inr ne) = let e : length (arguments_of (argument_removed u block index) b) ≡ length (arguments_of t b) = ap length (get_or-set_other u.arguments block b (remove (arguments_of u block) index) [] ne ∙ ap (λ z. slice_index_or z b []) ea) in omega (arith, e)
