-- What stays where the uses of a result go to another value.
use Rattle.std.proofs.Common.{◌≡◌, ◌≢◌, ◌⊎◌, ℕ, Bool, List, [], ◌∷◌, map, Option, Some, None, inl, inr, ⊎_elim, slice_get, if◌then◌else◌, refl, sym, ap, ◌∙◌, subst, arith}
use Rattle.std.proofs.lemmas.Bool.Decides.{eqb_tells}
use Rattle.pliron_core.specs.declared.context.Def.{Def}
use Rattle.pliron_core.specs.declared.context.Def.TheVariants.{Result, Argument}
use Rattle.pliron_core.specs.Changes.{IsDefiningOperationInside}
use Rattle.pliron_core.specs.Tree.{Tree, In, IsInside, IsDefined, IsMadeBy, operands_of, results_of, definition_of}
use Rattle.pliron_core.specs.Invariant.{IsTree}
use Rattle.pliron_core.specs.Uses.{replace_target}
use Rattle.pliron_core.specs.Writes.{after_replacing}
use Rattle.pliron_core.proofs.UsedLemmas.{in_map, get_map, length_map, kept_replace}
use Rattle.pliron_laws.specs.Datum.{Head}
use Rattle.pliron_laws.specs.Paths.{Path}
use Rattle.pliron_laws.specs.Root.{HasPassed}
use Rattle.pliron_theory.proofs.KeptPlaces.{KeepsPlaces, inside_forth, inside_back, within_forth, within_back, same_block_holder}
use Rattle.pliron_rewrite_equals.specs.OperationDominance.{DominatesOperation}
use Rattle.pliron_rewrite_equals.specs.Redundancy.{IsOpen, IsLeader}

-- nothing uses the value
abbrev pub IsUnused : Tree → ℕ → Type 0
IsUnused t v = (k : ℕ) → In v (operands_of t k) → ⊥

In-mapped : (f : ℕ → ℕ) (xs : List ℕ) (x : ℕ) → In x xs → In (f x) (map f xs)
In-mapped f [] x i = absurd i
In-mapped f (y ∷ xs) x (inl e) = inl (ap f e)
In-mapped f (y ∷ xs) x (inr i) = inr (In-mapped f xs x i)

none_mapped : (f : ℕ → ℕ) (xs : List ℕ) → map f xs ≡ [] → xs ≡ []
none_mapped f [] e = refl
none_mapped f (x ∷ xs) e = grind arith

-- a value is replaced, or stays
pub target_cases : (old new x : ℕ) → ((x ≡ old) × (replace_target old new x ≡ new)) ⊎ ((x ≢ old) × (replace_target old new x ≡ x))
target_cases old new x = ⊎_elim (λ y. inl (y.1, ap (λ b. if b then new else x) y.0)) (λ n. inr (n.1, ap (λ b. if b then new else x) n.0)) (eqb_tells x old)

module _ (t : Tree) (old new : ℕ) where
  pub operands_replaced : (k : ℕ) → operands_of (after_replacing t old new) k ≡ map (replace_target old new) (operands_of t k)
  operands_replaced k = get_map (map (replace_target old new)) refl t.operands k

  pub tree_kept : IsTree t → IsDefined t new → IsTree (after_replacing t old new)
  tree_kept w d = record {
    keys = record { operands = length_map (map (replace_target old new)) t.operands ∙ w.keys.operands; successors = w.keys.successors; parents = w.keys.parents; arguments = w.keys.arguments; block_parents = w.keys.block_parents; slots = w.keys.slots };
    joined = kept_replace t old new w.joined d;
    bodies = w.bodies;
    layouts = w.layouts;
  }

  pub places_kept : KeepsPlaces t (after_replacing t old new)
  places_kept = record { parents = λ x. refl; block_parents = λ b. refl; slots = λ r. refl }

  path_back : (a b : ℕ) (before : List ℕ) → Path (after_replacing t old new) a b before → Path t a b before
  path_back a b [] p = p
  path_back a b (c ∷ before) p = (record { successor = p.0.successor; same_region = p.0.same_region }, path_back a c before p.1)

  passed_forth : (d : Option Def) (before : List ℕ) (b : ℕ) (done : List ℕ) → HasPassed t d before b done → HasPassed (after_replacing t old new) d before b done
  passed_forth None before b done p = p
  passed_forth (Some (Argument c j)) before b done p = p
  passed_forth (Some (Result k j)) before b done p = p

  pub stands_kept : (a b : ℕ) → DominatesOperation t a b → DominatesOperation (after_replacing t old new) a b
  stands_kept a b p = record {
    around = p.around;
    holds = within_forth places_kept p.around b p.holds;
    home = p.home;
    in_home = p.in_home;
    block = p.block;
    in_block = p.in_block;
    region = p.region;
    home_region = p.home_region;
    in_region = p.in_region;
    passes = λ entry before done rest fe path split. passed_forth (Some (Result a 0)) before p.block done (p.passes entry before done rest fe (path_back entry p.block before path) split);
  }

  made_back : (root : ℕ) (d : Option Def) → IsDefiningOperationInside (after_replacing t old new) root d → IsDefiningOperationInside t root d
  made_back root None i = i
  made_back root (Some (Result k j)) i = inside_back places_kept root k i
  made_back root (Some (Argument b j)) i = (i.0, sym (same_block_holder places_kept b) ∙ i.1, within_back places_kept root i.0 i.2)

  -- the replaced value is used no more, and no other value gets uses but the new one
  pub old_unused : old ≢ new → IsUnused (after_replacing t old new) old
  old_unused ne k i =
      let x = in_map (replace_target old new) (operands_of t k) old (subst (In old) (operands_replaced k) i) in
      ⊎_elim (λ y. ne (x.2 ∙ y.1)) (λ y. y.0 (sym (x.2 ∙ y.1))) (target_cases old new x.0)

  pub still_unused : (v : ℕ) → v ≢ new → IsUnused t v → IsUnused (after_replacing t old new) v
  still_unused v ne none k i =
      let x = in_map (replace_target old new) (operands_of t k) v (subst (In v) (operands_replaced k) i) in
      ⊎_elim (λ y. ne (x.2 ∙ y.1)) (λ y. none k (subst (λ z. In z (operands_of t k)) (sym (x.2 ∙ y.1)) x.1)) (target_cases old new x.0)

  module _ (side_effects : Head → Option Bool) (a b i : ℕ) (w : IsTree t) (at_b : slice_get (results_of t b) i ≡ Some old) (at_a : slice_get (results_of t a) i ≡ Some new) where
    made_a : definition_of t new ≡ Some (Result a i)
    made_a = w.joined.results a i new at_a

    pub new_defined : IsDefined t new
    new_defined = subst (IsMadeBy t new) (sym made_a) at_a

    pub leader_kept : IsLeader side_effects t a b → IsLeader side_effects (after_replacing t old new) a b
    leader_kept leads = record {
      apart = leads.apart;
      alike = record {
        head = leads.alike.head;
        operands = operands_replaced b ∙ ap (map (replace_target old new)) leads.alike.operands ∙ sym (operands_replaced a);
        results = leads.alike.results;
        no_successors = leads.alike.no_successors;
        none_of_first = leads.alike.none_of_first;
        no_regions = leads.alike.no_regions;
        no_region_of_first = leads.alike.no_region_of_first;
        harmless = leads.alike.harmless;
      };
      before = stands_kept a b leads.before;
      near = λ e h ib na.
          let z = leads.near (none_mapped (replace_target old new) (operands_of t b) (sym (operands_replaced b) ∙ e)) h (inside_back places_kept h b ib) (λ ia. na (inside_forth places_kept h a ia)) in
          opened h na z;
    }
      where
        opened : (h : ℕ) → (IsInside (after_replacing t old new) h a → ⊥) → IsOpen t h → IsOpen (after_replacing t old new) h
        opened h na z = (
          z.0,
          replace_target old new z.1,
          inside_forth places_kept h z.0 z.2,
          subst (In (replace_target old new z.1)) (sym (operands_replaced z.0)) (In-mapped (replace_target old new) (operands_of t z.0) z.1 z.3),
          λ made. ⊎_elim
              (λ y. na (subst (IsDefiningOperationInside (after_replacing t old new) h) (ap (definition_of t) y.1 ∙ made_a) made))
              (λ y. z.4 (made_back h (definition_of t z.1) (subst (λ v. IsDefiningOperationInside (after_replacing t old new) h (definition_of t v)) y.1 made)))
              (target_cases old new z.1),
        )
