-- Where no branch to a block uses a value that is replaced, its arguments are one value as before.
use Rattle.std.proofs.Common.{◌≡◌, inl, inr, ⊎_elim, ℕ, List, [], ◌∷◌, map, Option, Some, None, if◌then◌else◌, slice_get, refl, sym, ap, ap₂, ◌∙◌}
use Rattle.std.proofs.lemmas.Bool.Decides.{eqb_tells}
use Rattle.pliron_core.specs.Tree.{Tree, In, head_of, operands_of, successors_of, results_of, regions_of, parent_of}
use Rattle.pliron_core.specs.Uses.{replace_target}
use Rattle.pliron_core.specs.Writes.{after_replacing}
use Rattle.pliron_core.proofs.HoldingLemmas.{in_slice}
use Rattle.pliron_core.proofs.UsedLemmas.{get_map}
use Rattle.pliron_laws.specs.Datum.{Head, Meaning}
use Rattle.pliron_laws.specs.Tree.{Operation, op_with, op_at, block_at, region_at, shape_of}
use Rattle.pliron_laws.specs.Acting.{pick}
use Rattle.pliron_laws.specs.Answers.{IsForwardedAt}
use Rattle.pliron_rewrite_arguments.specs.OneValue.{IsOneValue}
use Rattle.pliron_rewrite_arguments.specs.ArgumentLaws.{OneValueStays}

kept_list : (old new : ℕ) (xs : List ℕ) → (In old xs → ⊥) → map (replace_target old new) xs ≡ xs
kept_list old new [] out = refl
kept_list old new (x ∷ xs) out = ap₂ (λ y ys. y ∷ ys) (⊎_elim (λ y. absurd (out (inl (sym y.1)))) (λ n. ap (λ b. if b then new else x) n.0) (eqb_tells x old)) (kept_list old new xs (λ i. out (inr i)))

module _ (m : Meaning) (t : Tree) (old new : ℕ) where
  abbrev u : Tree
  u = after_replacing t old new

  same_operands : (k : ℕ) → (In old (operands_of t k) → ⊥) → operands_of u k ≡ operands_of t k
  same_operands k out = get_map (map (replace_target old new)) refl t.operands k ∙ kept_list old new (operands_of t k) out

  same_operation : (k : ℕ) → (In old (operands_of t k) → ⊥) → op_at u k ≡ op_at t k
  unfolding op_at
  same_operation k out = go (head_of t k)
    where
      go : (o : Option Head) → op_with u k o ≡ op_with t k o
      go None = refl
      go (Some h) = ap (λ xs. Some (record { head = h; operands = xs; results = results_of t k; successors = successors_of t k; regions = regions_of t k; parent = parent_of t k })) (same_operands k out)

  same_shape : (o : Operation) → shape_of m u o ≡ shape_of m t o
  unfolding shape_of block_at region_at
  same_shape o = refl

  forwarded_forth : (k e index : ℕ) (x : Option ℕ) → (In old (operands_of t k) → ⊥) → IsForwardedAt m t k e index x → IsForwardedAt m u k e index x
  forwarded_forth k e index x out f o at = f o (sym (same_operation k out) ∙ at) ∙ ap (λ z. slice_get (pick (m.forwarded z e) o.operands) index) (sym (same_shape o))

  forwarded_back : (k e index : ℕ) (x : Option ℕ) → (In old (operands_of t k) → ⊥) → IsForwardedAt m u k e index x → IsForwardedAt m t k e index x
  forwarded_back k e index x out f o at = f o (same_operation k out ∙ at) ∙ ap (λ z. slice_get (pick (m.forwarded z e) o.operands) index) (same_shape o)

  module _ (block index v : ℕ) (out : (k : ℕ) → In block (successors_of t k) → In old (operands_of t k) → ⊥) where
    apart_at : (k e : ℕ) → slice_get (successors_of t k) e ≡ Some block → In old (operands_of t k) → ⊥
    apart_at k e at = out k (in_slice (successors_of t k) e block at)

    stays_forth : IsOneValue m t block index v → IsOneValue m u block index v
    stays_forth h = record {
      argument = h.argument;
      apart = h.apart;
      there = h.there;
      no_entry = h.no_entry;
      branches = h.branches;
      edges = λ k e at. ⊎_elim
          (λ f. inl (forwarded_forth k e index (Some v) (apart_at k e at) f))
          (λ f. inr (forwarded_forth k e index (Some h.argument) (apart_at k e at) f))
          (h.edges k e at);
      some_edge = record {
        branch = h.some_edge.branch;
        edge = h.some_edge.edge;
        leads = h.some_edge.leads;
        forwards = forwarded_forth h.some_edge.branch h.some_edge.edge index (Some v) (apart_at h.some_edge.branch h.some_edge.edge h.some_edge.leads) h.some_edge.forwards;
      };
    }

    stays_back : IsOneValue m u block index v → IsOneValue m t block index v
    stays_back h = record {
      argument = h.argument;
      apart = h.apart;
      there = h.there;
      no_entry = h.no_entry;
      branches = h.branches;
      edges = λ k e at. ⊎_elim
          (λ f. inl (forwarded_back k e index (Some v) (apart_at k e at) f))
          (λ f. inr (forwarded_back k e index (Some h.argument) (apart_at k e at) f))
          (h.edges k e at);
      some_edge = record {
        branch = h.some_edge.branch;
        edge = h.some_edge.edge;
        leads = h.some_edge.leads;
        forwards = forwarded_back h.some_edge.branch h.some_edge.edge index (Some v) (apart_at h.some_edge.branch h.some_edge.edge h.some_edge.leads) h.some_edge.forwards;
      };
    }

pub one_value_stays : OneValueStays
one_value_stays m t old new block index v out = (stays_forth m t old new block index v out, stays_back m t old new block index v out)
