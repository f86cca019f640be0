-- A context's invariant after each change of its tables.
use Rattle.std.proofs.Common.{◌≡◌, ℕ, zero, suc, ◌+◌, List, [], ◌∷◌, ◌++◌, length, map, Option, Some, None, IsSome, refl, sym, ap, ◌∙◌, subst, arith, slice_get, slice_set, replicate, length-append, drop, remove}
use Rattle.std.proofs.lemmas.List.{length-set}
use Rattle.std.specs.List.{insert, range_with_len}
use Rattle.pliron_core.specs.Uses.{replace_target}
use Rattle.pliron_core.specs.declared.uses.Use.{Use}
use Rattle.pliron_core.specs.declared.attrs.Head.{Head}
use Rattle.pliron_core.specs.declared.context.Def.{Def}
use Rattle.pliron_core.specs.declared.context.Def.TheVariants.{Argument}
use Rattle.pliron_core.specs.declared.context.OperationEntry.{OperationEntry}
use Rattle.pliron_core.specs.Tree.{Tree, View, In, IsLive, IsBlock, IsDefined, IsRegion, HoldsBlock, parent_of, operands_of, successors_of, arguments_of, results_of, regions_of, layout_of}
use Rattle.pliron_core.specs.Invariant.{HaveSameKeys, IsJoined, IsWellFormed}
use Rattle.pliron_core.specs.Lists.{AreOwned}
use Rattle.pliron_core.specs.Writes.{taken_from, after_creating, block_created, argument_pushed, argument_removed, region_slots, result_definitions, argument_definitions}
use Rattle.pliron_core.proofs.GrownLemmas.{set_last}
use Rattle.pliron_core.proofs.UsedLemmas.{kept_push, kept_push_successor, kept_insert, kept_remove, kept_replace, length_map}
use Rattle.pliron_core.proofs.PlacedLemmas.{kept_put, kept_taken}
use Rattle.pliron_core.proofs.CreatedLemmas.{kept_created, kept_block_created}
use Rattle.pliron_core.proofs.ArgumentLemmas.{kept_argument_pushed, kept_argument_removed, kept_entry, length_numbered}

length_last : {A : Type 0} (xs : List A) (x : A) → length (xs ++ x ∷ []) ≡ suc (length xs)
length_last [] x = refl
length_last (y ∷ ys) x = ap suc (length_last ys x)

-- only the operands change
well_operands : (v : View) (operands new : List (List ℕ)) (uses : List (List Use)) → IsWellFormed v → IsJoined (record v.tree { operands = new }) → length new ≡ length v.tree.operands → operands ≡ new → length uses ≡ length v.value_uses → IsWellFormed (record v { tree = record v.tree { operands = operands }; value_uses = uses })
well_operands v operands new uses w joined same e n = subst (λ o. IsWellFormed (record v { tree = record v.tree { operands = o }; value_uses = uses })) (sym e) (record {
  keys = record { operands = same ∙ w.keys.operands; successors = w.keys.successors; parents = w.keys.parents; arguments = w.keys.arguments; block_parents = w.keys.block_parents; slots = w.keys.slots };
  joined = joined;
  value_uses = n ∙ w.value_uses;
  block_uses = w.block_uses;
})

-- only the successors change
well_successors : (v : View) (successors new : List (List ℕ)) (uses : List (List Use)) → IsWellFormed v → IsJoined (record v.tree { successors = new }) → length new ≡ length v.tree.successors → successors ≡ new → length uses ≡ length v.block_uses → IsWellFormed (record v { tree = record v.tree { successors = successors }; block_uses = uses })
well_successors v successors new uses w joined same e n = subst (λ o. IsWellFormed (record v { tree = record v.tree { successors = o }; block_uses = uses })) (sym e) (record {
  keys = record { operands = w.keys.operands; successors = same ∙ w.keys.successors; parents = w.keys.parents; arguments = w.keys.arguments; block_parents = w.keys.block_parents; slots = w.keys.slots };
  joined = joined;
  value_uses = w.value_uses;
  block_uses = n ∙ w.block_uses;
})

pub well_push : (v : View) (op value : ℕ) (operands : List (List ℕ)) (uses : List (List Use)) → IsWellFormed v → IsLive v.tree op → IsDefined v.tree value → operands ≡ slice_set v.tree.operands op (operands_of v.tree op ++ value ∷ []) → length uses ≡ length v.value_uses → IsWellFormed (record v { tree = record v.tree { operands = operands }; value_uses = uses })
well_push v op value operands uses w live d = well_operands v operands _ uses w (kept_push v.tree op value w.joined live d) (length-set _ _ _)

pub well_push_successor : (v : View) (op block : ℕ) (successors : List (List ℕ)) (uses : List (List Use)) → IsWellFormed v → IsLive v.tree op → IsBlock v.tree block → successors ≡ slice_set v.tree.successors op (successors_of v.tree op ++ block ∷ []) → length uses ≡ length v.block_uses → IsWellFormed (record v { tree = record v.tree { successors = successors }; block_uses = uses })
well_push_successor v op block successors uses w live is = well_successors v successors _ uses w (kept_push_successor v.tree op block w.joined live is) (length-set _ _ _)

pub well_insert : (v : View) (op i value : ℕ) (operands : List (List ℕ)) (uses : List (List Use)) → IsWellFormed v → IsLive v.tree op → IsDefined v.tree value → operands ≡ slice_set v.tree.operands op (insert (operands_of v.tree op) i value) → length uses ≡ length v.value_uses → IsWellFormed (record v { tree = record v.tree { operands = operands }; value_uses = uses })
well_insert v op i value operands uses w live d = well_operands v operands _ uses w (kept_insert v.tree op i value w.joined live d) (length-set _ _ _)

pub well_remove : (v : View) (op i : ℕ) (operands : List (List ℕ)) (uses : List (List Use)) → IsWellFormed v → IsLive v.tree op → operands ≡ slice_set v.tree.operands op (remove (operands_of v.tree op) i) → length uses ≡ length v.value_uses → IsWellFormed (record v { tree = record v.tree { operands = operands }; value_uses = uses })
well_remove v op i operands uses w live = well_operands v operands _ uses w (kept_remove v.tree op i w.joined live) (length-set _ _ _)

pub well_replace : (v : View) (old new : ℕ) (operands : List (List ℕ)) (uses : List (List Use)) → IsWellFormed v → IsDefined v.tree new → operands ≡ map (map (replace_target old new)) v.tree.operands → length uses ≡ length v.value_uses → IsWellFormed (record v { tree = record v.tree { operands = operands }; value_uses = uses })
well_replace v old new operands uses w d = well_operands v operands _ uses w (kept_replace v.tree old new w.joined d) (length_map (map (replace_target old new)) v.tree.operands)

pub well_put : (v : View) (op block : ℕ) (body : List ℕ) (bodies : List (List ℕ)) (parents : List (Option ℕ)) → IsWellFormed v → IsLive v.tree op → IsBlock v.tree block → parent_of v.tree op ≡ None → (HoldsBlock v.tree op block → ⊥) → bodies ≡ slice_set v.tree.bodies block body → parents ≡ slice_set v.tree.parents op (Some block) → IsWellFormed (record v { tree = record v.tree { bodies = bodies; parents = parents } })
well_put v op block body bodies parents w live is free outside e f = subst (λ b. IsWellFormed (record v { tree = record v.tree { bodies = b; parents = parents } })) (sym e) (subst (λ p. IsWellFormed (record v { tree = record v.tree { bodies = slice_set v.tree.bodies block body; parents = p } })) (sym f) (record {
  keys = record { operands = w.keys.operands; successors = w.keys.successors; parents = length-set _ _ _ ∙ w.keys.parents; arguments = w.keys.arguments ∙ sym (length-set _ _ _); block_parents = w.keys.block_parents ∙ sym (length-set _ _ _); slots = w.keys.slots };
  joined = kept_put v.tree op block body w.keys w.joined live is free outside;
  value_uses = w.value_uses;
  block_uses = w.block_uses ∙ sym (length-set _ _ _);
}))

pub well_taken : (v : View) (op d : ℕ) (bodies : List (List ℕ)) (parents : List (Option ℕ)) → IsWellFormed v → parent_of v.tree op ≡ Some d → bodies ≡ (taken_from v.tree op (Some d)).bodies → parents ≡ slice_set v.tree.parents op None → IsWellFormed (record v { tree = record v.tree { bodies = bodies; parents = parents } })
well_taken v op d bodies parents w at e f = subst (λ b. IsWellFormed (record v { tree = record v.tree { bodies = b; parents = parents } })) (sym e) (subst (λ p. IsWellFormed (record v { tree = record v.tree { bodies = (taken_from v.tree op (Some d)).bodies; parents = p } })) (sym f) (record {
  keys = record { operands = w.keys.operands; successors = w.keys.successors; parents = length-set _ _ _ ∙ w.keys.parents; arguments = w.keys.arguments ∙ sym (length-set _ _ _); block_parents = w.keys.block_parents ∙ sym (length-set _ _ _); slots = w.keys.slots };
  joined = kept_taken v.tree op (Some d) w.joined at;
  value_uses = w.value_uses;
  block_uses = w.block_uses ∙ sym (length-set _ _ _);
}))

length_replicate : {A : Type 0} (n : ℕ) (x : A) → length (replicate n x) ≡ n
length_replicate zero x = refl
length_replicate (suc n) x = ap suc (length_replicate n x)

length_range : {A : Type 0} (f : ℕ → A) (first n : ℕ) → length (map f (range_with_len first n)) ≡ n
length_range f first zero = refl
length_range f first (suc n) = ap suc (length_range f (first + 1) n)

pub well_created : (v : View) (h : Head) (results regions : ℕ) (uses : List (List Use)) → IsWellFormed v → length uses ≡ length v.value_uses + results → IsWellFormed (record v { tree = after_creating v.tree h results regions; value_uses = uses })
well_created v h results regions uses w n = record {
  keys = record {
    operands = length_last _ _ ∙ ap suc w.keys.operands ∙ sym (length_last _ _);
    successors = length_last _ _ ∙ ap suc w.keys.successors ∙ sym (length_last _ _);
    parents = length_last _ _ ∙ ap suc w.keys.parents ∙ sym (length_last _ _);
    arguments = w.keys.arguments;
    block_parents = w.keys.block_parents;
    slots = let a = length-append v.tree.slots (region_slots (length v.tree.operations) regions) in let b = length-append v.tree.layouts (replicate regions []) in let c : length (region_slots (length v.tree.operations) regions) ≡ regions = length_range _ 0 regions in let d : length (replicate regions []) ≡ regions = length_replicate {A = List ℕ} regions [] in omega (arith, a, b, c, d, w.keys.slots);
  };
  joined = kept_created v.tree h results regions w.joined;
  value_uses = let a = length-append v.tree.definitions (result_definitions (length v.tree.operations) results) in let c : length (result_definitions (length v.tree.operations) results) ≡ results = length_range _ 0 results in omega (arith, a, c, n, w.value_uses);
  block_uses = w.block_uses;
}

pub well_block_created : (v : View) (region count : ℕ) (uses blocks : List (List Use)) → IsWellFormed v → AreOwned v.tree.block_parents v.tree.layouts → IsRegion v.tree region → length uses ≡ length v.value_uses + count → length blocks ≡ length v.block_uses + 1 → IsWellFormed (record { tree = block_created v.tree region count; value_uses = uses; block_uses = blocks })
well_block_created v region count uses blocks w owned is n m = record {
  keys = record {
    operands = w.keys.operands;
    successors = w.keys.successors;
    parents = w.keys.parents;
    arguments = length_last _ _ ∙ ap suc w.keys.arguments ∙ sym (length_last _ _);
    block_parents = length_last _ _ ∙ ap suc w.keys.block_parents ∙ sym (length_last _ _);
    slots = w.keys.slots ∙ sym (length-set _ _ _);
  };
  joined = kept_block_created v.tree region count w.keys w.joined owned is;
  value_uses = let a = length-append v.tree.definitions (argument_definitions (length v.tree.bodies) count) in let c : length (argument_definitions (length v.tree.bodies) count) ≡ count = length_range _ 0 count in omega (arith, a, c, n, w.value_uses);
  block_uses = let a = length_last v.tree.bodies [] in omega (arith, a, m, w.block_uses);
}

pub well_entry : (v : View) (op : ℕ) (entry : OperationEntry) → IsWellFormed v → IsLive v.tree op → IsSome entry.head → entry.results ≡ results_of v.tree op → entry.regions ≡ regions_of v.tree op → IsWellFormed (record v { tree = record v.tree { operations = slice_set v.tree.operations op entry } })
well_entry v op entry w live headed results regions = record {
  keys = record { operands = w.keys.operands ∙ sym (length-set _ _ _); successors = w.keys.successors ∙ sym (length-set _ _ _); parents = w.keys.parents ∙ sym (length-set _ _ _); arguments = w.keys.arguments; block_parents = w.keys.block_parents; slots = w.keys.slots };
  joined = kept_entry v.tree op entry w.joined live headed results regions;
  value_uses = w.value_uses;
  block_uses = w.block_uses;
}

pub well_argument_pushed : (v : View) (block : ℕ) (uses : List (List Use)) → IsWellFormed v → IsBlock v.tree block → length uses ≡ length v.value_uses + 1 → IsWellFormed (record v { tree = argument_pushed v.tree block; value_uses = uses })
well_argument_pushed v block uses w is n = record {
  keys = record { operands = w.keys.operands; successors = w.keys.successors; parents = w.keys.parents; arguments = length-set _ _ _ ∙ w.keys.arguments; block_parents = w.keys.block_parents; slots = w.keys.slots };
  joined = kept_argument_pushed v.tree block w.keys w.joined is;
  value_uses = let a = length_last v.tree.definitions (Argument block (length (arguments_of v.tree block))) in omega (arith, a, n, w.value_uses);
  block_uses = w.block_uses;
}

pub well_argument_removed : (v : View) (block i : ℕ) → IsWellFormed v → IsBlock v.tree block → ((k x : ℕ) → slice_get (arguments_of v.tree block) i ≡ Some x → In x (operands_of v.tree k) → ⊥) → IsWellFormed (record v { tree = argument_removed v.tree block i })
well_argument_removed v block i w is unused = record {
  keys = record { operands = w.keys.operands; successors = w.keys.successors; parents = w.keys.parents; arguments = length-set _ _ _ ∙ w.keys.arguments; block_parents = w.keys.block_parents; slots = w.keys.slots };
  joined = kept_argument_removed v.tree block i w.keys w.joined is unused;
  value_uses = w.value_uses ∙ sym (length_numbered v.tree.definitions block i (drop (i + 1) (arguments_of v.tree block)));
  block_uses = w.block_uses;
}

-- the tables after a block was made
pub block_made : (t : Tree) (region count key : ℕ) (operands successors bodies arguments layouts : List (List ℕ)) (parents block_parents : List (Option ℕ)) (definitions : List Def) → HaveSameKeys t → key ≡ length t.block_parents → operands ≡ t.operands → successors ≡ t.successors → parents ≡ t.parents → bodies ≡ t.bodies ++ [] ∷ [] → arguments ≡ t.arguments ++ range_with_len (length t.definitions) count ∷ [] → block_parents ≡ slice_set (t.block_parents ++ None ∷ []) key (Some region) → layouts ≡ slice_set t.layouts region (layout_of t region ++ key ∷ []) → definitions ≡ t.definitions ++ argument_definitions (length t.bodies) count
    → record { operations = t.operations; operands = operands; successors = successors; parents = parents; bodies = bodies; arguments = arguments; block_parents = block_parents; layouts = layouts; slots = t.slots; definitions = definitions } ≡ block_created t region count
block_made t region count key operands successors bodies arguments layouts parents block_parents definitions keys k a b c d e f g h =
    let i : block_parents ≡ t.block_parents ++ Some region ∷ [] = f ∙ ap (λ n. slice_set (t.block_parents ++ None ∷ []) n (Some region)) k ∙ set_last t.block_parents None (Some region) in
    let j : layouts ≡ slice_set t.layouts region (layout_of t region ++ length t.bodies ∷ []) = g ∙ ap (λ n. slice_set t.layouts region (layout_of t region ++ n ∷ [])) (k ∙ keys.block_parents) in
    rw (a, b, c, d, e, i, j, h) refl
