-- Writes to what stands inside an operation change only what is inside it.
use Rattle.std.proofs.Common.{◌≡◌, ◌≢◌, ◌⊎◌, ℕ, zero, suc, ◌+◌, ◌<◌, ◌≤◌, List, [], ◌∷◌, ◌++◌, length, map, drop, get_or, if◌then◌else◌, Some, None, IsSome, slice_get, slice_set, remove, refl, sym, ap, ◌∙◌, subst, inl, inr, true≢false, arith}
use Rattle.std.specs.List.{insert}
use Rattle.std.specs.Option.{option_map}
use Rattle.std.proofs.lemmas.Bool.{cases_eq, ne_eqb}
use Rattle.std.proofs.lemmas.Option.{slice_get-map}
use Rattle.std.proofs.lemmas.List.{get_or-set_other, get_or_past, length-map}
use Rattle.std.proofs.Math.ListN.{get_or-map, get_or-append}
use Rattle.pliron_core.specs.declared.attrs.AttrObj.{AttrObj}
use Rattle.pliron_core.specs.declared.attrs.Head.{Head}
use Rattle.pliron_core.specs.declared.context.Def.{Def}
use Rattle.pliron_core.specs.declared.context.OperationEntry.{OperationEntry}
use Rattle.pliron_core.specs.declared.context.Def.TheVariants.{Argument}
use Rattle.pliron_core.specs.Lists.{In}
use Rattle.pliron_core.specs.Uses.{replace_target}
use Rattle.pliron_core.specs.Tree.{Tree, no_entry, up_from, row_of, head_of, operands_of, successors_of, parent_of, body_of, arguments_of, block_parent_of, region_parent_of, parent_operation_of, IsLive, IsBlock, IsInside, HoldsBlock}
use Rattle.pliron_core.specs.Invariant.{IsJoined, IsTree}
use Rattle.pliron_core.specs.Writes.{argument_definitions, operand_pushed, successor_pushed, operand_inserted, operand_removed, with_attribute, attribute_set, head_replaced, argument_definitions_from, argument_pushed, argument_removed, after_replacing, block_created}
use Rattle.pliron_core.specs.Changes.{HoldsRegion, IsDefiningOperationInside, IsDefinedInside, IsOutside, IsBlockOutside, IsValueOutside, IsKeptOperation, IsKeptBlock, IsInsideChange}
use Rattle.pliron_core.proofs.TableLemmas.{set-other}
use Rattle.pliron_core.proofs.PlaceLemmas.{get_or-pad}
use Rattle.pliron_core.proofs.HoldingLemmas.{not_none, slice_in, maker_is, holder_is, holder_by, held_block, inside_alike, within_alike, inside_more, within_more}
use Rattle.pliron_core.proofs.InsideLemmas.{AreKeptOutside, change_of_kept}

pub same_block : (t u : Tree) (b : ℕ) → arguments_of u b ≡ arguments_of t b → body_of u b ≡ body_of t b → block_parent_of u b ≡ block_parent_of t b → IsKeptBlock t u b
same_block t u b a c p = record { arguments = a; body = c; parent = p }

-- an operation with the same rows
pub same_operation : (t u : Tree) (op x : ℕ) → row_of u x ≡ row_of t x → operands_of u x ≡ operands_of t x → successors_of u x ≡ successors_of t x → parent_of u x ≡ parent_of t x → IsKeptOperation t u op x
same_operation t u op x row operands successors parent = record {
  row = row;
  successors = successors;
  parent = parent;
  count = ap length operands;
  operands = λ i v e out. ap (λ z. slice_get z i) operands ∙ e;
}

-- only the row of an operation inside op changes
module _ (t : Tree) (op x : ℕ) (w : IsJoined t) (i : IsInside t op x) where
  other : (y : ℕ) → IsOutside t op y → y ≢ x
  other y o e = o.1 (subst (IsInside t op) (sym e) i)

  pub operands_inside : (row : List ℕ) → IsInsideChange t (record t { operands = slice_set t.operands x row }) op
  operands_inside row = change_of_kept t u op w kept (λ y o. (o.0, λ j. o.1 (inside_alike t u (λ z. refl) j))) (λ b o. (o.0, λ h. o.1 (h.0, h.1, within_alike t u (λ z. refl) h.2)))
    where
      u : Tree
      u = record t { operands = slice_set t.operands x row }

      kept : AreKeptOutside t u op
      kept = record {
        operations = λ y o. same_operation t u op y refl (get_or-set_other t.operands x y row [] (other y o)) refl refl;
        blocks = λ b o. same_block t u b refl refl refl;
        regions = λ r o. record { layout = refl; slot = refl };
        values = λ v o. refl;
      }

  pub operand_pushed_inside : (value : ℕ) → IsInsideChange t (operand_pushed t x value) op
  operand_pushed_inside value = operands_inside (operands_of t x ++ value ∷ [])

  pub operand_inserted_inside : (n value : ℕ) → IsInsideChange t (operand_inserted t x n value) op
  operand_inserted_inside n value = operands_inside (insert (operands_of t x) n value)

  pub operand_removed_inside : (n : ℕ) → IsInsideChange t (operand_removed t x n) op
  operand_removed_inside n = operands_inside (remove (operands_of t x) n)

  pub successor_pushed_inside : (block : ℕ) → IsInsideChange t (successor_pushed t x block) op
  successor_pushed_inside block = change_of_kept t u op w kept (λ y o. (o.0, λ j. o.1 (inside_alike t u (λ z. refl) j))) (λ b o. (o.0, λ h. o.1 (h.0, h.1, within_alike t u (λ z. refl) h.2)))
    where
      u : Tree
      u = successor_pushed t x block

      kept : AreKeptOutside t u op
      kept = record {
        operations = λ y o. same_operation t u op y refl refl (get_or-set_other t.successors x y _ [] (other y o)) refl;
        blocks = λ b o. same_block t u b refl refl refl;
        regions = λ r o. record { layout = refl; slot = refl };
        values = λ v o. refl;
      }

  pub row_set_inside : (entry : OperationEntry) → IsInsideChange t (record t { operations = slice_set t.operations x entry }) op
  row_set_inside entry = change_of_kept t u op w kept no_new_operation (λ b o. (o.0, λ h. o.1 (h.0, h.1, within_alike t u (λ z. refl) h.2)))
    where
      u : Tree
      u = record t { operations = slice_set t.operations x entry }

      row : (y : ℕ) → y ≢ x → row_of u y ≡ row_of t y
      row y ne = get_or-set_other t.operations x y entry no_entry ne

      kept : AreKeptOutside t u op
      kept = record {
        operations = λ y o. same_operation t u op y (row y (other y o)) refl refl refl;
        blocks = λ b o. same_block t u b refl refl refl;
        regions = λ r o. record { layout = refl; slot = refl };
        values = λ v o. refl;
      }

      no_new_operation : (y : ℕ) → IsOutside u op y → IsOutside t op y
      no_new_operation y o = (live (cases_eq y x), λ j. o.1 (inside_alike t u (λ z. refl) j))
        where
          live : (y ≡ x) ⊎ (y ≢ x) → IsLive t y
          live (inl e) = absurd (o.1 (inside_alike t u (λ z. refl) (subst (IsInside t op) (sym e) i)))
          live (inr ne) = subst (λ z. IsSome z.head) (row y ne) o.0

  pub attribute_set_inside : (n : ℕ) (attr : AttrObj) → IsInsideChange t (attribute_set t x n attr) op
  attribute_set_inside n attr = row_set_inside (record (row_of t x) { head = with_attribute (head_of t x) n attr })

  pub head_replaced_inside : (head : Head) → IsInsideChange t (head_replaced t x head) op
  head_replaced_inside head = row_set_inside (record (row_of t x) { head = Some head })

-- a value defined inside op gives way
pub replaced_inside : (t : Tree) (op old new : ℕ) → IsJoined t → IsDefinedInside t op old → IsInsideChange t (after_replacing t old new) op
replaced_inside t op old new w made = change_of_kept t u op w kept (λ y o. (o.0, λ j. o.1 (inside_alike t u (λ z. refl) j))) (λ b o. (o.0, λ h. o.1 (h.0, h.1, within_alike t u (λ z. refl) h.2)))
  where
    u : Tree
    u = after_replacing t old new

    row : (x : ℕ) → operands_of u x ≡ map (replace_target old new) (operands_of t x)
    row x = get_or-map (map (replace_target old new)) t.operands x []

    other : (v : ℕ) → IsValueOutside t op v → replace_target old new v ≡ v
    other v out = ap (λ b. if b then new else v) (ne_eqb v old (λ e. out.1 (subst (IsDefinedInside t op) (sym e) made)))

    operand : (x i v : ℕ) → slice_get (operands_of t x) i ≡ Some v → IsValueOutside t op v → slice_get (operands_of u x) i ≡ Some v
    operand x i v e out = ap (λ z. slice_get z i) (row x) ∙ slice_get-map (replace_target old new) (operands_of t x) i ∙ ap (option_map (replace_target old new)) e ∙ ap Some (other v out)

    kept : AreKeptOutside t u op
    kept = record {
      operations = λ x o. record { row = refl; successors = refl; parent = refl; count = ap length (row x) ∙ length-map (operands_of t x) (replace_target old new); operands = operand x };
      blocks = λ b o. same_block t u b refl refl refl;
      regions = λ r o. record { layout = refl; slot = refl };
      values = λ v o. refl;
    }

in_drop : (n : ℕ) (xs : List ℕ) (x : ℕ) → In x (drop n xs) → In x xs
in_drop zero xs x i = i
in_drop (suc n) [] x i = i
in_drop (suc n) (y ∷ ys) x i = inr (in_drop n ys x i)

numbered_other : (vs : List ℕ) (definitions : List Def) (block i v : ℕ) → (In v vs → ⊥) → slice_get (argument_definitions_from definitions block i vs) v ≡ slice_get definitions v
numbered_other [] definitions block i v out = refl
numbered_other (x ∷ xs) definitions block i v out =
    numbered_other xs (slice_set definitions x (Argument block i)) block (suc i) v (λ j. out (inr j)) ∙ set-other definitions x v (Argument block i) (λ e. out (inl e))

-- an argument of a block that op holds goes
pub argument_removed_inside : (t : Tree) (op block n : ℕ) → IsJoined t → HoldsBlock t op block → IsInsideChange t (argument_removed t block n) op
argument_removed_inside t op block n w held = change_of_kept t u op w kept (λ y o. (o.0, λ j. o.1 (inside_alike t u (λ z. refl) j))) (λ b o. (o.0, λ h. o.1 (h.0, h.1, within_alike t u (λ z. refl) h.2)))
  where
    u : Tree
    u = argument_removed t block n

    other : (v : ℕ) → IsValueOutside t op v → In v (drop (n + 1) (arguments_of t block)) → ⊥
    other v out i =
        let p = slice_in (arguments_of t block) v (in_drop (n + 1) (arguments_of t block) v i) in
        out.1 (subst (IsDefiningOperationInside t op) (sym (w.arguments block p.0 v p.1)) held)

    kept : AreKeptOutside t u op
    kept = record {
      operations = λ x o. same_operation t u op x refl refl refl refl;
      blocks = λ b o. same_block t u b (get_or-set_other t.arguments block b _ [] (λ e. o.1 (subst (HoldsBlock t op) (sym e) held))) refl refl;
      regions = λ r o. record { layout = refl; slot = refl };
      values = λ v o. numbered_other (drop (n + 1) (arguments_of t block)) t.definitions block n v (other v o);
    }

module _ {A : Type 0} where
  -- one more at the end: the others are as before
  pub push_other : (xs : List A) (y d : A) (k : ℕ) → (get_or (xs ++ y ∷ []) k d ≡ get_or xs k d) ⊎ (k ≡ length xs)
  push_other [] y d zero = inr refl
  push_other [] y d (suc k) = inl refl
  push_other (x ∷ xs) y d zero = inl refl
  push_other (x ∷ xs) y d (suc k) = go (push_other xs y d k)
    where
      go : (get_or (xs ++ y ∷ []) k d ≡ get_or xs k d) ⊎ (k ≡ length xs) → (get_or (xs ++ y ∷ []) k d ≡ get_or xs k d) ⊎ (suc k ≡ suc (length xs))
      go (inl e) = inl e
      go (inr e) = inr (ap suc e)

  pub push_here : (xs : List A) (y d : A) → get_or (xs ++ y ∷ []) (length xs) d ≡ y
  push_here [] y d = refl
  push_here (x ∷ xs) y d = push_here xs y d

  pub grown_front : (xs ys : List A) (i : ℕ) (y : A) → slice_get xs i ≡ Some y → slice_get (xs ++ ys) i ≡ Some y
  grown_front [] ys i y e = absurd (not_none e)
  grown_front (x ∷ xs) ys zero y e = e
  grown_front (x ∷ xs) ys (suc i) y e = grown_front xs ys i y e

-- a block that op holds has one more argument
pub argument_pushed_inside : (t : Tree) (op block : ℕ) → IsJoined t → HoldsBlock t op block → IsInsideChange t (argument_pushed t block) op
argument_pushed_inside t op block w held = change_of_kept t u op w kept (λ y o. (o.0, λ j. o.1 (inside_alike t u (λ z. refl) j))) (λ b o. (o.0, λ h. o.1 (h.0, h.1, within_alike t u (λ z. refl) h.2)))
  where
    u : Tree
    u = argument_pushed t block

    kept : AreKeptOutside t u op
    kept = record {
      operations = λ x o. same_operation t u op x refl refl refl refl;
      blocks = λ b o. same_block t u b (get_or-set_other t.arguments block b _ [] (λ e. o.1 (subst (HoldsBlock t op) (sym e) held))) refl refl;
      regions = λ r o. record { layout = refl; slot = refl };
      values = λ v o. let d = maker_is t v o.0 in grown_front t.definitions _ v d.0 d.1 ∙ sym d.1;
    }

-- what has no key yet has no row
pub past_block : (t : Tree) (b : ℕ) → IsBlock t b → b < length t.block_parents
past_block t b is = go (cases_lt b (length t.block_parents))
  where
    cases_lt : (b n : ℕ) → (b < n) ⊎ (n ≤ b)
    cases_lt b n = grind arith

    go : (b < length t.block_parents) ⊎ (length t.block_parents ≤ b) → b < length t.block_parents
    go (inl h) = h
    go (inr h) = let e = subst IsSome (get_or_past t.block_parents b None h) is in absurd (true≢false (sym e))

-- a new block in a region that op holds
module _ (t : Tree) (op region count : ℕ) (w : IsTree t) (held : HoldsRegion t op region) where
  block_same : (b : ℕ) → IsBlock t b → block_parent_of (block_created t region count) b ≡ block_parent_of t b
  block_same b is = get_or-append t.block_parents (Some region ∷ []) None b (past_block t b is)

  holders : (x p : ℕ) → parent_operation_of t x ≡ Some p → parent_operation_of (block_created t region count) x ≡ Some p
  holders x p e =
      let h = holder_is t x p e in
      holder_by (block_created t region count) x h.0 p h.1 (ap (λ o. up_from o (λ r. region_parent_of t r)) (block_same h.0 (held_block t h.0 p h.2)) ∙ h.2)

  pub block_created_inside : IsInsideChange t (block_created t region count) op
  block_created_inside = change_of_kept t u op w.joined kept (λ y o. (o.0, λ j. o.1 (inside_more t u holders j))) no_new_block
    where
      u : Tree
      u = block_created t region count

      kept : AreKeptOutside t u op
      kept = record {
        operations = λ x o. same_operation t u op x refl refl refl refl;
        blocks = λ b o. same_block t u b (get_or-append t.arguments _ [] b (omega (arith, past_block t b o.0, w.keys.arguments, w.keys.block_parents))) (get_or-pad t.bodies [] b) (block_same b o.0);
        regions = λ r o. record { layout = get_or-set_other t.layouts region r _ [] (λ e. o.1 (subst (HoldsRegion t op) (sym e) held)); slot = refl };
        values = λ v o. let m = maker_is t v o.0 in grown_front t.definitions (argument_definitions (length t.bodies) count) v m.0 m.1 ∙ sym m.1;
      }

      no_new_block : (b : ℕ) → IsBlockOutside u op b → IsBlockOutside t op b
      no_new_block b o = go (push_other t.block_parents (Some region) None b)
        where
          go : (block_parent_of u b ≡ block_parent_of t b) ⊎ (b ≡ length t.block_parents) → IsBlockOutside t op b
          go (inl e) = (subst IsSome e o.0, λ h. o.1 (h.0, ap (λ o. up_from o (λ r. region_parent_of t r)) e ∙ h.1, within_more t u holders h.2))
          go (inr e) =
              let at : block_parent_of u b ≡ Some region = ap (block_parent_of u) e ∙ push_here t.block_parents (Some region) None in
              absurd (o.1 (held.0, ap (λ o. up_from o (λ r. region_parent_of t r)) at ∙ held.1, within_more t u holders held.2))
