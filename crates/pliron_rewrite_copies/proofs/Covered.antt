-- What a tree with copies has, its originals have in the tree without them.
use Rattle.std.proofs.Common.{◌≡◌, ◌≢◌, ◌⊎◌, inl, inr, ⊎_elim, ℕ, List, [], ◌∷◌, ◌++◌, map, length, Option, Some, None, IsSome, slice_get, refl, sym, ap, ap₂, ◌∙◌, subst}
use Rattle.std.specs.Option.{option_map}
use Rattle.std.proofs.lemmas.List.{length-map}
use Rattle.pliron_core.specs.declared.context.Def.{Def}
use Rattle.pliron_core.specs.declared.context.Def.TheVariants.{Result, Argument}
use Rattle.pliron_core.specs.Changes.{IsDefiningOperationInside}
use Rattle.pliron_core.specs.Edges.{succs_of, succs_from}
use Rattle.pliron_core.specs.Tree.{Tree, In, IsDistinct, first_of, last_of, IsLive, IsBlock, IsMadeBy, IsInside, IsInside.Directly, IsInside.Deeper, IsWithin, head_of, operands_of, successors_of, results_of, regions_of, parent_of, body_of, arguments_of, block_parent_of, layout_of, region_parent_of, block_parent_operation_of, parent_operation_of, definition_of, up_from, op_of_slot}
use Rattle.pliron_core.specs.Invariant.{IsTree}
use Rattle.pliron_core.proofs.HoldingLemmas.{some_is, some_of, not_none, in_slice, slice_in, region_live, result_live, argument_stands, holder_is, holder_by}
use Rattle.pliron_core.proofs.NeighbourLemmas.{last_of-In}
use Rattle.pliron_laws.specs.Paths.{Path, Leads}
use Rattle.pliron_laws.specs.Root.{defining_block}
use Rattle.pliron_theory.proofs.SweptParts.{HasBlockPlace, block_place_of, block_held_at}
use Rattle.pliron_rewrite_copies.specs.Copies.{Originals, IsCopiedOperation, IsCopiedBlock, HasOriginals}
use Rattle.pliron_rewrite_copies.proofs.Maps.{in_map, slice_map, last_map, map_apart}

-- what makes the original of a value
abbrev pub original_def : Originals → Def → Def
original_def o (Result k i) = Result (o.operation k) i
original_def o (Argument b i) = Argument (o.block b) i

module _ (t u : Tree) (o : Originals) (w : IsTree t) (w' : IsTree u) (h : HasOriginals t u o) where
  pub live_in : (k b : ℕ) → parent_of u k ≡ Some b → IsLive u k
  live_in k b e = (w'.joined.all_in_place k b e).0

  pub region_in : (k b : ℕ) → parent_of u k ≡ Some b → (r : ℕ) × (block_parent_of u b ≡ Some r)
  region_in k b e = some_of (block_parent_of u b) (w'.joined.all_in_place k b e).1

  -- places

  pub parent_forth : (k b : ℕ) → parent_of u k ≡ Some b → parent_of t (o.operation k) ≡ Some (o.block b)
  parent_forth k b e =
      let r = region_in k b e in
      w.bodies.owned (o.operation k) (o.block b) (subst (In (o.operation k)) (sym (h.blocks b r.0 r.1).body) (in_map o.operation (body_of u b) k (w'.bodies.listed k b e)))

  -- two operations of one block have two originals
  pub apart_in : (b j k : ℕ) → parent_of u j ≡ Some b → parent_of u k ≡ Some b → o.operation j ≡ o.operation k → j ≡ k
  apart_in b j k ej ek e =
      let r = region_in k b ek in
      map_apart o.operation (body_of u b) j k (subst IsDistinct (h.blocks b r.0 r.1).body (w.bodies.distinct (o.block b))) (w'.bodies.listed j b ej) (w'.bodies.listed k b ek) e

  pub region_forth : (k i r : ℕ) → slice_get (regions_of u k) i ≡ Some r → (region_parent_of u r ≡ Some k) × (region_parent_of t (o.region r) ≡ Some (o.operation k))
  region_forth k i r e =
      let live = region_live u w'.joined k i r e in
      let there = ap (λ l. slice_get l i) (h.operations k live).regions ∙ slice_map o.region (regions_of u k) i r e in
      (ap op_of_slot (w'.joined.regions k i r e), ap op_of_slot (w.joined.regions (o.operation k) i (o.region r) there))

  pub block_holder_forth : (b k : ℕ) → block_parent_operation_of u b ≡ Some k → block_parent_operation_of t (o.block b) ≡ Some (o.operation k)
  block_holder_forth b k e =
      let p = block_place_of u w' b k e in
      ap (λ x. up_from x (λ r. region_parent_of t r)) (h.blocks b p.region p.in_region).parent ∙ (region_forth k p.index p.region p.listed).1

  pub holder_forth : (x p : ℕ) → parent_operation_of u x ≡ Some p → parent_operation_of t (o.operation x) ≡ Some (o.operation p)
  holder_forth x p e =
      let q = holder_is u x p e in
      holder_by t (o.operation x) (o.block q.0) (o.operation p) (parent_forth x q.0 q.1) (block_holder_forth q.0 p q.2)

  pub inside_forth : (a x : ℕ) → IsInside u a x → IsInside t (o.operation a) (o.operation x)
  inside_forth a x (Directly e) = Directly (holder_forth x a e)
  inside_forth a x (Deeper p e i) = Deeper (o.operation p) (holder_forth x p e) (inside_forth a p i)

  pub within_forth : (a x : ℕ) → IsWithin u a x → IsWithin t (o.operation a) (o.operation x)
  within_forth a x (inl e) = inl (ap o.operation e)
  within_forth a x (inr i) = inr (inside_forth a x i)

  -- paths

  pub last_forth : (b r k : ℕ) → block_parent_of u b ≡ Some r → last_of None (body_of u b) ≡ Some k → last_of None (body_of t (o.block b)) ≡ Some (o.operation k)
  last_forth b r k e l = ap (last_of None) (h.blocks b r e).body ∙ last_map o.operation None (body_of u b) ∙ ap (option_map o.operation) l

  pub leads_forth : (b c : ℕ) → Leads u b c → Leads t (o.block b) (o.block c)
  leads_forth b c l = go (last_of None (body_of u b)) refl (block_parent_of u b) refl l.successor
    where
      no_body : (k : ℕ) → body_of u b ≡ [] → In k (body_of u b) → ⊥
      no_body k e i = subst (In k) e i

      go : (x : Option ℕ) → last_of None (body_of u b) ≡ x → (y : Option ℕ) → block_parent_of u b ≡ y → In c (succs_from u x) → Leads t (o.block b) (o.block c)
      go None ex y ey i = absurd i
      go (Some k) ex None ey i = absurd (no_body k (w'.joined.unplaced b ey).1 (last_of-In k (body_of u b) ex))
      go (Some k) ex (Some r) ey i =
          let live = live_in k b (w'.bodies.owned k b (last_of-In k (body_of u b) ex)) in
          record {
            successor = subst (λ z. In (o.block c) (succs_from t z)) (sym (last_forth b r k ey ex)) (subst (In (o.block c)) (sym (h.operations k live).successors) (in_map o.block (successors_of u k) c i));
            same_region = (h.blocks c r (l.same_region ∙ ey)).parent ∙ sym (h.blocks b r ey).parent;
          }

  pub path_forth : (a b : ℕ) (before : List ℕ) → Path u a b before → Path t (o.block a) (o.block b) (map o.block before)
  path_forth a b [] p = ap o.block p
  path_forth a b (c ∷ before) p = (leads_forth c b p.0, path_forth a c before p.1)

  -- values

  pub def_forth : (v : ℕ) (d : Def) → IsMadeBy u v (Some d) → definition_of t (o.value v) ≡ Some (original_def o d)
  def_forth v (Result k i) e =
      let live = result_live u w'.joined k i v e in
      w.joined.results (o.operation k) i (o.value v) (ap (λ l. slice_get l i) (h.operations k live).results ∙ slice_map o.value (results_of u k) i v e)
  def_forth v (Argument b i) e =
      let r = some_of (block_parent_of u b) (argument_stands u w'.joined b i v e) in
      w.joined.arguments (o.block b) i (o.value v) (ap (λ l. slice_get l i) (h.blocks b r.0 r.1).arguments ∙ slice_map o.value (arguments_of u b) i v e)

  pub defining_forth : (d : Def) (b : ℕ) → defining_block u (Some d) ≡ Some b → defining_block t (Some (original_def o d)) ≡ Some (o.block b)
  defining_forth (Result k i) b e = parent_forth k b e
  defining_forth (Argument c i) b e = ap Some (ap o.block (some_is e))

  pub made_forth : (root : ℕ) (d : Def) → IsDefiningOperationInside u root (Some d) → IsDefiningOperationInside t (o.operation root) (Some (original_def o d))
  made_forth root (Result k i) e = inside_forth root k e
  made_forth root (Argument b i) e = (o.operation e.0, block_holder_forth b e.0 e.1, within_forth root e.0 e.2)

  -- two values of one block that have one original are one
  pub same_value : (v x b c : ℕ) (d e : Def) → IsMadeBy u v (Some d) → IsMadeBy u x (Some e) → defining_block u (Some d) ≡ Some b → defining_block u (Some e) ≡ Some c → o.value v ≡ o.value x → (o.block b ≡ o.block c → b ≡ c) → v ≡ x
  same_value v x b c d e md me db ec s one = go d e md me db ec (some_is (sym (def_forth v d md) ∙ ap (definition_of t) s ∙ def_forth x e me))
    where
      results : (k j i n : ℕ) → Result k i ≡ Result j n → (k ≡ j) × (i ≡ n)
      results k j i n q = let a : k ≡ j = cc in let b : i ≡ n = cc in (a, b)

      arguments : (k j i n : ℕ) → Argument k i ≡ Argument j n → (k ≡ j) × (i ≡ n)
      arguments k j i n q = let a : k ≡ j = cc in let b : i ≡ n = cc in (a, b)

      mixed : (k j i n : ℕ) → Result k i ≡ Argument j n → ⊥
      mixed k j i n q = cc

      go : (d e : Def) → IsMadeBy u v (Some d) → IsMadeBy u x (Some e) → defining_block u (Some d) ≡ Some b → defining_block u (Some e) ≡ Some c → original_def o d ≡ original_def o e → v ≡ x
      go (Result k i) (Result j n) md me db ec q =
          let f = results (o.operation k) (o.operation j) i n q in
          let same_block : b ≡ c = one (some_is (sym (parent_forth k b db) ∙ ap (parent_of t) f.0 ∙ parent_forth j c ec)) in
          let same : k ≡ j = apart_in b k j db (ec ∙ ap Some (sym same_block)) f.0 in
          some_is (sym md ∙ ap₂ (λ y z. slice_get (results_of u y) z) same f.1 ∙ me)
      go (Argument k i) (Argument j n) md me db ec q =
          let f = arguments (o.block k) (o.block j) i n q in
          let same : k ≡ j = some_is db ∙ one (ap o.block (sym (some_is db)) ∙ f.0 ∙ ap o.block (some_is ec)) ∙ sym (some_is ec) in
          some_is (sym md ∙ ap₂ (λ y z. slice_get (arguments_of u y) z) same f.1 ∙ me)
      go (Result k i) (Argument j n) md me db ec q = absurd (mixed (o.operation k) (o.block j) i n q)
      go (Argument k i) (Result j n) md me db ec q = absurd (mixed (o.operation j) (o.block k) n i (sym q))
