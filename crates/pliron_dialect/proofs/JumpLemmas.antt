-- Trees while a new jump is put in the place of a branch.
use Rattle.std.proofs.Common.{◌≡◌, inl, inr, ℕ, zero, suc, ◌+◌, ◌<◌, ◌≤◌, List, [], ◌∷◌, ◌++◌, length, get_or, set, map, take, drop, Option, Some, None, IsSome, slice_get, refl, sym, ap, ap₂, ◌∙◌, subst, ⊎_elim, arith, add-one}
use Rattle.std.proofs.lemmas.Option.{slice_get_read}
use Rattle.pliron_core.proofs.HoldingLemmas.{in_slice}
use Rattle.pliron_core.proofs.ArgumentLemmas.{take_more}
use Rattle.std.proofs.lemmas.List.{get_or-set_other, get_or-set_same, set-set, set-get_or, length-append}
use Rattle.pliron_core.proofs.BlankLemmas.{length-blanked}
use Rattle.pliron_core.proofs.DescentLemmas.{taken-operations}
use Rattle.pliron_core.specs.declared.attrs.Head.{Head}
use Rattle.pliron_core.specs.declared.context.Def.{Def}
use Rattle.pliron_core.specs.declared.context.Def.TheVariants.{Result, Argument}
use Rattle.pliron_core.specs.declared.rewriter.OpInsertionPoint.{OpInsertionPoint}
use Rattle.pliron_core.specs.declared.rewriter.OpInsertionPoint.TheVariants.{Unset, BeforeOperation, AtBlockStart}
use Rattle.pliron_core.specs.Tree.{Tree, In, IsLive, IsDefined, IsMadeBy, IsDefinedWithin, IsInside, IsInside.Directly, IsInside.Deeper, IsWithin, no_entry, row_of, results_of, regions_of, operands_of, successors_of, parent_of, definition_of}
use Rattle.pliron_core.specs.Invariant.{IsTree}
use Rattle.pliron_core.specs.Writes.{after_creating, taken_from, operand_pushed, successor_pushed, put_next_to}
use Rattle.pliron_core.specs.Insertion.{IsPointFor, after_inserting}
use Rattle.pliron_core.specs.Erased.{IsSelfContained, after_erasing}
use Rattle.pliron_core.specs.Changes.{IsSameTree}
use Rattle.pliron_core.proofs.GrownLemmas.{get_grown, get_last, get_last_same, slice_get_kept}
use Rattle.pliron_core.proofs.CreatedLemmas.{defined_kept}
use Rattle.pliron_core.proofs.TreeLemmas.{live-within}
use Rattle.pliron_core.proofs.BesideLemmas.{IsBeside, created_beside, beside_erased}
use Rattle.pliron_laws.specs.Acting.{pick}
use Rattle.pliron_laws.specs.Replacing.{with_edges, branch_replaced}
use Rattle.pliron_laws.proofs.ConstantLemmas.{insideless, blockless}

-- ---- edges of the new operation

take_past : {A : Type 0} (xs : List A) (j : ℕ) → length xs ≤ j → take j xs ≡ xs
take_past [] zero le = refl
take_past [] (suc j) le = refl
take_past (x ∷ xs) zero le = absurd (omega (arith, le))
take_past (x ∷ xs) (suc j) le = ap (λ z. x ∷ z) (take_past xs j (omega (arith, le)))

-- what has no edges has these
pub no_edges : (t : Tree) (op : ℕ) → operands_of t op ≡ [] → successors_of t op ≡ [] → t ≡ with_edges t op [] []
no_edges t op e f = ap₂ (λ x y. let u : Tree = record t { operands = x; successors = y } in u)
    (sym (ap (set t.operands op) (sym e) ∙ set-get_or t.operands op []))
    (sym (ap (set t.successors op) (sym f) ∙ set-get_or t.successors op []))

pub operand_more : (t : Tree) (op v : ℕ) (os ss : List ℕ) → op < length t.operands → operand_pushed (with_edges t op os ss) op v ≡ with_edges t op (os ++ v ∷ []) ss
operand_more t op v os ss lt = ap (λ x. let u : Tree = record t { operands = x; successors = set t.successors op ss } in u)
    (ap (λ z. set (set t.operands op os) op (z ++ v ∷ [])) (get_or-set_same t.operands op os [] lt) ∙ set-set t.operands op os (os ++ v ∷ []))

pub successor_more : (t : Tree) (op b : ℕ) (os ss : List ℕ) → op < length t.successors → successor_pushed (with_edges t op os ss) op b ≡ with_edges t op os (ss ++ b ∷ [])
successor_more t op b os ss lt = ap (λ x. let u : Tree = record t { operands = set t.operands op os; successors = x } in u)
    (ap (λ z. set (set t.successors op ss) op (z ++ b ∷ [])) (get_or-set_same t.successors op ss [] lt) ∙ set-set t.successors op ss (ss ++ b ∷ []))

-- a value of a list, and the list with one more of them
pub in_at : (xs : List ℕ) (j v : ℕ) → j < length xs → v ≡ get_or xs j v → In v xs
in_at xs j v lt is = in_slice xs j v (slice_get_read xs (length xs) j v refl lt is)

pub value_more : (t u u' : Tree) (op j v : ℕ) (xs : List ℕ) → IsTree t → IsLive t op → j < length xs → v ≡ get_or xs j v → u ≡ with_edges t op (take j xs) [] → u' ≡ operand_pushed u op v → u' ≡ with_edges t op (take (j + 1) xs) []
value_more t u u' op j v xs w live lt is e f =
    let within : op < length t.operands = omega (arith, live-within t op live, w.keys.operands) in
    f ∙ ap (λ z. operand_pushed z op v) e ∙ operand_more t op v (take j xs) [] within
    ∙ ap (λ z. with_edges t op z []) (sym (take_more xs j v (slice_get_read xs (length xs) j v refl lt is)) ∙ ap (λ n. take n xs) (sym (add-one j)))

pub edge_done : (t u u' : Tree) (op b j : ℕ) (xs : List ℕ) → IsTree t → IsLive t op → length xs ≤ j → u ≡ with_edges t op (take j xs) [] → u' ≡ successor_pushed u op b → u' ≡ with_edges t op xs (b ∷ [])
edge_done t u u' op b j xs w live le e f =
    let within : op < length t.successors = omega (arith, live-within t op live, w.keys.successors) in
    f ∙ ap (λ z. successor_pushed z op b) (e ∙ ap (λ z. with_edges t op z []) (take_past xs j le)) ∙ successor_more t op b xs [] within

no_member : (xs : List ℕ) (i r : ℕ) → xs ≡ [] → slice_get xs i ≡ Some r → ⊥
no_member xs i r none e = let f : slice_get {X = ℕ} [] i ≡ Some r = ap (λ z. slice_get z i) (sym none) ∙ e in grind arith

-- ---- where it stands

inside_back : (t : Tree) (n op : ℕ) (os ss : List ℕ) (x : ℕ) → IsInside (with_edges t n os ss) op x → IsInside t op x
inside_back t n op os ss _ (Directly e) = Directly e
inside_back t n op os ss _ (Deeper p e i) = Deeper p e (inside_back t n op os ss p i)

within_back : (t : Tree) (n op : ℕ) (os ss : List ℕ) (x : ℕ) → IsWithin (with_edges t n os ss) op x → IsWithin t op x
within_back t n op os ss x (inl e) = inl e
within_back t n op os ss x (inr i) = inr (inside_back t n op os ss x i)

pub point_kept : (t : Tree) (op : ℕ) (os ss : List ℕ) (p : OpInsertionPoint) → IsPointFor t p op → IsPointFor (with_edges t op os ss) p op
point_kept t op os ss Unset h = h
point_kept t op os ss (BeforeOperation at) h = (h.0, h.1, λ i. h.2 (inside_back t op op os ss at i))
point_kept t op os ss (AtBlockStart b) h = (h.0, λ k. h.1 (k.0, k.1, within_back t op op os ss k.0 k.2))

-- the row of the new operation
made_row : (t made : Tree) (c : ℕ) (head : Head) → made ≡ after_creating t head 0 0 → c ≡ length t.operations → row_of made c ≡ record { head = Some head; results = []; regions = [] }
made_row t made c head e k = ap (λ z. row_of z c) e ∙ ap (row_of (after_creating t head 0 0)) k ∙ get_last_same t.operations _ no_entry

pub jump_point : (t made : Tree) (op c : ℕ) (head : Head) (p : OpInsertionPoint) → IsTree made → made ≡ after_creating t head 0 0 → c ≡ length t.operations → p ≡ BeforeOperation op → IsLive t op → IsSome (parent_of t op) → IsPointFor made p c
jump_point t made op c head p w e k at live is =
    let none : regions_of made c ≡ [] = ap (λ z. z.regions) (made_row t made c head e k) in
    let lt = live-within t op live in
    let placed : parent_of made op ≡ parent_of t op = ap (λ z. parent_of z op) e ∙ get_grown t.parents None op in
    subst (λ z. IsPointFor made z c) (sym at) (subst IsSome (sym placed) is, λ f. omega (arith, lt, f, k), λ i. insideless made w c op none i)

old_row : (t made : Tree) (op : ℕ) (head : Head) → made ≡ after_creating t head 0 0 → IsLive t op → row_of made op ≡ row_of t op
old_row t made op head e live =
    let lt = live-within t op live in
    ap (λ z. row_of z op) e ∙ elim (get_last t.operations (record { head = Some head; results = []; regions = [] }) no_entry op) [ inl s ↦ s | inr s ↦ absurd (omega (arith, lt, s.2)) ]

listed : (t : Tree) (head : Head) (k i v : ℕ) → slice_get (results_of t k) i ≡ Some v → slice_get (results_of (after_creating t head 0 0) k) i ≡ Some v
listed t head k i v g = ⊎_elim
    (λ s. ap (λ z. slice_get z.results i) s ∙ g)
    (λ s. absurd (no_member (results_of t k) i v (ap (λ z. z.results) s.1) g))
    (get_last t.operations (record { head = Some head; results = []; regions = [] }) no_entry k)

made_defined : (t made : Tree) (v : ℕ) (head : Head) → made ≡ after_creating t head 0 0 → IsDefined t v → IsDefined made v
made_defined t made v head e d =
    subst (λ z. IsDefined z v) (sym e) (defined_kept t (after_creating t head 0 0) v (λ f g. slice_get_kept t.definitions _ v f g) (λ k i g. listed t head k i v g) (λ b i g. g) d)

abbrev first_or : {A : Type 0} → A → List A → A
first_or d [] = d
first_or d (x ∷ xs) = x

-- what is picked among operands is one of them
pub picked_in : (places os items : List ℕ) (v : ℕ) → map Some items ≡ pick places os → In v items → In v os
picked_in places os [] v e h = absurd h
picked_in [] os (x ∷ xs) v e h = let some : Some x ≡ None = ap (first_or None) e in grind arith
picked_in (p ∷ ps) os (x ∷ xs) v e (inl is) = in_slice os p v (sym (ap (first_or None) e) ∙ ap Some (sym is))
picked_in (p ∷ ps) os (x ∷ xs) v e (inr h) = picked_in ps os xs v (ap (drop 1) e) h

-- an operand is defined once the new operation is made
pub operand_defined : (t made : Tree) (op : ℕ) (head : Head) (v : ℕ) → IsTree t → made ≡ after_creating t head 0 0 → In v (operands_of t op) → IsDefined made v
operand_defined t made op head v w e i = made_defined t made v head e (w.joined.operands op v i)

-- ---- erasing

next_rows : (t : Tree) (c at : ℕ) (o : Option ℕ) → (put_next_to t c at o).operations ≡ t.operations
next_rows t c at None = refl
next_rows t c at (Some b) = refl

put_rows : (t : Tree) (p : OpInsertionPoint) (c : ℕ) → (after_inserting t p c).operations ≡ t.operations
put_rows t Unset c = refl
put_rows t (BeforeOperation at) c = next_rows t c at (parent_of t at)
put_rows t (AtBlockStart b) c = refl

made_nowhere : (z : Tree) → IsTree z → (c u : ℕ) → regions_of z c ≡ [] → results_of z c ≡ [] → (o : Option Def) → IsDefinedWithin z c o → IsMadeBy z u o → ⊥
made_nowhere z w c u none bare None m d = m
made_nowhere z w c u none bare (Some (Result k i)) (inl e) d = no_member (results_of z c) i u bare (ap (λ x. slice_get (results_of z x) i) (sym e) ∙ d)
made_nowhere z w c u none bare (Some (Result k i)) (inr j) d = insideless z w c k none j
made_nowhere z w c u none bare (Some (Argument b i)) h d = blockless z w c b none h

-- what has no results and no regions is used nowhere
bare_contained : (z : Tree) → IsTree z → (c : ℕ) → regions_of z c ≡ [] → results_of z c ≡ [] → IsSelfContained z c
bare_contained z w c none bare = record {
  values = λ x u i m. absurd (made_nowhere z w c u none bare (definition_of z u) m (w.joined.operands x u i));
  blocks = λ x b i h. absurd (blockless z w c b none h);
}

-- so are the old operation, once the new one is put, and the new one, while it stands nowhere
pub old_contained : (t made z : Tree) (op c b : ℕ) (head : Head) (p : OpInsertionPoint) (values : List ℕ) → IsTree z → made ≡ after_creating t head 0 0 → IsLive t op → regions_of t op ≡ [] → results_of t op ≡ [] → z ≡ after_inserting (with_edges made c values (b ∷ [])) p c → IsSelfContained z op
old_contained t made z op c b head p values w e live none bare f =
    let row : row_of z op ≡ row_of t op = ap (λ x. row_of x op) f ∙ ap (λ x. get_or x op no_entry) (put_rows (with_edges made c values (b ∷ [])) p c) ∙ old_row t made op head e live in
    bare_contained z w op (ap (λ x. x.regions) row ∙ none) (ap (λ x. x.results) row ∙ bare)

pub new_contained : (t made z : Tree) (c : ℕ) (head : Head) (os ss : List ℕ) → IsTree z → made ≡ after_creating t head 0 0 → c ≡ length t.operations → z ≡ with_edges made c os ss → IsSelfContained z c
new_contained t made z c head os ss w e k f =
    let row = ap (λ x. row_of x c) f ∙ made_row t made c head e k in
    bare_contained z w c (ap (λ x. x.regions) row) (ap (λ x. x.results) row)

beside_edges : (t d : Tree) (n : ℕ) (os ss : List ℕ) → IsBeside t d n → IsBeside t (with_edges d n os ss) n
beside_edges t d n os ss s = record {
  fresh = s.fresh;
  no_operands = s.no_operands;
  no_successors = s.no_successors;
  no_parent = s.no_parent;
  loose = s.loose;
  key = s.key;
  place = s.place;
  operations = s.operations;
  operands = λ k ne. get_or-set_other d.operands n k os [] ne ∙ s.operands k ne;
  successors = λ k ne. get_or-set_other d.successors n k ss [] ne ∙ s.successors k ne;
  parents = s.parents;
  bodies = s.bodies;
  arguments = s.arguments;
  block_parents = s.block_parents;
  layouts = s.layouts;
  slots = s.slots;
  definitions = s.definitions;
}

-- erasing the new operation leaves the tree as it was, but for erased handles
pub jump_undone : (t made z u : Tree) (c : ℕ) (head : Head) (os ss : List ℕ) → IsTree t → made ≡ after_creating t head 0 0 → c ≡ length t.operations → z ≡ with_edges made c os ss → u ≡ after_erasing z c → IsSameTree t u
jump_undone t made z u c head os ss w e k f g =
    let made_beside : IsBeside t made c = subst (λ x. IsBeside t x c) (sym e) (subst (λ n. IsBeside t (after_creating t head 0 0) n) (sym k) (created_beside t head 0 0 w)) in
    subst (λ x. IsSameTree t x) (sym (g ∙ ap (λ x. after_erasing x c) f)) (beside_erased t (with_edges made c os ss) c w (beside_edges t made c os ss made_beside))

-- the tree where all went well
pub jump_done : (t made z u : Tree) (op c b : ℕ) (head given : Head) (p q : OpInsertionPoint) (values : List ℕ) → made ≡ after_creating t given 0 0 → given ≡ head → c ≡ length t.operations → q ≡ p → p ≡ BeforeOperation op → z ≡ after_inserting (with_edges made c values (b ∷ [])) q c → u ≡ after_erasing z op → u ≡ branch_replaced t op head values (b ∷ [])
jump_done t made z u op c b head given p q values e same k kept at f g =
    g ∙ ap (λ x. after_erasing x op) (f
    ∙ ap (λ x. after_inserting (with_edges made c values (b ∷ [])) x c) (kept ∙ at)
    ∙ ap (λ x. after_inserting (with_edges x c values (b ∷ [])) (BeforeOperation op) c) (e ∙ ap (λ h. after_creating t h 0 0) same)
    ∙ ap (λ x. after_inserting (with_edges (after_creating t head 0 0) x values (b ∷ [])) (BeforeOperation op) x) k
    ∙ ap (λ o. put_next_to (with_edges (after_creating t head 0 0) (length t.operations) values (b ∷ [])) (length t.operations) op o) (get_grown t.parents None op))

erased_long : (z u : Tree) (c : ℕ) → u ≡ after_erasing z c → length u.operations ≡ length z.operations
erased_long z u c g =
    ap (λ x. length x.operations) g ∙ length-blanked _ no_entry (taken_from z c (parent_of z c)).operations ∙ ap length (taken-operations z c (parent_of z c))

inserted_long : (t : Tree) (p : OpInsertionPoint) (c : ℕ) → length (after_inserting t p c).operations ≡ length t.operations
inserted_long t Unset c = refl
inserted_long t (BeforeOperation at) c = go (parent_of t at)
  where
    go : (o : Option ℕ) → length (put_next_to t c at o).operations ≡ length t.operations
    go None = refl
    go (Some b) = refl
inserted_long t (AtBlockStart b) c = refl

-- the table of operations is no shorter
pub jump_long : (t made z u : Tree) (op c : ℕ) (given : Head) (p : OpInsertionPoint) (values targets : List ℕ) → made ≡ after_creating t given 0 0 → z ≡ after_inserting (with_edges made c values targets) p c → u ≡ after_erasing z op → length t.operations ≤ length u.operations
jump_long t made z u op c given p values targets e f g =
    let a = ap (λ x. length x.operations) e ∙ length-append t.operations _ in
    let b = ap (λ x. length x.operations) f ∙ inserted_long (with_edges made c values targets) p c in
    let d = erased_long z u op g in
    omega (arith, a, b, d)

pub undone_jump_long : (t made z u : Tree) (c : ℕ) (given : Head) (os ss : List ℕ) → made ≡ after_creating t given 0 0 → z ≡ with_edges made c os ss → u ≡ after_erasing z c → length t.operations ≤ length u.operations
undone_jump_long t made z u c given os ss e f g =
    let a = ap (λ x. length x.operations) e ∙ length-append t.operations _ in
    let b : length z.operations ≡ length made.operations = ap (λ x. length x.operations) f in
    let d = erased_long z u c g in
    omega (arith, a, b, d)
