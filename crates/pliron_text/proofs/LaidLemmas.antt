-- What a tree has of a text grows step by step.
use Rattle.std.proofs.Common.{◌≡◌, ◌≢◌, ℕ, ◌+◌, ◌<◌, ◌≤◌, List, [], ◌∷◌, ◌++◌, length, get_or, Option, Some, None, refl, sym, ap, ◌∙◌, subst, ⊎_elim, arith, slice_get, length-append}
use Rattle.std.specs.List.{range_with_len}
use Rattle.std.proofs.lemmas.List.{get_or_past, get_or-set_same, get_or-set_other, length-set}
use Rattle.std.proofs.lemmas.List.FromFn.{length-range_with_len}
use Rattle.std.proofs.lemmas.Option.{slice_get_read}
use Rattle.pliron_core.specs.declared.attrs.Head.{Head}
use Rattle.pliron_core.specs.declared.context.OperationEntry.{OperationEntry}
use Rattle.pliron_core.specs.Tree.{Tree, last_of, no_entry, row_of, results_of, regions_of, operands_of, successors_of, parent_of, body_of, block_parent_of}
use Rattle.pliron_core.specs.Invariant.{IsTree}
use Rattle.pliron_core.specs.Writes.{after_creating, block_created}
use Rattle.pliron_core.proofs.GrownLemmas.{get_grown, get_last, range_more, range_at}
use Rattle.pliron_core.proofs.HoldingLemmas.{some_is}
use Rattle.pliron_core.proofs.TreeLemmas.{cases_lt}
use Rattle.pliron_text.specs.declared.build.BuiltTree.{BuiltTree}
use Rattle.pliron_text.specs.declared.syntax.OperationText.{OperationText}
use Rattle.pliron_text.specs.declared.syntax.BlockText.{BlockText}
use Rattle.pliron_text.specs.declared.syntax.Syntax.{Syntax}
use Rattle.pliron_text.specs.Notation.{first_made, head_of_text}
use Rattle.pliron_text.specs.declared.syntax.MadeCounts.{MadeCounts}
use Rattle.pliron_text.specs.Building.{AddsOnly, HasMade, IsBuilt, IsGrown, KeepsEntries, after_appending}
use Rattle.pliron_text.specs.Laid.{IsBegun, IsWhole, IsMadeAs, HasNoUses, IsLastOf, IsLaid, LaysOn, LaysOperation, LaysBlock}
use Rattle.pliron_text.proofs.BuildLemmas.{length-last, appended-row, appended-parent, appended-other, created-parent, start-row, grown-start, built-start, start-results, start-regions}
use Rattle.pliron_text.proofs.GrowthLemmas.{more-block_parent, more-block_created}

pub last_of-last : (before : Option ℕ) (xs : List ℕ) (x : ℕ) → last_of before (xs ++ x ∷ []) ≡ Some x
last_of-last before [] x = refl
last_of-last before (y ∷ ys) x = last_of-last (Some y) ys x

-- a range that goes on
pub range-last : (xs ys : List ℕ) (a x : ℕ) → xs ≡ range_with_len a (length xs) → x ≡ a + length xs → ys ≡ xs ++ x ∷ [] → ys ≡ range_with_len a (length ys)
range-last xs ys a x e f g =
    let n : length ys ≡ length xs + 1 = length-last xs ys x g in
    g ∙ ap (λ z. xs ++ z ∷ []) f ∙ ap (λ z. z ++ (a + length xs) ∷ []) e ∙ sym (range_more a (length xs)) ∙ ap (range_with_len a) (sym n)

pub range-same : (xs ys : List ℕ) (a : ℕ) → xs ≡ range_with_len a (length xs) → ys ≡ xs → ys ≡ range_with_len a (length ys)
range-same xs ys a e f = f ∙ e ∙ ap (λ z. range_with_len a (length z)) (sym f)

pub range-read : (xs : List ℕ) (a i x : ℕ) → xs ≡ range_with_len a (length xs) → i < length xs → x ≡ get_or xs i x → x ≡ a + i
range-read xs a i x e lt f = (range_at a (length xs) i x (subst (λ z. slice_get z i ≡ Some x) e (slice_get_read xs (length xs) i x refl lt f))).0

pub made-same : (row more : OperationEntry) (place there : Option ℕ) (base : ℕ) (o : OperationText) → more ≡ row → there ≡ place → IsMadeAs row place base o → IsMadeAs more there base o
made-same row more place there base o e f h = record {
  head = ap (λ z. z.head) e ∙ h.head;
  results = ap (λ z. length z.results) e ∙ h.results;
  regions = ap (λ z. length z.regions) e ∙ h.regions;
  in_block = f ∙ h.in_block;
}

pub whole-same : (row more : OperationEntry) (o : OperationText) → more ≡ row → IsWhole row o → IsWhole more o
whole-same row more o e h = subst (λ z. IsWhole z o) (sym e) h

pub unused-same : (operands more successors others : List ℕ) → more ≡ operands → others ≡ successors → HasNoUses operands successors → HasNoUses more others
unused-same operands more successors others e f h = record { no_operands = e ∙ h.no_operands; no_successors = f ∙ h.no_successors }

-- one more operation
module _ (s : Syntax) (root base : ℕ) (u : Tree) (built more : BuiltTree) (o : OperationText) (block : ℕ) (is : IsTree u) (l : IsLaid s root base 0 0 u built) (at : slice_get s.operations.items (length built.operations.items) ≡ Some o) (within : o.block < length built.blocks.items) (read : block ≡ get_or built.blocks.items o.block block) (key : more.operations.items ≡ built.operations.items ++ length u.operations ∷ []) (blocks : more.blocks.items ≡ built.blocks.items) (regions : KeepsEntries built.regions.items more.regions.items) where
  abbrev head : Head
  head = head_of_text o

  abbrev v : Tree
  v = after_appending u head o.results o.regions block

  abbrev count : ℕ
  count = length built.operations.items

  more_count : length more.operations.items ≡ count + 1
  more_count = length-last built.operations.items more.operations.items (length u.operations) key

  block_key : block ≡ base + o.block
  block_key = range-read built.blocks.items base o.block block l.blocks within read

  op_key : length u.operations ≡ root + 1 + count
  op_key = l.operation_count

  row_old : (k : ℕ) → k < length u.operations → row_of v k ≡ row_of u k
  row_old k lt = ⊎_elim (λ e. e) (λ e. absurd (let f = e.2 in omega (arith, lt, f))) (get_last u.operations _ no_entry k)

  parent_old : (k : ℕ) → k < length u.operations → parent_of v k ≡ parent_of u k
  parent_old k lt = appended-other u head o.results o.regions block is k (λ e. omega (arith, lt, e))

  old_below : (n : ℕ) → n < count → root + 1 + n < length u.operations
  old_below n lt = let e = op_key in omega (arith, lt, e)

  body_new : body_of v block ≡ body_of u block ++ length u.operations ∷ []
  body_new = get_or-set_same u.bodies block (body_of u block ++ length u.operations ∷ []) [] (let e = l.block_count in let f = block_key in omega (arith, within, e, f))

  body_old : (b : ℕ) → b ≢ block → body_of v b ≡ body_of u b
  body_old b ne = get_or-set_other u.bodies block b (body_of u block ++ length u.operations ∷ []) [] ne

  new_made : IsMadeAs (row_of v (length u.operations)) (parent_of v (length u.operations)) base o
  new_made = made-same (record { head = Some head; results = range_with_len (length u.definitions) o.results; regions = range_with_len (length u.slots) o.regions }) (row_of v (length u.operations)) (Some block) (parent_of v (length u.operations)) base o
      (appended-row u head o.results o.regions block is) (appended-parent u head o.results o.regions block is)
      (record { head = refl; results = length-range_with_len (length u.definitions) o.results; regions = length-range_with_len (length u.slots) o.regions; in_block = ap Some block_key })

  same_text : (n : ℕ) (p : OperationText) → n ≡ count → slice_get s.operations.items n ≡ Some p → o ≡ p
  same_text n p e f = some_is (sym at ∙ ap (slice_get s.operations.items) (sym e) ∙ f)

  is_count : (n : ℕ) → count ≤ n → n < length more.operations.items → n ≡ count
  is_count n le lt = let e = more_count in omega (arith, le, lt, e)

  all_made : (n : ℕ) (p : OperationText) → slice_get s.operations.items n ≡ Some p → n < length more.operations.items → IsMadeAs (row_of v (root + 1 + n)) (parent_of v (root + 1 + n)) base p
  all_made n p f lt = ⊎_elim
      (λ less. made-same (row_of u (root + 1 + n)) (row_of v (root + 1 + n)) (parent_of u (root + 1 + n)) (parent_of v (root + 1 + n)) base p (row_old (root + 1 + n) (old_below n less)) (parent_old (root + 1 + n) (old_below n less)) (l.made n p f less))
      (λ ge.
      let e = is_count n ge lt in
      let k : length u.operations ≡ root + 1 + n = op_key ∙ ap (λ z. root + 1 + z) (sym e) in
      subst (λ z. IsMadeAs (row_of v z) (parent_of v z) base p) k (subst (λ z. IsMadeAs (row_of v (length u.operations)) (parent_of v (length u.operations)) base z) (same_text n p e f) new_made))
      (cases_lt n count)

  all_last : (n : ℕ) (p : OperationText) → slice_get s.operations.items n ≡ Some p → n < length more.operations.items → IsLastOf s (length more.operations.items) n p → last_of None (body_of v (base + p.block)) ≡ Some (root + 1 + n)
  all_last n p f lt alone = ⊎_elim
      (λ less.
      let other : o.block ≢ p.block = alone count o less (let e = more_count in omega (arith, e)) at in
      ap (last_of None) (body_old (base + p.block) (λ e. other (let g = block_key in omega (arith, e, g))))
      ∙ l.last n p f less (λ m q after below g. alone m q after (let e = more_count in omega (arith, e, below)) g))
      (λ ge.
      let e = is_count n ge lt in
      let b : base + p.block ≡ block = ap (λ z. base + z.block) (sym (same_text n p e f)) ∙ sym block_key in
      ap (λ z. last_of None (body_of v z)) b ∙ ap (last_of None) body_new ∙ last_of-last None (body_of u block) (length u.operations) ∙ ap Some (op_key ∙ ap (λ z. root + 1 + z) (sym e)))
      (cases_lt n count)

  all_placed : (j : ℕ) (b : BlockText) → slice_get s.blocks.items j ≡ Some b → j < length more.blocks.items → (r : ℕ) × (slice_get more.regions.items b.region ≡ Some r) × (block_parent_of v (base + j) ≡ Some r)
  all_placed j b f lt =
      let old = l.placed j b f (subst (λ z. j < length z) blocks lt) in
      (old.0, regions b.region old.0 old.1, old.2)

  pub laid-operation : IsLaid s root base 0 0 v more
  laid-operation = record {
    whole = whole-same (row_of u root) (row_of v root) s.root (row_old root (let e = op_key in omega (arith, e))) l.whole;
    operations = range-last built.operations.items more.operations.items (root + 1) (length u.operations) l.operations op_key key;
    operation_count = length-append u.operations _ ∙ (let e = op_key in let f = more_count in omega (arith, e, f));
    blocks = range-same built.blocks.items more.blocks.items base l.blocks blocks;
    block_count = length-set u.bodies block (body_of u block ++ length u.operations ∷ []) ∙ l.block_count ∙ ap (λ z. base + length z) (sym blocks);
    made = all_made;
    placed = all_placed;
    last = all_last;
    used = λ n p f lt. absurd (omega (arith, lt));
    root_operands = ap length (get_grown u.operands [] root) ∙ l.root_operands;
    root_successors = get_grown u.successors [] root ∙ l.root_successors;
    unused = λ k le. unused-same (operands_of u k) (operands_of v k) (successors_of u k) (successors_of v k) (get_grown u.operands [] k) (get_grown u.successors [] k) (l.unused k le);
  }

-- one more block
module _ (s : Syntax) (root base : ℕ) (u : Tree) (built more : BuiltTree) (b : BlockText) (region : ℕ) (is : IsTree u) (l : IsLaid s root base 0 0 u built) (at : slice_get s.blocks.items (length built.blocks.items) ≡ Some b) (within : b.region < length built.regions.items) (read : region ≡ get_or built.regions.items b.region region) (operations : more.operations.items ≡ built.operations.items) (key : more.blocks.items ≡ built.blocks.items ++ length u.bodies ∷ []) (regions : more.regions.items ≡ built.regions.items) where
  abbrev w : Tree
  w = block_created u region b.arguments

  abbrev block_count : ℕ
  block_count = length built.blocks.items

  more_blocks : length more.blocks.items ≡ block_count + 1
  more_blocks = length-last built.blocks.items more.blocks.items (length u.bodies) key

  below : (n : ℕ) → n < length more.operations.items → n < length built.operations.items
  below n lt = subst (λ z. n < length z) operations lt

  block_placed : (j : ℕ) (c : BlockText) → slice_get s.blocks.items j ≡ Some c → j < length more.blocks.items → (r : ℕ) × (slice_get more.regions.items c.region ≡ Some r) × (block_parent_of w (base + j) ≡ Some r)
  block_placed j c f lt = ⊎_elim
      (λ less.
      let old = l.placed j c f less in
      (old.0, ap (λ z. slice_get z c.region) regions ∙ old.1, more-block_parent u w (more-block_created u region b.arguments) (base + j) old.0 old.2))
      (λ ge.
      let e : j ≡ block_count = (let n = more_blocks in omega (arith, ge, lt, n)) in
      let same : b ≡ c = some_is (sym at ∙ ap (slice_get s.blocks.items) (sym e) ∙ f) in
      let k : base + j ≡ length u.bodies = ap (λ z. base + z) e ∙ sym l.block_count in
      (region, ap (λ z. slice_get z c.region) regions ∙ ap (λ z. slice_get built.regions.items z.region) (sym same) ∙ slice_get_read built.regions.items (length built.regions.items) b.region region refl within read, ap (block_parent_of w) k ∙ created-parent u region b.arguments is))
      (cases_lt j block_count)

  block_last : (n : ℕ) (p : OperationText) → slice_get s.operations.items n ≡ Some p → n < length more.operations.items → IsLastOf s (length more.operations.items) n p → last_of None (body_of w (base + p.block)) ≡ Some (root + 1 + n)
  block_last n p f lt alone = ap (last_of None) (get_grown u.bodies [] (base + p.block)) ∙ l.last n p f (below n lt) (λ m q after less g. alone m q after (subst (λ z. m < length z) (sym operations) less) g)

  pub laid-block : IsLaid s root base 0 0 w more
  laid-block = record {
    whole = l.whole;
    operations = range-same built.operations.items more.operations.items (root + 1) l.operations operations;
    operation_count = l.operation_count ∙ ap (λ z. root + 1 + length z) (sym operations);
    blocks = range-last built.blocks.items more.blocks.items base (length u.bodies) l.blocks l.block_count key;
    block_count = length-append u.bodies _ ∙ (let e = l.block_count in let f = more_blocks in omega (arith, e, f));
    made = λ n p f lt. l.made n p f (below n lt);
    placed = block_placed;
    last = block_last;
    used = λ n p f lt. absurd (omega (arith, lt));
    root_operands = l.root_operands;
    root_successors = l.root_successors;
    unused = l.unused;
  }

-- nothing but the text's operation
module _ (s : Syntax) (t : Tree) (is : IsTree t) where
  abbrev start : Tree
  start = after_creating t (head_of_text s.root) s.root.results s.root.regions

  unused_new : (k : ℕ) → length t.operations ≤ k → HasNoUses (operands_of start k) (successors_of start k)
  unused_new k le = record {
    no_operands = get_grown t.operands [] k ∙ get_or_past t.operands k [] (let e = is.keys.operands in omega (arith, e, le));
    no_successors = get_grown t.successors [] k ∙ get_or_past t.successors k [] (let e = is.keys.successors in omega (arith, e, le));
  }

  nothing : (A : Type 0) (xs : List ℕ) (n : ℕ) → xs ≡ [] → n < length xs → A
  nothing A xs n e lt = let h : n < length {A = ℕ} [] = subst (λ z. n < length z) e lt in absurd (omega (arith, h))

  start_laid : (built : BuiltTree) → built.operations.items ≡ [] → built.blocks.items ≡ [] → IsLaid s (length t.operations) (length t.bodies) 0 0 start built
  start_laid built ops blocks = record {
    whole = subst (λ z. IsWhole z s.root) (sym (start-row t (head_of_text s.root) s.root.results s.root.regions is)) (record { head = refl; results = length-range_with_len (length t.definitions) s.root.results; regions = length-range_with_len (length t.slots) s.root.regions });
    operations = ops ∙ ap (λ z. range_with_len (length t.operations + 1) (length z)) (sym ops);
    operation_count = let e : length start.operations ≡ length t.operations + 1 = length-append t.operations _ in let z : length built.operations.items ≡ 0 = ap length ops in omega (arith, e, z);
    blocks = blocks ∙ ap (λ z. range_with_len (length t.bodies) (length z)) (sym blocks);
    block_count = let z : length built.blocks.items ≡ 0 = ap length blocks in omega (arith, z);
    made = λ n p f lt. nothing _ built.operations.items n ops lt;
    placed = λ j c f lt. nothing _ built.blocks.items j blocks lt;
    last = λ n p f lt alone. nothing _ built.operations.items n ops lt;
    used = λ n p f lt. absurd (omega (arith, lt));
    root_operands = ap length (unused_new (length t.operations) (omega arith)).no_operands;
    root_successors = (unused_new (length t.operations) (omega arith)).no_successors;
    unused = λ k le. unused_new k (omega (arith, le));
  }

  pub laid-start : (u : Tree) (root : ℕ) (built : BuiltTree) → u ≡ start → root ≡ length t.operations → built.operations.items ≡ [] → built.blocks.items ≡ [] → IsLaid s root (length t.bodies) 0 0 u built
  laid-start u root built same e ops blocks = subst (λ z. IsLaid s root (length t.bodies) 0 0 z built) (sym same) (subst (λ k. IsLaid s k (length t.bodies) 0 0 start built) (sym e) (start_laid built ops blocks))

-- what is so before anything is inside the operation of a text
module _ (s : Syntax) (t u : Tree) (root : ℕ) (b : IsBegun t s.root u root) where
  pub begun-grown : IsGrown t u root
  begun-grown = grown-start t (head_of_text s.root) s.root.results s.root.regions b.before u root b.made b.fresh

  pub begun-results : length (results_of u root) ≡ s.root.results
  begun-results = start-results t (head_of_text s.root) s.root.results s.root.regions b.before u root b.made b.fresh

  pub begun-regions : length (regions_of u root) ≡ s.root.regions
  begun-regions = start-regions t (head_of_text s.root) s.root.results s.root.regions b.before u root b.made b.fresh

  pub begun-built : IsTree u → (built : BuiltTree) → built.operations.items ≡ [] → built.blocks.items ≡ [] → AddsOnly [] built.regions.items (regions_of u root) → IsBuilt t u root built
  begun-built is built ops blocks regs = built-start t (head_of_text s.root) s.root.results s.root.regions b.before u built root b.made is b.fresh ops blocks regs

  pub begun-laid : (built : BuiltTree) → built.operations.items ≡ [] → built.blocks.items ≡ [] → IsLaid s root (length t.bodies) 0 0 u built
  begun-laid built ops blocks = laid-start s t b.before u root built b.made b.fresh ops blocks

-- so much is made then
pub begun-made : (s : Syntax) (built : BuiltTree) (results regions : ℕ) → built.operations.items ≡ [] → built.blocks.items ≡ [] → results ≡ s.root.results → regions ≡ s.root.regions → length built.values.items ≡ length {A = ℕ} [] + results → length built.regions.items ≡ length {A = ℕ} [] + regions → HasMade built (first_made s.root)
begun-made s built results regions ops blocks e f values regs = record {
  operations = ap length ops;
  blocks = ap length blocks;
  regions = omega (arith, f, regs);
  values = omega (arith, e, values);
}

-- the laying goes on with the next operation or block of the text
pub lays-operation : (s : Syntax) (u v w : Tree) (a b c : BuiltTree) (m : MadeCounts) (n : ℕ) (o p : OperationText) → LaysOn s u a v b → HasMade b m → n ≡ m.operations → slice_get s.operations.items n ≡ Some o → p ≡ o → LaysOperation p v b w c → LaysOn s u a w c
lays-operation s u v w a b c m n o p before made e at same lays root base l =
    lays s (ap (slice_get s.operations.items) (made.operations ∙ sym e) ∙ at ∙ ap Some (sym same)) root base (before root base l)

pub lays-block : (s : Syntax) (u v w : Tree) (a b c : BuiltTree) (m : MadeCounts) (n : ℕ) (o p : BlockText) → LaysOn s u a v b → HasMade b m → n ≡ m.blocks → slice_get s.blocks.items n ≡ Some o → p ≡ o → LaysBlock p v b w c → LaysOn s u a w c
lays-block s u v w a b c m n o p before made e at same lays root base l =
    lays s (ap (slice_get s.blocks.items) (made.blocks ∙ sym e) ∙ at ∙ ap Some (sym same)) root base (before root base l)
