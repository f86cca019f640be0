-- What is laid of a sound text is well linked.
use Rattle.std.proofs.Common.{◌≡◌, ◌⊎◌, ℕ, ◌+◌, ◌-◌, ◌<◌, ◌≤◌, List, [], ◌∷◌, length, Option, Some, None, sym, ap, ◌∙◌, subst, inl, inr, ⊎_elim, arith, slice_get, IsTrue}
use Rattle.std.proofs.lemmas.Option.{slice_get_cases, slice_get_within}
use Rattle.pliron_core.specs.declared.attrs.Head.{Head}
use Rattle.pliron_core.specs.Tree.{Tree, In, IsLive, IsInside, IsWithin, results_of, regions_of, operands_of, successors_of, block_parent_of}
use Rattle.pliron_core.specs.Invariant.{IsTree}
use Rattle.pliron_core.proofs.HoldingLemmas.{some_is, past_live, holder_live}
use Rattle.pliron_core.proofs.TreeLemmas.{cases_lt}
use Rattle.pliron_text.specs.declared.build.BuiltTree.{BuiltTree}
use Rattle.pliron_text.specs.declared.syntax.OperationText.{OperationText}
use Rattle.pliron_text.specs.declared.syntax.Syntax.{Syntax}
use Rattle.pliron_laws.specs.Datum.{Meaning}
use Rattle.pliron_laws.specs.Linked.{IsAdmitted, EndsBlock, EdgesLast, IsWellLinked}
use Rattle.pliron_text.specs.Notation.{IsUpToLast, IsAdmittedSyntax, IsSoundSyntax, head_of_text}
use Rattle.pliron_text.specs.Building.{HasAllMade, IsGrown}
use Rattle.pliron_text.specs.Laid.{IsLastOf, IsLaid, IsAllLaid}
use Rattle.pliron_text.proofs.UndoneLemmas.{contained, old_not_within}

past : (a b : ℕ) → a ≤ b → (n : ℕ) × (b ≡ a + n)
past a b le = (b - a, omega (arith, le))

some_member : (x : ℕ) (xs : List ℕ) → In x xs → 0 < length xs
some_member x [] i = absurd i
some_member x (y ∷ ys) i = omega arith

-- no operation stands in the same block after one with successors
not_after : (last : Option ℕ) (n m : ℕ) (o q : OperationText) → IsUpToLast last n o → IsUpToLast last m q → 0 < length o.successors.items → n < m → ⊥
not_after None n m o q h g some lt = absurd h
not_after (Some last) n m o q h g some lt = let e = h.1 some in let le = g.0 in omega (arith, e, le, lt)

admits_same : (m : Meaning) (h g : Head) (a b c d a' b' c' d' : ℕ) → h ≡ g → a ≡ a' → b ≡ b' → c ≡ c' → d ≡ d' → IsTrue (m.admits g a' b' c' d') → IsTrue (m.admits h a b c d)
admits_same m h g a b c d a' b' c' d' eh ea eb ec ed is = subst IsTrue (sym (ap (λ z. m.admits z a b c d) eh ∙ ap (λ z. m.admits g z b c d) ea ∙ ap (λ z. m.admits g a' z c d) eb ∙ ap (λ z. m.admits g a' b' z d) ec ∙ ap (λ z. m.admits g a' b' c' z) ed)) is

module _ (s : Syntax) (t u : Tree) (root : ℕ) (wt : IsTree t) (wu : IsTree u) (g : IsGrown t u root) (sound : IsSoundSyntax s) (built : BuiltTree) (all : HasAllMade s built) (l : IsLaid s root (length t.bodies) (length s.operations.items) (length s.root.operands.items) u built) where
  abbrev base : ℕ
  base = length t.bodies

  inside_live : (k : ℕ) → IsInside u root k → IsLive u k
  inside_live k (IsInside.Directly e) = (holder_live u k root wu.joined e).0
  inside_live k (IsInside.Deeper p e i) = (holder_live u k p wu.joined e).0

  -- the text of what stands inside the root
  abbrev HasText : ℕ → Type 0
  HasText k = (n : ℕ) × (o : OperationText) × (slice_get s.operations.items n ≡ Some o) × (k ≡ root + 1 + n)

  text_of : (k : ℕ) → root + 1 ≤ k → IsLive u k → HasText k
  text_of k le live =
      let p = past (root + 1) k le in
      let lt : p.0 < length s.operations.items = (let a = past_live u k live in let b = l.operation_count in let c = all.operations in let d = p.1 in omega (arith, a, b, c, d)) in
      ⊎_elim
      (λ found. (p.0, found.0, found.2, p.1))
      (λ none. absurd (let f = none.0 in omega (arith, lt, f)))
      (slice_get_cases s.operations.items p.0).1

  place : (k : ℕ) → IsWithin u root k → (k ≡ root) ⊎ HasText k
  place k (inl e) = inl e
  place k (inr i) = ⊎_elim
      (λ old. absurd (old_not_within t u root wt wu g k old (inr i)))
      (λ from. ⊎_elim
      (λ lt. inl (omega (arith, from, lt)))
      (λ le. inr (text_of k le (inside_live k i)))
      (cases_lt k (root + 1)))
      (cases_lt k root)

  below : (n : ℕ) (o : OperationText) → slice_get s.operations.items n ≡ Some o → n < length built.operations.items
  below n o at = let lt = slice_get_within s.operations.items n o at in let e = all.operations in omega (arith, lt, e)

  root_admitted : (m : Meaning) → IsAdmittedSyntax m s → IsAdmitted m u root
  root_admitted m admitted h e = admits_same m h (head_of_text s.root) (length (operands_of u root)) (length (results_of u root)) (length (successors_of u root)) (length (regions_of u root)) (length s.root.operands.items) s.root.results (length s.root.successors.items) s.root.regions
      (some_is (sym e ∙ l.whole.head)) l.root_operands l.whole.results (ap length l.root_successors ∙ sym sound.root.no_successors) l.whole.regions admitted.root

  text_admitted : (m : Meaning) → IsAdmittedSyntax m s → (n : ℕ) (o : OperationText) → slice_get s.operations.items n ≡ Some o → (k : ℕ) → k ≡ root + 1 + n → IsAdmitted m u k
  text_admitted m admitted n o at k e =
      let made = l.made n o at (below n o at) in
      let used = l.used n o at (slice_get_within s.operations.items n o at) in
      let j : ℕ = root + 1 + n in
      subst (IsAdmitted m u) (sym e)
      (λ h f. admits_same m h (head_of_text o) (length (operands_of u j)) (length (results_of u j)) (length (successors_of u j)) (length (regions_of u j)) (length o.operands.items) o.results (length o.successors.items) o.regions
      (some_is (sym f ∙ made.head)) used.operand_count made.results used.successor_count made.regions (admitted.operations n o at))

  all_admitted : (m : Meaning) → IsAdmittedSyntax m s → (k : ℕ) → IsWithin u root k → IsAdmitted m u k
  all_admitted m admitted k within = ⊎_elim
      (λ same. subst (IsAdmitted m u) (sym same) (root_admitted m admitted))
      (λ text. text_admitted m admitted text.0 text.1 text.2 k text.3)
      (place k within)

  alone : (n : ℕ) (o : OperationText) → slice_get s.operations.items n ≡ Some o → 0 < length o.successors.items → IsLastOf s (length built.operations.items) n o
  alone n o at some m q after less f same =
      let here = sound.operations n o at in
      let there = sound.operations m q f in
      let block : there.block ≡ here.block = some_is (sym there.in_block ∙ ap (slice_get s.blocks.items) same ∙ here.in_block) in
      not_after here.block.last n m o q here.last (subst (λ z. IsUpToLast z.last m q) block there.last) some after

  same_region : (n : ℕ) (o : OperationText) → slice_get s.operations.items n ≡ Some o → (y : ℕ) → In y (successors_of u (root + 1 + n)) → block_parent_of u y ≡ block_parent_of u (base + o.block)
  same_region n o at y i =
      let here = sound.operations n o at in
      let named = (l.used n o at (slice_get_within s.operations.items n o at)).named y i in
      let target = here.own_region named.0 named.1 in
      let inside : (j : ℕ) → j < length s.blocks.items → j < length built.blocks.items = λ j lt. (let e = all.blocks in omega (arith, lt, e)) in
      let there = l.placed named.0 target.0 target.1 (inside named.0 (slice_get_within s.blocks.items named.0 target.0 target.1)) in
      let own = l.placed o.block here.block here.in_block (inside o.block (slice_get_within s.blocks.items o.block here.block here.in_block)) in
      ap (block_parent_of u) named.2 ∙ there.2 ∙ sym there.1 ∙ ap (slice_get built.regions.items) target.2 ∙ own.1 ∙ sym own.2

  ends : (n : ℕ) (o : OperationText) → slice_get s.operations.items n ≡ Some o → (k x : ℕ) → k ≡ root + 1 + n → In x (successors_of u k) → EndsBlock u k
  ends n o at k x e i =
      let used = l.used n o at (slice_get_within s.operations.items n o at) in
      let member : In x (successors_of u (root + 1 + n)) = subst (λ z. In x (successors_of u z)) e i in
      let some : 0 < length o.successors.items = (let lt = some_member x (successors_of u (root + 1 + n)) member in let f = used.successor_count in omega (arith, lt, f)) in
      subst (EndsBlock u) (sym e) (record {
        block = base + o.block;
        in_block = (l.made n o at (below n o at)).in_block;
        last = l.last n o at (below n o at) (alone n o at some);
        own_region = same_region n o at;
      })

  at_root : (x : ℕ) → In x (successors_of u root) → ⊥
  at_root x i = subst (In x) l.root_successors i

  within_ends : (k x : ℕ) → In x (successors_of u k) → IsWithin u root k → EndsBlock u k
  within_ends k x i within = ⊎_elim
      (λ same. absurd (at_root x (subst (λ z. In x (successors_of u z)) same i)))
      (λ text. ends text.0 text.1 text.2 k x text.3 i)
      (place k within)

  all_edges : EdgesLast u root
  all_edges k x i (inl inside) = within_ends k x i (inr inside)
  all_edges k x i (inr held) = within_ends k x i ((contained t u root wt wu g).blocks k x i held)

  linked : (m : Meaning) → IsAdmittedSyntax m s → IsWellLinked m u root
  linked m admitted = record { edges = all_edges; admitted = all_admitted m admitted }

-- a text that is sound and all laid is well linked under each meaning that admits what it has
pub linked-text : (s : Syntax) (t u : Tree) (root : ℕ) → IsTree t → IsTree u → IsGrown t u root → IsSoundSyntax s → IsAllLaid s t u root → (m : Meaning) → IsAdmittedSyntax m s → IsWellLinked m u root
linked-text s t u root wt wu g sound h m admitted = linked s t u root wt wu g sound h.0 h.1 h.2 m admitted
