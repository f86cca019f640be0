-- The copies of blocks are looked at one after the other, and their returns led back.
use Rattle.std.proofs.Common.{◌≡◌, inl, ⊎_elim, ℕ, ◌+◌, ◌<◌, ◌≤◌, Bool, List, [], ◌∷◌, ◌++◌, length, get_or, take, drop, map, Some, None, IsSome, refl, sym, ap, ◌∙◌, subst, arith}
use Rattle.std.specs.Option.{option_map}
use Rattle.std.proofs.lemmas.List.{map-append, take_all}
use Rattle.pliron_core.specs.declared.attrs.Head.{Head}
use Rattle.pliron_core.specs.Invariant.{IsTree}
use Rattle.pliron_core.specs.Tree.{Tree, In, IsDistinct, IsLive, IsBlock, first_of, last_of, operands_of, results_of, body_of}
use Rattle.pliron_core.proofs.HoldingLemmas.{some_of}
use Rattle.pliron_core.proofs.ListLemmas.{In-left, distinct-apart}
use Rattle.pliron_core.proofs.TreeLemmas.{live-within, block-within}
use Rattle.pliron_laws.specs.Datum.{Meaning}
use Rattle.pliron_rewrite_copies.specs.Copies.{Originals}
use Rattle.pliron_rewrite_copies.proofs.Maps.{from_map, last_map, map_none}
use Rattle.pliron_rewrite_calls.specs.declared.copies.Copies.{Copies}
use Rattle.pliron_rewrite_calls.specs.CopyTables.{block_copy, or_itself, block_or_copy_in}
use Rattle.pliron_rewrite_calls.specs.Copying.{originals_of, AreCopiedInto, KnowsCopies}
use Rattle.pliron_rewrite_calls.specs.CopySteps.{CopySource, MayCopy, IsGrownIn}
use Rattle.pliron_rewrite_calls.specs.InliningSteps.{IsReturnLed, AreReturnsBare, AreReturnsLed}
use Rattle.pliron_rewrite_calls.proofs.CopyLists.{split_at, take_next, there}
use Rattle.pliron_rewrite_calls.proofs.Growing.{new_only, block_grown}
use Rattle.pliron_rewrite_calls.proofs.ReturnsLed.{led_kept, led_more, last_still, still, grown_replaced}

-- blocks of t were copied, and these are the copies
pub record AreReady (t u : Tree) (region : ℕ) (blocks : List ℕ) (copies : Copies) : Type 0 where
  pub before : IsTree t
  pub tree : IsTree u
  pub distinct : IsDistinct blocks
  pub copied : AreCopiedInto t u region blocks
  pub known : KnowsCopies t u blocks copies
  pub grown : IsGrownIn t u region

pub are_ready : (x : CopySource) → MayCopy x → (blocks : List ℕ) → x.blocks ≡ blocks → (u : Tree) → IsTree u → (copies : Copies) → AreCopiedInto x.tree u x.region x.blocks → KnowsCopies x.tree u x.blocks copies → IsGrownIn x.tree u x.region → AreReady x.tree u x.region blocks copies
are_ready x may blocks same u wu copies c known grown = record {
  before = may.tree;
  tree = wu;
  distinct = subst IsDistinct same may.apart;
  copied = subst (AreCopiedInto x.tree u x.region) same c;
  known = subst (λ z. KnowsCopies x.tree u z copies) same known;
  grown = grown;
}

module _ (t u : Tree) (region : ℕ) (blocks : List ℕ) (copies : Copies) (r : AreReady t u region blocks copies) where
  w : IsTree t
  w = r.before

  wu : IsTree u
  wu = r.tree

  distinct : IsDistinct blocks
  distinct = r.distinct

  c : AreCopiedInto t u region blocks
  c = r.copied

  known : KnowsCopies t u blocks copies
  known = r.known

  grown : IsGrownIn t u region
  grown = r.grown

  abbrev o : Originals
  o = originals_of t blocks

  abbrev copy : ℕ → ℕ
  copy = block_or_copy_in copies

  -- what is known of the copy of a block
  pub copy_of : (b : ℕ) → In b blocks → (length t.bodies ≤ block_or_copy_in copies b) × ((originals_of t blocks).block (block_or_copy_in copies b) ≡ b) × IsBlock u (block_or_copy_in copies b)
  copy_of b i =
      let y = some_of (block_copy copies b) (known.blocks_known b i) in
      let k = known.block b y.0 y.1 in
      let e : copy b ≡ y.0 = ap (or_itself b) y.1 in
      (subst (λ z. length t.bodies ≤ z) (sym e) k.0, ap o.block e ∙ k.1, subst (IsBlock u) (sym e) k.2)

  pub copies_new : (b : ℕ) → In b (map (block_or_copy_in copies) blocks) → length t.bodies ≤ b
  copies_new b i = let y = from_map copy blocks b i in subst (λ z. length t.bodies ≤ z) y.2 (copy_of y.0 y.1).0

  module _ (i b : ℕ) (lt : i < length blocks) (at : b ≡ get_or blocks i b) where
    whole : blocks ≡ take i blocks ++ b ∷ drop (i + 1) blocks
    whole = split_at blocks i b lt at

    pub here : In b blocks
    here = there blocks i b lt at

    pub next_copies : map (block_or_copy_in copies) (take (i + 1) blocks) ≡ map (block_or_copy_in copies) (take i blocks) ++ block_or_copy_in copies b ∷ []
    next_copies = ap (map copy) (take_next blocks i b lt at) ∙ map-append copy (take i blocks) (b ∷ [])

    pub not_yet : In (block_or_copy_in copies b) (map (block_or_copy_in copies) (take i blocks)) → ⊥
    not_yet j =
        let y = from_map copy (take i blocks) (copy b) j in
        let among : In y.0 blocks = subst (In y.0) (sym whole) (In-left y.0 (take i blocks) (b ∷ drop (i + 1) blocks) y.1) in
        let same : y.0 ≡ b = sym (copy_of y.0 among).1 ∙ ap o.block y.2 ∙ (copy_of b here).1 in
        distinct-apart (take i blocks) (b ∷ drop (i + 1) blocks) (subst IsDistinct whole distinct) b (subst (λ z. In z (take i blocks)) same y.1) (inl refl)

    module _ (m : Meaning) (returns : Head → Bool) (v : Tree) (after : ℕ) (olds : List ℕ) (a : AreReturnsLed m returns u v after (map (block_or_copy_in copies) (take i blocks)) olds) where
      pub copy_stands : IsBlock v (block_or_copy_in copies b)
      copy_stands = subst IsSome (sym (a.places.block_parents (copy b))) (copy_of b here).2

      pub after_stands : IsBlock t after → IsBlock v after
      after_stands is = subst IsSome (sym (a.places.block_parents after)) (block_grown t u region w grown after is)

      pub bare_still : AreReturnsBare returns t b → AreReturnsBare returns v (block_or_copy_in copies b)
      bare_still bare k h last head is =
          let l = last_still m returns u v after (map copy (take i blocks)) olds wu a (copy b) not_yet k last in
          let s = still m returns u v after (map copy (take i blocks)) olds wu a (copy b) not_yet k l.1 in
          let f = copy_of b here in
          let ge = new_only t u region w grown wu k (copy b) l.1 f.0 in
          let less = live-within u k (wu.joined.all_in_place k (copy b) l.1).0 in
          let y = c.copies k ge less in
          let body : body_of t b ≡ map o.operation (body_of u (copy b)) = ap (body_of t) (sym f.1) ∙ (c.block_copies (copy b) f.0 (block-within u (copy b) wu.keys f.2)).body in
          let end : last_of None (body_of t b) ≡ Some (o.operation k) = ap (last_of None) body ∙ last_map o.operation None (body_of u (copy b)) ∙ ap (option_map o.operation) l.0 in
          let q = bare (o.operation k) h end (y.same.head ∙ sym (ap (λ z. z.head) s.row) ∙ head) is in
          (ap (λ z. z.results) s.row ∙ map_none o.value (results_of u k) (sym y.same.results ∙ q.0), ap (λ z. z.regions) s.row ∙ y.childless)

      module _ (z : Tree) (wv : IsTree v) (one : IsReturnLed m returns v z (block_or_copy_in copies b) after) where
        pub led_next : (next : List ℕ) × AreReturnsLed m returns u z after (map (block_or_copy_in copies) (take (i + 1) blocks)) next
        led_next = ⊎_elim
            (λ y. (olds, subst (λ bs. AreReturnsLed m returns u z after bs olds) (sym next_copies) (subst (λ (q : Tree). AreReturnsLed m returns u q after (map copy (take i blocks) ++ copy b ∷ []) olds) (sym y.0) (led_kept m returns u v after (map copy (take i blocks)) olds wu a (copy b) not_yet y.1))))
            (λ y. (olds ++ y.0 ∷ [], subst (λ bs. AreReturnsLed m returns u z after bs (olds ++ y.0 ∷ [])) (sym next_copies) (led_more m returns u v after (map copy (take i blocks)) olds wu a (copy b) not_yet z y.0 y.1 y.2 y.3 y.4)))
            one

        pub grown_next : IsGrownIn t v region → IsGrownIn t z region
        grown_next g = ⊎_elim
            (λ y. subst (λ (q : Tree). IsGrownIn t q region) (sym y.0) g)
            (λ y. grown_replaced t v z region (copy b) y.0 (length v.operations) y.1 after w wv g (copy_of b here).0 y.4)
            one

pub led_all : (m : Meaning) (returns : Head → Bool) (u v : Tree) (after i : ℕ) (blocks : List ℕ) (copies : Copies) → length blocks ≤ i → ((olds : List ℕ) × AreReturnsLed m returns u v after (map (block_or_copy_in copies) (take i blocks)) olds) → (olds : List ℕ) × AreReturnsLed m returns u v after (map (block_or_copy_in copies) blocks) olds
led_all m returns u v after i blocks copies le a = (a.0, subst (λ bs. AreReturnsLed m returns u v after (map (block_or_copy_in copies) bs) a.0) (take_all i blocks le) a.1)

-- ---- the first block

pub first_is : (xs : List ℕ) (x : ℕ) → 0 < length xs → x ≡ get_or xs 0 x → first_of xs None ≡ Some x
first_is [] x lt e = absurd (omega (arith, lt))
first_is (y ∷ xs) x lt e = ap Some (sym e)

pub entry_stands : (t u : Tree) (region : ℕ) (blocks : List ℕ) (copies : Copies) (r : AreReady t u region blocks copies) (m : Meaning) (returns : Head → Bool) (v : Tree) (after : ℕ) (olds : List ℕ) → AreReturnsLed m returns u v after (map (block_or_copy_in copies) blocks) olds → (b : ℕ) → 0 < length blocks → b ≡ get_or blocks 0 b → IsBlock v (block_or_copy_in copies b)
entry_stands t u region blocks copies r m returns v after olds a b lt at = subst IsSome (sym (a.places.block_parents (block_or_copy_in copies b))) (copy_of t u region blocks copies r b (there blocks 0 b lt at)).2

pub operands_stay : (t u : Tree) (region k : ℕ) → IsLive t k → IsGrownIn t u region → operands_of u k ≡ operands_of t k
operands_stay t u region k live grown = grown.operands k (live-within t k live)
