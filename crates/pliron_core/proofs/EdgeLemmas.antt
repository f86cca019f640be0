-- Lemmas on the predecessors of a block, by its uses.
use Rattle.std.proofs.Common.{◌≡◌, ◌≢◌, ◌⊎◌, ℕ, ◌+◌, ◌<◌, ◌≤◌, true, false, not, ◌&&◌, List, [], ◌∷◌, length, nat_lt, nat_eq, Option, Some, None, refl, sym, ap, ◌∙◌, subst, inl, inr, arith}
use Rattle.std.specs.Option.{IsSome, is_some}
use Rattle.std.specs.List.{filter, slice_get, list_any}
use Rattle.std.proofs.lemmas.Bool.{cases_order, ltb-true, lt-ltb, false≢true, cases_lt, eqb-true, eq-eqb, and_parts, and_from, not-true, not-false}
use Rattle.std.proofs.lemmas.List.{get_or_past}
use Rattle.std.proofs.lemmas.Option.{none-some, same_Some, slice_get_within}
use Rattle.pliron_core.specs.declared.uses.Use.{Use}
use Rattle.pliron_core.specs.Lists.{In, IsDistinct, last_of}
use Rattle.pliron_core.specs.Rising.{IsRising}
use Rattle.pliron_core.specs.Tree.{Tree, View, IsLive, IsBlock, head_of, operands_of, successors_of, parent_of, body_of, block_parent_of, uses_of}
use Rattle.pliron_core.specs.Invariant.{IsJoined, IsTree, HaveUses}
use Rattle.pliron_core.specs.Edges.{succs_from, leads_to, blocks_in, preds_of}
use Rattle.pliron_core.specs.EdgeUses.{IsSource, IsFirstPlace, IsEdge, IsFirstEdge}
use Rattle.pliron_core.proofs.ReadLemmas.{In-last, In-block}
use Rattle.pliron_core.proofs.FilterLemmas.{In-filter, In-filtered, distinct-filter, rising-filter, same_members, one_none, one_all, one_two, below_all, any_at, at_any, first_at}

-- an operation that uses something stands
live-by : (t : Tree) (k : ℕ) → (head_of t k ≡ None → ⊥) → IsLive t k
live-by t k out = elim (head_of t k) as (λ o. (o ≡ None → ⊥) → IsSome o) [ None ↦ λ f. absurd (f refl) | Some h ↦ λ f. refl ] out

nowhere : (xs : List ℕ) (i x : ℕ) → xs ≡ [] → slice_get xs i ≡ Some x → ⊥
nowhere xs i x empty e = none-some x (sym (ap (λ l. slice_get l i) empty) ∙ e)

pub successor-user : (t : Tree) → IsJoined t → (k i x : ℕ) → slice_get (successors_of t k) i ≡ Some x → IsLive t k
successor-user t j k i x e = live-by t k (λ deleted. nowhere (successors_of t k) i x (j.erased k deleted).1 e)

pub operand-user : (t : Tree) → IsJoined t → (k i x : ℕ) → slice_get (operands_of t k) i ≡ Some x → IsLive t k
operand-user t j k i x e = live-by t k (λ deleted. nowhere (operands_of t k) i x (j.erased k deleted).0 e)

-- a block that stands has a key in the tables
pub block-within : (t : Tree) → IsTree t → (b : ℕ) → IsBlock t b → b < length t.arguments
block-within t w b live =
    elim (cases_lt b (length t.block_parents)) [
      | inl lt ↦ omega (arith, w.keys.arguments, w.keys.block_parents)
      | inr past ↦ absurd (false≢true (sym (ap is_some (get_or_past t.block_parents b None past)) ∙ live))
    ]

-- the blocks of a region, by their owner
blocks-owned : (t : Tree) → IsTree t → (o : Option ℕ) (a : ℕ) → In a (blocks_in t o) → block_parent_of t a ≡ o
blocks-owned t w None a i = absurd i
blocks-owned t w (Some r) a i = w.layouts.owned a r i

blocks-listed : (t : Tree) → IsTree t → (o : Option ℕ) (a : ℕ) → IsSome o → block_parent_of t a ≡ o → In a (blocks_in t o)
blocks-listed t w None a some e = absurd (false≢true some)
blocks-listed t w (Some r) a some e = w.layouts.listed a r e

blocks-distinct : (t : Tree) → IsTree t → (o : Option ℕ) → IsDistinct (blocks_in t o)
blocks-distinct t w None = tt
blocks-distinct t w (Some r) = w.layouts.distinct r

blocks-rising : (t : Tree) → IsTree t → (o : Option ℕ) → IsRising (blocks_in t o)
blocks-rising t w None = tt
blocks-rising t w (Some r) = w.joined.ordered r

pub preds-distinct : (t : Tree) → IsTree t → (block : ℕ) → IsDistinct (preds_of t block)
preds-distinct t w block = distinct-filter (λ a. leads_to t block a) _ (blocks-distinct t w (block_parent_of t block))

pub preds-rising : (t : Tree) → IsTree t → (block : ℕ) → IsRising (preds_of t block)
preds-rising t w block = rising-filter (λ a. leads_to t block a) _ (blocks-rising t w (block_parent_of t block))

-- a predecessor ends with an operation that names the block
ends : (t : Tree) (o : Option ℕ) (block : ℕ) → list_any (λ s. nat_eq s block) (succs_from t o) ≡ true → (user : ℕ) × (place : ℕ) × (o ≡ Some user) × (slice_get (successors_of t user) place ≡ Some block)
ends t None block e = absurd (false≢true e)
ends t (Some user) block e = let q = any_at (successors_of t user) block e in (user, q.0, refl, q.1)

pub pred-source : (t : Tree) → IsTree t → (block a : ℕ) → In a (preds_of t block) → (user : ℕ) × (place : ℕ) × IsSource t block user a × (slice_get (successors_of t user) place ≡ Some block)
pred-source t w block a i =
    let h = In-filter (λ z. leads_to t block z) (blocks_in t (block_parent_of t block)) a i in
    let q = ends t (last_of None (body_of t a)) block h.1 in (
      q.0,
      q.1,
      record { parent = w.bodies.owned q.0 a (In-last (body_of t a) q.0 q.2); last = q.2; beside = blocks-owned t w (block_parent_of t block) a h.0 },
      q.3,
    )

pub source-pred : (t : Tree) → IsTree t → (block user place a : ℕ) → IsBlock t block → IsSource t block user a → slice_get (successors_of t user) place ≡ Some block → In a (preds_of t block)
source-pred t w block user place a live s e =
    In-filtered (λ z. leads_to t block z) (blocks_in t (block_parent_of t block)) a (blocks-listed t w (block_parent_of t block) a live s.beside)
    (ap (λ o. list_any (λ z. nat_eq z block) (succs_from t o)) s.last ∙ at_any (successors_of t user) block place e)

pub pred-block : (t : Tree) → IsTree t → (block a : ℕ) → In a (preds_of t block) → IsBlock t a
pred-block t w block a i = all_in_place (block_parent_of t block) (In-filter (λ z. leads_to t block z) (blocks_in t (block_parent_of t block)) a i).0
  where
    all_in_place : (o : Option ℕ) → In a (blocks_in t o) → IsBlock t a
    all_in_place None i = absurd i
    all_in_place (Some r) i = In-block t w r a i

pub pred-within : (t : Tree) → IsTree t → (block a : ℕ) → In a (preds_of t block) → a < length t.arguments
pred-within t w block a i = block-within t w a (pred-block t w block a i)

-- all predecessors have keys below the number of blocks
pub preds-below : (t : Tree) → IsTree t → (block n : ℕ) → n ≡ length t.arguments → length (filter (λ a. nat_lt a n) (preds_of t block)) ≡ length (preds_of t block)
preds-below t w block n e = below_all (preds_of t block) n (λ a i. let lt : a < length t.arguments = pred-within t w block a i in omega arith)

-- a block is a predecessor exactly if a use is an edge from it
pub edge-pred : (v : View) → IsTree v.tree → HaveUses v → (block i a : ℕ) → IsBlock v.tree block → IsEdge v block i a → In a (preds_of v.tree block)
edge-pred v w u block i a live e = source-pred v.tree w block e.one.user e.one.place a live e.source (u.block_uses.listed block i e.one e.listed)

edge-of : (v : View) (block i a : ℕ) → IsFirstEdge v block i a → IsEdge v block i a
edge-of v block i a e = record { one = e.one; listed = e.listed; source = e.source }

pub pred-edge : (v : View) → IsTree v.tree → HaveUses v → (block a : ℕ) → In a (preds_of v.tree block) → (i : ℕ) × (i < length (uses_of v.block_uses block)) × IsFirstEdge v block i a
pred-edge v w u block a i =
    let s = pred-source v.tree w block a i in
    let f = first_at (successors_of v.tree s.0) block s.1 s.3 in
    let k = u.block_uses.complete s.0 f.0 block f.1 in
    (k.0, slice_get_within _ k.0 _ k.1, record { one = record { user = s.0; place = f.0 }; listed = k.1; source = s.2; first = f.2 })

-- an index shows one block
pub edge-one : (v : View) (block i a b : ℕ) → IsEdge v block i a → IsEdge v block i b → a ≡ b
edge-one v block i a b e f =
    let same : e.one ≡ f.one = same_Some e.one f.one (sym e.listed ∙ f.listed) in
    same_Some a b (sym e.source.parent ∙ ap (λ z. parent_of v.tree z.user) same ∙ f.source.parent)

-- a block has one first edge
first-place : (v : View) → HaveUses v → (block i j : ℕ) (x y : Use) → slice_get (uses_of v.block_uses block) i ≡ Some x → slice_get (uses_of v.block_uses block) j ≡ Some y → x.user ≡ y.user → IsFirstPlace v.tree block x.user x.place → IsFirstPlace v.tree block y.user y.place → x.place ≡ y.place
first-place v u block i j x y ex ey same fx fy =
    elim (cases_order x.place y.place) [
      | inl e ↦ e
      | inr h ↦
          elim h [
            | inl lt ↦ absurd (fy x.place lt (ap (λ k. slice_get (successors_of v.tree k) x.place) (sym same) ∙ u.block_uses.listed block i x ex))
            | inr gt ↦ absurd (fx y.place gt (ap (λ k. slice_get (successors_of v.tree k) y.place) same ∙ u.block_uses.listed block j y ey))
          ]
    ]

same-use : (x y : Use) → x.user ≡ y.user → x.place ≡ y.place → x ≡ y
same-use x y e f = ap (λ k. record { user = k; place = x.place }) e ∙ ap (λ p. record { user = y.user; place = p }) f

pub first-one : (v : View) → HaveUses v → (block i j a : ℕ) → IsFirstEdge v block i a → IsFirstEdge v block j a → i ≡ j
first-one v u block i j a e f =
    let user : e.one.user ≡ f.one.user = same_Some e.one.user f.one.user (sym e.source.last ∙ f.source.last) in
    let place : e.one.place ≡ f.one.place = first-place v u block i j e.one f.one e.listed f.listed user e.first f.first in
    u.block_uses.once block i j e.one e.listed (f.listed ∙ ap Some (sym (same-use e.one f.one user place)))

-- what a use listed at an index says of edges there
pub is-edge : (v : View) (block i user place a : ℕ) → slice_get (uses_of v.block_uses block) i ≡ Some (record { user = user; place = place }) → IsSource v.tree block user a → IsEdge v block i a
is-edge v block i user place a listed s = record { one = record { user = user; place = place }; listed = listed; source = s }

pub not-edge : (v : View) (block i user place : ℕ) → slice_get (uses_of v.block_uses block) i ≡ Some (record { user = user; place = place }) → ((a : ℕ) → IsSource v.tree block user a → ⊥) → (a : ℕ) → IsEdge v block i a → ⊥
not-edge v block i user place listed out a e =
    let same : e.one ≡ record { user = user; place = place } = same_Some e.one (record { user = user; place = place }) (sym e.listed ∙ listed) in
    out a (subst (λ z. IsSource v.tree block z.user a) same e.source)

-- a place is first once all places before it, or all uses, have been looked at
pub first-whole : (v : View) → HaveUses v → (block user place k : ℕ)
    → ((p : ℕ) → place ≤ p + k → p < place → slice_get (successors_of v.tree user) p ≢ Some block)
    → ((j : ℕ) (one : Use) → j < k → slice_get (uses_of v.block_uses block) j ≡ Some one → one.user ≡ user → one.place < place → ⊥)
    → (place ≤ k) ⊎ (length (uses_of v.block_uses block) ≤ k)
    → IsFirstPlace v.tree block user place
first-whole v u block user place k back forth (inl le) p lt e = back p (omega arith) lt e
first-whole v u block user place k back forth (inr le) p lt e =
    let x = u.block_uses.complete user p block e in
    let within : x.0 < length (uses_of v.block_uses block) = slice_get_within _ x.0 _ x.1 in
    forth x.0 (record { user = user; place = p }) (omega arith) x.1 refl lt

-- what a test of two keys says
pub same_key : (a b : ℕ) → true ≡ (nat_eq a b && true) → a ≡ b
same_key a b e = eqb-true a b (and_parts (nat_eq a b) true (sym e)).0

pub other_key : (a b : ℕ) → true ≡ not (nat_eq a b && true) → a ≢ b
other_key a b e same = false≢true (sym (not-true (nat_eq a b && true) (sym e)) ∙ and_from (nat_eq a b) true (eq-eqb a b same) refl)

pub not_other : (a b : ℕ) → false ≡ not (nat_eq a b && true) → a ≡ b
not_other a b e = same_key a b (sym (not-false (nat_eq a b && true) (sym e)))

-- these are the blocks below the bound that the uses before this index are first edges from
pub record AreFound (v : View) (block bound i : ℕ) (found : List ℕ) : Type 0 where
  pub distinct : IsDistinct found
  pub edges : (a : ℕ) → In a found → (k : ℕ) × (k < i) × IsFirstEdge v block k a × (a < bound)
  pub all : (k a : ℕ) → k < i → IsFirstEdge v block k a → a < bound → In a found

pub found-none : (v : View) (block bound : ℕ) → AreFound v block bound 0 []
found-none v block bound = record { distinct = tt; edges = λ a i. absurd i; all = λ k a lt e b. absurd (omega arith) }

-- an index without a first edge below the bound
pub found-kept : (v : View) (block bound i : ℕ) (found : List ℕ) → AreFound v block bound i found → ((a : ℕ) → IsFirstEdge v block i a → a < bound → ⊥) → AreFound v block bound (i + 1) found
found-kept v block bound i found f out = record {
  distinct = f.distinct;
  edges = λ a j. let h = f.edges a j in let lt : h.0 < i = h.1 in (h.0, omega arith, h.2, h.3);
  all = λ k a lt e b.
      elim (cases_order k i) [ inl same ↦ absurd (out a (subst (λ z. IsFirstEdge v block z a) same e) b) | inr h ↦ elim h [ inl below ↦ f.all k a below e b | inr above ↦ absurd (omega arith) ] ];
}

pub found-over : (v : View) (block bound i s : ℕ) (found : List ℕ) → AreFound v block bound i found → IsFirstEdge v block i s → bound ≤ s → AreFound v block bound (i + 1) found
found-over v block bound i s found f e over =
    found-kept v block bound i found f (λ a g lt. let same : a ≡ s = edge-one v block i a s (edge-of v block i a g) (edge-of v block i s e) in omega arith)

-- one with such an edge
pub found-more : (v : View) → HaveUses v → (block bound i a : ℕ) (found : List ℕ) → AreFound v block bound i found → IsFirstEdge v block i a → a < bound → AreFound v block bound (i + 1) (a ∷ found)
found-more v u block bound i a found f e below = record {
  distinct = (λ j. let h = f.edges a j in let lt : h.0 < i = h.1 in let same : h.0 ≡ i = first-one v u block h.0 i a h.2 e in omega arith, f.distinct);
  edges = λ b j.
      elim j [
        | inl same ↦ (i, omega arith, subst (λ z. IsFirstEdge v block i z) (sym same) e, subst (λ z. z < bound) (sym same) below)
        | inr there ↦ let h = f.edges b there in let lt : h.0 < i = h.1 in (h.0, omega arith, h.2, h.3)
      ];
  all = λ k b lt g c.
      elim (cases_order k i) [
        | inl same ↦ inl (edge-one v block i b a (edge-of v block i b (subst (λ z. IsFirstEdge v block z b) same g)) (edge-of v block i a e))
        | inr h ↦ elim h [ inl before ↦ inr (f.all k b before g c) | inr above ↦ absurd (omega arith) ]
      ];
}

-- after all uses these are the predecessors below the bound
pub found-all : (v : View) → IsTree v.tree → HaveUses v → (block bound i : ℕ) (found : List ℕ) → IsBlock v.tree block → AreFound v block bound i found → length (uses_of v.block_uses block) ≤ i → length found ≡ length (filter (λ a. nat_lt a bound) (preds_of v.tree block))
found-all v w u block bound i found live f whole =
    same_members found (filter (λ a. nat_lt a bound) (preds_of v.tree block)) f.distinct (distinct-filter (λ a. nat_lt a bound) _ (preds-distinct v.tree w block))
    (λ a j. let h = f.edges a j in In-filtered (λ z. nat_lt z bound) (preds_of v.tree block) a (edge-pred v w u block h.0 a live (edge-of v block h.0 a h.2)) (lt-ltb a bound h.3))
    (λ a j.
    let h = In-filter (λ z. nat_lt z bound) (preds_of v.tree block) a j in
    let e = pred-edge v w u block a h.0 in
    let lt : e.0 < length (uses_of v.block_uses block) = e.1 in
    f.all e.0 a (omega arith) e.2 (ltb-true a bound h.1))

-- what the uses before this index show: no predecessor, or this one alone
abbrev pub IsSeen : View → ℕ → ℕ → Option ℕ → Type 0
IsSeen v block i None = (k a : ℕ) → k < i → IsEdge v block k a → ⊥
IsSeen v block i (Some b) = (k : ℕ) × IsEdge v block k b × ((k a : ℕ) → k < i → IsEdge v block k a → a ≡ b)

pub seen-same : (v : View) (block i : ℕ) (o : Option ℕ) → IsSeen v block i o → ((a : ℕ) → IsEdge v block i a → ⊥) → IsSeen v block (i + 1) o
seen-same v block i None s out = λ k a lt e.
    elim (cases_order k i) [ inl same ↦ out a (subst (λ z. IsEdge v block z a) same e) | inr h ↦ elim h [ inl below ↦ s k a below e | inr above ↦ absurd (omega arith) ] ]
seen-same v block i (Some b) s out = (
  s.0,
  s.1,
  λ k a lt e.
      elim (cases_order k i) [
        | inl same ↦ absurd (out a (subst (λ z. IsEdge v block z a) same e))
        | inr h ↦ elim h [ inl below ↦ s.2 k a below e | inr above ↦ absurd (omega arith) ]
      ],
)

pub seen-first : (v : View) (block i b : ℕ) → IsSeen v block i None → IsEdge v block i b → IsSeen v block (i + 1) (Some b)
seen-first v block i b s here = (
  i,
  here,
  λ k a lt e.
      elim (cases_order k i) [
        | inl same ↦ edge-one v block i a b (subst (λ z. IsEdge v block z a) same e) here
        | inr h ↦ elim h [ inl below ↦ absurd (s k a below e) | inr above ↦ absurd (omega arith) ]
      ],
)

pub seen-again : (v : View) (block i b : ℕ) → IsSeen v block i (Some b) → IsEdge v block i b → IsSeen v block (i + 1) (Some b)
seen-again v block i b s here = (
  s.0,
  s.1,
  λ k a lt e.
      elim (cases_order k i) [
        | inl same ↦ edge-one v block i a b (subst (λ z. IsEdge v block z a) same e) here
        | inr h ↦ elim h [ inl below ↦ s.2 k a below e | inr above ↦ absurd (omega arith) ]
      ],
)

-- so there is one predecessor exactly if one was seen
pub seen-all : (v : View) → IsTree v.tree → HaveUses v → (block i : ℕ) (o : Option ℕ) → IsBlock v.tree block → length (uses_of v.block_uses block) ≤ i → IsSeen v block i o → IsSome o → length (preds_of v.tree block) ≡ 1
seen-all v w u block i None live whole s some = absurd (false≢true some)
seen-all v w u block i (Some b) live whole s some =
    one_all (preds_of v.tree block) b (preds-distinct v.tree w block) (edge-pred v w u block s.0 b live s.1)
    (λ a j. let e = pred-edge v w u block a j in let lt : e.0 < length (uses_of v.block_uses block) = e.1 in s.2 e.0 a (omega arith) (edge-of v block e.0 a e.2))

pub seen-some : (v : View) → IsTree v.tree → HaveUses v → (block i : ℕ) (o : Option ℕ) → length (uses_of v.block_uses block) ≤ i → IsSeen v block i o → length (preds_of v.tree block) ≡ 1 → IsSome o
seen-some v w u block i None whole s one =
    absurd (one_none (preds_of v.tree block) (λ a j. let e = pred-edge v w u block a j in let lt : e.0 < length (uses_of v.block_uses block) = e.1 in s e.0 a (omega arith) (edge-of v block e.0 a e.2)) one)
seen-some v w u block i (Some b) whole s one = refl

pub seen-two : (v : View) → IsTree v.tree → HaveUses v → (block i a b : ℕ) → IsBlock v.tree block → IsSeen v block i (Some a) → IsEdge v block i b → a ≢ b → length (preds_of v.tree block) ≡ 1 → ⊥
seen-two v w u block i a b live s here ne one =
    one_two (preds_of v.tree block) a b (edge-pred v w u block s.0 a live s.1) (edge-pred v w u block i b live here) ne one
