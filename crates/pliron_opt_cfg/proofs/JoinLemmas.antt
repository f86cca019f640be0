-- What each step of a merge may do.
use Rattle.std.proofs.Common.{◌≡◌, ◌≢◌, inl, inr, ⊎_elim, ℕ, zero, suc, ◌+◌, ◌<◌, ◌≤◌, List, [], ◌∷◌, length, take, Option, Some, None, slice_get, refl, sym, ap, ◌∙◌, subst, append-nil, arith}
use Rattle.pliron_core.specs.declared.context.Def.{Def}
use Rattle.pliron_core.specs.declared.context.Def.TheVariants.{Argument, Result}
use Rattle.pliron_core.specs.Lists.{next_in}
use Rattle.pliron_core.specs.Tree.{Tree, In, IsLive, IsBlock, IsRegion, IsDefined, IsMadeBy, IsInside.Directly, HoldsBlock, first_of, up_from, parent_of, body_of, arguments_of, block_parent_of, block_parent_operation_of, region_parent_of, parent_operation_of, definition_of}
use Rattle.pliron_core.specs.Invariant.{IsTree}
use Rattle.pliron_core.specs.Reads.{next_of}
use Rattle.pliron_core.specs.Writes.{after_replacing, moved_last}
use Rattle.pliron_core.specs.WalkSteps.{rest_from}
use Rattle.pliron_core.specs.Edges.{succs_from}
use Rattle.pliron_core.proofs.ListLemmas.{distinct-length}
use Rattle.pliron_core.proofs.TreeLemmas.{live-within, block-within}
use Rattle.pliron_core.proofs.NextLemmas.{rest_from-first, rest_from-step}
use Rattle.pliron_core.proofs.NeighbourLemmas.{last_of-In}
use Rattle.pliron_core.proofs.WithinLemmas.{not_own_holder}
use Rattle.pliron_core.proofs.HoldingLemmas.{some_is, not_none, holder_by, inside_by, not_itself, block_held}
use Rattle.pliron_laws.specs.Datum.{Meaning}
use Rattle.pliron_laws.specs.Linked.{IsWellLinked}
use Rattle.pliron_rewrite_blocks.specs.Pairs.{IsMergeable, forwarded_uses}
use Rattle.pliron_rewrite_blocks.proofs.PairEdges.{leads_alone}
use Rattle.pliron_rewrite_blocks.proofs.MovedBodies.{moved_on}

-- a block has fewer operations than there are keys
pub body_fits : (t : Tree) → IsTree t → (block : ℕ) → length (body_of t block) ≤ length t.operations
body_fits t w block = distinct-length (length t.operations) (body_of t block) (w.bodies.distinct block) (λ x i. live-within t x (w.joined.all_in_place x block (w.bodies.owned x block i)).0)

pub first_rest : (xs : List ℕ) (o : Option ℕ) → o ≡ first_of xs None → 0 + length (rest_from o xs) ≡ length xs
first_rest [] o e = ap (λ z. 0 + length (rest_from z [])) e
first_rest (x ∷ xs) o e = ap (λ z. 0 + length (rest_from z (x ∷ xs))) e ∙ ap (λ z. 0 + length z) (rest_from-first x xs) ∙ omega arith

pub next_inside : (t : Tree) → IsTree t → (block k : ℕ) (o : Option ℕ) → In k (body_of t block) → o ≡ next_of t k → o ≡ next_in k (body_of t block)
next_inside t w block k o i e = e ∙ ap (λ p. up_from p (λ b. next_in k (body_of t b))) (w.bodies.owned k block i)

pub rest_step : (t : Tree) → IsTree t → (block k : ℕ) (o : Option ℕ) → In k (body_of t block) → o ≡ next_of t k → length (rest_from (Some k) (body_of t block)) ≡ suc (length (rest_from o (body_of t block)))
rest_step t w block k o i e = ap length (rest_from-step (body_of t block) k o (w.bodies.distinct block) i (next_inside t w block k o i e))

-- a block and one beside it: what stands directly in the one does not hold the other
pub holds_none_beside : (t : Tree) → IsTree t → (a b k : ℕ) → parent_of t k ≡ Some b → block_parent_of t b ≡ block_parent_of t a → HoldsBlock t k a → ⊥
holds_none_beside t w a b k at beside h =
    let up : block_parent_operation_of t b ≡ Some h.0 = ap (λ o. up_from o (λ r. region_parent_of t r)) beside ∙ h.1 in
    let held = holder_by t k b h.0 at up in
    ⊎_elim
    (λ e. not_itself {t = t} w.joined.rooted (Directly (held ∙ ap Some e)))
    (λ i. not_itself {t = t} w.joined.rooted (inside_by h.0 held (inr i)))
    h.2

-- one operation moves from the head of a block to the end of another one
pub record IsMovedOn (u v : Tree) (b : ℕ) (rest : List ℕ) : Type 0 where
  pub body : body_of v b ≡ rest
  pub block_parents : (c : ℕ) → block_parent_of v c ≡ block_parent_of u c

pub moves_on : (u : Tree) → IsTree u → (a b k : ℕ) (rest : List ℕ) → a ≢ b → IsBlock u a → IsBlock u b → body_of u b ≡ k ∷ rest → IsMovedOn u (moved_last u k a) b rest
moves_on u w a b k rest ne in_a in_b e =
    let at = w.bodies.owned k b (subst (In k) (sym e) (inl refl)) in
    let k_in = live-within u k (w.joined.all_in_place k b at).0 in
    let keys = w.keys.parents in
    let m = moved_on u a b ne (body_of u a) (block-within u a w.keys in_a) (block-within u b w.keys in_b) u [] rest k
    (record { shape = refl; long = refl; parents_long = refl; at_a = sym (append-nil (body_of u a)); at_b = e; others = λ c na nb. refl; moved = λ j i. absurd i; stays = λ j f. refl })
    at (omega (arith, k_in, keys)) (λ z. z) in
    record { body = m.at_b; block_parents = λ c. ap (λ (z : Tree). block_parent_of z c) m.shape }

pub head_rest : (xs : List ℕ) (k : ℕ) → Some k ≡ first_of xs None → (rest : List ℕ) × (xs ≡ k ∷ rest)
head_rest [] k e = absurd (not_none (sym e))
head_rest (x ∷ xs) k e = (xs, ap (λ z. z ∷ xs) (sym (some_is e)))

pub no_head : (xs : List ℕ) → None ≡ first_of xs None → xs ≡ []
no_head [] e = refl
no_head (x ∷ xs) e = absurd (not_none e)

-- replaced arguments change operands alone
pub forwarded_shape : (t : Tree) (ps vs : List ℕ) → forwarded_uses t ps vs ≡ record t { operands = (forwarded_uses t ps vs).operands }
forwarded_shape t [] vs = refl
forwarded_shape t (p ∷ ps) [] = refl
forwarded_shape t (p ∷ ps) (v ∷ vs) = forwarded_shape (after_replacing t p v) ps vs

pub forwarded_more : (t : Tree) (ps vs : List ℕ) (i p v : ℕ) → slice_get ps i ≡ Some p → slice_get vs i ≡ Some v → after_replacing (forwarded_uses t (take i ps) vs) p v ≡ forwarded_uses t (take (suc i) ps) vs
forwarded_more t [] vs i p v e f = absurd (not_none e)
forwarded_more t (q ∷ ps) [] i p v e f = absurd (not_none f)
forwarded_more t (q ∷ ps) (u ∷ vs) zero p v e f = ap (λ z. after_replacing t z v) (sym (some_is e)) ∙ ap (λ z. after_replacing t q z) (sym (some_is f)) ∙ sym (none (after_replacing t q u) ps vs)
  where
    none : (t : Tree) (ps vs : List ℕ) → forwarded_uses t (take 0 ps) vs ≡ t
    none t [] vs = refl
    none t (x ∷ xs) vs = refl
forwarded_more t (q ∷ ps) (u ∷ vs) (suc i) p v e f = forwarded_more (after_replacing t q u) ps vs i p v e f

pub one_less : (xs ys : List ℕ) (k : ℕ) (rest : List ℕ) → ys ≡ k ∷ rest → xs ≡ rest → length xs < length ys
one_less xs ys k rest e f = let a = ap length e in let b = ap length f in omega (arith, a, b)

pub take_all : (xs : List ℕ) (n : ℕ) → length xs ≤ n → take n xs ≡ xs
take_all [] n le = take_none n
  where
    take_none : (n : ℕ) → take {A = ℕ} n [] ≡ []
    take_none zero = refl
    take_none (suc n) = refl
take_all (x ∷ xs) zero le = absurd (omega (arith, le))
take_all (x ∷ xs) (suc n) le = ap (λ z. x ∷ z) (take_all xs n (omega (arith, le)))

-- values that stand go on standing while arguments are replaced
pub forwarded_defined : (t : Tree) (ps vs : List ℕ) (v : ℕ) → IsDefined t v → IsDefined (forwarded_uses t ps vs) v
forwarded_defined t ps vs v d = subst (λ (z : Tree). IsDefined z v) (sym (forwarded_shape t ps vs)) (same t (forwarded_uses t ps vs).operands v (definition_of t v) d)
  where
    same : (t : Tree) (operands : List (List ℕ)) (v : ℕ) (d : Option Def) → IsMadeBy t v d → IsMadeBy (record t { operands = operands }) v d
    same t operands v None by = by
    same t operands v (Some (Result k i)) by = by
    same t operands v (Some (Argument b i)) by = by

pub forwarded_arguments : (t u : Tree) (ps vs : List ℕ) (b : ℕ) → u ≡ forwarded_uses t ps vs → arguments_of u b ≡ arguments_of t b
forwarded_arguments t u ps vs b e = ap (λ (z : Tree). arguments_of z b) (e ∙ forwarded_shape t ps vs)

pub forwarded_blocks : (t u : Tree) (ps vs : List ℕ) (b : ℕ) → u ≡ forwarded_uses t ps vs → block_parent_of u b ≡ block_parent_of t b
forwarded_blocks t u ps vs b e = ap (λ (z : Tree). block_parent_of z b) (e ∙ forwarded_shape t ps vs)

-- the second block of a pair stands
pub second_is : (m : Meaning) (t : Tree) → IsTree t → (a b jump : ℕ) (values : List ℕ) → IsMergeable m t a b jump values → IsBlock t b
second_is m t w a b jump values h = w.joined.successors jump b (subst (In b) (sym (ap (succs_from t) (sym h.ends) ∙ h.goes)) (inl refl))

pub get_take : (n : ℕ) (xs : List ℕ) (i x : ℕ) → slice_get (take n xs) i ≡ Some x → slice_get xs i ≡ Some x
get_take zero [] i x e = e
get_take zero (y ∷ ys) i x e = absurd (not_none e)
get_take (suc n) [] i x e = e
get_take (suc n) (y ∷ ys) zero x e = e
get_take (suc n) (y ∷ ys) (suc i) x e = get_take n ys i x e

pub length_take : (n : ℕ) (xs : List ℕ) → length (take n xs) ≤ length xs
length_take zero [] = omega arith
length_take zero (y ∷ ys) = omega arith
length_take (suc n) [] = omega arith
length_take (suc n) (y ∷ ys) = let r = length_take n ys in omega (arith, r)

-- the jump, what it leads to and what holds the block are fewer than there are keys
pub moves_fit : (m : Meaning) (t : Tree) → IsTree t → (a b jump : ℕ) (values : List ℕ) → IsMergeable m t a b jump values → ((holder : ℕ) → block_parent_operation_of t a ≡ Some holder → IsWellLinked m t holder) → suc (suc (length (body_of t b))) ≤ length t.operations
moves_fit m t w a b jump values h linked =
    distinct-length (length t.operations) (held.1 ∷ jump ∷ body_of t b) (not_holder, (not_jump, w.bodies.distinct b)) below
  where
    in_a : parent_of t jump ≡ Some a
    in_a = w.bodies.owned jump a (last_of-In jump (body_of t a) h.ends)

    held : (r k : ℕ) × (block_parent_of t a ≡ Some r) × IsRegion t r × (region_parent_of t r ≡ Some k) × (block_parent_operation_of t a ≡ Some k) × IsLive t k
    held = block_held t a w.joined (w.joined.all_in_place jump a in_a).1

    jump_held : parent_operation_of t jump ≡ Some held.1
    jump_held = holder_by t jump a held.1 in_a held.5

    beside : block_parent_of t b ≡ block_parent_of t a
    beside = (leads_alone m t held.1 a b jump values w (linked held.1 held.5).edges held.5 h).1.beside

    in_b : (k : ℕ) → In k (body_of t b) → parent_operation_of t k ≡ Some held.1
    in_b k i = holder_by t k b held.1 (w.bodies.owned k b i) (ap (λ o. up_from o (λ r. region_parent_of t r)) beside ∙ held.5)

    not_holder : In held.1 (jump ∷ body_of t b) → ⊥
    not_holder (inl e) = not_own_holder t jump w.joined (jump_held ∙ ap Some e)
    not_holder (inr i) = not_own_holder t held.1 w.joined (in_b held.1 i)

    not_jump : In jump (body_of t b) → ⊥
    not_jump i = h.apart (some_is (sym (w.bodies.owned jump b i) ∙ in_a))

    below : (x : ℕ) → In x (held.1 ∷ jump ∷ body_of t b) → x < length t.operations
    below x (inl e) = let y = live-within t held.1 held.6 in omega (arith, y, e)
    below x (inr (inl e)) = let y = live-within t jump (w.joined.all_in_place jump a in_a).0 in omega (arith, y, e)
    below x (inr (inr i)) = live-within t x (w.joined.all_in_place x b (w.bodies.owned x b i)).0
