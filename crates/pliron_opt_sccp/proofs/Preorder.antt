-- The walk that numbers the values inside an operation in pre-order.
use Rattle.std.proofs.Common.{◌≡◌, ◌↔◌, ⊎_elim, inl, inr, ℕ, zero, suc, ◌+◌, ◌<◌, List, [], ◌∷◌, ◌++◌, length, map, reverse, refl, sym, ap, ◌∙◌, subst, is_some, arith, append_assoc, append-nil, length-append}
use Rattle.std.specs.List.{flat_map}
use Rattle.std.proofs.lemmas.List.{reverse-append, reverse-reverse}
use Rattle.std.proofs.lemmas.List.Concat.{flat_map-append}
use Rattle.std.proofs.lemmas.List.Folds.{flat_map-map}
use Rattle.pliron_core.specs.Lists.{In}
use Rattle.pliron_core.specs.Tree.{Tree, IsLive, IsBlock, regions_of, results_of, arguments_of, body_of, layout_of}
use Rattle.pliron_core.specs.Walks.{contents, preorder}
use Rattle.pliron_core.specs.Invariant.{IsTree}
use Rattle.pliron_core.proofs.ListLemmas.{In-left, In-right, In-cases, distinct-length}
use Rattle.pliron_core.proofs.FlatLemmas.{In-flat_map, flat_map-In}
use Rattle.pliron_core.proofs.WalkLemmas.{contents-shorter, distinct-preorder, In-preorder, within_live, live_within}
use Rattle.pliron_opt_sccp.specs.declared.inside.Part.{Part}
use Rattle.pliron_opt_sccp.specs.declared.inside.Part.TheVariants.{Block, Operation}
use Rattle.pliron_opt_sccp.specs.Chain.{blocks_to_depth, blocks_inside}
use Rattle.pliron_opt_sccp.specs.Inside.{block_values, blocks_directly_in, values_inside, parts_to_depth, parts_inside, defined_by, values_in_preorder, directly_in, IsPartLive}
use Rattle.pliron_opt_sccp.specs.Starting.{keys_added}
use Rattle.pliron_opt_sccp.proofs.Numbered.{added-append}
use Rattle.pliron_opt_sccp.proofs.DistinctLists.{held_directly, held_by}

flat_same : {A : Type 0} (f g : ℕ → List A) (xs : List ℕ) → ((x : ℕ) → In x xs → f x ≡ g x) → flat_map f xs ≡ flat_map g xs
flat_same f g [] same = refl
flat_same f g (x ∷ xs) same =
    let here : f x ≡ g x = same x (inl refl) in
    let there : flat_map f xs ≡ flat_map g xs = flat_same f g xs (λ y i. same y (inr i)) in cc

flat_of_flat : {A B : Type 0} (f : A → List B) (g : ℕ → List A) (xs : List ℕ) → flat_map f (flat_map g xs) ≡ flat_map (λ x. flat_map f (g x)) xs
flat_of_flat f g [] = refl
flat_of_flat f g (x ∷ xs) = flat_map-append f (g x) (flat_map g xs) ∙ ap (λ ys. flat_map f (g x) ++ ys) (flat_of_flat f g xs)

-- a part with all that is inside it
abbrev pub from_part : Tree → Part → List Part
from_part t (Block b) = Block b ∷ flat_map (λ k. Operation k ∷ parts_inside t k) (body_of t b)
from_part t (Operation k) = Operation k ∷ parts_inside t k

-- what the stack stands for
abbrev pub owed : Tree → List Part → List Part
owed t stack = flat_map (λ p. from_part t p) (reverse stack)

abbrev ArePartsLive : Tree → List Part → Type 0
ArePartsLive t [] = Unit {0}
ArePartsLive t (p ∷ ps) = IsPartLive t p × ArePartsLive t ps

-- these keys are numbered, and what the stack stands for numbers the rest
pub record IsOwing (t : Tree) (root : ℕ) (keys : List ℕ) (stack : List Part) : Type 0 where
  pub all_in_place : ArePartsLive t (owed t stack)
  pub rest : keys_added (flat_map (λ p. defined_by t p) (owed t stack)) keys ≡ keys_added (values_in_preorder t root) []

-- parts are put behind those from before
abbrev pub AddsParts : (ℕ → Part) → List ℕ → List Part → List Part → Type 0
AddsParts f xs old new = new ≡ old ++ map f xs

pub parts_none : (f : ℕ → Part) (ps : List Part) → AddsParts f [] ps ps
parts_none f ps = sym (append-nil ps)

pub parts_step : (f : ℕ → Part) (x : ℕ) (old next : List Part) → next ≡ old ++ f x ∷ [] → (rest : List ℕ) (new : List Part) → AddsParts f rest next new → AddsParts f (x ∷ rest) old new
parts_step f x old next e rest new a = a ∙ ap (λ zs. zs ++ map f rest) e ∙ append_assoc old (f x ∷ []) (map f rest)

module _ (t : Tree) (w : IsTree t) where
  block_in : (x b : ℕ) → In b (blocks_directly_in t x) → (r : ℕ) × In r (regions_of t x) × In b (layout_of t r)
  block_in x b i = flat_map-In (λ r. layout_of t r) (regions_of t x) b i

  standing_block : (x b : ℕ) → In b (blocks_directly_in t x) → IsBlock t b
  standing_block x b i = let r = block_in x b i in ap is_some (w.layouts.owned b r.0 r.2)

  standing_op : (b k : ℕ) → In k (body_of t b) → IsLive t k
  standing_op b k i = (w.joined.all_in_place k b (w.bodies.owned k b i)).0

  standing_append : (ps qs : List Part) → ArePartsLive t ps → ArePartsLive t qs → ArePartsLive t (ps ++ qs)
  standing_append [] qs a b = b
  standing_append (p ∷ ps) qs a b = (a.0, standing_append ps qs a.1 b)

  standing_flat : (f : ℕ → List Part) (xs : List ℕ) → ((x : ℕ) → In x xs → ArePartsLive t (f x)) → ArePartsLive t (flat_map f xs)
  standing_flat f [] each = tt
  standing_flat f (x ∷ xs) each = standing_append (f x) (flat_map f xs) (each x (inl refl)) (standing_flat f xs (λ y i. each y (inr i)))

  standing_parts : (n x : ℕ) → ArePartsLive t (parts_to_depth t n x)
  standing_parts zero x = tt
  standing_parts (suc n) x =
      standing_flat (λ b. Block b ∷ flat_map (λ k. Operation k ∷ parts_to_depth t n k) (body_of t b)) (blocks_directly_in t x) (λ b i. (
        standing_block x b i,
        standing_flat (λ k. Operation k ∷ parts_to_depth t n k) (body_of t b) (λ k j. (standing_op b k j, standing_parts n k)),
      ))

  -- with as many levels as operations nothing is left out
  parts_more : (n x : ℕ) → length (contents t x) < n → parts_to_depth t (suc n) x ≡ parts_to_depth t n x
  parts_more zero x lt = absurd (omega (arith, lt))
  parts_more (suc n) x lt =
      flat_same (λ b. Block b ∷ flat_map (λ k. Operation k ∷ parts_to_depth t (suc n) k) (body_of t b)) (λ b. Block b ∷ flat_map (λ k. Operation k ∷ parts_to_depth t n k) (body_of t b)) (blocks_directly_in t x) (λ b i.
      let r = block_in x b i in
      ap (λ zs. Block b ∷ zs) (flat_same (λ k. Operation k ∷ parts_to_depth t (suc n) k) (λ k. Operation k ∷ parts_to_depth t n k) (body_of t b) (λ k q.
      let less = contents-shorter t w k x (held_by t w b k x (held_directly t w x r.0 b r.1 r.2) q) in ap (λ zs. Operation k ∷ zs) (parts_more n k (omega (arith, less, lt))))))

  parts_nested : (x : ℕ) → IsLive t x → parts_inside t x ≡ flat_map (λ b. from_part t (Block b)) (blocks_directly_in t x)
  parts_nested x live =
      let long = distinct-length (length t.operations) (preorder t x) (distinct-preorder t w x) (λ k i. live_within t w k (within_live t w x k live ((In-preorder t w x k).0 i))) in
      sym (parts_more (length t.operations) x (omega (arith, long)))

  from_is : (p : Part) → IsPartLive t p → from_part t p ≡ p ∷ flat_map (λ q. from_part t q) (directly_in t p)
  from_is (Block b) live = ap (λ zs. Block b ∷ zs) (sym (flat_map-map (λ q. from_part t q) (λ k. Operation k) (body_of t b)))
  from_is (Operation k) live = ap (λ zs. Operation k ∷ zs) (parts_nested k live ∙ sym (flat_map-map (λ q. from_part t q) (λ b. Block b) (blocks_directly_in t k)))

  -- the part on top of the stack comes next, and then what is directly inside it
  top : (p : Part) (rest : List Part) → owed t (rest ++ p ∷ []) ≡ from_part t p ++ owed t rest
  top p rest = ap (flat_map (λ q. from_part t q)) (reverse-append rest (p ∷ []))

  top_stands : (p : Part) (stack rest : List Part) → stack ≡ rest ++ p ∷ [] → ArePartsLive t (owed t stack) → IsPartLive t p
  top_stands (Block b) stack rest e s = (subst (ArePartsLive t) (ap (owed t) e ∙ top (Block b) rest) s).0
  top_stands (Operation k) stack rest e s = (subst (ArePartsLive t) (ap (owed t) e ∙ top (Operation k) rest) s).0

  owed_step : (p : Part) (stack rest later : List Part) → IsPartLive t p → stack ≡ rest ++ p ∷ [] → later ≡ rest ++ reverse (directly_in t p) → owed t stack ≡ p ∷ owed t later
  owed_step p stack rest later live e l =
      let turned : reverse later ≡ directly_in t p ++ reverse rest = ap reverse l ∙ reverse-append rest (reverse (directly_in t p)) ∙ ap (λ xs. xs ++ reverse rest) (reverse-reverse (directly_in t p)) in
      let after : owed t later ≡ flat_map (λ q. from_part t q) (directly_in t p) ++ owed t rest = ap (flat_map (λ q. from_part t q)) turned ∙ flat_map-append (λ q. from_part t q) (directly_in t p) (reverse rest) in
      ap (owed t) e ∙ top p rest ∙ ap (λ zs. zs ++ owed t rest) (from_is p live) ∙ ap (λ zs. p ∷ zs) (sym after)

  pub owing_start : (root : ℕ) (stack : List Part) → IsLive t root → stack ≡ reverse (directly_in t (Operation root)) → IsOwing t root [] stack
  owing_start root stack live e =
      let all : owed t stack ≡ parts_inside t root =
      ap (λ xs. flat_map (λ q. from_part t q) (reverse xs)) e ∙ ap (flat_map (λ q. from_part t q)) (reverse-reverse (directly_in t (Operation root))) ∙ flat_map-map (λ q. from_part t q) (λ b. Block b) (blocks_directly_in t root) ∙ sym (parts_nested root live) in
      record {
        all_in_place = subst (ArePartsLive t) (sym all) (standing_parts (length t.operations) root);
        rest = ap (λ ps. keys_added (flat_map (λ p. defined_by t p) ps) []) all;
      }

  pub owing_stands : (root : ℕ) (keys : List ℕ) (p : Part) (stack rest : List Part) → IsOwing t root keys stack → stack ≡ rest ++ p ∷ [] → IsPartLive t p
  owing_stands root keys p stack rest o e = top_stands p stack rest e o.all_in_place

  pub owing_step : (root : ℕ) (keys more : List ℕ) (p : Part) (stack rest later : List Part) → IsOwing t root keys stack → stack ≡ rest ++ p ∷ [] → more ≡ keys_added (defined_by t p) keys → later ≡ rest ++ reverse (directly_in t p) → IsOwing t root more later
  owing_step root keys more p stack rest later o e m l =
      let step = owed_step p stack rest later (top_stands p stack rest e o.all_in_place) e l in
      record {
        all_in_place = (subst (ArePartsLive t) step o.all_in_place).1;
        rest =
            ap (keys_added (flat_map (λ q. defined_by t q) (owed t later))) m
            ∙ sym (added-append (defined_by t p) (flat_map (λ q. defined_by t q) (owed t later)) keys)
            ∙ ap (λ ps. keys_added (flat_map (λ q. defined_by t q) ps) keys) (sym step)
            ∙ o.rest;
      }

  pub owing_smaller : (root : ℕ) (keys : List ℕ) (p : Part) (stack rest later : List Part) → IsOwing t root keys stack → stack ≡ rest ++ p ∷ [] → later ≡ rest ++ reverse (directly_in t p) → length (owed t later) < length (owed t stack)
  owing_smaller root keys p stack rest later o e l =
      let step = ap length (owed_step p stack rest later (top_stands p stack rest e o.all_in_place) e l) in omega (arith, step)

  pub owing_end : (root : ℕ) (keys : List ℕ) (stack : List Part) → IsOwing t root keys stack → stack ≡ [] → keys ≡ keys_added (values_in_preorder t root) []
  owing_end root keys stack o e = ap (λ ps. keys_added (flat_map (λ q. defined_by t q) (owed t ps)) keys) (sym e) ∙ o.rest

  -- ---- the values are those that the blocks list
  abbrev to_depth : ℕ → ℕ → List ℕ
  to_depth n x = flat_map (λ p. defined_by t p) (parts_to_depth t n x)

  from_op : (n b : ℕ) → flat_map (λ p. defined_by t p) (flat_map (λ k. Operation k ∷ parts_to_depth t n k) (body_of t b)) ≡ flat_map (λ k. results_of t k ++ to_depth n k) (body_of t b)
  from_op n b = flat_of_flat (λ p. defined_by t p) (λ k. Operation k ∷ parts_to_depth t n k) (body_of t b)

  from_blocks : (n x : ℕ) → to_depth (suc n) x ≡ flat_map (λ b. arguments_of t b ++ flat_map (λ k. results_of t k ++ to_depth n k) (body_of t b)) (blocks_directly_in t x)
  from_blocks n x =
      flat_of_flat (λ p. defined_by t p) (λ b. Block b ∷ flat_map (λ k. Operation k ∷ parts_to_depth t n k) (body_of t b)) (blocks_directly_in t x)
      ∙ flat_same (λ b. arguments_of t b ++ flat_map (λ p. defined_by t p) (flat_map (λ k. Operation k ∷ parts_to_depth t n k) (body_of t b))) (λ b. arguments_of t b ++ flat_map (λ k. results_of t k ++ to_depth n k) (body_of t b)) (blocks_directly_in t x) (λ b i. ap (λ zs. arguments_of t b ++ zs) (from_op n b))

  abbrev IsListed : ℕ → ℕ → ℕ → Type 0
  IsListed n x v = (b : ℕ) × In b (blocks_to_depth t n x) × In v (block_values t b)

  abbrev below : ℕ → ℕ → List ℕ
  below n b = b ∷ flat_map (λ k. blocks_to_depth t n k) (body_of t b)

  below_in : (n x r b z : ℕ) → In r (regions_of t x) → In b (layout_of t r) → In z (below n b) → In z (blocks_to_depth t (suc n) x)
  below_in n x r b z i j q = In-flat_map (λ r. flat_map (λ b. below n b) (layout_of t r)) (regions_of t x) r z i (In-flat_map (λ b. below n b) (layout_of t r) b z j q)

  listed : (n x v : ℕ) → In v (to_depth n x) → IsListed n x v
  listed zero x v i = absurd i
  listed (suc n) x v i =
      let b = flat_map-In (λ b. arguments_of t b ++ flat_map (λ k. results_of t k ++ to_depth n k) (body_of t b)) (blocks_directly_in t x) v (subst (In v) (from_blocks n x) i) in
      let r = block_in x b.0 b.1 in
      elim (In-cases v (arguments_of t b.0) (flat_map (λ k. results_of t k ++ to_depth n k) (body_of t b.0)) b.2) [
        | inl a ↦ (b.0, below_in n x r.0 b.0 b.0 r.1 r.2 (inl refl), In-left v (arguments_of t b.0) (flat_map (λ k. results_of t k) (body_of t b.0)) a)
        | inr j ↦
            let k = flat_map-In (λ k. results_of t k ++ to_depth n k) (body_of t b.0) v j in
            elim (In-cases v (results_of t k.0) (to_depth n k.0) k.2) [
              | inl q ↦ (b.0, below_in n x r.0 b.0 b.0 r.1 r.2 (inl refl), In-right v (arguments_of t b.0) (flat_map (λ k. results_of t k) (body_of t b.0)) (In-flat_map (λ k. results_of t k) (body_of t b.0) k.0 v k.1 q))
              | inr q ↦ let rec = listed n k.0 v q in (rec.0, below_in n x r.0 b.0 rec.0 r.1 r.2 (inr (In-flat_map (λ k. blocks_to_depth t n k) (body_of t b.0) k.0 rec.0 k.1 rec.1)), rec.2)
            ]
      ]

  numbered : (n x b v : ℕ) → In b (blocks_to_depth t n x) → In v (block_values t b) → In v (to_depth n x)
  numbered zero x b v i j = absurd i
  numbered (suc n) x b v i j =
      let r = flat_map-In (λ r. flat_map (λ b. below n b) (layout_of t r)) (regions_of t x) b i in
      let c = flat_map-In (λ b. below n b) (layout_of t r.0) b r.2 in
      let direct : In c.0 (blocks_directly_in t x) = In-flat_map (λ r. layout_of t r) (regions_of t x) r.0 c.0 r.1 c.1 in
      subst (In v) (sym (from_blocks n x)) (In-flat_map (λ b. arguments_of t b ++ flat_map (λ k. results_of t k ++ to_depth n k) (body_of t b)) (blocks_directly_in t x) c.0 v direct (at (λ k q. numbered n k b v q j) c.0 c.2))
    where
      deep : (c : ℕ) → In v (flat_map (λ k. results_of t k ++ to_depth n k) (body_of t c)) → In v (arguments_of t c ++ flat_map (λ k. results_of t k ++ to_depth n k) (body_of t c))
      deep c q = In-right v (arguments_of t c) (flat_map (λ k. results_of t k ++ to_depth n k) (body_of t c)) q

      at : ((k : ℕ) → In b (blocks_to_depth t n k) → In v (to_depth n k)) → (c : ℕ) → In b (below n c) → In v (arguments_of t c ++ flat_map (λ k. results_of t k ++ to_depth n k) (body_of t c))
      at rec c (inl e) = elim (In-cases v (arguments_of t c) (flat_map (λ k. results_of t k) (body_of t c)) (subst (λ z. In v (block_values t z)) e j)) [
        | inl a ↦ In-left v (arguments_of t c) (flat_map (λ k. results_of t k ++ to_depth n k) (body_of t c)) a
        | inr q ↦
            let k = flat_map-In (λ k. results_of t k) (body_of t c) v q in
            deep c (In-flat_map (λ k. results_of t k ++ to_depth n k) (body_of t c) k.0 v k.1 (In-left v (results_of t k.0) (to_depth n k.0) k.2))
      ]
      at rec c (inr q) =
          let k = flat_map-In (λ k. blocks_to_depth t n k) (body_of t c) b q in
          deep c (In-flat_map (λ k. results_of t k ++ to_depth n k) (body_of t c) k.0 v k.1 (In-right v (results_of t k.0) (to_depth n k.0) (rec k.0 k.2)))

  pub same_values : (root v : ℕ) → In v (values_in_preorder t root) ↔ In v (values_inside t root)
  same_values root v = (
    λ i. let l = listed (length t.operations) root v i in In-flat_map (λ b. block_values t b) (blocks_inside t root) l.0 v l.1 l.2,
    λ i. let b = flat_map-In (λ b. block_values t b) (blocks_inside t root) v i in numbered (length t.operations) root b.0 v b.1 b.2,
  )
