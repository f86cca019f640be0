-- Blocks of one region are erased one after the other, where nothing names what they hold.
use Rattle.std.proofs.Common.{◌≡◌, ◌≢◌, inl, inr, ℕ, Bool, true, false, nat_eq, if◌then◌else◌, List, [], ◌∷◌, ◌++◌, Option, Some, None, IsSome, refl, sym, ap, ◌∙◌, subst, get_or}
use Rattle.std.specs.List.{slice_get}
use Rattle.std.proofs.lemmas.Bool.{false_from_ne_true}
use Rattle.std.proofs.lemmas.List.{get_or-set_other}
use Rattle.pliron_core.specs.declared.context.Def.{Def}
use Rattle.pliron_core.specs.declared.context.Def.TheVariants.{Result, Argument}
use Rattle.pliron_core.specs.Tree.{Tree, In, IsDistinct, IsBlock, IsInside, IsInside.Directly, IsInside.Deeper, IsWithin, operands_of, successors_of, block_parent_of, region_parent_of, block_parent_operation_of, parent_operation_of, op_of_slot, definition_of}
use Rattle.pliron_core.specs.Invariant.{IsTree}
use Rattle.pliron_core.specs.Erased.{is_met_above, blank_at, is_in_operation, IsInOperation, IsBlockWithin, IsDefinedInBlock, IsSelfContainedBlock, block_emptied, block_taken_from, block_erased}
use Rattle.pliron_core.proofs.BlankLemmas.{blanked_kept, get_blanked}
use Rattle.pliron_core.proofs.ClearingLemmas.{IsClearing, clearing_none}
use Rattle.pliron_core.proofs.ClearedLemmas.{met_block}
use Rattle.pliron_core.proofs.WithinLemmas.{block_steps, block_holder_from, holder_steps, holder_from}
use Rattle.pliron_core.proofs.HoldingLemmas.{inside_by, not_itself}
use Rattle.pliron_rewrite_blocks.specs.Cutting.{is_in_one_of, cut_op, cut_block, ErasesAll, ErasesAll.Done, ErasesAll.Then}
use Rattle.pliron_rewrite_blocks.proofs.CutBlocks.{erased_clearing}
use Rattle.pliron_opt_cfg.specs.Internal.Unnamed.{IsUnnamedBlock}

pub erases_more : (bs : List ℕ) (t u : Tree) (b : ℕ) → ErasesAll bs t u → IsBlock u b → IsTree (block_erased u b) → ErasesAll (bs ++ b ∷ []) t (block_erased u b)
erases_more [] t u b Done is w = Then b [] is w Done
erases_more (x ∷ xs) t u b (Then _ _ liveness next more) is w = Then x (xs ++ b ∷ []) liveness next (erases_more xs (block_erased t x) u b more is w)

-- erasing a block leaves those beside it
module _ (u : Tree) (w : IsTree u) (a b r : ℕ) (ea : block_parent_of u a ≡ Some r) (eb : block_parent_of u b ≡ Some r) where
  abbrev deleted : ℕ → Bool
  deleted c = is_met_above u (is_in_operation u a) (block_parent_operation_of u c)

  not_met : (c : ℕ) → block_parent_of u c ≡ Some r → deleted c ≡ false
  not_met c ec = false_from_ne_true _ (λ e.
      let x = met_block u a (block_parent_operation_of u c) e in
      let up : parent_operation_of u x.2.0 ≡ Some x.0 = holder_from u x.2.0 a x.2.1 ∙ block_holder_from u a r ea ∙ sym (block_holder_from u c r ec) ∙ x.1 in
      not_itself w.joined.rooted (inside_by {t = u} x.0 up x.2.2))

  pub left_beside : b ≢ a → block_parent_of (block_erased u a) b ≡ Some r
  left_beside ne =
      let E = block_emptied u a in
      let at_a : block_parent_of E a ≡ Some r = blanked_kept deleted None u.block_parents a (not_met a ea) ∙ ea in
      let at_b : block_parent_of E b ≡ Some r = blanked_kept deleted None u.block_parents b (not_met b eb) ∙ eb in
      ap (λ o. block_parent_of (block_taken_from E a o) b) at_a ∙ get_or-set_other E.block_parents a b None None ne ∙ at_b

taken_operands : (e : Tree) (b : ℕ) (o : Option ℕ) → (block_taken_from e b o).operands ≡ e.operands
taken_operands e b None = refl
taken_operands e b (Some r) = refl

taken_successors : (e : Tree) (b : ℕ) (o : Option ℕ) → (block_taken_from e b o).successors ≡ e.successors
taken_successors e b None = refl
taken_successors e b (Some r) = refl

in_blanked : (deleted : ℕ → Bool) (xss : List (List ℕ)) (k v : ℕ) → In v (get_or (blank_at deleted [] xss) k []) → In v (get_or xss k [])
in_blanked deleted xss k v i = go (deleted k) (subst (In v) (get_blanked deleted [] xss k) i)
  where
    go : (z : Bool) → In v (if z then [] else get_or xss k []) → In v (get_or xss k [])
    go true j = absurd j
    go false j = j

-- erasing adds no name
pub fewer_operands : (u : Tree) (b k v : ℕ) → In v (operands_of (block_erased u b) k) → In v (operands_of u k)
fewer_operands u b k v i = in_blanked _ u.operands k v (subst (λ z. In v (get_or z k [])) (taken_operands (block_emptied u b) b (block_parent_of (block_emptied u b) b)) i)

pub fewer_successors : (u : Tree) (b k v : ℕ) → In v (successors_of (block_erased u b) k) → In v (successors_of u k)
fewer_successors u b k v i = in_blanked _ u.successors k v (subst (λ z. In v (get_or z k [])) (taken_successors (block_emptied u b) b (block_parent_of (block_emptied u b) b)) i)

-- a first part of the blocks was erased, the others stand
pub record AreErased (t u : Tree) (region : ℕ) (bs front rest : List ℕ) : Type 0 where
  pub tree : IsTree u
  pub erased : ErasesAll front t u
  pub clearing : IsClearing (λ k. cut_op t bs k) (λ c. cut_block t bs c) (λ c. cut_block t bs c) (λ r. if nat_eq region r then true else is_met_above t (is_in_one_of t bs) (region_parent_of t r)) t u
  pub operands : (k v : ℕ) → In v (operands_of u k) → In v (operands_of t k)
  pub successors : (k c : ℕ) → In c (successors_of u k) → In c (successors_of t k)
  pub left : (b : ℕ) → In b rest → block_parent_of u b ≡ Some region
  pub among : (b : ℕ) → In b rest → In b bs
  pub distinct : IsDistinct rest

pub none_erased : (t : Tree) (region : ℕ) (bs : List ℕ) → IsTree t → ((b : ℕ) → In b bs → block_parent_of t b ≡ Some region) → IsDistinct bs → AreErased t t region bs [] bs
none_erased t region bs w own d = record {
  tree = w;
  erased = Done;
  clearing = clearing_none _ _ _ _ t;
  operands = λ k v i. i;
  successors = λ k c i. i;
  left = own;
  among = λ b i. i;
  distinct = d;
}

module _ (t u : Tree) (w : IsTree t) (region : ℕ) (bs front rest : List ℕ) (b : ℕ) (own : (x : ℕ) → In x bs → block_parent_of t x ≡ Some region) (h : AreErased t u region bs front (b ∷ rest)) where
  here : In b bs
  here = h.among b (inl refl)

  pub next_stands : IsBlock u b
  next_stands = subst IsSome (sym (h.left b (inl refl))) refl

  region_parent_same : (r : ℕ) → region_parent_of u r ≡ region_parent_of t r
  region_parent_same r = ap (λ z. op_of_slot (slice_get z r)) h.clearing.slots

  block_holder_was : (x y : ℕ) → block_parent_operation_of u x ≡ Some y → block_parent_operation_of t x ≡ Some y
  block_holder_was x y e = let s = block_steps u x y e in block_holder_from t x s.0 (h.clearing.placed x s.0 s.1) ∙ sym (region_parent_same s.0) ∙ s.2

  holder_was : (x y : ℕ) → parent_operation_of u x ≡ Some y → parent_operation_of t x ≡ Some y
  holder_was x y e =
      let s = holder_steps u x y e in
      let k = h.clearing.stays x (h.tree.joined.all_in_place x s.0 s.1).0 in
      holder_from t x s.0 (sym k.1 ∙ s.1) ∙ block_holder_was s.0 y s.2

  inside_was : (x y : ℕ) → IsInside u x y → IsInside t x y
  inside_was x y (Directly e) = Directly (holder_was y x e)
  inside_was x y (Deeper q e j) = Deeper q (holder_was y q e) (inside_was x q j)

  within_was : (x y : ℕ) → IsWithin u x y → IsWithin t x y
  within_was x y (inl e) = inl e
  within_was x y (inr j) = inr (inside_was x y j)

  stands_was : (k : ℕ) → IsInOperation u b k → IsInOperation t b k
  stands_was k y =
      let z = h.clearing.stays y.0 (h.tree.joined.all_in_place y.0 b y.1).0 in
      (y.0, sym z.1 ∙ y.1, within_was y.0 k y.2)

  block_was : (c : ℕ) → IsBlockWithin u b c → IsBlockWithin t b c
  block_was c (inl e) = inl e
  block_was c (inr y) = inr (y.0, block_holder_was c y.0 y.1, stands_was y.0 y.2)

  made_was : (o : Option Def) → IsDefinedInBlock u b o → IsDefinedInBlock t b o
  made_was None m = m
  made_was (Some (Result k i)) m = stands_was k m
  made_was (Some (Argument c i)) m = block_was c m

  pub next_contained : IsUnnamedBlock t b → IsSelfContainedBlock u b
  next_contained n = record {
    values = λ x v i m. absurd (n.values x v (h.operands x v i) (subst (λ z. IsDefinedInBlock t b (slice_get z v)) h.clearing.definitions (made_was (definition_of u v) m)));
    blocks = λ x c i m. absurd (n.blocks x c (h.successors x c i) (block_was c m));
  }

  pub one_erased : IsTree t → IsTree (block_erased u b) → AreErased t (block_erased u b) region bs (front ++ b ∷ []) rest
  one_erased wt next = record {
    tree = next;
    erased = erases_more front t u b h.erased next_stands next;
    clearing = erased_clearing t wt region bs own u h.tree h.clearing b here;
    operands = λ k v i. h.operands k v (fewer_operands u b k v i);
    successors = λ k c i. h.successors k c (fewer_successors u b k c i);
    left = λ x i. left_beside u h.tree b x region (h.left b (inl refl)) (h.left x (inr i)) (λ e. h.distinct.0 (subst (λ z. In z rest) e i));
    among = λ x i. h.among x (inr i);
    distinct = h.distinct.1;
  }
