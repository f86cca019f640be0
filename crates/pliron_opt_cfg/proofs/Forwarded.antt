-- A pair whose arguments were replaced one after the other.
use Rattle.std.proofs.Common.{◌≡◌, ◌≢◌, inl, inr, ℕ, suc, ◌≤◌, Bool, List, [], ◌∷◌, length, map, take, Some, slice_get, refl, sym, ap, ◌∙◌, subst, arith}
use Rattle.pliron_core.specs.Uses.{replace_target}
use Rattle.pliron_core.specs.Changes.{IsInsideChange}
use Rattle.pliron_core.specs.Tree.{Tree, In, HoldsBlock, IsDefined, operands_of, arguments_of, block_parent_of, block_parent_operation_of, region_parent_of, up_from}
use Rattle.pliron_core.specs.Invariant.{IsTree}
use Rattle.pliron_core.specs.Writes.{after_replacing}
use Rattle.pliron_core.proofs.HoldingLemmas.{in_slice}
use Rattle.pliron_core.proofs.UsedLemmas.{length_map, kept_replace}
use Rattle.pliron_core.proofs.InsideLemmas.{inside_refl, inside_trans}
use Rattle.pliron_laws.specs.Datum.{Head, Shape, Meaning}
use Rattle.pliron_laws.specs.Laws.{ForwardsOperands}
use Rattle.pliron_laws.specs.Linked.{IsWellLinked}
use Rattle.pliron_theory.specs.Keeps.{KeepsAllRuns}
use Rattle.pliron_theory.proofs.WholeChanges.{all_refl, all_trans}
use Rattle.pliron_rewrite_blocks.specs.Links.{KeepsLinks}
use Rattle.pliron_rewrite_blocks.specs.Pairs.{IsMergeable, forwarded_uses}
use Rattle.pliron_rewrite_blocks.proofs.PairEdges.{beside, replacing}
use Rattle.pliron_rewrite_blocks.proofs.RewriteLinks.{replaced_links}
use Rattle.pliron_rewrite_blocks.proofs.ReplacedInside.{replaced_argument}
use Rattle.pliron_rewrite_blocks.proofs.NoNewPairs.{no_new_by_uses}
use Rattle.pliron_opt_cfg.proofs.PairLemmas.{values_defined, way_of_pair}
use Rattle.pliron_opt_cfg.proofs.JoinLemmas.{get_take, length_take}

tree_replaced : (t : Tree) (old new : ℕ) → IsTree t → IsDefined t new → IsTree (after_replacing t old new)
tree_replaced t old new w d = record {
  keys = record { operands = length_map (map (replace_target old new)) t.operands ∙ w.keys.operands; successors = w.keys.successors; parents = w.keys.parents; arguments = w.keys.arguments; block_parents = w.keys.block_parents; slots = w.keys.slots };
  joined = kept_replace t old new w.joined d;
  bodies = w.bodies;
  layouts = w.layouts;
}

-- what stands after the uses of these arguments of b went to the values forwarded to them
pub record IsForwarded (m : Meaning) (t u : Tree) (holder a b jump : ℕ) (values ps : List ℕ) : Type 0 where
  pub tree : IsTree u
  pub runs : KeepsAllRuns m t u
  pub links : KeepsLinks m t u
  pub inside : IsInsideChange t u holder
  pub held : block_parent_operation_of u a ≡ Some holder
  pub pair : IsMergeable m u a b jump values
  pub unused : (p : ℕ) → In p ps → (k : ℕ) → In p (operands_of u k) → ⊥
  pub no_new : (q k : ℕ) → In q (arguments_of t b) → In q (operands_of u k) → In q (operands_of t k)
  pub back : (c d j : ℕ) (others : List ℕ) → c ≢ a → block_parent_of t d ≡ block_parent_of t c → IsMergeable m u c d j others → (vs : List ℕ) × IsMergeable m t c d j vs

module _ (m : Meaning) (can_fold : Head → Bool) (SameTests : Head → Head → Type 0) (shortened : Shape → ℕ → ℕ → Head) (law : ForwardsOperands m can_fold SameTests shortened) (holder a b jump : ℕ) (values : List ℕ) where
  pub forwarded : (t : Tree) (ps vs : List ℕ) → IsTree t → IsWellLinked m t holder → block_parent_operation_of t a ≡ Some holder → IsMergeable m t a b jump values → length ps ≤ length vs → ((i p v : ℕ) → slice_get ps i ≡ Some p → slice_get vs i ≡ Some v → (n : ℕ) × (slice_get (arguments_of t b) n ≡ Some p) × (slice_get values n ≡ Some v)) → IsForwarded m t (forwarded_uses t ps vs) holder a b jump values ps
  forwarded t [] vs w linked held h le all = record {
    tree = w;
    runs = all_refl m t;
    links = λ root l. l;
    inside = inside_refl t holder;
    held = held;
    pair = h;
    unused = λ p i k j. absurd i;
    no_new = λ q k i j. j;
    back = λ c d j others ne besides q. (others, q);
  }
  forwarded t (p ∷ ps) [] w linked held h le all = absurd (omega (arith, le))
  forwarded t (p ∷ ps) (v ∷ vs) w linked held h le all =
      let n = all 0 p v refl refl in
      let one = replacing m can_fold SameTests shortened law t holder a b jump n.0 p v values w linked.edges held h n.1 n.2 in
      let liveness = values_defined m t w a b jump values (way_of_pair m t a b jump values h) h.forwarded v (in_slice values n.0 v n.2) in
      let holds : HoldsBlock t holder b = (holder, ap (λ o. up_from o (λ r. region_parent_of t r)) (beside m t holder a b jump values w linked.edges held h) ∙ held, inl refl) in
      let rest = forwarded (after_replacing t p v) ps vs (tree_replaced t p v w liveness) (replaced_links m t p v holder linked) held one.pair (omega (arith, le)) (λ i x y e f. all (suc i) x y e f) in
      record {
        tree = rest.tree;
        runs = all_trans m t (after_replacing t p v) (forwarded_uses (after_replacing t p v) ps vs) one.runs rest.runs;
        links = λ root l. rest.links root (replaced_links m t p v root l);
        inside = inside_trans t (after_replacing t p v) (forwarded_uses (after_replacing t p v) ps vs) holder (replaced_argument t holder b n.0 p v w holds n.1) rest.inside;
        held = rest.held;
        pair = rest.pair;
        unused = λ x i k j. elim i [
          | inl e ↦ one.unused k (subst (λ z. In z (operands_of (after_replacing t p v) k)) e (rest.no_new x k (subst (λ z. In z (arguments_of t b)) (sym e) (in_slice (arguments_of t b) n.0 p n.1)) j))
          | inr y ↦ rest.unused x y k j
        ];
        no_new = λ q k i j. one.no_new k q i (rest.no_new q k i j);
        back = λ c d j others ne besides q.
            let x = rest.back c d j others ne besides q in
            no_new_by_uses m t holder a b jump n.0 p v c d j values x.0 w linked.edges held h n.1 n.2 ne besides x.1;
      }

  -- the first n arguments, and all of them
  pub forwarded_first : (t : Tree) (n : ℕ) → IsTree t → IsWellLinked m t holder → block_parent_operation_of t a ≡ Some holder → IsMergeable m t a b jump values → IsForwarded m t (forwarded_uses t (take n (arguments_of t b)) values) holder a b jump values (take n (arguments_of t b))
  forwarded_first t n w linked held h =
      let le = length_take n (arguments_of t b) in
      let counts = h.counts in
      forwarded t (take n (arguments_of t b)) values w linked held h (omega (arith, le, counts)) (λ i p v e f. (i, get_take n (arguments_of t b) i p e, f))

  pub forwarded_all : (t : Tree) → IsTree t → IsWellLinked m t holder → block_parent_operation_of t a ≡ Some holder → IsMergeable m t a b jump values → IsForwarded m t (forwarded_uses t (arguments_of t b) values) holder a b jump values (arguments_of t b)
  forwarded_all t w linked held h = let counts = h.counts in forwarded t (arguments_of t b) values w linked held h (omega (arith, counts)) (λ i p v e f. (i, e, f))
