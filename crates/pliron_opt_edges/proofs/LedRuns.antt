-- A branch whose edges are led to the ends of their chains is what a pass may do.
use Rattle.std.proofs.Common.{◌≡◌, ◌≢◌, inl, inr, ⊎_elim, ℕ, zero, suc, ◌≤◌, Bool, List, [], ◌∷◌, ◌++◌, length, Some, None, IsSome, IsTrue, slice_get, refl, sym, ap, ◌∙◌, subst, append_assoc, arith}
use Rattle.std.proofs.lemmas.List.{set-set}
use Rattle.pliron_core.specs.declared.attrs.Head.{Head}
use Rattle.pliron_core.specs.Tree.{Tree, In, IsLive, IsBlock, IsInside, row_of, head_of, operands_of, successors_of, results_of, regions_of, parent_of, body_of, block_parent_of}
use Rattle.pliron_core.specs.Invariant.{IsTree}
use Rattle.pliron_core.proofs.HoldingLemmas.{some_is}
use Rattle.pliron_core.proofs.InsideLemmas.{inside_trans}
use Rattle.pliron_core.proofs.TreeLemmas.{live-within}
use Rattle.pliron_core.proofs.WalkLemmas.{inside_live, not_inside-itself, inside_live-outer}
use Rattle.pliron_laws.specs.Datum.{Datum, Shape, Move, Meaning}
use Rattle.pliron_laws.specs.Tree.{Operation, op_at, shape_of}
use Rattle.pliron_laws.specs.States.{data_of}
use Rattle.pliron_laws.specs.Acting.{MovesAlike, ActAlike, PassesSame}
use Rattle.pliron_laws.specs.Answers.{HeadPasses}
use Rattle.pliron_laws.specs.Laws.{ForwardsOperands}
use Rattle.pliron_laws.specs.Linked.{IsAdmitted, IsWellLinked}
use Rattle.pliron_laws.specs.Replacing.{JumpsTo, branch_replaced}
use Rattle.pliron_laws.proofs.Records.{operation_of, op_shows, make_op}
use Rattle.pliron_theory.specs.Change.{IsWholeChange}
use Rattle.pliron_theory.specs.Keeps.{IsFit, KeepsRuns, with_roots}
use Rattle.pliron_theory.specs.Rebranching.{IsRebranched, FitsInPlace, ActsInPlace}
use Rattle.pliron_theory.proofs.ChosenRoots.{forwards_operands}
use Rattle.pliron_theory.proofs.FoldedBranches.{rebranched}
use Rattle.pliron_theory.proofs.Keeping.{keeps_refl, keeps_trans}
use Rattle.pliron_theory.proofs.KeptPlaces.{inside_forth}
use Rattle.pliron_theory.proofs.RebranchedStays.{rebranched_keeps}
use Rattle.pliron_rewrite_blocks.specs.Links.{KeepsLinks}
use Rattle.pliron_rewrite_blocks.proofs.RebranchedInside.{rebranched_inside, inside_stays}
use Rattle.pliron_rewrite_blocks.proofs.RebranchedLinks.{rebranched_links}
use Rattle.pliron_dialect_edges.specs.AtOnce.{GoAtOnce}
use Rattle.pliron_opt_edges.specs.Chains.{OnlyJumps, PassesOn, EndsAt}
use Rattle.pliron_opt_edges.specs.EdgeLaws.{LedLaws}
use Rattle.pliron_opt_edges.specs.Moved.{IsLedToEnd, AreLedToEnds}
use Rattle.pliron_opt_edges.proofs.ChainLemmas.{one_of, same_end}
use Rattle.pliron_opt_edges.proofs.EndsKept.{Replaces}
use Rattle.pliron_opt_edges.proofs.HopLemmas.{Stands, stands, hop_keeps, jump_inside, in_middle, in_other, same_shape}
use Rattle.pliron_opt_edges.proofs.LedTrees.{with_targets, led_places, led_at, led_other, led_itself, led_tree, led_inside, led_links}
use Rattle.pliron_opt_edges.proofs.Placed.{placed, placed_long, is_placed, new_row, new_operands, new_successors, placed_any}

-- what acts the same acts alike
same_moves : (gotos : ℕ → List Datum → ℕ → List Datum → Type 0) → ((i : ℕ) (ds : List Datum) → gotos i ds i ds) → (a : Move) → MovesAlike PassesSame gotos a a
same_moves gotos g a = record { give = λ ds e. e; visit = λ i ds memo e. (ds, e, refl); goto = λ i ds e. (i, ds, e, g i ds); leave = λ ds e. e; emit = λ o memo e. e; traps = λ e. e }

-- where the new operation stands, and what went
pub record IsPlaced (t u : Tree) (op : ℕ) (xs : List ℕ) : Type 0 where
  pub block : ℕ
  pub front : List ℕ
  pub replaces : Replaces t u block op (length t.operations) front xs
  pub gone : head_of u op ≡ None
  pub block_parents : (b : ℕ) → block_parent_of u b ≡ block_parent_of t b
  pub longer : length u.operations ≡ suc (length t.operations)
  pub stays : (r k : ℕ) → IsLive u k → k ≢ length t.operations → IsInside t r k → IsInside u r k

as_many : (is_branch : Head → Bool) (t : Tree) (bs xs : List ℕ) → AreLedToEnds is_branch t bs xs → length xs ≡ length bs
as_many is_branch t [] [] l = refl
as_many is_branch t [] (x ∷ xs) l = absurd l
as_many is_branch t (b ∷ bs) [] l = absurd l
as_many is_branch t (b ∷ bs) (x ∷ xs) l = ap suc (as_many is_branch t bs xs l.1)

admitted_as : (m : Meaning) (t u : Tree) (k j : ℕ) → head_of u j ≡ head_of t k → length (operands_of u j) ≡ length (operands_of t k) → length (results_of u j) ≡ length (results_of t k) → length (successors_of u j) ≡ length (successors_of t k) → length (regions_of u j) ≡ length (regions_of t k) → IsAdmitted m t k → IsAdmitted m u j
admitted_as m t u k j head operands results successors regions a x e =
    let i : IsTrue (m.admits x (length (operands_of t k)) (length (results_of t k)) (length (successors_of t k)) (length (regions_of t k))) = a x (sym head ∙ e) in
    subst (λ n. IsTrue (m.admits x n (length (results_of u j)) (length (successors_of u j)) (length (regions_of u j)))) (sym operands)
    (subst (λ n. IsTrue (m.admits x (length (operands_of t k)) n (length (successors_of u j)) (length (regions_of u j)))) (sym results)
    (subst (λ n. IsTrue (m.admits x (length (operands_of t k)) (length (results_of t k)) n (length (regions_of u j)))) (sym successors)
    (subst (λ n. IsTrue (m.admits x (length (operands_of t k)) (length (results_of t k)) (length (successors_of t k)) n)) (sym regions) i)))

module _ (m : Meaning) (can_fold : Head → Bool) (SameTests : Head → Head → Type 0) (shortened : Shape → ℕ → ℕ → Head) (fw : ForwardsOperands m can_fold SameTests shortened) (at_once : GoAtOnce m) (t : Tree) (w : IsTree t) (root op : ℕ) (linked : IsWellLinked m t root) (inside : IsInside t root op) (branch : HeadPasses m.is_branch t op) where
  its : Stands m t op
  its = stands m can_fold SameTests shortened fw t root op w linked inside branch

  abbrev a : ℕ
  a = its.ends.block

  live : IsLive t op
  live = inside_live t w root op inside

  -- beside the block that the branch ends
  abbrev IsBeside : ℕ → Type 0
  IsBeside b = block_parent_of t b ≡ block_parent_of t a

  block_a : IsBlock t a
  block_a = (w.joined.all_in_place op a its.ends.in_block).1

  beside_block : (b : ℕ) → IsBeside b → IsBlock t b
  beside_block b e = subst IsSome (sym e) block_a

  -- a block beside passes on to one beside, by a jump without results
  module _ (b c jump : ℕ) (p : OnlyJumps m.is_branch t b jump c) (beside : IsBeside b) where
    in_b : parent_of t jump ≡ Some b
    in_b = w.bodies.owned jump b (subst (In jump) (sym p.body) (inl refl))

    jump_there : IsInside t root jump
    jump_there = jump_inside t op jump a b root its.ends.in_block in_b beside inside

    jump_stands : Stands m t jump
    jump_stands = stands m can_fold SameTests shortened fw t root jump w linked jump_there p.branch

    next_beside : IsBeside c
    next_beside =
        let same : jump_stands.ends.block ≡ b = some_is (sym jump_stands.ends.in_block ∙ in_b) in
        jump_stands.ends.own_region c (subst (In c) (sym p.leads) (inl refl)) ∙ ap (block_parent_of t) same ∙ beside

  end_beside : (n b d : ℕ) → EndsAt m.is_branch t n b d → IsBeside b → IsBeside d
  end_beside zero b d e beside = subst IsBeside e.0 beside
  end_beside (suc n) b d e beside = end_beside n e.0 d e.2 (next_beside b e.0 e.1.0 e.1.1 beside)

  target_beside : (b x : ℕ) → IsLedToEnd m.is_branch t b x → IsBeside b → IsBeside x
  target_beside b x (inl e) beside = end_beside e.0 b x e.1 beside
  target_beside b x (inr e) beside = subst IsBeside (sym e.0) beside

  targets_beside : (bs xs : List ℕ) → AreLedToEnds m.is_branch t bs xs → ((b : ℕ) → In b bs → IsBeside b) → (x : ℕ) → In x xs → IsBeside x
  targets_beside [] [] l beside x i = absurd i
  targets_beside [] (y ∷ xs) l beside x i = absurd l
  targets_beside (b ∷ bs) [] l beside x i = absurd l
  targets_beside (b ∷ bs) (y ∷ xs) l beside x (inl e) = subst IsBeside (sym e) (target_beside b y l.0 (beside b (inl refl)))
  targets_beside (b ∷ bs) (y ∷ xs) l beside x (inr i) = targets_beside bs xs l.1 (λ z j. beside z (inr j)) x i

  -- the chain of an edge of the branch doesn't come back to its block, for then it had no end
  other_block : (b d n k e c : ℕ) → In b (successors_of t op) → EndsAt m.is_branch t n b d → suc k ≤ n → PassesOn m.is_branch t e c → EndsAt m.is_branch t k c d → a ≢ e
  other_block b d n k e c i ends le p rest same =
      let body : its.front ++ op ∷ [] ≡ p.0 ∷ [] = sym its.split ∙ ap (body_of t) same ∙ p.1.body in
      let jump : op ≡ p.0 = last_one its.front op p.0 body in
      let here : b ≡ c = only (subst (In b) (ap (successors_of t) jump ∙ p.1.leads) i) in
      let one = same_end m.is_branch t n k b d d ends (subst (λ z. EndsAt m.is_branch t k z d) (sym here) rest) in
      omega (arith, le, one.0)
    where
      last_one : (front : List ℕ) (x y : ℕ) → front ++ x ∷ [] ≡ y ∷ [] → x ≡ y
      last_one [] x y e = one_of x y e
      last_one (z ∷ []) x y e = absurd (let n = ap length e in omega (arith, n))
      last_one (z ∷ v ∷ front) x y e = absurd (let n = ap length e in omega (arith, n))

      only : In b (c ∷ []) → b ≡ c
      only (inl e) = e
      only (inr z) = absurd z

  module _ (chosen : Head → Bool) where
    abbrev mc : Meaning
    mc = with_roots m chosen

    fwc : ForwardsOperands (with_roots m chosen) can_fold SameTests shortened
    fwc = forwards_operands m chosen can_fold SameTests shortened fw

    led_again : (xs ys : List ℕ) → with_targets (with_targets t op xs) op ys ≡ with_targets t op ys
    led_again xs ys = ap (λ z. let u : Tree = record t { successors = z } in u) (set-set t.successors op xs ys)

    beside_tree : (xs : List ℕ) → ((x : ℕ) → In x xs → IsBeside x) → IsTree (with_targets t op xs)
    beside_tree xs beside = led_tree t op w live xs (λ b i. beside_block b (beside b i))

    -- one edge past one block
    hop : (pre post : List ℕ) (e c : ℕ) → PassesOn m.is_branch t e c → a ≢ e → ((x : ℕ) → In x (pre ++ e ∷ post) → IsBeside x) → ((x : ℕ) → In x (pre ++ c ∷ post) → IsBeside x) → KeepsRuns (with_roots m chosen) (with_targets t op (pre ++ e ∷ post)) (with_targets t op (pre ++ c ∷ post))
    hop pre post e c p apart before after =
        let v : Tree = with_targets t op (pre ++ e ∷ post) in
        let beside_e = before e (in_middle pre post e) in
        let in_e = in_b e c p.0 p.1 beside_e in
        let other : p.0 ≢ op = λ s. apart (some_is (sym its.ends.in_block ∙ ap (parent_of t) (sym s) ∙ in_e)) in
        let j : OnlyJumps m.is_branch v e p.0 c = record { body = p.1.body; no_arguments = p.1.no_arguments; branch = p.1.branch; no_operands = p.1.no_operands; leads = led_other t op w live (pre ++ e ∷ post) p.0 other ∙ p.1.leads } in
        let again = led_again (pre ++ e ∷ post) (pre ++ c ∷ post) in
        subst (λ z. KeepsRuns (with_roots m chosen) v z) again
        (hop_keeps (with_roots m chosen) can_fold SameTests shortened fwc at_once v (beside_tree (pre ++ e ∷ post) before) op a its.front its.split its.childless its.no_results branch its.ends.in_block live pre post e c p.0 j (led_at t op w live (pre ++ e ∷ post)) apart (jump_stands e c p.0 p.1 beside_e).no_results beside_e after (subst IsTree (sym again) (beside_tree (pre ++ c ∷ post) after)))

    replaced_beside : (pre post : List ℕ) (e c : ℕ) → ((x : ℕ) → In x (pre ++ e ∷ post) → IsBeside x) → IsBeside c → (x : ℕ) → In x (pre ++ c ∷ post) → IsBeside x
    replaced_beside pre post e c before beside x i = ⊎_elim (λ s. subst IsBeside (sym s) beside) (λ k. before x k) (in_other pre post e c x i)

    -- one edge to the end of its chain
    chain : (b d n : ℕ) → In b (successors_of t op) → EndsAt m.is_branch t n b d → (k e : ℕ) → k ≤ n → EndsAt m.is_branch t k e d → (pre post : List ℕ) → ((x : ℕ) → In x (pre ++ e ∷ post) → IsBeside x) → KeepsRuns (with_roots m chosen) (with_targets t op (pre ++ e ∷ post)) (with_targets t op (pre ++ d ∷ post))
    chain b d n i ends zero e le rest pre post before = subst (λ z. KeepsRuns (with_roots m chosen) (with_targets t op (pre ++ e ∷ post)) (with_targets t op (pre ++ z ∷ post))) rest.0 (keeps_refl (with_roots m chosen) (with_targets t op (pre ++ e ∷ post)))
    chain b d n i ends (suc k) e le rest pre post before =
        let c = rest.0 in
        let p = rest.1 in
        let after = replaced_beside pre post e c before (next_beside e c p.0 p.1 (before e (in_middle pre post e))) in
        keeps_trans (with_roots m chosen) (with_targets t op (pre ++ e ∷ post)) (with_targets t op (pre ++ c ∷ post)) (with_targets t op (pre ++ d ∷ post))
        (hop pre post e c p (other_block b d n k e c i ends le p rest.2) before after)
        (chain b d n i ends k c (omega (arith, le)) rest.2 pre post after)

    one : (b x : ℕ) → IsLedToEnd m.is_branch t b x → In b (successors_of t op) → (pre post : List ℕ) → ((z : ℕ) → In z (pre ++ b ∷ post) → IsBeside z) → KeepsRuns (with_roots m chosen) (with_targets t op (pre ++ b ∷ post)) (with_targets t op (pre ++ x ∷ post))
    one b x (inl e) i pre post before = chain b x e.0 i e.1 e.0 b (omega arith) e.1 pre post before
    one b x (inr e) i pre post before = subst (λ z. KeepsRuns (with_roots m chosen) (with_targets t op (pre ++ b ∷ post)) (with_targets t op (pre ++ z ∷ post))) (sym e.0) (keeps_refl (with_roots m chosen) (with_targets t op (pre ++ b ∷ post)))

    -- all edges, one after the other
    all : (bs xs : List ℕ) → AreLedToEnds m.is_branch t bs xs → ((b : ℕ) → In b bs → In b (successors_of t op)) → (pre : List ℕ) → ((z : ℕ) → In z (pre ++ bs) → IsBeside z) → KeepsRuns (with_roots m chosen) (with_targets t op (pre ++ bs)) (with_targets t op (pre ++ xs))
    all [] [] l own pre before = keeps_refl (with_roots m chosen) (with_targets t op (pre ++ []))
    all [] (x ∷ xs) l own pre before = absurd l
    all (b ∷ bs) [] l own pre before = absurd l
    all (b ∷ bs) (x ∷ xs) l own pre before =
        let i = own b (inl refl) in
        let after = replaced_beside pre bs b x before (target_beside b x l.0 (before b (in_middle pre bs b))) in
        let turn : (ys : List ℕ) → (pre ++ x ∷ []) ++ ys ≡ pre ++ x ∷ ys = λ ys. append_assoc pre (x ∷ []) ys in
        keeps_trans (with_roots m chosen) (with_targets t op (pre ++ b ∷ bs)) (with_targets t op (pre ++ x ∷ bs)) (with_targets t op (pre ++ x ∷ xs))
        (one b x l.0 i pre bs before)
        (subst (λ z. KeepsRuns (with_roots m chosen) (with_targets t op (pre ++ x ∷ bs)) (with_targets t op z)) (turn xs)
        (subst (λ z. KeepsRuns (with_roots m chosen) (with_targets t op z) (with_targets t op ((pre ++ x ∷ []) ++ xs))) (turn bs)
        (all bs xs l.1 (λ z j. own z (inr j)) (pre ++ x ∷ []) (λ z j. after z (subst (In z) (turn bs) j)))))

    -- the branch with its new edges, in its old place
    led_keeps : (xs : List ℕ) → AreLedToEnds m.is_branch t (successors_of t op) xs → KeepsRuns (with_roots m chosen) t (with_targets t op xs)
    led_keeps xs l = subst (λ z. KeepsRuns (with_roots m chosen) z (with_targets t op xs)) (led_itself t op w live) (all (successors_of t op) xs l (λ b i. i) [] its.ends.own_region)

  -- and in its new place
  module _ (head : Head) (xs : List ℕ) (he : head_of t op ≡ Some head) (l : AreLedToEnds m.is_branch t (successors_of t op) xs) (wu : IsTree (branch_replaced t op head (operands_of t op) xs)) where
    abbrev v : Tree
    v = with_targets t op xs

    abbrev new : ℕ
    new = length t.operations

    xs_beside : (x : ℕ) → In x xs → IsBeside x
    xs_beside = targets_beside (successors_of t op) xs l its.ends.own_region

    wv : IsTree v
    wv = led_tree t op w live xs (λ b i. beside_block b (xs_beside b i))

    abbrev p : Tree
    p = placed t a op head (operands_of t op) xs

    is_p : branch_replaced t op head (operands_of t op) xs ≡ placed t a op head (operands_of t op) xs
    is_p = is_placed t a op head (operands_of t op) xs its.front w its.split its.childless

    wp : IsTree p
    wp = subst IsTree is_p wu

    from_v : placed v a op head (operands_of t op) xs ≡ placed t a op head (operands_of t op) xs
    from_v = placed_any t a op head (operands_of t op) xs its.front w its.split its.childless xs

    wvp : IsTree (branch_replaced v op head (operands_of t op) xs)
    wvp = subst IsTree (sym (is_placed v a op head (operands_of t op) xs its.front wv its.split its.childless ∙ from_v)) wp

    rebranched_v : IsRebranched v p a op new its.front
    rebranched_v = subst (λ z. IsRebranched v z a op new its.front) from_v (rebranched v a op head (operands_of t op) xs its.front wv wvp its.split its.childless its.no_results (λ x i. i) (λ c i. subst (In c) (sym (led_at t op w live xs)) i))

    p_row : row_of p new ≡ record { head = Some head; results = []; regions = [] }
    p_row = new_row t a op head (operands_of t op) xs its.front w its.split its.childless

    p_operands : operands_of p new ≡ operands_of t op
    p_operands = new_operands t a op head (operands_of t op) xs its.front w its.split its.childless

    p_successors : successors_of p new ≡ xs
    p_successors = new_successors t a op head (operands_of t op) xs its.front w its.split its.childless

    admitted_new : (k : Meaning) → IsAdmitted k v op → IsAdmitted k p new
    admitted_new k ad = admitted_as k v p op new (ap (λ z. z.head) p_row ∙ sym he) (ap length p_operands) (ap (λ z. length z.results) p_row ∙ sym (ap length its.no_results)) (ap length (p_successors ∙ sym (led_at t op w live xs))) (ap (λ z. length z.regions) p_row ∙ sym (ap length its.childless)) ad

    shapes_new : (k : Meaning) (x y : Operation) → op_at v op ≡ Some x → op_at p new ≡ Some y → IsTrue (k.is_branch x.head) → shape_of k p y ≡ shape_of k v x
    shapes_new k x y xe ye br =
        let sx = op_shows v op x xe in
        let sy = op_shows p new y ye in
        same_shape k v p x y (sym sx.regions ∙ its.childless) (sym sy.regions ∙ ap (λ z. z.regions) p_row) br
        (some_is (sym sy.head ∙ ap (λ z. z.head) p_row ∙ sym he ∙ sx.head))
        (ap length (sym sy.operands ∙ p_operands ∙ sx.operands))
        (ap length (sym sy.results ∙ ap (λ z. z.results) p_row ∙ sym its.no_results ∙ sx.results))
        (ap length (sym sy.successors ∙ p_successors ∙ sym (led_at t op w live xs) ∙ sx.successors))

    module _ (chosen : Head → Bool) where
      abbrev mk : Meaning
      mk = with_roots m chosen

      fits_new : (r : ℕ) → IsFit (with_roots m chosen) v r → IsInside v r op → FitsInPlace (with_roots m chosen) p new
      fits_new r f i = record {
        admitted = admitted_new (with_roots m chosen) (f.linked.admitted op (inr i));
        forwards = λ y n b ye br g.
            let sy = op_shows p new y ye in
            let x = operation_of v op head in
            let xe : op_at v op ≡ Some x = make_op v op head he in
            let sx = op_shows v op x xe in
            let bx : IsTrue (m.is_branch x.head) = branch x.head sx.head in
            ap (λ s. length (mk.forwarded s n)) (shapes_new mk x y xe ye bx)
            ∙ f.defined.forwards op n b x i xe bx (ap (λ q. slice_get q n) (sym sx.successors ∙ led_at t op w live xs ∙ sym p_successors ∙ sy.successors) ∙ g)
            ∙ sym (ap length (rebranched_v.arguments b));
      }

      acts_new : (r : ℕ) → ActsInPlace (with_roots m chosen) v p r op new
      acts_new r s rest x y first reach at none xe ye reads =
          let sx = op_shows v op x xe in
          let sy = op_shows p new y ye in
          let br = branch x.head sx.head in
          let edges : (n : ℕ) → slice_get (successors_of p new) n ≡ slice_get (successors_of v op) n = λ n. ap (λ q. slice_get q n) (p_successors ∙ sym (led_at t op w live xs)) in (
            first,
            ap (data_of s.environment) (sym sy.operands ∙ p_operands ∙ sx.operands) ∙ reads,
            subst (λ z. ActAlike mk.act PassesSame (JumpsTo (successors_of v op) (successors_of p new)) (shape_of mk v x) z first first) (sym (shapes_new mk x y xe ye br))
                (record {
                  begin = same_moves (JumpsTo (successors_of v op) (successors_of p new)) (λ n ds. (edges n, refl)) _;
                  later = λ memo input c. same_moves (JumpsTo (successors_of v op) (successors_of p new)) (λ n ds. (edges n, refl)) _;
                }),
          )

      longer : length v.operations ≤ length p.operations
      longer = let n = placed_long t a op head (operands_of t op) xs in omega (arith, n)

      new_keeps : KeepsRuns (with_roots m chosen) t p
      new_keeps = keeps_trans mk t v p (led_keeps chosen xs l) (rebranched_keeps mk v p a op new its.front wv wp rebranched_v longer (omega arith) (λ r f i. fits_new r f i) (λ r f. acts_new r))

    p_links : KeepsLinks m t p
    p_links r lr =
        let lv = led_links t op w live m xs (as_many m.is_branch t (successors_of t op) xs l) its.ends xs_beside in
        rebranched_links m v p a op new its.front wv wp rebranched_v (admitted_new m ((lv root linked).admitted op (inr (inside_forth (led_places t op xs) root op inside)))) r (lv r lr)

    p_change : IsWholeChange m t p root
    p_change = record {
      liveness = subst (λ z. IsSome z.head) (sym (rebranched_v.rows root not_op not_new)) root_live;
      linked = p_links root linked;
      inside = inside_trans t v p root (led_inside t op w live xs root inside) (rebranched_inside v p root a op new its.front wv wp (inside_forth (led_places t op xs) root op inside) rebranched_v);
      runs = new_keeps;
    }
      where
        root_live : IsLive t root
        root_live = inside_live-outer t w root op inside

        not_op : root ≢ op
        not_op e = not_inside-itself t w root (subst (IsInside t root) (sym e) inside)

        not_new : root ≢ new
        not_new e = let lt = live-within t root root_live in omega (arith, lt, e)

    p_placed : IsPlaced t p op xs
    p_placed = record {
      block = a;
      front = its.front;
      replaces = record {
        split = its.split;
        put = rebranched_v.put;
        in_a = its.ends.in_block;
        fresh = λ b i. let lt = live-within t new (w.joined.all_in_place new b (w.bodies.owned new b i)).0 in omega (arith, lt);
        bodies = λ b ne. rebranched_v.bodies b ne;
        arguments = λ b. rebranched_v.arguments b;
        heads = λ k no nn. ap (λ z. z.head) (rebranched_v.rows k no nn);
        operands = λ k no nn. rebranched_v.operands k no nn;
        successors = λ k no nn. rebranched_v.successors k no nn ∙ led_other t op w live xs k no;
        new_head = ap (λ z. z.head) p_row ∙ sym he;
        new_operands = p_operands;
        new_successors = p_successors;
      };
      gone = rebranched_v.deleted;
      block_parents = λ b. rebranched_v.block_parents b;
      longer = placed_long t a op head (operands_of t op) xs;
      stays = λ r k lives nn i. inside_stays v p a op new its.front wv wp rebranched_v r k lives nn (inside_forth (led_places t op xs) r k i);
    }

pub led_laws : (m : Meaning) (can_fold : Head → Bool) (SameTests : Head → Head → Type 0) (shortened : Shape → ℕ → ℕ → Head) → ForwardsOperands m can_fold SameTests shortened → GoAtOnce m → LedLaws m
led_laws m can_fold SameTests shortened fw at_once = record {
  change = λ t root op head targets w wu linked is. subst (λ z. IsWholeChange m t z root) (sym (is_p m can_fold SameTests shortened fw at_once t w root op linked is.inside is.branch head targets is.has_head is.led wu)) (p_change m can_fold SameTests shortened fw at_once t w root op linked is.inside is.branch head targets is.has_head is.led wu);
  links = λ t root op head targets w wu linked is. subst (λ z. KeepsLinks m t z) (sym (is_p m can_fold SameTests shortened fw at_once t w root op linked is.inside is.branch head targets is.has_head is.led wu)) (p_links m can_fold SameTests shortened fw at_once t w root op linked is.inside is.branch head targets is.has_head is.led wu);
}

module _ (m : Meaning) (can_fold : Head → Bool) (SameTests : Head → Head → Type 0) (shortened : Shape → ℕ → ℕ → Head) (fw : ForwardsOperands m can_fold SameTests shortened) where
  pub led_stands : (t : Tree) → IsTree t → (root op : ℕ) → IsWellLinked m t root → IsInside t root op → HeadPasses m.is_branch t op → Stands m t op
  led_stands t w root op linked inside branch = stands m can_fold SameTests shortened fw t root op w linked inside branch

  module _ (at_once : GoAtOnce m) (t : Tree) (w : IsTree t) (root op : ℕ) (linked : IsWellLinked m t root) (inside : IsInside t root op) (branch : HeadPasses m.is_branch t op) where
    pub led_blocks : (xs : List ℕ) → AreLedToEnds m.is_branch t (successors_of t op) xs → (x : ℕ) → In x xs → IsBlock t x
    led_blocks xs l x i = beside_block m can_fold SameTests shortened fw at_once t w root op linked inside branch x (targets_beside m can_fold SameTests shortened fw at_once t w root op linked inside branch (successors_of t op) xs l (its m can_fold SameTests shortened fw at_once t w root op linked inside branch).ends.own_region x i)

    pub led_placed : (head : Head) (xs : List ℕ) → head_of t op ≡ Some head → AreLedToEnds m.is_branch t (successors_of t op) xs → IsTree (branch_replaced t op head (operands_of t op) xs) → IsPlaced t (branch_replaced t op head (operands_of t op) xs) op xs
    led_placed head xs he l wu = subst (λ z. IsPlaced t z op xs) (sym (is_p m can_fold SameTests shortened fw at_once t w root op linked inside branch head xs he l wu)) (p_placed m can_fold SameTests shortened fw at_once t w root op linked inside branch head xs he l wu)
