-- Edges that are moved, one branch after the other.
use Rattle.std.proofs.Common.{◌≡◌, ◌≢◌, inl, inr, ⊎_elim, ◌↔◌, ℕ, zero, suc, ◌+◌, ◌<◌, ◌≤◌, Bool, true≢false, List, [], ◌∷◌, ◌++◌, length, map, take, drop, Option, Some, None, is_some, IsSome, slice_get, refl, sym, ap, ◌∙◌, subst, arith, add-one}
use Rattle.std.proofs.lemmas.Bool.{cases_eq}
use Rattle.std.proofs.lemmas.List.{drop_all}
use Rattle.pliron_core.specs.declared.attrs.Head.{Head}
use Rattle.pliron_core.specs.declared.attrs.IRStatus.{IRStatus}
use Rattle.pliron_core.specs.declared.attrs.IRStatus.TheVariants.{Changed, Unchanged}
use Rattle.pliron_core.specs.Status.{changed_by_either}
use Rattle.pliron_core.specs.Lists.{IsDistinct}
use Rattle.pliron_core.specs.Changes.{IsSameTree}
use Rattle.pliron_core.specs.Tree.{Tree, In, IsLive, IsBlock, IsInside, head_of, operands_of, successors_of, results_of, regions_of, parent_of, block_parent_of}
use Rattle.pliron_core.specs.Invariant.{IsTree}
use Rattle.pliron_core.specs.Walks.{contents}
use Rattle.pliron_core.proofs.ArgumentLemmas.{take_more}
use Rattle.pliron_core.proofs.FilterLemmas.{In-filter, distinct-filter, In-filtered}
use Rattle.pliron_core.proofs.HoldingLemmas.{some_is, not_none, some_of}
use Rattle.pliron_core.proofs.TreeLemmas.{live-within}
use Rattle.pliron_core.proofs.WalkLemmas.{inside_live, contents-inside, inside-contents, distinct-contents, decide_inside}
use Rattle.pliron_laws.specs.Answers.{has_passing_head, HeadPasses}
use Rattle.pliron_laws.specs.Datum.{Meaning, Shape}
use Rattle.pliron_laws.specs.Laws.{ForwardsOperands}
use Rattle.pliron_laws.specs.Linked.{IsWellLinked}
use Rattle.pliron_laws.specs.Replacing.{branch_replaced}
use Rattle.pliron_laws.proofs.LinkedLemmas.{linked_same}
use Rattle.pliron_theory.specs.Change.{IsWholeChange}
use Rattle.pliron_theory.proofs.WholeChanges.{whole_refl, whole_trans, same_whole}
use Rattle.pliron_rewrite_blocks.specs.Links.{KeepsLinks}
use Rattle.pliron_dialect_edges.specs.AtOnce.{GoAtOnce}
use Rattle.pliron_opt_edges.specs.declared.chains.ChainEnds.{ChainEnds}
use Rattle.pliron_opt_edges.specs.Chains.{EndsAt}
use Rattle.pliron_opt_edges.specs.Ends.{known_end, IsKnownRightly, AreKnownRightly, known_target, known_target_of, known_targets_of}
use Rattle.pliron_opt_edges.specs.Moved.{IsLedToEnd, AreLedToEnds, IsMovable, MovesEdges, MovesEdges.Nothing, MovesEdges.Then, LeavesNoChain}
use Rattle.pliron_opt_edges.specs.MoveSteps.{branches_within, MovesOne, EndAlike, IsUnmovedBranch, LeadsToEnds, ReportsMade, IsMoving}
use Rattle.pliron_opt_edges.proofs.ChainLemmas.{same_end, end_stays}
use Rattle.pliron_opt_edges.proofs.EndsKept.{Replaces, ends_on, ends_back, all_led_done}
use Rattle.pliron_opt_edges.proofs.LedRuns.{IsPlaced, led_laws, led_placed, led_blocks, led_stands}

-- ---- lists

pub target_more : (f : ℕ → ℕ) (xs ys zs : List ℕ) (j x : ℕ) → zs ≡ ys ++ f x ∷ [] → ys ≡ map f (take j xs) → slice_get xs j ≡ Some x → zs ≡ map f (take (j + 1) xs)
target_more f xs ys zs j x e at is =
    e ∙ ap (λ l. l ++ f x ∷ []) at ∙ joined (take j xs) ∙ ap (map f) (sym (take_more xs j x is) ∙ ap (λ n. take n xs) (sym (add-one j)))
  where
    joined : (ls : List ℕ) → map f ls ++ f x ∷ [] ≡ map f (ls ++ x ∷ [])
    joined [] = refl
    joined (l ∷ ls) = ap (λ z. f l ∷ z) (joined ls)

pub same_list : (xs ys : List ℕ) → length xs ≡ length ys → ((i x y : ℕ) → i < length xs → slice_get xs i ≡ Some x → slice_get ys i ≡ Some y → x ≡ y) → xs ≡ ys
same_list [] [] e same = refl
same_list [] (y ∷ ys) e same = absurd (omega (arith, e))
same_list (x ∷ xs) [] e same = absurd (omega (arith, e))
same_list (x ∷ xs) (y ∷ ys) e same =
    let here : x ≡ y = same 0 x y (omega arith) refl refl in
    let rest : xs ≡ ys = same_list xs ys (omega (arith, e)) (λ i v z lt p q. same (suc i) v z (omega (arith, lt)) p q) in
    ap (λ z. z ∷ xs) here ∙ ap (λ z. y ∷ z) rest

-- one entry more is the same
pub equal_more : (xs ys : List ℕ) (j a b : ℕ) → ((i x y : ℕ) → i < j → slice_get xs i ≡ Some x → slice_get ys i ≡ Some y → x ≡ y) → slice_get xs j ≡ Some a → slice_get ys j ≡ Some b → a ≡ b → (i x y : ℕ) → i < j + 1 → slice_get xs i ≡ Some x → slice_get ys i ≡ Some y → x ≡ y
equal_more xs ys j a b before p q same i x y lt e f = elim (cases_eq i j) [
  | inl s ↦ some_is (sym e ∙ ap (slice_get xs) s ∙ p) ∙ same ∙ some_is (sym q ∙ ap (slice_get ys) (sym s) ∙ f)
  | inr ne ↦ before i x y (omega (arith, lt, ne)) e f
]

drop_at : (xs : List ℕ) (i x : ℕ) → slice_get xs i ≡ Some x → drop i xs ≡ x ∷ drop (i + 1) xs
drop_at [] i x e = absurd (not_none e)
drop_at (y ∷ ys) zero x e = ap (λ z. z ∷ ys) (some_is e)
drop_at (y ∷ ys) (suc i) x e =
    let one : suc i + 1 ≡ suc (i + 1) = omega arith in drop_at ys i x e ∙ ap (λ n. x ∷ drop n (y ∷ ys)) (sym one)

-- ---- where edges are led, by what is known

module _ (is_branch : Head → Bool) (t : Tree) where
  led_by : (b : ℕ) (o : Option (Option ℕ)) → IsSome o → IsKnownRightly is_branch t b o → IsLedToEnd is_branch t b (known_target b o)
  led_by b None is r = absurd (true≢false (sym is))
  led_by b (Some None) is r = inr (refl, r)
  led_by b (Some (Some d)) is r = inl r

  all_led_by : (ends : ChainEnds) → AreKnownRightly is_branch t ends → (bs : List ℕ) → ((b : ℕ) → In b bs → IsSome (known_end ends b)) → AreLedToEnds is_branch t bs (map (λ b. known_target_of ends b) bs)
  all_led_by ends right [] there = tt
  all_led_by ends right (b ∷ bs) there = (led_by b (known_end ends b) (there b (inl refl)) (right b), all_led_by ends right bs (λ z i. there z (inr i)))

  -- so it is where chains end alike
  led_on : (u : Tree) → EndAlike is_branch t u → (b x : ℕ) → IsLedToEnd is_branch t b x → IsLedToEnd is_branch u b x
  led_on u alike b x (inl e) = inl ((alike b x).0 e)
  led_on u alike b x (inr e) = inr (e.0, λ n d q. let r = (alike b d).1 (n, q) in e.1 r.0 d r.1)

  all_led_on : (u : Tree) → EndAlike is_branch t u → (bs xs : List ℕ) → AreLedToEnds is_branch t bs xs → AreLedToEnds is_branch u bs xs
  all_led_on u alike [] [] l = tt
  all_led_on u alike [] (x ∷ xs) l = absurd l
  all_led_on u alike (b ∷ bs) [] l = absurd l
  all_led_on u alike (b ∷ bs) (x ∷ xs) l = (led_on u alike b x l.0, all_led_on u alike bs xs l.1)

  -- the end of a chain is one where chains end alike
  ends_still : (u : Tree) → EndAlike is_branch t u → (b : ℕ) → EndsAt is_branch t 0 b b → EndsAt is_branch u 0 b b
  ends_still u alike b e = let r = (alike b b).0 (0, e) in end_stays is_branch u r.0 b b r.1

  done_on : (u : Tree) → EndAlike is_branch t u → (k : ℕ) → successors_of u k ≡ successors_of t k → LeadsToEnds is_branch t k → LeadsToEnds is_branch u k
  done_on u alike k e done b n d i ends =
      let back = (alike b d).1 (n, ends) in
      let none = done b back.0 d (subst (In b) e i) back.1 in
      let here : EndsAt is_branch t 0 b d = subst (λ z. EndsAt is_branch t z b d) none back.1 in
      let last : EndsAt is_branch t 0 b b = subst (λ z. EndsAt is_branch t 0 b z) (sym here.0) here in
      (same_end is_branch u n 0 b d b ends (ends_still u alike b last)).0

-- what is listed is live
pub listed_live : (is_branch : Head → Bool) (t : Tree) → IsTree t → (root k : ℕ) → In k (branches_within is_branch t root) → IsLive t k
listed_live is_branch t w root k i =
    let found = In-filter (λ z. has_passing_head is_branch (head_of t z)) (contents t root) k i in
    inside_live t w root k (contents-inside t w root k found.0)

alike_refl : (is_branch : Head → Bool) (t : Tree) → EndAlike is_branch t t
alike_refl is_branch t b d = (λ e. e, λ e. e)

alike_trans : (is_branch : Head → Bool) (t u v : Tree) → EndAlike is_branch t u → EndAlike is_branch u v → EndAlike is_branch t v
alike_trans is_branch t u v p q b d = (λ e. (q b d).0 ((p b d).0 e), λ e. (p b d).1 ((q b d).1 e))

made_then : (t u v : Tree) (status : IRStatus) → ReportsMade status t u → length v.operations ≡ suc (length u.operations) → length t.operations < length v.operations
made_then t u v Unchanged r e = let s : length u.operations ≡ length t.operations = ap (λ z. length z.operations) r in omega (arith, s, e)
made_then t u v Changed r e = omega (arith, r, e)

either_changed : (status : IRStatus) → changed_by_either status Changed ≡ Changed
either_changed Unchanged = refl
either_changed Changed = refl

either_unchanged : (status : IRStatus) → changed_by_either status Unchanged ≡ status
either_unchanged Unchanged = refl
either_unchanged Changed = refl

apart_status : Changed ≡ Unchanged → ⊥
apart_status e = cc

pub told : (t u : Tree) (status : IRStatus) → ReportsMade status t u → (status ≡ Unchanged) ↔ (u ≡ t)
told t u Unchanged r = (λ e. r, λ e. refl)
told t u Changed r = (λ e. absurd (apart_status e), λ e. let s : length u.operations ≡ length t.operations = ap (λ z. length z.operations) e in absurd (omega (arith, s, r)))

module _ (m : Meaning) (can_fold : Head → Bool) (SameTests : Head → Head → Type 0) (shortened : Shape → ℕ → ℕ → Head) (fw : ForwardsOperands m can_fold SameTests shortened) (at_once : GoAtOnce m) (root : ℕ) (start : Tree) (w : IsTree start) (ends : ChainEnds) where
  abbrev branches : List ℕ
  branches = branches_within m.is_branch start root

  abbrev IsOn : ℕ → IRStatus → Tree → Type 0
  IsOn i status now = IsMoving m root start branches i status now

  pub moving_start : IsLive start root → IsWellLinked m start root → IsMoving m root start (branches_within m.is_branch start root) 0 Unchanged start
  moving_start live linked = record {
    tree = w;
    change = whole_refl m start root live linked;
    links = λ r l. l;
    blocks = λ b. refl;
    moved = Nothing;
    ends = alike_refl m.is_branch start;
    waiting = λ k i.
        let found = In-filter (λ z. has_passing_head m.is_branch (head_of start z)) (contents start root) k i in
        record { inside = contents-inside start w root k found.0; branch = λ h e. sym (ap (has_passing_head m.is_branch) e) ∙ found.1; successors = refl };
    distinct = distinct-filter (λ z. has_passing_head m.is_branch (head_of start z)) (contents start root) (distinct-contents start w root);
    done = λ k inside branch no. absurd (no (is_listed k inside branch));
    reported = refl;
  }
    where
      is_listed : (k : ℕ) → IsInside start root k → HeadPasses m.is_branch start k → In k (branches_within m.is_branch start root)
      is_listed k inside branch =
          let h = some_of (head_of start k) (inside_live start w root k inside) in
          In-filtered (λ z. has_passing_head m.is_branch (head_of start z)) (contents start root) k (inside-contents start w root k inside) (ap (has_passing_head m.is_branch) h.1 ∙ branch h.0 h.1)

  module _ (right : AreKnownRightly m.is_branch start ends) (there : (k b : ℕ) → In k (branches_within m.is_branch start root) → In b (successors_of start k) → IsSome (known_end ends b)) (i : ℕ) (status : IRStatus) (now : Tree) (on : IsMoving m root start (branches_within m.is_branch start root) i status now) (op : ℕ) (at : slice_get (branches_within m.is_branch start root) i ≡ Some op) where
    listed : In op branches
    listed = in_list branches i at
      where
        in_list : (xs : List ℕ) (i : ℕ) → slice_get xs i ≡ Some op → In op xs
        in_list [] i e = absurd (not_none e)
        in_list (x ∷ xs) zero e = inl (some_is (sym e))
        in_list (x ∷ xs) (suc i) e = inr (in_list xs i e)

    waits : IsUnmovedBranch m.is_branch start now root op
    waits = on.waiting op (subst (In op) (sym (drop_at branches i op at)) (inl refl))

    apart : IsDistinct (op ∷ drop (i + 1) branches)
    apart = subst IsDistinct (drop_at branches i op at) on.distinct

    abbrev targets : List ℕ
    targets = known_targets_of ends now op

    led : AreLedToEnds m.is_branch now (successors_of now op) targets
    led = all_led_on m.is_branch start now on.ends (successors_of now op) targets (all_led_by m.is_branch start ends right (successors_of now op) (λ b j. there op b listed (subst (In b) waits.successors j)))

    pub move_live : IsLive now op
    move_live = inside_live now on.tree root op waits.inside

    pub move_placed : IsSome (parent_of now op)
    move_placed = ap is_some (led_stands m can_fold SameTests shortened fw now on.tree root op on.change.linked waits.inside waits.branch).ends.in_block

    pub move_bare : results_of now op ≡ []
    move_bare = (led_stands m can_fold SameTests shortened fw now on.tree root op on.change.linked waits.inside waits.branch).no_results

    pub move_childless : regions_of now op ≡ []
    move_childless = (led_stands m can_fold SameTests shortened fw now on.tree root op on.change.linked waits.inside waits.branch).childless

    pub move_blocks : (b : ℕ) → In b (known_targets_of ends now op) → IsBlock now b
    move_blocks b j = led_blocks m can_fold SameTests shortened fw at_once now on.tree root op on.change.linked waits.inside waits.branch (known_targets_of ends now op) led b j

    kept_in_list : (k : ℕ) → k ≢ op → (In k (drop (i + 1) branches) → ⊥) → In k (drop i branches) → ⊥
    kept_in_list k ne out j = ⊎_elim ne out (subst (In k) (drop_at branches i op at) j)

    -- where nothing is led elsewhere
    pub move_none : known_targets_of ends now op ≡ successors_of now op → IsMoving m root start (branches_within m.is_branch start root) (i + 1) (changed_by_either status Unchanged) now
    move_none same = record {
      tree = on.tree;
      change = on.change;
      links = on.links;
      blocks = on.blocks;
      moved = on.moved;
      ends = on.ends;
      waiting = λ k j. on.waiting k (subst (In k) (sym (drop_at branches i op at)) (inr j));
      distinct = apart.1;
      done = λ k inside branch no. elim (cases_eq k op) [
        | inl e ↦ λ b n d j q. all_led_done m.is_branch now (successors_of now op) targets led b (subst (In b) (sym same) (subst (λ z. In b (successors_of now z)) e j)) n d q
        | inr ne ↦ on.done k inside branch (kept_in_list k ne no)
      ];
      reported = subst (λ z. ReportsMade z start now) (sym (either_unchanged status)) on.reported;
    }

    -- where another branch takes its place
    module _ (next : Tree) (wn : IsTree next) (moved : known_targets_of ends now op ≢ successors_of now op) (is : (head : Head) → head_of now op ≡ Some head → next ≡ branch_replaced now op head (operands_of now op) (known_targets_of ends now op)) where
      head : (h : Head) × (head_of now op ≡ Some h)
      head = some_of (head_of now op) move_live

      movable : IsMovable m.is_branch now root op head.0 targets
      movable = record { inside = waits.inside; has_head = head.1; branch = waits.branch; led = led; moved = moved }

      tree : IsTree (branch_replaced now op head.0 (operands_of now op) targets)
      tree = subst IsTree (is head.0 head.1) wn

      next_change : IsWholeChange m now next root
      next_change = subst (λ z. IsWholeChange m now z root) (sym (is head.0 head.1)) ((led_laws m can_fold SameTests shortened fw at_once).change now root op head.0 targets on.tree tree on.change.linked movable)

      next_links : KeepsLinks m now next
      next_links = subst (λ z. KeepsLinks m now z) (sym (is head.0 head.1)) ((led_laws m can_fold SameTests shortened fw at_once).links now root op head.0 targets on.tree tree on.change.linked movable)

      p : IsPlaced now next op targets
      p = subst (λ z. IsPlaced now z op targets) (sym (is head.0 head.1)) (led_placed m can_fold SameTests shortened fw at_once now on.tree root op on.change.linked waits.inside waits.branch head.0 targets head.1 led tree)

      r : Replaces now next p.block op (length now.operations) p.front targets
      r = p.replaces

      next_ends : EndAlike m.is_branch now next
      next_ends b d = (λ e. ends_on m.is_branch now next p.block op (length now.operations) p.front targets on.tree r led e.0 b d e.1, λ e. ends_back m.is_branch now next p.block op (length now.operations) p.front targets on.tree r led e.0 b d e.1)

      old : (k : ℕ) → IsLive now k → k ≢ length now.operations
      old k l e = let lt = live-within now k l in omega (arith, lt, e)

      not_op : (k : ℕ) → IsInside next root k → k ≢ op
      not_op k inside e = let h = some_of (head_of next k) (inside_live next wn root k inside) in not_none (sym p.gone ∙ ap (head_of next) (sym e) ∙ h.1)

      live_was : (k : ℕ) → IsLive next k → k ≢ op → k ≢ length now.operations → IsLive now k
      live_was k l ne nn = subst IsSome (r.heads k ne nn) l

      inside_was : (k : ℕ) → IsInside next root k → k ≢ length now.operations → IsInside now root k
      inside_was k inside nn =
          let l = live_was k (inside_live next wn root k inside) (not_op k inside) nn in
          ⊎_elim (λ j. j) (λ out. absurd ((next_change.inside.operations k (l, out)).0.1 inside)) (decide_inside now on.tree root k)

      next_done : (k : ℕ) → IsInside next root k → HeadPasses m.is_branch next k → (In k (drop (i + 1) branches) → ⊥) → LeadsToEnds m.is_branch next k
      next_done k inside branch out = elim (cases_eq k (length now.operations)) [
        | inl e ↦ λ b n d j q. all_led_done m.is_branch next (successors_of now op) targets (all_led_on m.is_branch now next next_ends (successors_of now op) targets led) b (subst (In b) (ap (successors_of next) e ∙ r.new_successors) j) n d q
        | inr nn ↦
            let ne = not_op k inside in
            done_on m.is_branch now next next_ends k (r.successors k ne nn) (on.done k (inside_was k inside nn) (λ h e. branch h (r.heads k ne nn ∙ e)) (kept_in_list k ne out))
      ]

      pub move_next : IsMoving m root start (branches_within m.is_branch start root) (i + 1) (changed_by_either status Changed) next
      move_next = record {
        tree = wn;
        change = whole_trans m start now next root on.change next_change;
        links = λ z l. next_links z (on.links z l);
        blocks = λ b. p.block_parents b ∙ on.blocks b;
        moved = subst (MovesEdges m.is_branch root start) (sym (is head.0 head.1)) (Then op head.0 targets on.moved movable);
        ends = alike_trans m.is_branch start now next on.ends next_ends;
        waiting = λ k j.
            let ne : k ≢ op = λ e. apart.0 (subst (λ z. In z (drop (i + 1) branches)) e j) in
            let o = on.waiting k (subst (In k) (sym (drop_at branches i op at)) (inr j)) in
            let nn = old k (inside_live now on.tree root k o.inside) in
            let heads = r.heads k ne nn in
            record {
              inside = p.stays root k (subst IsSome (sym heads) (inside_live now on.tree root k o.inside)) nn o.inside;
              branch = λ h e. o.branch h (sym heads ∙ e);
              successors = r.successors k ne nn ∙ o.successors;
            };
        distinct = apart.1;
        done = next_done;
        reported = subst (λ z. ReportsMade z start next) (sym (either_changed status)) (made_then start now next status on.reported p.longer);
      }

    pub move_one : (next : Tree) → IsTree next → (one : IRStatus) → MovesOne ends op now next one → IsMoving m root start (branches_within m.is_branch start root) (i + 1) (changed_by_either status one) next
    move_one next wn Unchanged is = subst (λ z. IsMoving m root start (branches_within m.is_branch start root) (i + 1) (changed_by_either status Unchanged) z) (sym is.1) (move_none is.0)
    move_one next wn Changed is = move_next next wn is.0 is.1

  -- where memory is refused
  module _ (i : ℕ) (status : IRStatus) (now : Tree) (on : IsMoving m root start (branches_within m.is_branch start root) i status now) (next : Tree) (wn : IsTree next) (same : IsSameTree now next) (longer : length now.operations ≤ length next.operations) where
    pub refused_change : IsWholeChange m start next root
    refused_change = whole_trans m start now next root on.change (same_whole m now next root on.tree wn same longer on.change.liveness on.change.linked)

    pub refused_links : KeepsLinks m start next
    refused_links r l = linked_same m now next r on.tree wn same (on.links r l)

    pub refused_blocks : (b : ℕ) → block_parent_of next b ≡ block_parent_of start b
    refused_blocks b = same.block_parents b ∙ on.blocks b

  pub all_moved : (i : ℕ) (status : IRStatus) (now : Tree) → IsMoving m root start (branches_within m.is_branch start root) i status now → length (branches_within m.is_branch start root) ≤ i → LeavesNoChain m.is_branch now root
  all_moved i status now on past op b n d inside branch j e = on.done op inside branch (λ k. subst (In op) (drop_all i branches past) k) b n d j e
