-- What passes may do to a tree, one after the other and on an operation inside another.
use Rattle.std.proofs.Common.{◌≡◌, ◌⊎◌, inl, inr, ℕ, ◌≤◌, [], length, Option, Some, None, IsSome, IsTrue, refl, sym, ap, ◌∙◌, subst}
use Rattle.pliron_core.specs.Tree.{Tree, In, IsLive, IsInside, IsInside.Directly, IsInside.Deeper, IsWithin, HoldsBlock, head_of, successors_of, block_parent_of, last_of, region_parent_of, parent_operation_of, up_from}
use Rattle.pliron_core.specs.Invariant.{IsTree}
use Rattle.pliron_core.specs.Changes.{IsSameTree, IsInsideChange, IsOutside, IsBlockOutside}
use Rattle.pliron_core.proofs.SameTreeLemmas.{same_live}
use Rattle.pliron_core.proofs.HoldingLemmas.{deeper, holds_deeper, inside_or, holds_or}
use Rattle.pliron_core.proofs.InsideLemmas.{same_change, inside_refl, inside_trans, widen, holder_is_outside, holder_stands, parent_outside, holder_outside, block_holder_outside, holder_kept, block_holder_kept, kept_of}
use Rattle.pliron_core.proofs.WalkLemmas.{within_live}
use Rattle.pliron_laws.specs.Datum.{Head, Meaning}
use Rattle.pliron_laws.specs.Linked.{EndsBlock, IsAdmitted, IsWellLinked}
use Rattle.pliron_laws.proofs.LinkedLemmas.{linked_same}
use Rattle.pliron_theory.proofs.Keeping.{keeps_refl, keeps_trans}
use Rattle.pliron_theory.proofs.SweptKeeps.{same_keeps}
use Rattle.pliron_theory.specs.Change.{IsPassChange, IsWholeChange}

pub change_refl : (m : Meaning) (t : Tree) (op : ℕ) → IsLive t op → IsWellLinked m t op → IsPassChange m t t op
change_refl m t op live linked = record { liveness = live; linked = linked; inside = inside_refl t op; runs = keeps_refl m t }

pub whole_passes : (m : Meaning) (t u : Tree) (op : ℕ) → IsWholeChange m t u op → IsPassChange m t u op
whole_passes m t u op c = record { liveness = c.liveness; linked = c.linked; inside = c.inside; runs = c.runs m.may_be_root }

pub change_trans : (m : Meaning) (t u v : Tree) (op : ℕ) → IsPassChange m t u op → IsPassChange m u v op → IsPassChange m t v op
change_trans m t u v op a b = record {
  liveness = b.liveness;
  linked = b.linked;
  inside = inside_trans t u v op a.inside b.inside;
  runs = keeps_trans m t u v a.runs b.runs;
}

-- erased handles are nothing to it
pub same_passes : (m : Meaning) (t u : Tree) (op : ℕ) → IsTree t → IsTree u → IsSameTree t u → length t.operations ≤ length u.operations → IsLive t op → IsWellLinked m t op → IsPassChange m t u op
same_passes m t u op wt wu s longer live linked = record {
  liveness = (same_live t u wt.joined wu.joined s op).0 live;
  linked = linked_same m t u op wt wu s linked;
  inside = same_change t u op wt.joined wu.joined s;
  runs = same_keeps m t u wt wu s longer;
}

-- what is well linked at an operation is so at each one inside it
pub linked_inside : (m : Meaning) (t : Tree) (op b : ℕ) → IsInside t op b → IsWellLinked m t op → IsWellLinked m t b
linked_inside m t op b held w = record {
  edges = λ k s i h. w.edges k s i (elim h [ inl u ↦ inl (deeper held u) | inr u ↦ inr (holds_deeper held s u) ]);
  admitted = λ k h. w.admitted k (inr (elim h [ inl e ↦ subst (λ z. IsInside t op z) (sym e) held | inr u ↦ deeper held u ]));
}

admits_same : (m : Meaning) (head : Head) {a a' b b' c c' d d' : ℕ} → a ≡ a' → b ≡ b' → c ≡ c' → d ≡ d' → IsTrue (m.admits head a' b' c' d') → IsTrue (m.admits head a b c d)
admits_same m head ea eb ec ed h = rw (ea, eb, ec, ed) h

-- each operation that was well linked and still stands is so after a pass, wherever it stands
module _ (m : Meaning) (t u : Tree) (op : ℕ) (wt : IsTree t) (wu : IsTree u) (h : IsInsideChange t u op) where
  in_before : (root k : ℕ) → IsLive t root → IsOutside t op root → IsLive t k → IsInside u root k → IsOutside t op k → IsInside t root k
  in_before root k live out lk i o = elim (inside_or t root k wt.joined.rooted) [ inl j ↦ j | inr apart ↦ absurd (climb k o i apart) ]
    where
      climb : (x : ℕ) → IsOutside t op x → IsInside u root x → (IsInside t root x → ⊥) → ⊥
      climb x ox (Directly e) apart = apart (Directly (sym (holder_kept t u op wt.joined (kept_of t u op h) x ox) ∙ e))
      climb x ox (Deeper p e j) apart =
          let same : parent_operation_of t x ≡ Some p = sym (holder_kept t u op wt.joined (kept_of t u op h) x ox) ∙ e in
          climb p (holder_outside t op wt.joined x p ox same) j (λ z. apart (Deeper p same z))

  within_before : (root k : ℕ) → IsLive t root → IsOutside t op root → IsWithin u root k → IsOutside t op k → IsWithin t root k
  within_before root k live out (inl e) o = inl e
  within_before root k live out (inr i) o = inr (in_before root k live out o.0 i o)

  held_before : (root s : ℕ) → IsLive t root → IsOutside t op root → IsBlockOutside t op s → HoldsBlock u root s → HoldsBlock t root s
  held_before root s live out o held =
      let same = sym (block_holder_kept t u op wt.joined (kept_of t u op h) s o) ∙ held.1 in
      (held.0, same, within_before root held.0 live out held.2 (block_holder_outside t op wt.joined s held.0 o same))

  user_live : (k s : ℕ) → In s (successors_of u k) → IsLive u k
  user_live k s i = not_dead (head_of u k) refl
    where
      not_dead : (o : Option Head) → head_of u k ≡ o → IsLive u k
      not_dead None e = let none = (wu.joined.erased k e).1 in absurd (deleted (subst (In s) none i))
        where
          deleted : In s [] → ⊥
          deleted j = elim j [ ]
      not_dead (Some x) e = subst (λ o. IsSome o) (sym e) refl

  ends_still : (k : ℕ) → IsOutside t op k → EndsBlock t k → EndsBlock u k
  ends_still k o e =
      let kept = (h.operations k o).1 in
      let out = parent_outside t op wt.joined k e.block o e.in_block in
      let at = (h.blocks e.block out).1 in
      record {
        block = e.block;
        in_block = kept.parent ∙ e.in_block;
        last = ap (λ xs. last_of None xs) at.body ∙ e.last;
        own_region = λ s i. region s (e.own_region s (subst (In s) kept.successors i)) out at.parent;
      }
    where
      region : (s : ℕ) → block_parent_of t s ≡ block_parent_of t e.block → IsBlockOutside t op e.block → block_parent_of u e.block ≡ block_parent_of t e.block → block_parent_of u s ≡ block_parent_of u e.block
      region s same out p =
          let beside : IsBlockOutside t op s = (subst (λ o. IsSome o) (sym same) out.0, λ i. out.1 (i.0, ap (λ o. up_from o (λ r. region_parent_of t r)) (sym same) ∙ i.1, i.2)) in
          (h.blocks s beside).1.parent ∙ same ∙ sym p

  -- one that stands outside op, above it or beside it
  linked_outside : (root : ℕ) → IsOutside t op root → IsLive u root → IsWellLinked m t root → IsWellLinked m u op → IsWellLinked m u root
  linked_outside root out live_u old new = record { edges = λ k s i w. edge k s i w; admitted = λ k w. admit k w }
    where
      edge : (k s : ℕ) → In s (successors_of u k) → IsInside u root k ⊎ HoldsBlock u root s → EndsBlock u k
      edge k s i w = elim (inside_or u op k wu.joined.rooted) [ inl j ↦ new.edges k s i (inl j) | inr apart ↦ elim (holds_or u op s wu.joined.rooted) [ inl j ↦ new.edges k s i (inr j) | inr away ↦ outside apart away ] ]
        where
          outside : (IsInside u op k → ⊥) → (HoldsBlock u op s → ⊥) → EndsBlock u k
          outside apart away =
              let o : IsOutside t op k = h.no_new_operation k (user_live k s i, apart) in
              let c : IsBlockOutside t op s = h.no_new_block s (wu.joined.successors k s i, away) in
              let named : In s (successors_of t k) = subst (In s) ((h.operations k o).1.successors) i in
              ends_still k o (old.edges k s named (elim w [ inl j ↦ inl (in_before root k out.0 out o.0 j o) | inr j ↦ inr (held_before root s out.0 out c j) ]))

      admit : (k : ℕ) → IsWithin u root k → IsAdmitted m u k
      admit k w = elim (inside_or u op k wu.joined.rooted) [ inl j ↦ new.admitted k (inr j) | inr apart ↦ outside apart ]
        where
          outside : (IsInside u op k → ⊥) → IsAdmitted m u k
          outside apart =
              let o : IsOutside t op k = h.no_new_operation k (within_live u wu root k live_u w, apart) in
              let kept = (h.operations k o).1 in
              λ head e. admits_same m head kept.count (ap (λ r. length r.results) kept.row) (ap (λ xs. length xs) kept.successors) (ap (λ r. length r.regions) kept.row) (old.admitted k (within_before root k out.0 out w o) head (ap (λ r. r.head) (sym kept.row) ∙ e))

  -- each operation that was well linked and still stands is well linked after a pass on op
  pub links_stay : (root : ℕ) → IsLive t root → IsLive u root → IsWellLinked m t root → IsWellLinked m u op → IsWellLinked m u root
  links_stay root live live_u old new = elim (inside_or u op root wu.joined.rooted) [ inl j ↦ linked_inside m u op root j new | inr apart ↦ linked_outside root (h.no_new_operation root (live_u, apart)) live_u old new ]

-- what a pass does on an operation that op holds, seen from op
pub change_widen : (m : Meaning) (t u : Tree) (op b : ℕ) → IsTree t → IsTree u → parent_operation_of t b ≡ Some op → IsWellLinked m t op → IsPassChange m t u b → IsPassChange m t u op
change_widen m t u op b wt wu up linked c = record {
  liveness = holder_stands t u op b wt.joined up c.inside;
  linked = links_stay m t u b wt wu c.inside op (holder_is_outside t op b wt.joined up).0 (holder_stands t u op b wt.joined up c.inside) linked c.linked;
  inside = widen t u op b wt.joined (Directly up) c.inside;
  runs = c.runs;
}
