-- The returns of blocks become jumps, one after the other.
use Rattle.std.proofs.Common.{◌≡◌, ◌≢◌, ◌⊎◌, inl, inr, ⊎_elim, ℕ, zero, suc, ◌+◌, ◌-◌, ◌<◌, ◌≤◌, Bool, List, [], ◌∷◌, ◌++◌, length, get_or, Some, None, IsSome, IsTrue, slice_get, refl, sym, ap, ◌∙◌, subst, arith}
use Rattle.std.proofs.lemmas.Bool.{cases_eq}
use Rattle.std.proofs.lemmas.List.{length-append}
use Rattle.pliron_core.specs.declared.attrs.Head.{Head}
use Rattle.pliron_core.specs.Invariant.{IsTree}
use Rattle.pliron_core.specs.Tree.{Tree, In, IsLive, last_of, row_of, head_of, operands_of, results_of, regions_of, parent_of, body_of}
use Rattle.pliron_core.proofs.HoldingLemmas.{some_is, some_of}
use Rattle.pliron_core.proofs.LastLemmas.{last_in, in_end}
use Rattle.pliron_core.proofs.ListLemmas.{In-left, In-right, In-cases}
use Rattle.pliron_core.proofs.TreeLemmas.{live-within}
use Rattle.pliron_laws.specs.Answers.{ReadsHead}
use Rattle.pliron_laws.specs.Datum.{Meaning}
use Rattle.pliron_dialect_calls.specs.Inlinable.{IsJumpHead}
use Rattle.pliron_rewrite_calls.specs.Copying.{original_by}
use Rattle.pliron_rewrite_calls.specs.CopySteps.{IsGrownIn}
use Rattle.pliron_rewrite_calls.specs.InliningSteps.{IsSameAt, IsJumpRow, IsTakenBack, IsLastReplaced, EndsOtherwise, IsInPlaceOf, IsEndLed, IsReturnOf, AreReturnsBare, AreReturnsLed}
use Rattle.pliron_rewrite_calls.proofs.CopyLists.{new_item, original_at}
use Rattle.pliron_rewrite_calls.proofs.ErasedAgain.{last_there}
use Rattle.pliron_rewrite_calls.proofs.Growing.{no_some, new_only}
use Rattle.pliron_rewrite_calls.proofs.JumpsMade.{after_both, as_before_both}

get_front : (xs ys : List ℕ) (i d : ℕ) → i < length xs → get_or (xs ++ ys) i d ≡ get_or xs i d
get_front [] ys i d lt = absurd (omega (arith, lt))
get_front (x ∷ xs) ys zero d lt = refl
get_front (x ∷ xs) ys (suc i) d lt = get_front xs ys i d (omega (arith, lt))

-- originals that are known stay so when there are more
pub original_front : (xs ys : List ℕ) (first k : ℕ) → first ≤ k → k < first + length xs → original_by (xs ++ ys) first k ≡ original_by xs first k
original_front xs ys first k le lt = new_item (xs ++ ys) first k le ∙ get_front xs ys (k - first) k (omega (arith, le, lt)) ∙ sym (new_item xs first k le)

pub led_none : (m : Meaning) (returns : Head → Bool) (u : Tree) (after : ℕ) → AreReturnsLed m returns u u after [] []
led_none m returns u after = record {
  places = record { slots = refl; definitions = refl; block_count = refl; arguments = λ b. refl; block_parents = λ b. refl; layouts = λ r. refl };
  count = omega arith;
  from = λ k i. absurd i;
  gone = λ k i. absurd i;
  others = λ k lt out. record { row = refl; operands = refl; successors = refl; parent = refl };
  jumps = λ k le lt. absurd (omega (arith, le, lt));
  stands = λ k le lt. absurd (omega (arith, le, lt));
  bodies = λ b out. refl;
  ends = λ b i. absurd i;
}

-- what ends a block whose returns are bare is so, where it is found to be a return
pub end_bare : (returns : Head → Bool) (t : Tree) (b k : ℕ) (found : Bool) → AreReturnsBare returns t b → Some k ≡ last_of None (body_of t b) → IsLive t k → ReadsHead returns t k found → IsTrue found → (results_of t k ≡ []) × (regions_of t k ≡ [])
end_bare returns t b k found bare last live reads is =
    let h = some_of (head_of t k) live in
    bare k h.0 (sym last) h.1 (sym (reads h.0 h.1) ∙ is)

-- a return of some blocks is one of more
more_of : {returns : Head → Bool} {u : Tree} (bs : List ℕ) (b k : ℕ) → IsReturnOf returns u bs k → IsReturnOf returns u (bs ++ b ∷ []) k
more_of bs b k f = record { block = f.block; listed = In-left f.block bs (b ∷ []) f.listed; holds = f.holds; last = f.last; returned = f.returned }

module _ (m : Meaning) (returns : Head → Bool) (u v : Tree) (after : ℕ) (bs olds : List ℕ) (wu : IsTree u) (a : AreReturnsLed m returns u v after bs olds) (b : ℕ) (out : In b bs → ⊥) where
  -- what is in a block that is not yet looked at is as it was
  pub still : (k : ℕ) → parent_of u k ≡ Some b → IsSameAt u v k
  still k at = a.others k (live-within u k (wu.joined.all_in_place k b at).0) (λ i. let f = a.from k i in out (subst (λ z. In z bs) (some_is (sym f.holds ∙ at)) f.listed))

  pub last_still : (k : ℕ) → last_of None (body_of v b) ≡ Some k → (last_of None (body_of u b) ≡ Some k) × (parent_of u k ≡ Some b)
  last_still k e =
      let f : last_of None (body_of u b) ≡ Some k = ap (last_of None) (sym (a.bodies b out)) ∙ e in
      (f, wu.bodies.owned k b (last_in (body_of u b) k f))

  pub led_kept : EndsOtherwise returns v b → AreReturnsLed m returns u v after (bs ++ b ∷ []) olds
  led_kept other = record {
    places = a.places;
    count = a.count;
    from = λ k i. more_of bs b k (a.from k i);
    gone = a.gone;
    others = a.others;
    jumps = a.jumps;
    stands = λ k le lt. let f = a.stands k le lt in (f.0, In-left f.0 bs (b ∷ []) f.1, f.2);
    bodies = λ c o. a.bodies c (λ i. o (In-left c bs (b ∷ []) i));
    ends = λ c i. ⊎_elim (a.ends c) (λ j. ⊎_elim (λ e. subst (λ z. (EndsOtherwise returns u z × (body_of v z ≡ body_of u z)) ⊎ IsEndLed returns u v olds z) (sym e) (inl (here, a.bodies b out))) (λ z. absurd z) j) (In-cases c bs (b ∷ []) i);
  }
    where
      here : EndsOtherwise returns u b
      here k h last head is =
          let s = still k (wu.bodies.owned k b (last_in (body_of u b) k last)) in
          other k h (ap (last_of None) (a.bodies b out) ∙ last) (ap (λ z. z.head) s.row ∙ head) is

  module _ (w : Tree) (old : ℕ) (h : Head) (head : IsJumpHead m (length (operands_of v old)) h) (returned : (g : Head) → head_of v old ≡ Some g → IsTrue (returns g)) (r : IsLastReplaced v w b old (length v.operations) h after) where
    abbrev n : ℕ
    n = length v.operations

    before : body_of u b ≡ r.front ++ old ∷ []
    before = sym (a.bodies b out) ∙ r.before

    at : parent_of u old ≡ Some b
    at = wu.bodies.owned old b (subst (In old) (sym before) (in_end old r.front))

    old_less : old < length u.operations
    old_less = live-within u old (wu.joined.all_in_place old b at).0

    old_out : In old olds → ⊥
    old_out i = let f = a.from old i in out (subst (λ z. In z bs) (some_is (sym f.holds ∙ at)) f.listed)

    same : IsSameAt u v old
    same = still old at

    less : (k : ℕ) → In k olds → k < length u.operations
    less k i = let f = a.from k i in live-within u k (wu.joined.all_in_place k f.block f.holds).0

    kept : (k : ℕ) → k < n → k ≢ old → IsSameAt v w k
    kept k lt ne = r.others k ne (λ e. omega (arith, lt, e))

    new_original : original_by (olds ++ old ∷ []) (length u.operations) n ≡ old
    new_original = original_at (olds ++ old ∷ []) olds [] old (length u.operations) n refl a.count

    row_kept : (k : ℕ) (g : Head) (xs ys : List ℕ) → IsSameAt v w k → IsJumpRow v k g xs ys → IsJumpRow w k g xs ys
    row_kept k g xs ys s j = record { row = s.row ∙ j.row; operands = s.operands ∙ j.operands; successors = s.successors ∙ j.successors }

    new_jump : IsInPlaceOf m u w after old n
    new_jump = record {
      head = h;
      jumps = subst (λ z. IsJumpHead m (length z) h) same.operands head;
      jump = subst (λ z. IsJumpRow w n h z (after ∷ [])) same.operands r.jump;
    }

    jumps : (k : ℕ) → length u.operations ≤ k → k < length w.operations → IsInPlaceOf m u w after (original_by (olds ++ old ∷ []) (length u.operations) k) k
    jumps k le lt = elim (cases_eq k n) [
      | inl e ↦ subst (λ z. IsInPlaceOf m u w after (original_by (olds ++ old ∷ []) (length u.operations) z) z) (sym e) (subst (λ z. IsInPlaceOf m u w after z n) (sym new_original) new_jump)
      | inr ne ↦
          let c = r.count in
          let d = a.count in
          let o = old_less in
          let under : k < n = omega (arith, lt, c, ne) in
          let j = a.jumps k le under in
          subst (λ z. IsInPlaceOf m u w after z k) (sym (original_front olds (old ∷ []) (length u.operations) k le (omega (arith, under, d))))
          (record {
            head = j.head;
            jumps = j.jumps;
            jump = row_kept k j.head (operands_of u (original_by olds (length u.operations) k)) (after ∷ []) (kept k under (λ e. omega (arith, e, le, o))) j.jump;
          })
    ]

    end_kept : (c : ℕ) → c ≢ b → IsEndLed returns u v olds c → IsEndLed returns u w (olds ++ old ∷ []) c
    end_kept c ne e =
        let x = r.count in
        let d = a.count in
        let o = old_less in
        let le = e.is_new in
        let lt = e.within in
        record {
          front = e.front;
          new = e.new;
          old = e.old;
          is_old = original_front olds (old ∷ []) (length u.operations) e.new le (omega (arith, lt, d)) ∙ e.is_old;
          is_new = le;
          within = omega (arith, lt, x);
          returned = e.returned;
          before = e.before;
          now = r.bodies c ne ∙ e.now;
          placed = (kept e.new lt (λ f. omega (arith, f, le, o))).parent ∙ e.placed;
        }

    end_new : IsEndLed returns u w (olds ++ old ∷ []) b
    end_new = record {
      front = r.front;
      new = n;
      old = old;
      is_old = new_original;
      is_new = let d = a.count in omega (arith, d);
      within = let x = r.count in omega (arith, x);
      returned = λ g e. returned g (ap (λ z. z.head) same.row ∙ e);
      before = before;
      now = r.now;
      placed = r.placed;
    }

    ends : (c : ℕ) → In c (bs ++ b ∷ []) → (EndsOtherwise returns u c × (body_of w c ≡ body_of u c)) ⊎ IsEndLed returns u w (olds ++ old ∷ []) c
    ends c i = ⊎_elim
        (λ j.
        let ne : c ≢ b = λ e. out (subst (λ z. In z bs) e j) in
        ⊎_elim (λ e. inl (e.0, r.bodies c ne ∙ e.1)) (λ e. inr (end_kept c ne e)) (a.ends c j))
        (λ j. ⊎_elim (λ e. subst (λ z. (EndsOtherwise returns u z × (body_of w z ≡ body_of u z)) ⊎ IsEndLed returns u w (olds ++ old ∷ []) z) (sym e) (inr end_new)) (λ z. absurd z) j)
        (In-cases c bs (b ∷ []) i)

    old_of : IsReturnOf returns u (bs ++ b ∷ []) old
    old_of = record {
      block = b;
      listed = In-right b bs (b ∷ []) (inl refl);
      holds = at;
      last = ap (last_of None) before ∙ last_there None r.front old;
      returned = λ g e. returned g (ap (λ z. z.head) same.row ∙ e);
    }

    pub led_more : AreReturnsLed m returns u w after (bs ++ b ∷ []) (olds ++ old ∷ [])
    led_more = record {
      places = after_both u v w a.places r.places;
      count = let x = r.count in let y = a.count in let z = length-append olds (old ∷ []) in omega (arith, x, y, z);
      from = λ k i. ⊎_elim
          (λ j. more_of bs b k (a.from k j))
          (λ j. ⊎_elim (λ e. subst (IsReturnOf returns u (bs ++ b ∷ [])) (sym e) old_of) (λ z. absurd z) j)
          (In-cases k olds (old ∷ []) i);
      gone = λ k i. ⊎_elim
          (λ j. let lt = less k j in let d = a.count in (kept k (omega (arith, lt, d)) (λ e. old_out (subst (λ z. In z olds) e j))).row ∙ a.gone k j)
          (λ j. ⊎_elim (λ e. ap (row_of w) e ∙ r.gone) (λ z. absurd z) j)
          (In-cases k olds (old ∷ []) i);
      others = λ k lt o. as_before_both u v w k (a.others k lt (λ i. o (In-left k olds (old ∷ []) i))) (kept k (let d = a.count in omega (arith, lt, d)) (λ e. o (In-right k olds (old ∷ []) (inl e))));
      jumps = jumps;
      stands = λ k le lt. elim (cases_eq k n) [
        | inl e ↦ (b, In-right b bs (b ∷ []) (inl refl), ap (parent_of w) e ∙ r.placed)
        | inr ne ↦
            let c = r.count in
            let o = old_less in
            let under : k < n = omega (arith, lt, c, ne) in
            let f = a.stands k le under in
            (f.0, In-left f.0 bs (b ∷ []) f.1, (kept k under (λ e. omega (arith, e, le, o))).parent ∙ f.2)
      ];
      bodies = λ c o. r.bodies c (λ e. o (In-right c bs (b ∷ []) (inl e))) ∙ a.bodies c (λ i. o (In-left c bs (b ∷ []) i));
      ends = ends;
    }

-- ---- the region is still one that grew

pub grown_undone : (t u w : Tree) (region : ℕ) → IsGrownIn t u region → IsTakenBack u w → IsGrownIn t w region
grown_undone t u w region h d = record {
  added = h.added;
  last = d.same.layouts region ∙ h.last;
  fresh = h.fresh;
  operation_count = let x = h.operation_count in let y = d.longer in omega (arith, x, y);
  block_count = let x = h.block_count in let y = d.block_count in omega (arith, x, y);
  value_count = let x = h.value_count in let y = ap length d.definitions in omega (arith, x, y);
  slots = d.slots ∙ h.slots;
  rows = λ k lt. d.same.operations k ∙ h.rows k lt;
  operands = λ k lt. d.same.operands k ∙ h.operands k lt;
  successors = λ k lt. d.same.successors k ∙ h.successors k lt;
  parents = λ k lt. d.same.parents k ∙ h.parents k lt;
  bodies = λ b lt. d.same.bodies b ∙ h.bodies b lt;
  arguments = λ b lt. d.same.arguments b ∙ h.arguments b lt;
  block_parents = λ b lt. d.same.block_parents b ∙ h.block_parents b lt;
  layouts = λ r ne. d.same.layouts r ∙ h.layouts r ne;
  definitions = λ v x e. ap (λ z. slice_get z v) d.definitions ∙ h.definitions v x e;
  childless = λ k le. ap (λ z. z.regions) (d.same.operations k) ∙ h.childless k le;
  placed = λ k le l. let p = h.placed k le (subst (λ z. IsSome z.head) (d.same.operations k) l) in (p.0, d.same.parents k ∙ p.1, p.2);
}

pub grown_replaced : (t u w : Tree) (region b old new : ℕ) (g : Head) (target : ℕ) → IsTree t → IsTree u → IsGrownIn t u region → length t.bodies ≤ b → IsLastReplaced u w b old new g target → IsGrownIn t w region
grown_replaced t u w region b old new g target wt wu h le r = record {
  added = h.added;
  last = r.places.layouts region ∙ h.last;
  fresh = h.fresh;
  operation_count = let x = h.operation_count in let y = r.count in omega (arith, x, y);
  block_count = let x = h.block_count in let y = r.places.block_count in omega (arith, x, y);
  value_count = let x = h.value_count in let y = ap length r.places.definitions in omega (arith, x, y);
  slots = r.places.slots ∙ h.slots;
  rows = λ k lt. (kept k lt).row ∙ h.rows k lt;
  operands = λ k lt. (kept k lt).operands ∙ h.operands k lt;
  successors = λ k lt. (kept k lt).successors ∙ h.successors k lt;
  parents = λ k lt. (kept k lt).parent ∙ h.parents k lt;
  bodies = λ c lt. r.bodies c (λ e. omega (arith, e, lt, le)) ∙ h.bodies c lt;
  arguments = λ c lt. r.places.arguments c ∙ h.arguments c lt;
  block_parents = λ c lt. r.places.block_parents c ∙ h.block_parents c lt;
  layouts = λ x ne. r.places.layouts x ∙ h.layouts x ne;
  definitions = λ v x e. ap (λ z. slice_get z v) r.places.definitions ∙ h.definitions v x e;
  childless = λ k ge. elim (cases_eq k new) [
    | inl e ↦ ap (regions_of w) e ∙ ap (λ z. z.regions) r.jump.row
    | inr ne ↦ elim (cases_eq k old) [
      | inl e ↦ ap (regions_of w) e ∙ ap (λ z. z.regions) r.gone
      | inr na ↦ ap (λ z. z.regions) (r.others k na ne).row ∙ h.childless k ge
    ]
  ];
  placed = λ k ge l. elim (cases_eq k new) [
    | inl e ↦ (b, ap (parent_of w) e ∙ r.placed, le)
    | inr ne ↦ elim (cases_eq k old) [
      | inl e ↦ absurd (no_some (head_of w k) (ap (head_of w) e ∙ ap (λ z. z.head) r.gone) l)
      | inr na ↦ let s = r.others k na ne in let p = h.placed k ge (subst (λ z. IsSome z.head) s.row l) in (p.0, s.parent ∙ p.1, p.2)
    ]
  ];
}
  where
    at : parent_of u old ≡ Some b
    at = wu.bodies.owned old b (subst (In old) (sym r.before) (in_end old r.front))

    kept : (k : ℕ) → k < length t.operations → IsSameAt u w k
    kept k lt =
        let x = new_only t u region wt h wu old b at le in
        let y = h.operation_count in
        let z = r.key in
        r.others k (λ e. omega (arith, e, lt, x)) (λ e. omega (arith, e, lt, y, z))
