-- One more of the entering operations leads to the copy.
use Rattle.std.proofs.Common.{◌≡◌, ◌≢◌, inl, inr, ⊎_elim, ℕ, ◌<◌, ◌≤◌, ◌+◌, nat_eq, if◌then◌else◌, List, [], ◌∷◌, ◌++◌, length, map, Option, Some, None, IsSome, is_some, refl, sym, ap, ◌∙◌, subst, arith}
use Rattle.std.specs.Option.{option_map}
use Rattle.std.proofs.lemmas.Bool.{cases_eq, eq-eqb, ne_eqb}
use Rattle.pliron_core.specs.declared.attrs.Head.{Head}
use Rattle.pliron_core.specs.Invariant.{IsTree}
use Rattle.pliron_core.specs.Tree.{Tree, In, IsLive, IsBlock, first_of, last_of, head_of, operands_of, successors_of, results_of, regions_of, parent_of, body_of}
use Rattle.pliron_core.proofs.HoldingLemmas.{some_is}
use Rattle.pliron_core.proofs.InsideLemmas.{inside_trans}
use Rattle.pliron_core.proofs.LastLemmas.{last_front}
use Rattle.pliron_core.proofs.ListLemmas.{In-left}
use Rattle.pliron_core.proofs.TreeLemmas.{live-within, block-within}
use Rattle.pliron_laws.specs.Replacing.{branch_replaced}
use Rattle.pliron_rewrite_copies.specs.Copies.{Originals, HasOriginals, IsCopiedOperation}
use Rattle.pliron_rewrite_copies.specs.ClosedBlock.{IsClosedBlock, IsBlockCopied}
use Rattle.pliron_rewrite_copies.proofs.Maps.{from_map, map_append, map_map}
use Rattle.pliron_rewrite_rotation.specs.Entering.{EndsBeside, led_target}
use Rattle.pliron_rewrite_rotation.specs.HeaderSteps.{EnteredHeader, copy_of, IsEnteredHeader, StandsAsBefore, IsLeadingIn}
use Rattle.pliron_rewrite_rotation.proofs.LedAway.{after, is_after, wa, row_new, operands_new, successors_new, rows, operands, successors, parents, put, parent_new, bodies, arguments, block_parents, layouts, long, gone, not_op, old_apart, live_before, stays, home_before, inside}

alike : (f g : ℕ → ℕ) (xs : List ℕ) → ((x : ℕ) → In x xs → f x ≡ g x) → map f xs ≡ map g xs
alike f g [] same = refl
alike f g (x ∷ xs) same = ap (λ z. z ∷ map f xs) (same x (inl refl)) ∙ ap (λ z. g x ∷ z) (alike f g xs (λ y i. same y (inr i)))

pub no_member : (xs : List ℕ) (x : ℕ) → xs ≡ [] → In x xs → ⊥
no_member xs x e i = subst (In x) e i

-- what names a block as its successor is live
pub leader_live : (t : Tree) → IsTree t → (k b : ℕ) → In b (successors_of t k) → IsLive t k
leader_live t w k b i = go (head_of t k) refl
  where
    go : (o : Option Head) → head_of t k ≡ o → IsLive t k
    go None e = absurd (no_member (successors_of t k) b (w.joined.erased k e).1 i)
    go (Some h) e = ap is_some e

led_header : (header copy : ℕ) → led_target header copy header ≡ copy
led_header header copy = ap (λ b. if b then copy else header) (eq-eqb header header refl)

led_other_block : (header copy b : ℕ) → b ≢ header → led_target header copy b ≡ b
led_other_block header copy b ne = ap (λ z. if z then copy else b) (ne_eqb b header ne)

module _ (x : EnteredHeader) (src : IsEnteredHeader x) (u : Tree) (w : IsTree u) (l : IsLeadingIn x u) (op : ℕ) (e : In op x.entering) (live : IsLive u op) where
  abbrev t : Tree
  t = x.tree

  abbrev o : Originals
  o = l.originals

  abbrev c : ℕ
  c = copy_of x

  abbrev xs : List ℕ
  xs = map (led_target x.header (copy_of x)) (successors_of u op)

  pub ends : EndsBeside x.tree x.header op
  ends = src.may.enter op e

  wait : StandsAsBefore x.tree u op
  wait = l.waiting op e live

  abbrev a : ℕ
  a = ends.block

  pub in_a : parent_of u op ≡ Some a
  in_a = wait.parent ∙ ends.in_block

  body_a : body_of u a ≡ body_of x.tree a
  body_a = wait.body ends.block ends.in_block

  pub last : last_of None (body_of u a) ≡ Some op
  last = ap (last_of None) body_a ∙ ends.last

  abbrev front : List ℕ
  front = (last_front (body_of u a) op last).0

  pub split : body_of u a ≡ front ++ op ∷ []
  split = (last_front (body_of u a) op last).1

  pub childless : regions_of u op ≡ []
  childless = ap (λ z. z.regions) wait.row ∙ ends.childless

  pub no_results : results_of u op ≡ []
  no_results = ap (λ z. z.results) wait.row ∙ ends.no_results

  pub blocks : (b : ℕ) → In b xs → IsBlock u b
  blocks b i =
      let y = from_map (led_target x.header (copy_of x)) (successors_of u op) b i in
      ⊎_elim
      (λ s. subst (IsBlock u) (sym (led_header x.header c) ∙ ap (led_target x.header c) (sym s) ∙ y.2) (ap is_some l.copy_home))
      (λ ne. subst (IsBlock u) (sym (led_other_block x.header c y.0 ne) ∙ y.2) (w.joined.successors op y.0 y.1))
      (cases_eq y.0 x.header)

  module _ (head : Head) (he : head_of u op ≡ Some head) (wv : IsTree (branch_replaced u op head (operands_of u op) (map (led_target x.header (copy_of x)) (successors_of u op)))) where
    abbrev v : Tree
    v = after u w a op head xs front split childless no_results he blocks wv

    abbrev new : ℕ
    new = length u.operations

    pub is_led : branch_replaced u op head (operands_of u op) (map (led_target x.header (copy_of x)) (successors_of u op)) ≡ v
    is_led = (is_after u w a op head xs front split childless no_results he blocks wv)

    wv' : IsTree v
    wv' = (wa u w a op head xs front split childless no_results he blocks wv)

    -- which operations and blocks are which
    less : (k : ℕ) → In k x.entering → k < length x.tree.operations
    less k i = let d = src.may.enter k i in live-within x.tree k (src.tree.joined.all_in_place k d.block d.in_block).0

    entering_old : (k : ℕ) → In k x.entering → k ≢ new
    entering_old k i s = let lt = less k i in let g = l.longer in omega (arith, lt, g, s)

    header_less : x.header < length x.tree.bodies
    header_less = block-within x.tree x.header src.tree.keys src.may.stands

    copy_apart : c ≢ x.header
    copy_apart s = let lt = header_less in omega (arith, lt, s)

    home_a : IsBlock x.tree a
    home_a = (src.tree.joined.all_in_place op a ends.in_block).1

    a_not_copy : a ≢ c
    a_not_copy s = let lt = block-within x.tree a src.tree.keys home_a in omega (arith, lt, s)

    own_op : o.operation op ≡ op
    own_op = (l.old op (less op e) live).1

    -- the new originals
    abbrev o' : Originals
    o' = record { operation = λ k. if nat_eq k (length u.operations) then op else l.originals.operation k; block = l.originals.block; region = l.originals.region; value = l.originals.value }

    of_new : o'.operation new ≡ op
    of_new = ap (λ b. if b then op else l.originals.operation new) (eq-eqb new new refl)

    of_old : (k : ℕ) → k ≢ new → o'.operation k ≡ o.operation k
    of_old k ne = ap (λ b. if b then op else l.originals.operation k) (ne_eqb k new ne)

    mapped_led : map o.block xs ≡ map o.block (successors_of u op)
    mapped_led = map_map o.block o.block (led_target x.header (copy_of x)) (successors_of u op) (λ b i. ⊎_elim
        (λ s. ap o.block (ap (led_target x.header c) s ∙ led_header x.header c) ∙ l.copied.copied ∙ sym (l.copied.others x.header (λ z. copy_apart (sym z))) ∙ ap o.block (sym s))
        (λ ne. ap o.block (led_other_block x.header c b ne))
        (cases_eq b x.header))

    copied_new : IsCopiedOperation x.tree v o' new
    copied_new =
        let q = l.copied.originals.operations op live in
        record {
          head = ap (head_of x.tree) of_new ∙ sym (ap (λ z. z.head) wait.row) ∙ he ∙ sym (ap (λ z. z.head) (row_new u w a op head xs front split childless no_results he blocks wv));
          operands = ap (operands_of x.tree) of_new ∙ ap (operands_of x.tree) (sym own_op) ∙ q.operands ∙ ap (map o.value) (sym (operands_new u w a op head xs front split childless no_results he blocks wv));
          results = ap (results_of x.tree) of_new ∙ ends.no_results ∙ sym (ap (λ z. map o.value z.results) (row_new u w a op head xs front split childless no_results he blocks wv));
          successors = ap (successors_of x.tree) of_new ∙ ap (successors_of x.tree) (sym own_op) ∙ q.successors ∙ sym mapped_led ∙ ap (map o.block) (sym (successors_new u w a op head xs front split childless no_results he blocks wv));
          regions = ap (regions_of x.tree) of_new ∙ ends.childless ∙ sym (ap (λ z. map o.region z.regions) (row_new u w a op head xs front split childless no_results he blocks wv));
        }

    before : (k : ℕ) → IsLive v k → k ≢ new → IsLive u k
    before k lv nn = (live_before u w a op head xs front split childless no_results he blocks wv) k lv nn

    copied_old : (k : ℕ) → IsLive v k → k ≢ new → IsCopiedOperation x.tree v o' k
    copied_old k lv nn =
        let no = (not_op u w a op head xs front split childless no_results he blocks wv) k lv in
        let q = l.copied.originals.operations k (before k lv nn) in
        let row = (rows u w a op head xs front split childless no_results he blocks wv) k no nn in
        record {
          head = ap (head_of x.tree) (of_old k nn) ∙ q.head ∙ sym (ap (λ z. z.head) row);
          operands = ap (operands_of x.tree) (of_old k nn) ∙ q.operands ∙ ap (map o.value) (sym ((operands u w a op head xs front split childless no_results he blocks wv) k no nn));
          results = ap (results_of x.tree) (of_old k nn) ∙ q.results ∙ sym (ap (λ z. map o.value z.results) row);
          successors = ap (successors_of x.tree) (of_old k nn) ∙ q.successors ∙ ap (map o.block) (sym ((successors u w a op head xs front split childless no_results he blocks wv) k no nn));
          regions = ap (regions_of x.tree) (of_old k nn) ∙ q.regions ∙ sym (ap (λ z. map o.region z.regions) row);
        }

    member_old : (b k : ℕ) → In k (body_of u b) → o'.operation k ≡ o.operation k
    member_old b k i = of_old k ((old_apart u w a op head xs front split childless no_results he blocks wv) k (w.joined.all_in_place k b (w.bodies.owned k b i)).0)

    front_old : (k : ℕ) → In k front → o'.operation k ≡ o.operation k
    front_old k i = member_old a k (subst (In k) (sym split) (In-left k front (op ∷ []) i))

    body_new : map o'.operation (body_of v a) ≡ map o.operation (body_of u a)
    body_new =
        ap (map o'.operation) (put u w a op head xs front split childless no_results he blocks wv)
        ∙ map_append o'.operation front (new ∷ [])
        ∙ ap (λ z. z ++ o'.operation new ∷ []) (alike o'.operation o.operation front front_old)
        ∙ ap (λ z. map o.operation front ++ z ∷ []) (of_new ∙ sym own_op)
        ∙ sym (map_append o.operation front (op ∷ []))
        ∙ ap (map o.operation) (sym split)

    body_all : (b : ℕ) → map o'.operation (body_of v b) ≡ map o.operation (body_of u b)
    body_all b = ⊎_elim
        (λ s. subst (λ z. map o'.operation (body_of v z) ≡ map o.operation (body_of u z)) (sym s) body_new)
        (λ ne. ap (map o'.operation) ((bodies u w a op head xs front split childless no_results he blocks wv) b ne) ∙ alike o'.operation o.operation (body_of u b) (λ k i. member_old b k i))
        (cases_eq b a)

    -- an operation that has regions was there
    holder_old : (k r : ℕ) → In r (regions_of v k) → (k ≢ op) × (k ≢ new)
    holder_old k r i = (
      λ s. no_member (regions_of v op) r (ap (λ z. z.regions) (wv'.joined.erased op (gone u w a op head xs front split childless no_results he blocks wv)).2) (subst (λ z. In r (regions_of v z)) s i),
      λ s. no_member (regions_of v new) r (ap (λ z. z.regions) (row_new u w a op head xs front split childless no_results he blocks wv)) (subst (λ z. In r (regions_of v z)) s i),
    )

    has_originals : HasOriginals x.tree v o'
    has_originals = record {
      operations = λ k lv. ⊎_elim (λ s. subst (IsCopiedOperation x.tree v o') (sym s) copied_new) (λ nn. copied_old k lv nn) (cases_eq k new);
      blocks = λ b r h.
          let q = l.copied.originals.blocks b r (sym ((block_parents u w a op head xs front split childless no_results he blocks wv) b) ∙ h) in
          record { arguments = q.arguments ∙ ap (map o.value) (sym ((arguments u w a op head xs front split childless no_results he blocks wv) b)); body = q.body ∙ sym (body_all b); parent = q.parent };
      entries = λ k r i.
          let no = holder_old k r i in
          l.copied.originals.entries k r (subst (λ z. In r z.regions) ((rows u w a op head xs front split childless no_results he blocks wv) k no.0 no.1) i) ∙ ap (λ z. option_map o.block (first_of z None)) (sym ((layouts u w a op head xs front split childless no_results he blocks wv) r));
    }

    -- a block is still closed, if the operation isn't in it
    still_closed : (b : ℕ) → a ≢ b → IsClosedBlock u b → IsClosedBlock v b
    still_closed b apart q k y i h =
        let home = (home_before u w a op head xs front split childless no_results he blocks wv) y b (wv'.joined.operands k y i) h in
        ⊎_elim
        (λ s. absurd (apart (some_is (sym in_a ∙ q op y (subst (In y) (operands_new u w a op head xs front split childless no_results he blocks wv) (subst (λ z. In y (operands_of v z)) s i)) home))))
        (λ nn.
        let no : k ≢ op = λ s. no_member (operands_of v op) y (wv'.joined.erased op (gone u w a op head xs front split childless no_results he blocks wv)).0 (subst (λ z. In y (operands_of v z)) s i) in
        (parents u w a op head xs front split childless no_results he blocks wv) k no nn ∙ q k y (subst (In y) ((operands u w a op head xs front split childless no_results he blocks wv) k no nn) i) home)
        (cases_eq k new)

    block_copied : IsBlockCopied x.tree v o' x.header c
    block_copied = record {
      originals = has_originals;
      apart = copy_apart;
      copied = l.copied.copied;
      others = l.copied.others;
      regions = l.copied.regions;
      holders = λ k lv ne.
          let nn : k ≢ new = λ s. ne (ap (regions_of v) s ∙ ap (λ z. z.regions) (row_new u w a op head xs front split childless no_results he blocks wv)) in
          of_old k nn ∙ l.copied.holders k (before k lv nn) (λ z. ne (ap (λ y. y.regions) ((rows u w a op head xs front split childless no_results he blocks wv) k ((not_op u w a op head xs front split childless no_results he blocks wv) k lv) nn) ∙ z));
      placed = λ k b lv h. ⊎_elim
          (λ s. (a, ap (parent_of v) s ∙ (parent_new u w a op head xs front split childless no_results he blocks wv)))
          (λ nn. let d = l.copied.placed k b (before k lv nn) (ap (parent_of x.tree) (sym (of_old k nn)) ∙ h) in (d.0, (parents u w a op head xs front split childless no_results he blocks wv) k ((not_op u w a op head xs front split childless no_results he blocks wv) k lv) nn ∙ d.1))
          (cases_eq k new);
      closed = still_closed x.header ends.apart l.copied.closed;
      closed_copy = still_closed c a_not_copy l.copied.closed_copy;
    }

    -- an operation that leads somewhere after is new, or led there before
    leads_old : (k b : ℕ) → In b (successors_of v k) → k ≢ new → In b (successors_of u k)
    leads_old k b i nn = subst (In b) ((successors u w a op head xs front split childless no_results he blocks wv) k ((not_op u w a op head xs front split childless no_results he blocks wv) k (leader_live v wv' k b i)) nn) i

    no_header : In x.header xs → ⊥
    no_header i =
        let y = from_map (led_target x.header c) (successors_of u op) x.header i in
        ⊎_elim
        (λ s. copy_apart (sym (led_header x.header c) ∙ ap (led_target x.header c) (sym s) ∙ y.2))
        (λ ne. ne (sym (led_other_block x.header c y.0 ne) ∙ y.2))
        (cases_eq y.0 x.header)

    still_live : (k : ℕ) → k ≢ op → k ≢ new → IsLive u k → IsLive v k
    still_live k apart nn lu = subst (λ z. IsSome z.head) (sym ((rows u w a op head xs front split childless no_results he blocks wv) k apart nn)) lu

    still_waits : (k : ℕ) → In k x.entering → IsLive v k → StandsAsBefore x.tree v k
    still_waits k i lv =
        let nn = entering_old k i in
        let no = (not_op u w a op head xs front split childless no_results he blocks wv) k lv in
        let q = l.waiting k i (before k lv nn) in
        record {
          row = (rows u w a op head xs front split childless no_results he blocks wv) k no nn ∙ q.row;
          operands = (operands u w a op head xs front split childless no_results he blocks wv) k no nn ∙ q.operands;
          successors = (successors u w a op head xs front split childless no_results he blocks wv) k no nn ∙ q.successors;
          parent = (parents u w a op head xs front split childless no_results he blocks wv) k no nn ∙ q.parent;
          body = λ b h. (bodies u w a op head xs front split childless no_results he blocks wv) b (other b h) ∙ q.body b h;
        }
      where
        other : (b : ℕ) → parent_of x.tree k ≡ Some b → b ≢ a
        other b h s =
            let d = src.may.enter k i in
            let here : d.block ≡ a = some_is (sym d.in_block ∙ h) ∙ s in
            (not_op u w a op head xs front split childless no_results he blocks wv) k lv (some_is (sym d.last ∙ ap (λ z. last_of None (body_of x.tree z)) here ∙ ends.last))

    pub leading : IsLeadingIn x v
    leading = record {
      originals = o';
      copied = block_copied;
      old = λ k lt lv.
          let nn : k ≢ new = λ s. (let g = l.longer in omega (arith, lt, g, s)) in
          let q = l.old k lt (before k lv nn) in (q.0, of_old k nn ∙ q.1);
      longer = let g = l.longer in let n = (long u w a op head xs front split childless no_results he blocks wv) in omega (arith, g, n);
      waiting = still_waits;
      alone = λ k j i lj lk q. ⊎_elim
          (λ s. absurd ((not_op u w a op head xs front split childless no_results he blocks wv) j lj (sym q ∙ ap o'.operation s ∙ of_new)))
          (λ nn. l.alone k j i (before j lj (entering_old j i)) (before k lk nn) (sym (of_old k nn) ∙ q))
          (cases_eq k new);
      to_copy = λ k i. ⊎_elim
          (λ s. subst (λ z. In z x.entering) (sym (ap o'.operation s ∙ of_new)) e)
          (λ nn. subst (λ z. In z x.entering) (sym (of_old k nn)) (l.to_copy k (leads_old k c i nn)))
          (cases_eq k new);
      to_header = λ k i j. ⊎_elim
          (λ s. absurd (no_header (subst (In x.header) (ap (successors_of v) s ∙ (successors_new u w a op head xs front split childless no_results he blocks wv)) i)))
          (λ nn.
          let was = leads_old k x.header i nn in
          let j' = subst (λ z. In z x.entering) (of_old k nn) j in
          let lu = l.to_header k was j' in
          let no : o.operation k ≢ op = λ q. (not_op u w a op head xs front split childless no_results he blocks wv) k (leader_live v wv' k x.header i) (l.alone k op e live (leader_live u w k x.header was) q) in
          subst (IsLive v) (sym (of_old k nn)) (still_live (o.operation k) no (entering_old (o.operation k) j') lu))
          (cases_eq k new);
      home = λ b lt. (block_parents u w a op head xs front split childless no_results he blocks wv) b ∙ l.home b lt;
      copy_home = (block_parents u w a op head xs front split childless no_results he blocks wv) c ∙ l.copy_home;
      last = (layouts u w a op head xs front split childless no_results he blocks wv) x.region ∙ l.last;
      inside = λ root h. inside_trans x.tree u v root (l.inside root h) ((inside u w a op head xs front split childless no_results he blocks wv) root (l.held root op e live h));
      held = λ root k i lv h. (stays u w a op head xs front split childless no_results he blocks wv) root k lv (entering_old k i) (l.held root k i (before k lv (entering_old k i)) h);
    }

    pub op_gone : IsLive v op → ⊥
    op_gone lv = (not_op u w a op head xs front split childless no_results he blocks wv) op lv refl

    pub fewer : (k : ℕ) → In k x.entering → IsLive v k → IsLive u k
    fewer k i lv = before k lv (entering_old k i)

    pub one_more : length v.operations ≤ length u.operations + 1
    one_more = let n = (long u w a op head xs front split childless no_results he blocks wv) in omega (arith, n)
