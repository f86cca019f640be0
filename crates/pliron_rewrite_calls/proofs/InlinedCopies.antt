-- The copies of a callee whose returns were led back are those of an inlined call.
use Rattle.std.proofs.Common.{◌≡◌, ◌≢◌, ◌⊎◌, inl, inr, ⊎_elim, ℕ, zero, suc, ◌<◌, ◌≤◌, Bool, true, false, true≢false, nat_lt, if◌then◌else◌, List, [], ◌∷◌, ◌++◌, length, map, Option, Some, None, IsSome, IsTrue, is_some, slice_get, refl, sym, ap, ◌∙◌, subst, arith}
use Rattle.std.proofs.lemmas.Bool.{cases_lt, lt-ltb, le-ltb}
use Rattle.std.proofs.lemmas.List.{length-map, map-append}
use Rattle.std.proofs.lemmas.Option.{slice_get_within}
use Rattle.pliron_core.specs.declared.attrs.Head.{Head}
use Rattle.pliron_core.specs.declared.context.Def.{Def}
use Rattle.pliron_core.specs.declared.context.Def.TheVariants.{Result, Argument}
use Rattle.pliron_core.specs.Invariant.{IsTree}
use Rattle.pliron_core.specs.Tree.{Tree, In, IsDistinct, IsLive, last_of, head_of, operands_of, successors_of, results_of, regions_of, parent_of, body_of, arguments_of, block_parent_of, layout_of, definition_of}
use Rattle.pliron_core.proofs.HoldingLemmas.{some_is, some_of, slice_in}
use Rattle.pliron_core.proofs.ListLemmas.{In-left, In-cases, distinct-apart}
use Rattle.pliron_core.proofs.LastLemmas.{in_end}
use Rattle.pliron_core.proofs.TreeLemmas.{live-within, block-within}
use Rattle.pliron_laws.specs.Datum.{Datum, Meaning}
use Rattle.pliron_laws.specs.Tree.{Operation, op_at, block_at, entry_block, count_arguments, unless, shape_of}
use Rattle.pliron_laws.proofs.Records.{ShowsOperation, op_shows, make_block}
use Rattle.pliron_laws.proofs.ShapeLemmas.{live_at}
use Rattle.pliron_theory.specs.Rebranching.{FitsInPlace}
use Rattle.pliron_pass_linked.specs.Calls.{CallingConvention}
use Rattle.pliron_rewrite_copies.specs.Copies.{Originals}
use Rattle.pliron_rewrite_copies.proofs.Maps.{in_map}
use Rattle.pliron_rewrite_inlining.specs.Inlined.{InlinedCall, IsJumpTo, Returns, IsCopy, NeverGives, IsFreshKey, IsReturnReplaced, AreCopies, IsBlockCopy}
use Rattle.pliron_rewrite_inlining.proofs.CopiedShapes.{same_shape}
use Rattle.pliron_dialect_calls.specs.Inlinable.{IsJumpHead, NeverLeaves}
use Rattle.pliron_rewrite_calls.specs.Copying.{original_by, parts_of, originals_of, IsOperationCopy, AreCopiedInto}
use Rattle.pliron_rewrite_calls.specs.CopySteps.{IsGrownIn}
use Rattle.pliron_rewrite_calls.specs.Inlining.{ReturnsAsMany, StaysWithin, MayBeCopied, MayInline}
use Rattle.pliron_rewrite_calls.specs.InliningSteps.{HasSamePlaces, IsSameAt, IsJumpRow, IsJumpMade, IsCallReplaced, EndsOtherwise, IsInPlaceOf, AreReturnsLed}
use Rattle.pliron_rewrite_calls.proofs.CopyLists.{old_itself, original_in}
use Rattle.pliron_rewrite_calls.proofs.ErasedAgain.{from_end, last_there}
use Rattle.pliron_rewrite_calls.proofs.Growing.{new_only}
use Rattle.pliron_rewrite_calls.proofs.JumpsMade.{after_both, as_before_both}

map_same : (f g : ℕ → ℕ) (xs : List ℕ) → ((x : ℕ) → In x xs → f x ≡ g x) → map f xs ≡ map g xs
map_same f g [] same = refl
map_same f g (x ∷ xs) same = ap (λ z. z ∷ map f xs) (same x (inl refl)) ∙ ap (λ z. g x ∷ z) (map_same f g xs (λ y i. same y (inr i)))

result_is : (k i j n : ℕ) → ◌≡◌ {A = Option Def} (Some (Result k i)) (Some (Result j n)) → k ≡ j
result_is k i j n e = cc

argument_is : (b i c n : ℕ) → ◌≡◌ {A = Option Def} (Some (Argument b i)) (Some (Argument c n)) → b ≡ c
argument_is b i c n e = cc

only_item : (x i d : ℕ) → slice_get (x ∷ []) i ≡ Some d → (i ≡ 0) × (d ≡ x)
only_item x zero d e = (refl, sym (some_is e))
only_item x (suc i) d e = absurd (let l = slice_get_within {A = ℕ} [] i d e in omega (arith, l))

-- ---- shapes

pub shape_by : (m : Meaning) (t u : Tree) (j k : ℕ) (oj ok : Operation) → op_at t j ≡ Some oj → op_at u k ≡ Some ok → head_of t j ≡ head_of u k → length (operands_of t j) ≡ length (operands_of u k) → length (results_of t j) ≡ length (results_of u k) → length (successors_of t j) ≡ length (successors_of u k)
    → map (λ b. count_arguments (block_at t b)) (successors_of t j) ≡ map (λ b. count_arguments (block_at u b)) (successors_of u k) → regions_of t j ≡ [] → regions_of u k ≡ [] → shape_of m t oj ≡ shape_of m u ok
unfolding shape_of
shape_by m t u j k oj ok e f head operands results successors targets none none' =
    let s = op_shows t j oj e in
    let q = op_shows u k ok f in
    let heads : oj.head ≡ ok.head = some_is (sym s.head ∙ head ∙ q.head) in
    same_shape heads
    (ap length (sym s.operands) ∙ operands ∙ ap length q.operands)
    (ap length (sym s.results) ∙ results ∙ ap length q.results)
    (ap length (sym s.successors) ∙ successors ∙ ap length q.successors)
    (ap (map (λ r. count_arguments (entry_block t r))) (sym s.regions ∙ none) ∙ sym (ap (map (λ r. count_arguments (entry_block u r))) (sym q.regions ∙ none')))
    (ap (λ z. unless (m.is_branch z) (map (λ b. count_arguments (block_at t b)) oj.successors)) heads ∙ ap (unless (m.is_branch ok.head)) (ap (map (λ b. count_arguments (block_at t b))) (sym s.successors) ∙ targets ∙ ap (map (λ b. count_arguments (block_at u b))) q.successors))

-- ---- jumps

pub shape_parts : (m : Meaning) (u : Tree) (o : Operation) → ((shape_of m u o).head ≡ o.head) × ((shape_of m u o).operands ≡ length o.operands) × ((shape_of m u o).results ≡ length o.results) × ((shape_of m u o).successors ≡ length o.successors)
unfolding shape_of
shape_parts m u o = (refl, refl, refl, refl)

module _ (m : Meaning) (u : Tree) (k target : ℕ) (h : Head) (values : List ℕ) (head : IsJumpHead m (length values) h) (r : IsJumpRow u k h values (target ∷ [])) where
  live_jump : IsLive u k
  live_jump = subst IsSome (sym (ap (λ z. z.head) r.row)) refl

  module _ (o : Operation) (e : op_at u k ≡ Some o) where
    abbrev s : ShowsOperation u k o
    s = op_shows u k o e

    its_head : (shape_of m u o).head ≡ h
    its_head = (shape_parts m u o).0 ∙ some_is (sym s.head ∙ ap (λ z. z.head) r.row)

    its_operands : (shape_of m u o).operands ≡ length values
    its_operands = (shape_parts m u o).1 ∙ ap length (sym s.operands ∙ r.operands)

    its_results : (shape_of m u o).results ≡ 0
    its_results = (shape_parts m u o).2 ∙ ap length (sym s.results ∙ ap (λ z. z.results) r.row)

    its_successors : (shape_of m u o).successors ≡ 1
    its_successors = (shape_parts m u o).3 ∙ ap length (sym s.successors ∙ r.successors)

  pub jump_goes : IsJumpTo m u k target
  jump_goes = record {
    live = live_jump;
    leads = r.successors;
    goes = λ o e ds long. head.goes (shape_of m u o) (its_head o e) (its_operands o e) (its_results o e) (its_successors o e) ds (long ∙ ap length (sym (op_shows u k o e).operands ∙ r.operands));
  }

  pub jump_fits : length (arguments_of u target) ≡ length values → FitsInPlace m u k
  jump_fits many = record {
    admitted = λ g e.
        let same : g ≡ h = some_is (sym e ∙ ap (λ z. z.head) r.row) in
        let a : IsTrue (m.admits h (length values) 0 1 0) = head.admitted in
        let p : length (operands_of u k) ≡ length values = ap length r.operands in
        let q : length (results_of u k) ≡ 0 = ap (λ z. length z.results) r.row in
        let y : length (successors_of u k) ≡ 1 = ap length r.successors in
        let z : length (regions_of u k) ≡ 0 = ap (λ z. length z.regions) r.row in
        subst (λ f. IsTrue (m.admits f (length (operands_of u k)) (length (results_of u k)) (length (successors_of u k)) (length (regions_of u k)))) (sym same)
        (subst (λ n. IsTrue (m.admits h n (length (results_of u k)) (length (successors_of u k)) (length (regions_of u k)))) (sym p)
        (subst (λ n. IsTrue (m.admits h (length values) n (length (successors_of u k)) (length (regions_of u k)))) (sym q)
        (subst (λ n. IsTrue (m.admits h (length values) 0 n (length (regions_of u k)))) (sym y)
        (subst (λ n. IsTrue (m.admits h (length values) 0 1 n)) (sym z) a))));
    forwards = λ o i d e branch at.
        let t = only_item target i d (ap (λ z. slice_get z i) (sym r.successors ∙ (op_shows u k o e).successors) ∙ at) in
        ap (λ n. length (m.forwarded (shape_of m u o) n)) t.0 ∙ head.forwards (shape_of m u o) (its_head o e) (its_operands o e) (its_successors o e) ∙ sym many ∙ ap (λ n. length (arguments_of u n)) (sym t.1);
  }

-- ---- blocks that may be copied

split_copied : (m : Meaning) (returns : Head → Bool) (t : Tree) (n : ℕ) (f : ℕ → ℕ) (front : List ℕ) (last : ℕ) → MayBeCopied m returns t n (map f (front ++ last ∷ [])) → ((k : ℕ) → In k front → NeverLeaves m t (f k)) × (ReturnsAsMany m returns t n (f last) ⊎ StaysWithin m returns t (f last))
split_copied m returns t n f [] last p = (λ k i. absurd i, p.1)
split_copied m returns t n f (j ∷ []) last p = (λ k i. ⊎_elim (λ e. subst (λ z. NeverLeaves m t (f z)) (sym e) p.1) (λ z. absurd z) i, p.2.1)
split_copied m returns t n f (j ∷ l ∷ front) last p =
    let r = split_copied m returns t n f (l ∷ front) last p.2 in
    (λ k i. ⊎_elim (λ e. subst (λ z. NeverLeaves m t (f z)) (sym e) p.1) (r.0 k) i, r.1)

none_copied : (m : Meaning) (returns : Head → Bool) (t : Tree) (n : ℕ) (f : ℕ → ℕ) (xs : List ℕ) → MayBeCopied m returns t n (map f xs) → xs ≡ [] → ⊥
none_copied m returns t n f xs p e = subst (λ z. MayBeCopied m returns t n (map f z)) e p

copies_by : (m : Meaning) (t u : Tree) (x : InlinedCall) (xs : List ℕ) (z : ℕ) → ((k : ℕ) → In k xs → IsCopy m t u x k) → ((IsCopy m t u x z × NeverGives m u z) ⊎ IsReturnReplaced m t u x z) → AreCopies m t u x (xs ++ z ∷ [])
copies_by m t u x [] z each end = end
copies_by m t u x (k ∷ []) z each end = (each k (inl refl), end)
copies_by m t u x (k ∷ j ∷ ks) z each end = (each k (inl refl), copies_by m t u x (j ∷ ks) z (λ l i. each l (inr i)) end)

-- ---- which blocks are copies

abbrev pub is_between : ℕ → ℕ → ℕ → Bool
is_between from to b = if nat_lt b from then false else nat_lt b to

pub between_is : (from to b : ℕ) → is_between from to b ≡ true → (from ≤ b) × (b < to)
between_is from to b e = elim (cases_lt b from) [
  | inl lt ↦ absurd (true≢false (sym e ∙ ap (λ z. if z then false else nat_lt b to) (lt-ltb b from lt)))
  | inr le ↦ elim (cases_lt b to) [
    | inl lt ↦ (le, lt)
    | inr ge ↦ absurd (true≢false (sym e ∙ ap (λ z. if z then false else nat_lt b to) (le-ltb b from le) ∙ le-ltb b to ge))
  ]
]

pub is_between_of : (from to b : ℕ) → from ≤ b → b < to → is_between from to b ≡ true
is_between_of from to b le lt = ap (λ z. if z then false else nat_lt b to) (le-ltb b from le) ∙ lt-ltb b to lt

-- the parts: a jump `new` to the block `entry`, among copies of the callee's blocks
abbrev pub parts_by : (t copied : Tree) (blocks olds : List ℕ) (callee region call jump after new entry : ℕ) → InlinedCall
parts_by t copied blocks olds callee region call jump after new entry = record {
  callee = callee;
  region = region;
  call = call;
  jump = jump;
  after = after;
  new = new;
  entry = entry;
  copied = λ b. is_between (length t.bodies) (length copied.bodies) b;
  originals = record {
    operation = λ k. (originals_of t blocks).operation (original_by olds (length copied.operations) k);
    block = (originals_of t blocks).block;
    region = λ r. r;
    value = (originals_of t blocks).value;
  };
}

-- all that was done: blocks were copied, returns led back, the new jump made, and put in the place of the call
pub record IsDone (m : Meaning) (c : CallingConvention) (returns : Head → Bool) (t u : Tree) (call callee : ℕ) (symbol : Datum) : Type 0 where
  pub may : MayInline m c returns t call callee symbol
  pub tree : IsTree t
  pub region : ℕ
  pub in_region : block_parent_of t may.prepared.block ≡ Some region
  pub copied : Tree
  pub copied_tree : IsTree copied
  pub copies : AreCopiedInto t copied region (layout_of t may.inlinable.region)
  pub grown : IsGrownIn t copied region
  pub led : Tree
  pub blocks : List ℕ
  pub olds : List ℕ
  pub returns_led : AreReturnsLed m returns copied led may.prepared.after blocks olds
  pub all_new : (b : ℕ) → In b blocks → length t.bodies ≤ b
  pub all : (b : ℕ) → length t.bodies ≤ b → b < length copied.bodies → In b blocks
  pub made : Tree
  pub new : ℕ
  pub head : Head
  pub jumps : IsJumpHead m (length (operands_of t call)) head
  pub entry : ℕ
  pub entry_new : length t.bodies ≤ entry
  pub entry_in : entry < length copied.bodies
  pub entry_is : (originals_of t (layout_of t may.inlinable.region)).block entry ≡ may.inlinable.entry
  pub is_made : IsJumpMade led made new head (operands_of t call) (entry ∷ [])
  pub replaced : IsCallReplaced made u may.prepared.block call may.prepared.jump new
  pub done_tree : IsTree u

module _ (m : Meaning) (c : CallingConvention) (returns : Head → Bool) (t u : Tree) (call callee : ℕ) (symbol : Datum) (d : IsDone m c returns t u call callee symbol) where
  abbrev pub os : List ℕ
  os = layout_of t d.may.inlinable.region

  abbrev pub o : Originals
  o = originals_of t (layout_of t d.may.inlinable.region)

  abbrev pub parts : InlinedCall
  parts = parts_by t d.copied (layout_of t d.may.inlinable.region) d.olds callee d.may.inlinable.region call d.may.prepared.jump d.may.prepared.after d.new d.entry

  abbrev many : ℕ
  many = length (results_of t call)

  pub call_less : call < length t.operations
  call_less = live-within t call d.may.calls.live

  pub jump_less : d.may.prepared.jump < length t.operations
  jump_less = live-within t d.may.prepared.jump d.may.prepared.jumps.live

  -- ---- what stays from the copying on

  pub new_past : length d.copied.operations ≤ d.new
  new_past = let e = d.is_made.key in let f = d.returns_led.count in omega (arith, e, f)

  pub places : HasSamePlaces d.copied u
  places = after_both d.copied d.led u d.returns_led.places (after_both d.led d.made u d.is_made.places d.replaced.places)

  pub olds_new : (k : ℕ) → In k d.olds → length t.operations ≤ k
  olds_new k i = let f = d.returns_led.from k i in new_only t d.copied d.region d.tree d.grown d.copied_tree k f.block f.holds (d.all_new f.block f.listed)

  pub stays_on : (k : ℕ) → k < length d.copied.operations → (In k d.olds → ⊥) → k ≢ call → k ≢ d.may.prepared.jump → IsSameAt d.copied u k
  stays_on k lt out nc nj =
      let n : k ≢ d.new = λ e. let p = new_past in omega (arith, e, p, lt) in
      as_before_both d.copied d.led u k (d.returns_led.others k lt out) (as_before_both d.led d.made u k (d.is_made.others k n) (d.replaced.others k nc nj n))

  -- so does what is new once the returns are led back
  pub led_on : (k : ℕ) → length t.operations ≤ k → k < length d.led.operations → IsSameAt d.led u k
  led_on k le lt =
      let n : k ≢ d.new = λ e. let f = d.is_made.key in omega (arith, e, f, lt) in
      as_before_both d.led d.made u k (d.is_made.others k n) (d.replaced.others k (λ e. let y = call_less in omega (arith, e, y, le)) (λ e. let y = jump_less in omega (arith, e, y, le)) n)

  block_less : d.may.prepared.block < length t.bodies
  block_less = block-within t d.may.prepared.block d.tree.keys (ap is_some d.in_region)

  pub body_on : (b : ℕ) → length t.bodies ≤ b → body_of u b ≡ body_of d.led b
  body_on b le = d.replaced.bodies b (λ e. let x = block_less in omega (arith, e, x, le)) ∙ d.is_made.bodies b

  -- ---- a block of the copy

  module _ (b : ℕ) (le : length t.bodies ≤ b) (lt : b < length d.copied.bodies) where
    pub home : block_parent_of t (o.block b) ≡ Some d.may.inlinable.region
    home = d.tree.layouts.owned (o.block b) d.may.inlinable.region (original_in os (length t.bodies) b le (let e = d.copies.block_count in omega (arith, e, lt)))

    pub parent_on : block_parent_of u b ≡ Some d.region
    parent_on = places.block_parents b ∙ (d.copies.block_copies b le lt).parent

    pub arguments_on : arguments_of t (o.block b) ≡ map o.value (arguments_of u b)
    arguments_on = (d.copies.block_copies b le lt).arguments ∙ ap (map o.value) (sym (places.arguments b))

    pub count_alike : count_arguments (block_at t (o.block b)) ≡ count_arguments (block_at u b)
    count_alike = ap count_arguments (make_block t (o.block b) d.may.inlinable.region home) ∙ ap length arguments_on ∙ length-map (arguments_of u b) o.value ∙ sym (ap count_arguments (make_block u b d.region parent_on))

  module _ (b : ℕ) (le : length t.bodies ≤ b) (lt : b < length d.copied.bodies) where
    fresh_argument : (v : ℕ) → In v (arguments_of u b) → IsFreshKey t v
    fresh_argument v j =
        let i : In v (arguments_of d.copied b) = subst (In v) (places.arguments b) j in
        let y = slice_in (arguments_of d.copied b) v i in
        let z = slice_in (arguments_of t (o.block b)) (o.value v) (subst (In (o.value v)) (sym (d.copies.block_copies b le lt).arguments) (in_map o.value (arguments_of d.copied b) v i)) in
        elim (cases_lt v (length t.definitions)) [
          | inl less ↦
              let same = old_itself (parts_of t os).values (length t.definitions) v less in
              let e = argument_is b y.0 (o.block b) z.0 (sym (d.copied_tree.joined.arguments b y.0 v y.1) ∙ d.copies.definitions v less ∙ ap (definition_of t) (sym same) ∙ d.tree.joined.arguments (o.block b) z.0 (o.value v) z.1) in
              absurd (let x = block-within t (o.block b) d.tree.keys (ap is_some (home b le lt)) in omega (arith, e, x, le))
          | inr ge ↦ ge
        ]

    -- an operation in it
    module _ (k : ℕ) (i : In k (body_of d.copied b)) where
      at : parent_of d.copied k ≡ Some b
      at = d.copied_tree.bodies.owned k b i

      pub from_new : length t.operations ≤ k
      from_new = new_only t d.copied d.region d.tree d.grown d.copied_tree k b at le

      pub within : k < length d.copied.operations
      within = live-within d.copied k (d.copied_tree.joined.all_in_place k b at).0

      pub copy : IsOperationCopy t d.copied o k
      copy = d.copies.copies k from_new within

      pub there : In (o.operation k) (body_of t (o.block b))
      there = subst (In (o.operation k)) (sym (d.copies.block_copies b le lt).body) (in_map o.operation (body_of d.copied b) k i)

      original_live : IsLive t (o.operation k)
      original_live = subst IsSome (sym copy.same.head) copy.live

      pub fresh_operand : (v : ℕ) → In v (operands_of d.copied k) → IsFreshKey t v
      fresh_operand v j =
          let own = d.may.inlinable.own (o.block b) (o.operation k) (o.value v) (home b le lt) there (subst (In (o.value v)) (sym copy.same.operands) (in_map o.value (operands_of d.copied k) v j)) in
          elim (cases_lt v (length t.definitions)) [
            | inl less ↦ absurd (d.copies.named k v from_new j (subst (λ z. In z (parts_of t os).values) (old_itself (parts_of t os).values (length t.definitions) v less) own))
            | inr ge ↦ ge
          ]

      fresh_result : (v : ℕ) → In v (results_of d.copied k) → IsFreshKey t v
      fresh_result v j =
          let y = slice_in (results_of d.copied k) v j in
          let z = slice_in (results_of t (o.operation k)) (o.value v) (subst (In (o.value v)) (sym copy.same.results) (in_map o.value (results_of d.copied k) v j)) in
          elim (cases_lt v (length t.definitions)) [
            | inl less ↦
                let same = old_itself (parts_of t os).values (length t.definitions) v less in
                let e = result_is k y.0 (o.operation k) z.0 (sym (d.copied_tree.joined.results k y.0 v y.1) ∙ d.copies.definitions v less ∙ ap (definition_of t) (sym same) ∙ d.tree.joined.results (o.operation k) z.0 (o.value v) z.1) in
                absurd (let x = live-within t (o.operation k) original_live in let f = from_new in omega (arith, e, x, f))
            | inr ge ↦ ge
          ]

      leads_in : (s : ℕ) → In s (successors_of d.copied k) → (length t.bodies ≤ s) × (s < length d.copied.bodies)
      leads_in s j =
          let stands = block-within d.copied s d.copied_tree.keys (d.copied_tree.joined.successors k s j) in
          let inside = d.may.inlinable.inside (o.block b) (o.operation k) (o.block s) (home b le lt) there (subst (In (o.block s)) (sym copy.same.successors) (in_map o.block (successors_of d.copied k) s j)) in
          elim (cases_lt s (length t.bodies)) [
            | inl less ↦ absurd (d.copies.led k s from_new j (subst (λ z. In z os) (old_itself os (length t.bodies) s less) (d.tree.layouts.listed (o.block s) d.may.inlinable.region inside)))
            | inr ge ↦ (ge, stands)
          ]

      -- it stays where it isn't a return that was led back
      module _ (out : In k d.olds → ⊥) where
        on : IsSameAt d.copied u k
        on = stays_on k within out (λ e. let x = call_less in let f = from_new in omega (arith, e, x, f)) (λ e. let x = jump_less in let f = from_new in omega (arith, e, x, f))

        original_is : parts.originals.operation k ≡ o.operation k
        original_is = ap o.operation (old_itself d.olds (length d.copied.operations) k within)

        childless_on : regions_of u k ≡ []
        childless_on = ap (λ z. z.regions) on.row ∙ copy.childless

        none : regions_of t (o.operation k) ≡ []
        none = copy.same.regions ∙ ap (map o.region) copy.childless

        targets : map (λ s. count_arguments (block_at t s)) (successors_of t (o.operation k)) ≡ map (λ s. count_arguments (block_at u s)) (successors_of u k)
        targets = ap (map (λ s. count_arguments (block_at t s))) copy.same.successors ∙ maps (successors_of d.copied k) (λ s j. leads_in s j) ∙ ap (map (λ s. count_arguments (block_at u s))) (sym on.successors)
          where
            maps : (xs : List ℕ) → ((s : ℕ) → In s xs → (length t.bodies ≤ s) × (s < length d.copied.bodies)) → map (λ s. count_arguments (block_at t s)) (map o.block xs) ≡ map (λ s. count_arguments (block_at u s)) xs
            maps [] each = refl
            maps (y ∷ xs) each = let p = each y (inl refl) in ap (λ z. z ∷ map (λ s. count_arguments (block_at t s)) (map o.block xs)) (count_alike y p.0 p.1) ∙ ap (λ z. count_arguments (block_at u y) ∷ z) (maps xs (λ z j. each z (inr j)))

        shape_on : (oj ok : Operation) → op_at t (o.operation k) ≡ Some oj → op_at u k ≡ Some ok → shape_of m t oj ≡ shape_of m u ok
        shape_on oj ok e f = shape_by m t u (o.operation k) k oj ok e f (copy.same.head ∙ sym (ap (λ z. z.head) on.row))
            (ap length copy.same.operands ∙ length-map (operands_of d.copied k) o.value ∙ ap length (sym on.operands))
            (ap length copy.same.results ∙ length-map (results_of d.copied k) o.value ∙ sym (ap (λ z. length z.results) on.row))
            (ap length copy.same.successors ∙ length-map (successors_of d.copied k) o.block ∙ ap length (sym on.successors))
            targets none childless_on

        pub is_copy : NeverLeaves m t (o.operation k) → IsCopy m t u parts k
        is_copy never = record {
          live = subst (λ z. IsSome z.head) (sym on.row) copy.live;
          same = record {
            head = ap (head_of t) original_is ∙ copy.same.head ∙ sym (ap (λ z. z.head) on.row);
            operands = ap (operands_of t) original_is ∙ copy.same.operands ∙ ap (map o.value) (sym on.operands);
            results = ap (results_of t) original_is ∙ copy.same.results ∙ sym (ap (λ z. map o.value z.results) on.row);
            successors = ap (successors_of t) original_is ∙ copy.same.successors ∙ ap (map o.block) (sym on.successors);
            regions = ap (regions_of t) original_is ∙ copy.same.regions ∙ sym (ap (λ z. map o.region z.regions) on.row);
          };
          childless = childless_on;
          leads = λ s j. let p = leads_in s (subst (In s) on.successors j) in is_between_of (length t.bodies) (length d.copied.bodies) s p.0 p.1;
          operands = λ v j. fresh_operand v (subst (In v) on.operands j);
          results = λ v j. fresh_result v (subst (In v) (ap (λ z. z.results) on.row) j);
          stays = λ ok f memo input ds e. let y = live_at t (o.operation k) original_live in never y.0 y.1 memo input ds (ap (λ z. m.act z memo input) (shape_on y.0 ok y.1 f) ∙ e);
        }

        pub never_gives : NeverGives m t (o.operation k) → NeverGives m u k
        never_gives never = λ ok f memo input ds e. let y = live_at t (o.operation k) original_live in never y.0 y.1 memo input ds (ap (λ z. m.act z memo input) (shape_on y.0 ok y.1 f) ∙ e)

    -- how it ends
    pub ends_so : (front : List ℕ) (last : ℕ) → body_of d.copied b ≡ front ++ last ∷ [] → ((k : ℕ) → In k front → NeverLeaves m t (o.operation k)) × (ReturnsAsMany m returns t many (o.operation last) ⊎ StaysWithin m returns t (o.operation last))
    ends_so front last e = split_copied m returns t many o.operation front last (subst (MayBeCopied m returns t many) ((d.copies.block_copies b le lt).body ∙ ap (map o.operation) e) (d.may.inlinable.copied (o.block b) (home b le lt)))

    not_old : (front : List ℕ) (last k : ℕ) → body_of d.copied b ≡ front ++ last ∷ [] → In k (body_of d.copied b) → In k d.olds → k ≡ last
    not_old front last k e i j =
        let f = d.returns_led.from k j in
        let same : f.block ≡ b = some_is (sym f.holds ∙ d.copied_tree.bodies.owned k b i) in
        some_is (sym f.last ∙ ap (λ z. last_of None (body_of d.copied z)) same ∙ ap (last_of None) e ∙ last_there None front last)

    module _ (front : List ℕ) (last : ℕ) (e : body_of d.copied b ≡ front ++ last ∷ []) where
      in_front : (k : ℕ) → In k front → In k (body_of d.copied b)
      in_front k i = subst (In k) (sym e) (In-left k front (last ∷ []) i)

      in_last : In last (body_of d.copied b)
      in_last = subst (In last) (sym e) (in_end last front)

      front_out : (k : ℕ) → In k front → In k d.olds → ⊥
      front_out k i j = distinct-apart front (last ∷ []) (subst IsDistinct e (d.copied_tree.bodies.distinct b)) k i (inl (not_old front last k e (in_front k i) j))

      pub front_copy : (k : ℕ) → In k front → IsCopy m t u parts k
      front_copy k i = is_copy k (in_front k i) (front_out k i) ((ends_so front last e).0 k i)

      map_front : map parts.originals.operation front ≡ map o.operation front
      map_front = map_same parts.originals.operation o.operation front (λ k i. original_is k (in_front k i) (front_out k i))

      -- with what closes it
      module _ (other : EndsOtherwise returns d.copied b) where
        closes : StaysWithin m returns t (o.operation last)
        closes = ⊎_elim (λ q.
            let y = some_of (head_of d.copied last) (copy last in_last).live in
            absurd (other last y.0 (ap (last_of None) e ∙ last_there None front last) y.1 (q.is_return y.0 ((copy last in_last).same.head ∙ y.1)))) (λ q. q) (ends_so front last e).1

        last_out : In last d.olds → ⊥
        last_out j =
            let y = some_of (head_of d.copied last) (copy last in_last).live in
            let f = d.returns_led.from last j in
            other last y.0 (ap (last_of None) e ∙ last_there None front last) y.1 (f.returned y.0 y.1)

        pub copies_closed : AreCopies m t u parts (front ++ last ∷ [])
        copies_closed = copies_by m t u parts front last front_copy (inl (is_copy last in_last last_out closes.stays, never_gives last in_last last_out closes.closes))

        pub body_closed : body_of t (o.block b) ≡ map parts.originals.operation (front ++ last ∷ [])
        body_closed = (d.copies.block_copies b le lt).body ∙ ap (map o.operation) e ∙ map-append o.operation front (last ∷ []) ∙ ap (λ z. z ++ o.operation last ∷ []) (sym map_front) ∙ ap (λ z. map parts.originals.operation front ++ z ∷ []) (sym (original_is last in_last last_out)) ∙ sym (map-append parts.originals.operation front (last ∷ []))

      -- with a jump in the place of a return
      module _ (new : ℕ) (is_old : original_by d.olds (length d.copied.operations) new ≡ last) (ge : length d.copied.operations ≤ new) (less : new < length d.led.operations) (returned : (g : Head) → head_of d.copied last ≡ Some g → IsTrue (returns g)) where
        many_so : ReturnsAsMany m returns t many (o.operation last)
        many_so = ⊎_elim (λ q. q) (λ q.
            let y = some_of (head_of d.copied last) (copy last in_last).live in
            absurd (q.no_return y.0 ((copy last in_last).same.head ∙ y.1) (returned y.0 y.1))) (ends_so front last e).1

        on_new : IsSameAt d.led u new
        on_new = led_on new (let x = d.copies.operation_count in omega (arith, x, ge)) less

        abbrev j : IsInPlaceOf m d.copied d.led d.may.prepared.after (original_by d.olds (length d.copied.operations) new) new
        j = d.returns_led.jumps new ge less

        new_original : parts.originals.operation new ≡ o.operation last
        new_original = ap o.operation is_old

        new_operands : operands_of u new ≡ operands_of d.copied last
        new_operands = on_new.operands ∙ j.jump.operands ∙ ap (operands_of d.copied) is_old

        replaced : IsReturnReplaced m t u parts new
        replaced = record {
          returns = subst (Returns m t) (sym new_original) many_so.leaves;
          jumps = jump_goes m u new d.may.prepared.after j.head (operands_of d.copied (original_by d.olds (length d.copied.operations) new)) j.jumps (record { row = on_new.row ∙ j.jump.row; operands = on_new.operands ∙ j.jump.operands; successors = on_new.successors ∙ j.jump.successors });
          operands = ap (operands_of t) new_original ∙ (copy last in_last).same.operands ∙ ap (map o.value) (sym new_operands);
          count = ap length new_operands ∙ sym (length-map (operands_of d.copied last) o.value) ∙ ap length (sym (copy last in_last).same.operands) ∙ many_so.gives;
          fresh = λ v i. fresh_operand last in_last v (subst (In v) new_operands i);
        }

        pub copies_led : AreCopies m t u parts (front ++ new ∷ [])
        copies_led = copies_by m t u parts front new front_copy (inr replaced)

        pub body_led : body_of t (o.block b) ≡ map parts.originals.operation (front ++ new ∷ [])
        body_led = (d.copies.block_copies b le lt).body ∙ ap (map o.operation) e ∙ map-append o.operation front (last ∷ []) ∙ ap (λ z. z ++ o.operation last ∷ []) (sym map_front) ∙ ap (λ z. map parts.originals.operation front ++ z ∷ []) (sym new_original) ∙ sym (map-append parts.originals.operation front (new ∷ []))

    -- what is no return that was led back never leaves
    pub never_left : (k : ℕ) → In k (body_of d.copied b) → (In k d.olds → ⊥) → NeverLeaves m t (o.operation k)
    never_left k i out = ⊎_elim
        (λ y. ⊎_elim
        (λ none. absurd (subst (In k) none i))
        (λ s. ⊎_elim ((ends_so s.0 s.1 s.2).0 k) (λ j. ⊎_elim (λ e. subst (λ z. NeverLeaves m t (o.operation z)) (sym e) (closes s.0 s.1 s.2 y.0).stays) (λ z. absurd z) j) (In-cases k s.0 (s.1 ∷ []) (subst (In k) s.2 i)))
        (from_end (body_of d.copied b)))
        (λ y. ⊎_elim
        ((ends_so y.front y.old y.before).0 k)
        (λ j. ⊎_elim (λ e. absurd (out (subst (λ z. In z d.olds) (sym e) (subst (λ z. In z d.olds) y.is_old (original_in d.olds (length d.copied.operations) y.new y.is_new (let f = d.returns_led.count in let g = y.within in omega (arith, f, g))))))) (λ z. absurd z) j)
        (In-cases k y.front (y.old ∷ []) (subst (In k) y.before i)))
        (d.returns_led.ends b (d.all b le lt))

    copies_here : AreCopies m t u parts (body_of u b) × (body_of t (o.block b) ≡ map parts.originals.operation (body_of u b))
    copies_here = ⊎_elim
        (λ y.
        let same : body_of u b ≡ body_of d.copied b = body_on b le ∙ y.1 in
        ⊎_elim
        (λ none. absurd (none_copied m returns t many o.operation (body_of d.copied b) (subst (MayBeCopied m returns t many) (d.copies.block_copies b le lt).body (d.may.inlinable.copied (o.block b) (home b le lt))) none))
        (λ s. subst (λ z. AreCopies m t u parts z × (body_of t (o.block b) ≡ map parts.originals.operation z)) (sym (same ∙ s.2)) (copies_closed s.0 s.1 s.2 y.0, body_closed s.0 s.1 s.2 y.0))
        (from_end (body_of d.copied b)))
        (λ y. subst (λ z. AreCopies m t u parts z × (body_of t (o.block b) ≡ map parts.originals.operation z)) (sym (body_on b le ∙ y.now)) (copies_led y.front y.old y.before y.new y.is_old y.is_new y.within y.returned, body_led y.front y.old y.before y.new y.is_old y.is_new y.within y.returned))
        (d.returns_led.ends b (d.all b le lt))

    pub block_copy : IsBlockCopy m t u parts b
    block_copy = record {
      live = ap is_some (parent_on b le lt);
      original = home b le lt;
      arguments = arguments_on b le lt;
      body = copies_here.1;
      operations = copies_here.0;
      fresh = fresh_argument;
    }
