-- What stays where edges forward one value more, and what each of them forwards.
use Rattle.std.proofs.Common.{◌≡◌, ◌≢◌, ◌⊎◌, inl, inr, ⊎_elim, ℕ, zero, suc, ◌+◌, ◌-◌, ◌<◌, ◌≤◌, Bool, true, false, nat_eq, if◌then◌else◌, List, [], ◌∷◌, length, map, Option, Some, None, IsSome, IsTrue, slice_get, slice_index_or, remove, refl, sym, ap, ◌∙◌, subst, arith}
use Rattle.std.specs.List.{insert}
use Rattle.std.proofs.lemmas.Bool.{cases_eq, eq-eqb}
use Rattle.std.proofs.lemmas.List.{get_or-set_other, length-set, length-map}
use Rattle.std.proofs.lemmas.List.Edits.{length-remove}
use Rattle.std.proofs.lemmas.Option.{slice_get_within}
use Rattle.pliron_core.specs.declared.uses.Use.{Use}
use Rattle.pliron_core.specs.declared.context.Def.{Def}
use Rattle.pliron_core.specs.declared.context.Def.TheVariants.{Result, Argument}
use Rattle.pliron_core.specs.Tree.{Tree, In, IsLive, IsBlock, IsDefined, IsMadeBy, no_entry, row_of, head_of, operands_of, successors_of, results_of, regions_of, definition_of}
use Rattle.pliron_core.proofs.HoldingLemmas.{some_is}
use Rattle.pliron_core.proofs.TreeLemmas.{live-within}
use Rattle.pliron_laws.specs.Datum.{Head, Shape, Meaning}
use Rattle.pliron_laws.specs.Tree.{Operation, op_at, block_at, region_at, shape_of}
use Rattle.pliron_laws.specs.Laws.{Admitted, fewer_operands, moved_up, LosesOperand, ForwardsOperands}
use Rattle.pliron_laws.specs.Answers.{HeadPasses}
use Rattle.pliron_laws.proofs.Records.{op_shows, operation_of}
use Rattle.pliron_theory.proofs.Keys.{not_is}
use Rattle.pliron_theory.proofs.ShortenedBranches.{Among, op_kept}
use Rattle.pliron_dialect_edges.specs.Lengthened.{one_more}
use Rattle.pliron_rewrite_loops.specs.Lengthening.{lengthened_at, EdgeLengthened, EdgesLengthened}
use Rattle.pliron_rewrite_loops.proofs.LengthenedBack.{row_at, operands_at, stands, shape_longer, place_fits}

-- an operand that came is one of these
in_insert : (xs : List ℕ) (i y x : ℕ) → i ≤ length xs → In x (insert xs i y) → In x xs ⊎ (x ≡ y)
in_insert xs zero y x h (inl e) = inr e
in_insert xs zero y x h (inr i) = inl i
in_insert [] (suc i) y x h j = absurd (omega (arith, h))
in_insert (z ∷ xs) (suc i) y x h (inl e) = inl (inl e)
in_insert (z ∷ xs) (suc i) y x h (inr j) = ⊎_elim (λ k. inl (inr k)) (λ e. inr e) (in_insert xs i y x (omega (arith, h)) j)

-- u differs from t in heads and operands alone
pub record IsFramed (t u : Tree) : Type 0 where
  pub tables : u ≡ record t { operations = u.operations; operands = u.operands }
  pub count : length u.operations ≡ length t.operations
  pub counted : length u.operands ≡ length t.operands
  pub results : (k : ℕ) → results_of u k ≡ results_of t k
  pub regions : (k : ℕ) → regions_of u k ≡ regions_of t k
  pub live : (k : ℕ) → IsLive t k → IsLive u k

framed_self : (t : Tree) → IsFramed t t
framed_self t = record { tables = refl; count = refl; counted = refl; results = λ k. refl; regions = λ k. refl; live = λ k l. l }

framed_on : (t s u : Tree) → IsFramed t s → IsFramed s u → IsFramed t u
framed_on t s u a b = record {
  tables = b.tables ∙ ap (λ (z : Tree). record z { operations = u.operations; operands = u.operands }) a.tables;
  count = b.count ∙ a.count;
  counted = b.counted ∙ a.counted;
  results = λ k. b.results k ∙ a.results k;
  regions = λ k. b.regions k ∙ a.regions k;
  live = λ k l. b.live k (a.live k l);
}

module _ (t u : Tree) (f : IsFramed t u) where
  pub same_successors : u.successors ≡ t.successors
  same_successors = ap (λ z. z.successors) f.tables

  pub same_arguments : u.arguments ≡ t.arguments
  same_arguments = ap (λ z. z.arguments) f.tables

  pub same_block_parents : u.block_parents ≡ t.block_parents
  same_block_parents = ap (λ z. z.block_parents) f.tables

  pub same_definitions : u.definitions ≡ t.definitions
  same_definitions = ap (λ z. z.definitions) f.tables

  pub block_kept : (b : ℕ) → IsBlock t b → IsBlock u b
  block_kept b h = subst (λ z. IsSome (slice_index_or z b None)) (sym same_block_parents) h

  pub value_kept : (v : ℕ) → IsDefined t v → IsDefined u v
  value_kept v h = subst (λ z. IsMadeBy u v (slice_get z v)) (sym same_definitions) (go (definition_of t v) h)
    where
      go : (d : Option Def) → IsMadeBy t v d → IsMadeBy u v d
      go None h = h
      go (Some (Result k i)) h = ap (λ z. slice_get z i) (f.results k) ∙ h
      go (Some (Argument b i)) h = ap (λ z. slice_get (slice_index_or z b []) i) same_arguments ∙ h

module _ (m : Meaning) (can_fold : Head → Bool) (SameTests : Head → Head → Type 0) (shortened : Shape → ℕ → ℕ → Head) (law : ForwardsOperands m can_fold SameTests shortened) (index value : ℕ) where
  -- one edge
  module _ (e : Use) (t u : Tree) (x : EdgeLengthened m shortened index value e t u) where
    lt : e.user < length t.operations
    lt = live-within t e.user (subst IsSome (sym (op_shows t e.user x.operation x.stands).head) refl)

    lt' : e.user < length t.operands
    lt' = let n = x.rows in let l = lt in omega (arith, l, n)

    pub le : x.place ≤ length (operands_of t e.user)
    le =
        let fits : x.place < length x.operation.operands + 1 = place_fits m can_fold SameTests shortened law t e.place x.place x.head x.operation x.longer in
        let n = ap length (op_shows t e.user x.operation x.stands).operands in omega (arith, fits, n)

    abbrev after : Tree
    after = lengthened_at t e.user x.place value x.head

    row_there : row_of u e.user ≡ record (row_of t e.user) { head = Some x.head }
    row_there = ap (λ z. row_of z e.user) x.is ∙ row_at t e.user x.place value x.head lt lt' le

    pub row_other : (k : ℕ) → k ≢ e.user → row_of u k ≡ row_of t k
    row_other k ne = ap (λ z. row_of z k) x.is ∙ get_or-set_other t.operations e.user k _ no_entry ne

    pub operands_there : operands_of u e.user ≡ insert (operands_of t e.user) x.place value
    operands_there = ap (λ z. operands_of z e.user) x.is ∙ operands_at t e.user x.place value x.head lt lt' le

    pub operands_other : (k : ℕ) → k ≢ e.user → operands_of u k ≡ operands_of t k
    operands_other k ne = ap (λ z. operands_of z k) x.is ∙ get_or-set_other t.operands e.user k _ [] ne

    pub framed_one : IsFramed t u
    framed_one = record {
      tables = x.is ∙ sym (ap (λ z. record t { operations = z.operations; operands = z.operands }) x.is);
      count = ap (λ z. length z.operations) x.is ∙ length-set t.operations e.user _;
      counted = ap (λ z. length z.operands) x.is ∙ length-set t.operands e.user _;
      results = λ k. ⊎_elim (λ q. ap (results_of u) q ∙ ap (λ z. z.results) row_there ∙ ap (results_of t) (sym q)) (λ ne. ap (λ z. z.results) (row_other k ne)) (cases_eq k e.user);
      regions = λ k. ⊎_elim (λ q. ap (regions_of u) q ∙ ap (λ z. z.regions) row_there ∙ ap (regions_of t) (sym q)) (λ ne. ap (λ z. z.regions) (row_other k ne)) (cases_eq k e.user);
      live = λ k l. ⊎_elim (λ q. subst (λ z. IsSome z.head) (sym (ap (row_of u) q ∙ row_there)) refl) (λ ne. subst (λ z. IsSome z.head) (sym (row_other k ne)) l) (cases_eq k e.user);
    }

    named_one : (k v : ℕ) → In v (operands_of u k) → In v (operands_of t k) ⊎ (v ≡ value)
    named_one k v i = ⊎_elim
        (λ q. ⊎_elim (λ j. inl (subst (λ z. In v (operands_of t z)) (sym q) j)) (λ z. inr z) (in_insert (operands_of t e.user) x.place value v le (subst (In v) operands_there (subst (λ z. In v (operands_of u z)) q i))))
        (λ ne. inl (subst (In v) (operands_other k ne) i))
        (cases_eq k e.user)

    pub branch_there : HeadPasses m.is_branch u e.user
    branch_there h q = subst (λ z. IsTrue (m.is_branch z)) (some_is (sym (ap (λ z. z.head) row_there) ∙ q)) x.longer.branch

    abbrev old : Shape
    old = shape_of m t x.operation

    abbrev new : Shape
    new = one_more old x.head

    pub stands_there : op_at u e.user ≡ Some (operation_of u e.user x.head)
    stands_there = subst (λ z. op_at z e.user ≡ Some (operation_of z e.user x.head)) (sym x.is) (stands t e.user x.place value x.head lt lt' le)

    pub shape_there : shape_of m u (operation_of u e.user x.head) ≡ new
    shape_there = subst (λ z. shape_of m z (operation_of z e.user x.head) ≡ new) (sym x.is) (shape_longer t e.user x.place value x.head lt lt' le m x.operation x.stands x.branch x.longer.branch)

    pub op_other : (k : ℕ) → k ≢ e.user → op_at u k ≡ op_at t k
    op_other k ne = op_kept t u k (row_other k ne) (operands_other k ne) (ap (λ z. slice_index_or z k []) (same_successors t u framed_one)) (ap (λ z. slice_index_or z.parents k None) framed_one.tables)

    pub shape_other : (o : Operation) → shape_of m u o ≡ shape_of m t o
    unfolding shape_of block_at region_at
    shape_other o = subst (λ z. shape_of m z o ≡ shape_of m t o) (sym x.is) (same o)
      where
        same : (o : Operation) → shape_of m after o ≡ shape_of m t o
        same o = refl

    module _ (block : ℕ) (listed : slice_get (successors_of t e.user) e.place ≡ Some block) where
      has_edge : e.place < new.successors
      unfolding shape_of
      has_edge = edges (slice_get_within (successors_of t e.user) e.place block listed)
        where
          edges : e.place < length (successors_of t e.user) → e.place < (shape_of m t x.operation).successors
          edges l = subst (λ z. e.place < length z) (op_shows t e.user x.operation x.stands).successors l

      last : ℕ
      last = length (m.forwarded old e.place)

      loses : LosesOperand m SameTests new e.place (length (m.forwarded old e.place)) x.place (shortened new e.place (length (m.forwarded old e.place)))
      loses = law.removal new x.longer.admitted x.longer.branch e.place (length (m.forwarded old e.place)) x.place has_edge x.longer.last

      was : fewer_operands new (shortened new e.place (length (m.forwarded old e.place))) ≡ old
      was = ap (fewer_operands new) x.longer.back ∙ ap (λ n. record old { operands = n }) (less old.operands)
        where
          less : (n : ℕ) → n + 1 - 1 ≡ n
          less n = omega arith

      lengths : (i : ℕ) (b : Bool) → nat_eq i e.place ≡ b → length (m.forwarded old i) ≡ length (if b then remove (m.forwarded new i) (length (m.forwarded old e.place)) else m.forwarded new i)
      lengths i b q = ap (λ z. length (m.forwarded z i)) (sym was) ∙ ap length (loses.same_edges i) ∙ length-map _ (moved_up x.place) ∙ ap (λ z. length (if z then remove (m.forwarded new i) (length (m.forwarded old e.place)) else m.forwarded new i)) q

      -- what is forwarded along another edge stands one further where it stood behind
      pub places_other : (i : ℕ) → i ≢ e.place → m.forwarded old i ≡ map (moved_up x.place) (m.forwarded new i)
      places_other i ne = ap (λ z. m.forwarded z i) (sym was) ∙ loses.same_edges i ∙ ap (λ z. map (moved_up x.place) (if z then remove (m.forwarded new i) (length (m.forwarded old e.place)) else m.forwarded new i)) (not_is i e.place (λ q. ne (sym q)))

      pub length_other : (i : ℕ) → i ≢ e.place → length (m.forwarded new i) ≡ length (m.forwarded old i)
      length_other i ne = sym (lengths i false (not_is i e.place (λ q. ne (sym q))))

      pub length_there : length (m.forwarded new e.place) ≡ index + 1
      length_there =
          let long = slice_get_within (m.forwarded new e.place) (length (m.forwarded old e.place)) x.place x.longer.last in
          let fewer = lengths e.place true (eq-eqb e.place e.place refl) in
          let less = length-remove (m.forwarded new e.place) (length (m.forwarded old e.place)) long in
          let many = x.count in omega (arith, fewer, less, many)

  -- all of them
  pub framed : (edges : List Use) (t u : Tree) → EdgesLengthened m shortened index value edges t u → IsFramed t u
  framed [] t u x = subst (IsFramed t) (sym x) (framed_self t)
  framed (e ∷ es) t u x = framed_on t x.0 u (framed es t x.0 x.1) (framed_one e x.0 u x.2)

  pub named : (edges : List Use) (t u : Tree) → EdgesLengthened m shortened index value edges t u → (k v : ℕ) → In v (operands_of u k) → In v (operands_of t k) ⊎ (v ≡ value)
  named [] t u x k v i = inl (subst (λ z. In v (operands_of z k)) x i)
  named (e ∷ es) t u x k v i = ⊎_elim (λ j. named es t x.0 x.1 k v j) (λ q. inr q) (named_one e x.0 u x.2 k v i)

  -- the operations of these edges are branches after
  pub branches : (edges : List Use) (t u : Tree) → EdgesLengthened m shortened index value edges t u → (k i : ℕ) → Among k i edges → HeadPasses m.is_branch u k
  branches [] t u x k i (n, a) = absurd (grind (arith, a))
  branches (e ∷ es) t u x k i a = ⊎_elim
      (λ q. subst (HeadPasses m.is_branch u) (sym q) (branch_there e x.0 u x.2))
      (λ ne. λ h hd. branches es t x.0 x.1 k i (behind ne a) h (ap (λ z. z.head) (sym (row_other e x.0 u x.2 k ne)) ∙ hd))
      (cases_eq k e.user)
    where
      behind : k ≢ e.user → Among k i (e ∷ es) → Among k i es
      behind ne (zero, q) = absurd (ne (sym (ap (λ z. z.user) (some_is q))))
      behind ne (suc n, q) = (n, q)

  -- and were so before
  pub branch_before : (edges : List Use) (t u : Tree) → EdgesLengthened m shortened index value edges t u → (k : ℕ) → HeadPasses m.is_branch u k → HeadPasses m.is_branch t k
  branch_before [] t u x k b = subst (λ z. HeadPasses m.is_branch z k) x b
  branch_before (e ∷ es) t u x k b = branch_before es t x.0 x.1 k (λ h hd. ⊎_elim
      (λ q. subst (λ z. IsTrue (m.is_branch z)) (some_is (sym (op_shows x.0 e.user x.2.operation x.2.stands).head ∙ ap (head_of x.0) (sym q) ∙ hd)) x.2.branch)
      (λ ne. b h (ap (λ z. z.head) (row_other e x.0 u x.2 k ne) ∙ hd))
      (cases_eq k e.user))

  -- an admitted branch is still one, and forwards one value more along these edges alone
  pub record IsLonger (t u : Tree) (k : ℕ) (o : Operation) (edges : List Use) : Type 0 where
    pub now : Operation
    pub liveness : op_at u k ≡ Some now
    pub admitted : Admitted m (shape_of m u now)
    pub branch : IsTrue (m.is_branch now.head)
    pub longer : (i : ℕ) → Among k i edges → length (m.forwarded (shape_of m u now) i) ≡ index + 1
    pub same : (i : ℕ) → (Among k i edges → ⊥) → length (m.forwarded (shape_of m u now) i) ≡ length (m.forwarded (shape_of m t o) i)

  abbrev AreListed : Tree → ℕ → List Use → Type 0
  AreListed t block edges = (n : ℕ) (e : Use) → slice_get edges n ≡ Some e → slice_get (successors_of t e.user) e.place ≡ Some block

  module _ (block k : ℕ) (e : Use) (es : List Use) (t s u : Tree) (o : Operation) (x : EdgeLengthened m shortened index value e s u) (y : IsLonger t s k o es) where
    longer_own : k ≡ e.user → slice_get (successors_of s e.user) e.place ≡ Some block → IsLonger t u k o (e ∷ es)
    longer_own q listed = record {
      now = operation_of u e.user x.head;
      liveness = ap (op_at u) q ∙ stands_there e s u x;
      admitted = subst (Admitted m) (sym (shape_there e s u x)) x.longer.admitted;
      branch = x.longer.branch;
      longer = λ i a. ap (λ z. length (m.forwarded z i)) (shape_there e s u x) ∙ ⊎_elim
          (λ p. ap (λ z. length (m.forwarded (new e s u x) z)) p ∙ length_there e s u x block listed)
          (λ ne. length_other e s u x block listed i ne ∙ was_now i ∙ y.longer i (behind i ne a))
          (cases_eq i e.place);
      same = λ i n. ap (λ z. length (m.forwarded z i)) (shape_there e s u x) ∙ length_other e s u x block listed i (λ p. n (zero, ap Some (sym (here i p)))) ∙ was_now i ∙ y.same i (λ a. n (suc a.0, a.1));
    }
      where
        is : y.now ≡ x.operation
        is = some_is (sym y.liveness ∙ ap (op_at s) q ∙ x.stands)

        was_now : (i : ℕ) → length (m.forwarded (shape_of m s x.operation) i) ≡ length (m.forwarded (shape_of m s y.now) i)
        was_now i = ap (λ z. length (m.forwarded (shape_of m s z) i)) (sym is)

        use_is : (a a' b b' : ℕ) → a ≡ a' → b ≡ b' → ◌≡◌ {A = Use} (record { user = a; place = b }) (record { user = a'; place = b' })
        use_is a a' b b' p r = cc

        here : (i : ℕ) → i ≡ e.place → ◌≡◌ {A = Use} (record { user = k; place = i }) e
        here i p = use_is k e.user i e.place q p

        behind : (i : ℕ) → i ≢ e.place → Among k i (e ∷ es) → Among k i es
        behind i ne (zero, r) = absurd (ne (sym (ap (λ z. z.place) (some_is r))))
        behind i ne (suc n, r) = (n, r)

    longer_other : k ≢ e.user → IsLonger t u k o (e ∷ es)
    longer_other ne = record {
      now = y.now;
      liveness = op_other e s u x k ne ∙ y.liveness;
      admitted = subst (Admitted m) (sym (shape_other e s u x y.now)) y.admitted;
      branch = y.branch;
      longer = λ i a. ap (λ z. length (m.forwarded z i)) (shape_other e s u x y.now) ∙ y.longer i (behind i a);
      same = λ i n. ap (λ z. length (m.forwarded z i)) (shape_other e s u x y.now) ∙ y.same i (λ a. n (suc a.0, a.1));
    }
      where
        behind : (i : ℕ) → Among k i (e ∷ es) → Among k i es
        behind i (zero, r) = absurd (ne (sym (ap (λ z. z.user) (some_is r))))
        behind i (suc n, r) = (n, r)

  pub is_longer : (block : ℕ) (edges : List Use) (t u : Tree) → AreListed t block edges → EdgesLengthened m shortened index value edges t u → (k : ℕ) (o : Operation) → op_at t k ≡ Some o → Admitted m (shape_of m t o) → IsTrue (m.is_branch o.head) → IsLonger t u k o edges
  is_longer block [] t u listed x k o oe a b = subst (λ z. IsLonger t z k o []) (sym x) (record { now = o; liveness = oe; admitted = a; branch = b; longer = λ i p. absurd (none i p); same = λ i n. refl })
    where
      none : (i : ℕ) → Among k i [] → ⊥
      none i (n, p) = absurd (grind (arith, p))
  is_longer block (e ∷ es) t u listed x k o oe a b =
      let y = is_longer block es t x.0 (λ n. listed (suc n)) x.1 k o oe a b in
      ⊎_elim
      (λ q. longer_own block k e es t x.0 u o x.2 y q (ap (λ z. slice_get (slice_index_or z e.user []) e.place) (same_successors t x.0 (framed es t x.0 x.1)) ∙ listed zero e refl))
      (λ ne. longer_other block k e es t x.0 u o x.2 y ne)
      (cases_eq k e.user)
