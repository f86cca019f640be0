-- Lists of what is asked, as they grow.
use Rattle.std.proofs.Common.{◌≡◌, ◌↔◌, ◌⊎◌, inl, inr, ⊎_elim, ℕ, zero, suc, ◌+◌, ◌<◌, ◌≤◌, Bool, true, false, true≢false, nat_eq, if◌then◌else◌, List, [], ◌∷◌, ◌++◌, length, take, add-one, Option, Some, None, IsSome, slice_get, refl, sym, ap, ◌∙◌, subst, arith, IsTrue}
use Rattle.std.proofs.lemmas.Bool.{eqb-true, eq-eqb}
use Rattle.pliron_core.specs.declared.attrs.AttrObj.{AttrObj}
use Rattle.pliron_core.proofs.ArgumentLemmas.{take_more}
use Rattle.pliron_core.proofs.HoldingLemmas.{some_is, in_slice, slice_in, not_none}
use Rattle.pliron_core.specs.Tree.{Tree, In, arguments_of, layout_of, first_of}
use Rattle.pliron_laws.specs.Datum.{Head}
use Rattle.pliron_laws.specs.Tree.{Operation, shape_of}
use Rattle.pliron_theory.specs.LatticeValues.{LatticeValue, Undetermined, Constant, NotAConstant, AtMost, LatticeValues, Says, lattice_constant, operand_constants, value_of_answer, IsEntryExecutable, IsBelowNamed, AreBelowNamed}
use Rattle.pliron_opt_sccp.specs.declared.constraints.Constraint.{Constraint}
use Rattle.pliron_opt_sccp.specs.declared.constraints.Constraint.TheVariants.{Enter, Lower, Answer}
use Rattle.pliron_opt_sccp.specs.declared.lattice_tables.LatticeCell.{LatticeCell}
use Rattle.pliron_opt_sccp.specs.declared.lattice_tables.LatticeCell.TheVariants.{NotAConstant as Varying}
use Rattle.pliron_opt_sccp.specs.LatticeCells.{Means}
use Rattle.pliron_opt_sccp.proofs.Written.{means_same}
use Rattle.pliron_opt_sccp.specs.Constraints.{Satisfies, SatisfiesAll, Adds, EachBefore, IsNotConstant, EntryIsExecutable, GetsForwarded, GetsNamed, InvocationIsExecutable, ConstrainsInvocations, ConstrainsAnswers, ConstrainsResults, ConstrainsForwarded}

pub past : (ys : List ℕ) (j x : ℕ) → slice_get ys j ≡ Some x → j < length ys
past [] j x e = absurd (not_none e)
past (y ∷ ys) zero x e = omega arith
past (y ∷ ys) (suc j) x e = let l = past ys j x e in omega (arith, l)

past_answer : (ys : List (Option AttrObj)) (j : ℕ) (x : Option AttrObj) → slice_get ys j ≡ Some x → j < length ys
past_answer [] j x e = absurd (not_none e)
past_answer (y ∷ ys) zero x e = omega arith
past_answer (y ∷ ys) (suc j) x e = let l = past_answer ys j x e in omega (arith, l)

handed_append : (f : LatticeValues) (xs : List ℕ) (x : ℕ) → operand_constants f (xs ++ x ∷ []) ≡ operand_constants f xs ++ lattice_constant (f.lattice_value x) ∷ []
handed_append f [] x = refl
handed_append f (y ∷ xs) x = ap (λ z. lattice_constant (f.lattice_value y) ∷ z) (handed_append f xs x)

pub handed_more : (f : LatticeValues) (xs : List ℕ) (i x : ℕ) (before after : List (Option AttrObj)) (a : Option AttrObj) → slice_get xs i ≡ Some x → before ≡ operand_constants f (take i xs) → a ≡ lattice_constant (f.lattice_value x) → after ≡ before ++ a ∷ [] → after ≡ operand_constants f (take (i + 1) xs)
handed_more f xs i x before after a at so_far is grown =
    grown ∙ ap (λ z. z ++ a ∷ []) so_far ∙ ap (λ z. operand_constants f (take i xs) ++ z ∷ []) is ∙ sym (handed_append f (take i xs) x) ∙ ap (operand_constants f) (sym (take_more xs i x at)) ∙ ap (λ n. operand_constants f (take n xs)) (sym (add-one i))

-- what is known, added to nothing
pub known_alone : (f : LatticeValues) (xs : List ℕ) (old new : List (Option AttrObj)) → old ≡ [] → new ≡ old ++ operand_constants f xs → new ≡ operand_constants f xs
known_alone f xs old new none added = added ∙ ap (λ z. z ++ operand_constants f xs) none

-- what stands at a place in a list, and a list from which nothing can be popped
pub get_amid : (xs : List (Option AttrObj)) (a : Option AttrObj) (ys : List (Option AttrObj)) → slice_get ((xs ++ a ∷ []) ++ ys) (length xs) ≡ Some a
get_amid [] a ys = refl
get_amid (x ∷ xs) a ys = get_amid xs a ys

pub none_empty : {A : Type 0} (r : Option A) (n : ℕ) → r ≡ None → (IsSome r ↔ (0 < n)) → n ≡ 0
none_empty None zero e f = refl
none_empty None (suc n) e f = absurd (true≢false (sym (f.1 (omega arith))))
none_empty (Some x) n e f = absurd (not_none (sym e))

module _ (constants : List AttrObj) where
  meets_append : (now : LatticeValues) (ds : List Constraint) (d : Constraint) → SatisfiesAll constants now (ds ++ d ∷ []) ↔ (SatisfiesAll constants now ds × Satisfies constants now d)
  meets_append now [] d = (λ m. (tt, m.0), λ m. (m.1, tt))
  meets_append now (e ∷ ds) d =
      let rest = meets_append now ds d in
      (λ m. let r = rest.0 m.1 in ((m.0, r.0), r.1), λ m. (m.0.0, rest.1 (m.0.1, m.1)))

  pub adds_one : (ds es : List Constraint) (d : Constraint) → es ≡ ds ++ d ∷ [] → Adds constants ds es (λ now. Satisfies constants now d)
  adds_one ds es d e now = subst (λ z. SatisfiesAll constants now z ↔ (SatisfiesAll constants now ds × Satisfies constants now d)) (sym e) (meets_append now ds d)

  pub adds_then : (P Q R : LatticeValues → Type 0) (a b c : List Constraint) → Adds constants a b P → Adds constants b c Q → ((now : LatticeValues) → (P now × Q now) ↔ R now) → Adds constants a c R
  adds_then P Q R a b c p q both now = (
    λ m. let y = (q now).0 m in let z = (p now).0 y.0 in (z.0, (both now).0 (z.1, y.1)),
    λ m. let r = (both now).1 m.1 in (q now).1 ((p now).1 (m.0, r.0), r.1),
  )

  pub adds_as : (P R : LatticeValues → Type 0) (a b : List Constraint) → Adds constants a b P → ((now : LatticeValues) → P now ↔ R now) → Adds constants a b R
  adds_as P R a b p same now = (λ m. let z = (p now).0 m in (z.0, (same now).0 z.1), λ m. (p now).1 (m.0, (same now).1 m.1))

  -- loops over a list
  module _ (xs : List ℕ) (Q : LatticeValues → ℕ → ℕ → Type 0) where
    abbrev pub So : ℕ → LatticeValues → Type 0
    So i now = EachBefore xs i (Q now)

    pub adds_start : (a : List Constraint) → Adds constants a a (So 0)
    adds_start a now = (λ m. (m, λ j x lt at. absurd (omega (arith, lt))), λ m. m.0)

    pub more : (now : LatticeValues) (i x : ℕ) → slice_get xs i ≡ Some x → (So i now × Q now i x) ↔ So (i + 1) now
    more now i x at = (
      λ m j y lt is. ⊎_elim (λ below. m.0 j y below is) (λ here. last m.1 j y here is) (split j lt),
      λ all. (λ j y lt is. all j y (omega (arith, lt)) is, all i x (omega arith) at),
    )
      where
        split : (j : ℕ) → j < i + 1 → (j < i) ⊎ (j ≡ i)
        split j lt = elim (below_or j i lt) [ inl a ↦ inl a | inr b ↦ inr b ]
          where
            below_or : (j i : ℕ) → j < i + 1 → (j < i) ⊎ (j ≡ i)
            below_or zero zero l = inr refl
            below_or zero (suc i) l = inl (omega arith)
            below_or (suc j) zero l = absurd (omega (arith, l))
            below_or (suc j) (suc i) l = ⊎_elim (λ a. inl (omega (arith, a))) (λ b. inr (ap (λ n. suc n) b)) (below_or j i (omega (arith, l)))

        last : Q now i x → (j y : ℕ) → j ≡ i → slice_get xs j ≡ Some y → Q now j y
        last q j y here is =
            let same : x ≡ y = some_is (sym at ∙ ap (slice_get xs) (sym here) ∙ is) in
            subst (λ z. Q now z y) (sym here) (subst (Q now i) same q)

    pub adds_next : (i x : ℕ) (a b c : List Constraint) → slice_get xs i ≡ Some x → Adds constants a b (So i) → Adds constants b c (λ now. Q now i x) → Adds constants a c (So (i + 1))
    adds_next i x a b c at p q = adds_then (So i) (λ now. Q now i x) (So (i + 1)) a b c p q (λ now. more now i x at)

    -- where nothing has to be asked
    pub adds_over : (i x : ℕ) (a b : List Constraint) → slice_get xs i ≡ Some x → Adds constants a b (So i) → ((now : LatticeValues) → Q now i x) → Adds constants a b (So (i + 1))
    adds_over i x a b at p holds = adds_as (So i) (So (i + 1)) a b p (λ now. (λ m. (more now i x at).0 (m, holds now), λ m. ((more now i x at).1 m).0))

    pub adds_end : (i : ℕ) (a b : List Constraint) → length xs ≤ i → Adds constants a b (So i) → Adds constants a b (λ now. (j x : ℕ) → slice_get xs j ≡ Some x → Q now j x)
    adds_end i a b all p = adds_as (So i) (λ now. (j x : ℕ) → slice_get xs j ≡ Some x → Q now j x) a b p
        (λ now. (λ m j x at. m j x (let l = past xs j x at in omega (arith, all, l)) at, λ m j x lt at. m j x at))

    -- said of the items alone
    pub each_in : (now : LatticeValues) (R : ℕ → Type 0) → ((j x : ℕ) → Q now j x ↔ R x) → ((j x : ℕ) → slice_get xs j ≡ Some x → Q now j x) ↔ ((x : ℕ) → In x xs → R x)
    each_in now R same = (λ m x i. let s = slice_in xs x i in (same s.0 x).0 (m s.0 x s.1), λ m j x at. (same j x).1 (m x (in_slice xs j x at)))

  -- what one more thing asks
  pub adds_unknown : (ds es : List Constraint) (v : ℕ) → es ≡ ds ++ Lower v Varying ∷ [] → Adds constants ds es (λ now. now.lattice_value v ≡ NotAConstant)
  adds_unknown ds es v e = adds_as (λ now. Satisfies constants now (Lower v Varying)) (λ now. now.lattice_value v ≡ NotAConstant) ds es (adds_one ds es (Lower v Varying) e)
      (λ now. (λ m. lowest (now.lattice_value v) (subst (AtMost (now.lattice_value v)) m.1 m.2), λ n. (NotAConstant, refl, inr (inl n))))
    where
      never : NotAConstant ≡ Undetermined → ⊥
      never u = grind (arith, u)

      lowest : (f : LatticeValue) → AtMost f NotAConstant → f ≡ NotAConstant
      lowest f (inl u) = absurd (never u)
      lowest f (inr (inl n)) = n
      lowest f (inr (inr n)) = n

  -- all items are asked not to be constants
  pub unknown_asked : (vs : List ℕ) (i : ℕ) (a b : List Constraint) → length vs ≤ i → Adds constants a b (λ now. EachBefore vs i (IsNotConstant now)) → Adds constants a b (λ now. (v : ℕ) → In v vs → now.lattice_value v ≡ NotAConstant)
  unknown_asked vs i a b all p =
      adds_as (λ now. (j v : ℕ) → slice_get vs j ≡ Some v → now.lattice_value v ≡ NotAConstant) (λ now. (v : ℕ) → In v vs → now.lattice_value v ≡ NotAConstant) a b
      (adds_end vs (λ now j v. now.lattice_value v ≡ NotAConstant) i a b all p)
      (λ now. each_in vs (λ z j v. z.lattice_value v ≡ NotAConstant) now (λ v. now.lattice_value v ≡ NotAConstant) (λ j v. (λ m. m, λ m. m)))

  pub entry_asked : (vs : List ℕ) (block i : ℕ) (a b c : List Constraint) → b ≡ a ++ Enter block ∷ [] → length vs ≤ i → Adds constants b c (λ now. EachBefore vs i (IsNotConstant now)) → Adds constants a c (λ now. IsTrue (now.is_executable block) × ((v : ℕ) → In v vs → now.lattice_value v ≡ NotAConstant))
  entry_asked vs block i a b c e all p =
      adds_then (λ now. IsTrue (now.is_executable block)) (λ now. (v : ℕ) → In v vs → now.lattice_value v ≡ NotAConstant) (λ now. IsTrue (now.is_executable block) × ((v : ℕ) → In v vs → now.lattice_value v ≡ NotAConstant)) a b c
      (adds_one a b (Enter block) e)
      (unknown_asked vs i b c all p)
      (λ now. (λ m. m, λ m. m))

  pub nothing_asked : (P : LatticeValues → Type 0) (a : List Constraint) → ((now : LatticeValues) → P now) → Adds constants a a P
  nothing_asked P a holds now = (λ m. (m, holds now), λ m. m.0)

  pub entries_asked : (t : Tree) (rs : List ℕ) (i : ℕ) (a b : List Constraint) → length rs ≤ i → Adds constants a b (λ now. EachBefore rs i (EntryIsExecutable t now)) → Adds constants a b (λ now. (r e : ℕ) → In r rs → first_of (layout_of t r) None ≡ Some e → IsEntryExecutable t now e)
  entries_asked t rs i a b all p =
      adds_as (λ now. (j r : ℕ) → slice_get rs j ≡ Some r → EntryIsExecutable t now j r) (λ now. (r e : ℕ) → In r rs → first_of (layout_of t r) None ≡ Some e → IsEntryExecutable t now e) a b
      (adds_end rs (λ now j r. EntryIsExecutable t now j r) i a b all p)
      (λ now. (λ m r e k at. let s = slice_in rs r k in m s.0 r s.1 e at, λ m j r at e is. m r e (in_slice rs j r at) is))

  -- the answer for one result
  pub constant_asked : (ds es : List Constraint) (v : ℕ) (c : AttrObj) → es ≡ ds ++ Answer v c ∷ [] → Adds constants ds es (λ now. AtMost (now.lattice_value v) (Constant c))
  constant_asked ds es v c e = adds_one ds es (Answer v c) e

  pub varying_asked : (ds es : List Constraint) (v : ℕ) → es ≡ ds ++ Lower v Varying ∷ [] → Adds constants ds es (λ now. AtMost (now.lattice_value v) NotAConstant)
  varying_asked ds es v e = adds_as (λ now. Satisfies constants now (Lower v Varying)) (λ now. AtMost (now.lattice_value v) NotAConstant) ds es (adds_one ds es (Lower v Varying) e)
      (λ now. (λ m. subst (AtMost (now.lattice_value v)) m.1 m.2, λ n. (NotAConstant, refl, n)))

  pub result_asked : (results : List ℕ) (i v : ℕ) (a : Option AttrObj) (ds es : List Constraint) → slice_get results i ≡ Some v → Adds constants ds es (λ now. AtMost (now.lattice_value v) (value_of_answer a)) → Adds constants ds es (λ now. (w : ℕ) → slice_get results i ≡ Some w → AtMost (now.lattice_value w) (value_of_answer a))
  result_asked results i v a ds es at p =
      adds_as (λ now. AtMost (now.lattice_value v) (value_of_answer a)) (λ now. (w : ℕ) → slice_get results i ≡ Some w → AtMost (now.lattice_value w) (value_of_answer a)) ds es p
      (λ now. (λ m w is. subst (λ z. AtMost (now.lattice_value z) (value_of_answer a)) (some_is (sym at ∙ is)) m, λ m. m v at))

  pub no_result_asked : (results : List ℕ) (i : ℕ) (a : Option AttrObj) (ds : List Constraint) → length results ≤ i → Adds constants ds ds (λ now. (w : ℕ) → slice_get results i ≡ Some w → AtMost (now.lattice_value w) (value_of_answer a))
  no_result_asked results i a ds all = nothing_asked (λ now. (w : ℕ) → slice_get results i ≡ Some w → AtMost (now.lattice_value w) (value_of_answer a)) ds
      (λ now w is. let l = past results i w is in absurd (omega (arith, all, l)))

  -- all answers, the last one first: those from index i on are asked for
  abbrev pub AnsweredFrom : List ℕ → List (Option AttrObj) → ℕ → LatticeValues → Type 0
  AnsweredFrom results answers i now = (j v : ℕ) (a : Option AttrObj) → i ≤ j → slice_get results j ≡ Some v → slice_get answers j ≡ Some a → AtMost (now.lattice_value v) (value_of_answer a)

  pub answers_start : (results : List ℕ) (answers : List (Option AttrObj)) (ds : List Constraint) → Adds constants ds ds (AnsweredFrom results answers (length answers))
  answers_start results answers ds = nothing_asked (AnsweredFrom results answers (length answers)) ds
      (λ now j v a from at is. let l = past_answer answers j a is in absurd (omega (arith, from, l)))

  pub answers_next : (results : List ℕ) (answers : List (Option AttrObj)) (i n : ℕ) (a : Option AttrObj) (ds es fs : List Constraint) → n ≡ i + 1 → slice_get answers i ≡ Some a → Adds constants ds es (AnsweredFrom results answers n) → Adds constants es fs (λ now. (w : ℕ) → slice_get results i ≡ Some w → AtMost (now.lattice_value w) (value_of_answer a)) → Adds constants ds fs (AnsweredFrom results answers i)
  answers_next results answers i n a ds es fs next is p q =
      adds_then (AnsweredFrom results answers n) (λ now. (w : ℕ) → slice_get results i ≡ Some w → AtMost (now.lattice_value w) (value_of_answer a)) (AnsweredFrom results answers i) ds es fs p q
      (λ now. (
        λ m j v b from at said. ⊎_elim
            (λ later. m.0 j v b (omega (arith, later, next)) at said)
            (λ here. subst (λ z. AtMost (now.lattice_value v) (value_of_answer z)) (some_is (sym is ∙ ap (slice_get answers) here ∙ said)) (m.1 v (ap (slice_get results) here ∙ at)))
            (or_later i j from),
        λ m. (λ j v b from at said. m j v b (omega (arith, from, next)) at said, λ w at. m i w a (omega arith) at is),
      ))
    where
      or_later : (i j : ℕ) → i ≤ j → (i + 1 ≤ j) ⊎ (i ≡ j)
      or_later zero zero l = inr refl
      or_later zero (suc j) l = inl (omega arith)
      or_later (suc i) zero l = absurd (omega (arith, l))
      or_later (suc i) (suc j) l = ⊎_elim (λ a. inl (omega (arith, a))) (λ b. inr (ap (λ n. suc n) b)) (or_later i j (omega (arith, l)))

  pub answers_end : (results : List ℕ) (answers : List (Option AttrObj)) (i : ℕ) (ds es : List Constraint) → i ≡ 0 → Adds constants ds es (AnsweredFrom results answers i) → Adds constants ds es (ConstrainsAnswers results answers)
  answers_end results answers i ds es none p =
      adds_as (AnsweredFrom results answers i) (ConstrainsAnswers results answers) ds es p
      (λ now. (λ m j v a at is. m j v a (omega (arith, none)) at is, λ m j v a from at is. m j v a at is))

  -- what an operation asks of its results
  pub folding_asked : (can_fold : Head → Bool) (answers : List (Option AttrObj)) (o : Operation) (a b : List Constraint) → can_fold o.head ≡ true → Adds constants a b (ConstrainsAnswers o.results answers) → Adds constants a b (ConstrainsResults can_fold answers o)
  folding_asked can_fold answers o a b folds p =
      adds_as (ConstrainsAnswers o.results answers) (ConstrainsResults can_fold answers o) a b p
      (λ now. (λ m. (λ yes. m, λ none v k. absurd (true≢false (sym folds ∙ none))), λ m. m.0 folds))

  pub others_asked : (can_fold : Head → Bool) (answers : List (Option AttrObj)) (o : Operation) (a b : List Constraint) → can_fold o.head ≡ false → Adds constants a b (λ now. (v : ℕ) → In v o.results → now.lattice_value v ≡ NotAConstant) → Adds constants a b (ConstrainsResults can_fold answers o)
  others_asked can_fold answers o a b none p =
      adds_as (λ now. (v : ℕ) → In v o.results → now.lattice_value v ≡ NotAConstant) (ConstrainsResults can_fold answers o) a b p
      (λ now. (λ m. (λ yes. absurd (true≢false (sym yes ∙ none)), λ same. m), λ m. m.1 none))

  pub region_asked : (t : Tree) (r e : ℕ) (a b : List Constraint) → first_of (layout_of t r) None ≡ Some e → Adds constants a b (λ now. IsEntryExecutable t now e) → Adds constants a b (λ now. EntryIsExecutable t now 0 r)
  region_asked t r e a b is p =
      adds_as (λ now. IsEntryExecutable t now e) (λ now. EntryIsExecutable t now 0 r) a b p
      (λ now. (λ m x at. subst (IsEntryExecutable t now) (some_is (sym is ∙ at)) m, λ m. m e is))

  -- what an edge forwards
  pub forward_asked : (f : LatticeValues) (values : List ℕ) (j v w : ℕ) (cell : LatticeCell) (ds es : List Constraint) → slice_get values j ≡ Some w → ((y : ℕ) → slice_get values j ≡ Some y → Means constants cell (f.lattice_value y)) → es ≡ ds ++ Lower v cell ∷ [] → Adds constants ds es (λ now. GetsForwarded f values now j v)
  forward_asked f values j v w cell ds es is said e =
      adds_as (λ now. Satisfies constants now (Lower v cell)) (λ now. GetsForwarded f values now j v) ds es (adds_one ds es (Lower v cell) e)
      (λ now. (λ m y at. subst (AtMost (now.lattice_value v)) (means_same constants cell m.0 (f.lattice_value y) m.1 (said y at)) m.2, λ g. (f.lattice_value w, said w is, g w is)))

  -- what an operation names for an argument of an entry: a value, or none
  module _ (x : Says) (t : Tree) (f : LatticeValues) (o : Operation) (i j v : ℕ) where
    pub named_asked : (operands : List ℕ) (p : ℕ) (a b : List Constraint) → operands ≡ o.operands → Some p ≡ x.entry_operands (shape_of x.meaning t o) i j → Adds constants a b (λ now. GetsForwarded f operands now p v) → Adds constants a b (λ now. GetsNamed x t f o i now j v)
    named_asked operands p a b same named adds =
        subst (λ z. Adds constants a b (λ now. IsBelowNamed now.lattice_value f.lattice_value o.operands z v)) named
        (subst (λ z. Adds constants a b (λ now. GetsForwarded f z now p v)) same adds)

    pub unnamed_asked : (a b : List Constraint) → None ≡ x.entry_operands (shape_of x.meaning t o) i j → Adds constants a b (λ now. now.lattice_value v ≡ NotAConstant) → Adds constants a b (λ now. GetsNamed x t f o i now j v)
    unnamed_asked a b named adds = subst (λ z. Adds constants a b (λ now. IsBelowNamed now.lattice_value f.lattice_value o.operands z v)) named adds

  -- all arguments of an entry, and all entries
  module _ (x : Says) (t : Tree) (f : LatticeValues) (o : Operation) where
    pub named_entry_asked : (region block i : ℕ) (a b c : List Constraint) → b ≡ a ++ Enter block ∷ [] → length (arguments_of t block) ≤ i → Adds constants b c (λ now. EachBefore (arguments_of t block) i (GetsNamed x t f o region now)) → Adds constants a c (λ now. IsTrue (now.is_executable block) × AreBelowNamed x t now.lattice_value f.lattice_value o region block)
    named_entry_asked region block i a b c e all p =
        adds_then (λ now. IsTrue (now.is_executable block)) (λ now. AreBelowNamed x t now.lattice_value f.lattice_value o region block) (λ now. IsTrue (now.is_executable block) × AreBelowNamed x t now.lattice_value f.lattice_value o region block) a b c
        (adds_one a b (Enter block) e)
        (adds_end (arguments_of t block) (λ now j v. GetsNamed x t f o region now j v) i b c all p)
        (λ now. (λ m. m, λ m. m))

    pub visit_asked : (region r e : ℕ) (a b : List Constraint) → first_of (layout_of t r) None ≡ Some e → Adds constants a b (λ now. IsTrue (now.is_executable e) × AreBelowNamed x t now.lattice_value f.lattice_value o region e) → Adds constants a b (λ now. InvocationIsExecutable x t f o now region r)
    visit_asked region r e a b is p =
        adds_as (λ now. IsTrue (now.is_executable e) × AreBelowNamed x t now.lattice_value f.lattice_value o region e) (λ now. InvocationIsExecutable x t f o now region r) a b p
        (λ now. (λ m z at. subst (λ y. IsTrue (now.is_executable y) × AreBelowNamed x t now.lattice_value f.lattice_value o region y) (some_is (sym is ∙ at)) m, λ m. m e is))

    pub visits_asked : (rs : List ℕ) (i : ℕ) (a b : List Constraint) → rs ≡ o.regions → length rs ≤ i → Adds constants a b (λ now. EachBefore rs i (InvocationIsExecutable x t f o now)) → Adds constants a b (λ now. ConstrainsInvocations x t f o now)
    visits_asked rs i a b same all p =
        adds_as (λ now. (j r : ℕ) → slice_get rs j ≡ Some r → InvocationIsExecutable x t f o now j r) (λ now. ConstrainsInvocations x t f o now) a b
        (adds_end rs (λ now j r. InvocationIsExecutable x t f o now j r) i a b all p)
        (λ now. (
          λ m j r e at is. m j r (ap (λ l. slice_get l j) same ∙ at) e is,
          λ m j r at e is. m j r e (ap (λ l. slice_get l j) (sym same) ∙ at) is,
        ))

  -- one argument of one successor
  module _ (arguments : ℕ → List ℕ) (successors : List ℕ) (edge index block : ℕ) (f : LatticeValue) where
    abbrev pub AsksOne : LatticeValues → Type 0
    AsksOne now = (b a : ℕ) → slice_get successors edge ≡ Some b → slice_get (arguments b) index ≡ Some a → AtMost (now.lattice_value a) f

  pub one_asked : (arguments : ℕ → List ℕ) (successors : List ℕ) (edge index block v : ℕ) (cell : LatticeCell) (f : LatticeValue) (ds es : List Constraint) → slice_get successors edge ≡ Some block → slice_get (arguments block) index ≡ Some v → Means constants cell f → es ≡ ds ++ Lower v cell ∷ [] → Adds constants ds es (AsksOne arguments successors edge index block f)
  one_asked arguments successors edge index block v cell f ds es goes is said e =
      adds_as (λ now. Satisfies constants now (Lower v cell)) (AsksOne arguments successors edge index block f) ds es (adds_one ds es (Lower v cell) e)
      (λ now. (
        λ m b a at listed.
            let same_block : block ≡ b = some_is (sym goes ∙ at) in
            let same : v ≡ a = some_is (sym is ∙ ap (λ z. slice_get (arguments z) index) same_block ∙ listed) in
            subst (λ z. AtMost (now.lattice_value z) f) same (subst (AtMost (now.lattice_value v)) (means_same constants cell m.0 f m.1 said) m.2),
        λ g. (f, said, g block v goes is),
      ))

  pub none_asked : (arguments : ℕ → List ℕ) (successors : List ℕ) (edge index block : ℕ) (f : LatticeValue) (ds : List Constraint) → slice_get successors edge ≡ Some block → length (arguments block) ≤ index → Adds constants ds ds (AsksOne arguments successors edge index block f)
  none_asked arguments successors edge index block f ds goes beyond now = (
    λ m. (m, λ b a at listed. absurd (too_few a (ap (λ z. slice_get (arguments z) index) (some_is (sym goes ∙ at)) ∙ listed))),
    λ m. m.0,
  )
    where
      too_few : (a : ℕ) → slice_get (arguments block) index ≡ Some a → ⊥
      too_few a e = let l = past (arguments block) index a e in omega (arith, l, beyond)

  pub forwarded_asked : (t : Tree) (f : LatticeValues) (values : List ℕ) (block i : ℕ) (a b c : List Constraint) → b ≡ a ++ Enter block ∷ [] → ((k : ℕ) → k < length (arguments_of t block) → k < length values → k < i) → Adds constants b c (λ now. EachBefore (arguments_of t block) i (GetsForwarded f values now)) → Adds constants a c (ConstrainsForwarded t f block values)
  forwarded_asked t f values block i a b c e all p =
      adds_then (λ now. IsTrue (now.is_executable block)) (λ now. EachBefore (arguments_of t block) i (GetsForwarded f values now)) (ConstrainsForwarded t f block values) a b c
      (adds_one a b (Enter block) e)
      p
      (λ now. (
        λ m. (m.0, λ k v w at is. m.1 k v (all k (past (arguments_of t block) k v at) (past values k w is)) at w is),
        λ m. (m.0, λ k v lt at w is. m.1 k v w at is),
      ))

-- a set of blocks grows by each of a list
in_end : (b x : ℕ) (ys : List ℕ) → In b (ys ++ x ∷ []) ↔ (In b ys ⊎ (b ≡ x))
in_end b x [] = (λ i. ⊎_elim (λ e. inr e) (λ n. absurd n) i, λ i. ⊎_elim (λ n. absurd n) (λ e. inl e) i)
in_end b x (y ∷ ys) =
    let r = in_end b x ys in
    (λ i. ⊎_elim (λ e. inl (inl e)) (λ k. ⊎_elim (λ z. inl (inr z)) (λ e. inr e) (r.0 k)) i, λ i. ⊎_elim (λ k. ⊎_elim (λ e. inl e) (λ z. inr (r.1 (inl z))) k) (λ e. inr (r.1 (inr e))) i)

pub more_blocks : (xs : List ℕ) (i x : ℕ) (old new : ℕ → Bool) → slice_get xs i ≡ Some x → ((b : ℕ) → new b ≡ (if nat_eq x b then true else old b)) → ((b : ℕ) → IsTrue (old b) ↔ In b (take i xs)) → (b : ℕ) → IsTrue (new b) ↔ In b (take (i + 1) xs)
more_blocks xs i x old new at grown so b = by (nat_eq x b) refl
  where
    whole : take (i + 1) xs ≡ take i xs ++ x ∷ []
    whole = ap (λ n. take n xs) (add-one i) ∙ take_more xs i x at

    put : In b (take i xs) ⊎ (b ≡ x) → In b (take (i + 1) xs)
    put k = subst (In b) (sym whole) ((in_end b x (take i xs)).1 k)

    got : In b (take (i + 1) xs) → In b (take i xs) ⊎ (b ≡ x)
    got k = (in_end b x (take i xs)).0 (subst (In b) whole k)

    by : (c : Bool) → nat_eq x b ≡ c → IsTrue (new b) ↔ In b (take (i + 1) xs)
    by true same = (λ m. put (inr (sym (eqb-true x b same))), λ m. grown b ∙ ap (λ z. if z then true else old b) same)
    by false other =
        let as_old : new b ≡ old b = grown b ∙ ap (λ z. if z then true else old b) other in (
          λ m. put (inl ((so b).0 (sym as_old ∙ m))),
          λ m. as_old ∙ ⊎_elim (λ k. (so b).1 k) (λ e. absurd (true≢false (sym (eq-eqb x b (sym e)) ∙ other))) (got m),
        )

pub take_all : (xs : List ℕ) (i : ℕ) → length xs ≤ i → take i xs ≡ xs
take_all [] zero l = refl
take_all [] (suc i) l = refl
take_all (x ∷ xs) zero l = absurd (omega (arith, l))
take_all (x ∷ xs) (suc i) l = ap (λ z. x ∷ z) (take_all xs i (omega (arith, l)))
