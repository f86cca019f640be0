-- Branches that lose, edge by edge, the operand that they forward to one argument.
use Rattle.std.proofs.Common.{◌≡◌, ◌≢◌, ◌⊎◌, inl, inr, ⊎_elim, ℕ, zero, suc, ◌+◌, ◌-◌, ◌<◌, Bool, true, false, nat_eq, if◌then◌else◌, List, [], ◌∷◌, length, map, Option, Some, None, IsSome, is_some, IsTrue, slice_get, slice_index_or, remove, refl, sym, ap, ap₂, ◌∙◌, subst, arith}
use Rattle.std.proofs.lemmas.Bool.{cases_eq, eq-eqb}
use Rattle.std.proofs.lemmas.List.{get_or-set_other, get_or-set_same, length-set, length-map}
use Rattle.std.proofs.lemmas.List.Edits.{length-remove}
use Rattle.std.proofs.lemmas.Option.{slice_get_within}
use Rattle.pliron_core.specs.declared.uses.Use.{Use}
use Rattle.pliron_core.specs.Tree.{Tree, In, IsLive, no_entry, row_of, head_of, operands_of, successors_of, results_of, regions_of, parent_of}
use Rattle.pliron_core.specs.Invariant.{IsTree}
use Rattle.pliron_core.specs.Writes.{operand_removed}
use Rattle.pliron_core.proofs.HoldingLemmas.{some_is, some_of, in_slice}
use Rattle.pliron_core.proofs.TreeLemmas.{live-within}
use Rattle.pliron_laws.specs.Datum.{Datum, Empty, Head, Shape, Meaning, Move, Visit, Emit}
use Rattle.pliron_laws.specs.Tree.{Operation, op_with, op_at, block_at, region_at, entry_block, count_arguments, unless, shape_of}
use Rattle.pliron_laws.specs.Laws.{Admitted, fewer_operands, moved_up, LosesOperand, ForwardsOperands}
use Rattle.pliron_laws.specs.Answers.{with_head}
use Rattle.std.specs.List.{range_with_len}
use Rattle.pliron_laws.specs.PlaceLaws.{pick_all}
use Rattle.pliron_theory.specs.Dropping.{EdgeLoses, Loses, Lacks, EdgesLose, AreEdgesTo}
use Rattle.pliron_laws.proofs.Records.{op_shows, operation_of, make_op}
use Rattle.pliron_laws.specs.Acting.{Act, Comes, Begins, Answered, AnsweredByWorld, MovesAlike, ActAlike, PassesSame, JumpsSame, DropsAt, pick}
use Rattle.pliron_laws.proofs.ShapeLemmas.{shape_head}
use Rattle.pliron_theory.proofs.Keys.{not_is}
use Rattle.pliron_theory.proofs.Alike.{alike_refl}
use Rattle.pliron_theory.proofs.DroppedAgree.{alike_more}

-- alike moves, one after the other
moves_after : {G H K : ℕ → List Datum → ℕ → List Datum → Type 0} (a b c : Move) → ((i : ℕ) (ds : List Datum) (j : ℕ) (es : List Datum) (k : ℕ) (fs : List Datum) → G i ds j es → H j es k fs → K i ds k fs) → MovesAlike PassesSame G a b → MovesAlike PassesSame H b c → MovesAlike PassesSame K a c
moves_after a b c more p q = record {
  give = λ ds e. q.give ds (p.give ds e);
  visit = λ i ds memo e. let x = p.visit i ds memo e in let y = q.visit i x.0 memo x.1 in (y.0, y.1, y.2 ∙ x.2);
  goto = λ i ds e. let x = p.goto i ds e in let y = q.goto x.0 x.1 x.2 in (y.0, y.1, y.2, more i ds x.0 x.1 y.0 y.1 x.3 y.3);
  leave = λ ds e. q.leave ds (p.leave ds e);
  emit = λ x memo e. q.emit x memo (p.emit x memo e);
  traps = λ e. q.traps (p.traps e);
}

module _ (act : Act) (G : ℕ → List Datum → ℕ → List Datum → Type 0) (s s' : Shape) (first first' : List Datum) (alike : ActAlike act PassesSame G s s' first first') where
  -- what the one comes to later, the other comes to
  abbrev ComesToo : Bool → Datum → List Datum → Type 0
  ComesToo false memo input = (memo ≡ Empty) × (input ≡ first)
  ComesToo true memo input = Comes act s' first' true memo input

  visited : (later : Bool) (memo : Datum) (input : List Datum) (i : ℕ) (ds : List Datum) (next : Datum) (answer : List Datum) → Comes act s first later memo input → ComesToo later memo input → act s memo input ≡ Visit i ds next → Comes act s' first' true next answer
  visited false memo input i ds next answer c x e =
      let y = alike.begin.visit i ds next (ap₂ (act s) (sym x.0) (sym x.1) ∙ e) in Answered i y.0 next answer Begins y.1
  visited true memo input i ds next answer c x e = let y = (alike.later memo input c).visit i ds next e in Answered i y.0 next answer x y.1

  emitted : (later : Bool) (memo : Datum) (input : List Datum) (effect next answer : Datum) → Comes act s first later memo input → ComesToo later memo input → act s memo input ≡ Emit effect next → Comes act s' first' true next (answer ∷ [])
  emitted false memo input effect next answer c x e = AnsweredByWorld effect next answer Begins (alike.begin.emit effect next (ap₂ (act s) (sym x.0) (sym x.1) ∙ e))
  emitted true memo input effect next answer c x e = AnsweredByWorld effect next answer x ((alike.later memo input c).emit effect next e)

  comes_too : {later : Bool} {memo : Datum} {input : List Datum} → Comes act s first later memo input → ComesToo later memo input
  comes_too Begins = (refl, refl)
  comes_too (Answered {later} {memo} {input} i ds next answer c e) = visited later memo input i ds next answer c (comes_too c) e
  comes_too (AnsweredByWorld {later} {memo} {input} effect next answer c e) = emitted later memo input effect next answer c (comes_too c) e

-- acting alike, one after the other
pub alike_after : (act : Act) (G H K : ℕ → List Datum → ℕ → List Datum → Type 0) (s s' s'' : Shape) (a b c : List Datum) → ((i : ℕ) (ds : List Datum) (j : ℕ) (es : List Datum) (k : ℕ) (fs : List Datum) → G i ds j es → H j es k fs → K i ds k fs) → ActAlike act PassesSame G s s' a b → ActAlike act PassesSame H s' s'' b c → ActAlike act PassesSame K s s'' a c
alike_after act G H K s s' s'' a b c more p q = record {
  begin = moves_after _ _ _ more p.begin q.begin;
  later = λ memo input comes. moves_after _ _ _ more (p.later memo input comes) (q.later memo input (comes_too act G s s' a b p comes));
}

-- lists of what is picked
some_map : {A : Type 0} (xs ys : List A) → map Some xs ≡ map Some ys → xs ≡ ys
some_map [] [] e = refl
some_map [] (y ∷ ys) e = grind arith
some_map (x ∷ xs) [] e = grind arith
some_map (x ∷ xs) (y ∷ ys) e =
    let here : x ≡ y = cc in
    let rest : map Some xs ≡ map Some ys = cc in ap₂ (λ a b. a ∷ b) here (some_map xs ys rest)

map_remove : {A B : Type 0} (f : A → B) (xs : List A) (i : ℕ) → map f (remove xs i) ≡ remove (map f xs) i
map_remove f [] zero = refl
map_remove f [] (suc i) = refl
map_remove f (x ∷ xs) zero = refl
map_remove f (x ∷ xs) (suc i) = ap (λ z. f x ∷ z) (map_remove f xs i)

pub length_picked : {A : Type 0} (ws : List A) (places : List ℕ) (vs : List A) → map Some ws ≡ pick places vs → length ws ≡ length places
length_picked ws places vs e = sym (length-map ws Some) ∙ ap length e ∙ length-map places (λ i. slice_get vs i)

at_length : {A B : Type 0} (xs : List A) (ys : List B) (i : ℕ) (x : A) → length ys ≡ length xs → slice_get xs i ≡ Some x → (y : B) × (slice_get ys i ≡ Some y)
at_length [] ys i x l e = grind arith
at_length (x ∷ xs) [] i z l e = grind arith
at_length (x ∷ xs) (y ∷ ys) zero z l e = (y, refl)
at_length (x ∷ xs) (y ∷ ys) (suc i) z l e = at_length xs ys i z (omega (arith, l)) e

-- data at places where values stand
picks_data : (places vs ws : List ℕ) (first : List Datum) → map Some ws ≡ pick places vs → length first ≡ length vs → (picked : List Datum) × (map Some picked ≡ pick places first)
picks_data [] vs ws first e l = ([], refl)
picks_data (p ∷ ps) vs [] first e l = grind arith
picks_data (p ∷ ps) vs (w ∷ ws) first e l =
    let here : Some w ≡ slice_get vs p = cc in
    let rest : map Some ws ≡ pick ps vs = cc in
    let x = at_length vs first p w l (sym here) in
    let y = picks_data ps vs ws first rest l in
    (x.0 ∷ y.0, ap₂ (λ a b. a ∷ b) (sym x.1) y.1)

-- the tree in which the operation lost its operand p and has another head
abbrev pub lost : Tree → ℕ → ℕ → Head → Tree
lost x op p h = with_head (operand_removed x op p) op h

pub op_kept : (x x' : Tree) (k : ℕ) → row_of x' k ≡ row_of x k → operands_of x' k ≡ operands_of x k → successors_of x' k ≡ successors_of x k → parent_of x' k ≡ parent_of x k → op_at x' k ≡ op_at x k
unfolding op_at
op_kept x x' k row a b e = ap (op_with x' k) (ap (λ z. z.head) row) ∙ go (head_of x k)
  where
    go : (y : Option Head) → op_with x' k y ≡ op_with x k y
    go None = refl
    go (Some h) =
        let c : results_of x' k ≡ results_of x k = ap (λ z. z.results) row in
        let d : regions_of x' k ≡ regions_of x k = ap (λ z. z.regions) row in cc

module _ (x : Tree) (op p : ℕ) (h : Head) (lt : op < length x.operations) (lt' : op < length x.operands) where
  row_at : row_of (lost x op p h) op ≡ record (row_of x op) { head = Some h }
  row_at = get_or-set_same x.operations op _ no_entry lt

  row_other : (k : ℕ) → k ≢ op → row_of (lost x op p h) k ≡ row_of x k
  row_other k ne = get_or-set_other x.operations op k _ no_entry ne

  operands_at : operands_of (lost x op p h) op ≡ remove (operands_of x op) p
  operands_at = get_or-set_same x.operands op _ [] lt'

  operands_other : (k : ℕ) → k ≢ op → operands_of (lost x op p h) k ≡ operands_of x k
  operands_other k ne = get_or-set_other x.operands op k _ [] ne

  op_other : (k : ℕ) → k ≢ op → op_at (lost x op p h) k ≡ op_at x k
  op_other k ne = op_kept x (lost x op p h) k (row_other k ne) (operands_other k ne) refl refl

  shape_other : (m : Meaning) (o : Operation) → shape_of m (lost x op p h) o ≡ shape_of m x o
  unfolding shape_of block_at region_at
  shape_other m o = refl

  op_lost : op_at (lost x op p h) op ≡ Some (operation_of (lost x op p h) op h)
  op_lost = make_op (lost x op p h) op h (ap (λ z. z.head) row_at)

  shape_lost : (m : Meaning) (o : Operation) → op_at x op ≡ Some o → IsTrue (m.is_branch o.head) → IsTrue (m.is_branch h) → o.regions ≡ [] → p < length o.operands → shape_of m (lost x op p h) (operation_of (lost x op p h) op h) ≡ fewer_operands (shape_of m x o) h
  unfolding shape_of
  shape_lost m o e b b' none l =
      let s = op_shows x op o e in
      let operands : length (operands_of (lost x op p h) op) ≡ length o.operands - 1 = ap length (operands_at ∙ ap (λ z. remove z p) s.operands) ∙ less (length (remove o.operands p)) (length o.operands) (length-remove o.operands p l) in
      let results : results_of (lost x op p h) op ≡ o.results = ap (λ z. z.results) row_at ∙ s.results in
      let regions : regions_of (lost x op p h) op ≡ [] = ap (λ z. z.regions) row_at ∙ s.regions ∙ none in
      let successors : successors_of x op ≡ o.successors = s.successors in
      ap₂ (λ n rs. record { head = h; operands = n; results = length rs; successors = length (successors_of x op); entry_arguments = map (λ r. count_arguments (entry_block (lost x op p h) r)) (regions_of (lost x op p h) op); target_arguments = unless (m.is_branch h) (map (λ b. count_arguments (block_at (lost x op p h) b)) (successors_of x op)) }) operands results
      ∙ ap₂ (λ cs rs. record { head = h; operands = length o.operands - 1; results = length o.results; successors = length cs; entry_arguments = map (λ r. count_arguments (entry_block (lost x op p h) r)) rs; target_arguments = unless (m.is_branch h) (map (λ b. count_arguments (block_at (lost x op p h) b)) cs) }) successors regions
      ∙ ap (λ z. record { head = h; operands = length o.operands - 1; results = length o.results; successors = length o.successors; entry_arguments = []; target_arguments = z }) (aimless (m.is_branch h) _ b' ∙ sym (aimless (m.is_branch o.head) _ b))
      ∙ ap (λ rs. record { head = h; operands = length o.operands - 1; results = length o.results; successors = length o.successors; entry_arguments = map (λ r. count_arguments (entry_block x r)) rs; target_arguments = unless (m.is_branch o.head) (map (λ b. count_arguments (block_at x b)) o.successors) }) (sym none)
    where
      less : (a b : ℕ) → a + 1 ≡ b → a ≡ b - 1
      less a b e = omega (arith, e)

      aimless : (b : Bool) (xs : List ℕ) → IsTrue b → unless b xs ≡ None
      aimless true xs y = refl
      aimless false xs y = absurd (cc)

shape_successors : (m : Meaning) (x : Tree) (o : Operation) → (shape_of m x o).successors ≡ length o.successors
unfolding shape_of
shape_successors m x o = refl

pub shape_operands : (m : Meaning) (x : Tree) (o : Operation) → (shape_of m x o).operands ≡ length o.operands
unfolding shape_of
shape_operands m x o = refl

no_items : (f : ℕ → ℕ) (rs : List ℕ) → map f rs ≡ [] → rs ≡ []
no_items f [] e = refl
no_items f (r ∷ rs) e = grind arith

pub childless : (m : Meaning) (x : Tree) (o : Operation) → (shape_of m x o).entry_arguments ≡ [] → o.regions ≡ []
unfolding shape_of
childless m x o e = no_items (λ r. count_arguments (entry_block x r)) o.regions e

not_past : {A : Type 0} (xs : List A) (i : ℕ) → i < length xs → slice_get xs i ≡ None → ⊥
not_past [] i l e = absurd (omega (arith, l))
not_past (x ∷ xs) zero l e = absurd (cc)
not_past (x ∷ xs) (suc i) l e = not_past xs i (omega (arith, l)) e

-- the edge with this index of the operation is among these
abbrev pub Among : ℕ → ℕ → List Use → Type 0
Among k i edges = (n : ℕ) × (slice_get edges n ≡ Some (record { user = k; place = i }))

module _ (m : Meaning) (can_fold : Head → Bool) (SameTests : Head → Head → Type 0) (shortened : Shape → ℕ → ℕ → Head) (law : ForwardsOperands m can_fold SameTests shortened) (tests : (h h' : Head) → SameTests h h' → m.is_branch h' ≡ m.is_branch h) (t : Tree) (w : IsTree t) (block index : ℕ) where
  -- what stays as it was while operations lose operands
  pub record SameFrame (x : Tree) : Type 0 where
    pub operations : length x.operations ≡ length t.operations
    pub operands : length x.operands ≡ length t.operands
    pub successors : x.successors ≡ t.successors
    pub parents : x.parents ≡ t.parents
    pub bodies : x.bodies ≡ t.bodies
    pub arguments : x.arguments ≡ t.arguments
    pub block_parents : x.block_parents ≡ t.block_parents
    pub layouts : x.layouts ≡ t.layouts
    pub slots : x.slots ≡ t.slots
    pub live : (k : ℕ) → IsLive t k → IsLive x k
    pub results : (k : ℕ) → results_of x k ≡ results_of t k
    pub regions : (k : ℕ) → regions_of x k ≡ regions_of t k

  pub same_frame : SameFrame t
  same_frame = record { operations = refl; operands = refl; successors = refl; parents = refl; bodies = refl; arguments = refl; block_parents = refl; layouts = refl; slots = refl; live = λ k l. l; results = λ k. refl; regions = λ k. refl }

  within : (x : Tree) (op : ℕ) → SameFrame x → IsLive t op → op < length x.operations
  within x op f l = live-within x op (f.live op l)

  within_too : (x : Tree) (op : ℕ) → SameFrame x → IsLive t op → op < length x.operands
  within_too x op f l = let a = within x op f l in omega (arith, a, f.operations, f.operands, w.keys.operands)

  frame_lost : (x : Tree) (op p : ℕ) (h : Head) → IsLive t op → SameFrame x → SameFrame (lost x op p h)
  frame_lost x op p h l f = record {
    operations = length-set x.operations op _ ∙ f.operations;
    operands = length-set x.operands op _ ∙ f.operands;
    successors = f.successors;
    parents = f.parents;
    bodies = f.bodies;
    arguments = f.arguments;
    block_parents = f.block_parents;
    layouts = f.layouts;
    slots = f.slots;
    live = λ k lk. elim (cases_eq k op) [
      | inl s ↦ subst (λ z. IsSome z.head) (sym (ap (row_of (lost x op p h)) s ∙ at)) refl
      | inr ne ↦ subst (λ z. IsSome z.head) (sym (other k ne)) (f.live k lk)
    ];
    results = λ k. elim (cases_eq k op) [
      | inl s ↦ ap (results_of (lost x op p h)) s ∙ ap (λ z. z.results) at ∙ ap (results_of x) (sym s) ∙ f.results k
      | inr ne ↦ ap (λ z. z.results) (other k ne) ∙ f.results k
    ];
    regions = λ k. elim (cases_eq k op) [
      | inl s ↦ ap (regions_of (lost x op p h)) s ∙ ap (λ z. z.regions) at ∙ ap (regions_of x) (sym s) ∙ f.regions k
      | inr ne ↦ ap (λ z. z.regions) (other k ne) ∙ f.regions k
    ];
  }
    where
      at : row_of (lost x op p h) op ≡ record (row_of x op) { head = Some h }
      at = row_at x op p h (within x op f l) (within_too x op f l)

      other : (k : ℕ) → k ≢ op → row_of (lost x op p h) k ≡ row_of x k
      other k ne = row_other x op p h (within x op f l) (within_too x op f l) k ne

  -- what an edge does to the tree
  pub data Steps (e : Use) (x x' : Tree) : Type 0 where
    Stays : ((o : Operation) → op_at x e.user ≡ Some o → IsTrue (m.is_branch o.head) → slice_get (m.forwarded (shape_of m x o) e.place) index ≡ None) → x' ≡ x → Steps e x x'
    Continues : (o : Operation) (p : ℕ) → op_at x e.user ≡ Some o → slice_get (m.forwarded (shape_of m x o) e.place) index ≡ Some p → p < length o.operands → x' ≡ lost x e.user p (shortened (shape_of m x o) e.place index) → Steps e x x'

  pub steps : (e : Use) (x x' : Tree) → IsLive x e.user → EdgeLoses m shortened index e x x' → Steps e x x'
  steps e x x' live (Loses v has deleted) =
      let hd = some_of (head_of x e.user) live in
      let o = operation_of x e.user hd.0 in
      let oe = make_op x e.user hd.0 hd.1 in
      let place = has o oe in
      Continues o place.0 oe place.1 place.2 (deleted o place.0 oe place.1).1
  steps e x x' live (Lacks none same) = Stays none same

  pub frame_step : (e : Use) (x x' : Tree) → IsLive t e.user → SameFrame x → Steps e x x' → SameFrame x'
  frame_step e x x' l f (Stays none same) = subst SameFrame (sym same) f
  frame_step e x x' l f (Continues o p oe at lt same) = subst SameFrame (sym same) (frame_lost x e.user p _ l f)

  -- a branch whose edges to the block forward a value for the argument
  pub record IsUser (k : ℕ) : Type 0 where
    pub operation : Operation
    pub liveness : op_at t k ≡ Some operation
    pub admitted : Admitted m (shape_of m t operation)
    pub branch : IsTrue (m.is_branch operation.head)
    pub forwards : (i : ℕ) → slice_get (successors_of t k) i ≡ Some block → index < length (m.forwarded (shape_of m t operation) i)

  -- the edges in `done` lose the value, the others pass the same
  abbrev pub JumpsWithout : List ℕ → ℕ → List Datum → ℕ → List Datum → Type 0
  JumpsWithout done i ds j es = (j ≡ i) × ((In i done × (es ≡ remove ds index)) ⊎ ((In i done → ⊥) × (es ≡ ds)))

  pub record ActsStill (x : Tree) (k : ℕ) (now : Operation) (places done : List ℕ) (u : IsUser k) : Type 0 where
    pub liveness : op_at x k ≡ Some now
    pub admitted : Admitted m (shape_of m x now)
    pub branch : IsTrue (m.is_branch now.head)
    pub shorter : (i : ℕ) → In i done → length (m.forwarded (shape_of m x now) i) + 1 ≡ length (m.forwarded (shape_of m t u.operation) i)
    pub same : (i : ℕ) → (In i done → ⊥) → length (m.forwarded (shape_of m x now) i) ≡ length (m.forwarded (shape_of m t u.operation) i)
    pub alike : (first first' : List Datum) → length first ≡ length u.operation.operands → map Some first' ≡ pick places first → ActAlike m.act PassesSame (JumpsWithout done) (shape_of m t u.operation) (shape_of m x now) first first'

  -- how far an operation has come, where these edges are still to lose
  pub record Tracked (x : Tree) (k : ℕ) (rest : List Use) : Type 0 where
    pub done : List ℕ
    pub sound : (i : ℕ) → In i done → slice_get (successors_of t k) i ≡ Some block
    pub pending : (i : ℕ) → slice_get (successors_of t k) i ≡ Some block → In i done ⊎ Among k i rest
    pub fresh : (i : ℕ) → Among k i rest → In i done → ⊥
    pub places : List ℕ
    pub left : map Some (operands_of x k) ≡ pick places (operands_of t k)
    pub same : done ≡ [] → (row_of x k ≡ row_of t k) × (operands_of x k ≡ operands_of t k)
    pub acts : (u : IsUser k) → (now : Operation) × ActsStill x k now places done u

  -- an operation that an edge of another one leaves alone
  pub record Untouched (x x' : Tree) (k : ℕ) : Type 0 where
    pub row : row_of x' k ≡ row_of x k
    pub operands : operands_of x' k ≡ operands_of x k
    pub op : op_at x' k ≡ op_at x k
    pub shape : (o : Operation) → shape_of m x' o ≡ shape_of m x o

  pub untouched : (e : Use) (x x' : Tree) (k : ℕ) → IsLive t e.user → SameFrame x → k ≢ e.user → Steps e x x' → Untouched x x' k
  untouched e x x' k l f ne (Stays none same) = record { row = ap (λ z. row_of z k) same; operands = ap (λ z. operands_of z k) same; op = ap (λ z. op_at z k) same; shape = λ o. ap (λ z. shape_of m z o) same }
  untouched e x x' k l f ne (Continues o p oe at lt same) =
      let h = shortened (shape_of m x o) e.place index in
      let a = within x e.user f l in
      let b = within_too x e.user f l in
      record {
        row = ap (λ z. row_of z k) same ∙ row_other x e.user p h a b k ne;
        operands = ap (λ z. operands_of z k) same ∙ operands_other x e.user p h a b k ne;
        op = ap (λ z. op_at z k) same ∙ op_other x e.user p h a b k ne;
        shape = λ q. ap (λ z. shape_of m z q) same ∙ shape_other x e.user p h a b m q;
      }

  acts_untouched : (x x' : Tree) (k : ℕ) (now : Operation) (places done : List ℕ) (u : IsUser k) → Untouched x x' k → ActsStill x k now places done u → ActsStill x' k now places done u
  acts_untouched x x' k now places done u c a = record {
    liveness = c.op ∙ a.liveness;
    admitted = subst (Admitted m) (sym (c.shape now)) a.admitted;
    branch = a.branch;
    shorter = λ i d. ap (λ z. length (m.forwarded z i) + 1) (c.shape now) ∙ a.shorter i d;
    same = λ i n. ap (λ z. length (m.forwarded z i)) (c.shape now) ∙ a.same i n;
    alike = λ first first' l q. subst (λ z. ActAlike m.act PassesSame (JumpsWithout done) (shape_of m t u.operation) z first first') (sym (c.shape now)) (a.alike first first' l q);
  }

  tracked_other : (e : Use) (rest : List Use) (x x' : Tree) (k : ℕ) → k ≢ e.user → Untouched x x' k → Tracked x k (e ∷ rest) → Tracked x' k rest
  tracked_other e rest x x' k ne c r = record {
    done = r.done;
    sound = r.sound;
    pending = λ i s. later i (r.pending i s);
    fresh = λ i a. r.fresh i (suc a.0, a.1);
    places = r.places;
    left = ap (map Some) c.operands ∙ r.left;
    same = λ d. let y = r.same d in (c.row ∙ y.0, c.operands ∙ y.1);
    acts = λ u. let y = r.acts u in (y.0, acts_untouched x x' k y.0 r.places r.done u c y.1);
  }
    where
      later : (i : ℕ) → In i r.done ⊎ Among k i (e ∷ rest) → In i r.done ⊎ Among k i rest
      later i (inl d) = inl d
      later i (inr (zero, q)) = absurd (ne (sym (ap (λ z. z.user) (some_is q))))
      later i (inr (suc n, q)) = inr (n, q)

  -- a branch loses the operand that an edge to the block forwarded
  module _ (e : Use) (x : Tree) (l : IsLive t e.user) (f : SameFrame x) (listed : slice_get (successors_of t e.user) e.place ≡ Some block) (o : Operation) (p : ℕ) (oe : op_at x e.user ≡ Some o) (admitted : Admitted m (shape_of m x o)) (is_branch : IsTrue (m.is_branch o.head)) (at : slice_get (m.forwarded (shape_of m x o) e.place) index ≡ Some p) (lt : p < length o.operands) where
    abbrev head_less : Head
    head_less = shortened (shape_of m x o) e.place index

    abbrev tree_less : Tree
    tree_less = lost x e.user p head_less

    branch_shape : IsTrue (m.is_branch (shape_of m x o).head)
    branch_shape = subst (λ z. IsTrue (m.is_branch z)) (sym (shape_head m x o)) is_branch

    has_edge : e.place < (shape_of m x o).successors
    has_edge = subst (λ n. e.place < n) (sym (shape_successors m x o)) (slice_get_within o.successors e.place block (ap (λ z. slice_get z e.place) (sym (op_shows x e.user o oe).successors ∙ ap (λ z. slice_index_or z e.user []) f.successors) ∙ listed))

    pub loses_one : LosesOperand m SameTests (shape_of m x o) e.place index p head_less
    loses_one = law.removal (shape_of m x o) admitted branch_shape e.place index p has_edge at

    pub branch_less : IsTrue (m.is_branch head_less)
    branch_less = subst IsTrue (sym (tests (shape_of m x o).head head_less loses_one.same_tests)) branch_shape

    pub shape_less : shape_of m tree_less (operation_of tree_less e.user head_less) ≡ fewer_operands (shape_of m x o) head_less
    shape_less = shape_lost x e.user p head_less (within x e.user f l) (within_too x e.user f l) m o oe is_branch branch_less (childless m x o (law.alone (shape_of m x o) admitted branch_shape).1) lt

    pub stands_less : op_at tree_less e.user ≡ Some (operation_of tree_less e.user head_less)
    stands_less = op_lost x e.user p head_less (within x e.user f l) (within_too x e.user f l)

    pub lengths_less : (i : ℕ) (b : Bool) → nat_eq i e.place ≡ b → length (m.forwarded (shape_of m tree_less (operation_of tree_less e.user head_less)) i) ≡ length (if b then remove (m.forwarded (shape_of m x o) i) index else m.forwarded (shape_of m x o) i)
    lengths_less i b q = ap (λ z. length (m.forwarded z i)) shape_less ∙ ap length (loses_one.same_edges i) ∙ length-map _ (moved_up p) ∙ ap (λ z. length (if z then remove (m.forwarded (shape_of m x o) i) index else m.forwarded (shape_of m x o) i)) q

  -- the operation of the edge
  module _ (e : Use) (rest : List Use) (x x' : Tree) (l : IsLive t e.user) (f : SameFrame x) (listed : slice_get (successors_of t e.user) e.place ≡ Some block) (once : (n : ℕ) → slice_get rest n ≡ Some e → ⊥) (r : Tracked x e.user (e ∷ rest)) where
    not_done : In e.place r.done → ⊥
    not_done d = r.fresh e.place (zero, refl) d

    module _ (u : IsUser e.user) (o : Operation) (p : ℕ) (a : ActsStill x e.user o r.places r.done u) (at : slice_get (m.forwarded (shape_of m x o) e.place) index ≡ Some p) (lt : p < length o.operands) where
      abbrev s : Shape
      s = shape_of m x o

      abbrev h : Head
      h = shortened s e.place index

      abbrev next : Tree
      next = lost x e.user p h

      loses : LosesOperand m SameTests s e.place index p h
      loses = loses_one e x l f listed o p a.liveness a.admitted a.branch at lt

      shape_next : shape_of m next (operation_of next e.user h) ≡ fewer_operands s h
      shape_next = shape_less e x l f listed o p a.liveness a.admitted a.branch at lt

      edges_next : (i : ℕ) (b : Bool) → nat_eq i e.place ≡ b → length (m.forwarded (shape_of m next (operation_of next e.user h)) i) ≡ length (if b then remove (m.forwarded s i) index else m.forwarded s i)
      edges_next i b q = lengths_less e x l f listed o p a.liveness a.admitted a.branch at lt i b q

      shorter : (i : ℕ) → In i (e.place ∷ r.done) → length (m.forwarded (shape_of m next (operation_of next e.user h)) i) + 1 ≡ length (m.forwarded (shape_of m t u.operation) i)
      shorter i (inl q) =
          let long : index < length (m.forwarded s i) = slice_get_within (m.forwarded s i) index p (ap (λ z. slice_get (m.forwarded s z) index) q ∙ at) in
          ap (λ n. n + 1) (edges_next i true (eq-eqb i e.place q)) ∙ length-remove (m.forwarded s i) index long ∙ a.same i (λ d. not_done (subst (λ z. In z r.done) q d))
      shorter i (inr d) = ap (λ n. n + 1) (edges_next i false (not_is i e.place (λ q. not_done (subst (λ z. In z r.done) (sym q) d)))) ∙ a.shorter i d

      same : (i : ℕ) → (In i (e.place ∷ r.done) → ⊥) → length (m.forwarded (shape_of m next (operation_of next e.user h)) i) ≡ length (m.forwarded (shape_of m t u.operation) i)
      same i n = edges_next i false (not_is i e.place (λ q. n (inl (sym q)))) ∙ a.same i (λ d. n (inr d))

      combine : (i : ℕ) (ds : List Datum) (j : ℕ) (es : List Datum) (k : ℕ) (fs : List Datum) → JumpsWithout r.done i ds j es → (k ≡ j) × DropsAt e.place index j es fs → JumpsWithout (e.place ∷ r.done) i ds k fs
      combine i ds j es k fs p q = (q.0 ∙ p.0, both p.1 q.1)
        where
          both : (In i r.done × (es ≡ remove ds index)) ⊎ ((In i r.done → ⊥) × (es ≡ ds)) → DropsAt e.place index j es fs → (In i (e.place ∷ r.done) × (fs ≡ remove ds index)) ⊎ ((In i (e.place ∷ r.done) → ⊥) × (fs ≡ ds))
          both (inl y) (inl z) = absurd (not_done (subst (λ n. In n r.done) (sym p.0 ∙ z.0) y.0))
          both (inl y) (inr z) = inl (inr y.0, z.1 ∙ y.1)
          both (inr y) (inl z) = inl (inl (sym p.0 ∙ z.0), z.1 ∙ ap (λ v. remove v index) y.1)
          both (inr y) (inr z) = inr (λ d. ⊎_elim (λ q. z.0 (p.0 ∙ q)) y.0 d, z.1 ∙ y.1)

      alike : (first last : List Datum) → length first ≡ length u.operation.operands → map Some last ≡ pick (remove r.places p) first → ActAlike m.act PassesSame (JumpsWithout (e.place ∷ r.done)) (shape_of m t u.operation) (shape_of m next (operation_of next e.user h)) first last
      alike first last len q =
          let old : operands_of t e.user ≡ u.operation.operands = (op_shows t e.user u.operation u.liveness).operands in
          let now : operands_of x e.user ≡ o.operands = (op_shows x e.user o a.liveness).operands in
          let y = picks_data r.places (operands_of t e.user) (operands_of x e.user) first r.left (len ∙ ap length (sym old)) in
          let z : last ≡ remove y.0 p = some_map last (remove y.0 p) (q ∙ map_remove (λ i. slice_get first i) r.places p ∙ ap (λ v. remove v p) (sym y.1) ∙ sym (map_remove Some y.0 p)) in
          let long : length y.0 ≡ s.operands = length_picked y.0 r.places first y.1 ∙ sym (length_picked (operands_of x e.user) r.places (operands_of t e.user) r.left) ∙ ap length now ∙ sym (shape_operands m x o) in
          subst (λ v. ActAlike m.act PassesSame (JumpsWithout (e.place ∷ r.done)) (shape_of m t u.operation) v first last) (sym shape_next)
          (subst (λ v. ActAlike m.act PassesSame (JumpsWithout (e.place ∷ r.done)) (shape_of m t u.operation) (fewer_operands s h) first v) (sym z)
          (alike_after m.act (JumpsWithout r.done) (λ k ds l es. (l ≡ k) × DropsAt e.place index k ds es) (JumpsWithout (e.place ∷ r.done)) (shape_of m t u.operation) s (fewer_operands s h) first y.0 (remove y.0 p) combine (a.alike first y.0 len y.1) (loses.alike y.0 long)))

      acts_lost : ActsStill next e.user (operation_of next e.user h) (remove r.places p) (e.place ∷ r.done) u
      acts_lost = record {
        liveness = stands_less e x l f listed o p a.liveness a.admitted a.branch at lt;
        admitted = subst (Admitted m) (sym shape_next) loses.admitted;
        branch = branch_less e x l f listed o p a.liveness a.admitted a.branch at lt;
        shorter = shorter;
        same = same;
        alike = alike;
      }

    own_sound : (i : ℕ) → In i (e.place ∷ r.done) → slice_get (successors_of t e.user) i ≡ Some block
    own_sound i (inl q) = subst (λ z. slice_get (successors_of t e.user) z ≡ Some block) (sym q) listed
    own_sound i (inr d) = r.sound i d

    own_pending : (i : ℕ) → In i r.done ⊎ Among e.user i (e ∷ rest) → In i (e.place ∷ r.done) ⊎ Among e.user i rest
    own_pending i (inl d) = inl (inr d)
    own_pending i (inr (zero, q)) = inl (inl (sym (ap (λ z. z.place) (some_is q))))
    own_pending i (inr (suc n, q)) = inr (n, q)

    own_fresh : (i : ℕ) → Among e.user i rest → In i (e.place ∷ r.done) → ⊥
    own_fresh i a (inl q) = once a.0 (a.1 ∙ ap (λ z. Some (record { user = e.user; place = z })) q)
    own_fresh i a (inr d) = r.fresh i (suc a.0, a.1) d

    tracked_own : Steps e x x' → Tracked x' e.user rest
    tracked_own (Stays none same) = record {
      done = e.place ∷ r.done;
      sound = own_sound;
      pending = λ i s. own_pending i (r.pending i s);
      fresh = own_fresh;
      places = r.places;
      left = ap (λ z. map Some (operands_of z e.user)) same ∙ r.left;
      same = λ q. grind arith;
      acts = λ u. let a = r.acts u in absurd (not_past (m.forwarded (shape_of m x a.0) e.place) index (subst (λ n. index < n) (sym (a.1.same e.place not_done)) (u.forwards e.place listed)) (none a.0 a.1.liveness a.1.branch));
    }
    tracked_own (Continues o p oe at lt same) = record {
      done = e.place ∷ r.done;
      sound = own_sound;
      pending = λ i s. own_pending i (r.pending i s);
      fresh = own_fresh;
      places = remove r.places p;
      left = ap (λ z. map Some (operands_of z e.user)) same ∙ ap (map Some) (operands_at x e.user p (shortened (shape_of m x o) e.place index) (within x e.user f l) (within_too x e.user f l)) ∙ map_remove Some (operands_of x e.user) p ∙ ap (λ z. remove z p) r.left ∙ sym (map_remove (λ i. slice_get (operands_of t e.user) i) r.places p);
      same = λ q. grind arith;
      acts = λ u.
          let a = r.acts u in
          let q : a.0 ≡ o = some_is (sym a.1.liveness ∙ oe) in
          (operation_of (lost x e.user p (shortened (shape_of m x o) e.place index)) e.user (shortened (shape_of m x o) e.place index), subst (λ z. ActsStill z e.user (operation_of (lost x e.user p (shortened (shape_of m x o) e.place index)) e.user (shortened (shape_of m x o) e.place index)) (remove r.places p) (e.place ∷ r.done) u) (sym same) (acts_lost u o p (subst (λ z. ActsStill x e.user z r.places r.done u) q a.1) at lt));
    }

  -- all edges in turn
  abbrev pub AreListed : List Use → Type 0
  AreListed edges = (n : ℕ) (e : Use) → slice_get edges n ≡ Some e → slice_get (successors_of t e.user) e.place ≡ Some block

  abbrev AreOnce : List Use → Type 0
  AreOnce edges = (n l : ℕ) (e : Use) → slice_get edges n ≡ Some e → slice_get edges l ≡ Some e → n ≡ l

  pub user_live : (k i : ℕ) → slice_get (successors_of t k) i ≡ Some block → IsLive t k
  user_live k i s = go (head_of t k) refl
    where
      go : (h : Option Head) → head_of t k ≡ h → IsLive t k
      go None e = absurd (subst (In block) (w.joined.erased k e).1 (in_slice (successors_of t k) i block s))
      go (Some h) e = ap is_some e

  tracked_step : (e : Use) (rest : List Use) (x x' : Tree) → IsLive t e.user → SameFrame x → slice_get (successors_of t e.user) e.place ≡ Some block → ((n : ℕ) → slice_get rest n ≡ Some e → ⊥) → Steps e x x' → (k : ℕ) → Tracked x k (e ∷ rest) → Tracked x' k rest
  tracked_step e rest x x' l f listed once s k r = elim (cases_eq k e.user) [
    | inl q ↦ subst (λ z. Tracked x' z rest) (sym q) (tracked_own e rest x x' l f listed once (subst (λ z. Tracked x z (e ∷ rest)) q r) s)
    | inr ne ↦ tracked_other e rest x x' k ne (untouched e x x' k l f ne s) r
  ]

  track : (edges : List Use) (x u : Tree) → AreListed edges → AreOnce edges → EdgesLose m shortened index edges x u → SameFrame x → (k : ℕ) → Tracked x k edges → SameFrame u × Tracked u k []
  track [] x u listed once q f k r = (subst SameFrame (sym q) f, subst (λ z. Tracked z k []) (sym q) r)
  track (e ∷ rest) x u listed once q f k r =
      let here = listed 0 e refl in
      let l = user_live e.user e.place here in
      let s = steps e x q.0 (f.live e.user l) q.1 in
      track rest q.0 u (λ n. listed (suc n)) (λ n o z a b. apart n o (once (suc n) (suc o) z a b)) q.2 (frame_step e x q.0 l f s) k (tracked_step e rest x q.0 l f here (λ n a. never n (once 0 (suc n) e refl a)) s k r)
    where
      apart : (n o : ℕ) → suc n ≡ suc o → n ≡ o
      apart n o g = omega (arith, g)

      never : (n : ℕ) → 0 ≡ suc n → ⊥
      never n g = absurd (omega (arith, g))

  tracked_start : (edges : List Use) → AreEdgesTo t block edges → (k : ℕ) → Tracked t k edges
  tracked_start edges to k = record {
    done = [];
    sound = λ i d. absurd d;
    pending = λ i s. inr (to.complete k i s);
    fresh = λ i a d. absurd d;
    places = range_with_len 0 (length (operands_of t k));
    left = sym (pick_all (operands_of t k) (length (operands_of t k)) refl);
    same = λ q. (refl, refl);
    acts = λ u. (
      u.operation,
      record {
        liveness = u.liveness;
        admitted = u.admitted;
        branch = u.branch;
        shorter = λ i d. absurd d;
        same = λ i n. refl;
        alike = λ first first' l q. begins u first first' l q;
      },
    );
  }
    where
      begins : (u : IsUser k) (first first' : List Datum) → length first ≡ length u.operation.operands → map Some first' ≡ pick (range_with_len 0 (length (operands_of t k))) first → ActAlike m.act PassesSame (JumpsWithout []) (shape_of m t u.operation) (shape_of m t u.operation) first first'
      begins u first first' l q =
          let long : length first ≡ length (operands_of t k) = l ∙ ap length (sym (op_shows t k u.operation u.liveness).operands) in
          let same : first ≡ first' = sym (some_map first' first (q ∙ pick_all first (length (operands_of t k)) long)) in
          alike_more m.act PassesSame PassesSame JumpsSame (JumpsWithout []) (shape_of m t u.operation) (shape_of m t u.operation) first first' (λ i ds es p. p) (λ i ds j es p. (p.0, inr (λ d. d, p.1))) (alike_refl m.act (shape_of m t u.operation) (shape_of m t u.operation) first first' refl same)

  -- the tree in which each edge to the block lost its operand
  module _ (edges : List Use) (to : AreEdgesTo t block edges) (u : Tree) (lose : EdgesLose m shortened index edges t u) where
    pub tracked_end : (k : ℕ) → SameFrame u × Tracked u k []
    tracked_end k = track edges t u to.listed to.once lose same_frame k (tracked_start edges to k)

    -- the edges that lost are those to the block
    pub all_done : (k i : ℕ) → slice_get (successors_of t k) i ≡ Some block → In i (tracked_end k).1.done
    all_done k i s = ⊎_elim (λ d. d) (λ a. nothing a.0 a.1) ((tracked_end k).1.pending i s)
      where
        nothing : (n : ℕ) → slice_get {X = Use} [] n ≡ Some (record { user = k; place = i }) → In i (tracked_end k).1.done
        nothing n e = grind arith

    pub none_done : (k : ℕ) → (In block (successors_of t k) → ⊥) → (tracked_end k).1.done ≡ []
    none_done k n = go (tracked_end k).1.done refl
      where
        go : (d : List ℕ) → (tracked_end k).1.done ≡ d → (tracked_end k).1.done ≡ []
        go [] q = q
        go (i ∷ is) q = absurd (n (in_slice (successors_of t k) i block ((tracked_end k).1.sound i (subst (In i) (sym q) (inl refl)))))
