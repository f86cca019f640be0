-- What the evaluator's steps come to.
use Rattle.std.proofs.Common.{◌≡◌, ℕ, suc, ◌<◌, ◌≤◌, ◌-◌, ◌+◌, if◌then◌else◌, Bool, true, false, List, [], ◌∷◌, length, drop, map, Option, Some, None, IsSome, Result, Ok, Err, refl, sym, ap, ◌∙◌, arith}
use Rattle.std.specs.Prelude.{slice_index_or}
use Rattle.std.specs.List.{slice_get}
use Rattle.std.proofs.lemmas.List.{get_or-map, get_or_past, length-map}
use Rattle.std.specs.Result.{IfOk}
use Rattle.std.proofs.lemmas.Option.{same_Some, slice_get_past, slice_get_within, get_or_from_slice_get}
use Rattle.pliron_core.specs.declared.context.RegionSlot.{RegionSlot}
use Rattle.pliron_core.specs.Tree.{Tree, IsLive, IsBlock, IsRegion, IsListedBy, op_of_slot, first_of, head_of, operands_of, results_of, successors_of, regions_of, arguments_of, body_of, block_parent_of, layout_of, slot_of}
use Rattle.pliron_laws.specs.Datum.{Datum, Head, Meaning, Move, Give, Visit, Goto}
use Rattle.pliron_laws.specs.Tree.{Operation, op_at, op_with, block_at, block_with, and_block, entry_block, count_arguments, shape_of}
use Rattle.pliron_laws.specs.Machine.{State, Next, Continues, Over, Trapped, Environment, bind, at_rest, begin, enter, entry_in, after_giving, go_to, perform, input_of, leave, move, turn, step, step_at, onward, run_from, sight_after, Reached}
use Rattle.pliron_evaluator.specs.declared.evaluator.values.Datum.{Datum as DatumValue}
use Rattle.pliron_evaluator.specs.declared.evaluator.state.Next.{Next as NextValue}
use Rattle.pliron_evaluator.specs.declared.evaluator.state.Next.TheVariants.{Continues as ContinuesValue, Over as OverValue}
use Rattle.pliron_evaluator.specs.declared.evaluator.state.State.{State as StateValue}
use Rattle.pliron_evaluator.specs.declared.evaluator.values.Sight.{Sight as SightValue}
use Rattle.pliron_evaluator.specs.Evaluator.{datum_of_value, sight_of, state_of, next_of_value}
use Rattle.pliron_laws.proofs.Records.{op_shows, block_of, region_entry}
use Rattle.pliron_laws.proofs.ShapeLemmas.{live_at, operands_at}

pub first_drop : (xs : List ℕ) (x : ℕ) → slice_get xs 0 ≡ Some x → xs ≡ x ∷ drop 1 xs
first_drop [] x e = absurd (cc)
first_drop (y ∷ ys) x e = ap (λ z. z ∷ ys) (same_Some y x e)

-- where a region begins
held_by : (t : Tree) (r : ℕ) (o : Option RegionSlot) → IsListedBy t r o → (k : ℕ) × (op_of_slot o ≡ Some k)
held_by t r None l = elim l [ ]
held_by t r (Some slot) l = (slot.op, refl)

pub begins : (t : Tree) (r : ℕ) (o : Option ℕ) → IsRegion t r → o ≡ first_of (layout_of t r) None → and_block t o ≡ entry_block t r
begins t r o liveness e = let held = held_by t r (slot_of t r) liveness in ap (and_block t) e ∙ sym (region_entry t r held.0 held.1)

pub entry_at : (t : Tree) (rs : List ℕ) (i r : ℕ) (o : Option ℕ) → slice_get rs i ≡ Some r → IsRegion t r → o ≡ first_of (layout_of t r) None → and_block t o ≡ entry_in t (slice_get rs i)
entry_at t rs i r o at liveness e = begins t r o liveness e ∙ sym (ap (entry_in t) at)

pub no_entry : (t : Tree) (rs : List ℕ) (i : ℕ) → length rs ≤ i → None ≡ entry_in t (slice_get rs i)
no_entry t rs i le = sym (ap (entry_in t) (slice_get_past rs i le))

block_with_some : (t : Tree) (b : ℕ) (o : Option ℕ) → IsSome o → (r : ℕ) × (block_with t b o ≡ Some (block_of t b r))
block_with_some t b None s = absurd (cc)
block_with_some t b (Some r) s = (r, refl)

pub block_stands : (t : Tree) (b : ℕ) → IsBlock t b → (r : ℕ) × (block_at t b ≡ Some (block_of t b r))
unfolding block_at
block_stands t b s = block_with_some t b (block_parent_of t b) s

-- a count at an index, and behind the last one
pub index-map : (f : ℕ → ℕ) (xs : List ℕ) (i x : ℕ) → slice_get xs i ≡ Some x → slice_index_or (map f xs) i 0 ≡ f x
index-map f xs i x e = get_or-map f xs i x 0 (slice_get_within xs i x e) ∙ ap f (get_or_from_slice_get xs i x x e)

pub no_index-map : (f : ℕ → ℕ) (xs : List ℕ) (i : ℕ) → length xs ≤ i → slice_index_or (map f xs) i 0 ≡ 0
no_index-map f xs i le = let same : length (map f xs) ≡ length xs = length-map xs f in get_or_past (map f xs) i 0 (omega (arith, same))

pub block_count : (t : Tree) (b : ℕ) → IsBlock t b → length (arguments_of t b) ≡ count_arguments (and_block t (Some b))
block_count t b s = sym (ap count_arguments (block_stands t b s).1)

-- what binding came to
pub not_bound : (env after : Environment) (vs ws : List ℕ) (ds es : List DatumValue) (fits : Bool) → vs ≡ ws → ds ≡ es → fits ≡ false → bind env vs (map datum_of_value ds) ≡ (if fits then Some after else None) → bind env ws (map datum_of_value es) ≡ None
not_bound env after vs ws ds es fits e f g h =
    sym (ap (λ z. bind env z (map datum_of_value ds)) e ∙ ap (λ z. bind env ws (map datum_of_value z)) f) ∙ h ∙ ap (λ z. if z then Some after else None) g

pub all_bound : (env after : Environment) (vs ws : List ℕ) (ds es : List DatumValue) (fits : Bool) → vs ≡ ws → ds ≡ es → fits ≡ true → bind env vs (map datum_of_value ds) ≡ (if fits then Some after else None) → bind env ws (map datum_of_value es) ≡ Some after
all_bound env after vs ws ds es fits e f g h =
    sym (ap (λ z. bind env z (map datum_of_value ds)) e ∙ ap (λ z. bind env ws (map datum_of_value z)) f) ∙ h ∙ ap (λ z. if z then Some after else None) g

module _ (t : Tree) (s : State) (ds : List Datum) where
  entered : (o : Option ℕ) (b : ℕ) → o ≡ Some b → IsBlock t b → enter s (and_block t o) ds s.waiting ≡ begin s (body_of t b) s.waiting (bind s.environment (arguments_of t b) ds)
  entered o b is liveness = ap (λ z. enter s (and_block t z) ds s.waiting) is ∙ ap (λ z. enter s z ds s.waiting) (block_stands t b liveness).1

  pub enter_traps : (o : Option ℕ) (b : ℕ) → o ≡ Some b → IsBlock t b → bind s.environment (arguments_of t b) ds ≡ None → enter s (and_block t o) ds s.waiting ≡ Over (Trapped s.effects)
  enter_traps o b is liveness e = entered o b is liveness ∙ ap (begin s (body_of t b) s.waiting) e

  pub enter_goes : (o : Option ℕ) (b : ℕ) (env : Environment) (operations : List ℕ) → o ≡ Some b → IsBlock t b → bind s.environment (arguments_of t b) ds ≡ Some env → operations ≡ body_of t b → enter s (and_block t o) ds s.waiting ≡ Continues (at_rest s env operations s.waiting)
  enter_goes o b env operations is liveness e f =
      entered o b is liveness ∙ ap (begin s (body_of t b) s.waiting) e ∙ ap (λ z. Continues (at_rest s env z s.waiting)) (sym f)

-- an answer of one call, told in the words of another
pub in_words : {E : Type 0} (r : Result NextValue E) (x y : Next) → x ≡ y → IfOk r (λ n. next_of_value n ≡ x) → IfOk r (λ n. next_of_value n ≡ y)
in_words (Ok n) x y e h = h ∙ e
in_words (Err z) x y e h = h

-- where each move of the operation comes to the same
pub by_move : {E : Type 0} (t : Tree) (op : ℕ) (r : Result NextValue E) (x : Next) (y : Operation → Next) → ((o : Operation) → op_at t op ≡ Some o → x ≡ y o) → IfOk r (λ n. next_of_value n ≡ x) → IfOk r (λ n. (o : Operation) → op_at t op ≡ Some o → next_of_value n ≡ y o)
by_move t op (Ok n) x y f h = λ o e. h ∙ f o e
by_move t op (Err z) x y f h = h

module _ (t : Tree) (s : State) (op : ℕ) (rest : List ℕ) where
  pub performs_give : (next : Move) (ds : List Datum) → next ≡ Give ds → (o : Operation) → op_at t op ≡ Some o → after_giving s rest s.waiting ds (bind s.environment (results_of t op) ds) ≡ perform t s o op rest next
  performs_give next ds is o e = ap (λ z. after_giving s rest s.waiting ds (bind s.environment z ds)) (op_shows t op o e).results ∙ ap (perform t s o op rest) (sym is)

  pub performs_visit : (next : Move) (i : ℕ) (ds : List Datum) (memo : Datum) → next ≡ Visit i ds memo → s.rest ≡ op ∷ rest → (o : Operation) → op_at t op ≡ Some o → enter s (entry_in t (slice_get (regions_of t op) i)) ds (record { rest = s.rest; memo = memo } ∷ s.waiting) ≡ perform t s o op rest next
  performs_visit next i ds memo is self o e =
      ap (λ z. enter s (entry_in t (slice_get z i)) ds (record { rest = s.rest; memo = memo } ∷ s.waiting)) (op_shows t op o e).regions
      ∙ ap (λ z. enter s (entry_in t (slice_get o.regions i)) ds (record { rest = z; memo = memo } ∷ s.waiting)) self
      ∙ ap (perform t s o op rest) (sym is)

  pub performs_goto : (next : Move) (i : ℕ) (ds : List Datum) → next ≡ Goto i ds → (o : Operation) → op_at t op ≡ Some o → go_to t s (slice_get (successors_of t op) i) ds s.waiting ≡ perform t s o op rest next
  performs_goto next i ds is o e = ap (λ z. go_to t s (slice_get z i) ds s.waiting) (op_shows t op o e).successors ∙ ap (perform t s o op rest) (sym is)

nothing_at : (t : Tree) (k : ℕ) (o : Option Head) → (IsSome o → ⊥) → op_with t k o ≡ None
nothing_at t k None n = refl
nothing_at t k (Some h) n = absurd (n refl)

not_live : (t : Tree) (k : ℕ) → (IsLive t k → ⊥) → op_at t k ≡ None
unfolding op_at
not_live t k n = nothing_at t k (head_of t k) n

module _ (m : Meaning) (t : Tree) (s : State) (op : ℕ) (rest : List ℕ) where
  pub turn_of_none : (IsLive t op → ⊥) → turn m t s op rest (op_at t op) ≡ Over (Trapped s.effects)
  turn_of_none n = ap (turn m t s op rest) (not_live t op n)

  turn_moves : (o : Operation) → op_at t op ≡ Some o → turn m t s op rest (op_at t op) ≡ move m t s o op rest (input_of s.environment (operands_of t op) s.answer)
  turn_moves o e = ap (turn m t s op rest) e ∙ ap (λ z. move m t s o op rest (input_of s.environment z s.answer)) (operands_at t op o e)

  pub turn_without : IsLive t op → input_of s.environment (operands_of t op) s.answer ≡ None → turn m t s op rest (op_at t op) ≡ Over (Trapped s.effects)
  turn_without live e = let o = live_at t op live in turn_moves o.0 o.1 ∙ ap (move m t s o.0 op rest) e

  turn_performs : (next : Move) (input : List Datum) → input_of s.environment (operands_of t op) s.answer ≡ Some input → (o : Operation) → op_at t op ≡ Some o → next ≡ m.act (shape_of m t o) s.memo input → perform t s o op rest next ≡ turn m t s op rest (op_at t op)
  turn_performs next input e o at is = sym (turn_moves o at ∙ ap (move m t s o op rest) e ∙ ap (perform t s o op rest) (sym is))

  pub turned : {E : Type 0} (r : Result NextValue E) (next : Move) (input : List Datum) → IsLive t op → input_of s.environment (operands_of t op) s.answer ≡ Some input → ((o : Operation) → op_at t op ≡ Some o → next ≡ m.act (shape_of m t o) s.memo input) → IfOk r (λ n. (o : Operation) → op_at t op ≡ Some o → next_of_value n ≡ perform t s o op rest next) → IfOk r (λ n. next_of_value n ≡ turn m t s op rest (op_at t op))
  turned (Ok n) next input live e acts h = let o = live_at t op live in h o.0 o.1 ∙ turn_performs next input e o.0 o.1 (acts o.0 o.1)
  turned (Err z) next input live e acts h = h

module _ (m : Meaning) (t : Tree) (s : State) where
  pub step_ends : s.rest ≡ [] → leave s s.waiting [] ≡ step m t s
  unfolding step
  step_ends e = sym (ap (step_at m t s) e)

  pub step_turns : (op : ℕ) (rest : List ℕ) → s.rest ≡ op ∷ rest → turn m t s op rest (op_at t op) ≡ step m t s
  unfolding step
  step_turns op rest e = sym (ap (step_at m t s) e)

-- a run of as many steps as are left
module _ (f : State → Next) (n : ℕ) where
  pub run_starts : (s : StateValue) (first : State) → state_of s ≡ first → run_from f (n - 0) (state_of s) ≡ run_from f n first
  run_starts s first e = let count : n - 0 ≡ n = omega arith in ap (λ z. run_from f z (state_of s)) count ∙ ap (run_from f n) e

  module _ (i : ℕ) (s : StateValue) (whole : Next) where
    module _ (lt : i < n) (so_far : run_from f (n - i) (state_of s) ≡ whole) (z : NextValue) where
      one_more : next_of_value z ≡ f (state_of s) → whole ≡ onward (next_of_value z) (run_from f (n - (i + 1)))
      one_more e =
          let count : n - i ≡ suc (n - (i + 1)) = omega arith in
          sym so_far ∙ ap (λ k. run_from f k (state_of s)) count ∙ ap (λ y. onward y (run_from f (n - (i + 1)))) (sym e)

      pub run_goes : (next : StateValue) → next_of_value z ≡ f (state_of s) → z ≡ ContinuesValue next → run_from f (n - (i + 1)) (state_of next) ≡ whole
      run_goes next e is = sym (one_more e ∙ ap (λ y. onward (next_of_value y) (run_from f (n - (i + 1)))) is)

      pub run_over : (sight : SightValue) → next_of_value z ≡ f (state_of s) → z ≡ OverValue sight → sight_of sight ≡ sight_after whole
      run_over sight e is = sym (ap sight_after (one_more e ∙ ap (λ y. onward (next_of_value y) (run_from f (n - (i + 1)))) is))

    pub run_reached : n ≤ i → run_from f (n - i) (state_of s) ≡ whole → Reached (map datum_of_value s.effects.items) ≡ sight_after whole
    run_reached le so_far = let count : n - i ≡ 0 = omega arith in ap (λ k. sight_after (run_from f k (state_of s))) (sym count) ∙ ap sight_after so_far
