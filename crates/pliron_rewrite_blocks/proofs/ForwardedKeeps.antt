-- The uses of an argument may go to the value that is forwarded to it.
use Rattle.std.proofs.Common.{arith, false, ◌≡◌, inr, ℕ, zero, suc, Bool, List, [], ◌∷◌, map, Some, None, slice_get, refl, sym, ap, ◌∙◌}
use Rattle.pliron_core.specs.Tree.{Tree, In, first_of, IsInside, head_of, operands_of, arguments_of, layout_of}
use Rattle.pliron_core.specs.Invariant.{IsTree}
use Rattle.pliron_core.specs.Writes.{after_replacing}
use Rattle.pliron_core.proofs.HoldingLemmas.{some_is, not_none, in_slice, some_of}
use Rattle.pliron_laws.specs.Datum.{Datum, Empty, Head, Shape, Meaning}
use Rattle.pliron_laws.specs.Tree.{Operation, op_at, shape_of}
use Rattle.pliron_laws.specs.Acting.{Begins, pick}
use Rattle.pliron_laws.specs.Laws.{ForwardsOperands}
use Rattle.pliron_laws.specs.Answers.{HeadPasses, AreForwarded}
use Rattle.pliron_theory.specs.Keeps.{IsFit, KeepsRuns, with_roots}
use Rattle.pliron_theory.proofs.ChosenRoots.{forwards_operands as chosen_forwards}
use Rattle.pliron_laws.proofs.Records.{op_shows, make_op, operation_of}
use Rattle.pliron_theory.proofs.Alike.{data_long}
use Rattle.pliron_theory.proofs.KnownData.{picked_at}
use Rattle.pliron_theory.proofs.SweptKeeps.{admitted_shape}
use Rattle.pliron_theory.proofs.JumpsNow.{jumps_now}
use Rattle.pliron_theory.proofs.Reading.{ready_when_reached}
use Rattle.pliron_theory.proofs.ReplacedKeeps.{replaced_keeps}
use Rattle.pliron_rewrite_blocks.specs.Forwarding.{LeadsAlone, ForwardingLaw}
use Rattle.pliron_laws.proofs.BindingLemmas.{data_at}
use Rattle.pliron_rewrite_blocks.proofs.ForwardedUses.{region, held, jump_in, jump_of_b, b_of_p, may_use}
use Rattle.pliron_rewrite_blocks.proofs.ForwardedData.{HandsOn, same_datum}

mapped : {A : Type 0} (xs ys : List A) (n : ℕ) (x : A) → slice_get xs n ≡ Some x → slice_get (map Some xs) n ≡ Some (Some x)
mapped [] ys n x e = absurd (not_none e)
mapped (y ∷ xs) ys zero x e = ap Some e
mapped (y ∷ xs) ys (suc n) x e = mapped xs ys n x e

module _ (m : Meaning) (can_fold : Head → Bool) (SameTests : Head → Head → Type 0) (shortened : Shape → ℕ → ℕ → Head) (law : ForwardsOperands m can_fold SameTests shortened) (t : Tree) (a b jump i p v : ℕ) (front values : List ℕ) (w : IsTree t) (h : LeadsAlone t a b jump front) (branch : HeadPasses m.is_branch t jump) (forwarded : AreForwarded m t jump 0 values) (at : slice_get (arguments_of t b) i ≡ Some p) (there : slice_get values i ≡ Some v) (out : In v (arguments_of t b) → ⊥) where
  -- the place of the value among the operands
  place : (o : Operation) → op_at t jump ≡ Some o → (q : ℕ) × (slice_get (m.forwarded (shape_of m t o) 0) i ≡ Some q) × (slice_get o.operands q ≡ Some v)
  place o e = picked_at (m.forwarded (shape_of m t o) 0) o.operands i (Some v) (ap (λ z. slice_get z i) (sym (forwarded o e)) ∙ mapped values values i v there)

  live : (x : Head) × (head_of t jump ≡ Some x)
  live = some_of (head_of t jump) (w.joined.all_in_place jump a (jump_in t w a b jump front h)).0

  used : In v (operands_of t jump)
  used =
      let o = operation_of t jump live.0 in
      let q = place o (make_op t jump live.0 live.1) in
      in_slice (operands_of t jump) q.0 v q.2

  first : (xs : List ℕ) → In a xs → (x : ℕ) × (first_of xs None ≡ Some x)
  first [] e = absurd e
  first (x ∷ xs) e = (x, refl)

  entry : (x : ℕ) × (first_of (layout_of t (region t w a b jump front h)) None ≡ Some x)
  entry = first (layout_of t (region t w a b jump front h)) (w.layouts.listed a (region t w a b jump front h) (held t w a b jump front h).2)

  hands : (root : ℕ) → IsFit m t root → IsInside t root jump → HandsOn m t jump i v
  unfolding shape_of
  hands root f inside o env first ds e reads acts =
      let s = op_shows t jump o e in
      let ad = admitted_shape m t jump o e (f.linked.admitted jump (inr inside)) in
      let passed = law.passes (shape_of m t o) ad (branch o.head s.head) first (data_long env o.operands first reads) false Empty first 0 ds Begins acts in
      let q = place o e in
      at_place ds (m.forwarded (shape_of m t o) 0) first q.0 q.1 passed ∙ data_at env o.operands first reads q.0 v q.2
    where
      at_place : (ds : List Datum) (places : List ℕ) (first : List Datum) (q : ℕ) → slice_get places i ≡ Some q → map Some ds ≡ pick places first → slice_get ds i ≡ slice_get first q
      at_place ds places first q e f = go ds places i e f
        where
          go : (ds : List Datum) (places : List ℕ) (n : ℕ) → slice_get places n ≡ Some q → map Some ds ≡ pick places first → slice_get ds n ≡ slice_get first q
          go [] [] n e f = absurd (not_none e)
          go [] (x ∷ places) n e f = grind arith
          go (d ∷ ds) [] n e f = grind arith
          go (d ∷ ds) (x ∷ places) zero e f = let g : Some d ≡ slice_get first x = cc in g ∙ ap (slice_get first) (some_is e)
          go (d ∷ ds) (x ∷ places) (suc n) e f = let g : map Some ds ≡ pick places first = cc in go ds places n e g

  pub forwarded_keeps : KeepsRuns m t (after_replacing t p v)
  forwarded_keeps = replaced_keeps m t p v
      (λ root f user uses. may_use t w a b jump front h m i p v at used root f user uses)
      (λ root f f' s s' k rest r r' same e e' none none' uses.
      let ready = ready_when_reached m t root w f s r k rest e none in
      let inside = jump_of_b t w a b jump front h m i p v at used root f (b_of_p t w a b jump front h m i p v at used root f (f.defined.own_values k p ready.inside uses)) in
      same_datum m t w a b jump front h i p v at used out root f inside (jumps_now m can_fold SameTests shortened law t root jump b f inside branch h.goes) (hands root f inside) entry.0 entry.1 s r k rest e none uses)

pub forwarding : (m : Meaning) (can_fold : Head → Bool) (SameTests : Head → Head → Type 0) (shortened : Shape → ℕ → ℕ → Head) → ForwardsOperands m can_fold SameTests shortened → ForwardingLaw m
unfolding shape_of
forwarding m can_fold SameTests shortened law t a b jump i p v front values w h branch forwarded at there out = λ chosen.
    forwarded_keeps (with_roots m chosen) can_fold SameTests shortened (chosen_forwards m chosen can_fold SameTests shortened law) t a b jump i p v front values w h branch forwarded at there out
