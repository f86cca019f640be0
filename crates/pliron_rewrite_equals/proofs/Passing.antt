-- The uses of a result go to the operand that it is.
use Rattle.std.proofs.Common.{◌≡◌, ℕ, zero, suc, List, [], ◌∷◌, ◌++◌, length, Option, Some, None, IsSome, inl, inr, ⊎_elim, slice_get, refl, sym, ap, ◌∙◌, subst, append_assoc, arith}
use Rattle.pliron_core.specs.declared.attrs.AttrObj.{AttrObj}
use Rattle.pliron_core.specs.declared.context.Def.{Def}
use Rattle.pliron_core.specs.declared.context.Def.TheVariants.{Result, Argument}
use Rattle.pliron_core.specs.Changes.{IsDefiningOperationInside}
use Rattle.pliron_core.specs.Tree.{Tree, In, IsInside, IsWithin, operands_of, successors_of, results_of, parent_of, body_of, block_parent_of, layout_of, region_parent_of, regions_of, definition_of, first_of}
use Rattle.pliron_core.specs.Invariant.{IsTree}
use Rattle.pliron_core.proofs.ListLemmas.{In-left, In-right, split_at}
use Rattle.pliron_core.proofs.HoldingLemmas.{some_is, in_slice, holder_by, block_held, inside_up, inside_by, within_inside}
use Rattle.pliron_laws.specs.Datum.{Datum, datum_of, Meaning}
use Rattle.pliron_laws.specs.Tree.{Operation, op_at, shape_of}
use Rattle.pliron_laws.specs.States.{Environment, State, prepend_optional, data_of}
use Rattle.pliron_laws.specs.Acting.{AgreeWithKnown}
use Rattle.pliron_laws.specs.Paths.{Path}
use Rattle.pliron_laws.specs.Root.{HasPassed, IsDominated}
use Rattle.pliron_laws.proofs.Records.{op_shows}
use Rattle.pliron_laws.proofs.BindingLemmas.{data_at}
use Rattle.pliron_theory.specs.Keeps.{IsFit}
use Rattle.pliron_theory.specs.Renaming.{MayUse, RunReaches}
use Rattle.pliron_theory.proofs.Alike.{data_long}
use Rattle.pliron_theory.proofs.Bound.{made_within}
use Rattle.pliron_theory.proofs.Reading.{ready_when_reached}
use Rattle.pliron_theory.proofs.ReplacedKeeps.{replaced_keeps}
use Rattle.pliron_theory.proofs.ConstantData.{constant_datum}
use Rattle.pliron_rewrite_equals.specs.OperationDominance.{DominatesOperation}
use Rattle.pliron_rewrite_equals.specs.Passing.{PassesOperand, KnownByMakers, PassingLaw}
use Rattle.pliron_rewrite_equals.proofs.Ways.{part_to}
use Rattle.pliron_rewrite_equals.proofs.OperationDominance.{dominated_stands, stands_holder}
use Rattle.pliron_rewrite_equals.proofs.Given.{results_given}
use Rattle.pliron_rewrite_equals.proofs.Merging.{nothing_inside}

-- what was passed on a part of a way, before an operation that was passed, was passed on the way
passed_early : (t : Tree) → IsTree t → (d : Option Def) (c b : ℕ) (part before done front back : List ℕ) → body_of t c ≡ front ++ b ∷ back → ((z : ℕ) → In z part → In z before) → In c before → (e : ℕ) → HasPassed t d part c front → HasPassed t d before e done
passed_early t w None c b part before done front back body sub here e q = q
passed_early t w (Some (Argument x j)) c b part before done front back body sub here e q = inr (⊎_elim (λ s. subst (λ z. In z before) (sym s) here) (λ i. sub x i) q)
passed_early t w (Some (Result k j)) c b part before done front back body sub here e (inl i) = inr (c, w.bodies.owned k c (subst (In k) (sym body) (In-left k front (b ∷ back) i)), here)
passed_early t w (Some (Result k j)) c b part before done front back body sub here e (inr x) = inr (x.0, x.1, sub x.0 x.2)

passed_longer : (t : Tree) (d : Option Def) (before front more : List ℕ) (b : ℕ) → HasPassed t d before b front → HasPassed t d before b (front ++ more)
passed_longer t None before front more b q = q
passed_longer t (Some (Argument x j)) before front more b q = q
passed_longer t (Some (Result k j)) before front more b (inl i) = inl (In-left k front more i)
passed_longer t (Some (Result k j)) before front more b (inr x) = inr x

-- what dominates an operation dominates what that one stands before
pub dominated_behind : (t : Tree) → IsTree t → (b u v : ℕ) → IsDominated t b v → DominatesOperation t b u → IsDominated t u v
dominated_behind t w b u v p q = ⊎_elim beside above p.holds
  where
    above : IsInside t p.around b → IsDominated t u v
    above y =
        let h = stands_holder t w b u q in
        let x = inside_up y in
        let s : x.0 ≡ h.0 = some_is (sym x.1 ∙ h.1) in
        record {
          around = p.around;
          holds = inr (within_inside (inside_by h.0 h.2 (subst (IsWithin t p.around) s x.2)) q.holds);
          block = p.block;
          region = p.region;
          in_block = p.in_block;
          in_region = p.in_region;
          defined = p.defined;
          passes = p.passes;
        }

    beside : b ≡ p.around → IsDominated t u v
    beside s =
        let block : p.block ≡ q.home = some_is (sym p.in_block ∙ ap (parent_of t) (sym s) ∙ q.in_home) in
        let region : p.region ≡ q.region = some_is (sym p.in_region ∙ ap (block_parent_of t) block ∙ q.home_region) in
        record {
          around = q.around;
          holds = q.holds;
          block = q.block;
          region = q.region;
          in_block = q.in_block;
          in_region = q.in_region;
          defined = p.defined ∙ ap Some region;
          passes = λ entry before done rest fe path split. ⊎_elim
              (λ i.
              let x = split_at b done i in
              let body : body_of t q.block ≡ x.0 ++ b ∷ (x.1 ++ q.around ∷ rest) = split ∙ ap (λ z. z ++ q.around ∷ rest) x.2 ∙ append_assoc x.0 (b ∷ x.1) (q.around ∷ rest) in
              let at : p.block ≡ q.block = block ∙ some_is (sym q.in_home ∙ w.bodies.owned b q.block (subst (In b) (sym body) (In-right b x.0 (b ∷ (x.1 ++ q.around ∷ rest)) (inl refl)))) in
              subst (HasPassed t (definition_of t v) before q.block) (sym x.2) (passed_longer t (definition_of t v) before x.0 (b ∷ x.1) q.block (subst (λ z. HasPassed t (definition_of t v) before z x.0) at (p.passes entry before x.0 (x.1 ++ q.around ∷ rest) (ap (λ r. first_of (layout_of t r) None) region ∙ fe) (subst (λ c. Path t entry c before) (sym at) path) (ap (body_of t) at ∙ body ∙ ap (λ z. x.0 ++ z ∷ (x.1 ++ q.around ∷ rest)) s)))))
              (λ j.
              let y = part_to t entry q.block j.0 before path j.2 in
              let at : p.block ≡ j.0 = block ∙ some_is (sym q.in_home ∙ j.1) in
              let x = split_at b (body_of t j.0) (w.bodies.listed b j.0 j.1) in
              passed_early t w (definition_of t v) j.0 b y.0 before done x.0 x.1 x.2 (λ z i. y.2 z (inr i)) j.2 q.block (subst (λ z. HasPassed t (definition_of t v) y.0 z x.0) at (p.passes entry y.0 x.0 x.1 (ap (λ r. first_of (layout_of t r) None) region ∙ fe) (subst (λ c. Path t entry c y.0) (sym at) y.1) (ap (body_of t) at ∙ x.2 ∙ ap (λ z. x.0 ++ z ∷ x.1) s))))
              (q.passes entry before done rest fe path split);
        }

suc_length : {A B : Type 0} (a : A) (b : B) (xs : List A) (ys : List B) → length (a ∷ xs) ≡ length (b ∷ ys) → length xs ≡ length ys
suc_length a b xs ys e = grind (arith, e)

-- constants that the environment has are known of what is read
known_by : (env : Environment) (known : List (Option AttrObj)) (vs : List ℕ) (ds : List Datum) → length known ≡ length vs → data_of env vs ≡ Some ds → ((p v : ℕ) (c : AttrObj) (d : Datum) → slice_get vs p ≡ Some v → slice_get known p ≡ Some (Some c) → env v ≡ Some d → datum_of c ≡ d) → AgreeWithKnown known ds
known_by env [] [] [] long e h = tt
known_by env [] [] (d ∷ ds) long e h = grind arith
known_by env [] (v ∷ vs) ds long e h = grind arith
known_by env (a ∷ known) [] ds long e h = grind arith
known_by env (a ∷ known) (v ∷ vs) ds long e h = go (env v) refl (data_of env vs) e (λ others f. known_by env known vs others (suc_length a v known vs long) f (λ p x c y i j k. h (suc p) x c y i j k))
  where
    go : (o : Option Datum) → env v ≡ o → (q : Option (List Datum)) → prepend_optional o q ≡ Some ds → ((others : List Datum) → q ≡ Some others → AgreeWithKnown known others) → AgreeWithKnown (a ∷ known) ds
    go None oe q g rest = grind arith
    go (Some d) oe None g rest = grind arith
    go (Some d) oe (Some others) g rest = subst (AgreeWithKnown (a ∷ known)) (some_is g) (first a refl)
      where
        first : (b : Option AttrObj) → a ≡ b → AgreeWithKnown (b ∷ known) (d ∷ others)
        first None ae = rest others refl
        first (Some c) ae = (h zero v c d refl (ap Some ae) oe, rest others refl)

module _ (m : Meaning) (t : Tree) (k i p old v : ℕ) (known : List (Option AttrObj)) (w : IsTree t) (none_next : successors_of t k ≡ []) (at : slice_get (results_of t k) i ≡ Some old) (place : slice_get (operands_of t k) p ≡ Some v) (long : length known ≡ length (operands_of t k)) (makers : KnownByMakers m t known (operands_of t k)) (passes : (o : Operation) → op_at t k ≡ Some o → PassesOperand m (shape_of m t o) known i p) (root : ℕ) (f : IsFit m t root) where
  made_old : definition_of t old ≡ Some (Result k i)
  made_old = w.joined.results k i old at

  used : In v (operands_of t k)
  used = in_slice (operands_of t k) p v place

  k_of_old : IsDefiningOperationInside t root (definition_of t old) → IsInside t root k
  k_of_old x = subst (IsDefiningOperationInside t root) made_old x

  k_of_operand : IsDefiningOperationInside t root (definition_of t v) → IsInside t root k
  k_of_operand made =
      let d = f.defined.dominated k v used made in
      let y = block_held t d.block w.joined (subst IsSome (sym d.in_region) refl) in
      let r : y.0 ≡ d.region = some_is (sym y.2 ∙ d.in_region) in
      within_inside (inside_by y.1 (holder_by t d.around d.block y.1 d.in_block y.5) (made_within t root d.region y.1 (definition_of t v) (ap (region_parent_of t) (sym r) ∙ y.4) d.defined made)) d.holds

  behind : (user : ℕ) → In old (operands_of t user) → IsInside t root k → DominatesOperation t k user
  behind user uses x = dominated_stands t k i user old made_old (f.defined.dominated user old uses (subst (IsDefiningOperationInside t root) (sym made_old) x))

  may_use : (user : ℕ) → In old (operands_of t user) → MayUse t root user v
  may_use user uses = record {
    own = λ inside. f.defined.own_values k v (k_of_old (f.defined.own_values user old inside uses)) used;
    no_jumper = λ j inside ne r. f.defined.unused j v k inside ne r used;
    dominated = λ made. dominated_behind t w k user v (f.defined.dominated k v used made) (behind user uses (k_of_operand made));
  }

  same_datum : (s : State) (u : ℕ) (rest : List ℕ) → RunReaches m t root s → s.rest ≡ u ∷ rest → s.answer ≡ None → In old (operands_of t u) → s.environment old ≡ s.environment v
  unfolding shape_of
  same_datum s u rest r e quiet uses =
      let inside = (ready_when_reached m t root w f s r u rest e quiet).inside in
      let in_k = k_of_old (f.defined.own_values u old inside uses) in
      let g = results_given m t root k w f in_k none_next u rest s (behind u uses in_k) r e quiet in
      let o = op_shows t k g.operation g.liveness in
      let has : data_of s.environment (operands_of t k) ≡ Some g.first = ap (data_of s.environment) o.operands ∙ g.has in
      let knows : AgreeWithKnown known g.first = known_by s.environment known (operands_of t k) g.first long has (λ q x c d a b h.
      let n = makers q x c a b in
      sym (constant_datum m t w root n.0 x (datum_of c) n.1 (λ same. nothing_inside t root k w (ap (regions_of t) same ∙ n.1.regions) in_k) s r d h)) in
      sym (data_at s.environment (results_of t k) g.given (ap (data_of s.environment) o.results ∙ g.results) i old at)
      ∙ passes g.operation g.liveness g.first (data_long s.environment g.operation.operands g.first g.has) knows g.later g.memo g.input g.given g.comes g.gives
      ∙ data_at s.environment (operands_of t k) g.first has p v place

pub passing : PassingLaw
passing m t k i p old v known w none_next at place long makers passes = replaced_keeps m t old v
    (λ root f user uses. may_use m t k i p old v known w none_next at place long makers passes root f user uses)
    (λ root f f' s s' u rest r r' same e e' none none' uses. same_datum m t k i p old v known w none_next at place long makers passes root f s u rest r e none uses)
