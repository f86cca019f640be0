-- The results of a redundant operation have the data of those of its leader.
use Rattle.std.proofs.Common.{◌≡◌, ℕ, Bool, List, [], ◌∷◌, length, map, Option, Some, None, IsSome, false, inl, inr, ⊎_elim, ⊎_elim, slice_get, refl, sym, ap, ap₂, ◌∙◌, subst}
use Rattle.pliron_core.specs.declared.context.Def.TheVariants.{Result}
use Rattle.pliron_core.specs.Changes.{IsDefiningOperationInside}
use Rattle.pliron_core.specs.Tree.{Tree, In, IsInside, IsWithin, head_of, operands_of, successors_of, results_of, region_parent_of, definition_of}
use Rattle.pliron_core.specs.Invariant.{IsTree}
use Rattle.pliron_core.proofs.HoldingLemmas.{some_is, slice_in, inside_up, inside_by, within_inside, holder_by, block_held, inside_or}
use Rattle.pliron_laws.specs.Datum.{Datum, Empty, Head, Shape, Meaning, Give}
use Rattle.pliron_laws.specs.Tree.{Operation, block_at, entry_block, count_arguments, unless, shape_of}
use Rattle.pliron_laws.specs.States.{Environment, State, data_of}
use Rattle.pliron_laws.specs.Laws.{KeepsCounts, GivesAtOnce}
use Rattle.pliron_laws.specs.Root.{IsDominated}
use Rattle.pliron_laws.proofs.Records.{op_shows}
use Rattle.pliron_laws.proofs.BindingLemmas.{data_at}
use Rattle.pliron_theory.specs.Keeps.{IsFit, with_roots}
use Rattle.pliron_theory.specs.Renaming.{MayUse, RunReaches}
use Rattle.pliron_theory.specs.Sweeping.{GivesNow}
use Rattle.pliron_theory.proofs.Bound.{made_within}
use Rattle.pliron_theory.proofs.Reading.{ready_when_reached}
use Rattle.pliron_theory.proofs.ReplacedKeeps.{replaced_keeps}
use Rattle.pliron_theory.proofs.SweptKeeps.{gives_now}
use Rattle.pliron_rewrite_equals.specs.OperationDominance.{DominatesOperation}
use Rattle.pliron_rewrite_equals.specs.Current.{IsCurrent}
use Rattle.pliron_rewrite_equals.specs.Redundancy.{AreAlike, AlikeLaw, IsLeader, LeaderLaw}
use Rattle.pliron_rewrite_equals.proofs.OperationDominance.{dominated_stands, stands_dominated, stands_holder, stands_trans}
use Rattle.pliron_rewrite_equals.proofs.Current.{results_current}

-- the shape of an operation without successors and regions
abbrev plain_shape : Meaning → Head → ℕ → ℕ → Shape
plain_shape m h n r = record { head = h; operands = n; results = r; successors = 0; entry_arguments = []; target_arguments = unless (m.is_branch h) [] }

shape_is : (m : Meaning) (t : Tree) (o : Operation) → o.successors ≡ [] → o.regions ≡ [] → shape_of m t o ≡ plain_shape m o.head (length o.operands) (length o.results)
unfolding shape_of
shape_is m t o none empty =
    ap₂ (λ s r. record { head = o.head; operands = length o.operands; results = length o.results; successors = length s; entry_arguments = map (λ x. count_arguments (entry_block t x)) r; target_arguments = unless (m.is_branch o.head) (map (λ b. count_arguments (block_at t b)) s) }) none empty

give_same : (ds es : List Datum) → Give ds ≡ Give es → ds ≡ es
give_same ds es e = cc

module _ (m : Meaning) (side_effects : Head → Option Bool) (counts : KeepsCounts m) (free : GivesAtOnce m side_effects) (t : Tree) (a b i old new : ℕ) (w : IsTree t) (alike : AreAlike side_effects t a b) (at_b : slice_get (results_of t b) i ≡ Some old) (at_a : slice_get (results_of t a) i ≡ Some new) where
  made_b : definition_of t old ≡ Some (Result b i)
  made_b = w.joined.results b i old at_b

  made_a : definition_of t new ≡ Some (Result a i)
  made_a = w.joined.results a i new at_a

  -- two operations that are alike give the same
  same_given : (env : Environment) → IsCurrent m t env a → IsCurrent m t env b → env old ≡ env new
  same_given env x y =
      let p = op_shows t a x.operation x.liveness in
      let q = op_shows t b y.operation y.liveness in
      let heads : y.operation.head ≡ x.operation.head = some_is (sym q.head ∙ alike.head ∙ p.head) in
      let operands : y.operation.operands ≡ x.operation.operands = sym q.operands ∙ alike.operands ∙ p.operands in
      let results : length y.operation.results ≡ length x.operation.results = ap length (sym q.results) ∙ alike.results ∙ ap length p.results in
      let sx = shape_is m t x.operation (sym p.successors ∙ alike.none_of_first) (sym p.regions ∙ alike.no_region_of_first) in
      let sy = shape_is m t y.operation (sym q.successors ∙ alike.no_successors) (sym q.regions ∙ alike.no_regions) in
      let shapes : shape_of m t y.operation ≡ shape_of m t x.operation = sy ∙ ap (λ h. plain_shape m h (length y.operation.operands) (length y.operation.results)) heads ∙ ap (λ n. plain_shape m x.operation.head (length n) (length y.operation.results)) operands ∙ ap (λ n. plain_shape m x.operation.head (length x.operation.operands) n) results ∙ sym sx in
      let inputs : y.input ≡ x.input = some_is (sym y.has ∙ ap (data_of env) operands ∙ x.has) in
      let given : y.given ≡ x.given = give_same y.given x.given (sym y.gives ∙ ap₂ (λ s ds. m.act s Empty ds) shapes inputs ∙ x.gives) in
      sym (data_at env (results_of t b) y.given (ap (data_of env) q.results ∙ y.results) i old at_b) ∙ ap (λ ds. slice_get ds i) given ∙ data_at env (results_of t a) x.given (ap (data_of env) p.results ∙ x.results) i new at_a

  module _ (root : ℕ) (f : IsFit m t root) where
    b_of_old : IsDefiningOperationInside t root (definition_of t old) → IsInside t root b
    b_of_old x = subst (IsDefiningOperationInside t root) made_b x

    old_of_b : IsInside t root b → IsDefiningOperationInside t root (definition_of t old)
    old_of_b x = subst (IsDefiningOperationInside t root) (sym made_b) x

    a_of_new : IsDefiningOperationInside t root (definition_of t new) → IsInside t root a
    a_of_new x = subst (IsDefiningOperationInside t root) made_a x

    new_of_a : IsInside t root a → IsDefiningOperationInside t root (definition_of t new)
    new_of_a x = subst (IsDefiningOperationInside t root) (sym made_a) x

    behind_b : (user : ℕ) → In old (operands_of t user) → IsInside t root b → DominatesOperation t b user
    behind_b user uses x = dominated_stands t b i user old made_b (f.defined.dominated user old uses (old_of_b x))

    gives : (k : ℕ) → IsInside t root k → ((h : Head) → head_of t k ≡ Some h → side_effects h ≡ Some false) → GivesNow m t k
    gives k inside none = gives_now m side_effects counts free t k (f.linked.admitted k (inr inside)) (λ o e. none o.head (op_shows t k o e).head)

    module _ (own : IsInside t root b → IsInside t root a) (before : IsInside t root a → (user : ℕ) → In old (operands_of t user) → DominatesOperation t a user) where
      may_use : (user : ℕ) → In old (operands_of t user) → MayUse t root user new
      may_use user uses = record {
        own = λ inside. new_of_a (own (b_of_old (f.defined.own_values user old inside uses)));
        no_jumper = λ k inside ne r. ne (ap (successors_of t) (maker k r) ∙ alike.none_of_first);
        dominated = λ made. stands_dominated t a i user new made_a (before (a_of_new made) user uses);
      }
        where
          maker : (k : ℕ) → In new (results_of t k) → k ≡ a
          maker k r =
              let j = slice_in (results_of t k) new r in
              let e : Result k j.0 ≡ Result a i = some_is (sym (w.joined.results k j.0 new j.1) ∙ made_a) in
              cc

      same_datum : (s : State) (k : ℕ) (rest : List ℕ) → RunReaches m t root s → s.rest ≡ k ∷ rest → s.answer ≡ None → In old (operands_of t k) → s.environment old ≡ s.environment new
      same_datum s k rest r e none uses =
          let inside = (ready_when_reached m t root w f s r k rest e none).inside in
          let in_b = b_of_old (f.defined.own_values k old inside uses) in
          let in_a = own in_b in
          same_given s.environment
          (results_current m t root a w f in_a alike.none_of_first (gives a in_a (λ h eh. alike.harmless h (alike.head ∙ eh))) k rest s (before in_a k uses) r e none)
          (results_current m t root b w f in_b alike.no_successors (gives b in_b alike.harmless) k rest s (behind_b k uses in_b) r e none)

pub alike_keep : (m : Meaning) (side_effects : Head → Option Bool) → KeepsCounts m → GivesAtOnce m side_effects → AlikeLaw m side_effects
alike_keep m side_effects counts free t a b i old new w alike at_b at_a own before = replaced_keeps m t old new
    (λ root f user uses. may_use m side_effects counts free t a b i old new w alike at_b at_a root f (own root f) (before root f) user uses)
    (λ root f f' s s' k rest r r' same e e' none none' uses. same_datum m side_effects counts free t a b i old new w alike at_b at_a root f (own root f) (before root f) s k rest r e none uses)

module _ (m : Meaning) (side_effects : Head → Option Bool) (t : Tree) (a b i old new : ℕ) (w : IsTree t) (leads : IsLeader side_effects t a b) (at_b : slice_get (results_of t b) i ≡ Some old) (root : ℕ) (f : IsFit m t root) where
  b_inside : IsInside t root a → IsInside t root b
  b_inside x =
      let h = stands_holder t w a b leads.before in
      let u = inside_up x in
      let s : u.0 ≡ h.0 = some_is (sym u.1 ∙ h.1) in
      within_inside (inside_by h.0 h.2 (subst (IsWithin t root) s u.2)) leads.before.holds

  a_inside : IsInside t root b → IsInside t root a
  a_inside x = go (operands_of t b) refl
    where
      go : (vs : List ℕ) → operands_of t b ≡ vs → IsInside t root a
      go [] e = ⊎_elim
          (λ y. y)
          (λ out.
          let z = leads.near e root x out in
          absurd (z.4 (f.defined.own_values z.0 z.1 z.2 z.3)))
          (inside_or t root a w.joined.rooted)
      go (v ∷ vs) e =
          let used : In v (operands_of t b) = subst (In v) (sym e) (inl refl) in
          let made = f.defined.own_values b v x used in
          let d : IsDominated t a v = f.defined.dominated a v (subst (In v) leads.alike.operands used) made in
          let y = block_held t d.block w.joined (subst IsSome (sym d.in_region) refl) in
          let r : y.0 ≡ d.region = some_is (sym y.2 ∙ d.in_region) in
          let above : IsWithin t root y.1 = made_within t root d.region y.1 (definition_of t v) (ap (region_parent_of t) (sym r) ∙ y.4) d.defined made in
          within_inside (inside_by y.1 (holder_by t d.around d.block y.1 d.in_block y.5) above) d.holds

  behind_a : IsInside t root a → (user : ℕ) → In old (operands_of t user) → DominatesOperation t a user
  behind_a x user uses =
      let e : definition_of t old ≡ Some (Result b i) = w.joined.results b i old at_b in
      stands_trans t w a b user leads.before (dominated_stands t b i user old e (f.defined.dominated user old uses (subst (IsDefiningOperationInside t root) (sym e) (b_inside x))))

pub chosen_counts : (m : Meaning) (chosen : Head → Bool) → KeepsCounts m → KeepsCounts (with_roots m chosen)
chosen_counts m chosen c = record { successors = c.successors; moves = c.moves }

pub leaders_stand : (m : Meaning) (side_effects : Head → Option Bool) → KeepsCounts m → GivesAtOnce m side_effects → LeaderLaw m side_effects
leaders_stand m side_effects counts free t a b i old new w leads at_b at_a = λ chosen.
    alike_keep (with_roots m chosen) side_effects (chosen_counts m chosen counts) free t a b i old new w leads.alike at_b at_a
    (λ root f x. a_inside (with_roots m chosen) side_effects t a b i old new w leads at_b root f x)
    (λ root f x user uses. behind_a (with_roots m chosen) side_effects t a b i old new w leads at_b root f x user uses)
