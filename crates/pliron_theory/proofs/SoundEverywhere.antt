-- Sound facts inside one operation are confirmed by the runs of every root that is fit to run.
use Rattle.std.proofs.Common.{◌≡◌, ◌≢◌, ◌⊎◌, inl, inr, ⊎_elim, ℕ, Bool, true, false, true≢false, List, [], ◌∷◌, Some, None, slice_get, refl, sym, ap, ◌∙◌, subst, arith, IsTrue}
use Rattle.std.proofs.lemmas.Bool.{cases_eq}
use Rattle.pliron_core.specs.Changes.{IsDefinedInside, IsDefiningOperationInside}
use Rattle.pliron_core.specs.Tree.{Tree, In, IsInside, IsWithin, HoldsBlock, first_of, parent_of, successors_of, results_of, arguments_of, regions_of, layout_of, block_parent_operation_of, region_parent_of, parent_operation_of, up_from, op_of_slot}
use Rattle.pliron_core.specs.Tree.IsInside.{Directly, Deeper}
use Rattle.pliron_core.specs.Invariant.{IsTree}
use Rattle.pliron_core.proofs.HoldingLemmas.{some_is, in_slice, slice_in, holder_is, holder_by, inside_up, inside_by, deeper, not_itself, inside_or, block_inside}
use Rattle.pliron_laws.specs.Datum.{datum_of}
use Rattle.pliron_laws.specs.Tree.{Operation, op_at, shape_of}
use Rattle.pliron_laws.specs.Folding.{AnswersTrue, AnswersJumps}
use Rattle.pliron_laws.specs.Linked.{EndsBlock}
use Rattle.pliron_theory.specs.Keeps.{IsFit}
use Rattle.pliron_theory.specs.Renaming.{IsReadAs}
use Rattle.pliron_laws.proofs.Records.{op_shows}
use Rattle.pliron_theory.proofs.Reading.{ready_when_reached}
use Rattle.pliron_theory.specs.LatticeValues.{LatticeValue, NotAConstant, AtMost, LatticeValues, Says, IsInExecutableBlock, IsFeasibleEdge, Forwards, IsBelowNamed, AreBelowNamed}
use Rattle.pliron_theory.specs.Sound.{AreSound, IsMadeThere, IsRightResult, SoundFactsLaw}
use Rattle.pliron_theory.proofs.SoundRuns.{PassesForwarded, NamesWell, MayMove, AreKept, constants_read}
use Rattle.pliron_theory.proofs.FactLattice.{unknown_below}
use Rattle.pliron_laws.proofs.ShapeLemmas.{head_at, live_at, shape_head}

module _ (t : Tree) (w : IsTree t) where
  first_in : (xs : List ℕ) (a : ℕ) → first_of xs None ≡ Some a → In a xs
  first_in [] a e = grind arith
  first_in (x ∷ xs) a e = inl (sym (some_is e))

  -- the entry of a region is held by the region's operation
  pub entry_holder : (k r b : ℕ) → In r (regions_of t k) → first_of (layout_of t r) None ≡ Some b → block_parent_operation_of t b ≡ Some k
  entry_holder k r b i e =
      let at = slice_in (regions_of t k) r i in
      ap (λ o. up_from o (λ r. region_parent_of t r)) (w.layouts.owned b r (first_in (layout_of t r) b e)) ∙ ap op_of_slot (w.joined.regions k at.0 r at.1)

  -- what holds a block beside the one that an operation ends holds the operation too
  pub beside_holder : (k c h : ℕ) → (ends : EndsBlock t k) → In c (successors_of t k) → block_parent_operation_of t c ≡ Some h → parent_operation_of t k ≡ Some h
  beside_holder k c h ends i e =
      holder_by t k ends.block h ends.in_block (ap (λ o. up_from o (λ r. region_parent_of t r)) (sym (ends.own_region c i)) ∙ e)

module _ (says : Says) (t : Tree) (root : ℕ) (f : LatticeValues) (read : ℕ → LatticeValue) (w : IsTree t) (names : NamesWell says) (sound : AreSound says t root f read) where
  -- a block inside the root is one that is reached
  abbrev pub Comes_to : ℕ → Type 0
  Comes_to b = HoldsBlock t root b → IsTrue (f.is_executable b)

  -- the other root is in a block that is reached, where it is inside this one
  abbrev pub Counts : ℕ → Type 0
  Counts other = IsWithin t root other → (other ≡ root) ⊎ IsInExecutableBlock t f other

  module _ (other : ℕ) (counts : Counts other) (fit : IsFit says.meaning t other) where
    liveness : (k : ℕ) → MayMove t other Comes_to k → IsInside t root k → IsInExecutableBlock t f k
    liveness k may inside = (may.1.0, may.1.1, may.1.2 (block_inside may.1.0 may.1.1 inside))

    within_or : (k : ℕ) → IsWithin t root k ⊎ (IsWithin t root k → ⊥)
    within_or k = elim (cases_eq k root) [
      | inl e ↦ inl (inl e)
      | inr ne ↦ ⊎_elim (λ i. inl (inr i)) (λ never. inr (λ x. neither k ne never x)) (inside_or t root k w.joined.rooted)
    ]
      where
        neither : (k : ℕ) → k ≢ root → (IsInside t root k → ⊥) → IsWithin t root k → ⊥
        neither k ne never (inl e) = ne e
        neither k ne never (inr i) = never i

    -- the other root's own regions: it names nothing, since it may be a root
    root_visits : (r b : ℕ) → In r (regions_of t other) → first_of (layout_of t r) None ≡ Some b → Comes_to b × ((v : ℕ) → In v (arguments_of t b) → read v ≡ NotAConstant)
    root_visits r b i e = (comes, arguments (within_or other))
      where
        held : block_parent_operation_of t b ≡ Some other
        held = entry_holder t w other r b i e

        inside : IsInExecutableBlock t f other → (o : Operation) → op_at t other ≡ Some o → IsTrue (f.is_executable b) × ((v : ℕ) → In v (arguments_of t b) → read v ≡ NotAConstant)
        inside liveness o at =
            let place = slice_in o.regions r (subst (In r) (op_shows t other o at).regions i) in
            let y = sound.entries other place.0 r b o liveness at place.1 e in
            let may : IsTrue (says.meaning.may_be_root (shape_of says.meaning t o).head) = ap says.meaning.may_be_root (shape_head says.meaning t o) ∙ fit.chosen o.head (head_at t other o at) in
            (y.0, λ v j. let p = slice_in (arguments_of t b) v j in subst (λ z. IsBelowNamed read read o.operands z v) (names.roots (shape_of says.meaning t o) may place.0 p.0) (y.1 p.0 v p.1))

        entered : (other ≡ root) ⊎ IsInExecutableBlock t f other → IsTrue (f.is_executable b) × ((v : ℕ) → In v (arguments_of t b) → read v ≡ NotAConstant)
        entered (inl s) = sound.root_entries r b (subst (λ z. In r (regions_of t z)) s i) e
        entered (inr liveness) = let o = live_at t other fit.live in inside liveness o.0 o.1

        comes : Comes_to b
        comes (h, is, within) = (entered (counts (subst (IsWithin t root) (some_is (sym is ∙ held)) within))).0

        arguments : IsWithin t root other ⊎ (IsWithin t root other → ⊥) → (v : ℕ) → In v (arguments_of t b) → read v ≡ NotAConstant
        arguments (inl within) v j = (entered (counts within)).1 v j
        arguments (inr never) v j = sound.no_arguments b v (λ h. never (subst (IsWithin t root) (some_is (sym h.1 ∙ held)) h.2)) j

    visits : (k i r b : ℕ) (o : Operation) → MayMove t other Comes_to k → op_at t k ≡ Some o → slice_get o.regions i ≡ Some r → first_of (layout_of t r) None ≡ Some b → Comes_to b × AreBelowNamed says t read read o i b
    visits k i r b o may at place e = (comes, arguments (within_or k))
      where
        listed : In r (regions_of t k)
        listed = subst (In r) (sym (op_shows t k o at).regions) (in_slice o.regions i r place)

        held : block_parent_operation_of t b ≡ Some k
        held = entry_holder t w k r b listed e

        unknown : ((v : ℕ) → In v (arguments_of t b) → read v ≡ NotAConstant) → AreBelowNamed says t read read o i b
        unknown none j v a = unknown_below read read o.operands (says.entry_operands (shape_of says.meaning t o) i j) v (none v (in_slice (arguments_of t b) j v a))

        entered : IsWithin t root k → IsTrue (f.is_executable b) × AreBelowNamed says t read read o i b
        entered (inl s) = let y = sound.root_entries r b (subst (λ z. In r (regions_of t z)) s listed) e in (y.0, unknown y.1)
        entered (inr inside) = sound.entries k i r b o (liveness k may inside) at place e

        comes : Comes_to b
        comes (h, is, within) = (entered (subst (IsWithin t root) (some_is (sym is ∙ held)) within)).0

        arguments : IsWithin t root k ⊎ (IsWithin t root k → ⊥) → AreBelowNamed says t read read o i b
        arguments (inl within) = (entered within).1
        arguments (inr never) = unknown (λ v j. sound.no_arguments b v (λ h. never (subst (IsWithin t root) (some_is (sym h.1 ∙ held)) h.2)) j)

    jumps : (k i b : ℕ) (o : Operation) → MayMove t other Comes_to k → op_at t k ≡ Some o → IsFeasibleEdge says t f o i b → Comes_to b × ((j v : ℕ) → slice_get (arguments_of t b) j ≡ Some v → (read v ≡ NotAConstant) ⊎ (IsTrue (says.meaning.is_branch o.head) × ((y : ℕ) → Forwards says t o i j y → AtMost (read v) (read y))))
    jumps k i b o may e go = by (inside_or t root k w.joined.rooted)
      where
        target : In b (successors_of t k)
        target = subst (In b) (sym (op_shows t k o e).successors) (in_slice o.successors i b go.0)

        not_held : (IsInside t root k → ⊥) → HoldsBlock t root b → ⊥
        not_held never (h, is, within) = never (inside_by h (beside_holder t w k b h (fit.linked.edges k b target (inl may.0)) target is) within)

        by : IsInside t root k ⊎ (IsInside t root k → ⊥) → Comes_to b × ((j v : ℕ) → slice_get (arguments_of t b) j ≡ Some v → (read v ≡ NotAConstant) ⊎ (IsTrue (says.meaning.is_branch o.head) × ((y : ℕ) → Forwards says t o i j y → AtMost (read v) (read y))))
        by (inl inside) = let x = sound.jumps k i b o (liveness k may inside) e go in ((λ h. x.0), x.1)
        by (inr never) = ((λ h. absurd (not_held never h)), λ j v at. inl (sound.no_arguments b v (not_held never) (in_slice (arguments_of t b) j v at)))

    results : (k i v : ℕ) (o : Operation) → MayMove t other Comes_to k → op_at t k ≡ Some o → slice_get o.results i ≡ Some v → IsRightResult says t f read k i v o
    results k i v o may e at = by (inside_or t root k w.joined.rooted)
      where
        by : IsInside t root k ⊎ (IsInside t root k → ⊥) → IsRightResult says t f read k i v o
        by (inl inside) = sound.results k i v o (liveness k may inside) e at
        by (inr never) = inl (sound.no_results k v never (subst (In v) (sym (op_shows t k o e).results) (in_slice o.results i v at)))

    pub kept : AreKept says t other Comes_to f read
    kept = record { finer = sound.finer; root_visits = root_visits; visits = visits; jumps = jumps; results = results }

  -- nothing in a root that stands where runs do not come is in a block that is reached
  module _ (other : ℕ) (inside : IsInside t root other) (away : IsInExecutableBlock t f other → ⊥) where
    not_root : (k : ℕ) → IsWithin t other k → k ≢ root
    not_root k (inl e) s = not_itself w.joined.rooted (subst (λ z. IsInside t root z) (sym e ∙ s) inside)
    not_root k (inr i) s = not_itself w.joined.rooted (deeper inside (subst (IsInside t other) s i))

    held_stands : (b k : ℕ) → IsWithin t other k → IsTrue (f.is_executable b) → block_parent_operation_of t b ≡ Some k → IsInExecutableBlock t f k
    held_stands b k within reached e = ⊎_elim (λ s. absurd (not_root k within s)) (λ x. x) (sound.held b k reached e)

    none_inside : (k : ℕ) → IsInside t other k → IsInExecutableBlock t f k → ⊥
    none_inside k (Directly e) (b, p, reached) = away (held_stands b other (inl refl) reached (sym (ap (λ o. up_from o (λ b. block_parent_operation_of t b)) p) ∙ e))
    none_inside k (Deeper h e i) (b, p, reached) = none_inside h i (held_stands b h (inr i) reached (sym (ap (λ o. up_from o (λ b. block_parent_operation_of t b)) p) ∙ e))

    none_within : (k : ℕ) → IsWithin t other k → IsInExecutableBlock t f k → ⊥
    none_within k (inl e) s = away (subst (IsInExecutableBlock t f) e s)
    none_within k (inr i) s = none_inside k i s

    pub not_made : (v : ℕ) → IsMadeThere t f v → IsDefinedInside t other v → ⊥
    not_made v (inl (k, s, i)) made =
        let at = slice_in (results_of t k) v i in
        none_inside k (subst (IsDefiningOperationInside t other) (w.joined.results k at.0 v at.1) made) s
    not_made v (inr (b, reached, i)) made =
        let at = slice_in (arguments_of t b) v i in
        let holds : HoldsBlock t other b = subst (IsDefiningOperationInside t other) (w.joined.arguments b at.0 v at.1) made in
        none_within holds.0 holds.2 (held_stands b holds.0 holds.2 reached holds.1)

-- every root that is fit to run, whether it stands inside this one, around it or elsewhere
pub sound_facts : (says : Says) → AnswersTrue says.meaning says.can_fold says.constants → AnswersJumps says.meaning says.can_fold_branch says.feasible → PassesForwarded says.meaning → NamesWell says → SoundFactsLaw says
sound_facts says answers branches passes names t root f read w sound v c made is other fit = by (inside_or t root other w.joined.rooted)
  where
    counts_then : Counts says t root f read w names sound other → IsReadAs says.meaning t v (datum_of c) other
    counts_then counts = constants_read says answers branches passes names t other (Comes_to says t root f read w names sound) f read w fit (kept says t root f read w names sound other counts fit) v c is

    outer : (IsInside t root other → ⊥) → Counts says t root f read w names sound other
    outer never (inl e) = inl e
    outer never (inr i) = absurd (never i)

    here : IsInside t root other → (b : ℕ) → parent_of t other ≡ Some b → (x : Bool) → f.is_executable b ≡ x → IsReadAs says.meaning t v (datum_of c) other
    here inside b p true e = counts_then (λ within. inr (b, p, e))
    here inside b p false e = λ s k rest r q none i.
        let ready = ready_when_reached says.meaning t other w fit s r k rest q none in
        absurd (not_made says t root f read w names sound other inside away v made (fit.defined.own_values k v ready.inside i))
      where
        away : IsInExecutableBlock t f other → ⊥
        away (d, q, reached) = let same : d ≡ b = some_is (sym q ∙ p) in absurd (true≢false (sym reached ∙ ap f.is_executable same ∙ e))

    by : IsInside t root other ⊎ (IsInside t root other → ⊥) → IsReadAs says.meaning t v (datum_of c) other
    by (inl inside) =
        let up = inside_up inside in
        let p = holder_is t other up.0 up.1 in
        here inside p.0 p.1 _ refl
    by (inr never) = counts_then (outer never)
