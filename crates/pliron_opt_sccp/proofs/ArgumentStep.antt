-- One constant that is put for an argument.
use Rattle.std.proofs.Common.{◌≡◌, inl, inr, ℕ, zero, suc, ◌+◌, ◌<◌, ◌≤◌, Bool, false, [], ◌∷◌, ◌++◌, drop, take, if◌then◌else◌, List, Option, Some, None, length, IsSome, is_some, slice_get, refl, sym, ap, ◌∙◌, subst, arith, IsTrue}
use Rattle.std.proofs.lemmas.List.{get_or_past, drop_all}
use Rattle.pliron_core.specs.declared.attrs.AttrObj.{AttrObj}
use Rattle.pliron_core.specs.declared.attrs.Head.{Head}
use Rattle.pliron_core.specs.declared.attrs.IRStatus.{IRStatus}
use Rattle.pliron_core.specs.declared.attrs.IRStatus.TheVariants.{Changed, Unchanged}
use Rattle.pliron_core.specs.Tree.{Tree, IsLive, no_entry, row_of, arguments_of}
use Rattle.pliron_core.specs.Invariant.{IsTree}
use Rattle.pliron_core.specs.Changes.{IsSameTree}
use Rattle.pliron_core.proofs.GrownLemmas.{get_last, get_last_same}
use Rattle.pliron_core.proofs.HoldingLemmas.{some_is, in_slice}
use Rattle.pliron_core.proofs.SameTreeLemmas.{same_refl}
use Rattle.pliron_core.proofs.TreeLemmas.{live-within}
use Rattle.pliron_laws.specs.Folding.{AnswersTrue, AnswersJumps, MakesConstants}
use Rattle.pliron_theory.specs.Keeps.{KeepsRuns}
use Rattle.pliron_theory.specs.Rewrites.{materialised_first, BecomesIfAccepted, ReplacesArgument, IsConstant}
use Rattle.pliron_laws.proofs.ConstantLemmas.{new_row}
use Rattle.pliron_theory.proofs.SoundRuns.{PassesForwarded, NamesWell}
use Rattle.pliron_opt_sccp.specs.declared.rewrite.ConstantArgument.{ConstantArgument}
use Rattle.pliron_theory.specs.LatticeValues.{LatticeValues, Says}
use Rattle.pliron_theory.specs.Following.{Follows}
use Rattle.pliron_opt_sccp.specs.RewriteSteps.{IsArgumentStep, ReportsCreated, AreArgumentSteps, IsPuttingOn, is_known_argument, AreKnownArguments}
use Rattle.pliron_opt_sccp.specs.Chain.{KnownArgument, all_put, IsPartlyPut}
use Rattle.pliron_opt_sccp.proofs.StepLemmas.{told_then}
use Rattle.pliron_core.specs.Status.{changed_by_either}
use Rattle.pliron_theory.proofs.FollowedFacts.{argument_constant, argument_on, same_on}

first_row : (t : Tree) (b v k : ℕ) (head : Head) → k < length t.operations → row_of (materialised_first t b v head) k ≡ row_of t k
first_row t b v k head lt = elim (get_last t.operations (new_row t head) no_entry k) [ inl e ↦ e | inr e ↦ absurd (omega (arith, lt, e.2)) ]

first_row-new : (t : Tree) (b v : ℕ) (head : Head) → row_of (materialised_first t b v head) (length t.operations) ≡ new_row t head
first_row-new t b v head = get_last_same t.operations (new_row t head) no_entry

module _ (accepts : AttrObj → Bool) (head : AttrObj → Head) (attr : AttrObj) (t u : Tree) (b v : ℕ) where
  abbrev pub Becomes : Option IRStatus → Type 0
  Becomes (Some status) = BecomesIfAccepted accepts attr (materialised_first t b v (head attr)) t u status
  Becomes None = IsSameTree t u

  pub becomes_stays : (a : Option IRStatus) → Becomes a → (k : ℕ) → IsLive t k → IsLive u k
  becomes_stays (Some Changed) (ok, e) k l = subst (λ z. IsLive z k) (sym e) (subst (λ r. IsSome r.head) (sym (first_row t b v k (head attr) (live-within t k l))) l)
  becomes_stays (Some Unchanged) (ok, e) k l = subst (λ z. IsLive z k) (sym e) l
  becomes_stays None same k l = subst (λ r. IsSome r.head) (sym (same.operations k)) l

  pub becomes_told : (status : IRStatus) → Becomes (Some status) → ReportsCreated status t u
  becomes_told Unchanged (over, e) = subst (IsSameTree t) (sym e) (same_refl t)
  becomes_told Changed (ok, e) = (
    length t.operations,
    ap (λ z. z.head) (get_or_past t.operations (length t.operations) no_entry (omega arith)),
    subst (λ z. IsLive z (length t.operations)) (sym e) (ap (λ z. is_some z.head) (first_row-new t b v (head attr))),
  )

module _ (x : Says) (t₀ : Tree) (root : ℕ) (f₀ : LatticeValues) (t : Tree) (argument : ConstantArgument) (s : IsArgumentStep x t₀ root f₀ t argument) where
  pub argument_listed : slice_get (arguments_of t argument.block) argument.index ≡ Some s.known.value
  argument_listed = ap (λ z. slice_get z argument.index) (s.follows.arguments argument.block) ∙ s.known.listed

  module _ (answers : AnswersTrue x.meaning x.can_fold x.constants) (jumps : AnswersJumps x.meaning x.can_fold_branch x.feasible) (passes : PassesForwarded x.meaning) (names : NamesWell x) (accepts : AttrObj → Bool) (head : AttrObj → Head) (makes : MakesConstants x.meaning accepts head) (plain : (attr : AttrObj) → IsTrue (accepts attr) → x.meaning.is_branch (head attr) ≡ false) where
    pub step_constant : (v : ℕ) → slice_get (arguments_of t argument.block) argument.index ≡ Some v → IsConstant x.meaning t v argument.attr
    step_constant v e =
        subst (λ z. IsConstant x.meaning t z argument.attr) (some_is (sym argument_listed ∙ e))
        (argument_constant x t₀ root f₀ s.first answers jumps passes names accepts head makes plain t s.follows argument.block s.known.value argument.attr s.known.reached (in_slice (arguments_of t₀ argument.block) argument.index s.known.value s.known.listed) s.known.constant)

    pub argument_follows : (u : Tree) (a : Option IRStatus) → Becomes accepts head argument.attr t u argument.block s.known.value a → IsTree u → KeepsRuns x.meaning t u → Follows x t₀ root f₀ u
    argument_follows u None same w keeps = same_on x t₀ root f₀ s.first t u s.follows w same keeps.grows
    argument_follows u (Some Unchanged) (over, e) w keeps = subst (Follows x t₀ root f₀) (sym e) s.follows
    argument_follows u (Some Changed) (accepted, e) w keeps =
        subst (Follows x t₀ root f₀) (sym e)
        (argument_on x t₀ root f₀ s.first answers jumps passes names accepts head makes plain t s.follows argument.block s.known.value argument.attr s.known.reached (in_slice (arguments_of t₀ argument.block) argument.index s.known.value s.known.listed) s.known.constant accepted (subst IsTree e w) (subst (KeepsRuns x.meaning t) e keeps))

drop_known : (t₀ : Tree) (xs : List ConstantArgument) (ks : List KnownArgument) → AreKnownArguments t₀ xs ks → (i : ℕ) (a : ConstantArgument) → slice_get xs i ≡ Some a → (k : KnownArgument) × is_known_argument t₀ a k × (drop i ks ≡ k ∷ drop (i + 1) ks)
drop_known t₀ [] [] s i a e = absurd (grind arith)
drop_known t₀ [] (k ∷ ks) s i a e = absurd s
drop_known t₀ (x ∷ xs) [] s i a e = absurd s
drop_known t₀ (x ∷ xs) (k ∷ ks) s zero a e = (k, subst (λ z. is_known_argument t₀ z k) (some_is e) s.0, refl)
drop_known t₀ (x ∷ xs) (k ∷ ks) s (suc i) a e =
    let p = drop_known t₀ xs ks s.1 i a e in
    let one : suc i + 1 ≡ suc (i + 1) = omega arith in
    (p.0, p.1, p.2 ∙ ap (λ n. p.0 ∷ drop n (k ∷ ks)) (sym one))

take_one : (ks : List KnownArgument) (i : ℕ) (k : KnownArgument) (more : List KnownArgument) → drop i ks ≡ k ∷ more → take (i + 1) ks ≡ take i ks ++ k ∷ []
take_one [] zero k more e = grind arith
take_one [] (suc i) k more e = grind arith
take_one (x ∷ ks) zero k more e = let s : x ≡ k = cc in ap (λ z. z ∷ []) s
take_one (x ∷ ks) (suc i) k more e =
    let one : suc i + 1 ≡ suc (i + 1) = omega arith in ap (λ n. take n (x ∷ ks)) one ∙ ap (λ z. x ∷ z) (take_one ks i k more e)

as_long : (t₀ : Tree) (xs : List ConstantArgument) (ks : List KnownArgument) → AreKnownArguments t₀ xs ks → length xs ≡ length ks
as_long t₀ [] [] s = refl
as_long t₀ [] (k ∷ ks) s = absurd s
as_long t₀ (x ∷ xs) [] s = absurd s
as_long t₀ (x ∷ xs) (k ∷ ks) s = ap (λ n. suc n) (as_long t₀ xs ks s.1)

module _ (x : Says) (accepts : AttrObj → Bool) (head : AttrObj → Head) (start : Tree) (arguments : List ConstantArgument) where
  all_put_end : (known : List KnownArgument) (t : Tree) (a : KnownArgument) → all_put accepts head (known ++ a ∷ []) t ≡ (if accepts a.attr then materialised_first (all_put accepts head known t) a.block a.value (head a.attr) else all_put accepts head known t)
  all_put_end [] t a = refl
  all_put_end (k ∷ known) t a = all_put_end known (if accepts k.attr then materialised_first t k.block k.value (head k.attr) else t) a

  pub putting_start : IsPuttingOn x accepts head start arguments 0 Unchanged start
  putting_start = record { follows = λ t₀ root f₀ s. s.follows; puts = λ t₀ root f₀ s known each. (refl, refl); reported = same_refl start; stays = λ k l. l }

  pub putting_can : (i : ℕ) (status : IRStatus) (now : Tree) → IsPuttingOn x accepts head start arguments i status now → (a : ConstantArgument) → slice_get arguments i ≡ Some a → (t₀ : Tree) (root : ℕ) (f₀ : LatticeValues) → AreArgumentSteps x t₀ root f₀ start arguments → IsArgumentStep x t₀ root f₀ now a
  putting_can i status now g a at t₀ root f₀ s = record { first = s.first; follows = g.follows t₀ root f₀ s; known = s.each i a at }

  pub putting_next : (i : ℕ) (status : IRStatus) (now : Tree) → IsPuttingOn x accepts head start arguments i status now → (a : ConstantArgument) → slice_get arguments i ≡ Some a → (next : Tree) (one : IRStatus) → ReplacesArgument accepts head a.attr a.block a.index now next one → ReportsCreated one now next → ((k : ℕ) → IsLive now k → IsLive next k) → ((t₀ : Tree) (root : ℕ) (f₀ : LatticeValues) → IsArgumentStep x t₀ root f₀ now a → Follows x t₀ root f₀ next) → IsPuttingOn x accepts head start arguments (i + 1) (changed_by_either status one) next
  putting_next i status now g a at next one is reported stays follows = record {
    follows = λ t₀ root f₀ s. follows t₀ root f₀ (putting_can i status now g a at t₀ root f₀ s);
    puts = puts;
    reported = told_then start now next status one stays g.reported reported;
    stays = λ k l. stays k (g.stays k l);
  }
    where
      put_one : (k : KnownArgument) → a.block ≡ k.block → a.attr ≡ k.attr → (status : IRStatus) → BecomesIfAccepted accepts a.attr (materialised_first now a.block k.value (head a.attr)) now next status → (if accepts k.attr then materialised_first now k.block k.value (head k.attr) else now) ≡ next
      put_one k same attr Changed (ok, e) =
          ap (λ b. if b then materialised_first now k.block k.value (head k.attr) else now) (ap accepts (sym attr) ∙ ok)
          ∙ ap (λ z. materialised_first now z k.value (head k.attr)) (sym same)
          ∙ ap (λ z. materialised_first now a.block k.value (head z)) (sym attr)
          ∙ sym e
      put_one k same attr Unchanged (over, e) =
          ap (λ b. if b then materialised_first now k.block k.value (head k.attr) else now) (ap accepts (sym attr) ∙ over) ∙ sym e

      puts : (t₀ : Tree) (root : ℕ) (f₀ : LatticeValues) → AreArgumentSteps x t₀ root f₀ start arguments → (known : List KnownArgument) → AreKnownArguments t₀ arguments known → (all_put accepts head known start ≡ all_put accepts head (drop (i + 1) known) next) × (all_put accepts head (take (i + 1) known) start ≡ next)
      puts t₀ root f₀ s known each =
          let p = drop_known t₀ arguments known each i a at in
          let now_listed : slice_get (arguments_of now a.block) a.index ≡ Some p.0.value = ap (λ z. slice_get z a.index) ((g.follows t₀ root f₀ s).arguments a.block) ∙ p.1.1 in
          let before = g.puts t₀ root f₀ s known each in
          let one_put = put_one p.0 p.1.0 p.1.2 one (is p.0.value now_listed) in (
            before.0 ∙ ap (λ l. all_put accepts head l now) p.2 ∙ ap (all_put accepts head (drop (i + 1) known)) one_put,
            ap (λ l. all_put accepts head l start) (take_one known i p.0 _ p.2) ∙ all_put_end (take i known) start p.0 ∙ ap (λ z. if accepts p.0.attr then materialised_first z p.0.block p.0.value (head p.0.attr) else z) before.1 ∙ one_put,
          )

  pub putting_end : (i : ℕ) (status : IRStatus) (now : Tree) → IsPuttingOn x accepts head start arguments i status now → length arguments ≤ i → (t₀ : Tree) (root : ℕ) (f₀ : LatticeValues) → AreArgumentSteps x t₀ root f₀ start arguments → (known : List KnownArgument) → AreKnownArguments t₀ arguments known → now ≡ all_put accepts head known start
  putting_end i status now g le t₀ root f₀ s known each =
      let long = as_long t₀ arguments known each in
      sym ((g.puts t₀ root f₀ s known each).0 ∙ ap (λ l. all_put accepts head l now) (drop_all i known (omega (arith, le, long))))

  pub putting_broken : (i : ℕ) (status : IRStatus) (now : Tree) → IsPuttingOn x accepts head start arguments i status now → (next : Tree) → IsSameTree now next → (t₀ : Tree) (root : ℕ) (f₀ : LatticeValues) → AreArgumentSteps x t₀ root f₀ start arguments → (known : List KnownArgument) → AreKnownArguments t₀ arguments known → IsPartlyPut accepts head known start next
  putting_broken i status now g next same t₀ root f₀ s known each = (i, subst (λ z. IsSameTree z next) (sym (g.puts t₀ root f₀ s known each).1) same)
