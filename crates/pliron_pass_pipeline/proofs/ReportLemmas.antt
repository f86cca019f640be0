-- Passes made of passes that report accurately whether they changed the tree do so too.
use Rattle.std.proofs.Common.{◌≡◌, ℕ, List, Bool, true, false, Result, Ok, refl, sym, ap, ◌∙◌, subst}
use Rattle.pliron_core.specs.Tree.{Tree}
use Rattle.pliron_core.specs.Changes.{IsSameTree}
use Rattle.pliron_core.specs.Status.{changed_by_either}
use Rattle.pliron_core.specs.declared.attrs.IRStatus.{IRStatus}
use Rattle.pliron_core.specs.declared.attrs.IRStatus.TheVariants.{Changed, Unchanged}
use Rattle.pliron_core.proofs.SameTreeLemmas.{same_refl, same_trans}
use Rattle.pliron_laws.specs.declared.fault.OptError.{OptError}
use Rattle.pliron_pass.specs.Answer.{has_changed}
use Rattle.pliron_pass.specs.Combined.{StepsTo, Closes, Closes.Done, Closes.Failed, Closes.Short, RunsEach, RunsEach.EachNone, RunsEach.EachNext, RunsEachOf, RunsOver, RunsOver.OverNone, RunsOver.OverNext, RunsOverAll}
use Rattle.pliron_pass.specs.Outcome.{OutcomeOf, Verifying, RunsBy, RunsPass, RunsPlain, RunsPlain.Skipped, RunsPlain.Refused, RunsPlain.Ran, RunsPlain.Spoilt}
use Rattle.pliron_pass.specs.Repeating.{Repeats, Repeats.NoRun, Repeats.OneMore, RepeatsTo, RepeatsTo.Full, RepeatsTo.Settled, RepeatsTo.Failed as Gives_up}
use Rattle.pliron_pass.specs.Stage.{Stage}
use Rattle.pliron_pass.specs.declared.result.PassResult.{PassResult}
use Rattle.pliron_pass_pipeline.specs.ChangeReports.{IsAccurate}
use Rattle.either.specs.declared.Either.{Either}
use Rattle.either.specs.declared.Either.TheVariants.{Left, Right}

both_unchanged : (c d : IRStatus) → changed_by_either c d ≡ Unchanged → (c ≡ Unchanged) × (d ≡ Unchanged)
both_unchanged Unchanged d e = (refl, e)
both_unchanged Changed d e = absurd (cc)

-- a pass that is skipped, or verified before and after
pub plain_honest : {K E P : Type 0} (name : P → List ℕ) (outcome : OutcomeOf P K E) (verifies : Verifying) → IsAccurate outcome → IsAccurate (RunsPlain name outcome verifies)
plain_honest {K = K} {E = E} {P = P} name outcome verifies reports_change = record { same = go }
  where
    go : (p p' : P) (op : ℕ) (s s' : Stage K E) (a : PassResult K) → RunsPlain name outcome verifies p p' op s s' (Ok a) → has_changed a ≡ Unchanged → IsSameTree s.tree s'.tree
    go p p' op s s' a (Skipped skipped same_pass same b is new) e = subst (λ z. IsSameTree s.tree z.tree) (sym same) (same_refl s.tree)
    go p p' op s s' a (Refused runs err fault same_pass same is) e = absurd (cc)
    go p p' op s s' a (Ran runs before u ran after same) e = subst (λ z. IsSameTree s.tree z.tree) (sym same) (reports_change.same p p' op s u a ran e)
    go p p' op s s' a (Spoilt runs before b ran err fault is) e = absurd (cc)

-- a pass however it is run
pub run_honest : {K E P : Type 0} (name : P → List ℕ) (outcome : OutcomeOf P K E) (verifies : Verifying) (managed : P → Bool) → IsAccurate outcome → IsAccurate (RunsPass name outcome verifies managed)
run_honest {K = K} {E = E} {P = P} name outcome verifies managed reports_change = record { same = λ p. go p (managed p) }
  where
    go : (p : P) (b : Bool) (p' : P) (op : ℕ) (s s' : Stage K E) (a : PassResult K) → RunsBy name outcome verifies b p p' op s s' (Ok a) → has_changed a ≡ Unchanged → IsSameTree s.tree s'.tree
    go p true = reports_change.same p
    go p false = (plain_honest name outcome verifies reports_change).same p

module _ {K E P : Type 0} (eq : K → K → Bool) (inner : OutcomeOf P K E) (reports_change : IsAccurate inner) where
  pub step_same : (p p' : P) (op : ℕ) (s s' : Stage K E) (c : IRStatus) → StepsTo eq inner p p' op s s' c → c ≡ Unchanged → IsSameTree s.tree s'.tree
  step_same p p' op s s' c step e = subst (λ z. IsSameTree s.tree z.tree) (sym step.left) (reports_change.same p p' op s step.after step.answer step.runs (sym step.says ∙ e))

  each_same : {op : ℕ} {s : Stage K E} {ps ps' : List P} {s' : Stage K E} {c : IRStatus} → RunsEach eq inner op s ps ps' s' c → c ≡ Unchanged → IsSameTree s.tree s'.tree
  each_same {s = s} EachNone e = same_refl s.tree
  each_same {op = op} {s = s} (EachNext {u = u} {c = c} p p' s' d runs step) e =
      let both = both_unchanged c d e in
      same_trans s.tree u.tree s'.tree (each_same runs both.0) (step_same p p' op u s' d step both.1)

  over_same : {p : P} {s : Stage K E} {ops : List ℕ} {q : P} {s' : Stage K E} {c : IRStatus} → RunsOver eq inner p s ops q s' c → c ≡ Unchanged → IsSameTree s.tree s'.tree
  over_same {s = s} OverNone e = same_refl s.tree
  over_same {s = s} (OverNext {q = q} {u = u} {c = c} o p' s' d runs step) e =
      let both = both_unchanged c d e in
      same_trans s.tree u.tree s'.tree (over_same runs both.0) (step_same q p' o u s' d step both.1)

  repeats_same : {op : ℕ} {p : P} {s : Stage K E} {n : ℕ} {q : P} {s' : Stage K E} {c : IRStatus} → Repeats eq inner op p s n q s' c → c ≡ Unchanged → IsSameTree s.tree s'.tree
  repeats_same {s = s} NoRun e = same_refl s.tree
  repeats_same (OneMore p' s' runs step) e = absurd (cc)

  repeated_same : (max op : ℕ) (p p' : P) (s s' : Stage K E) (runs : ℕ) (c : IRStatus) → RepeatsTo eq inner max op p p' s runs s' (Ok c) → c ≡ Unchanged → IsSameTree s.tree s'.tree
  repeated_same max op p p' s s' runs c (Full d is count all) e = let same : d ≡ Unchanged = cc in repeats_same all same
  repeated_same max op p p' s s' runs c (Settled d n q u is count few all step) e =
      let same : d ≡ Unchanged = cc in
      same_trans s.tree u.tree s'.tree (repeats_same all same) (step_same q p' op u s' Unchanged step refl)
  repeated_same max op p p' s s' runs c (Gives_up err d n q u is count few all fails) e = absurd (cc)

-- what ends a combinator, from its inner runs
closes_same : {K E : Type 0} (eq : K → K → Bool) (R : Stage K E → Result IRStatus OptError → Type 0) (s s' : Stage K E) (a : PassResult K) → ((u : Stage K E) (c : IRStatus) → R u (Ok c) → c ≡ Unchanged → IsSameTree s.tree u.tree) → Closes eq R s' (Ok a) → has_changed a ≡ Unchanged → IsSameTree s.tree s'.tree
closes_same eq R s s' a same (Done b is ran kept) e = let one : b ≡ a = cc in same s' (has_changed b) ran (ap has_changed one ∙ e)
closes_same eq R s s' a same (Failed err u is ran left) e = absurd (cc)
closes_same eq R s s' a same (Short c u is ran left) e = absurd (cc)

module _ {K E P : Type 0} (eq : K → K → Bool) (inner : OutcomeOf P K E) (reports_change : IsAccurate inner) where
  -- passes in turn, a pass on each of some operations, and a pass again and again
  pub passes_same : (ps ps' : List P) (op : ℕ) (s s' : Stage K E) (a : PassResult K) → Closes eq (λ u ran. RunsEachOf eq inner op ps ps' s u ran) s' (Ok a) → has_changed a ≡ Unchanged → IsSameTree s.tree s'.tree
  passes_same ps ps' op s s' a = closes_same eq (λ u ran. RunsEachOf eq inner op ps ps' s u ran) s s' a (λ u c runs e. each_same eq inner reports_change runs e)

  pub nested_same : (ops : List ℕ) (p p' : P) (s s' : Stage K E) (a : PassResult K) → Closes eq (λ u ran. RunsOverAll eq inner ops p p' s u ran) s' (Ok a) → has_changed a ≡ Unchanged → IsSameTree s.tree s'.tree
  nested_same ops p p' s s' a = closes_same eq (λ u ran. RunsOverAll eq inner ops p p' s u ran) s s' a (λ u c runs e. over_same eq inner reports_change runs e)

  pub repeat_same : (max op : ℕ) (p p' : P) (s s' : Stage K E) (runs : ℕ) (a : PassResult K) → Closes eq (λ u ran. RepeatsTo eq inner max op p p' s runs u ran) s' (Ok a) → has_changed a ≡ Unchanged → IsSameTree s.tree s'.tree
  repeat_same max op p p' s s' runs a = closes_same eq (λ u ran. RepeatsTo eq inner max op p p' s runs u ran) s s' a (λ u c all e. repeated_same eq inner reports_change max op p p' s u runs c all e)

-- cases of two values of one type
pub side_cases : {A B : Type 0} (Q : Either A B → Either A B → Type 0) → ((p q : A) → Q (Left p) (Left q)) → ((p : A) (q : B) → Q (Left p) (Right q)) → ((p : B) (q : A) → Q (Right p) (Left q)) → ((p q : B) → Q (Right p) (Right q)) → (x y : Either A B) → Q x y
side_cases Q a b c d (Left p) (Left q) = a p q
side_cases Q a b c d (Left p) (Right q) = b p q
side_cases Q a b c d (Right p) (Left q) = c p q
side_cases Q a b c d (Right p) (Right q) = d p q
