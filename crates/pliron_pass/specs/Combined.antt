-- What passes that are made of passes do.
pub use Rattle.pliron_laws.specs.Answers.{has_passing_head}
use Rattle.std.specs.Prelude.{◌≡◌, ℕ, ◌+◌, ◌<◌, List, [], ◌∷◌, ◌++◌, Bool, true, false, Option, Some, None, Result, Ok, Err}
use Rattle.std.specs.Prelude.{IsOk, IfErr}
use Rattle.pliron_core.specs.Tree.{Tree}
use Rattle.pliron_laws.specs.Datum.{Head}
use Rattle.pliron_core.specs.Walks.{children}
use Rattle.pliron_core.specs.Status.{changed_by_either}
use Rattle.pliron_core.specs.declared.attrs.IRStatus.{IRStatus}
use Rattle.pliron_core.specs.declared.attrs.IRStatus.TheVariants.{Changed, Unchanged}
use Rattle.pliron_laws.specs.declared.fault.OptError.{OptError}
use Rattle.pliron_laws.specs.declared.fault.OptError.TheVariants.{Memory}
use Rattle.pliron_pass.specs.Stage.{Stage}
use Rattle.pliron_pass.specs.Cache.{retained, cached_kinds}
use Rattle.pliron_pass.specs.Answer.{has_changed, kept_kinds, IsNewAnswer}
use Rattle.pliron_pass.specs.Outcome.{OutcomeOf}
use Rattle.pliron_pass.specs.declared.result.PassResult.{PassResult}

abbrev pub guarded_name : List ℕ
guarded_name = 0x67 ∷ 0x75 ∷ 0x61 ∷ 0x72 ∷ 0x64 ∷ 0x65 ∷ 0x64 ∷ 0x5f ∷ 0x70 ∷ 0x61 ∷ 0x73 ∷ 0x73 ∷ []

abbrev pub passes_name : List ℕ
passes_name = 0x70 ∷ 0x61 ∷ 0x73 ∷ 0x73 ∷ 0x65 ∷ 0x73 ∷ []

abbrev pub nested_name : List ℕ
nested_name = 0x6e ∷ 0x65 ∷ 0x73 ∷ 0x74 ∷ 0x65 ∷ 0x64 ∷ 0x5f ∷ 0x6f ∷ 0x70 ∷ 0x73 ∷ 0x5f ∷ 0x70 ∷ 0x61 ∷ 0x73 ∷ 0x73 ∷ []

abbrev pub empty_stage : {K E : Type 0} → Stage K E → Stage K E
empty_stage s = record s { cache = [] }

module _ {K E P G : Type 0} (allows : G → ℕ → Tree → Bool) (inner : OutcomeOf P K E) where
  pub data Guards (g g' : G) (p p' : P) (op : ℕ) (s s' : Stage K E) (r : Result (PassResult K) OptError) : Type 0 where
    Bars : allows g op s.tree ≡ false → g' ≡ g → p' ≡ p → s' ≡ s → (a : PassResult K) → r ≡ Ok a → IsNewAnswer a → Guards g g' p p' op s s' r
    Lets : allows g op s.tree ≡ true → g' ≡ g → (a : PassResult K) → r ≡ Ok a → inner p p' op s s' (Ok a) → Guards g g' p p' op s s' r
    Fails : allows g op s.tree ≡ true → g' ≡ g → (e : OptError) → r ≡ Err e → (u : Stage K E) → inner p p' op s u (Err e) → s' ≡ empty_stage u → Guards g g' p p' op s s' r

module _ {K E P : Type 0} (eq : K → K → Bool) (inner : OutcomeOf P K E) where
  -- a run, after which the cache keeps what the answer preserves
  pub record StepsTo (p p' : P) (op : ℕ) (s s' : Stage K E) (changed : IRStatus) : Type 0 where
    pub answer : PassResult K
    pub after : Stage K E
    pub runs : inner p p' op s after (Ok answer)
    pub left : s' ≡ record after { cache = retained eq (has_changed answer) (kept_kinds answer) after.cache }
    pub says : changed ≡ has_changed answer

  abbrev pub Steps : P → P → ℕ → Stage K E → Stage K E → Result IRStatus OptError → Type 0
  Steps p p' op s s' (Ok c) = StepsTo p p' op s s' c
  Steps p p' op s s' (Err e) = inner p p' op s s' (Err e)

  -- the pass ran on each of these operations in turn
  pub data RunsOver (p : P) (s : Stage K E) : List ℕ → P → Stage K E → IRStatus → Type 0 where
    OverNone : RunsOver p s [] p s Unchanged
    OverNext : {done : List ℕ} {q : P} {u : Stage K E} {c : IRStatus} (o : ℕ) (p' : P) (s' : Stage K E) (d : IRStatus) → RunsOver p s done q u c → StepsTo q p' o u s' d → RunsOver p s (done ++ o ∷ []) p' s' (changed_by_either c d)

  -- it ran on a first part of them, and failed on the next one
  pub data FailsOver (ops : List ℕ) (p p' : P) (s s' : Stage K E) (e : OptError) : Type 0 where
    FailsAt : (done rest : List ℕ) (o : ℕ) (q : P) (u : Stage K E) (c : IRStatus) → ops ≡ done ++ o ∷ rest → RunsOver p s done q u c → inner q p' o u s' (Err e) → FailsOver ops p p' s s' e

  abbrev pub RunsOverAll : List ℕ → P → P → Stage K E → Stage K E → Result IRStatus OptError → Type 0
  RunsOverAll ops p p' s s' (Ok c) = RunsOver p s ops p' s' c
  RunsOverAll ops p p' s s' (Err e) = FailsOver ops p p' s s' e

  -- each of these passes ran on the operation in turn, and is now as in the second list
  pub data RunsEach (op : ℕ) (s : Stage K E) : List P → List P → Stage K E → IRStatus → Type 0 where
    EachNone : RunsEach op s [] [] s Unchanged
    EachNext : {ps ps' : List P} {u : Stage K E} {c : IRStatus} (p p' : P) (s' : Stage K E) (d : IRStatus) → RunsEach op s ps ps' u c → StepsTo p p' op u s' d → RunsEach op s (ps ++ p ∷ []) (ps' ++ p' ∷ []) s' (changed_by_either c d)

  -- a first part of them ran, and the next one failed; the others stay as they are
  pub data FailsEach (op : ℕ) (ps ps' : List P) (s s' : Stage K E) (e : OptError) : Type 0 where
    EachFails : (done done' rest : List P) (p p' : P) (u : Stage K E) (c : IRStatus) → ps ≡ done ++ p ∷ rest → ps' ≡ done' ++ p' ∷ rest → RunsEach op s done done' u c → inner p p' op u s' (Err e) → FailsEach op ps ps' s s' e

  abbrev pub RunsEachOf : ℕ → List P → List P → Stage K E → Stage K E → Result IRStatus OptError → Type 0
  RunsEachOf op ps ps' s s' (Ok c) = RunsEach op s ps ps' s' c
  RunsEachOf op ps ps' s s' (Err e) = FailsEach op ps ps' s s' e

-- how a combinator ends, from where its inner runs ended: it answers whether one of them changed
-- something, and preserves the kinds now cached; after an error the cache is empty
pub data Closes {K E : Type 0} (eq : K → K → Bool) (R : Stage K E → Result IRStatus OptError → Type 0) (s' : Stage K E) (r : Result (PassResult K) OptError) : Type 0 where
  Done : (a : PassResult K) → r ≡ Ok a → R s' (Ok (has_changed a)) → kept_kinds a ≡ cached_kinds eq s'.cache → Closes eq R s' r
  Failed : (e : OptError) (u : Stage K E) → r ≡ Err e → R u (Err e) → s' ≡ empty_stage u → Closes eq R s' r
  -- all inner runs succeeded, and there was no room for the answer
  Short : (c : IRStatus) (u : Stage K E) → r ≡ Err Memory → R u (Ok c) → s' ≡ empty_stage u → Closes eq R s' r

-- the same of the call that ends a combinator
abbrev pub IsClosed : {K E : Type 0} → (K → K → Bool) → Result IRStatus OptError → List ((K × ℕ) × E) → List ((K × ℕ) × E) → Result (PassResult K) OptError → Type 0
IsClosed eq ran es es' (Ok a) = (ran ≡ Ok (has_changed a)) × (kept_kinds a ≡ cached_kinds eq es) × (es' ≡ es)
IsClosed eq ran es es' (Err e) = (es' ≡ []) × (IsOk ran → e ≡ Memory) × IfErr ran (λ f. e ≡ f)
