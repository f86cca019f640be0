-- What the program answers to a text.
use Rattle.std.specs.Prelude.{◌≡◌, ℕ, List, [], ◌∷◌, ◌++◌, codes}
use Rattle.pliron_core.specs.Tree.{Tree, IsLive}
use Rattle.pliron_core.specs.Changes.{IsInsideChange, IsSameTree}
use Rattle.pliron_core.specs.declared.attrs.IRStatus.{IRStatus}
use Rattle.pliron_core.specs.declared.attrs.IRStatus.TheVariants.{Changed, Unchanged}
use Rattle.pliron_laws.specs.Datum.{Meaning}
use Rattle.pliron_laws.specs.Linked.{IsWellLinked}
use Rattle.pliron_pass.specs.declared.bench_facts.BenchFactKind.{BenchFactKind}
use Rattle.pliron_pass.specs.declared.bench_facts.BenchFacts.{BenchFacts}
use Rattle.pliron_pass.specs.Headline.{DoAsBefore}
use Rattle.pliron_pass_pipeline.specs.PassSteps.{PassPipelineOf}
use Rattle.pliron_driver.specs.declared.driver.command.Command.{Command}
use Rattle.pliron_driver.specs.declared.driver.command.Command.TheVariants.{Optimise, Graph}

-- what a notation reads of a text: a tree and its operation; and what it prints of an operation
abbrev pub Reads : Type 1
Reads = (text : List ℕ) → Tree → ℕ → Type 0

abbrev pub Prints : Type 1
Prints = Tree → ℕ → (text : List ℕ) → Type 0

-- the last line, which says whether the tree changed
abbrev pub status_line : IRStatus → List ℕ
status_line Changed = 10 ∷ codes "changed" ++ 10 ∷ []
status_line Unchanged = 10 ∷ codes "unchanged" ++ 10 ∷ []

module _ (reads : Reads) (prints : Prints) (m : Meaning) where
  -- a tree and its operation are read from the text, and passes run on that. In the tree after, every operation
  -- that was fit to run and is still live does as before, the text's operation is live and well linked, and
  -- only what is inside it is changed. The answer is that tree printed, and a line on whether it changed: where
  -- that says that it didn't, the tree is the same
  pub record IsOptimised (ran : ℕ → Tree → Tree → IRStatus → Type 0) (text answer : List ℕ) : Type 0 where
    pub root : ℕ
    pub before : Tree
    pub after : Tree
    pub status : IRStatus
    pub printed : List ℕ
    pub read : reads text before root
    pub runs : ran root before after status
    pub same : DoAsBefore m before after
    pub liveness : IsLive after root
    pub links : IsWellLinked m after root
    pub inside : IsInsideChange before after root
    pub truly : status ≡ Unchanged → IsSameTree before after
    pub prints_it : prints after root printed
    pub lines : answer ≡ printed ++ status_line status

  -- what the command answers to the text; of a graph nothing is said
  abbrev pub Answers : {D L B : Type 0} → (PassPipelineOf D BenchFacts L B BenchFactKind → ℕ → Tree → Tree → IRStatus → Type 0) → Command D L B → (text answer : List ℕ) → Type 0
  Answers ran (Optimise pipeline) text answer = IsOptimised (ran pipeline) text answer
  Answers ran Graph text answer = Unit {0}
