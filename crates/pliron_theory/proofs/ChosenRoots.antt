-- The laws of a dialect don't ask which heads may be those of roots.
use Rattle.std.proofs.Common.{◌≡◌, ℕ, Bool, List, [], ◌∷◌, Option}
use Rattle.pliron_core.specs.declared.uses.Use.{Use}
use Rattle.pliron_theory.specs.Dropping.{EdgeLoses, EdgeLoses.Loses, EdgeLoses.Lacks, EdgesLose}
use Rattle.pliron_core.specs.declared.attrs.AttrObj.{AttrObj}
use Rattle.pliron_core.specs.Tree.{Tree}
use Rattle.pliron_laws.specs.Datum.{Head, Shape, Meaning}
use Rattle.pliron_laws.specs.Tree.{shape_of}
use Rattle.pliron_laws.specs.Laws.{KeepsCounts, LosesOperand, ForwardsOperands, ActsWithoutArgument}
use Rattle.pliron_laws.specs.Folding.{Constants, Feasible, AnswersTrue, AnswersJumps, MakesConstants}
use Rattle.pliron_laws.specs.InPlace.{Outcome, FoldsInPlace}
use Rattle.pliron_laws.specs.Replacing.{FoldsBranch, FoldsBranch.Kept, FoldsBranch.Replaced}
use Rattle.pliron_theory.specs.Keeps.{with_roots}
use Rattle.pliron_theory.specs.ChosenRoots.{ChosenRootsLaw}
use Rattle.pliron_theory.proofs.JumpsNow.{jumps_now}
use Rattle.pliron_theory.proofs.KnownRuns.{facts_read}
use Rattle.pliron_laws.specs.Entries.{names_none}
use Rattle.pliron_theory.proofs.SoundRuns.{none_well}
use Rattle.pliron_theory.proofs.SoundEverywhere.{sound_facts}
use Rattle.pliron_theory.proofs.Answered.{answered}
use Rattle.pliron_theory.proofs.RemovedKeeps.{removed_keeps}
use Rattle.pliron_theory.proofs.FoldedConstants.{constant_folds}
use Rattle.pliron_theory.proofs.FoldedBranches.{branch_folds}

module _ (m : Meaning) (chosen : Head → Bool) where
  pub counts : KeepsCounts m → KeepsCounts (with_roots m chosen)
  counts k = record { successors = k.successors; moves = k.moves }

  answers_true : (can_fold : Head → Bool) (constants : Constants) → AnswersTrue m can_fold constants → AnswersTrue (with_roots m chosen) can_fold constants
  answers_true can_fold constants a = record { counts = a.counts; gives = a.gives }

  answers_jumps : (can_fold_branch : Head → Bool) (feasible : Feasible) → AnswersJumps m can_fold_branch feasible → AnswersJumps (with_roots m chosen) can_fold_branch feasible
  answers_jumps can_fold_branch feasible a = record { branches = a.branches; successors = a.successors; goes = a.goes }

  makes_constants : (accepts : AttrObj → Bool) (head : AttrObj → Head) → MakesConstants m accepts head → MakesConstants (with_roots m chosen) accepts head
  makes_constants accepts head makes attr accepted =
      let k = makes attr accepted in
      record { admitted = k.admitted; no_terminator = k.no_terminator; gives = k.gives }

  loses : (SameTests : Head → Head → Type 0) (s : Shape) (i j p : ℕ) (head : Head) → LosesOperand m SameTests s i j p head → LosesOperand (with_roots m chosen) SameTests s i j p head
  loses SameTests s i j p head l = record { same_head = l.same_head; same_tests = l.same_tests; admitted = l.admitted; same_edges = l.same_edges; alike = l.alike }

  pub forwards_operands : (can_fold : Head → Bool) (SameTests : Head → Head → Type 0) (shortened : Shape → ℕ → ℕ → Head) → ForwardsOperands m can_fold SameTests shortened → ForwardsOperands (with_roots m chosen) can_fold SameTests shortened
  forwards_operands can_fold SameTests shortened f = record {
    alone = f.alone;
    some_edge = f.some_edge;
    places = f.places;
    distinct = f.distinct;
    passes = f.passes;
    one_way = f.one_way;
    removal = λ s a br i j p lt e. loses SameTests s i j p (shortened s i j) (f.removal s a br i j p lt e);
  }

  edge_loses : (shortened : Shape → ℕ → ℕ → Head) (j : ℕ) (e : Use) (t t' : Tree) → EdgeLoses m shortened j e t t' → EdgeLoses (with_roots m chosen) shortened j e t t'
  unfolding shape_of
  edge_loses shortened j e t t' (Loses v place loses) = Loses v place loses
  edge_loses shortened j e t t' (Lacks none same) = Lacks none same

  pub edges_lose : (shortened : Shape → ℕ → ℕ → Head) (j : ℕ) (edges : List Use) (t t' : Tree) → EdgesLose m shortened j edges t t' → EdgesLose (with_roots m chosen) shortened j edges t t'
  edges_lose shortened j [] t t' same = same
  edges_lose shortened j (e ∷ es) t t' q = (q.0, edge_loses shortened j e t q.0 q.1, edges_lose shortened j es q.0 t' q.2)

  folds_branch : (op : ℕ) (known : List (Option AttrObj)) (t t' : Tree) → FoldsBranch m op known t t' → FoldsBranch (with_roots m chosen) op known t t'
  unfolding shape_of
  folds_branch op known t t' (Kept same) = Kept same
  folds_branch op known t t' (Replaced o head operands successors places edges liveness picked r) =
      Replaced o head operands successors places edges liveness picked (record { branch = r.branch; admitted = r.admitted; targets_kept = r.targets_kept; values_kept = r.values_kept; alike = r.alike })

  folds_in_place : (constants : Constants) (accepts : AttrObj → Bool) (head : AttrObj → Head) (fold branch_fold : Outcome) → FoldsInPlace m constants accepts head fold branch_fold → FoldsInPlace (with_roots m chosen) constants accepts head fold branch_fold
  unfolding shape_of
  folds_in_place constants accepts head fold branch_fold f = record {
    constant = f.constant;
    branch = λ t t' op known answer outcome. let y = f.branch t t' op known answer outcome in (folds_branch op known t t' y.0, y.1);
  }

pub chosen_roots : (m : Meaning) (can_fold can_fold_branch : Head → Bool) (constants : Constants) (feasible : Feasible) (accepts : AttrObj → Bool) (head : AttrObj → Head) (shortened : Shape → ℕ → ℕ → Head) (removable : Head → ℕ → Bool → Option Bool) (fold branch_fold : Outcome) (SameTests : Head → Head → Type 0) → ((h h' : Head) → SameTests h h' → m.is_branch h' ≡ m.is_branch h) → KeepsCounts m → ForwardsOperands m can_fold SameTests shortened → ActsWithoutArgument m removable → AnswersTrue m can_fold constants → AnswersJumps m can_fold_branch feasible → FoldsInPlace m constants accepts head fold branch_fold → MakesConstants m accepts head → ChosenRootsLaw m can_fold can_fold_branch constants feasible shortened removable fold branch_fold
chosen_roots m can_fold can_fold_branch constants feasible accepts head shortened removable fold branch_fold SameTests same_branch keeps forwards without truly jumps in_place makes chosen =
    let f = forwards_operands m chosen can_fold SameTests shortened forwards in
    let a = answers_true m chosen can_fold constants truly in
    let j = answers_jumps m chosen can_fold_branch feasible jumps in
    let p = folds_in_place m chosen constants accepts head fold branch_fold in_place in
    record {
      facts = facts_read (with_roots m chosen) can_fold can_fold_branch constants feasible a j f.passes;
      sound = sound_facts (record { meaning = with_roots m chosen; can_fold = can_fold; can_fold_branch = can_fold_branch; constants = constants; feasible = feasible; entry_operands = names_none }) a j f.passes (none_well (with_roots m chosen) can_fold can_fold_branch constants feasible);
      answered = answered (with_roots m chosen) can_fold can_fold_branch constants feasible a j f.passes;
      one_edge = jumps_now (with_roots m chosen) can_fold SameTests shortened f;
      removing = λ t u block index v edges w w' argument to branches answer lose unused. removed_keeps (with_roots m chosen) can_fold SameTests shortened f same_branch (counts m chosen keeps) removable without t u block index v edges w w' argument to branches answer lose unused;
      constant_folds = constant_folds (with_roots m chosen) can_fold constants accepts head fold branch_fold SameTests shortened p f a (makes_constants m chosen accepts head makes);
      branch_folds = branch_folds (with_roots m chosen) can_fold can_fold_branch feasible SameTests shortened f j constants accepts head fold branch_fold p;
    }
