-- The tiny dialect, but that a constant folds only where it has a second attribute, its mark. What is made for
-- an attribute has none.
use Rattle.std.specs.Prelude.{◌≡◌, ℕ, nat_eq, Bool, true, false, ◌&&◌, length, refl, IsTrue}
use Rattle.pliron_laws.specs.Datum.{Head}
use Rattle.pliron_laws.specs.Laws.{ForwardsOperands}
use Rattle.pliron_laws.specs.Folding.{AnswersTrue}
use Rattle.pliron_laws.specs.InPlace.{PassSameTests}
use Rattle.pliron_evaluator.specs.Tiny.{tiny, tiny_folds, tiny_constants, tiny_folds_branch, tiny_shortened, has_tiny_kind, has_tiny_interface}
use Rattle.pliron_evaluator.specs.TinyLaws.{tiny_answers, tiny_forwards}

unfoldable pub marked_folds : Head → Bool
marked_folds h = tiny_folds h && nat_eq (length h.attrs) 2

first_part : (a b : Bool) → IsTrue (a && b) → IsTrue a
first_part true b h = refl
first_part false b h = h

no_part : (a b : Bool) → a ≡ false → (a && b) ≡ false
no_part true b e = absurd (cc)
no_part false b e = refl

-- what folds here folds in the tiny dialect
pub folds_there : (h : Head) → IsTrue (marked_folds h) → IsTrue (tiny_folds h)
unfolding marked_folds
folds_there h f = first_part (tiny_folds h) (nat_eq (length h.attrs) 2) f

pub marked_answers : AnswersTrue tiny marked_folds tiny_constants
marked_answers = record {
  counts = λ s h f known l. tiny_answers.counts s h (folds_there s.head f) known l;
  gives = λ s h f known first l k later memo input ds comes e. tiny_answers.gives s h (folds_there s.head f) known first l k later memo input ds comes e;
}

pub marked_forwards : ForwardsOperands tiny marked_folds (PassSameTests tiny marked_folds tiny_folds_branch has_tiny_kind has_tiny_interface) tiny_shortened
unfolding marked_folds tiny_shortened
marked_forwards = record {
  alone = λ s h br. let x = tiny_forwards.alone s h br in (x.0, x.1, no_part (tiny_folds s.head) (nat_eq (length s.head.attrs) 2) x.2);
  some_edge = tiny_forwards.some_edge;
  places = tiny_forwards.places;
  distinct = tiny_forwards.distinct;
  passes = tiny_forwards.passes;
  one_way = tiny_forwards.one_way;
  removal = λ s h br i j p lt e. let x = tiny_forwards.removal s h br i j p lt e in record {
    same_head = x.same_head;
    same_tests = record { terminator = x.same_tests.terminator; branch = x.same_tests.branch; folds = refl; folds_branch = x.same_tests.folds_branch; kinds = x.same_tests.kinds; interfaces = x.same_tests.interfaces };
    admitted = x.admitted;
    same_edges = x.same_edges;
    alike = x.alike;
  };
}
