-- A branch with one successor goes there at once.
use Rattle.std.proofs.Common.{◌≡◌, ℕ, Bool, false, List, [], ◌∷◌, length, map, Some, IsTrue, slice_get, sym, ap, ◌∙◌, inr}
use Rattle.std.proofs.lemmas.List.{length-map}
use Rattle.pliron_core.specs.Tree.{Tree, IsInside, head_of, successors_of}
use Rattle.pliron_laws.specs.Datum.{Datum, Empty, Head, Shape, Meaning}
use Rattle.pliron_laws.specs.Tree.{shape_of}
use Rattle.pliron_laws.specs.Acting.{Begins, pick}
use Rattle.pliron_laws.specs.Laws.{ForwardsOperands}
use Rattle.pliron_theory.specs.Keeps.{IsFit}
use Rattle.pliron_theory.specs.Splicing.{JumpsNow}
use Rattle.pliron_laws.proofs.Records.{op_shows}
use Rattle.pliron_theory.proofs.SweptKeeps.{admitted_shape}

length_picked : (ds : List Datum) (places : List ℕ) (first : List Datum) → map Some ds ≡ pick places first → length ds ≡ length places
length_picked ds places first e = sym (length-map ds Some) ∙ ap length e ∙ length-map places (λ i. slice_get first i)

pub jumps_now : (m : Meaning) (can_fold : Head → Bool) (SameTests : Head → Head → Type 0) (shortened : Shape → ℕ → ℕ → Head) → ForwardsOperands m can_fold SameTests shortened → (t : Tree) (root jump b : ℕ) → IsFit m t root → IsInside t root jump → ((x : Head) → head_of t jump ≡ Some x → IsTrue (m.is_branch x)) → successors_of t jump ≡ b ∷ [] → JumpsNow m t jump b
unfolding shape_of
jumps_now m can_fold SameTests shortened law t root jump b f inside branch goes o e ds len =
    let s = op_shows t jump o e in
    let ad = admitted_shape m t jump o e (f.linked.admitted jump (inr inside)) in
    let br : IsTrue (m.is_branch o.head) = branch o.head s.head in
    let one : length o.successors ≡ 1 = ap length (sym s.successors ∙ goes) in
    let way = law.one_way (shape_of m t o) ad br one ds len in
    let passed = law.passes (shape_of m t o) ad br ds len false Empty ds 0 way.0 Begins way.1 in
    (way.0, way.1, length_picked way.0 (m.forwarded (shape_of m t o) 0) ds passed ∙ f.defined.forwards jump 0 b o inside e br (ap (λ z. slice_get z 0) (sym s.successors ∙ goes)))
