-- How many values an edge forwards, as it was counted.
use Rattle.std.proofs.Common.{◌≡◌, ◌↔◌, ℕ, Bool, true, false, true≢false, nat_eq, List, length, IsTrue, sym, ◌∙◌}
use Rattle.std.proofs.lemmas.Bool.{eq-eqb, eqb-true}
use Rattle.pliron_core.specs.Tree.{Tree, IsLive, head_of}
use Rattle.pliron_core.proofs.HoldingLemmas.{some_of}
use Rattle.pliron_laws.specs.Datum.{Meaning}
use Rattle.pliron_laws.specs.Tree.{shape_of}
use Rattle.pliron_laws.specs.Answers.{ReadsHead, HeadPasses, AreForwarded}
use Rattle.pliron_laws.proofs.Records.{op_shows, operation_of, make_op}
use Rattle.pliron_theory.proofs.ShortenedBranches.{length_picked}
use Rattle.pliron_rewrite_loops.specs.Added.{ForwardsSoMany}

module _ (m : Meaning) (t : Tree) (op edge count : ℕ) (live : IsLive t op) where
  -- what is no branch forwards nothing
  pub not_many : (b : Bool) → ReadsHead m.is_branch t op b → b ≡ false → ForwardsSoMany m t op edge count → ⊥
  not_many b reads e f = let h = some_of (head_of t op) live in true≢false (sym (f (operation_of t op h.0) (make_op t op h.0 h.1)).0 ∙ sym (reads h.0 h.1) ∙ e)

  pub passes : (b : Bool) → ReadsHead m.is_branch t op b → b ≡ true → HeadPasses m.is_branch t op
  passes b reads e h hd = sym (reads h hd) ∙ e

  -- as many as were read
  pub many : (values : List ℕ) (n : ℕ) → HeadPasses m.is_branch t op → AreForwarded m t op edge values → n ≡ length values → IsTrue (nat_eq n count) ↔ ForwardsSoMany m t op edge count
  many values n branch forwarded is = (forth, back)
    where
      forth : IsTrue (nat_eq n count) → ForwardsSoMany m t op edge count
      forth e o oe = (branch o.head (op_shows t op o oe).head, sym (length_picked values (m.forwarded (shape_of m t o) edge) o.operands (forwarded o oe)) ∙ sym is ∙ eqb-true n count e)

      back : ForwardsSoMany m t op edge count → IsTrue (nat_eq n count)
      back f =
          let h = some_of (head_of t op) live in
          let oe = make_op t op h.0 h.1 in
          let o = operation_of t op h.0 in
          eq-eqb n count (is ∙ length_picked values (m.forwarded (shape_of m t o) edge) o.operands (forwarded o oe) ∙ (f o oe).1)
