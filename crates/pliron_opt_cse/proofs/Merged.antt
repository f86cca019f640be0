-- A redundant operation in the region of its leader, or with operands, goes.
use Rattle.std.proofs.Common.{◌≡◌, ℕ, Bool, Option, sym, ◌∙◌, subst}
use Rattle.pliron_core.specs.Tree.{Tree, IsInside, IsWithin}
use Rattle.pliron_core.specs.Invariant.{IsTree}
use Rattle.pliron_core.proofs.HoldingLemmas.{some_is, inside_up, inside_by}
use Rattle.pliron_laws.specs.Datum.{Head, Meaning}
use Rattle.pliron_laws.specs.Laws.{KeepsCounts, GivesAtOnce}
use Rattle.pliron_rewrite_equals.specs.Redundancy.{IsLeader}
use Rattle.pliron_rewrite_equals.proofs.OperationDominance.{stands_holder}
use Rattle.pliron_rewrite_equals.proofs.Merging.{partly, deleted}
use Rattle.pliron_opt_cse.specs.Merges.{IsNearLeader}
use Rattle.pliron_opt_cse.specs.CseLaws.{MergeLaws}

pub near_leader : (side_effects : Head → Option Bool) (t : Tree) (a b : ℕ) → IsTree t → IsNearLeader side_effects t a b → IsLeader side_effects t a b
near_leader side_effects t a b w p = record {
  apart = p.apart;
  alike = p.alike;
  before = p.before;
  near = λ e h ib na.
      let x = stands_holder t w a b p.before in
      let u = inside_up (subst (IsInside t h) (sym (p.near e)) ib) in
      let s : u.0 ≡ x.0 = some_is (sym u.1 ∙ x.2) in
      absurd (na (inside_by x.0 x.1 (subst (IsWithin t h) s u.2)));
}

pub merging : (m : Meaning) (side_effects : Head → Option Bool) → KeepsCounts m → GivesAtOnce m side_effects → MergeLaws m side_effects
merging m side_effects counts free = record {
  leads = λ t a b w p. near_leader side_effects t a b w p;
  merged = λ t a b w w' p. deleted m side_effects counts free t a b w w' (near_leader side_effects t a b w p);
  partly = λ t a b n w p. partly m side_effects counts free t a b n w (near_leader side_effects t a b w p);
}
