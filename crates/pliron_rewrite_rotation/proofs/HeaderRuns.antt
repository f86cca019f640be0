-- What holds wherever the copying of a header ends.
use Rattle.std.proofs.Common.{◌≡◌, inl, inr, ℕ, ◌+◌, ◌≤◌, length, sym, ◌∙◌, subst, arith}
use Rattle.pliron_core.specs.Changes.{IsSameTree}
use Rattle.pliron_core.specs.Invariant.{IsTree}
use Rattle.pliron_core.specs.Tree.{Tree, In, IsLive, IsWithin, HoldsBlock, body_of}
use Rattle.pliron_core.proofs.HoldingLemmas.{some_is, held_block, block_held}
use Rattle.pliron_core.proofs.InsideLemmas.{inside_refl, inside_trans, same_change, itself_stands}
use Rattle.pliron_core.proofs.SameTreeLemmas.{same_refl}
use Rattle.pliron_core.proofs.TreeLemmas.{live-within}
use Rattle.pliron_core.proofs.WalkLemmas.{inside_live-outer}
use Rattle.pliron_laws.specs.Datum.{Meaning}
use Rattle.pliron_laws.proofs.LinkedLemmas.{linked_same}
use Rattle.pliron_theory.specs.Keeps.{KeepsAllRuns, with_roots}
use Rattle.pliron_theory.proofs.Keeping.{keeps_refl, keeps_trans}
use Rattle.pliron_theory.proofs.SweptKeeps.{same_keeps}
use Rattle.pliron_rewrite_copies.specs.ClosedBlock.{ClosedBlockLaw}
use Rattle.pliron_rewrite_rotation.specs.HeaderCopied.{IsHeaderCopied, KeepsToHolders}
use Rattle.pliron_rewrite_rotation.specs.HeaderSteps.{EnteredHeader, copy_of, IsEnteredHeader, IsLeadingIn, IsLeadingStopped, IsCopyingStopped}
use Rattle.pliron_rewrite_rotation.proofs.CopiedLinks.{copied_linked}

-- a root that holds a block is live
pub holder_live : (t : Tree) (root b : ℕ) → IsTree t → HoldsBlock t root b → IsLive t root
holder_live t root b w h = go h.2
  where
    go : IsWithin t root h.0 → IsLive t root
    go (inl e) = let y = block_held t b w.joined (held_block t b h.0 h.1) in subst (IsLive t) (some_is (sym y.5 ∙ h.1) ∙ e) y.6
    go (inr i) = inside_live-outer t w root h.0 i

-- the same tree but for erased handles
pub same_runs : (m : Meaning) (t u : Tree) → IsTree t → IsTree u → IsSameTree t u → length t.operations ≤ length u.operations → KeepsAllRuns m t u
same_runs m t u w w' s longer chosen = same_keeps (with_roots m chosen) t u w w' s longer

pub same_holders : (m : Meaning) (t u : Tree) (header : ℕ) → IsTree t → IsTree u → IsSameTree t u → KeepsToHolders m t u header
same_holders m t u header w w' s = record {
  linked = λ root l held. linked_same m t u root w w' s l;
  inside = λ root l held. same_change t u root w.joined w'.joined s;
}

pub refl_holders : (m : Meaning) (t : Tree) (header : ℕ) → KeepsToHolders m t t header
refl_holders m t header = record { linked = λ root l held. l; inside = λ root l held. inside_refl t root }

pub refl_runs : (m : Meaning) (t : Tree) → KeepsAllRuns m t t
refl_runs m t chosen = keeps_refl (with_roots m chosen) t

module _ (law : ClosedBlockLaw) (m : Meaning) (x : EnteredHeader) (src : IsEnteredHeader x) (u : Tree) (w' : IsTree u) (l : IsLeadingIn x u) where
  pub leading_runs : KeepsAllRuns m x.tree u
  leading_runs chosen = law (with_roots m chosen) x.tree u l.originals x.header (copy_of x) src.tree w' l.longer l.copied l.old

  own : (root : ℕ) → HoldsBlock x.tree root x.header → l.originals.operation root ≡ root
  own root held =
      let live = holder_live x.tree root x.header src.tree held in
      (l.old root (live-within x.tree root live) (itself_stands x.tree u root src.tree.joined live (l.inside root held)).0).1

  pub leading_holders : KeepsToHolders m x.tree u x.header
  leading_holders = record {
    linked = λ root q held. copied_linked m x.tree u l.originals x.header (copy_of x) src.tree w' l.copied root (own root held) q;
    inside = λ root q held. l.inside root held;
  }

  pub stopped_none : IsLeadingStopped x u
  stopped_none = record { before = u; tree = w'; leading = l; same = same_refl u; longer = omega arith }

  pub stopped_same : (v : Tree) → IsSameTree u v → length u.operations ≤ length v.operations → IsLeadingStopped x v
  stopped_same v s longer = record { before = u; tree = w'; leading = l; same = s; longer = longer }

  -- all that enter lead to the copy
  pub header_copied : (copy : ℕ) → copy_of x ≡ copy → ((k : ℕ) → In k x.entering → IsLive u k → ⊥) → length u.operations ≤ length x.tree.operations + (length (body_of x.tree x.header) + length x.entering) → IsHeaderCopied x.tree u l.originals x.header copy x.entering
  header_copied copy same gone bound = subst (λ c. IsHeaderCopied x.tree u l.originals x.header c x.entering) same (record {
    copied = l.copied;
    old = l.old;
    to_copy = l.to_copy;
    to_header = λ k i j. gone (l.originals.operation k) j (l.to_header k i j);
    region = x.region;
    in_region = src.in_region;
    last = l.last;
    longer = l.longer;
    bound = bound;
  })

module _ (law : ClosedBlockLaw) (m : Meaning) (x : EnteredHeader) (src : IsEnteredHeader x) (u : Tree) (w' : IsTree u) (s : IsLeadingStopped x u) where
  pub stopped_runs : KeepsAllRuns m x.tree u
  stopped_runs chosen = keeps_trans (with_roots m chosen) x.tree s.before u (leading_runs law m x src s.before s.tree s.leading chosen) (same_keeps (with_roots m chosen) s.before u s.tree w' s.same s.longer)

  pub stopped_holders : KeepsToHolders m x.tree u x.header
  stopped_holders = let h = leading_holders law m x src s.before s.tree s.leading in record {
    linked = λ root q held. linked_same m s.before u root s.tree w' s.same (h.linked root q held);
    inside = λ root q held. inside_trans x.tree s.before u root (h.inside root q held) (same_change s.before u root s.tree.joined w'.joined s.same);
  }

module _ (law : ClosedBlockLaw) (m : Meaning) (x : EnteredHeader) (src : IsEnteredHeader x) (u : Tree) (w' : IsTree u) where
  pub refused_runs : IsCopyingStopped x u → KeepsAllRuns m x.tree u
  refused_runs (inl s) = same_runs m x.tree u src.tree w' s.0 s.1
  refused_runs (inr s) = stopped_runs law m x src u w' s

  pub refused_holders : IsCopyingStopped x u → KeepsToHolders m x.tree u x.header
  refused_holders (inl s) = same_holders m x.tree u x.header src.tree w' s.0
  refused_holders (inr s) = stopped_holders law m x src u w' s
