-- A header that was closed may be copied, and what both changes keep.
use Rattle.std.proofs.Common.{◌≡◌, inl, inr, ℕ, None, IsSome, sym, ap, ◌∙◌, subst}
use Rattle.pliron_core.specs.Changes.{IsInsideChange}
use Rattle.pliron_core.specs.Invariant.{IsTree}
use Rattle.pliron_core.specs.Tree.{Tree, In, last_of, IsInside, HoldsBlock, successors_of, regions_of, parent_of, body_of, block_parent_of}
use Rattle.pliron_core.proofs.HoldingLemmas.{inside_block}
use Rattle.pliron_core.proofs.InsideLemmas.{inside_trans}
use Rattle.pliron_laws.specs.Datum.{Meaning}
use Rattle.pliron_laws.specs.Linked.{IsWellLinked}
use Rattle.pliron_theory.proofs.KeptPlaces.{inside_forth}
use Rattle.pliron_rewrite_copies.specs.ClosedBlock.{IsClosedBlock}
use Rattle.pliron_rewrite_loops.specs.Closing.{IsClosing}
use Rattle.pliron_rewrite_rotation.specs.declared.rotating.Rotation.{Rotation}
use Rattle.pliron_rewrite_rotation.specs.Entering.{MayCopyHeader}
use Rattle.pliron_rewrite_rotation.specs.HeaderCopied.{KeepsToHolders}
use Rattle.pliron_rewrite_rotation.specs.Rotation.{StandsBeside, MayRotate}
use Rattle.pliron_rewrite_rotation.proofs.GateHolders.{held_beside, places, holds_still, passed_linked, passed_inside}

stands_inside : (t : Tree) (root header k : ℕ) → StandsBeside t header k → HoldsBlock t root header → IsInside t root k
stands_inside t root header k s held = inside_block s.0 s.1 (held_beside t root header s.0 s.2 held)

module _ (m : Meaning) (t s : Tree) (x : Rotation) (w : IsTree t) (may : MayRotate m t x) (c : IsClosing m t s x.body.block x.exit.block x.body.users.items x.exit.users.items) where
  parents : (k : ℕ) → parent_of s k ≡ parent_of t k
  parents k = c.then.parents k ∙ c.first.parents k

  bodies : (b : ℕ) → body_of s b ≡ body_of t b
  bodies b = c.then.bodies b ∙ c.first.bodies b

  block_parents : (b : ℕ) → block_parent_of s b ≡ block_parent_of t b
  block_parents b = c.then.block_parents b ∙ c.first.block_parents b

  regions : (k : ℕ) → regions_of s k ≡ regions_of t k
  regions k = c.then.regions k ∙ c.first.regions k

  successors : (k : ℕ) → successors_of s k ≡ successors_of t k
  successors k = c.then.successors k ∙ c.first.successors k

  pub may_copy : IsClosedBlock s x.header → MayCopyHeader s x.header x.entering.items
  may_copy closed = record {
    stands = subst IsSome (sym (block_parents x.header)) may.stands;
    closed = closed;
    childless = λ b k i j. regions k ∙ may.childless b k i (subst (In k) (bodies b) j);
    no_ring = λ k i j. may.no_ring k (subst (In k) (bodies x.header) i) (subst (In x.header) (successors k) j);
    enter = λ k i.
        let e = may.enter k i in
        record {
          block = e.block;
          in_block = parents k ∙ e.in_block;
          last = ap (last_of None) (bodies e.block) ∙ e.last;
          apart = e.apart;
          beside = block_parents e.block ∙ e.beside ∙ sym (block_parents x.header);
          no_results = c.then.results k ∙ c.first.results k ∙ e.no_results;
          childless = regions k ∙ e.childless;
        };
  }

  module _ (root : ℕ) (held : HoldsBlock t root x.header) where
    middle_held : (b : ℕ) → block_parent_of t b ≡ block_parent_of t x.header → HoldsBlock c.middle root b
    middle_held b e = holds_still m t c.middle x.exit.block x.exit.users.items c.first root b (held_beside t root x.header b e held)

    pub still_held : HoldsBlock s root x.header
    still_held = holds_still m c.middle s x.body.block x.body.users.items c.then root x.header (holds_still m t c.middle x.exit.block x.exit.users.items c.first root x.header held)

    middle_inside : (k : ℕ) → In k x.body.users.items → IsInside c.middle root k
    middle_inside k i = inside_forth (places m t c.middle x.exit.block x.exit.users.items c.first) root k (stands_inside t root x.header k (may.users_beside k (inl i)) held)

    closed_inside : IsWellLinked m t root → IsInsideChange t s root
    closed_inside l = inside_trans t c.middle s root
        (passed_inside m t c.middle x.exit.block x.exit.users.items c.first w root l (held_beside t root x.header x.exit.block may.exit_beside held) (λ k i. stands_inside t root x.header k (may.users_beside k (inr i)) held))
        (passed_inside m c.middle s x.body.block x.body.users.items c.then c.tree root (passed_linked m t c.middle x.exit.block x.exit.users.items c.first root l) (middle_held x.body.block may.body_beside) middle_inside)

  pub closed_holders : KeepsToHolders m t s x.header
  closed_holders = record {
    linked = λ root l held. passed_linked m c.middle s x.body.block x.body.users.items c.then root (passed_linked m t c.middle x.exit.block x.exit.users.items c.first root l);
    inside = λ root l held. closed_inside root held l;
  }

  -- and what was copied then
  pub both_holders : (u : Tree) → KeepsToHolders m s u x.header → KeepsToHolders m t u x.header
  both_holders u h = record {
    linked = λ root l held. h.linked root (closed_holders.linked root l held) (still_held root held);
    inside = λ root l held. inside_trans t s u root (closed_holders.inside root l held) (h.inside root (closed_holders.linked root l held) (still_held root held));
  }
