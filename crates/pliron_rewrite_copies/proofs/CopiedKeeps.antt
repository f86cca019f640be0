-- Closed copies keep runs.
use Rattle.std.proofs.Common.{◌≡◌, ℕ, sym, ap, ◌∙◌}
use Rattle.pliron_core.specs.Tree.{head_of, IsLive}
use Rattle.pliron_core.proofs.HoldingLemmas.{past_live}
use Rattle.pliron_theory.specs.Keeps.{IsFit}
use Rattle.pliron_theory.proofs.Simulation.{agree_sym}
use Rattle.pliron_rewrite_copies.specs.CopyLaws.{CopiesLaw, JoinedCopiesLaw}
use Rattle.pliron_rewrite_copies.proofs.CopiedFit.{copied_fit}
use Rattle.pliron_rewrite_copies.proofs.CopiedRuns.{copied_agree}
use Rattle.pliron_rewrite_copies.proofs.JoinedFit.{joined_fit}

pub copies_keep : CopiesLaw
copies_keep m t u o copy header w w' longer h kept closed = record {
  agrees = λ root f l. agree_sym (copied_agree m t u o w w' h copy header root (closed root f l) (copied_fit m t u o w w' h copy header root (closed root f l) f (own root f l) l) (own root f l));
  heads = λ root f l. sym (h.operations root l).head ∙ ap (head_of t) (own root f l);
  stays = λ root f l. copied_fit m t u o w w' h copy header root (closed root f l) f (own root f l) l;
  grows = longer;
  fewer = λ root lt l. (kept root lt l).0;
}
  where
    own : (root : ℕ) → IsFit m t root → IsLive u root → o.operation root ≡ root
    own root f l = (kept root (past_live t root f.live) l).1

pub joined_keeps : JoinedCopiesLaw
joined_keeps m t u o copy header w w' longer h kept closed = record {
  agrees = λ root f l. let c = closed root f l in copied_agree m t u o w w' h copy header root c.1 f c.0;
  heads = λ root f l. ap (head_of t) (sym (closed root f l).0) ∙ (h.operations root f.live).head;
  stays = λ root f l. let c = closed root f l in joined_fit m t u o w w' h root c.2 f c.0;
  grows = longer;
  fewer = λ root lt l. kept root lt l;
}
