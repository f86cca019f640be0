-- What rotations keep of the operation that they are inside.
use Rattle.std.proofs.Common.{◌≡◌, ℕ, refl, sym, ◌∙◌}
use Rattle.pliron_core.specs.declared.attrs.IRStatus.{IRStatus}
use Rattle.pliron_core.specs.declared.attrs.IRStatus.TheVariants.{Changed, Unchanged}
use Rattle.pliron_core.specs.Status.{changed_by_either}
use Rattle.pliron_core.specs.Invariant.{IsTree}
use Rattle.pliron_core.specs.Tree.{Tree, IsLive, HoldsBlock}
use Rattle.pliron_core.proofs.InsideLemmas.{itself_stands}
use Rattle.pliron_laws.specs.Datum.{Meaning}
use Rattle.pliron_laws.specs.Linked.{IsWellLinked}
use Rattle.pliron_theory.specs.Change.{IsWholeChange}
use Rattle.pliron_theory.specs.Keeps.{KeepsAllRuns}
use Rattle.pliron_theory.proofs.WholeChanges.{whole_refl, whole_trans}
use Rattle.pliron_rewrite_rotation.specs.HeaderCopied.{KeepsToHolders}

-- what keeps to the holders of a header is a whole change of each of them
pub rotated_whole : (m : Meaning) (t u : Tree) (op header : ℕ) → IsTree t → IsLive t op → IsWellLinked m t op → HoldsBlock t op header → KeepsToHolders m t u header → KeepsAllRuns m t u → IsWholeChange m t u op
rotated_whole m t u op header w live linked held h runs =
    let inside = h.inside op linked held in
    record { liveness = (itself_stands t u op w.joined live inside).0; linked = h.linked op linked held; inside = inside; runs = runs }

-- ---- one rotation after the other

-- t has become u, and a status that says that nothing changed says so rightly
pub record IsRotating (m : Meaning) (t u : Tree) (op : ℕ) (status : IRStatus) : Type 0 where
  pub change : IsWholeChange m t u op
  pub accurate : status ≡ Unchanged → u ≡ t

pub rotating_start : (m : Meaning) (t : Tree) (op : ℕ) → IsLive t op → IsWellLinked m t op → IsRotating m t t op Unchanged
rotating_start m t op live linked = record { change = whole_refl m t op live linked; accurate = λ e. refl }

changed_apart : Changed ≡ Unchanged → ⊥
changed_apart e = cc

neither : (a b : IRStatus) → changed_by_either a b ≡ Unchanged → (a ≡ Unchanged) × (b ≡ Unchanged)
neither Changed b e = absurd (changed_apart e)
neither Unchanged b e = (refl, e)

pub rotating_on : (m : Meaning) (t u v : Tree) (op : ℕ) (a b c : IRStatus) → IsRotating m t u op a → IsWholeChange m u v op → (b ≡ Unchanged → v ≡ u) → c ≡ changed_by_either a b → IsRotating m t v op c
rotating_on m t u v op a b c h change accurate e = record {
  change = whole_trans m t u v op h.change change;
  accurate = λ s. let n = neither a b (sym e ∙ s) in accurate n.1 ∙ h.accurate n.0;
}
