use Rattle.pliron_core.proofs.SameTreeLemmas.{same_refl, same_sym, same_trans}
use Rattle.pliron_core.proofs.SameReadLemmas.{stand_alike, read_alike, allow_alike}
use Rattle.pliron_core.proofs.InsideLemmas.{inside_refl, inside_trans, same_change, widen, sibling}
use Rattle.pliron_core.proofs.BesideLemmas.{same_created_erased}
use Rattle.pliron_core.proofs.laws.change_laws.Goals as goal

pub returns : goal.returns
returns c = record {
  same = record {
    reflexive = same_refl;
    symmetric = same_sym;
    transitive = same_trans;
    alike = stand_alike;
    read = read_alike;
    allow = allow_alike;
    undone = same_created_erased;
  };
  inside = record {
    reflexive = inside_refl;
    transitive = inside_trans;
    same = λ t u op wt wu s. same_change t u op wt.joined wu.joined s;
    wider = λ t u op b w i h. widen t u op b w.joined i h;
    beside = λ t u op b w up h x e. sibling t u op b w.joined up h x e;
  };
}
