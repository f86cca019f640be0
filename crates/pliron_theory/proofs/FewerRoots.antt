-- What keeps the runs of roots keeps those of fewer.
use Rattle.std.proofs.Common.{ℕ, Bool, IsTrue, sym, ◌∙◌}
use Rattle.pliron_core.specs.Tree.{Tree}
use Rattle.pliron_laws.specs.Datum.{Head, Meaning}
use Rattle.pliron_laws.specs.Tree.{shape_of}
use Rattle.pliron_laws.specs.Machine.{step}
use Rattle.pliron_laws.specs.Agree.{Agree}
use Rattle.pliron_laws.specs.Root.{WellDefined}
use Rattle.pliron_laws.specs.Answers.{HeadPasses}
use Rattle.pliron_theory.specs.Keeps.{IsFit, with_roots}
use Rattle.pliron_theory.specs.RunLaws.{FewerRootsLaw}

module _ (m : Meaning) (fewer : Head → Bool) where
  defined : (t : Tree) (root : ℕ) → WellDefined m t root → WellDefined (with_roots m fewer) t root
  unfolding shape_of
  defined t root d = record {
    no_successors = d.no_successors;
    own_values = d.own_values;
    dominance = d.dominance;
    forwards = d.forwards;
    terminators = d.terminators;
    unused = d.unused;
    dominated = d.dominated;
  }

  defined_all : (t : Tree) (root : ℕ) → WellDefined (with_roots m fewer) t root → WellDefined m t root
  unfolding shape_of
  defined_all t root d = record {
    no_successors = d.no_successors;
    own_values = d.own_values;
    dominance = d.dominance;
    forwards = d.forwards;
    terminators = d.terminators;
    unused = d.unused;
    dominated = d.dominated;
  }

  pub fit_all : ((h : Head) → IsTrue (fewer h) → IsTrue (m.may_be_root h)) → (t : Tree) (root : ℕ) → IsFit (with_roots m fewer) t root → IsFit m t root
  fit_all all t root f = record {
    live = f.live;
    chosen = λ h e. all h (f.chosen h e);
    defined = defined_all t root f.defined;
    linked = record { edges = f.linked.edges; admitted = f.linked.admitted };
  }

  pub fit_fewer : (t : Tree) (root : ℕ) → HeadPasses fewer t root → IsFit m t root → IsFit (with_roots m fewer) t root
  fit_fewer t root chosen f = record {
    live = f.live;
    chosen = chosen;
    defined = defined t root f.defined;
    linked = record { edges = f.linked.edges; admitted = f.linked.admitted };
  }

  agree_fewer : (t u : Tree) (root : ℕ) → Agree m t u root → Agree (with_roots m fewer) t u root
  unfolding step shape_of
  agree_fewer t u root a = record { alike = a.alike }

pub keeps_fewer : FewerRootsLaw
keeps_fewer m fewer t u all k = record {
  agrees = λ root f l. agree_fewer m fewer t u root (k.agrees root (fit_all m fewer all t root f) l);
  heads = λ root f l. k.heads root (fit_all m fewer all t root f) l;
  stays = λ root f l.
      let g = fit_all m fewer all t root f in
      fit_fewer m fewer u root (λ h e. f.chosen h (sym (k.heads root g l) ∙ e)) (k.stays root g l);
  grows = k.grows;
  fewer = k.fewer;
}
