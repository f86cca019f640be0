-- What propagation does to a tree is what a pass may do.
use Rattle.std.proofs.Common.{inl, inr, ◌≡◌, ℕ, Bool, IsSome, Result, Ok, Err, sym, subst, refl}
use Rattle.pliron_core.specs.declared.attrs.AttrObj.{AttrObj}
use Rattle.pliron_core.specs.declared.attrs.IRStatus.{IRStatus}
use Rattle.pliron_core.specs.Tree.{Tree, IsLive}
use Rattle.pliron_laws.specs.Datum.{Head}
use Rattle.pliron_laws.specs.InPlace.{Outcome}
use Rattle.pliron_laws.specs.Linked.{IsWellLinked}
use Rattle.pliron_laws.specs.declared.fault.OptError.{OptError}
use Rattle.pliron_laws.specs.declared.fault.OptError.TheVariants.{Memory}
use Rattle.pliron_theory.specs.Change.{IsPassChange}
use Rattle.pliron_theory.specs.Edges.{KeepsEdges}
use Rattle.pliron_theory.proofs.ChangeLemmas.{change_refl}
use Rattle.pliron_theory.specs.LatticeValues.{Says}
use Rattle.pliron_theory.specs.Following.{Follows}
use Rattle.pliron_opt_sccp.specs.declared.rewrite.Replacements.{Replacements}
use Rattle.pliron_opt_sccp.specs.Chain.{IsPartlyRewritten}
use Rattle.pliron_opt_sccp.specs.Replacements.{HasFound}
use Rattle.pliron_opt_sccp.specs.Propagated.{IsPartlyPropagated, Propagates, pops_of, status_of_rewrite}

module _ (x : Says) (t : Tree) (root : ℕ) (found : Replacements) (pops : ℕ) (h : HasFound x x.can_fold t root found pops) (u : Tree) where
  pub found_change : IsLive t root → IsWellLinked x.meaning t root → Follows x t root h.facts u → IsPassChange x.meaning t u root
  found_change live linked g = record {
    liveness = subst (λ z. IsSome z.head) (sym (g.rows root live)) live;
    linked = g.links root linked;
    inside = g.changed_inside;
    runs = g.runs;
  }

  pub found_partly : (accepts : AttrObj → Bool) (head : AttrObj → Head) (outcome : Outcome) → IsPartlyRewritten x.can_fold accepts head outcome t root h.facts u → IsPartlyPropagated x accepts head outcome t root u
  found_partly accepts head outcome p = inr (h.facts, record { closed = h.found_by.closed; held = h.found_by.held; precise = h.precise }, p)

module _ (x : Says) (accepts : AttrObj → Bool) (head : AttrObj → Head) (outcome : Outcome) (t : Tree) (root : ℕ) (u : Tree) where
  -- memory was refused after a first part of the rewrites
  pub refused_propagates : (r : Result (IRStatus × ℕ) OptError) (e : OptError) → r ≡ Err e → e ≡ Memory → IsPartlyPropagated x accepts head outcome t root u → IsPassChange x.meaning t u root → KeepsEdges t u → ((k : ℕ) → IsWellLinked x.meaning t k → IsWellLinked x.meaning u k) → Propagates x accepts head outcome t root u (status_of_rewrite r) (pops_of r)
  refused_propagates r e is memory partly change edges links = subst (λ z. Propagates x accepts head outcome t root u (status_of_rewrite z) (pops_of z)) (sym is) (record {
    propagated = tt;
    partly = partly;
    change = change;
    accurate = tt;
    edges = edges;
    links = links;
    memory = memory;
  })

  -- the count may be left out
  pub status_propagates : (r : Result (IRStatus × ℕ) OptError) (answer : Result IRStatus OptError) → status_of_rewrite r ≡ answer → Propagates x accepts head outcome t root u (status_of_rewrite r) (pops_of r) → (pops : ℕ) × Propagates x accepts head outcome t root u answer pops
  status_propagates r answer is p = (pops_of r, subst (λ z. Propagates x accepts head outcome t root u z (pops_of r)) is p)

-- memory was refused before the first rewrite
pub nothing_propagates : (x : Says) (accepts : AttrObj → Bool) (head : AttrObj → Head) (outcome : Outcome) (t : Tree) (root : ℕ) → IsLive t root → IsWellLinked x.meaning t root → (r : Result (IRStatus × ℕ) OptError) (e : OptError) → r ≡ Err e → e ≡ Memory → Propagates x accepts head outcome t root t (status_of_rewrite r) (pops_of r)
nothing_propagates x accepts head outcome t root live linked r e is memory =
    refused_propagates x accepts head outcome t root t r e is memory (inl refl) (change_refl x.meaning t root live linked) (λ op before after. refl) (λ k linked. linked)
