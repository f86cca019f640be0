use Rattle.std.proofs.Common.{inl, refl, subst, sym}
use Rattle.pliron_core.specs.Tree.{layout_of}
use Rattle.pliron_core.proofs.NeighbourLemmas.{first_of-In}
use Rattle.pliron_opt_sccp.specs.Constraints.{SatisfiesAll}
use Rattle.pliron_opt_sccp.specs.LatticeTables.{known_constants}
use Rattle.pliron_opt_sccp.proofs.DistinctLists.{held_directly}
use Rattle.pliron_opt_sccp.proofs.InsideLists.{holds_listed}
use Rattle.pliron_opt_sccp.proofs.Stepping.{can_start}
use Rattle.pliron_opt_sccp.proofs.search.start.Goals as goal

pub satisfy_all-requires : goal.satisfy_all-requires
satisfy_all-requires c =
    let t = c.args.ctx.now.tree in
    let w = c.well_formed-2.ensures.tree in
    let s = c.in_ok-tables.tables in
    can_start t c.args.root s c.constrain_entries.new.constraints.items
    (λ r b i e. c.in_ok-tables.ensures.ok.numbered b (holds_listed t w c.args.root b (c.args.root, held_directly t w c.args.root r b i (first_of-In b (layout_of t r) e), inl refl)))
    (λ now. let a = c.in_ok-constrain_entries.ensures.ok (known_constants s) now in (λ m. (a.0 m).1, λ p. a.1 (subst (SatisfiesAll (known_constants s) now) (sym c.new-constraints.ensures.items) tt, p)))

pub returns-clause-ok : goal.returns-clause-ok
returns-clause-ok c =
    let s = c.in_ok-tables.tables in
    record {
      before = s;
      unsearched = c.in_ok-tables.ensures.ok;
      constraints = c.constrain_entries.new.constraints.items;
      asks = λ now. let a = c.in_ok-constrain_entries.ensures.ok (known_constants s) now in (λ m. (a.0 m).1, λ p. a.1 (subst (SatisfiesAll (known_constants s) now) (sym c.new-constraints.ensures.items) tt, p));
      applied = c.satisfy_all.ensures.applied;
    }
