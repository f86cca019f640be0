use Rattle.std.proofs.Common.{rules, ◌≡◌, ◌∙◌, ◌++◌, ◌∷◌, [], refl, sym, subst}
use Rattle.pliron_laws.specs.MaterialisedConstants.{IsRestored}
use Rattle.pliron_laws.proofs.MaterialisedLemmas.{last_goes, none_left}
use Rattle.pliron_laws.proofs.materialised_constants.erase_all.Goals as goal

pub loop-last-init : goal.loop-last-init
loop-last-init g c = record { restored = λ op t u s back. (u, s, back); point = refl }

pub erase_operation-requires-clause-live : goal.erase_operation-requires-clause-live
erase_operation-requires-clause-live g c =
    let r = c.requires in
    let now = c.loop-last.invariant.restored r.0 r.1 r.2 r.3 r.4 in
    let e : c.loop-last.made.items ≡ c.pop.new.self.items ++ c.in-Some.last ∷ [] = search (rules, c.in-Some.ensures) in
    (last_goes r.0 r.1 c.loop-last.made.items now.0 c.loop-last.ctx.tree c.pop.new.self.items c.in-Some.last now.1 now.2 c.well_formed-in-Some.ensures.tree e).live

pub erase_operation-requires-clause-contained : goal.erase_operation-requires-clause-contained
erase_operation-requires-clause-contained g c =
    let r = c.requires in
    let now = c.loop-last.invariant.restored r.0 r.1 r.2 r.3 r.4 in
    let e : c.loop-last.made.items ≡ c.pop.new.self.items ++ c.in-Some.last ∷ [] = search (rules, c.in-Some.ensures) in
    (last_goes r.0 r.1 c.loop-last.made.items now.0 c.loop-last.ctx.tree c.pop.new.self.items c.in-Some.last now.1 now.2 c.well_formed-in-Some.ensures.tree e).contained

pub loop-last-preserved : goal.loop-last-preserved
loop-last-preserved g c =
    let e : c.loop-last.made.items ≡ c.pop.new.self.items ++ c.in-Some.last ∷ [] = search (rules, c.in-Some.ensures) in
    record {
      restored = λ op t u s back.
          let now = c.loop-last.invariant.restored op t u s back in
          let deleted = last_goes op t c.loop-last.made.items now.0 c.loop-last.ctx.tree c.pop.new.self.items c.in-Some.last now.1 now.2 c.well_formed-in-Some.ensures.tree e in
          (deleted.before, deleted.all_in_place, subst (IsRestored deleted.before) (sym c.erase_operation.ensures.erased) deleted.restored);
      point = c.erase_operation.ensures.point ∙ c.loop-last.invariant.point;
    }

pub returns-clause-restored : goal.returns-clause-restored
returns-clause-restored g c = λ op t u s back.
    let e : c.loop-last.made.items ≡ [] = search (rules, c.in_default.ensures) in
    let now = c.loop-last.invariant.restored op t u s back in
    none_left op t c.loop-last.made.items now.0 c.loop-last.ctx.tree now.1 e now.2
