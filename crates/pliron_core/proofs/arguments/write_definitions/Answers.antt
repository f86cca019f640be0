use Rattle.std.proofs.Common.{ap, ◌∙◌, arith, [], ◌∷◌, sym, ◌++◌}
use Rattle.pliron_core.specs.Making.{made_by, definitions_of}
use Rattle.pliron_core.proofs.GrownLemmas.{mapped_range_more, added_more}
use Rattle.pliron_core.proofs.arguments.write_definitions.Goals as goal

pub loop-i-preserved : goal.loop-i-preserved
loop-i-preserved c =
    record {
      items = c.push_reserved.ensures.items ∙ added_more _ _ (definitions_of c.args.maker c.loop-i.i) _ _ c.loop-i.invariant.items (mapped_range_more (made_by c.args.maker) c.loop-i.i ∙ ap (λ d. definitions_of c.args.maker c.loop-i.i ++ d ∷ []) (sym c.definition.ensures));
      len = omega (arith, c.push_reserved.ensures.len, c.loop-i.invariant.len);
      capacity = c.push_reserved.ensures.capacity ∙ c.loop-i.invariant.capacity;
    }
