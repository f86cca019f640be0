use Rattle.std.proofs.Common.{◌≡◌, ◌∷◌, [], nat_eq, ◌&&◌, true, inl, inr, refl, sym, ◌∙◌, arith}
use Rattle.std.proofs.lemmas.Option.{slice_get_within, get_or_from_slice_get}
use Rattle.pliron_graph_traversal.proofs.InsertLemmas.{was_new}
use Rattle.pliron_graph_traversal.specs.Internal.RegionLawful.{same_key}
use Rattle.pliron_graph_order.proofs.NumberLemmas.{not_tested}
use Rattle.pliron_graph_order.proofs.numbering.Numbering.add_operation.Goals as goal

pub returns-clause-added : goal.returns-clause-added
returns-clause-added c =
    let keys = c.args.self.now.operations.keys in
    let s = c.in_ok-place.ensures.stored in
    let new = was_new (λ a b. nat_eq a b && true) keys c.insert_full.new.self.keys c.args.op _ c.in_ok-place.ensures.added c.in_ok-place.ensures.keys c.if-not-added.false in
    record {
      place = c.in_ok-place.place;
      number_is = omega arith;
      low = slice_get_within c.insert_full.new.self.keys c.in_ok-place.place s.0 s.1;
      stored = get_or_from_slice_get c.insert_full.new.self.keys c.in_ok-place.place s.0 0 s.1 ∙ sym (same_key c.args.op s.0 s.2);
      step = inr (not_tested keys c.args.op new.0, rw (new.1, c.in_ok-push.ensures.items) refl);
    }
