use Rattle.std.proofs.Common.{Some, slice_get, ap, sym, ◌∙◌}
use Rattle.pliron_laws.proofs.Records.{op_shows}
use Rattle.pliron_opt_sccp.proofs.reactions.named_argument.Goals as goal

pub returns-in-Some : goal.returns-in-Some
returns-in-Some g c = λ o at. record {
  region = c.args.candidate.region;
  key = c.get_region.result;
  entry = c.in_ok-entry.entry;
  index = c.args.candidate.index;
  in_place = ap (λ z. slice_get z c.args.candidate.region) (sym (op_shows c.args.ctx.now.tree c.args.op o at).regions) ∙ c.get_region.ensures.region;
  first = sym c.in_ok-entry.ensures.first;
  is_argument = c.get_argument.ensures.argument;
  names = sym (c.in-Some.ensures o at) ∙ ap (λ z. Some z) c.if-named-place.true;
}
