use Rattle.std.proofs.Common.{◌∙◌, sym, ap, length, take, arith}
use Rattle.std.specs.List.{sum}
use Rattle.std.proofs.lemmas.List.{length-map}
use Rattle.pliron_core.specs.UseSlots.{mark_of, marks}
use Rattle.pliron_core.proofs.CountLemmas.{marks-small, rank-marks}
use Rattle.pliron_core.proofs.LevelLemmas.{sum-marks_take}
use Rattle.pliron_core.proofs.use_slots.rank_counted.Goals as goal

pub rank-requires : goal.rank-requires
rank-requires c = omega (arith, c.requires.place, ap length c.requires.counts, length-map c.args.row.now mark_of)

pub overflow_cast-result : goal.overflow_cast-result
overflow_cast-result c = omega (arith, c.rank.ensures, ap (λ l. sum (take c.args.place l)) (sym c.requires.counts), sum-marks_take (marks c.args.row.now) c.args.place (marks-small c.args.row.now))

pub returns : goal.returns
returns c = c.rank.ensures ∙ ap (λ l. sum (take c.args.place l)) (sym c.requires.counts) ∙ sym (rank-marks c.args.row.now c.args.place)
