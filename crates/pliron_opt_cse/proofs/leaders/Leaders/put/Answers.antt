use Rattle.std.proofs.Common.{ap, ◌∙◌}
use Rattle.std.specs.Map.{lookup}
use Rattle.std.specs.Prelude.{nat_eq}
use Rattle.std.specs.Cmp.Lexicographic.{pointwise}
use Rattle.pliron_opt_cse.proofs.KeyLemmas.{others_kept}
use Rattle.pliron_opt_cse.proofs.leaders.Leaders.put.Goals as goal

pub returns-clause-others : goal.returns-clause-others
returns-clause-others c = λ other ne. ap (lookup (λ k. pointwise nat_eq other k.items)) c.in_ok-insert.ensures.entries ∙ others_kept (λ k. k.items) other c.args.key c.args.place c.args.self.now.places.entries ne
