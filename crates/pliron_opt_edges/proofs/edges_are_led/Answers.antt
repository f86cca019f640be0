use Rattle.pliron_opt_edges.proofs.LedRuns.{led_laws}
use Rattle.pliron_opt_edges.proofs.edges_are_led.Goals as goal

pub returns : goal.returns
returns g c = led_laws g.D.HasMeaning.meaning _ _ _ g.met.D.Dialect.forwards_operands g.met.D.BranchesAtOnce.go_at_once
