use Rattle.pliron_dialect.specs.Roles.{role_at, allows_at}
use Rattle.pliron_dialect.specs.Parts.{roles_fit}
use Rattle.pliron_dialect.specs.Monotone.{folds_monotonely}
use Rattle.pliron_dialect.proofs.laws.folds_are_monotone.Goals as goal

pub returns : goal.returns
returns g c = folds_monotonely g.K.Roles.tables.value (role_at g.K.Roles.tables) (allows_at g.K.Roles.tables) (roles_fit g.K.Roles.tables g.met.K.Roles.keeps_tables)
