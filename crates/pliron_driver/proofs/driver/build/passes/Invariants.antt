use Rattle.std.proofs.Common.{◌≡◌, map, take}
use Rattle.pliron_driver.proofs.driver.build.passes.Given as goal

abbrev pub invariant-loop-name : goal.invariant-loop-name
invariant-loop-name g l = map g.F.S.Pass.name l.passes.passes.items ≡ map (λ name. name.now) (take l.name-index l.names)
