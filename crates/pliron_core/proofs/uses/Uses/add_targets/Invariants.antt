use Rattle.std.proofs.Common.{◌≡◌, ◌+◌, ◌++◌, [], replicate}
use Rattle.pliron_core.proofs.uses.Uses.add_targets.Given as goal

abbrev pub invariant-loop : goal.invariant-loop
invariant-loop l = record {
  targets : l.self.targets ≡ l.fn.self.targets;
  uses : l.self.uses ≡ l.fn.self.uses ++ replicate l.counter [];
  user_room : l.self.user_room ≡ l.fn.self.user_room;
  target_room : l.self.target_room + l.counter ≡ l.fn.self.target_room;
}
