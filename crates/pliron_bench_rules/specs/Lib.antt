pub mod BenchRules
pub mod RulesHold
