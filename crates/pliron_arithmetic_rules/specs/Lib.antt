pub mod ArithmeticRules
pub mod RulesHold
pub mod Seen
