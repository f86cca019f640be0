pub mod StatementHeads
