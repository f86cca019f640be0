mod NumberReads
mod ListReads
mod EdgeReads
mod CountReads
mod RoleMoves
