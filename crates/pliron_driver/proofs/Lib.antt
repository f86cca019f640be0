mod RunLemmas
mod AskLemmas
mod WordLemmas
mod ClosedLemmas
