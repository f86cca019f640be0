mod FunctionLemmas
mod LostLemmas
mod WordLemmas
