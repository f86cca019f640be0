mod OutcomeLemmas
mod PlanLemmas
mod StreamLemmas
