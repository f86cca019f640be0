mod ReadingLemmas
mod CongruenceLemmas
mod QuotientLemmas
