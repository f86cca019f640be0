pub mod FormLemmas
pub mod ValueLemmas
