pub mod FormFacts
