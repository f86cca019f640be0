pub mod ParameterLemmas
pub mod BodyLemmas
pub mod FunctionLemmas
