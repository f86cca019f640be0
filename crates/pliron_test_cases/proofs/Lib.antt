pub mod ForwardedLemmas
