pub mod GreaterLemmas
pub mod LookLemmas
pub mod RowLemmas
pub mod TableLemmas
pub mod WitnessLemmas
