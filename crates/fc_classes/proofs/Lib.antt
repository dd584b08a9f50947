pub mod NamingLemmas
pub mod PathLemmas
pub mod TableLemmas
