pub mod SumsLemmas
