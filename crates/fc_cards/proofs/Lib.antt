pub mod CardLemmas
pub mod EachRank
pub mod TextLemmas
