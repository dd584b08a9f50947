pub mod DealLemmas
pub mod TextLemmas
