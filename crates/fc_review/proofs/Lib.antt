pub mod FindingLemmas
pub mod GlueLemmas
pub mod HandLemmas
pub mod RatingLemmas
pub mod ReviewLemmas
pub mod SpanLemmas
