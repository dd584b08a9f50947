pub mod BoardLemmas
pub mod LayoutLemmas
pub mod Pigeonhole
pub mod PlaceLemmas
pub mod TallyLemmas
pub mod SameLayout
