pub mod BackLemmas
pub mod ClassLemmas
pub mod GameLemmas
pub mod ListLemmas
pub mod Rearrange
pub mod StepLemmas
