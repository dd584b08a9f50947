pub mod EndLemmas
pub mod ListLoop
pub mod PageLemmas
pub mod PlayLemmas
pub mod ReplayLoop
pub mod StopLoop
