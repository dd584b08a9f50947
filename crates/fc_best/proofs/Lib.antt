pub mod AnsweringLemmas
pub mod AnswerLemmas
pub mod AttemptLemmas
pub mod HearLemmas
pub mod RelayLemmas
pub mod StandingLemmas
pub mod TailLemmas
