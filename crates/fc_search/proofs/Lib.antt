pub mod AnswerLemmas
mod BetweenLemmas
pub mod EndLemmas
pub mod FarLemmas
mod FloorLemmas
pub mod HearLemmas
mod NeedLemmas
mod RowLemmas
pub mod ShownLemmas
pub mod TurnLemmas
mod WalkLemmas
