pub mod Laws
pub mod Page
pub mod Played
pub mod Telling
pub mod Token
