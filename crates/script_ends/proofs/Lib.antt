mod CallAnswers
mod GroupRuns
mod LineAnswers
mod Openings
mod RetrievalAnswers
mod ShownAnswers
pub mod TermAnswers
pub mod TermRuns
mod UnitLaws
