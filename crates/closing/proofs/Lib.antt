mod WordLaws
mod AnswerLaws
mod Arriving
mod JudgeLaws
pub mod Outcomes
