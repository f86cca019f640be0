pub mod Answers
pub mod Answered
pub mod AnswerLaws
