pub mod Answers
pub mod WholeRuns
pub mod Accesses
pub mod EitherWay
pub mod EqualAnswers
pub mod Promise
