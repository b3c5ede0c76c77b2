pub mod AnswerLemmas
pub mod OneReview
pub mod OneAnswer
pub mod PassedReviews
