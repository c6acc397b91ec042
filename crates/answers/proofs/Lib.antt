pub mod SpellLemmas
pub mod ValueLemmas
pub mod AnswerLemmas
pub mod Due
