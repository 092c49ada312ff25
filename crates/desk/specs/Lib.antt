pub mod Counting
pub mod Answers
pub mod Nouns
pub mod Serving
