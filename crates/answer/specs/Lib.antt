pub mod Sentence
