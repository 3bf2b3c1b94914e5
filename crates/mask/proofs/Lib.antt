-- Laws that the proofs cite, and the theorems that the definition is document 01's sentence.
pub mod Runs
pub mod ByteCounts
pub mod Names
pub mod Sentence
