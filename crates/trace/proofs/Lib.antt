pub mod Spans
pub mod Pieces
pub mod NumberLaws
pub mod EntryLines
pub mod EntryLoops
pub mod FitLaws
pub mod GroupLaws
