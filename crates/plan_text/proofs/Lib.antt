pub mod Printing
pub mod Spelling
pub mod DigitNumbers
pub mod Comparing
pub mod LowestTerms
pub mod ReadingLemmas
pub mod Decimals
