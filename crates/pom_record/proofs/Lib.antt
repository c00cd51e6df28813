-- What is answered for trees and bytes, and where fields and properties stand.
pub mod PropertyLemmas
pub mod ReadingLemmas
pub mod Sorted
