-- What is answered for a document's tree, and for its bytes.
pub mod ReadingLemmas
