pub mod ChecksumFiles
pub mod ChecksumRows
pub mod Digests
pub mod Fed
pub mod KeyAnswerRows
pub mod KeyAnswers
