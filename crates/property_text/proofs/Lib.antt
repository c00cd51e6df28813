pub mod CutLemmas
pub mod FillLemmas
pub mod LawLemmas
pub mod SegmentLemmas
pub mod ValueLemmas
