pub mod HearFacts
pub mod KnownFacts
pub mod LinkFacts
pub mod OpenFacts
pub mod PageFacts
pub mod PieceFacts
pub mod VisitFacts
