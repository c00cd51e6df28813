pub mod Scans
pub mod Texts
pub mod Views
pub mod DeclarationViews
