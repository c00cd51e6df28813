-- The items and ranks of versions, their orders, and the grammar of constraints.
pub mod RankValue
pub mod Items
pub mod Cutting
pub mod Ranks
pub mod Kept
pub mod Order
pub mod Rows
pub mod Constraints
pub mod ConstraintReader
pub mod Shapes
pub mod Refusals
pub mod ConstraintRows
