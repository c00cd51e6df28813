pub mod Keys
pub mod RowLists
pub mod Rows
