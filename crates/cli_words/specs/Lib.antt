pub mod Forms
pub mod Reading
pub mod Tables
pub mod Words
