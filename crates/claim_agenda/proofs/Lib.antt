-- Lemmas of agendas.
pub mod Choosing
pub mod Members
pub mod Moving
pub mod Queues
