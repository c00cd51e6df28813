-- Agendas: what is to be claimed, in order, and what a claim answers from it.
pub mod Agendas
pub mod Answering
