-- Ends as cuts between values, and what many intervals have in common.
mod Cuts
mod Folds
