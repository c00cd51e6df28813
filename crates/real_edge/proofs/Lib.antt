-- A file is read whole where no more is read than is allowed.
mod Whole
