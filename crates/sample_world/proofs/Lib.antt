-- One step of each loop.
mod Steps
