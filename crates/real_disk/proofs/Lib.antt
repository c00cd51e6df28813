-- What stands at the front of a room of which a further part was written.
mod Rooms
