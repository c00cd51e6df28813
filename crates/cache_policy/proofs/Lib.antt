-- Lists of checks place by place, and who is asked.
mod CheckPlaces
mod Offline
