-- What the store keeps over several calls, and whose fault it is that there is no answer.
mod Blaming
mod Bound
mod Deciding
mod Faith
mod Judging
mod Keeping
mod OnePart
mod Receiving
mod Urls
mod Using
mod Versions
