-- Lemmas on trimmed texts, ranges of texts and the room of numbers.
mod Numbers
mod Texts
