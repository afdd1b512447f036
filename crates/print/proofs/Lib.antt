-- The bytes of a reader, and the text of a list that is too long.
mod Reading
mod Long
