mod Entering
mod Indexing
mod Putting
mod Seeking
