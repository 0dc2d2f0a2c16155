mod Answering
mod Linking
