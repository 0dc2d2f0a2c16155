mod Answering
mod Planting
mod Writing
