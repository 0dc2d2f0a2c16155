mod Answering
mod Meshing
