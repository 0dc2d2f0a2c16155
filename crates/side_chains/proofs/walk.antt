mod Joining
mod Linking
mod Walking
