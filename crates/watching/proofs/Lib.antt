pub mod Watching
