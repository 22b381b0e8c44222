-- How far standard input has been read or standard output written.
pub mod Carrying
