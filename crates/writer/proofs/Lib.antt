pub mod Roundtrip
