pub mod Calls
pub mod Transcripts
pub mod Answering
