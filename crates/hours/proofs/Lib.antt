mod Transcribing
mod Heeding
