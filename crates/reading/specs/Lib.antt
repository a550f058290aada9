pub mod Next
pub mod Dialogues
