pub mod Lines
pub mod Cursor
pub mod LineFault
pub mod Samples
pub mod NoteOne
pub mod Steps
