pub mod Bounds
pub mod LineLaws
pub mod FirstFaulty
pub mod CursorLaws
pub mod OneLine
pub mod NoteOneHolds
pub mod SamplesHold
