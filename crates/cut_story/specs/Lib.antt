-- STORY-WINDOW, STORY-CUT: one story of two recorded links, through refilled buffers and as `cut` prints it.
pub mod Names
pub mod Windows
pub mod Told
pub mod Worked
