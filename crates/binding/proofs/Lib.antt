pub mod TypesDone
pub mod Asking
pub mod Ending
pub mod BindDone
pub mod Quiet
