-- The calls over a connection that the host keeps as a row of bytes.
pub mod Answer
pub mod Left
pub mod RowCalls
pub mod Numbers
