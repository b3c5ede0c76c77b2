-- The recursions over a history are folds.
pub mod Boards
pub mod Lines
