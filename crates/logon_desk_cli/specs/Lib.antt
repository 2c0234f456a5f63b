pub mod Printed
pub mod Events
pub mod Read
pub mod Answered
pub mod Histories
pub mod Faults
