-- What the print program writes.
pub mod Printed
