-- Laws of bytes with zeros behind them.
pub mod Padding
