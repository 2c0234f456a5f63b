mod Loading
mod Packing
