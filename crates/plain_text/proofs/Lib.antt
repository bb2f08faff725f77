mod Blocks
mod SoFar
