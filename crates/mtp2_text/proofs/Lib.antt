mod Naming
mod Tokens
