mod Drawings
pub mod NotedLines
