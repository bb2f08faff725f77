pub mod BlockTables
pub mod Names
pub mod RouteIndexes
pub mod Routes
pub mod Rows
pub mod Scopes
pub mod Sides
pub mod Tables
pub mod Triggers
pub use Rattle.sdl_ast.specs.Places
pub use Rattle.sdl_ast.specs.Plain
pub use Rattle.sdl_ast.specs.Views
pub use Rattle.sdl_ast.specs.declared as sdl_ast_types
