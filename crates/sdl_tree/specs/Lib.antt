pub mod DeclarationSyntax
pub mod PlainTokens
pub mod Printed
pub mod Refusals
pub mod SectionViews
pub mod Settled
pub mod Syntax
