-- Re-exports lemmas on empty lists of places.
pub use Rattle.plain_laws.proofs.Lists.{append-nil_left, append-nil_right}
