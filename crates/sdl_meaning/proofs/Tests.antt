-- Laws on tests that std lacks in this form.
use Rattle.std.proofs.Common.{◌≡◌, ℕ, nat_eq, true, arith}
use Rattle.std.proofs.lemmas.Bool.Decides.{nat_tests}
pub use Rattle.plain_laws.proofs.Truths.{and_first, and_second, neither_first, neither_second}

pub itself : (n : ℕ) → nat_eq n n ≡ true
itself n = grind (arith, nat_tests)
