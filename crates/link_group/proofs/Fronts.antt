-- Messages that leave from the front.
use Rattle.std.proofs.Common.{◌≡◌, ℕ, ◌+◌, List, drop, drop-drop, ap, ◌∙◌}
use Rattle.resend_store.specs.declared.messages.Msu.{Msu}

pub one_more : (n : ℕ) (old mid new : List Msu) → mid ≡ drop n old → new ≡ drop 1 mid → new ≡ drop (n + 1) old
one_more n old mid new was is = is ∙ ap (drop 1) was ∙ drop-drop 1 n old
