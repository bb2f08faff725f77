-- The outcome of the words of a command line.
use Rattle.std.proofs.Common.{◌≡◌, ◌⊎◌, inl, inr, subst, ℕ, List, []}
use Rattle.clap.specs.Words.{Text, fault_of, subcommand_of}
use Rattle.mtp2_words.specs.Asked.{IsAskedBy}
use Rattle.mtp2_words.specs.Commands.{all_commands}
use Rattle.mtp2_words.specs.declared.requests.Request.{Request}
use Rattle.mtp2_play.specs.Printed.{IsStatus}
use Rattle.mtp2_play.specs.Served.{IsServedBy, WasServed, is_run}
use Rattle.mtp2_play.specs.declared.asked.Handled.{Handled}
use Rattle.mtp2_play.specs.declared.asked.Handled.TheVariants.{Over, Soak as asks_soak}

run_status : (status : ℕ) → (status ≡ 0) ⊎ (status ≡ 1) ⊎ (status ≡ 2) ⊎ (status ≡ 4) → IsStatus status
run_status status (inl h) = inl h
run_status status (inr (inl h)) = inr (inl h)
run_status status (inr (inr (inl h))) = inr (inr (inl h))
run_status status (inr (inr (inr h))) = inr (inr (inr (inr h)))

pub told_status : (status : ℕ) → (status ≡ 0) ⊎ (status ≡ 3) ⊎ (status ≡ 4) → IsStatus status
told_status status (inl h) = inl h
told_status status (inr (inl h)) = inr (inr (inr (inl h)))
told_status status (inr (inr h)) = inr (inr (inr (inr h)))

-- words without a fault make a request, and that was carried out
pub served_by : (words : List Text) (request : Request) (it : Handled) → fault_of all_commands words ≡ [] → IsAskedBy (subcommand_of all_commands words) request → WasServed request it
    → IsServedBy words it
served_by words request (Over status) taken asked was = (is_run request was.0.old was.0.new taken asked was.0.answered was.1, run_status status was.1)
served_by words request (asks_soak script workers) taken asked is =
    let P : Request → Type 0 = λ r. IsAskedBy (subcommand_of all_commands words) r in
    record { taken = taken; asked = subst P is asked }
