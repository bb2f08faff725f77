-- Offers in succession.
use Rattle.std.proofs.Common.{◌≡◌, ℕ, ◌+◌, ◌-◌, ◌<◌, ◌≤◌, suc, Option, Some, None, refl, sym, ap, ◌∙◌, arith}
use Rattle.actor_machine.specs.Ledger.{Ledger}
use Rattle.actor_machine.specs.declared.reply.Refusal.{Refusal}
use Rattle.script_lines.specs.Commands.{PlainOffer}
use Rattle.actor_book.specs.Turns.{MOST_TURNS, rests}
use Rattle.script_book.specs.Answers.{Took, offered, goes_on, floods}

flood_step : (k m : ℕ) (o : PlainOffer) (b : Ledger) (r : Option Refusal) → k ≡ suc m → (offered b o).refusal ≡ r
    → floods k o b ≡ goes_on (offered b o) (floods m o (rests MOST_TURNS (offered b o).book).book) r
unfolding floods
flood_step k m o b r h e =
    ap (λ (j : ℕ). floods j o b) h
    ∙ ap (λ (x : Option Refusal). goes_on (offered b o) (floods m o (rests MOST_TURNS (offered b o).book).book) x) e

pub flood_starts : (times : ℕ) (o : PlainOffer) (b : Ledger) → floods (times - 0) o b ≡ floods times o b
flood_starts times o b = ap (λ (k : ℕ). floods k o b) (let e : times - 0 ≡ times = omega arith in e)

pub flood_goes_on : (times sent : ℕ) (o : PlainOffer) (b mid after : Ledger) (t : Took) → sent < times → floods (times - sent) o b ≡ t
    → None ≡ (offered b o).refusal → mid ≡ (offered b o).book → after ≡ (rests MOST_TURNS mid).book → floods (times - (sent + 1)) o after ≡ t
flood_goes_on times sent o b mid after t less h none middle last =
    ap (floods (times - (sent + 1)) o) (last ∙ ap (λ (x : Ledger). (rests MOST_TURNS x).book) middle)
    ∙ (sym (flood_step (times - sent) (times - (sent + 1)) o b None (omega (arith, less)) (sym none)) ∙ h)

pub flood_ends : (times sent : ℕ) (o : PlainOffer) (b now : Ledger) (r : Refusal) (t : Took) → sent < times → floods (times - sent) o b ≡ t
    → Some r ≡ (offered b o).refusal → now ≡ (offered b o).book → (now ≡ t.book) × (Some r ≡ t.refusal)
flood_ends times sent o b now r t less h refused book =
    let same : offered b o ≡ t = sym (flood_step (times - sent) (times - (sent + 1)) o b (Some r) (omega (arith, less)) (sym refused)) ∙ h in
    (book ∙ ap (λ (x : Took). x.book) same, refused ∙ ap (λ (x : Took). x.refusal) same)

no_offers : (o : PlainOffer) (b : Ledger) → floods 0 o b ≡ record { book = b; refusal = None }
unfolding floods
no_offers o b = refl

pub flood_over : (times sent : ℕ) (o : PlainOffer) (b : Ledger) (t : Took) → times ≤ sent → floods (times - sent) o b ≡ t
    → (b ≡ t.book) × (None ≡ t.refusal)
flood_over times sent o b t over h =
    let nothing : times - sent ≡ 0 = omega (arith, over) in
    let same : record { book = b; refusal = None } ≡ t = sym (no_offers o b) ∙ (ap (λ (k : ℕ). floods k o b) (sym nothing) ∙ h) in
    (ap (λ (x : Took). x.book) same, ap (λ (x : Took). x.refusal) same)
