-- How many values a signal that a link accepts has.
use Rattle.std.proofs.Common.{◌≡◌, ℕ, zero, suc, ◌≤◌, true, false, not, ◌&&◌, if◌then◌else◌, List, [], ◌∷◌, length, map, Option, Some, None, refl, arith}
use Rattle.std.specs.Prelude.{All, nat_lt, slice_get}
use Rattle.std.specs.List.{list_any}
use Rattle.std.proofs.lemmas.List.{length-map}
use Rattle.turn_code.specs.Values.{sort_of}
use Rattle.turn_code.specs.Transitions.{parameters_of}
use Rattle.turn_code.specs.Valid.{IsValid}
use Rattle.turn_code.specs.declared.value.Sort.{Sort}
use Rattle.turn_code.specs.declared.value.Value.{Value}
use Rattle.turn_code.specs.declared.draft.Draft.{Draft}
use Rattle.turn_code.specs.declared.draft.DraftSignal.{DraftSignal}
use Rattle.turn_code.specs.declared.numbers.SignalNumber.{SignalNumber}
use Rattle.actor_machine.specs.Core.{Core}
use Rattle.actor_machine.specs.Effects.{is_full}
use Rattle.actor_machine.specs.Kept.{IsKept}
use Rattle.actor_machine.specs.Ledger.{Ledger, state_of}
use Rattle.actor_machine.specs.Refusals.{refuses, first_of, is_offered, offers, same_sort, same_sorts, has_stopped, offer_rows}
use Rattle.actor_machine.specs.declared.actor.Actor.{Actor}
use Rattle.actor_machine.specs.declared.event.Event.TheVariants.{Offer}
use Rattle.actor_machine.specs.declared.event.Offer.{Offer as Offered}
use Rattle.actor_machine.specs.declared.reply.Refusal.{Refusal}
use Rattle.actor_machine.specs.declared.reply.Refusal.TheVariants as refusal
use Rattle.actor_book.specs.Accepted.{Takes}
use Rattle.actor_book.proofs.Passing.{is_there}
use Rattle.actor_book.proofs.Taking.{link_takes}
use Rattle.plain_laws.proofs.Truths.{and_second as right_true}
use Rattle.plain_laws.proofs.Options.{row_passes}
use Rattle.std.proofs.lemmas.Bool.{not-false as not_true}

same_long : (xs ys : List Sort) → same_sorts xs ys ≡ true → length xs ≡ length ys
same_long [] [] h = refl
same_long [] (y ∷ ys) h = absurd (cc)
same_long (x ∷ xs) [] h = absurd (cc)
same_long (x ∷ xs) (y ∷ ys) h =
    let rest : length xs ≡ length ys = same_long xs ys (right_true (same_sort x y) (same_sorts xs ys) h) in
    omega arith

tail_all : (P : DraftSignal → Type 0) (x : DraftSignal) (xs : List DraftSignal) → All P (x ∷ xs) → All P xs
tail_all P x xs h k d below = h (suc k) d (omega arith)

few_at : (ss : List DraftSignal) (n : ℕ) → All (λ (s : DraftSignal). length s.parameters ≤ 4) ss → length (parameters_of (slice_get ss n)) ≤ 4
few_at [] n h = omega arith
few_at (s ∷ ss) zero h = h 0 s (omega arith)
few_at (s ∷ ss) (suc n) h = few_at ss n (tail_all (λ (s : DraftSignal). length s.parameters ≤ 4) s ss h)

few_offered : (d : Draft) (n : ℕ) (s : SignalNumber) (vs : List Value) → IsValid d → is_offered d n s vs ≡ true → length vs ≤ 4
unfolding is_offered
few_offered d n s vs valid h =
    let sorts : same_sorts (map sort_of vs) (parameters_of (slice_get d.signals s.0)) ≡ true =
    right_true (nat_lt s.0 (length d.signals)) (same_sorts (map sort_of vs) (parameters_of (slice_get d.signals s.0)))
    (right_true (list_any (offers n s) d.routes) (nat_lt s.0 (length d.signals) && same_sorts (map sort_of vs) (parameters_of (slice_get d.signals s.0))) h) in
    let long : length (map sort_of vs) ≡ length (parameters_of (slice_get d.signals s.0)) =
    same_long (map sort_of vs) (parameters_of (slice_get d.signals s.0)) sorts in
    let few : length (parameters_of (slice_get d.signals s.0)) ≤ 4 = few_at d.signals s.0 valid.limits.parameters in
    let mapped : length (map sort_of vs) ≡ length vs = length-map vs sort_of in
    omega arith

offered_from : (d : Draft) (o : Offered) (a : Actor) → IsValid d → first_of (offer_rows d o a) ≡ None → length o.values.items ≤ 4
unfolding offer_rows
offered_from d o a valid h =
    let third : Option Refusal = if is_full a.port then Some refusal.Full else first_of [] in
    let second : Option Refusal = if not (is_offered d a.name.process.0 o.signal o.values.items) then Some refusal.NoRoute else third in
    let one : (has_stopped a.standing ≡ false) × (second ≡ None) = row_passes (has_stopped a.standing) refusal.Stopped second h in
    let two : (not (is_offered d a.name.process.0 o.signal o.values.items) ≡ false) × (third ≡ None) =
    row_passes (not (is_offered d a.name.process.0 o.signal o.values.items)) refusal.NoRoute third one.1 in
    few_offered d a.name.process.0 o.signal o.values.items valid (not_true (is_offered d a.name.process.0 o.signal o.values.items) two.0)

link_offered : (d : Draft) (w : Core) (o : Offered) → IsValid d → refuses d w (Offer o) ≡ None → length o.values.items ≤ 4
unfolding refuses
link_offered d w o valid h =
    let found = is_there w.actors o.actor (λ a. first_of (offer_rows d o a)) h in
    offered_from d o found.actor valid found.passes

pub few_values : (b : Ledger) (o : Offered) → IsKept b → Takes b (Offer o) → length o.values.items ≤ 4
few_values b o kept takes = link_offered b.set (state_of b) o kept.stands.valid (link_takes b (Offer o) takes)
