-- Octets of messages.
use Rattle.std.proofs.Common.{◌≡◌, ℕ, ◌+◌, ◌-◌, ◌*◌, ◌≤◌, ◌<◌, zero, suc, List, [], ◌∷◌, length, take, drop, get_or, arith, ap, sym, ◌∙◌}
use Rattle.std.specs.Prelude.{All, IfSome, slice_get}
use Rattle.std.proofs.lemmas.List.Sums.{sum_by-le, sum_by_more, sum_by-take-drop}
use Rattle.std.proofs.lemmas.List.Elements.{All-weaker, All-take, All-head, All-tail}
use Rattle.std.proofs.lemmas.List.{take-take, length-take, drop-take}
use Rattle.resend_store.specs.declared.messages.Msu.{Msu}
use Rattle.resend_store.specs.Messages.{IsMessage, octets, octets_of}

-- each message has at most 273 octets
pub octets-le : (ms : List Msu) → All IsMessage ms → octets ms ≤ length ms * 273
octets-le ms all =
    sum_by-le octets_of 273 ms (All-weaker IsMessage (λ m. octets_of m ≤ 273) (λ m (h : IsMessage m). let fits = h.fits in omega arith) ms all)

-- so the octets of a part of the window are bounded
pub octets-take-le : (n : ℕ) (ms : List Msu) → All IsMessage ms → n ≤ 128 → octets (take n ms) ≤ 34944
octets-take-le n ms all h = omega (arith, octets-le (take n ms) (All-take IsMessage n ms all), length-take n ms)

-- one more message
pub octets_more : (ms : List Msu) (i : ℕ) (m : Msu) → i < length ms → m ≡ get_or ms i m → octets (take (i + 1) ms) ≡ octets (take i ms) + octets_of m
octets_more ms i m h e = sum_by_more octets_of ms i m h ∙ ap (λ (x : Msu). octets (take i ms) + octets_of x) (sym e)

-- a shorter prefix has no more octets
pub octets_front : (ms : List Msu) (i n : ℕ) → i ≤ n → octets (take i ms) ≤ octets (take n ms)
octets_front ms i n h =
    let whole = sum_by-take-drop octets_of (take n ms) i in
    let part : octets (take i (take n ms)) ≡ octets (take i ms) = ap (λ (xs : List Msu). octets xs) (take-take i n ms h) in
    omega arith

-- the octets that are left are those of the whole without those removed
pub octets_rest : (n s : ℕ) (ms : List Msu) → n ≤ s → octets (take n ms) + octets (take (s - n) (drop n ms)) ≡ octets (take s ms)
octets_rest n s ms h =
    let e : n + (s - n) ≡ s = omega arith in
    let whole = sum_by-take-drop octets_of (take s ms) n in
    let front : octets (take n (take s ms)) ≡ octets (take n ms) = ap (λ (xs : List Msu). octets xs) (take-take n s ms h) in
    let back : octets (drop n (take s ms)) ≡ octets (take (s - n) (drop n ms)) =
    ap (λ (k : ℕ). octets (drop n (take k ms))) (sym e) ∙ ap (λ (xs : List Msu). octets xs) (drop-take n (s - n) ms) in
    omega arith

-- the message at an index, if there is one
pub message_at : (ms : List Msu) (i : ℕ) → All IsMessage ms → IfSome (slice_get ms i) IsMessage
message_at [] i all = tt
message_at (m ∷ ms) zero all = All-head IsMessage m ms all
message_at (m ∷ ms) (suc i) all = message_at ms i (All-tail IsMessage m ms all)
