-- The number of octets in the messages of a link.
use Rattle.std.proofs.Common.{◌≡◌, ◌∙◌, ℕ, zero, suc, ◌+◌, ◌-◌, ◌^◌, ◌<◌, ◌≤◌, ◌&&◌, ◌||◌, not, Bool, true, false, List, [], ◌∷◌, ◌++◌, length, take, get_or, min, nat_le, unwrap_or, Option, None, Some, slice_get, refl, sym, ap, arith}
use Rattle.std.proofs.lemmas.Bool.Decides.{nat_tests}
use Rattle.std.proofs.lemmas.List.{take_more, take_all}
use Rattle.std.proofs.lemmas.Option.{none-some, slice_get_within, get_or_from_slice_get}
use Rattle.resend_store.specs.declared.messages.Msu.{Msu}
use Rattle.group_changeover.specs.declared.labels.Label.{Label}
use Rattle.group_changeover.specs.Labels.{label_in}
use Rattle.group_changeover.specs.Sharing.{selection_of, selection_by, link_of}
use Rattle.group_changeover.specs.Bound.{is_bound}
use Rattle.link_group.specs.declared.link.Link.{Link}
use Rattle.link_group.specs.Set.{LinkSet, points_of}
use Rattle.link_group.specs.Reading.{held_count, message_at}
use Rattle.link_group.specs.Links.{read_at}
use Rattle.line_tending.specs.Cares.{LAST}
use Rattle.line_tending.specs.Sending.{MOST_HELD, MOST_OCTETS, size_of, octets_in, held_by, is_full_of, is_full_at, finds_no_room}

octets_append : (xs ys : List Msu) → octets_in (xs ++ ys) ≡ octets_in xs + octets_in ys
octets_append [] ys = omega arith
octets_append (x ∷ xs) ys = omega (arith, octets_append xs ys)

none_past : (xs : List Msu) (n : ℕ) → slice_get xs n ≡ None → length xs ≤ n
none_past [] n e = omega arith
none_past (x ∷ xs) zero e = absurd (none-some x (sym e))
none_past (x ∷ xs) (suc n) e = omega (arith, none_past xs n e)

take_past : (xs : List Msu) (n : ℕ) → slice_get xs n ≡ None → take (n + 1) xs ≡ take n xs
take_past xs n e =
    let past : length xs ≤ n = none_past xs n e in
    take_all (n + 1) xs (omega arith) ∙ sym (take_all n xs past)

-- One more message.
pub octets_more : (xs : List Msu) (n : ℕ) (o : Option Msu) → slice_get xs n ≡ o → octets_in (take (n + 1) xs) ≡ octets_in (take n xs) + size_of o
octets_more xs n None e = ap octets_in (take_past xs n e) ∙ omega arith
octets_more xs n (Some m) e =
    let more : take (n + 1) xs ≡ take n xs ++ get_or xs n m ∷ [] = take_more xs n m (slice_get_within xs n m e) in
    let last : get_or xs n m ≡ m = get_or_from_slice_get xs n m m e in
    let split : octets_in (take n xs ++ m ∷ []) ≡ octets_in (take n xs) + octets_in (m ∷ []) = octets_append (take n xs) (m ∷ []) in
    ap octets_in (more ∙ ap (λ (x : Msu). take n xs ++ x ∷ []) last) ∙ omega (arith, split)

message_there : (k : Option Link) (n : ℕ) → message_at n k ≡ slice_get (held_by k) n
message_there None n = refl
message_there (Some k) n = refl

-- The sum so far, which stays at its greatest value.
pub sum_more : (k : Option Link) (n octets size : ℕ) → octets ≡ min LAST (octets_in (take n (held_by k))) → size ≡ size_of (message_at n k)
    → min LAST (octets + size) ≡ min LAST (octets_in (take (n + 1) (held_by k)))
sum_more k n octets size is size_is =
    let more = octets_more (held_by k) n (message_at n k) (sym (message_there k n)) in
    omega (arith, is, size_is, more)

held_there : (k : Option Link) → unwrap_or (read_at held_count k) 0 ≡ length (held_by k)
held_there None = refl
held_there (Some k) = refl

capped_reaches : (n : ℕ) → nat_le MOST_OCTETS (min LAST n) ≡ nat_le MOST_OCTETS n
capped_reaches n = grind (arith, nat_tests)

-- All messages that it holds, and their octets.
full_by : (k : Option Link) (count octets : ℕ) → count ≡ unwrap_or (read_at held_count k) 0 → octets ≡ min LAST (octets_in (take count (held_by k)))
    → (nat_le MOST_HELD count || nat_le MOST_OCTETS octets) ≡ is_full_of k
full_by k count octets is octets_is =
    let count_is : count ≡ length (held_by k) = is ∙ held_there k in
    let whole : take (length (held_by k)) (held_by k) ≡ held_by k = take_all (length (held_by k)) (held_by k) (omega arith) in
    let octets_at : octets ≡ min LAST (octets_in (held_by k)) =
    octets_is
    ∙ (ap (λ (n : ℕ). min LAST (octets_in (take n (held_by k)))) count_is ∙ ap (λ (ms : List Msu). min LAST (octets_in ms)) whole) in
    ap (λ (n : ℕ). nat_le MOST_HELD n || nat_le MOST_OCTETS octets) count_is
    ∙ (ap (λ (n : ℕ). nat_le MOST_HELD (length (held_by k)) || nat_le MOST_OCTETS n) octets_at
    ∙ ap (λ (b : Bool). nat_le MOST_HELD (length (held_by k)) || b) (capped_reaches (octets_in (held_by k))))

-- The greatest number of messages that it may hold.
pub full_of_many : (k : Option Link) (count : ℕ) → count ≡ unwrap_or (read_at held_count k) 0 → MOST_HELD ≤ count → true ≡ is_full_of k
full_of_many k count is many =
    let octets : ℕ = min LAST (octets_in (take count (held_by k))) in
    let e : nat_le MOST_HELD count ≡ true = grind (arith, nat_tests) in
    sym (ap (λ (b : Bool). b || nat_le MOST_OCTETS octets) e) ∙ full_by k count octets is refl

-- Fewer messages.
pub full_of_few : (k : Option Link) (count octets : ℕ) → count ≡ unwrap_or (read_at held_count k) 0 → octets ≡ min LAST (octets_in (take count (held_by k)))
    → count < MOST_HELD → nat_le MOST_OCTETS octets ≡ is_full_of k
full_of_few k count octets is octets_is few =
    let e : nat_le MOST_HELD count ≡ false = grind (arith, nat_tests) in
    sym (ap (λ (b : Bool). b || nat_le MOST_OCTETS octets) e) ∙ full_by k count octets is octets_is

-- ---- whether a message finds room

pub no_room_bound : (c : LinkSet) (m : Msu) → is_bound (points_of c) m ≡ true → false ≡ finds_no_room c m
no_room_bound c m bound = sym (ap (λ (b : Bool). not b && is_full_at c (link_of c.table (selection_of m))) bound)

pub no_room_full : (c : LinkSet) (m : Msu) (label : Label) (full : Bool) → label_in m.sif.items ≡ Some label → is_bound (points_of c) m ≡ false
    → full ≡ is_full_at c (link_of c.table label.sls) → full ≡ finds_no_room c m
unfolding selection_of
no_room_full c m label full is free full_is =
    let selection_is : selection_of m ≡ label.sls = ap selection_by is in
    full_is
    ∙ (ap (λ (s : ℕ). is_full_at c (link_of c.table s)) (sym selection_is)
    ∙ sym (ap (λ (b : Bool). not b && is_full_at c (link_of c.table (selection_of m))) free))
