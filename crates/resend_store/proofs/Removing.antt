-- Removal of a waiting message.
use Rattle.std.proofs.Common.{◌≡◌, ℕ, ◌+◌, ◌<◌, ◌≤◌, suc, true, false, List, ◌++◌, length, take, drop, ap, ◌∙◌, arith}
use Rattle.std.specs.Prelude.{Option, Some, None, IsSome, OnSome, All}
use Rattle.std.proofs.lemmas.List.{length-drop, length-take, length-append, take-take, take-append-le}
use Rattle.std.proofs.lemmas.List.Elements.{All-append, All-take, All-drop}
use Rattle.resend_store.specs.declared.messages.Msu.{Msu}
use Rattle.resend_store.specs.Messages.{IsMessage}

pub on_some : (P : Type 0) (r : Option Msu) → IsSome r → OnSome r P → P
on_some P (Some m) is h = h
on_some P None is h = let f : false ≡ true = is in cc

pub front_stays : (ms : List Msu) (s i : ℕ) → s ≤ i → i < length ms → take s (take i ms ++ drop (i + 1) ms) ≡ take s ms
front_stays ms s i le lt =
    let long : s ≤ length (take i ms) = omega (arith, length-take i ms, le, lt) in
    take-append-le s (take i ms) (drop (i + 1) ms) long ∙ take-take s i ms le

pub one_less : (ms : List Msu) (i : ℕ) → i < length ms → length (take i ms ++ drop (i + 1) ms) + 1 ≡ length ms
one_less ms i lt = omega (arith, length-append (take i ms) (drop (i + 1) ms), length-take i ms, length-drop (i + 1) ms, lt)

pub others_whole : (ms : List Msu) (i : ℕ) → All IsMessage ms → All IsMessage (take i ms ++ drop (i + 1) ms)
others_whole ms i whole = All-append IsMessage (take i ms) (drop (i + 1) ms) (All-take IsMessage i ms whole) (All-drop IsMessage (i + 1) ms whole)

pub taken_out : (ms new : List Msu) (i : ℕ) → new ≡ take i ms ++ drop (suc i) ms → new ≡ take i ms ++ drop (i + 1) ms
taken_out ms new i e = let next : suc i ≡ i + 1 = omega arith in e ∙ ap (λ (j : ℕ). take i ms ++ drop j ms) next
