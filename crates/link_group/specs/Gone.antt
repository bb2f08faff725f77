-- Messages that left a set.
use Rattle.std.specs.Prelude.{ℕ, ◌-◌, Bool, true, false, List, [], map, take, length, Option, Some}
use Rattle.std.specs.Prelude.{None, Result, Ok, Err}
use Rattle.resend_store.specs.declared.messages.Msu.{Msu}
use Rattle.resend_store.specs.Window.{unacknowledged}
use Rattle.group_changeover.specs.Bound.{unbound}
use Rattle.link_group.specs.declared.gone.Gone.{Gone}
use Rattle.link_group.specs.declared.link.Link.{Link}
use Rattle.link_group.specs.OneLink.{window, held, messages, accepted_of}

abbrev pub acknowledged : List Msu → List Gone
acknowledged ms = map (λ m. record { message = m; unsure = false }) ms

abbrev pub unsure : List Msu → List Gone
unsure ms = map (λ m. record { message = m; unsure = true }) ms

abbrev pub messages_gone : List Gone → List Msu
messages_gone gone = map (λ g. g.message) gone

-- ---- messages of a link

abbrev pub first_of : Option ℕ → List Msu → List Msu
first_of None ms = []
first_of (Some n) ms = take n ms

-- the messages that the far side reported as accepted
abbrev pub told_front : Option Link → List Msu
told_front None = []
told_front (Some k) = unbound k.points (first_of (accepted_of k) (held k))

abbrev pub unacknowledged_at : Option Link → List Msu
unacknowledged_at None = []
unacknowledged_at (Some k) = unbound k.points (unacknowledged (window k))

-- the oldest ones, if these are left of those
abbrev pub left_between : List Msu → List Msu → List Msu
left_between before after = take (length before - length after) before

-- the messages that left a link, without bound ones
abbrev pub left_of : Link → Link → List Msu
left_of before after = left_between (messages before) (messages after)

-- ---- what a call adds to a list

-- these, if the call wasn't refused
abbrev pub if_ok : {A E X : Type 0} → Result A E → List X → List X
if_ok (Ok x) xs = xs
if_ok (Err e) xs = []
