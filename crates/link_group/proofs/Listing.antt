-- What a call adds to the lists of a set: to the messages that it accepted, and to those that left.
use Rattle.std.proofs.Common.{◌≡◌, ℕ, ◌+◌, ◌-◌, arith, List, [], ◌∷◌, ◌++◌, length, take, Option, Some, None, refl, sym, ap, ◌∙◌}
use Rattle.std.specs.Prelude.{slice_get}
use Rattle.std.proofs.lemmas.List.{append-nil, length-append}
use Rattle.plain_laws.proofs.Truths.{by_test}
use Rattle.resend_store.specs.declared.messages.Msu.{Msu}
use Rattle.resend_store.specs.Window.{Window}
use Rattle.su_octets.specs.declared.units.Unit.{Unit as Unit_out}
use Rattle.link_transceiver.specs.declared.signals.Report.{Report}
use Rattle.link_processes.specs.declared.commands.Command.{Command}
use Rattle.group_changeover.specs.declared.changeover.Changeover.{Changeover}
use Rattle.group_changeover.specs.Bound.{unbound}
use Rattle.link_group.specs.declared.gone.Gone.{Gone}
use Rattle.link_group.specs.declared.link.Link.{Link}
use Rattle.link_group.specs.Gone.{acknowledged, unsure, left_between, left_of}
use Rattle.link_group.specs.OneLink.{window, held, messages}
use Rattle.link_group.specs.Links.{change}
use Rattle.link_group.specs.Failing.{hears as hears_at}
use Rattle.link_group.specs.Moving.{is_out_at}
use Rattle.link_group.specs.Doing.{Listened, Spoken, Sent, Reported, asked}
use Rattle.link_group.specs.Commanding.{cleared_at}
use Rattle.link_group.specs.Set.{LinkSet}
use Rattle.link_group.specs.Changing.{is_for, after_message}
use Rattle.link_group.specs.Diverting.{after_hand, after_divert}
use Rattle.link_group.specs.Lines.{ByLink, ByCommand, Alone, seen}
use Rattle.link_group.specs.Laws.{held_by, held_at}
use Rattle.link_group.proofs.Getting.{change_here}
use Rattle.link_group.proofs.Working.{asked_alike, changed_is, part_messages, same_messages}

-- ---- messages that left a link

pub same_kept : (a b : Link) → window b ≡ window a → held a ≡ held b
same_kept a b e = sym (ap (λ (w : Window). w.kept) e)

first_ones : (xs ys : List Msu) → take (length xs) (xs ++ ys) ≡ xs
first_ones [] ys = refl
first_ones (x ∷ xs) ys = ap (λ (zs : List Msu). x ∷ zs) (first_ones xs ys)

front : (xs ys : List Msu) → take (length (xs ++ ys) - length ys) (xs ++ ys) ≡ xs
front xs ys =
    let size : length (xs ++ ys) - length ys ≡ length xs = omega (arith, length-append xs ys) in
    ap (λ (n : ℕ). take n (xs ++ ys)) size ∙ first_ones xs ys

left_is : (before left after : List Msu) → before ≡ left ++ after → left_between before after ≡ left
left_is before left after e = ap (λ (xs : List Msu). left_between xs after) e ∙ front left after

pub left_here : (before after : Link) (left : List Msu) → after.points ≡ before.points → held before ≡ left ++ held after → left_of before after ≡ unbound before.points left
left_here before after left points e = left_is (messages before) (unbound before.points left) (messages after) (part_messages before after left points e)

pub none_left : (gone : List Gone) (before after : Link) → after.points ≡ before.points → held before ≡ held after → gone ++ acknowledged (left_of before after) ≡ gone
none_left gone before after points e =
    ap (λ (ms : List Msu). gone ++ acknowledged ms) (left_is (messages before) [] (messages after) (same_messages before after points e)) ∙ append-nil gone

-- ---- the lists of a set after a call

pub heard_keeps : (c : LinkSet) (m : Option Changeover) → ((after_message c m).accepted ≡ c.accepted) × ((after_message c m).gone ≡ c.gone)
heard_keeps c None = (refl, refl)
heard_keeps c (Some m) =
    by_test (λ (d : LinkSet). (d.accepted ≡ c.accepted) × (d.gone ≡ c.gone)) (is_for c m) (record c { links = change c.links m.label.sls (hears_at m.kind) }) c (λ e. (refl, refl)) (λ e. (refl, refl))

pub diverted_keeps : (c : LinkSet) (l : ℕ) → ((after_divert c l).accepted ≡ c.accepted) × ((after_divert c l).gone ≡ c.gone)
unfolding after_divert
diverted_keeps c l =
    by_test (λ (d : LinkSet). (d.accepted ≡ c.accepted) × (d.gone ≡ c.gone)) (is_out_at (slice_get c.links l)) (after_hand c l) c (λ e. (refl, refl)) (λ e. (refl, refl))

pub link_tells : (did : Link → Link → Type 0) (l : ℕ) (c d : LinkSet) (by : ByLink did l c d) → (d.accepted ≡ c.accepted) × (d.gone ≡ c.gone ++ acknowledged (left_of by.at.before by.at.after))
unfolding seen
link_tells did l c d by = (ap (λ (x : LinkSet). x.accepted) by.set, ap (λ (x : LinkSet). x.gone) by.set)

pub command_tells : (command : Command) (l : ℕ) (c d : LinkSet) → ByCommand command l c d → (d.accepted ≡ c.accepted) × (d.gone ≡ c.gone ++ unsure (cleared_at command (slice_get c.links l)))
unfolding seen
command_tells command l c d by = (ap (λ (x : LinkSet). x.accepted) by.set, ap (λ (x : LinkSet). x.gone) by.set)

-- no message left the link
stays_listed : (did : Link → Link → Type 0) (l : ℕ) (c d : LinkSet) (by : ByLink did l c d) → by.at.after.points ≡ by.at.before.points → held by.at.before ≡ held by.at.after
    → (d.accepted ≡ c.accepted) × (d.gone ≡ c.gone)
stays_listed did l c d by points kept =
    let tells = link_tells did l c d by in
    (tells.0, tells.1 ∙ none_left c.gone by.at.before by.at.after points kept)

pub spoken_keeps : (units : ℕ) (octets : List ℕ) (l : ℕ) (c d : LinkSet) → ByLink (Spoken units octets) l c d → (d.accepted ≡ c.accepted) × (d.gone ≡ c.gone)
spoken_keeps units octets l c d did = stays_listed (Spoken units octets) l c d did did.at.was.points (sym did.at.was.sends.kept)

pub given_keeps : (unit : Option Unit_out) (l : ℕ) (c d : LinkSet) → ByLink (Sent unit) l c d → (d.accepted ≡ c.accepted) × (d.gone ≡ c.gone)
given_keeps unit l c d did = stays_listed (Sent unit) l c d did did.at.was.points (sym did.at.was.sends.kept)

pub reported_keeps : (report : Option Report) (l : ℕ) (c d : LinkSet) → ByLink (Reported report) l c d → (d.accepted ≡ c.accepted) × (d.gone ≡ c.gone)
reported_keeps report l c d did = stays_listed (Reported report) l c d did did.at.was.points (sym (ap (λ (w : Window). w.kept) did.at.was.same))

pub alone_keeps : (did : Link → Link → Type 0) (l : ℕ) (c d : LinkSet) → Alone did l c d → (d.accepted ≡ c.accepted) × (d.gone ≡ c.gone)
alone_keeps did l c d by = (ap (λ (x : LinkSet). x.accepted) by.set, ap (λ (x : LinkSet). x.gone) by.set)

-- ---- messages that a link holds before a call and after it

held_behind : (did : Link → Link → Type 0) (l : ℕ) (c d : LinkSet) (by : ByLink did l c d) → held_at d l ≡ messages by.at.after
unfolding seen
held_behind did l c d by =
    let here : slice_get by.links l ≡ Some by.at.after =
    ap (λ (ks : List Link). slice_get ks l) (by.at.links ∙ changed_is c.links l by.at.before by.at.after by.at.there) ∙ change_here (λ k. by.at.after) c.links l (Some by.at.before) by.at.there in
    ap (λ (x : LinkSet). held_at x l) by.set ∙ (ap held_by (change_here asked by.links l (Some by.at.after) here) ∙ (asked_alike by.at.after).0)

pub between_is : (did : Link → Link → Type 0) (l : ℕ) (c d : LinkSet) → ByLink did l c d → d.gone ≡ c.gone ++ acknowledged (left_between (held_at c l) (held_at d l))
between_is did l c d by =
    (link_tells did l c d by).1
    ∙ (ap (λ (ms : List Msu). c.gone ++ acknowledged (left_between ms (messages by.at.after))) (sym (ap held_by by.at.there))
    ∙ ap (λ (ms : List Msu). c.gone ++ acknowledged (left_between (held_at c l) ms)) (sym (held_behind did l c d by)))

-- no message left, if nothing changed
pub none_between : (c d : LinkSet) (l : ℕ) → d ≡ c → d.gone ≡ c.gone ++ acknowledged (left_between (held_at c l) (held_at d l))
none_between c d l is =
    ap (λ (x : LinkSet). x.gone) is
    ∙ (sym (ap (λ (ms : List Msu). c.gone ++ acknowledged ms) (left_is (held_at c l) [] (held_at c l) refl) ∙ append-nil c.gone)
    ∙ ap (λ (x : LinkSet). c.gone ++ acknowledged (left_between (held_at c l) (held_at x l))) (sym is))
