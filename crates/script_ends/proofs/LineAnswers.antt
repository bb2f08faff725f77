-- Octets received on a link of a set.
use Rattle.std.proofs.Common.{◌≡◌, ℕ, ◌+◌, ◌<◌, ◌≤◌, List, [], ◌∷◌, ◌++◌, length, drop, Option, None, Some, Bool, true, false, if◌then◌else◌, refl, sym, ap, subst, arith, ◌∙◌}
use Rattle.std.specs.Prelude.{codes, is_some, slice_get, slice_set}
use Rattle.std.proofs.lemmas.List.{length-drop, drop-drop}
use Rattle.link_transceiver.specs.declared.signals.Report.{Report}
use Rattle.link_group.specs.declared.link.Link.{Link}
use Rattle.link_group.specs.Gone.{acknowledged, left_of}
use Rattle.link_group.specs.Set.{LinkSet}
use Rattle.link_group.specs.Links.{change, set_at}
use Rattle.link_group.specs.Doing.{Reported, asked, asked_of, began, unbegun, leaves_out}
use Rattle.link_group.specs.Lines.{ByLink, seen}
use Rattle.plain_laws.proofs.Places.{get_set_same}
use Rattle.std.proofs.lemmas.Option.{slice_get_within}
use Rattle.script_ends.proofs.TermAnswers.{reports, fewer_reports}
use Rattle.script_ends.specs.GroupAnswers.{HasReported, was_one, was_none, GivesReports, Listens, TakesPart, TakesLine}
use Rattle.script_ends.specs.GroupAnswers as answers

-- ---- reports

abbrev reports_by : Option Link → ℕ
reports_by None = 0
reports_by (Some k) = reports k.terminal.processes.transceiver

-- The number of pending reports of a link.
abbrev pub reports_at : ℕ → LinkSet → ℕ
reports_at l c = reports_by (slice_get c.links l)

set_there : (ks : List Link) (l : ℕ) (k x : Link) → slice_get ks l ≡ Some k → slice_get (slice_set ks l x) l ≡ Some x
set_there ks l k x is = get_set_same ks l x (slice_get_within ks l k is)

change_there : (f : Link → Link) (ks : List Link) (l : ℕ) (k : Link) → slice_get ks l ≡ Some k → slice_get (change ks l f) l ≡ Some (f k)
unfolding change
change_there f ks l k is = ap (λ o. slice_get (set_at ks l f o) l) is ∙ set_there ks l k (f k) is

seen_links : (l : ℕ) (c : LinkSet) → (seen l c).links ≡ change c.links l asked
unfolding seen
seen_links l c = refl

-- The link after a call by its terminal.
link_behind : (did : Link → Link → Type 0) (l : ℕ) (c d : LinkSet) (by_link : ByLink did l c d) → slice_get d.links l ≡ Some (asked by_link.at.after)
link_behind did l c d by_link =
    let there : slice_get by_link.links l ≡ Some by_link.at.after =
    ap (λ ks. slice_get ks l) by_link.at.links ∙ set_there c.links l by_link.at.before by_link.at.after by_link.at.there in
    ap (λ (x : LinkSet). slice_get x.links l) by_link.set
    ∙ (ap (λ ks. slice_get ks l) (seen_links l (record c { links = by_link.links; gone = c.gone ++ acknowledged (left_of by_link.at.before by_link.at.after) })) ∙ change_there asked by_link.links l by_link.at.after there)

-- The link is there after the call.
pub stays_there : (did : Link → Link → Type 0) (l : ℕ) (c d : LinkSet) → ByLink did l c d → l < length d.links
stays_there did l c d by_link = slice_get_within d.links l (asked by_link.at.after) (link_behind did l c d by_link)

-- Updating a link after a call leaves its reports unchanged.
asked_case : (k : Link) (b : Bool) → reports (asked_of (if b then leaves_out (unbegun k) else unbegun k)).terminal.processes.transceiver ≡ reports k.terminal.processes.transceiver
asked_case k true = refl
asked_case k false = refl

reports_asked : (k : Link) → reports (asked k).terminal.processes.transceiver ≡ reports k.terminal.processes.transceiver
reports_asked k = asked_case k (began k)

pub fewer_left : (l : ℕ) (c d : LinkSet) (r : Report) → ByLink (Reported (Some r)) l c d → reports_at l d < reports_at l c
fewer_left l c d r by_link =
    let k : Link = by_link.at.before in
    let j : Link = by_link.at.after in
    let less : reports j.terminal.processes.transceiver < reports k.terminal.processes.transceiver =
    fewer_reports k.terminal j.terminal (Some r) refl by_link.at.was.report_is by_link.at.was.terminal in
    let before : reports_at l c ≡ reports k.terminal.processes.transceiver = ap reports_by by_link.at.there in
    let after : reports_at l d ≡ reports j.terminal.processes.transceiver = ap reports_by (link_behind (Reported (Some r)) l c d by_link) ∙ reports_asked j in
    omega (arith, less, before, after)

-- By the report taken out, if there was one.
pub reported_by : (l : ℕ) (c d : LinkSet) (o : Option Report) (b : Bool) → b ≡ is_some o → ByLink (Reported o) l c d → HasReported l c d b
reported_by l c d None b is by_link = let P : Bool → Type 0 = λ x. HasReported l c d x in subst P (sym is) (was_none by_link)
reported_by l c d (Some r) b is by_link = let P : Bool → Type 0 = λ x. HasReported l c d x in subst P (sym is) (was_one r by_link)

-- One report was taken out.
pub fewer_after : (l : ℕ) (c d : LinkSet) (one : Bool) → one ≡ true → HasReported l c d one → reports_at l d < reports_at l c
fewer_after l c d true is (was_one r by_link) = fewer_left l c d r by_link
fewer_after l c d false is (was_none by_link) = absurd (let e : false ≡ true = is in cc)

pub one_given : (l : ℕ) (c m d : LinkSet) (one : Bool) → one ≡ true → HasReported l c m one → GivesReports l m d → GivesReports l c d
one_given l c m d true is (was_one r by_link) others = answers.one_given c m d r by_link others
one_given l c m d false is (was_none by_link) others = absurd (let e : false ≡ true = is in cc)

pub none_given : (l : ℕ) (c d : LinkSet) (one : Bool) → one ≡ false → HasReported l c d one → GivesReports l c d
none_given l c d true is (was_one r by_link) = absurd (let e : true ≡ false = is in cc)
none_given l c d false is (was_none by_link) = answers.last_given c d by_link

pub there_reported : (l : ℕ) (c d : LinkSet) (one : Bool) → HasReported l c d one → l < length d.links
there_reported l c d true (was_one r by_link) = stays_there (Reported (Some r)) l c d by_link
there_reported l c d false (was_none by_link) = stays_there (Reported None) l c d by_link

there_given : (l : ℕ) (c d : LinkSet) → GivesReports l c d → l < length d.links
there_given l c d (answers.last_given _ _ by_link) = stays_there (Reported None) l c d by_link
there_given l c d (answers.one_given _ m _ r by_link others) = there_given l m d others

pub there_taken : (l n : ℕ) (xs : List ℕ) (c d : LinkSet) → TakesPart l xs n c d → l < length d.links
there_taken l n xs c d takes = there_given l takes.between d takes.reports

-- ---- octets of the line

nothing_behind : (n : ℕ) (xs : List ℕ) → length xs ≤ n → drop n xs ≡ []
nothing_behind n xs long =
    let none : length (drop n xs) ≡ 0 = omega (arith, length-drop n xs, long) in
    empty_list (drop n xs) none
  where
    empty_list : (ys : List ℕ) → length ys ≡ 0 → ys ≡ []
    empty_list [] none = refl
    empty_list (y ∷ ys) none = absurd (omega (arith, none))

-- No octets remain.
pub listens_end : (l : ℕ) (c : LinkSet) (octets : List ℕ) (from : ℕ) → length octets ≤ from → Listens l c (drop from octets) c
listens_end l c octets from over = let P : List ℕ → Type 0 = λ xs. Listens l c xs c in subst P (sym (nothing_behind from octets over)) (answers.heard_all c)

-- A part of the remaining octets.
pub listens_more : (l : ℕ) (c w d : LinkSet) (octets xs : List ℕ) (from n : ℕ) → xs ≡ drop from octets → TakesPart l xs n c w
    → Listens l w (drop (from + n) octets) d → Listens l c (drop from octets) d
listens_more l c w d octets xs from n same takes others =
    let P : List ℕ → Type 0 = λ ys. Listens l w ys d in
    let Q : List ℕ → Type 0 = λ ys. Listens l c ys d in
    let rest : drop (from + n) octets ≡ drop n xs = sym (drop-drop n from octets) ∙ ap (drop n) (sym same) in
    subst Q same (answers.heard_part c takes.between w d xs n takes.some takes.heard takes.reports (subst P rest others))

-- ---- lines

pub line_heard : (l : ℕ) (octets : List ℕ) (c d : LinkSet) (text : List ℕ) → text ≡ codes "ok" → l < length c.links → Listens l c octets d
    → TakesLine l octets c text d
line_heard l octets c d text is there listens =
    let P : List ℕ → Type 0 = λ x. TakesLine l octets c x d in subst P (sym is) (answers.line_heard d there listens)

pub line_nowhere : (l : ℕ) (octets : List ℕ) (c : LinkSet) (text : List ℕ) → text ≡ answers.NO_LINK → length c.links ≤ l → TakesLine l octets c text c
line_nowhere l octets c text is past = let P : List ℕ → Type 0 = λ x. TakesLine l octets c x c in subst P (sym is) (answers.line_nowhere past)
