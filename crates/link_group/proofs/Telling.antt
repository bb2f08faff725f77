-- A message's number counts in a changeover that goes on, or begins by it, if none counts yet.
use Rattle.std.proofs.Common.{◌≡◌, ℕ, Bool, true, false, not, List, Option, Some, None, is_some, refl, ap, ◌∙◌}
use Rattle.std.specs.Prelude.{if◌then◌else◌, slice_get}
use Rattle.plain_laws.proofs.Truths.{and_first, and_second}
use Rattle.group_changeover.specs.declared.availability.Answer.{Answer}
use Rattle.group_changeover.specs.declared.availability.Answer.TheVariants as answer
use Rattle.group_changeover.specs.declared.availability.Availability.{Availability}
use Rattle.group_changeover.specs.declared.availability.Changing.{Changing}
use Rattle.group_changeover.specs.declared.changeover.Changeover.{Changeover}
use Rattle.group_changeover.specs.declared.changeover.Kind.{Kind}
use Rattle.group_changeover.specs.Availability.{told_by, told_in, told}
use Rattle.group_changeover.specs.Saying.{is_out, count_in, begun_by_message, answer_by, answer_after}
use Rattle.link_group.specs.declared.link.Link.{Link}
use Rattle.link_group.specs.Links.{change}
use Rattle.link_group.specs.Failing.{count_heard, hears}
use Rattle.link_group.specs.Set.{LinkSet}
use Rattle.link_group.specs.Changing.{is_for, after_message}
use Rattle.link_group.specs.Joined.{counted_in, counted_of, takes_number}
use Rattle.link_group.proofs.Getting.{change_here}

count_by : (n : Option ℕ) → count_in (Some (answer_by n)) ≡ n
count_by None = refl
count_by (Some n) = refl

told_so : (c : Changing) (r : Option (List ℕ)) (o : Option Answer) (a : Answer) → not (is_some r) ≡ true → not (is_some (count_in o)) ≡ true
    → counted_in (Some (told_by r a (record c { retrieval = r; answer = o }))) ≡ count_in (Some a)
told_so c (Some counts) o a free first = let f : false ≡ true = free in absurd (cc)
told_so c None None a free first = refl
told_so c None (Some answer.Unknown) a free first = refl
told_so c None (Some (answer.Accepted n)) a free first = let f : false ≡ true = first in absurd (cc)

told_then : (o : Option Changing) (a : Answer) → takes_number o ≡ true → counted_in (told_in o a) ≡ count_in (Some a)
told_then None a e = let f : false ≡ true = e in absurd (cc)
told_then (Some c) a e = told_so c c.retrieval c.answer a (and_first (not (is_out c)) (not (is_some (count_in c.answer))) e) (and_second (not (is_out c)) (not (is_some (count_in c.answer))) e)

answers_so : (m : Availability) (n : Option ℕ) → m.anew ≡ false → answer_after m n ≡ answer_by n
answers_so m n e = ap (λ (b : Bool). if◌then◌else◌ {A = Answer} b answer.Unknown (answer_by n)) e

marked_so : (what : Kind) (k : Link) → takes_number (begun_by_message what k.availability).changing ≡ true → k.availability.anew ≡ false → counted_of (Some (hears what k)) ≡ count_heard what k
marked_so what k counts anew =
    let m : Availability = k.availability in
    ap (λ (a : Answer). counted_in (told a (begun_by_message what m)).changing) (answers_so m (count_heard what k) anew)
    ∙ (told_then (begun_by_message what m).changing (answer_by (count_heard what k)) counts ∙ count_by (count_heard what k))

pub message_counts : (l : ℕ) (c : LinkSet) (m : Changeover) (k : Link) → slice_get c.links l ≡ Some k → takes_number (begun_by_message m.kind k.availability).changing ≡ true
    → k.availability.anew ≡ false → is_for c m ≡ true → m.label.sls ≡ l → counted_of (slice_get (after_message c (Some m)).links l) ≡ count_heard m.kind k
message_counts l c m k there counts anew ours label =
    let after : (after_message c (Some m)).links ≡ change c.links l (hears m.kind) =
    ap (λ (t : Bool). (if◌then◌else◌ {A = LinkSet} t (record c { links = change c.links m.label.sls (hears m.kind) }) c).links) ours ∙ ap (λ (i : ℕ). change c.links i (hears m.kind)) label in
    ap (λ (ks : List Link). counted_of (slice_get ks l)) after ∙ (ap counted_of (change_here (hears m.kind) c.links l (Some k) there) ∙ marked_so m.kind k counts anew)
