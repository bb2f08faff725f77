-- A call of one link's terminal.
use Rattle.std.proofs.Common.{◌≡◌, ℕ, ◌+◌, ◌-◌, ◌^◌, ◌≤◌, zero, suc, Option, List, [], ◌∷◌, ◌++◌, length, take, drop, Some, refl, sym, ap, ◌∙◌, subst, arith}
use Rattle.std.specs.Prelude.{min, slice_get}
use Rattle.resend_store.specs.declared.messages.Msu.{Msu}
use Rattle.link_group.specs.declared.gone.Gone.{Gone}
use Rattle.link_group.specs.declared.link.Link.{Link}
use Rattle.link_group.specs.Gone.{acknowledged, unsure, left_of}
use Rattle.link_group.specs.Links.{change}
use Rattle.link_group.specs.Doing.{AtLink, asked, came_by}
use Rattle.link_processes.specs.declared.commands.Command.{Command}
use Rattle.link_group.specs.Commanding.{cleared_at, Commanded, cleared_by}
use Rattle.link_group.specs.Set.{LinkSet}
use Rattle.link_group.specs.Placing.{table_if}
use Rattle.link_group.specs.Lines.{ByLink, ByCommand}
use Rattle.link_group.proofs.Live.{over, by_seen, by_seen_command}

-- the links were first `old`, then `new`, and were then checked
pub by_link : (did : Link → Link → Type 0) (l : ℕ) (c d : LinkSet) (old new mid new2 mid2 : List Link) (own peer unsure : ℕ) (accepted : List Msu) (gone gone2 : List Gone) (table table2 : List (Option ℕ))
    → c ≡ over own peer unsure accepted gone table old → d ≡ over own peer unsure accepted gone2 table2 mid2 → (at : AtLink did l old new) → mid ≡ new → mid2 ≡ new2 → new2 ≡ change mid l asked
    → table2 ≡ table_if (came_by (slice_get mid l)) new2 table → gone2 ≡ gone ++ acknowledged (left_of at.before at.after) → ByLink did l c d
by_link did l c d old new mid new2 mid2 own peer unsure accepted gone gone2 table table2 was is at same same2 links tables left =
    subst (λ (x : LinkSet). ByLink did l x d) (sym was)
    (subst (λ (x : LinkSet). ByLink did l (over own peer unsure accepted gone table old) x) (sym is)
    (by_seen did own peer unsure l accepted gone gone2 table table2 old new mid new2 mid2 at same same2 links tables left))

-- as `by_link`, for a command after which the cleared messages count as unsure
pub by_command : (command : Command) (l : ℕ) (c d : LinkSet) (old new mid new2 mid2 : List Link) (own peer was n count : ℕ) (accepted : List Msu) (gone gone2 : List Gone) (table table2 : List (Option ℕ))
    → c ≡ over own peer was accepted gone table old → d ≡ over own peer count accepted gone2 table2 mid2 → AtLink (Commanded command) l old new → mid ≡ new → mid2 ≡ new2 → new2 ≡ change mid l asked
    → table2 ≡ table_if (came_by (slice_get mid l)) new2 table → n ≡ length (cleared_at command (slice_get old l)) → count ≡ min (2 ^ 64 - 1) (was + n)
    → gone2 ≡ gone ++ unsure (cleared_at command (slice_get old l)) → ByCommand command l c d
by_command command l c d old new mid new2 mid2 own peer was n count accepted gone gone2 table table2 before is at same same2 links tables went counts left =
    subst (λ (x : LinkSet). ByCommand command l x d) (sym before)
    (subst (λ (x : LinkSet). ByCommand command l (over own peer was accepted gone table old) x) (sym is)
    (by_seen_command command own peer was n count l accepted gone gone2 table table2 old new mid new2 mid2 at same same2 links tables went counts left))

all-of : (n : ℕ) (xs rest : List Link) → length xs ≡ n → take n (xs ++ rest) ≡ xs
all-of zero [] rest e = refl
all-of zero (x ∷ xs) rest e = absurd (omega (arith, e))
all-of (suc n) [] rest e = absurd (omega (arith, e))
all-of (suc n) (x ∷ xs) rest e = ap (λ (ys : List Link). x ∷ ys) (all-of n xs rest (omega (arith, e)))

-- the items of a vector after a slice over all of it was written
pub written : (n : ℕ) (xs items : List Link) → length xs ≡ n → take n (xs ++ drop (length xs) items) ≡ xs
written n xs items e = all-of n xs (drop (length xs) items) e

-- how many items there are then
pub few_written : (n most : ℕ) (xs items : List Link) → length xs ≡ n → n ≤ most → length (take n (xs ++ drop (length xs) items)) ≤ most
few_written n most xs items e h = let size = ap (λ (ys : List Link). length ys) (written n xs items e) in omega (arith, size, e, h)

pub cleared_here : (command : Command) (ks : List Link) (l : ℕ) (was : Link) (n : ℕ) → slice_get ks l ≡ Some was → n ≡ length (cleared_by command was)
    → n ≡ length (cleared_at command (slice_get ks l))
cleared_here command ks l was n e is = is ∙ sym (ap (λ (o : Option Link). length (cleared_at command o)) e)
