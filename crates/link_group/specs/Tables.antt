-- The links of selections.
use Rattle.std.specs.Prelude.{ℕ, ◌==◌, ◌||◌, zero, suc, Bool, false, if◌then◌else◌, List, Option}
use Rattle.std.specs.Prelude.{Some, None, slice_get}
use Rattle.std.specs.List.{list_any}
use Rattle.group_changeover.specs.Sharing.{pick, link_of}
use Rattle.link_group.specs.declared.link.Link.{Link}
use Rattle.link_group.specs.OneLink.{is_changing, with_availability}
use Rattle.link_group.specs.Moving.{holds, holds_at}

abbrev pub changing_by : Option Link → Bool
changing_by None = false
changing_by (Some k) = is_changing k

abbrev pub changing_at : List Link → Option ℕ → Bool
changing_at ks None = false
changing_at ks (Some l) = changing_by (slice_get ks l)

unfoldable pub held_by_any : ℕ → List Link → Bool
held_by_any s ks = list_any (holds s) ks

-- the new link, if there is one, otherwise the old one
abbrev pub or_kept : Option ℕ → Option ℕ → Option ℕ
or_kept None was = was
or_kept (Some l) was = Some l

-- a selection keeps its link if that is in changeover or any link holds its messages; otherwise it
-- gets its link among these, if there are any
abbrev pub anew_on : List Link → List (Option ℕ) → List ℕ → ℕ → Option ℕ
anew_on ks ts ls s =
    if changing_at ks (link_of ts s) then link_of ts s
    else (if held_by_any s ks then link_of ts s else or_kept (pick ls s) (link_of ts s))

-- whether a selection would move whose link holds messages of it
abbrev pub stands_in_way : List Link → ℕ → Option ℕ → Option ℕ → Bool
stands_in_way ks s None new = false
stands_in_way ks s (Some l) None = holds_at s (slice_get ks l)
stands_in_way ks s (Some l) (Some t) = if t == l then false else holds_at s (slice_get ks l)

unfoldable pub in_way : List Link → List (Option ℕ) → List ℕ → ℕ → Bool
in_way ks ts ls s = stands_in_way ks s (link_of ts s) (pick ls s)

-- whether a test is true for some number below another
unfoldable pub any_below : (ℕ → Bool) → ℕ → Bool
any_below f zero = false
any_below f (suc n) = any_below f n || f n

abbrev pub forgiven : Link → Link
forgiven k = with_availability (record k.availability { failed = false }) k
