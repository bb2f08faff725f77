-- Refused commands.
use Rattle.std.proofs.Common.{◌≡◌, ℕ, List, Option, Some, None, slice_set, refl, sym, ap, ◌∙◌, subst}
use Rattle.resend_store.specs.declared.messages.Msu.{Msu}
use Rattle.link_processes.specs.declared.commands.Command.{Command}
use Rattle.link_group.specs.declared.gone.Gone.{Gone}
use Rattle.link_group.specs.declared.commanding.CommandError.{CommandError}
use Rattle.link_group.specs.declared.commanding.CommandError.TheVariants as error
use Rattle.link_group.specs.declared.link.Link.{Link}
use Rattle.link_group.specs.Doing.{AtLink}
use Rattle.link_group.specs.Commanding.{Commands, Commanded, Barred, Refused, Lacks}
use Rattle.link_group.specs.Set.{LinkSet}
use Rattle.link_group.specs.Lines.{Alone, IsCommandError}
use Rattle.link_group.proofs.Live.{Live, over, live_same, refused_alone}
use Rattle.link_group.proofs.Numbered.{set_same}

alone : (did : Link → Link → Type 0) (l : ℕ) (c : LinkSet) (ks : List Link) → AtLink did l c.links ks → Alone did l c (record c { links = ks })
alone did l c ks at = record { links = ks; at = at; set = refl }

unchanged : (did : Link → Link → Type 0) (l : ℕ) (c : LinkSet) (ks : List Link) (at : AtLink did l c.links ks) → at.after ≡ at.before → ks ≡ c.links
unchanged did l c ks at same = at.links ∙ ap (slice_set c.links l) same ∙ set_same c.links l at.before at.there

same_set : (c : LinkSet) (ks : List Link) → ks ≡ c.links → record c { links = ks } ≡ c
same_set c ks e = ap (λ (xs : List Link). record c { links = xs }) e

error_at : (command : Command) (l : ℕ) (c : LinkSet) (ks : List Link) (f : CommandError) → AtLink (Commands command (Some f)) l c.links ks
    → IsCommandError command l c (record c { links = ks }) f
error_at command l c ks error.NoLink at = absurd at.was
error_at command l c ks error.Waiting at =
    let here : AtLink (Barred command) l c.links ks = record { before = at.before; there = at.there; after = at.after; links = at.links; was = at.was } in
    (alone (Barred command) l c ks here, same_set c ks (unchanged (Barred command) l c ks here here.was.same))
error_at command l c ks (error.Refused r) at =
    alone (Refused command r) l c ks (record { before = at.before; there = at.there; after = at.after; links = at.links; was = at.was })
error_at command l c ks error.NoMemory at =
    let here : AtLink (Lacks command) l c.links ks = record { before = at.before; there = at.there; after = at.after; links = at.links; was = at.was } in
    (alone (Lacks command) l c ks here, same_set c ks (unchanged (Lacks command) l c ks here here.was.same))

pub command_error : (command : Command) (l : ℕ) (c d : LinkSet) (ks new mid : List Link) (own peer unsure : ℕ) (accepted : List Msu) (gone : List Gone) (table : List (Option ℕ)) (f : CommandError)
    → d ≡ over own peer unsure accepted gone table mid → AtLink (Commands command (Some f)) l ks new → mid ≡ new → c ≡ over own peer unsure accepted gone table ks → IsCommandError command l c d f
command_error command l c d ks new mid own peer unsure accepted gone table f is at same was =
    let b : LinkSet = over own peer unsure accepted gone table ks in
    let whole : record b { links = new } ≡ d = ap (λ (xs : List Link). over own peer unsure accepted gone table xs) (sym same) ∙ sym is in
    subst (λ (x : LinkSet). IsCommandError command l x d f) (sym was)
    (subst (λ (x : LinkSet). IsCommandError command l b x f) whole (error_at command l b new f at))

pub commanded : (command : Command) (l : ℕ) (ks new : List Link) → AtLink (Commands command None) l ks new → AtLink (Commanded command) l ks new
commanded command l ks new at = record { before = at.before; there = at.there; after = at.after; links = at.links; was = at.was }

-- ---- a refused command of a set that a list of calls led to

error_live : (command : Command) (l : ℕ) (c d : LinkSet) (f : CommandError) → IsCommandError command l c d f → Live c → Live d
error_live command l c d error.NoLink is live = live_same c d is.1 live
error_live command l c d error.Waiting is live = live_same c d is.1 live
error_live command l c d (error.Refused r) is live = refused_alone command r l c d is live
error_live command l c d error.NoMemory is live = live_same c d is.1 live

pub live_error : (command : Command) (l own peer unsure : ℕ) (accepted : List Msu) (gone : List Gone) (table : List (Option ℕ)) (old new mid : List Link) (f : CommandError) → mid ≡ new → AtLink (Commands command (Some f)) l old new
    → Live (over own peer unsure accepted gone table old) → Live (over own peer unsure accepted gone table mid)
live_error command l own peer unsure accepted gone table old new mid f same at live =
    subst (λ (xs : List Link). Live (over own peer unsure accepted gone table xs)) (sym same)
    (error_live command l (over own peer unsure accepted gone table old) (over own peer unsure accepted gone table new) f (error_at command l (over own peer unsure accepted gone table old) new f at) live)
