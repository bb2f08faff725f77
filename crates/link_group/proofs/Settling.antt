-- The result of a diversion, and why it stopped.
use Rattle.std.proofs.Common.{◌≡◌, ℕ, List, Option, Some, None, length, map, ap, ◌∙◌}
use Rattle.std.specs.Prelude.{slice_get}
use Rattle.resend_store.specs.declared.messages.Msu.{Msu}
use Rattle.group_changeover.specs.declared.errors.DivertFault.{DivertFault}
use Rattle.group_changeover.specs.Sharing.{selections, link_of}
use Rattle.link_group.specs.declared.link.Link.{Link}
use Rattle.link_group.specs.Links.{change}
use Rattle.link_group.specs.Moving.{Diversion, Diverted, division, takers, hands_over, ends_on, ends_at, keeps_at}
use Rattle.link_group.specs.declared.ending.DivertError.TheVariants as error
use Rattle.link_group.specs.Diverting.{diverted, settled_by, settled, left_by, left_fault}

-- ---- messages taken from a hand

pub diverted_by : (ks : List Link) (ts : List (Option ℕ)) (l : ℕ) (ms : List Msu) (able : List ℕ) → able ≡ takers l ks → hands_over able l (division ks ts ms) ≡ diverted ks ts l ms
unfolding diverted
diverted_by ks ts l ms able is = ap (λ (ls : List ℕ). hands_over ls l (division ks ts ms)) is

pub left_none : (w : Diverted) → None ≡ w.fault → None ≡ left_fault w
left_none w e = ap (left_by w.at) e

pub left_some : (w : Diverted) (fault : DivertFault) (n m : ℕ) → Some fault ≡ w.fault → n ≡ m → m ≡ length w.at.rest → Some (error.Left fault n) ≡ left_fault w
left_some w fault n m e same is = ap (λ (x : ℕ). Some (error.Left fault x)) (same ∙ is) ∙ ap (left_by w.at) e

pub settled_whole : (ks links : List Link) (ts table : List (Option ℕ)) (l : ℕ) (ms : List Msu) (d : Diversion) → d ≡ (diverted ks ts l ms).at → None ≡ (diverted ks ts l ms).fault
    → links ≡ change d.links l ends_at → table ≡ map (λ s. ends_on (takers l ks) l (slice_get d.links l) (link_of d.table s) s) selections
    → (links ≡ (settled ks ts l ms).links) × (table ≡ (settled ks ts l ms).table)
settled_whole ks links ts table l ms d is fault links_are table_is =
    let same : settled_by (takers l ks) l d None ≡ settled ks ts l ms =
    ap (λ (x : Diversion). settled_by (takers l ks) l x None) is ∙ ap (settled_by (takers l ks) l (diverted ks ts l ms).at) fault in
    (links_are ∙ ap (λ (x : Diversion). x.links) same, table_is ∙ ap (λ (x : Diversion). x.table) same)

pub settled_part : (ks links : List Link) (ts table : List (Option ℕ)) (l : ℕ) (ms : List Msu) (d : Diversion) (f : DivertFault) → d ≡ (diverted ks ts l ms).at
    → Some f ≡ (diverted ks ts l ms).fault → links ≡ change d.links l (keeps_at d.rest) → table ≡ d.table
    → (links ≡ (settled ks ts l ms).links) × (table ≡ (settled ks ts l ms).table)
settled_part ks links ts table l ms d f is fault links_are table_is =
    let same : settled_by (takers l ks) l d (Some f) ≡ settled ks ts l ms =
    ap (λ (x : Diversion). settled_by (takers l ks) l x (Some f)) is ∙ ap (settled_by (takers l ks) l (diverted ks ts l ms).at) fault in
    (links_are ∙ ap (λ (x : Diversion). x.links) same, table_is ∙ ap (λ (x : Diversion). x.table) same)
