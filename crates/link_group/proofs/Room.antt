-- Ticks of a set, and lack of room.
use Rattle.std.proofs.Common.{◌≡◌, ℕ, List, Option, map, sym, ap, ◌∙◌, subst}
use Rattle.std.specs.Prelude.{All}
use Rattle.resend_store.specs.declared.messages.Msu.{Msu}
use Rattle.link_group.specs.declared.gone.Gone.{Gone}
use Rattle.link_group.specs.declared.link.Link.{Link}
use Rattle.link_group.specs.Ticking.{roomy, HasRoom, LacksRoom}
use Rattle.link_group.proofs.Passing.{all_roomy}
use Rattle.link_group.specs.Set.{LinkSet}
use Rattle.link_group.specs.Ticks.{NoRoom}
use Rattle.link_group.proofs.Live.{over}

pub no_room : (c d : LinkSet) (ks new mid : List Link) (own peer unsure : ℕ) (accepted : List Msu) (gone : List Gone) (table : List (Option ℕ)) → d ≡ over own peer unsure accepted gone table mid
    → LacksRoom ks new → mid ≡ new → c ≡ over own peer unsure accepted gone table ks → NoRoom c d
no_room c d ks new mid own peer unsure accepted gone table is lacks same was =
    let b : LinkSet = over own peer unsure accepted gone table ks in
    subst (λ (x : LinkSet). NoRoom x d) (sym was)
    (record { links = new; lacks = lacks; set = is ∙ ap (λ (xs : List Link). over own peer unsure accepted gone table xs) same })

pub room_on : (ks new now : List Link) → new ≡ map roomy ks → now ≡ new → All HasRoom now
room_on ks new now is same = subst (λ (xs : List Link). All HasRoom xs) (sym (same ∙ is)) (all_roomy ks)
