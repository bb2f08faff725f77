use Rattle.std.proofs.Common.{◌≡◌, take}
use Rattle.sdl_unset.proofs.order.is_earlier.Given as goal

abbrev pub invariant-loop-place : goal.invariant-loop-place
invariant-loop-place l = take l.place l.path ≡ take l.place l.other
