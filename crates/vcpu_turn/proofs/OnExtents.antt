-- The extents of a list that is not refused.
use Rattle.std.proofs.Common.{◌≡◌, ◌≢◌, ℕ, ◌+◌, ◌<◌, ◌≤◌, List, length, get_or, Option, Some, None, Ok, refl, arith}
use Rattle.std.proofs.lemmas.Bool.Decides.{nat_tests}
use Rattle.std.proofs.lemmas.Option.{slice_get-get_or}
use Rattle.xp_board.specs.Told.{PortValue}
use Rattle.reservations.specs.Extents.{Reserves}
use Rattle.reservations.specs.declared.extents.Extent.{Extent}
use Rattle.reservations.specs.declared.extents.Extent.TheVariants.{Populate}
use Rattle.vcpu_turn.specs.Extents.{block_at, deed_of, extent_at, extents_in, lines_by, mem_refusal}

module _ (command order : ℕ) (items : List ℕ) (k : ℕ) (checked : mem_refusal command order items ≡ None) (index : k < extents_in command items) where
  -- it is a command that there is
  deed_is : deed_of command ≢ 0 → deed_of command ≢ 1 → deed_of command ≡ 6
  deed_is no_increase no_decrease = grind (arith, nat_tests)

  within : deed_of command ≢ 0 → k < length items
  within no_increase = grind (arith, nat_tests)

  -- of one that neither increases nor decreases
  pub populates : deed_of command ≢ 0 → deed_of command ≢ 1 → extent_at command items k ≡ Some (Populate (get_or items k 0))
  populates no_increase no_decrease =
      let deed = deed_is no_increase no_decrease in
      let at = slice_get-get_or items k 0 (within no_increase) in
      rw (deed, at) refl

-- behind an extent the log has one line more where it was given a block
pub room_behind : {d size from to : ℕ} {x : Extent} {u w : PortValue} (command : ℕ) (items : List ℕ) (k : ℕ) → extent_at command items k ≡ Some x → (given : Option ℕ) → Reserves d size x from u to w (Ok given) → (begun len len' len'' : ℕ) →
    len' + lines_by command begun ≤ len + lines_by command k → len'' ≡ len' + length (block_at k given) → len'' + lines_by command begun ≤ len + lines_by command (k + 1)
room_behind command items k is given reserves begun len len' len'' room on = grind (arith, nat_tests)
