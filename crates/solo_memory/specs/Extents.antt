-- What one extent comes to by one vCPU alone.
use Rattle.std.specs.Prelude.{◌≡◌, ℕ, zero, suc, ◌+◌, ◌-◌, List, [], ◌∷◌, Option, Some, None, Result, Ok, Err}
use Rattle.xp_words.specs.Machine.{Machine}
use Rattle.xp_words.specs.declared.reply.Stop.{Stop}
use Rattle.xp_words.specs.declared.reply.Stop.TheVariants.{Refused, Paused}
use Rattle.xp_board.specs.Told.{PortValue}
use Rattle.reservations.specs.Returning.{number_at}
use Rattle.reservations.specs.declared.extents.Extent.{Extent}
use Rattle.reservations.specs.declared.extents.Extent.TheVariants.{Decrease, Increase, Populate}
use Rattle.script_law.specs.Memory.{reserve, return_frame}
use Rattle.script_law.specs.Values.{Given, Line, Outcome, Solo, Whose, did, then_do}
use Rattle.solo_ports.specs.Coming.{IsRefusedSo}
use Rattle.solo_ports.specs.Standing.{Clean}

-- the line of a block that was given
abbrev pub line_of : ℕ → ℕ → Option ℕ → List Line
line_of call k (Some first) = Given call k first ∷ []
line_of call k None = []

-- done, as o is, with that line; nothing is left to be settled
pub record IsReservedSo (call k : ℕ) (w : PortValue) (given : Option ℕ) (o : Outcome) : Type 0 where
  pub fine : o.refusal ≡ None
  pub lines : o.lines ≡ line_of call k given
  pub clean : Clean w o.left

-- it is done or refused as o, and never paused
abbrev pub ComesExtent : ℕ → ℕ → PortValue → Outcome → Result (Option ℕ) Stop → Type 0
ComesExtent call k w o (Ok given) = IsReservedSo call k w given o
ComesExtent call k w o (Err (Refused r)) = IsRefusedSo w r o
ComesExtent call k w o (Err (Paused p)) = ⊥

-- the k frames of an extent from number `from` on are given back
unfoldable pub return_rest : Machine → ℕ → ℕ → ℕ → ℕ → Solo → Outcome
return_rest n d first from zero s = did s
return_rest n d first from (suc k) s = then_do (return_rest n d first from k s) (return_frame n d (number_at first (from + k)))

-- what is left to do of an extent of which `from` frames are given back; a block has no place within
abbrev pub reserve_from : Whose → ℕ → ℕ → ℕ → ℕ → Extent → Solo → Outcome
reserve_from w size call k from Increase s = reserve w size call k Increase s
reserve_from w size call k from (Populate gpfn) s = reserve w size call k (Populate gpfn) s
reserve_from w size call k from (Decrease first) s = return_rest w.machine w.domain first from (size - from) s
