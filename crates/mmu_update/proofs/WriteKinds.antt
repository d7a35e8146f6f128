-- Why a write stops, by why its calls do.
use Rattle.std.proofs.Common.{◌≡◌, false, Result, Ok, Err, IfErr, refl}
use Rattle.xp_words.specs.declared.reply.Pause.TheVariants as pauses
use Rattle.xp_words.specs.declared.reply.Refusal.TheVariants as refusals
use Rattle.xp_words.specs.declared.reply.Stop.{Stop}
use Rattle.xp_words.specs.declared.reply.Stop.TheVariants.{Refused, Paused}
use Rattle.step_maker.proofs.Later.{IsUncounted}
use Rattle.entry_exchange.specs.Asking.{IsAcquireStop}
use Rattle.entry_locks.specs.Locks.{IsLockStop}
use Rattle.frame_types.specs.Taking.{IsTypeStop}
use Rattle.frame_words.specs.Refs.{IsRefStop}
use Rattle.level_release.specs.Asking.{is_due_stop}
use Rattle.mmu_update.specs.Elements.{IsWriteStop}

-- ---- an exchange
pub write_kinds : (answer : Result (Unit {0}) Stop) → IfErr answer IsAcquireStop → IfErr answer IsWriteStop
write_kinds (Ok done) is = tt
write_kinds (Err (Refused (refusals.NoFrame f))) is = tt
write_kinds (Err (Refused (refusals.WrongOwner f x))) is = tt
write_kinds (Err (Refused (refusals.OtherType f want x))) is = tt
write_kinds (Err (Refused (refusals.Reserved f i x))) is = tt
write_kinds (Err (Refused (refusals.CountFull f x))) is = tt
write_kinds (Err (Refused (refusals.Clock x))) is = tt
write_kinds (Err (Paused pauses.Due)) is = tt
write_kinds (Err (Paused (pauses.Lost place e x))) is = tt
write_kinds (Err (Paused (pauses.Busy f x))) is = tt
write_kinds (Err (Paused (pauses.Flush v stamp x))) is = tt
write_kinds (Err _) is = absurd is

-- ---- a reference
pub ref_kinds : (e : Stop) → IsRefStop e → IsWriteStop e
ref_kinds (Refused (refusals.NoFrame f)) is = tt
ref_kinds (Refused (refusals.WrongOwner f x)) is = tt
ref_kinds (Refused (refusals.CountFull f x)) is = tt
ref_kinds (Paused (pauses.Lost place e x)) is = tt
ref_kinds _ is = absurd is

-- ---- a lock
pub lock_kinds : (e : Stop) → IsLockStop e → IsWriteStop e × (is_due_stop e ≡ false) × IsUncounted e
lock_kinds (Paused (pauses.Lost place e x)) is = (tt, refl, tt)
lock_kinds (Paused (pauses.Busy f x)) is = (tt, refl, tt)
lock_kinds _ is = absurd is

-- ---- a type
pub type_kinds : (e : Stop) → IsTypeStop e → IsWriteStop e
type_kinds (Refused (refusals.OtherType f want x)) is = tt
type_kinds (Refused (refusals.Clock x)) is = tt
type_kinds (Paused (pauses.Lost place e x)) is = tt
type_kinds (Paused (pauses.Busy f x)) is = tt
type_kinds (Paused (pauses.Flush v stamp x)) is = tt
type_kinds _ is = absurd is
